-- Document 01, "Records": a file is 16-byte records, no header; numbers little-endian.
use Rattle.std.specs.Prelude.{ℕ, zero, suc, ◌+◌, ◌*◌, ◌/◌, ◌%◌, Bool, false, cond, List, [], ◌∷◌, ◌++◌, eqb, ltb, length, get_or, take, drop}
use Rattle.limits.specs.Limits.{size, numbers, marks_below, ends_below}
use Rattle.rules.specs.declared.Record.{Record}
use Rattle.rules.specs.declared.Record.TheVariants.{Block, Arm, Outside}
use Rattle.rules.specs.Graph as graph
use Rattle.rules.specs.Graph.{Graph}

-- "numbers little-endian": the number that the k bytes of r from `at` on say
abbrev pub little : List ℕ → ℕ → ℕ → ℕ
little r at zero = 0
little r at (suc k) = get_or r at 0 + 256 * little r (suc at) k

-- the k bytes that say v
abbrev pub bytes_of : ℕ → ℕ → List ℕ
bytes_of zero v = []
bytes_of (suc k) v = v % 256 ∷ bytes_of k (v / 256)

-- ---- one record

-- "bytes 4 to 7 zero"
unfoldable pub gap_zero : List ℕ → Bool
gap_zero r = cond (eqb (get_or r 4 0) 0) (cond (eqb (get_or r 5 0) 0) (cond (eqb (get_or r 6 0) 0) (eqb (get_or r 7 0) 0) false) false) false

-- "Block: byte 0 = 1; byte 1 number 0 to 127; byte 2 marks; byte 3 end; bytes 4 to 7 zero; bytes 8 to 15 weight";
-- of the marks "7 zero on input", ends 0 to 6
unfoldable pub block_of : List ℕ → Record
block_of r =
    cond (ltb (get_or r 1 0) numbers)
    (cond (ltb (get_or r 2 0) marks_below)
    (cond (ltb (get_or r 3 0) ends_below) (Block (get_or r 1 0) (get_or r 2 0) (get_or r 3 0) (little r 8 8)) Outside)
    Outside)
    Outside

-- "Arm: byte 0 = 2; byte 1 from; byte 2 to; byte 3 = 1 if it carries arguments, else 0; bytes 4 to 7 zero; bytes 8 to 15 weight"
unfoldable pub arm_of : List ℕ → Record
arm_of r = cond (ltb (get_or r 3 0) 2) (Arm (get_or r 1 0) (get_or r 2 0) (get_or r 3 0) (little r 8 8)) Outside

-- what 16 bytes are: byte 0 says which
unfoldable pub record_of : List ℕ → Record
record_of r = cond (gap_zero r) (cond (eqb (get_or r 0 0) 1) (block_of r) (cond (eqb (get_or r 0 0) 2) (arm_of r) Outside)) Outside

-- the 16 bytes with these at 0 to 5 and this weight
unfoldable pub fields : ℕ → ℕ → ℕ → ℕ → ℕ → ℕ → ℕ → List ℕ
fields kind b1 b2 b3 b4 b5 weight = kind ∷ b1 ∷ b2 ∷ b3 ∷ b4 ∷ b5 ∷ 0 ∷ 0 ∷ bytes_of 8 weight

-- "Block: byte 0 = 1; byte 1 number 0 to 127; byte 2 marks; byte 3 end; bytes 4 to 7 zero; bytes 8 to 15 weight."
unfoldable pub block_bytes : graph.Block → List ℕ
block_bytes b = fields 1 (b.number % 256) b.marks b.end 0 0 b.weight

-- "Arm: byte 0 = 2; byte 1 from; byte 2 to; byte 3 = 1 if it carries arguments, else 0; bytes 4 to 7 zero; bytes 8 to 15 weight."
unfoldable pub arm_bytes : ℕ → graph.Arm → List ℕ
arm_bytes from a = fields 2 (from % 256) (a.to % 256) a.args 0 0 a.weight

-- ---- a file

-- record i
unfoldable pub record_at : List ℕ → ℕ → Record
record_at s i = record_of (take size (drop (size * i) s))

-- the records before record i, the last of them first
unfoldable pub before : List ℕ → ℕ → List Record
before s zero = []
before s (suc i) = record_at s i ∷ before s i

-- all records of a file, the last first
unfoldable pub records : List ℕ → List Record
records s = before s (length s / size)

-- ---- the graph of some records, the last first

-- an arm record as an arm that leaves block n
unfoldable pub leaving : ℕ → Record → List graph.Arm
leaving n (Block number marks end weight) = []
leaving n (Arm from to args weight) = cond (eqb n from) (record { to = to; args = args; weight = weight } ∷ []) []
leaving n Outside = []

-- the arms that leave block n, in file order
unfoldable pub arms_of : ℕ → List Record → List graph.Arm
arms_of n [] = []
arms_of n (r ∷ l) = arms_of n l ++ leaving n r

-- a block record as a block, with its arms by its number
unfoldable pub listing : (ℕ → List graph.Arm) → Record → List graph.Block
listing arms (Block number marks end weight) = record { number = number; marks = marks; end = end; weight = weight; arms = arms number } ∷ []
listing arms (Arm from to args weight) = []
listing arms Outside = []

-- the blocks of records, the last first, each with the arms that its number is given
unfoldable pub blocks_of : (ℕ → List graph.Arm) → List Record → Graph
blocks_of arms [] = []
blocks_of arms (r ∷ l) = blocks_of arms l ++ listing arms r

-- "Blocks come first, in listed order. Arms follow, in the listed order of their from-block"
unfoldable pub graph_of : List Record → Graph
graph_of l = blocks_of (λ n. arms_of n l) l

-- ---- writing back

-- "Blocks come first, in listed order."
unfoldable pub blocks_bytes : Graph → List ℕ
blocks_bytes [] = []
blocks_bytes (b ∷ g) = block_bytes b ++ blocks_bytes g

-- the arms of one block
unfoldable pub leaving_bytes : ℕ → List graph.Arm → List ℕ
leaving_bytes from [] = []
leaving_bytes from (a ∷ l) = arm_bytes from a ++ leaving_bytes from l

-- "Arms follow, in the listed order of their from-block"
unfoldable pub arms_bytes : Graph → List ℕ
arms_bytes [] = []
arms_bytes (b ∷ g) = leaving_bytes b.number b.arms ++ arms_bytes g

-- the file of a graph
unfoldable pub written : Graph → List ℕ
written g = blocks_bytes g ++ arms_bytes g
