-- Document 01, "Refusal numbers": the table, in the order in which it is looked through. Each line is a condition on a record
-- and those before it (the last of them first); the first that holds gives the number and the record.
use Rattle.std.specs.Prelude.{ℕ, suc, ◌%◌, ◌≡◌, Bool, true, false, not, cond, ◌&&◌, ◌||◌, List, [], ◌∷◌, ◌++◌, eqb, ltb, leb, length}
use Rattle.limits.specs.Limits.{size, most_bytes, most_arms}
use Rattle.rules.specs.declared.Record.{Record}
use Rattle.rules.specs.declared.Record.TheVariants.{Block, Arm, Outside}
use Rattle.rules.specs.Graph.{Graph, is_entry}
use Rattle.rules.specs.Records.{records, graph_of}

-- ---- what the records before a record say

-- where block n is listed, counted from 1; 0 where it is not listed
unfoldable pub place_of : ℕ → List Record → ℕ
place_of n [] = 0
place_of n (Block number marks end weight ∷ l) = cond (eqb n number) (suc (length l)) (place_of n l)
place_of n (Arm from to args weight ∷ l) = place_of n l
place_of n (Outside ∷ l) = place_of n l

-- where the block with the entry mark is listed, likewise
unfoldable pub entry_of : List Record → ℕ
entry_of [] = 0
entry_of (Block number marks end weight ∷ l) = cond (is_entry marks) (suc (length l)) (entry_of l)
entry_of (Arm from to args weight ∷ l) = entry_of l
entry_of (Outside ∷ l) = entry_of l

-- how many arms there are
unfoldable pub arm_count : List Record → ℕ
arm_count [] = 0
arm_count (Block number marks end weight ∷ l) = arm_count l
arm_count (Arm from to args weight ∷ l) = suc (arm_count l)
arm_count (Outside ∷ l) = arm_count l

-- where the from-block of the last arm is listed, likewise
unfoldable pub last_of : List Record → ℕ
last_of [] = 0
last_of (Block number marks end weight ∷ l) = last_of l
last_of (Arm from to args weight ∷ l) = place_of from l
last_of (Outside ∷ l) = last_of l

-- the number is that of a block among the records
unfoldable pub listed : ℕ → List Record → Bool
listed n l = ltb 0 (place_of n l)

-- ---- the table

-- a line of the table at a record: the number, the record's index, and whether the line holds there
pub record Check : Type 0 where
  pub number : ℕ
  pub place : ℕ
  pub holds : Bool

abbrev pub check : ℕ → ℕ → Bool → Check
check number place holds = record { number = number; place = place; holds = holds }

-- "blocks by 3, 4, 5, 6; arms by 3, 7, 4, 8"
unfoldable pub record_checks : List Record → Record → List Check
record_checks l (Block number marks end weight) =
    -- "a block after an arm"
    check 4 (length l) (ltb 0 (arm_count l))
    -- "block number listed before"
    ∷ check 5 (length l) (listed number l)
    -- "second entry mark"
    ∷ check 6 (length l) (is_entry marks && ltb 0 (entry_of l))
    ∷ []
record_checks l (Arm from to args weight) =
    -- "from or to not listed before this record"
    check 7 (length l) (not (listed from l && listed to l))
    -- "an arm whose from-block is listed before the last arm's"
    ∷ check 4 (length l) (ltb (place_of from l) (last_of l))
    -- "385th arm"
    ∷ check 8 (length l) (leb most_arms (arm_count l))
    ∷ []
record_checks l Outside =
    -- "a field outside the layout above"
    check 3 (length l) true
    ∷ []

-- "records in file order"
unfoldable pub all_checks : List Record → List Check
all_checks [] = []
all_checks (r ∷ l) = all_checks l ++ record_checks l r

-- "two arms with end 0 or 1; three or more with end 0, 1, 2 or 6 (the Rust panics)"
unfoldable pub too_many : ℕ → ℕ → Bool
too_many end arms = (eqb arms 2 && ltb end 2) || (leb 3 arms && (ltb end 3 || eqb end 6))

-- "Then 9 for the first such listed block": a block's record has the index of its listed place, from 0
unfoldable pub panic_checks : ℕ → Graph → List Check
panic_checks i [] = []
panic_checks i (b ∷ g) = check 9 i (too_many b.end (length b.arms)) ∷ panic_checks (suc i) g

-- "1, then 2, then records in file order [..] Then 9"
unfoldable pub checks : List ℕ → List Check
checks s =
    -- "length over 8,192"
    check 1 0 (ltb most_bytes (length s))
    -- "length not a multiple of 16"
    ∷ check 2 0 (not (eqb (length s % size) 0))
    ∷ (all_checks (records s) ++ panic_checks 0 (graph_of (records s)))

-- none of these lines holds
abbrev pub Clear : List Check → Type 0
Clear [] = Unit
Clear (c ∷ l) = (c.holds ≡ false) × Clear l

-- ---- the verdict

-- the number of a refusal and the record that it names; number 0 where nothing is refused
pub record Verdict : Type 0 where
  pub number : ℕ
  pub place : ℕ

-- nothing is refused
unfoldable pub fine : Verdict
fine = record { number = 0; place = 0 }

-- the first line that holds
unfoldable pub first : List Check → Verdict
first [] = fine
first (c ∷ l) = cond c.holds (record { number = c.number; place = c.place }) (first l)

-- the refusal of a file, 1 to 9, or none
unfoldable pub verdict : List ℕ → Verdict
verdict s = first (checks s)
