-- The graph that document 01's rules speak of: the blocks as listed, each with the arms that leave it, in their order.
use Rattle.std.specs.Prelude.{ℕ, ◌/◌, ◌%◌, ◌^◌, Bool, true, false, List, [], ◌∷◌, map, eqb, Option, None, Some}
use Rattle.limits.specs.Limits.{blocks}
use Rattle.rules.specs.Lists.{find}

-- an arm of the block that it stands in: "to", "1 if it carries arguments, else 0", "weight"
pub record Arm : Type 0 where
  pub to : ℕ
  -- 1 if it carries arguments, else 0
  pub args : ℕ
  pub weight : ℕ

-- "number", "marks", "end", "weight", and its arms in listed order
pub record Block : Type 0 where
  pub number : ℕ
  pub marks : ℕ
  pub end : ℕ
  pub weight : ℕ
  pub arms : List Arm

abbrev pub Graph : Type 0
Graph = List Block

-- "Marks by bit": bit k of some marks
unfoldable pub bit : ℕ → ℕ → Bool
bit k marks = eqb (marks / 2 ^ k % 2) 1

-- "0 entry"
unfoldable pub is_entry : ℕ → Bool
unfolding bit
is_entry marks = bit 0 marks

-- "1 cold"
unfoldable pub is_cold : ℕ → Bool
unfolding bit
is_cold marks = bit 1 marks

-- "2 dead end"
unfoldable pub is_dead : ℕ → Bool
unfolding bit
is_dead marks = bit 2 marks

-- "3 parameters"
unfoldable pub has_parameters : ℕ → Bool
unfolding bit
has_parameters marks = bit 3 marks

-- "4 named or landing pad"
unfoldable pub is_named : ℕ → Bool
unfolding bit
is_named marks = bit 4 marks

-- "5 named by an instruction's address"
unfoldable pub is_addressed : ℕ → Bool
unfolding bit
is_addressed marks = bit 5 marks

-- "6 walking"
unfoldable pub is_walking : ℕ → Bool
unfolding bit
is_walking marks = bit 6 marks

-- ---- a graph by its numbers

-- no block has this number
unfoldable pub no_block : Block
no_block = record { number = blocks; marks = 0; end = 0; weight = 0; arms = [] }

-- block n
unfoldable pub block_at : Graph → ℕ → Block
unfolding no_block find
block_at g n = find (λ (b : Block). eqb b.number n) no_block g

-- block n is cold
unfoldable pub cold_at : Graph → ℕ → Bool
unfolding block_at is_cold
cold_at g n = is_cold (block_at g n).marks

-- the numbers of the blocks, as listed
unfoldable pub numbers_of : Graph → List ℕ
numbers_of g = map (λ (b : Block). b.number) g

-- where the arms of a block go
unfoldable pub targets : Block → List ℕ
targets b = map (λ (a : Arm). a.to) b.arms

-- "There may be no entry."
unfoldable pub entry : Graph → Option ℕ
unfolding is_entry
entry [] = None
entry (b ∷ g) = elim (is_entry b.marks) [ true ↦ Some b.number | false ↦ entry g ]

-- the block that this may be is block n
unfoldable pub names : Option ℕ → ℕ → Bool
names None n = false
names (Some m) n = eqb m n

-- the block with these arms in place of its own
unfoldable pub with_arms : Block → List Arm → Block
with_arms b arms = record { number = b.number; marks = b.marks; end = b.end; weight = b.weight; arms = arms }
