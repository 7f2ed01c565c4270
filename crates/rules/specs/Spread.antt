-- Document 01, "Spread": what only cold blocks lead to is cold.
use Prim.Native.Nat.{ℕ, zero, suc, ◌+◌}
use Rattle.std.specs.Prelude.{Bool, not, ◌&&◌, ◌||◌, List, map, eqb, length, Option, None, Some}
use Rattle.std.proofs.Math.Bool.{true, false}
use Rattle.rules.specs.Lists.{keep, all, mem}
use Rattle.rules.specs.Graph.{Block, Graph, is_cold, cold_at, numbers_of, targets, entry, names}

-- ---- "the least set": sweeps over all numbers until nothing joins

module _ (everything : List ℕ) (joins : List ℕ → ℕ → Bool) where
  -- one sweep
  unfoldable pub grown : List ℕ → List ℕ
  unfolding keep mem
  grown s = keep (λ (b : ℕ). mem b s || joins s b) everything

  -- at most k sweeps
  unfoldable pub close : ℕ → List ℕ → List ℕ
  unfolding grown all mem
  close zero s = s
  close (suc k) s = let t = grown s in elim (all (λ (b : ℕ). mem b s) t) [ true ↦ s | false ↦ close k t ]

  -- each sweep but the last takes one more in, so there are enough
  unfoldable pub least : List ℕ → List ℕ
  unfolding close
  least s = close (length everything) s

-- ---- the cold set

-- the blocks with an arm to block n: its ways in
unfoldable pub ways_in : Graph → ℕ → List ℕ
unfolding keep mem targets
ways_in g n = map (λ (b : Block). b.number) (keep (λ (b : Block). mem n (targets b)) g)

-- "every non-entry block with at least one way in and all ways in inside the set"
unfoldable pub shut_in : Graph → Option ℕ → List ℕ → ℕ → Bool
unfolding ways_in mem all names
shut_in g e s n = let i = ways_in g n in not (names e n) && not (eqb (length i) 0) && all (λ (m : ℕ). mem m s) i

-- "the least set holding the cold blocks and [those]"
unfoldable pub cold_from : Graph → Option ℕ → List ℕ → List ℕ
unfolding shut_in least numbers_of
cold_from g e s = least (numbers_of g) (shut_in g e) s

-- the blocks that are cold as read
unfoldable pub cold_blocks : Graph → List ℕ
unfolding keep is_cold
cold_blocks g = map (λ (b : Block). b.number) (keep (λ (b : Block). is_cold b.marks) g)

-- "a warm entry"
unfoldable pub warm_entry : Graph → Bool
unfolding entry cold_at
warm_entry g = elim (entry g) [ None ↦ false | Some e ↦ not (cold_at g e) ]

-- "Only with a warm entry and some cold block"
unfoldable pub spreads : Graph → Bool
unfolding warm_entry cold_blocks
spreads g = warm_entry g && not (eqb (length (cold_blocks g)) 0)

-- the cold blocks after spreading: as read where nothing spreads
unfoldable pub cold_set : Graph → List ℕ
unfolding spreads cold_blocks cold_from entry
cold_set g = elim (spreads g) [ true ↦ cold_from g (entry g) (cold_blocks g) | false ↦ cold_blocks g ]

-- mark 1 for a block of the set
unfoldable pub chilled : List ℕ → Block → Block
unfolding mem is_cold
chilled s b = elim (mem b.number s && not (is_cold b.marks)) [
  | false ↦ b
  | true ↦
      record { number = b.number; marks = b.marks + 2; end = b.end; weight = b.weight; arms = b.arms }
]

-- the graph with them marked
unfoldable pub spread : Graph → Graph
unfolding cold_set chilled
spread g = let s = cold_set g in map (chilled s) g
