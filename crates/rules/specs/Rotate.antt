-- Document 01, "Rotate": a trace that ends in a loop is turned so that the loop is left by falling through.
use Rattle.std.specs.Prelude.{ℕ, ◌+◌, Bool, true, false, not, cond, ◌&&◌, ◌||◌, List, [], ◌∷◌, ◌++◌, map, eqb, leb, ltb, length, take, drop, Option, None, Some}
use Rattle.limits.specs.Limits.{blocks}
use Rattle.rules.specs.Lists.{keep, any, best, last_or, mem}
use Rattle.rules.specs.Graph.{Arm, Block, Graph, is_walking, block_at, entry, names}
use Rattle.rules.specs.Weights.{over_four_fifths}

-- "take the last block's heaviest arm, LAST on ties"
unfoldable pub back_arm : Block → Option Arm
unfolding best
back_arm b = best (λ (x y : Arm). leb x.weight y.weight) None b.arms

-- the blocks of a trace before block n, and those from it to the end
unfoldable pub lead_in : ℕ → List ℕ → List ℕ
lead_in n [] = []
lead_in n (x ∷ l) = elim (eqb x n) [ true ↦ [] | false ↦ x ∷ lead_in n l ]

-- the part of the trace "from target to end", where n is the target
unfoldable pub cycle : ℕ → List ℕ → List ℕ
cycle n [] = []
cycle n (x ∷ l) = elim (eqb x n) [ true ↦ x ∷ l | false ↦ cycle n l ]

-- "its target must be in the trace, not the last block, not the entry; 5 x arm > 4 x target weight; no walking block from target
-- to end"
unfoldable pub turns : Graph → ℕ → Arm → List ℕ → Bool
unfolding mem any block_at is_walking names entry cycle over_four_fifths
turns g last a trace =
    mem a.to trace && not (eqb a.to last) && not (names (entry g) a.to) && over_four_fifths a.weight (block_at g a.to).weight
    && not (any (λ (n : ℕ). is_walking (block_at g n).marks) (cycle a.to trace))

-- an arm that leaves the part, from its block at `index`
pub record WayOut : Type 0 where
  pub preferred : ℕ
  pub weight : ℕ
  pub index : ℕ

-- "prefer targets unlaid or starting an earlier trace (as turned), then weight, then first"
unfoldable pub worse : WayOut → WayOut → Bool
worse a b = ltb a.preferred b.preferred || (eqb a.preferred b.preferred && ltb a.weight b.weight)

-- "Among that part's blocks with at most two arms, an exit leaves the part"
unfoldable pub ways_out : Graph → (ℕ → Bool) → List ℕ → ℕ → List ℕ → List WayOut
unfolding keep mem block_at
ways_out g preferred part i [] = []
ways_out g preferred part i (n ∷ l) =
    let b = block_at g n in
    cond (leb (length b.arms) 2)
    (map (λ (a : Arm). record { preferred = cond (preferred a.to) 1 0; weight = a.weight; index = i }) (keep (λ (a : Arm). not (mem a.to part)) b.arms))
    []
    ++ ways_out g preferred part (i + 1) l

-- "The exit's block goes last by turning the part; with no exit nothing turns."
unfoldable pub turned : Graph → (ℕ → Bool) → List ℕ → List ℕ
unfolding ways_out best worse
turned g preferred part =
    elim (best worse None (ways_out g preferred part 0 part)) [ None ↦ part | Some w ↦ drop (w.index + 1) part ++ take (w.index + 1) part ]

-- the trace as it ends; `laid` holds its own blocks too, `starts` the first blocks of earlier traces alone
unfoldable pub rotate : Graph → List ℕ → List ℕ → List ℕ → List ℕ
unfolding turns turned lead_in cycle back_arm last_or block_at mem
rotate g laid starts trace =
    let last = last_or blocks trace in
    elim (back_arm (block_at g last)) [
      | None ↦ trace
      | Some a ↦ elim (turns g last a trace) [
        | false ↦ trace
        | true ↦
            lead_in a.to trace ++ turned g (λ (n : ℕ). not (mem n laid) || mem n starts) (cycle a.to trace)
      ]
    ]
