-- Document 01, "Join": the traces put one after the other.
use Rattle.std.specs.Prelude.{ℕ, zero, suc, ◌+◌, Bool, true, false, not, cond, ◌&&◌, ◌||◌, List, [], ◌∷◌, map, reverse, eqb, ltb, length, get_or, Option, None, Some}
use Rattle.limits.specs.Limits.{blocks}
use Rattle.rules.specs.Lists.{best, first_or, last_or, concat, mem}
use Rattle.rules.specs.Graph.{Arm, Graph, block_at, cold_at}

-- an arm to the first block of the trace with this index
pub record Link : Type 0 where
  pub weight : ℕ
  pub long : ℕ
  pub index : ℕ

-- "heaviest, then longer trace, then earlier"
unfoldable pub looser : Link → Link → Bool
looser a b =
    ltb a.weight b.weight || (eqb a.weight b.weight
    && (ltb a.long b.long || (eqb a.long b.long && ltb b.index a.index)))

-- the trace whose first block is n, the traces being counted from i
unfoldable pub starting_at : ℕ → ℕ → List (List ℕ) → Option Link
unfolding first_or
starting_at n i [] = None
starting_at n i (t ∷ l) = elim (eqb (first_or blocks t) n) [ true ↦ Some (record { weight = 0; long = length t; index = i }) | false ↦ starting_at n (i + 1) l ]

-- "the last block's arms to unused traces at their first block, same cold mark"
unfoldable pub links : Graph → List (List ℕ) → List ℕ → Bool → List Arm → List Link
unfolding starting_at mem cold_at
links g ts used cold [] = []
links g ts used cold (a ∷ l) =
    let r = links g ts used cold l in
    elim (starting_at a.to 0 ts) [
      | None ↦ r
      | Some k ↦
          cond (mem k.index used || (cold_at g a.to && not cold) || (not (cold_at g a.to) && cold)) r
          (record { weight = a.weight; long = k.long; index = k.index } ∷ r)
    ]

-- "heaviest, then longer trace, then earlier": the trace that follows, if any
unfoldable pub next_trace : Graph → List (List ℕ) → List ℕ → ℕ → Option Link
unfolding links best looser last_or block_at cold_at
next_trace g ts used i =
    let n = last_or blocks (get_or ts i []) in
    best looser None (links g ts used (cold_at g n) (block_at g n).arms)

-- "follow": the indices of the traces used, the last first, when trace i is laid and what follows it
unfoldable pub follow : Graph → List (List ℕ) → ℕ → List ℕ → ℕ → List ℕ
unfolding next_trace
follow g ts zero used i = i ∷ used
follow g ts (suc k) used i = elim (next_trace g ts (i ∷ used) i) [ None ↦ i ∷ used | Some e ↦ follow g ts k (i ∷ used) e.index ]

-- "From each unused trace in turn"
unfoldable pub connect_from : Graph → List (List ℕ) → List ℕ → ℕ → List (List ℕ) → List ℕ
unfolding follow mem
connect_from g ts used i [] = used
connect_from g ts used i (t ∷ l) = connect_from g ts (elim (mem i used) [ true ↦ used | false ↦ follow g ts (length ts) used i ]) (i + 1) l

-- the traces in the order that they are joined, as one list of blocks
unfoldable pub connect : Graph → List (List ℕ) → List ℕ
unfolding connect_from concat
connect g ts = concat (map (λ (i : ℕ). get_or ts i []) (reverse (connect_from g ts [] 0 ts)))
