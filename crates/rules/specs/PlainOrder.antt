-- Document 01, "Plain order": what is laid in place of traces when reordering is off, and what breaks ties between starts.
use Rattle.std.specs.Prelude.{ℕ, zero, suc, true, false, not, List, [], ◌∷◌, ◌++◌, reverse, length, None, Some}
use Rattle.rules.specs.Lists.{keep, foldl, mem}
use Rattle.rules.specs.Graph.{Graph, block_at, numbers_of, targets, entry}

-- the blocks seen, and those finished, the last first
pub record Walk : Type 0 where
  pub seen : List ℕ
  pub done : List ℕ

-- "Depth-first [..], last arm first": at most k blocks deep
unfoldable pub visit : Graph → ℕ → Walk → ℕ → Walk
unfolding mem foldl block_at targets
visit g zero w n = w
visit g (suc k) w n = elim (mem n w.seen) [
  | true ↦ w
  | false ↦
      let r = foldl (visit g k) (record { seen = n ∷ w.seen; done = w.done }) (reverse (targets (block_at g n))) in
      record { seen = r.seen; done = n ∷ r.done }
]

-- "from the entry [..]; reverse finishing order; then unreached blocks as listed"
unfoldable pub order : Graph → List ℕ
unfolding visit keep entry numbers_of mem
order g = elim (entry g) [
  | None ↦ numbers_of g
  | Some e ↦
      let w = visit g (length g) (record { seen = []; done = [] }) e in
      w.done ++ keep (λ (n : ℕ). not (mem n w.seen)) (numbers_of g)
]
