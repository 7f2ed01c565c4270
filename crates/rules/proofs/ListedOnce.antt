-- THEOREM listed_once: in the laid list each block of the graph stands exactly once, each bridge exactly once, and nothing else.
-- Assumes nothing.
use Prim.Native.Nat.{ℕ, ◌+◌, ◌≤◌, ◌<◌}
use native.Mathlib.Omega.{arith}
use mathlib.Core.Path.{◌≡◌, sym, ap, ◌∙◌, subst}
use mathlib.Core.Bool.{Bool, true, false}
use mathlib.Core.List.{List}
use lib.Dec.{not_T}
use Rattle.limits.specs.Limits.{numbers}
use Rattle.lists.proofs.Choices.{split_lt}
use Rattle.rules.specs.Lists.{mem, range}
use Rattle.rules.specs.Graph.{Graph, numbers_of}
use Rattle.rules.specs.Exits.{bridges, lay}
use Rattle.rules.specs.Laid.{ordered, readied, layout}
use Rattle.rules.proofs.Membership.{In, mem→}
use Rattle.rules.proofs.Counting.{count, range_below, range_once, range_above, Once, count_zero, In→count, count→In}
use Rattle.rules.proofs.Wholeness.{block_in, Listed}
use Rattle.rules.proofs.PlainOnce.{plain_once}
use Rattle.rules.proofs.JoinOnce.{joined_once}
use Rattle.rules.proofs.Written.{numbers_in, lay_blocks, lay_bridges, partition_count, places_count}
use Rattle.rules.proofs.Forwarded.{readied_numbers, readied_whole}
use Rattle.rules.proofs.AcceptedGraph.{Sound}

module _ (g : Graph) (d : Sound g) where
  pub twice_none : (f : Bool) → Once (numbers_of (readied f g))
  twice_none f m = rw (readied_numbers f g) (d.once m)

  pub ordered_count : (f r : Bool) (n : ℕ) → count n (ordered r (readied f g)) ≡ count n (numbers_of g)
  unfolding ordered
  ordered_count f true n = joined_once (readied f g) (readied_whole f g d.whole) (twice_none f) n ∙ ap (count n) (readied_numbers f g)
  ordered_count f false n = plain_once (readied f g) (readied_whole f g d.whole) (twice_none f) n ∙ ap (count n) (readied_numbers f g)

  pub ordered_listed : (f r : Bool) → Listed (readied f g) (ordered r (readied f g))
  ordered_listed f r n i =
      (block_in (readied f g) n
      (subst (λ (l : List ℕ). In n l) (sym (readied_numbers f g)) (count→In n (numbers_of g) (omega (arith, ordered_count f r n, In→count n (ordered r (readied f g)) i))))).1

  -- how often a number stands: as often as it is listed, and once if it is a bridge's
  laid_count : (f r : Bool) (n : ℕ) → count n (numbers_in (layout f r g)) ≡ count n (numbers_of g) + count n (range numbers (bridges (layout f r g)))
  unfolding layout
  laid_count f r n =
      let t = readied f g in
      let p = ordered r t in
      omega (
        arith,
        places_count (lay t p) n,
        ap (count n) (lay_blocks t p (ordered_listed f r)),
        partition_count t p n,
        ordered_count f r n,
        ap (count n) (lay_bridges t p),
      )

  module _ (f r : Bool) where
    none_high : (n : ℕ) → numbers ≤ n → count n (numbers_of g) ≡ 0
    none_high n h = count_zero n (numbers_of g) (not_T (mem n (numbers_of g)) (λ t. omega (arith, d.low n (mem→ n (numbers_of g) t))))

    -- a block of the graph
    pub blocks_once : (n : ℕ) → n < numbers → count n (numbers_in (layout f r g)) ≡ count n (numbers_of g)
    blocks_once n h = omega (arith, laid_count f r n, range_below numbers (bridges (layout f r g)) n h)

    -- a bridge
    pub bridges_once : (n : ℕ) → numbers ≤ n → n < numbers + bridges (layout f r g) → count n (numbers_in (layout f r g)) ≡ 1
    bridges_once n h k = omega (arith, laid_count f r n, none_high n h, range_once numbers (bridges (layout f r g)) n h k)

    -- nothing else
    pub others_none : (n : ℕ) → numbers + bridges (layout f r g) ≤ n → count n (numbers_in (layout f r g)) ≡ 0
    others_none n h = omega (arith, laid_count f r n, none_high n (omega (arith, h)), range_above numbers (bridges (layout f r g)) n h)

    -- so no number stands twice
    pub listed_once : Once (numbers_in (layout f r g))
    listed_once n =
        split_lt n numbers
        (λ h. omega (arith, blocks_once n h, d.once n))
        (λ h. split_lt n (numbers + bridges (layout f r g)) (λ k. omega (arith, bridges_once n h k)) (λ k. omega (arith, others_none n k)))
