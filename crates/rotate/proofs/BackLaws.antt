-- The heaviest arm of a block, the last on ties, arm by arm. Assumes nothing.
use Prim.Native.Nat.{ℕ, suc, ◌+◌, ◌-◌, ◌≤◌, ◌<◌}
use native.Mathlib.Omega.{arith}
use mathlib.Core.Path.{◌≡◌, refl, ap, ◌∙◌}
use mathlib.Core.Bool.{Bool}
use mathlib.Core.List.{◌∷◌}
use Rattle.std.specs.Prelude.{Option, None, Some}
use lib.Dec.{leb}
use lib.ListN.{get_or}
use borrow.Author.Tests.{le-leb, lt-leb}
use Rattle.rules.specs.Lists.{best}
use Rattle.rules.specs.Graph.{Arm}
use Rattle.rules.specs.Rotate.{back_arm}
use Rattle.records.specs.declared.Arms.{Arms}
use Rattle.records.specs.declared.Blocks.{Blocks}
use Rattle.records.specs.Tables.{arm_at, arms_from, leaves, block_at}

abbrev not_heavier : Arm → Arm → Bool
not_heavier x y = leb x.weight y.weight

module _ (a : Arms) where
  -- the first of the arms from place q up to e
  pub arms_next : (q e : ℕ) → q < e → arms_from a q (e - q) ≡ arm_at a q ∷ arms_from a (q + 1) (e - (q + 1))
  unfolding arms_from
  arms_next q e h = let m : e - q ≡ suc (e - (q + 1)) = omega arith in let k : suc q ≡ q + 1 = omega arith in
      ap (arms_from a q) m ∙ ap (λ (i : ℕ). arm_at a q ∷ arms_from a i (e - (q + 1))) k

  -- the heaviest of arm b and of those from place q up to e
  unfoldable pub heaviest : ℕ → ℕ → ℕ → Option Arm
  heaviest b q e = best not_heavier (Some (arm_at a b)) (arms_from a q (e - q))

  module _ (b q e : ℕ) (h : q < e) where
    pub later : get_or a.weight b 0 ≤ get_or a.weight q 0 → heaviest q (q + 1) e ≡ heaviest b q e
    unfolding heaviest best arm_at
    later k = rw (arms_next q e h, best, le-leb (get_or a.weight b 0) (get_or a.weight q 0) k)

    pub earlier : get_or a.weight q 0 < get_or a.weight b 0 → heaviest b (q + 1) e ≡ heaviest b q e
    unfolding heaviest best arm_at
    earlier k = rw (arms_next q e h, best, lt-leb (get_or a.weight b 0) (get_or a.weight q 0) k)

  pub heaviest_end : (b q e : ℕ) → e ≤ q → heaviest b q e ≡ Some (arm_at a b)
  unfolding heaviest best arms_from
  heaviest_end b q e h = let z : e - q ≡ 0 = omega arith in rw z refl

  module _ (of : Blocks) (n f e : ℕ) (ef : f ≡ get_or a.first n 0) (ee : e ≡ f + get_or a.count n 0) where
    pub back_none : f ≡ e → back_arm (block_at of a n) ≡ None
    unfolding back_arm block_at leaves arms_from best
    back_none h = let z : get_or a.count n 0 ≡ 0 = omega arith in rw z refl

    pub back_some : f < e → heaviest f (f + 1) e ≡ back_arm (block_at of a n)
    unfolding heaviest back_arm block_at leaves best
    back_some h =
        let z : e - f ≡ get_or a.count n 0 = omega arith in
        rw (← ef, ← z, arms_next f e h, best) refl

pub ruleset back_steps = (later, earlier, heaviest_end, back_none, back_some)
