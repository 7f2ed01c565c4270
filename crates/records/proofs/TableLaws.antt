-- The arms and blocks that stand in the tables. Assumes nothing.
use Prim.Native.Nat.{ℕ, zero, suc, ◌+◌, ◌≤◌, ◌<◌}
use native.Mathlib.Nat.{add-zero}
use native.Mathlib.Omega.{arith}
use mathlib.Core.Path.{◌≡◌, refl, sym, ap, ◌∙◌}
use mathlib.Core.List.{List, [], ◌∷◌, ◌++◌}
use lib.ListN.{length, get_or, length-append}
use Rattle.rules.specs.Graph as graph
use Rattle.records.specs.declared.Blocks.{Blocks}
use Rattle.records.specs.declared.Arms.{Arms}
use Rattle.records.specs.Tables.{arm_at, arms_from, leaves, up_to}

module _ (a b : Arms) (j : ℕ) (same : (q : ℕ) → q < j → arm_at a q ≡ arm_at b q) where
  pub arms_kept : (c f : ℕ) → f + c ≤ j → arms_from a f c ≡ arms_from b f c
  unfolding arms_from
  arms_kept zero f h = refl
  arms_kept (suc c) f h =
      ap (λ (x : graph.Arm). x ∷ arms_from a (suc f) c) (same f (omega (arith, h)))
      ∙ ap (λ (l : List graph.Arm). arm_at b f ∷ l) (arms_kept c (suc f) (omega (arith, h)))

pub arms_more : (a : Arms) (c f : ℕ) → arms_from a f (suc c) ≡ arms_from a f c ++ (arm_at a (f + c) ∷ [])
unfolding arms_from
arms_more a zero f = ap (λ (q : ℕ). arm_at a q ∷ []) (sym (add-zero f))
arms_more a (suc c) f =
    let e : suc f + c ≡ f + suc c = omega arith in
    ap (λ (l : List graph.Arm). arm_at a f ∷ l) (arms_more a c (suc f) ∙ ap (λ (q : ℕ). arms_from a (suc f) c ++ (arm_at a q ∷ [])) e)

-- a block with arms has some
pub some_arms : (a : Arms) (n : ℕ) → leaves a n ≡ [] → get_or a.count n 0 ≡ 0
unfolding leaves arms_from
some_arms a n e = go (get_or a.count n 0) e
  where
    go : (c : ℕ) → arms_from a (get_or a.first n 0) c ≡ [] → c ≡ 0
    go zero e = refl
    go (suc c) e = let z : ◌≡◌ {A = ℕ} 0 1 = cc in absurd (omega arith)

pub arms_count : (a : Arms) (f c : ℕ) → length (arms_from a f c) ≡ c
unfolding arms_from
arms_count a f zero = refl
arms_count a f (suc c) = ap suc (arms_count a (suc f) c)

pub leaves_count : (a : Arms) (n : ℕ) → length (leaves a n) ≡ get_or a.count n 0
unfolding leaves
leaves_count a n = arms_count a (get_or a.first n 0) (get_or a.count n 0)

pub up_to_length : (b : Blocks) (a : Arms) (i : ℕ) → length (up_to b a i) ≡ i
unfolding up_to
up_to_length b a zero = refl
up_to_length b a (suc i) = simp length-append (omega (arith, up_to_length b a i))
