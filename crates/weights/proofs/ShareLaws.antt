-- A product by quotient and remainder, and tests that say the same of it. Assumes nothing.
use Prim.Native.Nat.{ℕ, zero, suc, ◌+◌, ◌-◌, ◌*◌, ◌/◌, ◌%◌, ◌≤◌, ◌<◌, min}
use native.Mathlib.Nat.{div-add-mod', add-mul, mul_comm, mul_right_comm, mul-le-mul_left, le-div_iff_mul-le, div-lt_iff_lt-mul, mul-add-div_right}
use native.Mathlib.Omega.{arith}
use mathlib.Core.Path.{◌≡◌, refl, ap, sym, ◌∙◌}
use mathlib.Core.Bool.{Bool, true, false}
use lib.Dec.{T, leb, eqb, ltb, leb→le, le→leb, ltb→lt, lt→ltb, eqb-suc-zero, leb-suc-zero}
use Rattle.lists.proofs.Choices.{same_test}
use Rattle.rules.specs.Weights.{scale, largest, share, floor, over_four_fifths}

parts : (x k : ℕ) → x * k ≡ x / scale * k * scale + x % scale * k
parts x k =
    ap (λ (y : ℕ). y * k) (sym (div-add-mod' x scale))
    ∙ add-mul (x / scale * scale) (x % scale) k
    ∙ ap (λ (y : ℕ). y + x % scale * k) (mul_right_comm (x / scale) scale k)

leb_same : (a b c d : ℕ) → (a ≤ b → c ≤ d) → (c ≤ d → a ≤ b) → leb a b ≡ leb c d
leb_same a b c d f g = same_test (leb a b) (leb c d) (λ t. le→leb c d (f (leb→le a b t))) (λ t. le→leb a b (g (leb→le c d t)))

ltb_same : (a b c d : ℕ) → (a < b → c < d) → (c < d → a < b) → ltb a b ≡ ltb c d
ltb_same a b c d f g = same_test (ltb a b) (ltb c d) (λ t. lt→ltb c d (f (ltb→lt a b t))) (λ t. lt→ltb a b (g (ltb→lt c d t)))

-- ---- four fifths
pub fifths_are : (a t : ℕ) → ltb (4 * (t / 5) + 4 * (t % 5) / 5) a ≡ over_four_fifths a t
unfolding over_four_fifths
fifths_are a t = ltb_same (4 * (t / 5) + 4 * (t % 5) / 5) a (4 * t) (5 * a) (λ h. omega (arith, h)) (λ h. omega (arith, h))

-- ---- floors, and whether a share is at least so much
-- a whole of 0 has no share but 0
pub none_is : (w k : ℕ) → eqb k 0 ≡ leb k (share w 0)
unfolding share
none_is w zero = refl
none_is w (suc k) = eqb-suc-zero k ∙ sym (leb-suc-zero k)

module _ (x k : ℕ) (h : k ≤ scale) where
  pub quotient : x / scale * k ≤ x / scale * scale
  quotient = mul-le-mul_left (x / scale) h

  pub remainder : x % scale * k ≤ x % scale * scale
  remainder = mul-le-mul_left (x % scale) h

  pub floor_is : x / scale * k + x % scale * k / scale ≡ floor x k
  unfolding floor
  floor_is = omega (arith, parts x k)

  pub share_is : (w : ℕ) → (x ≡ 0 → ⊥) → leb (x / scale * k + (x % scale * k + (scale - 1)) / scale) w ≡ leb k (share w x)
  unfolding share
  share_is w ne = go x ne (parts x k)
    where
      go : (y : ℕ) → (y ≡ 0 → ⊥) → y * k ≡ x / scale * k * scale + x % scale * k → leb (x / scale * k + (x % scale * k + (scale - 1)) / scale) w ≡ leb k (share w y)
      go zero ne e = absurd (ne refl)
      go (suc y) ne e =
          let i = le-div_iff_mul-le {k = suc y} {x = k} {y = w * scale} (omega arith) in
          leb_same (x / scale * k + (x % scale * k + (scale - 1)) / scale) w k (min (w * scale / suc y) largest)
          (λ l. let j : k * suc y ≤ w * scale = omega (arith, e, mul_comm k (suc y)) in omega (arith, i.1 j))
          (λ l. let j : k ≤ w * scale / suc y = omega arith in omega (arith, e, mul_comm k (suc y), i.0 j))

-- ---- the share as a number
pub part_below : (r x : ℕ) → r < x → r * scale / x < scale
part_below r x h = (div-lt_iff_lt-mul {k = x} {x = r * scale} {y = scale} (omega (arith, h))).1 (omega (arith, h))

-- of less than the whole the share is not cut
pub part_share : (r x : ℕ) → r < x → share r x ≡ r * scale / x
unfolding share
part_share r zero h = absurd (omega (arith, h))
part_share r (suc x) h = omega (arith, part_below r (suc x) h)

pub zero_share : (w : ℕ) → 0 ≡ share w 0
unfolding share
zero_share w = refl

by_parts : (w x : ℕ) → 0 < x → w * scale / x ≡ w / x * scale + w % x * scale / x
by_parts w x h =
    ap (λ (y : ℕ). y * scale / x) (sym (div-add-mod' w x))
    ∙ ap (λ (y : ℕ). y / x) (add-mul (w / x * x) (w % x) scale ∙ ap (λ (y : ℕ). y + w % x * scale) (mul_right_comm (w / x) x scale))
    ∙ mul-add-div_right h (w / x * scale) (w % x * scale)

pub share_parts : (w x : ℕ) → (x ≡ 0 → ⊥) → share w x ≡ min (w / x * scale + w % x * scale / x) largest
unfolding share
share_parts w zero h = absurd (h refl)
share_parts w (suc x) h = ap (λ (y : ℕ). min y largest) (by_parts w (suc x) (omega arith))
