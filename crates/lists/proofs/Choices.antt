-- Choices and cases, taken apart. Assumes nothing.
use Prim.Native.Nat.{ℕ, zero, suc, ◌<◌, ◌≤◌}
use native.Mathlib.Nat.{lt_of_not-le}
use native.Mathlib.Decide.{dec_le}
use native.Mathlib.Omega.{arith}
use mathlib.Core.Path.{◌≡◌, refl}
use mathlib.Core.Bool.{Bool, true, false, cond, ◌||◌, true≢false}
use lib.Dec.{T}

pub cond_elim : {X : Type 0} (P : X → Type 0) (b : Bool) (x y : X) → (b ≡ true → P x) → (b ≡ false → P y) → P (cond b x y)
cond_elim P true x y f g = f refl
cond_elim P false x y f g = g refl

pub split_eq : {X : Type 0} (a : ℕ) → (a ≡ 0 → X) → ((a ≡ 0 → ⊥) → X) → X
split_eq zero f g = f refl
split_eq (suc a) f g = g (λ e. omega (arith, e))

pub split_lt : {X : Type 0} (a b : ℕ) → (a < b → X) → (b ≤ a → X) → X
split_lt a b f g = elim (dec_le b a) [ yes h ↦ g h | no h ↦ f (lt_of_not-le h) ]

pub split_bool : {X : Type 0} (b : Bool) → (b ≡ true → X) → (b ≡ false → X) → X
split_bool true f g = f refl
split_bool false f g = g refl

pub or_false : (x y : Bool) → x || y ≡ false → (x ≡ false) × (y ≡ false)
or_false true y e = absurd (true≢false e)
or_false false y e = (refl, e)

-- two tests that imply each other are one
pub same_test : (a b : Bool) → (T a → T b) → (T b → T a) → a ≡ b
same_test true true f g = refl
same_test true false f g = absurd (f tt)
same_test false true f g = absurd (g tt)
same_test false false f g = refl
