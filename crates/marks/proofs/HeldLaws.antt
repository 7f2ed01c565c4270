-- How a set is held: what the bytes of no block are, and what a store changes. For this crate alone. Assumes nothing.
use Prim.Native.Nat.{ℕ, ◌<◌}
use mathlib.Core.Path.{◌≡◌, refl, ap, ◌∙◌}
use mathlib.Core.Bool.{Bool, true, false, not, cond, ◌||◌}
use mathlib.Core.List.{List}
use lib.Dec.{eqb}
use lib.ListN.{length, get_or, set, replicate}
use Rattle.lists.proofs.Tables.{set_get, zero_get}
use Rattle.marks.specs.Sets.{member}

pub zero_member : (k m : ℕ) → member (replicate k 0) m ≡ false
unfolding member
zero_member k m = ap (λ (x : ℕ). not (eqb x 0)) (zero_get k m)

by_cases : (b : Bool) (x : ℕ) → not (eqb (cond b 1 x) 0) ≡ b || not (eqb x 0)
by_cases true x = refl
by_cases false x = refl

pub store_member : (s : List ℕ) (n m : ℕ) → n < length s → member (set s n 1) m ≡ eqb m n || member s m
unfolding member
store_member s n m h = ap (λ (x : ℕ). not (eqb x 0)) (set_get s n 1 m h) ∙ by_cases (eqb m n) (get_or s m 0)
