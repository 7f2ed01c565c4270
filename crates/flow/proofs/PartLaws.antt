-- What stands in a list and in its parts. Assumes nothing.
use Prim.Native.Nat.{ℕ, zero, suc, ◌-◌, ◌<◌}
use native.Mathlib.Numerals.{unary_clauses}
use native.Mathlib.Omega.{arith}
use mathlib.Core.Path.{◌≡◌, refl, subst}
use mathlib.Core.Logic.{inl, inr}
use mathlib.Core.List.{List, [], ◌∷◌}
use lib.ListN.{length, get_or, take, drop, take-append-drop}
use Rattle.rules.specs.Lists.{last_or}
use Rattle.rules.proofs.Membership.{In, In-left, In-right}

pub get_in : (l : List ℕ) (i : ℕ) → i < length l → In (get_or l i 0) l
get_in [] i h = absurd (omega arith)
get_in (x ∷ l) zero h = inl refl
get_in (x ∷ l) (suc i) h = inr (get_in l i (omega arith))

pub In-take : (n k : ℕ) (l : List ℕ) → In n (take k l) → In n l
In-take n k l i = subst (In n) (take-append-drop k l) (In-left n (take k l) (drop k l) i)

pub In-drop : (n k : ℕ) (l : List ℕ) → In n (drop k l) → In n l
In-drop n k l i = subst (In n) (take-append-drop k l) (In-right n (take k l) (drop k l) i)

pub last_get : (d : ℕ) (l : List ℕ) → 0 < length l → last_or d l ≡ get_or l (length l - 1) 0
unfolding last_or
last_get d [] h = absurd (omega arith)
last_get d (x ∷ []) h = refl
last_get d (x ∷ y ∷ l) h = simp unary_clauses (simp unary_clauses at (last_get d (y ∷ l) (omega arith)))
