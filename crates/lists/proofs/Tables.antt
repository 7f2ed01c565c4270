-- A list as a table: what a store changes, and how many entries are not zero. Assumes nothing.
use Prim.Native.Nat.{ℕ, zero, suc, ◌<◌, ◌≤◌}
use native.Mathlib.Nat.{lt_of_not-le}
use native.Mathlib.Decide.{dec_le}
use native.Mathlib.Omega.{arith}
use mathlib.Core.Path.{◌≡◌, refl, sym, ap, ◌∙◌}
use mathlib.Core.Bool.{cond}
use mathlib.Core.List.{List}
use lib.Dec.{eqb}
use lib.ListN.{length, get_or, set, replicate, get_or-eq_default}
use lib.Seq.{get_or-set_same, get_or-set_other}
use borrow.Author.Tests.{eqb-true, eqb-false}
use Rattle.lists.specs.Marked.{one, marked}
use Rattle.lists.proofs.Choices.{cond_elim}

pub set_get : (l : List ℕ) (i v k : ℕ) → i < length l → get_or (set l i v) k 0 ≡ cond (eqb k i) v (get_or l k 0)
set_get l i v k h =
    cond_elim (λ (x : ℕ). get_or (set l i v) k 0 ≡ x) (eqb k i) v (get_or l k 0)
    (λ e. ap (λ (n : ℕ). get_or (set l i v) n 0) (eqb-true k i e) ∙ get_or-set_same l i v 0 h)
    (λ e. get_or-set_other l i k v 0 (eqb-false k i e))

-- a number with an entry that is not zero is inside the table
pub within : (l : List ℕ) (k : ℕ) → 0 < get_or l k 0 → k < length l
within l k h = elim (dec_le (length l) k) [ yes z ↦ absurd (omega (arith, get_or-eq_default l 0 z)) | no z ↦ lt_of_not-le z ]

pub zero_get : (n k : ℕ) → ◌≡◌ {A = ℕ} (get_or (replicate n 0) k 0) 0
zero_get zero k = refl
zero_get (suc n) zero = refl
zero_get (suc n) (suc k) = zero_get n k

-- ---- how many of the first n entries are not zero
one_most : (x : ℕ) → one x ≤ 1
unfolding one
one_most zero = omega arith
one_most (suc x) = omega arith

pub marked_most : (l : List ℕ) (n : ℕ) → marked l n ≤ n
unfolding marked
marked_most l zero = omega arith
marked_most l (suc n) = omega (arith, one_most (get_or l n 0), marked_most l n)

pub marked_none : (k n : ℕ) → marked (replicate k 0) n ≡ 0
unfolding marked one
marked_none k zero = refl
marked_none k (suc n) = rw (zero_get k n) (omega (arith, marked_none k n))

-- an entry that is zero leaves room for one more
pub marked_room : (l : List ℕ) (n k : ℕ) → k < n → get_or l k 0 ≡ 0 → marked l n < n
unfolding marked one
marked_room l zero k h e = absurd (omega (arith, h))
marked_room l (suc n) k h e =
    elim (dec_le n k) [
      | yes z ↦ (let q : k ≡ n = omega (arith, h) in let w : get_or l n 0 ≡ 0 = ap (λ (j : ℕ). get_or l j 0) (sym q) ∙ e in rw w (omega (arith, marked_most l n)))
      | no z ↦ omega (arith, one_most (get_or l n 0), marked_room l n k (lt_of_not-le z) e)
    ]

marked_past : (l : List ℕ) (n k v : ℕ) → n ≤ k → marked (set l k v) n ≡ marked l n
unfolding marked
marked_past l zero k v h = refl
marked_past l (suc n) k v h =
    rw (get_or-set_other l k n v 0 (λ e. omega (arith, h, e)), marked_past l n k v (omega (arith, h)))

pub marked_more : (l : List ℕ) (n k v : ℕ) → k < n → k < length l → get_or l k 0 ≡ 0 → 0 < v → marked (set l k v) n ≡ suc (marked l n)
unfolding marked one
marked_more l zero k v h b e p = absurd (omega (arith, h))
marked_more l (suc n) k zero h b e p = absurd (omega (arith, p))
marked_more l (suc n) k (suc v) h b e p =
    elim (dec_le n k) [
      | yes z ↦
          (let q : n ≡ k = omega (arith, h) in
          let x : get_or (set l k (suc v)) n 0 ≡ suc v = ap (λ (j : ℕ). get_or (set l k (suc v)) j 0) q ∙ get_or-set_same l k (suc v) 0 b in
          let y : get_or l n 0 ≡ 0 = ap (λ (j : ℕ). get_or l j 0) q ∙ e in
          rw (x, y, marked_past l n k (suc v) z) (omega arith))
      | no z ↦
          (let m : k < n = lt_of_not-le z in
          rw (get_or-set_other l k n (suc v) 0 (λ w. omega (arith, m, w)), marked_more l n k (suc v) m b e p) (omega arith))
    ]
