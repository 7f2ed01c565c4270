-- An order cut into spans, block by block. Assumes nothing.
use Prim.Native.Nat.{ℕ, zero, suc, ◌+◌, ◌/◌, ◌≤◌, ◌<◌}
use native.Mathlib.Omega.{arith}
use mathlib.Core.Path.{◌≡◌, refl, sym, ap, ◌∙◌, subst}
use mathlib.Core.Logic.{inl, inr}
use mathlib.Core.List.{List, [], ◌∷◌}
use lib.Dec.{eqb, eqb_refl}
use lib.ListN.{length, get_or, set, take}
use lib.Seq.{get_or-set_same, get_or-set_other, get_or-take, length-take-le}
use Rattle.limits.specs.Limits.{blocks}
use Rattle.lists.proofs.Choices.{split_lt}
use Rattle.rules.proofs.Membership.{In, T→≡}
use Rattle.rules.proofs.Counting.{one, tally, count, Once, In→count}
use Rattle.scans.specs.Spans.{width, spans, CutTo}

-- ---- no block of an order stands at two of its places
in_at : (l : List ℕ) (j : ℕ) → j < length l → In (get_or l j 0) l
in_at [] j h = absurd (omega arith)
in_at (x ∷ l) zero h = inl refl
in_at (x ∷ l) (suc j) h = inr (in_at l j (omega (arith, h)))

once_apart : (l : List ℕ) (i j : ℕ) → Once l → i < j → j < length l → get_or l i 0 ≡ get_or l j 0 → ⊥
unfolding count tally
once_apart [] i j o h k e = omega (arith, k)
once_apart (x ∷ l) i zero o h k e = omega (arith, h)
once_apart (x ∷ l) zero (suc j) o h k e =
    omega (arith, o x, ap one (T→≡ (eqb x x) (eqb_refl x)), In→count x l (subst (λ (y : ℕ). In y l) (sym e) (in_at l j (omega (arith, k)))))
once_apart (x ∷ l) (suc i) (suc j) o h k e = once_apart l i j (λ m. omega (arith, o m)) (omega (arith, h)) (omega (arith, k)) e

-- ---- the cut
module _ (order : List ℕ) (len i : ℕ) (span upto : List ℕ) (long : length order ≡ blocks) (span_long : length span ≡ blocks) (upto_long : length upto ≡ spans)
    (few : len ≤ blocks) (once : Once (take len order)) (low : get_or order i 0 < blocks) (k : i < len) (h : CutTo order i span upto) where
  -- the block at place i stands at no place before
  other : (j : ℕ) → j < i → get_or order j 0 ≡ get_or order i 0 → ⊥
  other j l e =
      once_apart (take len order) j i once l (omega (arith, length-take-le len order (omega (arith, long, few)), k))
      (get_or-take len order j 0 (omega arith) ∙ e ∙ sym (get_or-take len order i 0 k))

  pub cut_next : CutTo order (i + 1) (set span (get_or order i 0) (i / width)) (set upto (i / width) (i + 1))
  cut_next = record {
    span_is = λ j l. split_lt j i
        (λ b. get_or-set_other span (get_or order i 0) (get_or order j 0) (i / width) 0 (other j b) ∙ h.span_is j b)
        (λ b.
        let e : j ≡ i = omega arith in
        rw e (get_or-set_same span (get_or order i 0) (i / width) 0 (omega arith)));
    upto_is = λ g l. split_lt g (i / width)
        (λ b. get_or-set_other upto (i / width) g (i + 1) 0 (λ e. omega arith) ∙ h.upto_is g (omega arith) ∙ omega arith)
        (λ b.
        let e : g ≡ i / width = omega arith in
        rw e (get_or-set_same upto (i / width) (i + 1) 0 (omega arith) ∙ omega arith));
  }
