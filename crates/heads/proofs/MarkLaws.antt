-- What each step of the loops marks. Assumes nothing.
use Rattle.std.proofs.Common.{ℕ, zero, suc, ◌+◌, ◌≤◌, ◌≡◌, Bool, true, false, ◌&&◌, ◌||◌, List, get_or, refl, sym, ap, ◌∙◌, arith, add-one, eqb}
use borrow.Author.Tests.{eqb-true, le-leb}
use Rattle.records.specs.declared.Graph.{Graph}
use Rattle.heads.specs.Heading.{behind, arms_back, back_to, head_to}

-- ---- one more mark, or none
module _ (m t : ℕ) (p : ℕ → Bool) where
  pub mark_yes : (x a was now : Bool) → was ≡ x || a → now ≡ eqb m t || was → p t ≡ true → now ≡ x || (a || (eqb m t && p m))
  mark_yes x a was now e n y = n ∙ ap (λ (w : Bool). eqb m t || w) e ∙ go (eqb m t) refl x a
    where
      go : (b : Bool) → eqb m t ≡ b → (x a : Bool) → b || (x || a) ≡ x || (a || (b && p m))
      go true q true a = refl
      go true q false true = refl
      go true q false false = sym (ap p (eqb-true m t q) ∙ y)
      go false q true a = refl
      go false q false true = refl
      go false q false false = refl

  pub mark_no : (x a was : Bool) → was ≡ x || a → p t ≡ false → was ≡ x || (a || (eqb m t && p m))
  mark_no x a was e y = e ∙ go (eqb m t) refl x a
    where
      go : (b : Bool) → eqb m t ≡ b → (x a : Bool) → x || a ≡ x || (a || (b && p m))
      go true q true a = refl
      go true q false true = refl
      go true q false false = sym (ap p (eqb-true m t q) ∙ y)
      go false q true a = refl
      go false q false true = refl
      go false q false false = refl

pub or_none : (x : Bool) → x ≡ x || false
or_none true = refl
or_none false = refl

-- ---- the arms of a block
module _ (t : Graph) (piece : List ℕ) (i m : ℕ) where
  pub arms_none : (x : Bool) → x ≡ x || arms_back t piece i 0 m
  unfolding arms_back
  arms_none x = or_none x

  module _ (j to : ℕ) (is : to ≡ get_or t.a.to (get_or t.a.first (get_or t.b.listed i 0) 0 + j) 0) (x was : Bool) (e : was ≡ x || arms_back t piece i j m) where
    pub arms_yes : (now : Bool) → now ≡ eqb m to || was → behind t.b.place piece (get_or t.b.listed i 0) (i + 1) to ≡ true → now ≡ x || arms_back t piece i (j + 1) m
    unfolding arms_back
    arms_yes now n y = rw (add-one j, ← is) (mark_yes m to (behind t.b.place piece (get_or t.b.listed i 0) (suc i)) x (arms_back t piece i j m) was now e n (rw add-one at y))

    pub arms_no : behind t.b.place piece (get_or t.b.listed i 0) (i + 1) to ≡ false → was ≡ x || arms_back t piece i (j + 1) m
    unfolding arms_back
    arms_no y = rw (add-one j, ← is) (mark_no m to (behind t.b.place piece (get_or t.b.listed i 0) (suc i)) x (arms_back t piece i j m) was e (rw add-one at y))

-- ---- the blocks in turn
pub back_none : (t : Graph) (piece : List ℕ) (m : ℕ) → false ≡ back_to t piece 0 m
unfolding back_to
back_none t piece m = refl

pub back_more : (t : Graph) (piece : List ℕ) (i m : ℕ) (was now : Bool) → was ≡ back_to t piece i m → now ≡ was || arms_back t piece i (get_or t.a.count (get_or t.b.listed i 0) 0) m → now ≡ back_to t piece (i + 1) m
unfolding back_to
back_more t piece i m was now e n = rw add-one (n ∙ rw e refl)

-- ---- the places in turn
module _ (listed : List ℕ) (p : ℕ → Bool) (m : ℕ) where
  pub head_yes : (i : ℕ) (was now : Bool) → 1 ≤ i → was ≡ head_to listed p i m → now ≡ eqb m (get_or listed i 0) || was → p (get_or listed i 0) ≡ true → now ≡ head_to listed p (i + 1) m
  unfolding head_to
  head_yes i was now h e n y = rw (add-one i, le-leb 1 i h) (mark_yes m (get_or listed i 0) p false (head_to listed p i m) was now e n y)

  pub head_no : (i : ℕ) (was : Bool) → 1 ≤ i → was ≡ head_to listed p i m → p (get_or listed i 0) ≡ false → was ≡ head_to listed p (i + 1) m
  unfolding head_to
  head_no i was h e y = rw (add-one i, le-leb 1 i h) (mark_no m (get_or listed i 0) p false (head_to listed p i m) was e y)

  pub head_one : (n : ℕ) → n ≤ 1 → false ≡ head_to listed p n m
  unfolding head_to
  head_one zero h = refl
  head_one (suc zero) h = refl
  head_one (suc (suc n)) h = absurd (omega (arith, h))
