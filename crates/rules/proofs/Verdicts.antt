-- The first line that holds, and files whose lines do not hold. Assumes nothing.
use Prim.Native.Nat.{ℕ, zero, suc, ◌+◌, ◌-◌, ◌%◌, ◌/◌, ◌≤◌, ◌<◌}
use native.Mathlib.Nat.{add-zero, add-suc}
use native.Mathlib.Omega.{arith}
use mathlib.Core.Path.{◌≡◌, refl, sym, ap, subst, ◌∙◌}
use mathlib.Core.Bool.{Bool, true, false, cond}
use mathlib.Core.List.{List, [], ◌∷◌, ◌++◌}
use lib.ListN.{length}
use borrow.Author.Tests.{lt-ltb, le-ltb, eq-eqb, ne_eqb}
use Rattle.limits.specs.Limits.{size, most_bytes}
use Rattle.rules.specs.Records.{record_at, before, records, graph_of}
use Rattle.rules.specs.Refusals.{Verdict, Check, record_checks, all_checks, panic_checks, checks, Clear, fine, first, verdict}

abbrev pub at : ℕ → ℕ → Verdict
at number place = record { number = number; place = place }

-- ---- two lists of lines, one after the other
pub first_after : (xs ys : List Check) → Clear xs → first (xs ++ ys) ≡ first ys
unfolding first
first_after [] ys h = refl
first_after (c ∷ xs) ys h = rw h.0 (first_after xs ys h.1)

pub first_kept : (xs ys : List Check) (n p : ℕ) → (n ≡ 0 → ⊥) → first xs ≡ at n p → first (xs ++ ys) ≡ at n p
unfolding first fine
first_kept [] ys n p z e = absurd (z (sym (ap (λ (v : Verdict). v.number) e)))
first_kept (c ∷ xs) ys n p z e = go (first_kept xs ys n p z) c.holds e
  where
    go : (first xs ≡ at n p → first (xs ++ ys) ≡ at n p) → (b : Bool) → cond b (at c.number c.place) (first xs) ≡ at n p → cond b (at c.number c.place) (first (xs ++ ys)) ≡ at n p
    go rest true h = h
    go rest false h = rest h

pub clear_join : (xs ys : List Check) → Clear xs → Clear ys → Clear (xs ++ ys)
clear_join [] ys h k = k
clear_join (c ∷ xs) ys h k = (h.0, clear_join xs ys h.1 k)

pub clear_parts : (xs ys : List Check) → Clear (xs ++ ys) → Clear xs × Clear ys
clear_parts [] ys h = (tt, h)
clear_parts (c ∷ xs) ys h = let r = clear_parts xs ys h.1 in ((h.0, r.0), r.1)

pub first_clear : (xs : List Check) → Clear xs → first xs ≡ fine
unfolding first
first_clear [] h = refl
first_clear (c ∷ xs) h = rw h.0 (first_clear xs h.1)

-- ---- records, one after the other
pub before_length : (s : List ℕ) (i : ℕ) → length (before s i) ≡ i
unfolding before
before_length s zero = refl
before_length s (suc i) = ap suc (before_length s i)

-- a refusal stays
pub stays : (s : List ℕ) (i k n p : ℕ) → (n ≡ 0 → ⊥) → first (all_checks (before s i)) ≡ at n p → first (all_checks (before s (i + k))) ≡ at n p
unfolding before all_checks
stays s i zero n p z e = rw add-zero e
stays s i (suc k) n p z e =
    rw add-suc (first_kept (all_checks (before s (i + k))) (record_checks (before s (i + k)) (record_at s (i + k))) n p z (stays s i k n p z e))

-- ---- the whole file
module _ (s : List ℕ) where
  pub too_long : most_bytes < length s → verdict s ≡ at 1 0
  unfolding verdict checks first
  too_long h = simp (lt-ltb _ _ h)

  pub not_whole : length s ≤ most_bytes → (length s % size ≡ 0 → ⊥) → verdict s ≡ at 2 0
  unfolding verdict checks first
  not_whole h k = simp (le-ltb _ _ h, ne_eqb _ _ k)

  module _ (short : length s ≤ most_bytes) (whole : length s % size ≡ 0) where
    by_records : verdict s ≡ first (all_checks (records s) ++ panic_checks 0 (graph_of (records s)))
    unfolding verdict checks first
    by_records = simp (le-ltb _ _ short, eq-eqb _ _ whole)

    -- refused at record i
    pub at_record : (i n : ℕ) → i < length s / size → (n ≡ 0 → ⊥) → first (all_checks (before s (suc i))) ≡ at n i → verdict s ≡ at n i
    unfolding records
    at_record i n h z e =
        let k : suc i + (length s / size - suc i) ≡ length s / size = omega arith in
        by_records
        ∙ first_kept (all_checks (before s (length s / size))) (panic_checks 0 (graph_of (records s))) n i z
        (subst (λ (m : ℕ). first (all_checks (before s m)) ≡ at n i) k (stays s (suc i) (length s / size - suc i) n i z e))

    -- no record refused
    pub past_records : Clear (all_checks (records s)) → verdict s ≡ first (panic_checks 0 (graph_of (records s)))
    past_records h = by_records ∙ first_after (all_checks (records s)) (panic_checks 0 (graph_of (records s))) h
