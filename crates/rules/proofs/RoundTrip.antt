-- THEOREM write_read: writing out an accepted file's graph gives its bytes. Assumes nothing.
use Prim.Native.Nat.{ℕ, zero, suc, ◌+◌, ◌*◌, ◌/◌, ◌%◌, ◌≤◌, ◌<◌}
use native.Mathlib.Omega.{arith}
use mathlib.Core.Path.{◌≡◌, refl, sym, ap, subst, ◌∙◌}
use mathlib.Core.Bool.{Bool, true, false, cond, true≢false}
use mathlib.Core.List.{List, [], ◌∷◌, ◌++◌}
use lib.Dec.{ltb, eqb}
use lib.ListN.{length, get_or, take, drop, length-take, length-drop}
use lib.Seq.{take_all, take-length, take-add, drop-cons, get_or-drop}
use borrow.Author.Tests.{eq-eqb, ne_eqb, eqb-true, ltb-false, not-false}
use Rattle.limits.specs.Limits.{size, most_bytes, numbers, marks_below, ends_below}
use Rattle.lists.proofs.Choices.{cond_elim, split_eq, split_bool}
use Rattle.rules.specs.declared.Record.{Record}
use Rattle.rules.specs.declared.Record.TheVariants.{Outside}
use Rattle.rules.specs.Records.{little, bytes_of, gap_zero, block_of, arm_of, record_of, fields, block_bytes, arm_bytes, record_at, before, records, graph_of, written}
use Rattle.rules.specs.Refusals.{record_checks, all_checks, panic_checks, checks, Clear, verdict}
use Rattle.rules.specs.Outcome.{refusal, refused, back_of, write_back}
use Rattle.rules.proofs.Verdicts.{clear_parts}
use Rattle.rules.proofs.Exactly.{accepted_clear}
use Rattle.rules.proofs.Listed.{outside_clear}
use Rattle.rules.proofs.Grouped.{record_bytes, recorded, grouped}

-- ---- a list by its elements
ups : List ℕ → ℕ → ℕ → List ℕ
ups l i zero = []
ups l i (suc k) = get_or l i 0 ∷ ups l (suc i) k

ups_is : (l : List ℕ) (i k : ℕ) → i + k ≤ length l → ups l i k ≡ take k (drop i l)
unfolding ups
ups_is l i zero h = refl
ups_is l i (suc k) h = rw (drop-cons l i 0 (omega arith)) (ap (λ (t : List ℕ). get_or l i 0 ∷ t) (ups_is l (suc i) k (omega arith)))

-- ---- the bytes of a number that bytes say are those bytes
bytes_little : (r : List ℕ) (at k : ℕ) → ((i : ℕ) → get_or r i 0 < 256) → bytes_of k (little r at k) ≡ ups r at k
unfolding ups
bytes_little r at zero h = refl
bytes_little r at (suc k) h =
    let x = get_or r at 0 in
    let y = little r (suc at) k in
    let e : (x + 256 * y) % 256 ≡ x = omega (arith, h at) in
    let f : (x + 256 * y) / 256 ≡ y = omega (arith, h at) in
    rw (e, f) (ap (λ (t : List ℕ). x ∷ t) (bytes_little r (suc at) k h))

gap : (x4 x5 x6 x7 : ℕ) (t : List ℕ) → x4 ≡ 0 → x5 ≡ 0 → x6 ≡ 0 → x7 ≡ 0 → 0 ∷ 0 ∷ 0 ∷ 0 ∷ t ≡ x4 ∷ x5 ∷ x6 ∷ x7 ∷ t
gap x4 x5 x6 x7 t h4 h5 h6 h7 = rw (h4, h5, h6, h7)

all_4 : (x y z w : Bool) → cond x (cond y (cond z w false) false) false ≡ true → (x ≡ true) × (y ≡ true) × (z ≡ true) × (w ≡ true)
all_4 true true true true e = (refl, refl, refl, refl)
all_4 true true true false e = absurd (true≢false (sym e))
all_4 true true false w e = absurd (true≢false (sym e))
all_4 true false z w e = absurd (true≢false (sym e))
all_4 false y z w e = absurd (true≢false (sym e))

-- ---- one record
module _ (p : List ℕ) (long : length p ≡ size) (small : (i : ℕ) → get_or p i 0 < 256) where
  fields_are : gap_zero p ≡ true → fields (get_or p 0 0) (get_or p 1 0) (get_or p 2 0) (get_or p 3 0) 0 0 (little p 8 8) ≡ p
  unfolding fields ups gap_zero
  fields_are e =
      let h = all_4 (eqb (get_or p 4 0) 0) (eqb (get_or p 5 0) 0) (eqb (get_or p 6 0) 0) (eqb (get_or p 7 0) 0) e in
      ap (λ (t : List ℕ). get_or p 0 0 ∷ get_or p 1 0 ∷ get_or p 2 0 ∷ get_or p 3 0 ∷ 0 ∷ 0 ∷ 0 ∷ 0 ∷ t) (bytes_little p 8 8 small)
      ∙ ap (λ (t : List ℕ). get_or p 0 0 ∷ get_or p 1 0 ∷ get_or p 2 0 ∷ get_or p 3 0 ∷ t)
      (gap (get_or p 4 0) (get_or p 5 0) (get_or p 6 0) (get_or p 7 0) (ups p 8 8) (eqb-true _ _ h.0) (eqb-true _ _ h.1) (eqb-true _ _ h.2) (eqb-true _ _ h.3))
      ∙ ups_is p 0 16 (omega arith)
      ∙ take_all 16 p (omega arith)

  low : (i : ℕ) → get_or p i 0 % 256 ≡ get_or p i 0
  low i = omega (arith, small i)

  abbrev Back : Record → Type 0
  Back r = (r ≡ Outside → ⊥) → record_bytes r ≡ p

  block_back : gap_zero p ≡ true → get_or p 0 0 ≡ 1 → Back (block_of p)
  unfolding block_of record_bytes block_bytes
  block_back z k =
      cond_elim Back (ltb (get_or p 1 0) numbers) _ _
      (λ a. cond_elim Back (ltb (get_or p 2 0) marks_below) _ _
      (λ b. cond_elim Back (ltb (get_or p 3 0) ends_below) _ _
      (λ d n. rw (low 1) (ap (λ (x : ℕ). fields x (get_or p 1 0) (get_or p 2 0) (get_or p 3 0) 0 0 (little p 8 8)) (sym k) ∙ fields_are z))
      (λ d n. absurd (n refl)))
      (λ b n. absurd (n refl)))
      (λ a n. absurd (n refl))

  arm_back : gap_zero p ≡ true → get_or p 0 0 ≡ 2 → Back (arm_of p)
  unfolding arm_of record_bytes arm_bytes
  arm_back z k =
      cond_elim Back (ltb (get_or p 3 0) 2) _ _
      (λ d n. rw (low 1, low 2) (ap (λ (x : ℕ). fields x (get_or p 1 0) (get_or p 2 0) (get_or p 3 0) 0 0 (little p 8 8)) (sym k) ∙ fields_are z))
      (λ d n. absurd (n refl))

  record_back : Back (record_of p)
  unfolding record_of
  record_back =
      cond_elim Back (gap_zero p) _ _
      (λ z. cond_elim Back (eqb (get_or p 0 0) 1) _ _ (λ k. block_back z (eqb-true _ _ k))
      (λ k. cond_elim Back (eqb (get_or p 0 0) 2) _ _ (λ l. arm_back z (eqb-true _ _ l)) (λ l n. absurd (n refl))))
      (λ z n. absurd (n refl))

-- ---- a file
pub take_small : (k : ℕ) (l : List ℕ) → ((i : ℕ) → get_or l i 0 < 256) → (i : ℕ) → get_or (take k l) i 0 < 256
take_small zero l h i = omega arith
take_small (suc k) [] h i = omega arith
take_small (suc k) (x ∷ xs) h zero = h 0
take_small (suc k) (x ∷ xs) h (suc i) = take_small k xs (λ j. h (suc j)) i

pub drop_small : (k : ℕ) (l : List ℕ) → ((i : ℕ) → get_or l i 0 < 256) → (i : ℕ) → get_or (drop k l) i 0 < 256
drop_small k l h i = rw (get_or-drop k l i 0) (h (k + i))

-- what an accepted file is: short, of whole records, none of them refused
pub record Accepted (s : List ℕ) : Type 0 where
  pub short : length s ≤ most_bytes
  pub whole : length s % size ≡ 0
  pub clear : Clear (all_checks (records s))
  pub calm : Clear (panic_checks 0 (graph_of (records s)))

pub accepted : (s : List ℕ) → (verdict s).number ≡ 0 → Accepted s
unfolding checks
accepted s e =
    let c = accepted_clear s e in
    let k = clear_parts (all_checks (records s)) (panic_checks 0 (graph_of (records s))) c.1.1 in
    record {
      short = ltb-false most_bytes (length s) c.0;
      whole = eqb-true (length s % size) 0 (not-false (eqb (length s % size) 0) c.1.0);
      clear = k.0;
      calm = k.1;
    }

module _ (s : List ℕ) (small : (i : ℕ) → get_or s i 0 < 256) where
  part_back : (i : ℕ) → (record_at s i ≡ Outside → ⊥) → size * i + size ≤ length s → record_bytes (record_at s i) ≡ take size (drop (size * i) s)
  unfolding record_at
  part_back i d l =
      record_back (take size (drop (size * i) s)) (simp (length-take, length-drop) (omega arith))
      (take_small size (drop (size * i) s) (drop_small (size * i) s small)) d

  recorded_is : (i : ℕ) → Clear (all_checks (before s i)) → size * i ≤ length s → recorded (before s i) ≡ take (size * i) s
  unfolding before all_checks recorded
  recorded_is zero c h = refl
  recorded_is (suc i) c h =
      let k = clear_parts (all_checks (before s i)) (record_checks (before s i) (record_at s i)) c in
      let inside : record_at s i ≡ Outside → ⊥ = λ e. outside_clear (before s i) (subst (λ (r : Record). Clear (record_checks (before s i) r)) e k.1) in
      let f : size * i + size ≡ size * suc i = omega arith in
      rw (recorded_is i k.0 (omega (arith, h)))
      (ap (λ (t : List ℕ). take (size * i) s ++ t) (part_back i inside (omega (arith, h)))
      ∙ sym (take-add (size * i) size s)
      ∙ ap (λ (m : ℕ). take m s) f)

  -- THE THEOREM
  pub write_read : (verdict s).number ≡ 0 → written (graph_of (records s)) ≡ s
  unfolding records
  write_read e =
      let a = accepted s e in
      let n : size * (length s / size) ≡ length s = omega (arith, a.whole) in
      grouped (before s (length s / size)) a.clear
      ∙ recorded_is (length s / size) a.clear (omega (arith, n))
      ∙ ap (λ (m : ℕ). take m s) n
      ∙ take-length s

  -- and of the call: with room enough the front of the lent bytes is the file, and the rest is kept
  pub writes_back : (lent : List ℕ) → (write_back s lent).answer.refusal ≡ 0 → (write_back s lent).lent ≡ s ++ drop (length s) lent
  unfolding write_back back_of refused refusal
  writes_back lent e =
      split_eq (verdict s).number
      (λ z.
      rw (eq-eqb (verdict s).number 0 z, write_read z)
      (split_bool (ltb (length lent) (length s))
      (λ q. absurd (let w : ◌≡◌ {A = ℕ} 10 0 = simp (eq-eqb (verdict s).number 0 z, write_read z, q) at e in omega arith))
      (λ q. rw q)))
      (λ z. absurd (z (simp (ne_eqb (verdict s).number 0 z) at e)))
