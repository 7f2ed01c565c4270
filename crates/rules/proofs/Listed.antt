-- Where blocks are listed, and which of them have arms, in records of which none is refused. Assumes nothing.
use Prim.Native.Nat.{ℕ, suc, ◌≤◌, ◌<◌}
use native.Mathlib.Omega.{arith}
use mathlib.Core.Path.{◌≡◌, refl, sym, ap, ◌∙◌}
use mathlib.Core.Bool.{Bool, true, false, not, cond, ◌&&◌, true≢false}
use mathlib.Core.List.{List, [], ◌∷◌}
use lib.Dec.{eqb, ltb}
use lib.ListN.{length}
use borrow.Author.Tests.{ne_eqb, eqb-true, ltb-true, ltb-false}
use Rattle.rules.specs.declared.Record.{Record}
use Rattle.rules.specs.declared.Record.TheVariants.{Block, Arm, Outside}
use Rattle.rules.specs.Records.{leaving, arms_of}
use Rattle.rules.specs.Refusals.{place_of, arm_count, last_of, listed, record_checks, all_checks, Clear}
use Rattle.rules.proofs.Verdicts.{clear_parts}

pub place_most : (n : ℕ) (l : List Record) → place_of n l ≤ length l
unfolding place_of
place_most n [] = omega arith
place_most n (Block number marks end weight ∷ l) = go (place_most n l) (eqb n number)
  where
    go : place_of n l ≤ length l → (b : Bool) → cond b (suc (length l)) (place_of n l) ≤ suc (length l)
    go h true = omega arith
    go h false = omega (arith, h)
place_most n (Arm from to args weight ∷ l) = omega (arith, place_most n l)
place_most n (Outside ∷ l) = omega (arith, place_most n l)

-- two blocks are not listed at one place
pub place_one : (n m : ℕ) (l : List Record) → place_of n l ≡ place_of m l → 0 < place_of n l → n ≡ m
unfolding place_of
place_one n m [] e h = absurd (omega (arith, h))
place_one n m (Block number marks end weight ∷ l) e h = go (place_one n m l) (eqb n number) (eqb m number) refl refl e h
  where
    go : (place_of n l ≡ place_of m l → 0 < place_of n l → n ≡ m) → (x y : Bool) → eqb n number ≡ x → eqb m number ≡ y
        → cond x (suc (length l)) (place_of n l) ≡ cond y (suc (length l)) (place_of m l) → 0 < cond x (suc (length l)) (place_of n l) → n ≡ m
    go rest true true p q e h = eqb-true n number p ∙ sym (eqb-true m number q)
    go rest true false p q e h = absurd (omega (arith, e, place_most m l))
    go rest false true p q e h = absurd (omega (arith, e, place_most n l))
    go rest false false p q e h = rest e h
place_one n m (Arm from to args weight ∷ l) e h = place_one n m l e h
place_one n m (Outside ∷ l) e h = place_one n m l e h

-- without arms no block has any
pub none_arms : (n : ℕ) (l : List Record) → arm_count l ≡ 0 → arms_of n l ≡ []
unfolding arm_count arms_of leaving
none_arms n [] e = refl
none_arms n (Block number marks end weight ∷ l) e = rw (none_arms n l e)
none_arms n (Arm from to args weight ∷ l) e = absurd (omega (arith, e))
none_arms n (Outside ∷ l) e = rw (none_arms n l e)

pub none_last : (l : List Record) → arm_count l ≡ 0 → last_of l ≡ 0
unfolding arm_count last_of
none_last [] e = refl
none_last (Block number marks end weight ∷ l) e = none_last l e
none_last (Arm from to args weight ∷ l) e = absurd (omega (arith, e))
none_last (Outside ∷ l) e = none_last l e

-- ---- what a record that is not refused says of those before it
pub block_clear : (l : List Record) (number marks end weight : ℕ) → Clear (record_checks l (Block number marks end weight))
    → (arm_count l ≡ 0) × (place_of number l ≡ 0)
unfolding record_checks listed
block_clear l number marks end weight h =
    (omega (arith, ltb-false 0 (arm_count l) h.0), omega (arith, ltb-false 0 (place_of number l) h.1.0))

both : (x y : Bool) → not (x && y) ≡ false → (x ≡ true) × (y ≡ true)
both true true e = (refl, refl)
both true false e = absurd (true≢false e)
both false y e = absurd (true≢false e)

pub record ArmClear (l : List Record) (from to : ℕ) : Type 0 where
  pub from_listed : 0 < place_of from l
  pub to_listed : 0 < place_of to l
  pub not_back : last_of l ≤ place_of from l

pub arm_clear : (l : List Record) (from to args weight : ℕ) → Clear (record_checks l (Arm from to args weight)) → ArmClear l from to
unfolding record_checks listed
arm_clear l from to args weight h =
    let b = both (ltb 0 (place_of from l)) (ltb 0 (place_of to l)) h.0 in
    record {
      from_listed = ltb-true 0 (place_of from l) b.0;
      to_listed = ltb-true 0 (place_of to l) b.1;
      not_back = ltb-false (place_of from l) (last_of l) h.1.0;
    }

pub outside_clear : (l : List Record) → Clear (record_checks l Outside) → ⊥
unfolding record_checks
outside_clear l h = true≢false h.0

-- ---- a block that is not listed has no arms
pub unlisted_arms : (n : ℕ) (l : List Record) → Clear (all_checks l) → place_of n l ≡ 0 → arms_of n l ≡ []
unfolding all_checks place_of arms_of leaving
unlisted_arms n [] h e = refl
unlisted_arms n (Block number marks end weight ∷ l) h e =
    let k = clear_parts (all_checks l) (record_checks l (Block number marks end weight)) h in
    rw (none_arms n l (block_clear l number marks end weight k.1).0)
unlisted_arms n (Arm from to args weight ∷ l) h e =
    let k = clear_parts (all_checks l) (record_checks l (Arm from to args weight)) h in
    let c = arm_clear l from to args weight k.1 in
    let d : n ≡ from → ⊥ = λ q. omega (arith, c.from_listed, ap (λ (m : ℕ). place_of m l) q, e) in
    rw (unlisted_arms n l k.0 e, ne_eqb n from d)
unlisted_arms n (Outside ∷ l) h e = absurd (outside_clear l (clear_parts (all_checks l) (record_checks l Outside) h).1)

-- ---- nor has one that is listed after the last arm's
pub late_arms : (n : ℕ) (l : List Record) → Clear (all_checks l) → last_of l < place_of n l → arms_of n l ≡ []
unfolding all_checks place_of last_of arms_of leaving
late_arms n [] h e = refl
late_arms n (Block number marks end weight ∷ l) h e =
    let k = clear_parts (all_checks l) (record_checks l (Block number marks end weight)) h in
    rw (none_arms n l (block_clear l number marks end weight k.1).0)
late_arms n (Arm from to args weight ∷ l) h e =
    let k = clear_parts (all_checks l) (record_checks l (Arm from to args weight)) h in
    let c = arm_clear l from to args weight k.1 in
    let d : n ≡ from → ⊥ = λ q. omega (arith, e, ap (λ (m : ℕ). place_of m l) q) in
    rw (late_arms n l k.0 (omega (arith, e, c.not_back)), ne_eqb n from d)
late_arms n (Outside ∷ l) h e = absurd (outside_clear l (clear_parts (all_checks l) (record_checks l Outside) h).1)
