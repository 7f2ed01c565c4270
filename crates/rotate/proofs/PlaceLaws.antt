-- The blocks of a trace, gone through one by one: a search, a test of each, a set of them. Assumes nothing.
use Prim.Native.Nat.{ℕ, suc, ◌+◌, ◌-◌, ◌<◌}
use Prim.Native.Nat.compare
use native.Mathlib.Numerals.{add-one}
use native.Mathlib.Omega.{arith}
use mathlib.Core.Path.{◌≡◌, refl, sym, ap, ◌∙◌, subst}
use mathlib.Core.Bool.{Bool, true, false, not, cond, ◌||◌}
use mathlib.Core.List.{List, [], ◌∷◌, ◌++◌}
use Rattle.std.specs.Prelude.{◌==◌, Option, None, Some}
use Rattle.std.proofs.lemmas.Option.{slice_get-get_or, slice_get_within, get_or_from_slice_get}
use Rattle.std.specs.List.{slice_get, position, position_or_len, list_any}
use lib.Dec.{eqb, ltb}
use lib.ListN.{length, get_or, take, drop}
use lib.Seq.{take-suc}
use borrow.Author.Tests.{lt-ltb, ltb-true}
use Rattle.rules.specs.Lists.{any, last_or, mem}
use Rattle.rules.specs.Rotate.{lead_in, cycle}
use Rattle.rules.proofs.Membership.{In}
use Rattle.marks.proofs.SetLaws.{eqb_turn}
use Rattle.flow.proofs.PartLaws.{get_in, last_get}

-- the last block, if there is one
abbrev pub last_of : List ℕ → Option ℕ
last_of l = slice_get l (length l - 1)

pub no_last : (l : List ℕ) → last_of l ≡ None → l ≡ []
no_last [] e = refl
no_last (x ∷ l) e =
    absurd (let z : Some (get_or (x ∷ l) (length (x ∷ l) - 1) 0) ≡ None = sym (slice_get-get_or (x ∷ l) (length (x ∷ l) - 1) 0 (omega arith)) ∙ e in
    let y : ◌≡◌ {A = ℕ} 0 1 = cc in omega arith)

module _ (l : List ℕ) (b : ℕ) (e : last_of l ≡ Some b) where
  some : 0 < length l
  some = omega (arith, slice_get_within l (length l - 1) b e)

  pub last_is : (d : ℕ) → last_or d l ≡ b
  last_is d = last_get d l some ∙ get_or_from_slice_get l (length l - 1) b 0 e

  pub last_in : In b l
  last_in = subst (λ (x : ℕ). In x l) (get_or_from_slice_get l (length l - 1) b 0 e) (get_in l (length l - 1) (omega (arith, some)))

-- ---- a search
module _ (x : ℕ) where
  abbrev place : List ℕ → ℕ
  place l = position_or_len (λ (y : ℕ). y == x) l

  place_mem : (l : List ℕ) → mem x l ≡ ltb (place l) (length l)
  unfolding mem any
  place_mem [] = refl
  place_mem (y ∷ l) = go (eqb y x) (place_mem l)
    where
      go : (b : Bool) → mem x l ≡ ltb (place l) (length l) → b || mem x l ≡ ltb (cond (not b) (1 + place l) 0) (suc (length l))
      go true e = sym (lt-ltb 0 (suc (length l)) (omega arith))
      go false e = let z : 1 + place l ≡ suc (place l) = omega arith in rw z (rw (compare.suc-suc (suc (place l)) (length l)) e)

  place_lead : (l : List ℕ) → lead_in x l ≡ take (place l) l
  unfolding lead_in
  place_lead [] = refl
  place_lead (y ∷ l) = go (eqb y x) (place_lead l)
    where
      go : (b : Bool) → lead_in x l ≡ take (place l) l → (elim b as (λ (c : Bool). List ℕ) [ true ↦ [] | false ↦ y ∷ lead_in x l ]) ≡ take (cond (not b) (1 + place l) 0) (y ∷ l)
      go true e = refl
      go false e = let z : 1 + place l ≡ suc (place l) = omega arith in rw z (ap (λ (k : List ℕ). y ∷ k) e)

  place_cycle : (l : List ℕ) → cycle x l ≡ drop (place l) l
  unfolding cycle
  place_cycle [] = refl
  place_cycle (y ∷ l) = go (eqb y x) (place_cycle l)
    where
      go : (b : Bool) → cycle x l ≡ drop (place l) l → (elim b as (λ (c : Bool). List ℕ) [ true ↦ y ∷ l | false ↦ cycle x l ]) ≡ drop (cond (not b) (1 + place l) 0) (y ∷ l)
      go true e = refl
      go false e = let z : 1 + place l ≡ suc (place l) = omega arith in rw z e

  -- what the place says that is found
  pub record Found (l : List ℕ) (p : ℕ) : Type 0 where
    pub inside : p < length l
    pub has : mem x l ≡ true
    pub before : lead_in x l ≡ take p l
    pub from : cycle x l ≡ drop p l

  pub found_at : (l : List ℕ) (p : ℕ) → position (λ (y : ℕ). y == x) l ≡ Some p → Found l p
  found_at l p e = go (ltb (place l) (length l)) refl e
    where
      go : (b : Bool) → ltb (place l) (length l) ≡ b → cond b (Some (place l)) None ≡ Some p → Found l p
      go true t q =
          let z : place l ≡ p = cc in
          record { inside = omega (arith, ltb-true _ _ t, z); has = place_mem l ∙ t; before = place_lead l ∙ ap (λ (k : ℕ). take k l) z; from = place_cycle l ∙ ap (λ (k : ℕ). drop k l) z }
      go false t q = absurd (let z : ◌≡◌ {A = ℕ} 0 1 = cc in omega arith)

  pub found_none : (l : List ℕ) → position (λ (y : ℕ). y == x) l ≡ None → mem x l ≡ false
  found_none l e = go (ltb (place l) (length l)) refl e
    where
      go : (b : Bool) → ltb (place l) (length l) ≡ b → ◌≡◌ {A = Option ℕ} (cond b (Some (place l)) None) None → mem x l ≡ false
      go true t q = absurd (let z : ◌≡◌ {A = ℕ} 0 1 = cc in omega arith)
      go false t q = place_mem l ∙ t

-- ---- a test of each
pub any_is : (p : ℕ → Bool) (l : List ℕ) → any p l ≡ list_any p l
unfolding any
any_is p [] = refl
any_is p (x ∷ l) = ap (λ (b : Bool). p x || b) (any_is p l)

-- ---- a set of them
mem_snoc : (m b : ℕ) (l : List ℕ) → mem m (l ++ (b ∷ [])) ≡ eqb m b || mem m l
unfolding mem any
mem_snoc m b [] = ap (λ (t : Bool). t || false) (eqb_turn b m)
mem_snoc m b (x ∷ l) = ap (λ (t : Bool). eqb x m || t) (mem_snoc m b l) ∙ turn (eqb x m) (eqb m b) (mem m l)
  where
    turn : (a b c : Bool) → a || (b || c) ≡ b || (a || c)
    turn true true c = refl
    turn true false c = refl
    turn false b c = refl

pub mem_more : (m : ℕ) (l : List ℕ) (i : ℕ) → i < length l → mem m (take (i + 1) l) ≡ eqb m (get_or l i 0) || mem m (take i l)
mem_more m l i h = rw (add-one, take-suc l i 0 h) (mem_snoc m (get_or l i 0) (take i l))
