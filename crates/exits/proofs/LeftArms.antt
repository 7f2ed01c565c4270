-- The arms that a block leaves, one by one. Assumes nothing.
use Rattle.std.proofs.Common.{ℕ, zero, suc, ◌+◌, ◌≤◌, ◌<◌, ◌≡◌, Bool, true, false, cond, List, [], ◌∷◌, length, get_or, refl, sym, ap, ◌∙◌, subst, arith, add-zero}
use lib.Dec.{eqb, eqb-suc-suc}
use lib.ListN.{set, length-set}
use lib.Seq.{get_or-set_same, get_or-set_other}
use borrow.Author.Tests.{eqb-true, eqb-false, lt-ltb, le-ltb, ne_eqb}
use Rattle.limits.specs.Limits.{arms}
use Rattle.lists.proofs.Choices.{split_lt}
use Rattle.rules.specs.declared.Leaving.{Leaving}
use Rattle.rules.specs.declared.Leaving.TheVariants.{Nothing, Jump, Branch, Exchanged, Bridge}
use Rattle.rules.specs.Graph.{Arm}
use Rattle.rules.specs.Exits.{no_arm, set_arm, swapped, arms_left}
use Rattle.records.specs.declared.Arms.{Arms}
use Rattle.records.specs.Tables.{arm_at, arms_from, leaves, ArmsSized}
use Rattle.records.proofs.TableLaws.{arms_count}
use Rattle.exits.specs.Lays.{source_of, Below, Left, with_arm}
use Rattle.exits.proofs.Decisions.{Bridgeless}

-- ---- one arm stored
module _ (a : Arms) (t : ℕ) (a₀ : Arms) (x : ℕ) where
  pub put_same : ArmsSized a → t < arms → arm_at (with_arm a t a₀ x) t ≡ arm_at a₀ x
  unfolding arm_at with_arm
  put_same s h = rw (get_or-set_same a.to t (get_or a₀.to x 0) 0 (omega (arith, h, s.to)), get_or-set_same a.args t (get_or a₀.args x 0) 0 (omega (arith, h, s.args)), get_or-set_same a.weight t (get_or a₀.weight x 0) 0 (omega (arith, h, s.weight)))

  pub put_other : (k : ℕ) → (k ≡ t → ⊥) → arm_at (with_arm a t a₀ x) k ≡ arm_at a k
  unfolding arm_at with_arm
  put_other k f = rw (get_or-set_other a.to t k (get_or a₀.to x 0) 0 f, get_or-set_other a.args t k (get_or a₀.args x 0) 0 f, get_or-set_other a.weight t k (get_or a₀.weight x 0) 0 f)

-- ---- the arm that stands at j
pub source_below : (how : Leaving) (c j : ℕ) → j < c → source_of how c j < c
unfolding source_of
source_below Nothing c j h = h
source_below Jump c j h = h
source_below Branch c j h = h
source_below (Bridge i) c j h = h
source_below Exchanged c zero h = split_lt c 2 (λ k. rw (lt-ltb c 2 k) h) (λ k. rw (le-ltb c 2 k) (omega (arith, k)))
source_below Exchanged c (suc zero) h = split_lt c 2 (λ k. rw (lt-ltb c 2 k) h) (λ k. rw (le-ltb c 2 k) (omega (arith, k)))
source_below Exchanged c (suc (suc j)) h =
    split_lt c 2 (λ k. rw (lt-ltb c 2 k) h)
    (λ k. rw (le-ltb c 2 k, ne_eqb (suc (suc j)) 0 (λ e. omega (arith, e)), ne_eqb (suc (suc j)) 1 (λ e. omega (arith, e))) h)

-- ---- lists of arms, one by one
pub arms_get : (a : Arms) (c f j : ℕ) → j < c → get_or (arms_from a f c) j no_arm ≡ arm_at a (f + j)
unfolding arms_from
arms_get a zero f j h = absurd (omega (arith, h))
arms_get a (suc c) f zero h = ap (arm_at a) (sym (add-zero f))
arms_get a (suc c) f (suc j) h = arms_get a c (suc f) j (omega (arith, h)) ∙ ap (arm_at a) e
  where
    e : suc f + j ≡ f + suc j
    e = omega arith

pub arms_each : (a : Arms) (q : ℕ) (l : List Arm) → ((j : ℕ) → j < length l → arm_at a (q + j) ≡ get_or l j no_arm) → arms_from a q (length l) ≡ l
unfolding arms_from
arms_each a q [] h = refl
arms_each a q (x ∷ l) h =
    ap (λ (y : Arm). y ∷ arms_from a (suc q) (length l)) (ap (arm_at a) (sym (add-zero q)) ∙ h 0 (omega arith))
    ∙ ap (λ (k : List Arm). x ∷ k) (arms_each a (suc q) l (λ j k. ap (arm_at a) (e j) ∙ h (suc j) (omega (arith, k))))
  where
    e : (j : ℕ) → suc q + j ≡ q + suc j
    e j = omega arith

set_length : (i : ℕ) (x : Arm) (l : List Arm) → length (set_arm i x l) ≡ length l
unfolding set_arm
set_length i x [] = refl
set_length zero x (y ∷ l) = refl
set_length (suc i) x (y ∷ l) = ap suc (set_length i x l)

set_get : (i : ℕ) (x : Arm) (l : List Arm) (j : ℕ) → j < length l → get_or (set_arm i x l) j no_arm ≡ cond (eqb i j) x (get_or l j no_arm)
unfolding set_arm
set_get i x [] j h = absurd (omega (arith, h))
set_get zero x (y ∷ l) zero h = refl
set_get zero x (y ∷ l) (suc j) h = rw (ne_eqb 0 (suc j) (λ e. omega (arith, e)))
set_get (suc i) x (y ∷ l) zero h = rw (ne_eqb (suc i) 0 (λ e. omega (arith, e)))
set_get (suc i) x (y ∷ l) (suc j) h = set_get i x l j (omega (arith, h)) ∙ ap (λ (t : Bool). cond t x (get_or l j no_arm)) (sym (eqb-suc-suc i j))

swapped_get : (l : List Arm) (j : ℕ) → get_or (swapped l) j no_arm ≡ get_or l (source_of Exchanged (length l) j) no_arm
unfolding swapped source_of
swapped_get [] j = refl
swapped_get (x ∷ []) j = refl
swapped_get (x ∷ y ∷ l) zero = rw (le-ltb (suc (suc (length l))) 2 (omega arith))
swapped_get (x ∷ y ∷ l) (suc zero) = rw (le-ltb (suc (suc (length l))) 2 (omega arith))
swapped_get (x ∷ y ∷ l) (suc (suc j)) =
    rw (le-ltb (suc (suc (length l))) 2 (omega arith), ne_eqb (suc (suc j)) 0 (λ e. omega (arith, e)), ne_eqb (suc (suc j)) 1 (λ e. omega (arith, e)))

swapped_length : (l : List Arm) → length (swapped l) ≡ length l
unfolding swapped
swapped_length [] = refl
swapped_length (x ∷ []) = refl
swapped_length (x ∷ y ∷ l) = refl

pub left_length : (new : ℕ) (l : List Arm) (how : Leaving) → length (arms_left new l how) ≡ length l
unfolding arms_left
left_length new l Nothing = refl
left_length new l Jump = refl
left_length new l Branch = refl
left_length new l Exchanged = swapped_length l
left_length new l (Bridge i) = set_length i _ l

module _ (a : Arms) (f c new : ℕ) where
  plain_get : (how : Leaving) (j : ℕ) → Bridgeless how → j < c → get_or (arms_left new (arms_from a f c) how) j no_arm ≡ arm_at a (f + source_of how c j)
  unfolding arms_left source_of
  plain_get Nothing j e h = arms_get a c f j h
  plain_get Jump j e h = arms_get a c f j h
  plain_get Branch j e h = arms_get a c f j h
  plain_get Exchanged j e h =
      swapped_get (arms_from a f c) j ∙ ap (λ (k : ℕ). get_or (arms_from a f c) (source_of Exchanged k j) no_arm) (arms_count a f c)
      ∙ arms_get a c f (source_of Exchanged c j) (source_below Exchanged c j h)
  plain_get (Bridge i) j e h = absurd (e i refl)

-- ---- the arms written so far, j of them
pub record Leaves (a : Arms) (f c : ℕ) (how : Leaving) (b₀ : Arms) (q : ℕ) (b : Arms) (j : ℕ) : Type 0 where
  pub sized : ArmsSized b
  pub first : b.first ≡ b₀.first
  pub count : b.count ≡ b₀.count
  pub kept : Below q b b₀
  pub done : (x : ℕ) → x < j → arm_at b (q + x) ≡ arm_at a (f + source_of how c x)

pub leaves_turn : {a : Arms} {f c : ℕ} {how : Leaving} {b₀ : Arms} {q : ℕ} {b : Arms} {j : ℕ} → Leaves a f c how b₀ q b j → q + j < arms → Leaves a f c how b₀ q (with_arm b (q + j) a (f + source_of how c j)) (j + 1)
unfolding with_arm
leaves_turn {a} {f} {c} {how} {b₀} {q} {b} {j} l h =
    let y = f + source_of how c j in
    record {
      sized = record { first = l.sized.first; count = l.sized.count; to = simp length-set l.sized.to; args = simp length-set l.sized.args; weight = simp length-set l.sized.weight };
      first = l.first;
      count = l.count;
      kept = λ x r. put_other b (q + j) a y x (λ e. omega (arith, r, e)) ∙ l.kept x r;
      done = λ x r. split_lt x j
          (λ w. put_other b (q + j) a y (q + x) (λ e. omega (arith, w, e)) ∙ l.done x w)
          (λ w. let e : x ≡ j = omega (arith, r, w) in
          subst (λ (n : ℕ). arm_at (with_arm b (q + j) a y) (q + n) ≡ arm_at a (f + source_of how c n)) (sym e) (put_same b (q + j) a y l.sized h));
    }

module _ {a : Arms} {f c : ℕ} {how : Leaving} {b₀ : Arms} {q : ℕ} {b : Arms} {j : ℕ} (l : Leaves a f c how b₀ q b j) (n new : ℕ) (fe : f ≡ get_or a.first n 0) (ce : c ≡ get_or a.count n 0) (all : j ≡ c) where
  -- the block's arms by what stands at each place
  each : (d : Arms) (v : Leaving) → ((x : ℕ) → x < c → arm_at d (q + x) ≡ get_or (arms_left new (arms_from a f c) v) x no_arm) → arms_from d q (get_or a.count n 0) ≡ arms_left new (leaves a n) v
  unfolding leaves
  each d v h =
      let e : length (arms_left new (arms_from a f c) v) ≡ c = left_length new (arms_from a f c) v ∙ arms_count a f c in
      rw (← fe, ← ce) (
      subst (λ (k : ℕ). arms_from d q k ≡ arms_left new (arms_from a f c) v) e
      (arms_each d q (arms_left new (arms_from a f c) v) (λ x k. h x (omega (arith, e, k)))))

  -- THE LAW, where no arm goes to a bridge
  pub left_plain : Bridgeless how → Left a n how new b₀ q b
  left_plain e = record {
    sized = l.sized;
    first = l.first;
    count = l.count;
    below = l.kept;
    left = each b how (λ x k. l.done x (omega (arith, k, all)) ∙ sym (plain_get a f c new how x e k));
  }

  -- and where arm i does
  module _ (i : ℕ) (v : how ≡ Bridge i) (h : i < c) (room : q + c ≤ arms) where
    done : (x : ℕ) → x < c → arm_at b (q + x) ≡ arm_at a (f + x)
    unfolding source_of
    done x k = l.done x (omega (arith, k, all)) ∙ ap (λ (w : Leaving). arm_at a (f + source_of w c x)) v

    abbrev bridged : Arms
    bridged = record b { to = set b.to (q + i) new; args = set b.args (q + i) 0 }

    abbrev plain_arm : Arm
    plain_arm = record { to = new; args = 0; weight = (get_or (arms_from a f c) i no_arm).weight }

    bridged_other : (x : ℕ) → (x ≡ q + i → ⊥) → arm_at bridged x ≡ arm_at b x
    unfolding arm_at
    bridged_other x z = rw (get_or-set_other b.to (q + i) x new 0 z, get_or-set_other b.args (q + i) x 0 0 z)

    bridged_same : arm_at bridged (q + i) ≡ plain_arm
    unfolding arm_at
    bridged_same =
        rw (get_or-set_same b.to (q + i) new 0 (omega (arith, h, room, l.sized.to)), get_or-set_same b.args (q + i) 0 0 (omega (arith, h, room, l.sized.args)))
        (ap (λ (w : ℕ). record { to = new; args = 0; weight = w }) (ap (λ (x : Arm). x.weight) (done i h ∙ sym (arms_get a c f i h))))

    bridged_get : (x : ℕ) → x < c → arm_at bridged (q + x) ≡ get_or (arms_left new (arms_from a f c) (Bridge i)) x no_arm
    unfolding arms_left
    bridged_get x k = go (eqb i x) refl ∙ sym (set_get i plain_arm (arms_from a f c) x (omega (arith, k, arms_count a f c)))
      where
        go : (t : Bool) → eqb i x ≡ t → arm_at bridged (q + x) ≡ cond t plain_arm (get_or (arms_from a f c) x no_arm)
        go true e = ap (λ (m : ℕ). arm_at bridged (q + m)) (sym (eqb-true i x e)) ∙ bridged_same
        go false e = bridged_other (q + x) (λ z. eqb-false i x e (omega (arith, z))) ∙ done x k ∙ sym (arms_get a c f x k)

    pub left_bridged : Left a n how new b₀ q (record b { to = set b.to (q + i) new; args = set b.args (q + i) 0 })
    left_bridged = record {
      sized = record { first = l.sized.first; count = l.sized.count; to = simp length-set l.sized.to; args = simp length-set l.sized.args; weight = l.sized.weight };
      first = l.first;
      count = l.count;
      below = λ x k. bridged_other x (λ z. omega (arith, k, z)) ∙ l.kept x k;
      left = rw v (each bridged (Bridge i) bridged_get);
    }
