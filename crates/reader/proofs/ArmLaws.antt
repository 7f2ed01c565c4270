-- One arm record more: what the tables then say, and how a refusal is the first. Assumes nothing.
use Prim.Native.Nat.{ℕ, suc, ◌+◌, ◌-◌, ◌*◌, ◌/◌, ◌≤◌, ◌<◌}
use native.Mathlib.Numerals.{add-one}
use native.Mathlib.Omega.{arith}
use mathlib.Core.Path.{◌≡◌, refl, sym, ap, subst, ◌∙◌}
use mathlib.Core.Bool.{Bool, true, false, not, cond, ◌&&◌, true≢false}
use mathlib.Core.List.{List, [], ◌∷◌, ◌++◌, append-nil}
use lib.Dec.{ltb, leb, eqb}
use lib.ListN.{length, get_or, take, drop, length-set, length-drop, length-replicate}
use lib.Seq.{drop-drop, take_all, get_or-set_same, get_or-set_other}
use borrow.Author.Tests.{lt-ltb, eq-eqb, ne_eqb, eqb-true, eqb-false, ltb-true, ltb-false, leb-false}
use Rattle.std.specs.Prelude.{Option, None, Some, is_some}
use Rattle.limits.specs.Limits.{size, most_arms, blocks, arms}
use Rattle.lists.proofs.Choices.{split_eq, split_bool, split_lt}
use Rattle.lists.proofs.Tables.{zero_get, within}
use Rattle.rules.specs.declared.Record.{Record}
use Rattle.rules.specs.declared.Record.TheVariants.{Block, Arm}
use Rattle.rules.specs.declared.Fault.{Fault}
use Rattle.rules.specs.declared.Fault.TheVariants.{OutOfOrder, NotListed, TooManyArms}
use Rattle.rules.specs.Graph as graph
use Rattle.rules.specs.Records.{record_of, record_at, before, leaving, arms_of, listing, blocks_of}
use Rattle.rules.specs.Refusals.{place_of, arm_count, last_of, listed, record_checks, all_checks, fine, first}
use Rattle.rules.proofs.Verdicts.{at, clear_join}
use Rattle.rules.proofs.Listed.{place_one, none_arms, none_last, late_arms}
use Rattle.records.specs.declared.Blocks.{Blocks}
use Rattle.records.specs.declared.Arms.{Arms}
use Rattle.records.specs.Tables.{arm_at, arms_from, leaves, no_arms, ArmsSized, ArmsWithin, Has}
use Rattle.records.specs.Faults.{arm_fault, first_next}
use Rattle.records.proofs.TableLaws.{arms_kept, arms_more, some_arms}
use Rattle.reader.specs.Reads.{added, InRecords, BlocksHeld, BlocksDone, Behind, ArmsHeld}
use Rattle.reader.proofs.RefusedLaws.{told}

-- 7, 4 and 8, as the reader asks for them
arm_faulty : (x y z : Bool) (k : ℕ) → cond (not x) (at 7 k) (cond y (at 4 k) (cond z (at 8 k) fine)) ≡ told k (cond x (cond y (Some OutOfOrder) (cond z (Some TooManyArms) None)) (Some NotListed))
arm_faulty false y z k = refl
arm_faulty true true z k = refl
arm_faulty true false true k = refl
arm_faulty true false false k = refl

arm_fine : (x y z : Bool) → ◌≡◌ {A = Option Fault} (cond x (cond y (Some OutOfOrder) (cond z (Some TooManyArms) None)) (Some NotListed)) None → (x ≡ true) × (y ≡ false) × (z ≡ false)
arm_fine false y z e = absurd (true≢false (ap is_some e))
arm_fine true true z e = absurd (true≢false (ap is_some e))
arm_fine true false true e = absurd (true≢false (ap is_some e))
arm_fine true false false e = (refl, refl, refl)

and_left : (x y : Bool) → x && y ≡ true → x ≡ true
and_left true y e = refl
and_left false y e = e

-- an arm that is not refused comes from a listed block
from_listed : (from to last j : ℕ) → arm_fault from to last j ≡ None → 0 < from
unfolding arm_fault
from_listed from to last j e = ltb-true 0 from (and_left (ltb 0 from) (ltb 0 to) (arm_fine (ltb 0 from && ltb 0 to) (ltb from last) (leb most_arms j) e).0)

pub from_inside : (place : List ℕ) (from to last j : ℕ) → length place ≡ blocks → arm_fault (get_or place from 0) (get_or place to 0) last j ≡ None → from < blocks
from_inside place from to last j long w = omega (arith, long, within place from (from_listed (get_or place from 0) (get_or place to 0) last j w))

-- ---- the file from record f on
record_drop : (s : List ℕ) (f j : ℕ) → record_at (drop (size * f) s) j ≡ record_at s (f + j)
unfolding record_at
record_drop s f j =
    let e : size * f + size * j ≡ size * (f + j) = omega arith in
    ap (λ (l : List ℕ). record_of (take size l)) (drop-drop (size * j) (size * f) s ∙ ap (λ (k : ℕ). drop k s) e)

pub behind : (s : List ℕ) (i : ℕ) (b : Blocks) → InRecords s → BlocksDone s i b → Behind s (take (length s - size * i) (drop (size * i) s)) i b
behind s i b f d = record { file = f; done = d; rest = take_all (length s - size * i) (drop (size * i) s) (omega (arith, length-drop (size * i) s)) }

module _ {s t : List ℕ} {i : ℕ} {b : Blocks} (h : Behind s t i b) where
  pub record_behind : (j : ℕ) (r : Record) → record_at t j ≡ r → record_at s (i + j) ≡ r
  record_behind j r e = sym (record_drop s i j) ∙ ap (λ (l : List ℕ). record_at l j) (sym h.rest) ∙ e

  -- so many records are behind them
  pub behind_long : i + length t / size ≡ length s / size
  behind_long = omega (arith, h.done.within, h.file.whole, ap length h.rest, length-drop (size * i) s)

-- ---- the start
none_first : (n : ℕ) → get_or no_arms.first n 0 ≡ 0
unfolding no_arms
none_first n = zero_get blocks n

none_count : (n : ℕ) → get_or no_arms.count n 0 ≡ 0
unfolding no_arms
none_count n = zero_get blocks n

none_sized : ArmsSized no_arms
unfolding no_arms
none_sized =
    record {
      first = length-replicate {A = ℕ} blocks 0;
      count = length-replicate {A = ℕ} blocks 0;
      to = length-replicate {A = ℕ} arms 0;
      args = length-replicate {A = ℕ} arms 0;
      weight = length-replicate {A = ℕ} arms 0;
    }

none_within : ArmsWithin no_arms 0
none_within n = omega (arith, none_first n, none_count n)

none_leave : (n : ℕ) → leaves no_arms n ≡ []
unfolding leaves arms_from
none_leave n = rw (none_count n)

pub arms_start : (s : List ℕ) (i : ℕ) (b : Blocks) → BlocksHeld s i b → ArmsHeld b.place (before s i) (before s i) 0 no_arms
arms_start s i b h =
    record {
      clear = h.clear;
      count = h.armless;
      few = omega arith;
      place_is = h.place;
      each = λ n. none_leave n ∙ sym (none_arms n (before s i) h.armless);
      next = λ n p q. omega (arith, none_first n, none_count n);
      apart = λ n m d q x y. omega (arith, none_count n, x.from, x.below);
      fits = none_within;
      sized = none_sized;
      same = λ arms. refl;
    }

pub last_start : (s : List ℕ) (i : ℕ) (b : Blocks) → BlocksHeld s i b → 0 ≡ last_of (before s i)
last_start s i b h = sym (none_last (before s i) h.armless)

-- ---- the tables with one arm more
module _ (a : Arms) (j from to args weight : ℕ) (sized : ArmsSized a) (fits : ArmsWithin a j) (inside : from < blocks) (room : j < arms) where
  added_sized : ArmsSized (added a j from to args weight)
  added_sized =
      record {
        first = length-set a.first from _ ∙ sized.first;
        count = length-set a.count from _ ∙ sized.count;
        to = length-set a.to j to ∙ sized.to;
        args = length-set a.args j args ∙ sized.args;
        weight = length-set a.weight j weight ∙ sized.weight;
      }

  first_same : get_or (added a j from to args weight).first from 0 ≡ first_next (get_or a.first from 0) (get_or a.count from 0) j
  first_same = get_or-set_same a.first from _ 0 (omega (arith, sized.first))

  count_same : get_or (added a j from to args weight).count from 0 ≡ get_or a.count from 0 + 1
  count_same = get_or-set_same a.count from _ 0 (omega (arith, sized.count))

  first_other : (n : ℕ) → (n ≡ from → ⊥) → get_or (added a j from to args weight).first n 0 ≡ get_or a.first n 0
  first_other n d = get_or-set_other a.first from n _ 0 d

  count_other : (n : ℕ) → (n ≡ from → ⊥) → get_or (added a j from to args weight).count n 0 ≡ get_or a.count n 0
  count_other n d = get_or-set_other a.count from n _ 0 d

  -- a block's arms stand from its first on
  first_at : first_next (get_or a.first from 0) (get_or a.count from 0) j + get_or a.count from 0 ≤ j
  unfolding first_next
  first_at =
      split_eq (get_or a.count from 0)
      (λ z. rw (eq-eqb (get_or a.count from 0) 0 z) (omega (arith, z)))
      (λ z. rw (ne_eqb (get_or a.count from 0) 0 z) (fits from))

  added_within : ArmsWithin (added a j from to args weight) (j + 1)
  added_within n =
      split_bool (eqb n from)
      (λ q.
      let e = eqb-true n from q in
      rw e (omega (arith, first_same, count_same, first_at)))
      (λ q.
      let d = eqb-false n from q in
      omega (arith, first_other n d, count_other n d, fits n))

  arm_same : (q : ℕ) → q < j → arm_at (added a j from to args weight) q ≡ arm_at a q
  unfolding arm_at
  arm_same q l =
      let d : q ≡ j → ⊥ = λ e. omega (arith, e) in
      rw (get_or-set_other a.to j q to 0 d, get_or-set_other a.args j q args 0 d, get_or-set_other a.weight j q weight 0 d)

  arm_new : arm_at (added a j from to args weight) j ≡ record { to = to; args = args; weight = weight }
  unfolding arm_at
  arm_new =
      rw (
        get_or-set_same a.to j to 0 (omega (arith, sized.to)),
        get_or-set_same a.args j args 0 (omega (arith, sized.args)),
        get_or-set_same a.weight j weight 0 (omega (arith, sized.weight)),
      )

  -- the arms of other blocks stay
  leaves_other : (n : ℕ) → (n ≡ from → ⊥) → leaves (added a j from to args weight) n ≡ leaves a n
  unfolding leaves
  leaves_other n d =
      rw (first_other n d, count_other n d)
      (arms_kept (added a j from to args weight) a j arm_same (get_or a.count n 0) (get_or a.first n 0) (fits n))

  -- each of them
  had_other : (n q : ℕ) → (n ≡ from → ⊥) → Has (added a j from to args weight) n q → Has a n q
  had_other n q d x =
      record {
        from = omega (arith, first_other n d, x.from);
        below = omega (arith, first_other n d, count_other n d, x.below);
      }

  -- and before the new one
  before_new : (n q : ℕ) → (n ≡ from → ⊥) → Has (added a j from to args weight) n q → q < j
  before_new n q d x = omega (arith, (had_other n q d x).below, fits n)

  module _ (full : (get_or a.count from 0 ≡ 0 → ⊥) → get_or a.first from 0 + get_or a.count from 0 ≡ j) where
    ends_at : first_next (get_or a.first from 0) (get_or a.count from 0) j + get_or a.count from 0 ≡ j
    unfolding first_next
    ends_at =
        split_eq (get_or a.count from 0)
        (λ z. rw (eq-eqb (get_or a.count from 0) 0 z) (omega (arith, z)))
        (λ z. rw (ne_eqb (get_or a.count from 0) 0 z) (full z))

    had_from : (q : ℕ) → q < j → Has (added a j from to args weight) from q → Has a from q
    unfolding first_next
    had_from q l x =
        split_eq (get_or a.count from 0)
        (λ z. absurd (omega (arith, l, x.from, first_same, ends_at, z)))
        (λ z.
        let e : first_next (get_or a.first from 0) (get_or a.count from 0) j ≡ get_or a.first from 0 = rw (ne_eqb (get_or a.count from 0) 0 z) in
        record { from = omega (arith, first_same, e, x.from); below = omega (arith, full z, l) })

    -- an arm before the new one was its block's already
    had : (n q : ℕ) → q < j → Has (added a j from to args weight) n q → Has a n q
    had n q l x =
        split_bool (eqb n from)
        (λ e.
        let k = eqb-true n from e in
        subst (λ (m : ℕ). Has a m q) (sym k) (had_from q l (subst (λ (m : ℕ). Has (added a j from to args weight) m q) k x)))
        (λ e. had_other n q (eqb-false n from e) x)

    -- no arm is two blocks': of two blocks one is not the new arm's, so it is an arm from before
    added_apart : ((n m : ℕ) → (n ≡ m → ⊥) → (q : ℕ) → Has a n q → Has a m q → ⊥)
        → (n m : ℕ) → (n ≡ m → ⊥) → (q : ℕ) → Has (added a j from to args weight) n q → Has (added a j from to args weight) m q → ⊥
    added_apart apart n m d q x y =
        let l : q < j =
        split_bool (eqb n from)
        (λ e. before_new m q (λ k. d (eqb-true n from e ∙ sym k)) y)
        (λ e. before_new n q (eqb-false n from e) x) in
        apart n m d q (had n q l x) (had m q l y)

    before_it : arms_from a (first_next (get_or a.first from 0) (get_or a.count from 0) j) (get_or a.count from 0) ≡ leaves a from
    unfolding leaves first_next arms_from
    before_it =
        split_eq (get_or a.count from 0)
        (λ z. rw z)
        (λ z. rw (ne_eqb (get_or a.count from 0) 0 z))

    -- and the block that it leaves has it last
    leaves_from : leaves (added a j from to args weight) from ≡ leaves a from ++ (record { to = to; args = args; weight = weight } ∷ [])
    unfolding leaves
    leaves_from =
        let f = first_next (get_or a.first from 0) (get_or a.count from 0) j in
        let c = get_or a.count from 0 in
        rw (first_same, count_same ∙ add-one c)
        (arms_more (added a j from to args weight) c f
        ∙ ap (λ (l : List graph.Arm). l ++ (arm_at (added a j from to args weight) (f + c) ∷ []))
        (arms_kept (added a j from to args weight) a j arm_same c f (omega (arith, ends_at)) ∙ before_it)
        ∙ ap (λ (q : ℕ). leaves a from ++ (arm_at (added a j from to args weight) q ∷ [])) ends_at
        ∙ ap (λ (x : graph.Arm). leaves a from ++ (x ∷ [])) arm_new)

-- ---- one record more

-- the first record behind the blocks is no block
pub block_after : (s : List ℕ) (i k number marks end weight : ℕ) (b : Blocks) → BlocksDone s i b → i ≤ k → k < length s / size → record_at s k ≡ Block number marks end weight → 0 < k - i
block_after s i k number marks end weight b d l h e =
    split_lt i k (λ p. omega (arith, p))
    (λ p. let q : i ≡ k = omega (arith, l, p) in absurd (d.ended (omega (arith, l, h)) (rw (q, e) tt)))

module _ (place : List ℕ) (l₀ l : List Record) (j : ℕ) (a : Arms) (h : ArmsHeld place l₀ l j a) where
  -- a block comes too late
  pub block_late : 0 < j → (number marks end weight : ℕ) → first (record_checks l (Block number marks end weight)) ≡ told (length l) (Some OutOfOrder)
  unfolding record_checks first
  block_late p number marks end weight = let q : 0 < arm_count l = omega (arith, h.count, p) in rw (lt-ltb 0 (arm_count l) q)

  module _ (from to args weight last : ℕ) (last_is : last ≡ last_of l) where
    same_fault : arm_fault (get_or place from 0) (get_or place to 0) last j ≡ arm_fault (place_of from l) (place_of to l) (last_of l) (arm_count l)
    same_fault = rw (h.place_is from, h.place_is to, last_is, h.count)

    pub arm_refused : (f : Fault) → arm_fault (get_or place from 0) (get_or place to 0) last j ≡ Some f → first (record_checks l (Arm from to args weight)) ≡ told (length l) (Some f)
    unfolding record_checks first listed arm_fault
    arm_refused f w =
        arm_faulty (ltb 0 (place_of from l) && ltb 0 (place_of to l)) (ltb (place_of from l) (last_of l)) (leb most_arms (arm_count l)) (length l)
        ∙ ap (told (length l)) (sym same_fault ∙ w)

    module _ (w : arm_fault (get_or place from 0) (get_or place to 0) last j ≡ None) (long : length place ≡ blocks) (room : j < arms) where
      tests : (listed from l && listed to l ≡ true) × (ltb (place_of from l) (last_of l) ≡ false) × (leb most_arms (arm_count l) ≡ false)
      unfolding arm_fault listed
      tests =
          arm_fine (ltb 0 (place_of from l) && ltb 0 (place_of to l)) (ltb (place_of from l) (last_of l)) (leb most_arms (arm_count l)) (sym same_fault ∙ w)

      is_listed : 0 < place_of from l
      is_listed = omega (arith, from_listed (get_or place from 0) (get_or place to 0) last j w, h.place_is from)

      inside : from < blocks
      inside = from_inside place from to last j long w

      -- a block that has arms already is the last arm's
      full : (get_or a.count from 0 ≡ 0 → ⊥) → get_or a.first from 0 + get_or a.count from 0 ≡ j
      full z =
          let some : last_of l < place_of from l → ⊥ = λ p. z (some_arms a from (h.each from ∙ late_arms from l h.clear p)) in
          let back : last_of l ≤ place_of from l = ltb-false (place_of from l) (last_of l) tests.1 in
          h.next from is_listed (split_lt (last_of l) (place_of from l) (λ p. absurd (some p)) (λ p. omega (arith, back, p)))

      each_next : (n : ℕ) → leaves (added a j from to args weight) n ≡ arms_of n l ++ leaving n (Arm from to args weight)
      unfolding leaving
      each_next n =
          split_bool (eqb n from)
          (λ q.
          rw q
          (ap (leaves (added a j from to args weight)) (eqb-true n from q)
          ∙ leaves_from a j from to args weight h.sized h.fits inside room full
          ∙ ap (λ (k : List graph.Arm). k ++ (record { to = to; args = args; weight = weight } ∷ [])) (h.each from ∙ ap (λ (k : ℕ). arms_of k l) (sym (eqb-true n from q)))))
          (λ q. rw q (leaves_other a j from to args weight h.sized h.fits inside room n (eqb-false n from q) ∙ h.each n ∙ sym (append-nil (arms_of n l))))

      next_next : (n : ℕ) → 0 < place_of n l → place_of n l ≡ place_of from l
          → get_or (added a j from to args weight).first n 0 + get_or (added a j from to args weight).count n 0 ≡ suc j
      next_next n p q =
          let k : n ≡ from = place_one n from l q p in
          rw (k, first_same a j from to args weight h.sized h.fits inside room, count_same a j from to args weight h.sized h.fits inside room)
          (omega (arith, ends_at a j from to args weight h.sized h.fits inside room full))

      turned : ArmsHeld place l₀ (Arm from to args weight ∷ l) (suc j) (added a j from to args weight)
      unfolding all_checks arm_count place_of last_of arms_of blocks_of listing record_checks
      turned =
          record {
            clear = clear_join (all_checks l) (record_checks l (Arm from to args weight)) h.clear (rw tests.0 refl, (tests.1, (tests.2, tt)));
            count = ap suc h.count;
            few = omega (arith, leb-false most_arms (arm_count l) tests.2, h.count);
            place_is = h.place_is;
            each = each_next;
            next = next_next;
            apart = added_apart a j from to args weight h.sized h.fits inside room full h.apart;
            fits = subst (ArmsWithin (added a j from to args weight)) (add-one j) (added_within a j from to args weight h.sized h.fits inside room);
            sized = added_sized a j from to args weight h.sized h.fits inside room;
            same = λ f. append-nil (blocks_of f l) ∙ h.same f;
          }

      pub arm_turn : (s : List ℕ) (i k : ℕ) → l ≡ before s i → record_at s i ≡ Arm from to args weight → k ≡ suc j
          → ArmsHeld place l₀ (before s (i + 1)) k (added a j from to args weight)
      unfolding before
      arm_turn s i k m e q = rw (add-one i, q) (rw (e, sym m) turned)

    pub last_turn : (s : List ℕ) (i : ℕ) → l ≡ before s i → record_at s i ≡ Arm from to args weight → get_or place from 0 ≡ last_of (before s (i + 1))
    unfolding before last_of
    last_turn s i m e = rw add-one (rw (e, sym m) (h.place_is from))
