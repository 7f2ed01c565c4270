-- One block record more: what the tables then say, and how a refusal is the first. Assumes nothing.
use Prim.Native.Nat.{ℕ, suc, ◌+◌, ◌<◌, ◌/◌}
use native.Mathlib.Numerals.{add-one}
use native.Mathlib.Omega.{arith}
use mathlib.Core.Path.{◌≡◌, refl, sym, ap, subst, ◌∙◌}
use mathlib.Core.Bool.{Bool, true, false, cond, ◌&&◌, true≢false}
use mathlib.Core.List.{List}
use lib.Dec.{ltb, eqb}
use lib.ListN.{length, get_or, length-set, length-replicate}
use lib.Seq.{get_or-set_same, get_or-set_other}
use borrow.Author.Tests.{ltb-false}
use Rattle.std.specs.Prelude.{Option, None, Some, is_some}
use Rattle.limits.specs.Limits.{size, numbers, blocks}
use Rattle.lists.proofs.Choices.{split_lt}
use Rattle.lists.proofs.Tables.{set_get, zero_get, marked_none, marked_room, marked_more}
use Rattle.rules.specs.declared.Record.TheVariants.{Block}
use Rattle.rules.specs.declared.Fault.{Fault}
use Rattle.rules.specs.declared.Fault.TheVariants.{ListedBefore, SecondEntry}
use Rattle.rules.specs.Graph.{is_entry}
use Rattle.rules.specs.Records.{record_at, before}
use Rattle.rules.specs.Refusals.{place_of, entry_of, arm_count, listed as is_listed, record_checks, all_checks, fine, first, verdict}
use Rattle.rules.proofs.Layouts.{block_small}
use Rattle.rules.proofs.Verdicts.{at, clear_join, before_length}
use Rattle.records.specs.declared.Blocks.{Blocks}
use Rattle.records.specs.Tables.{no_blocks, Blank}
use Rattle.records.specs.Faults.{block_fault, entry_next}
use Rattle.reader.specs.Reads.{listed, InRecords, says_block, BlocksHeld}
use Rattle.reader.proofs.RefusedLaws.{told, refused_at}

-- 5 and 6, as the reader asks for them
block_faulty : (x y : Bool) (k : ℕ) → cond x (at 5 k) (cond y (at 6 k) fine) ≡ told k (cond x (Some ListedBefore) (cond y (Some SecondEntry) None))
block_faulty true y k = refl
block_faulty false true k = refl
block_faulty false false k = refl

block_fine : (x y : Bool) → ◌≡◌ {A = Option Fault} (cond x (Some ListedBefore) (cond y (Some SecondEntry) None)) None → (x ≡ false) × (y ≡ false)
block_fine true y e = absurd (true≢false (ap is_some e))
block_fine false true e = absurd (true≢false (ap is_some e))
block_fine false false e = (refl, refl)

pub held_start : (s : List ℕ) → BlocksHeld s 0 no_blocks
unfolding no_blocks before all_checks arm_count place_of
held_start s =
    record {
      clear = tt;
      armless = refl;
      place = λ n. zero_get blocks n;
      says = λ j h. absurd (omega (arith, h));
      back = λ j h. absurd (omega (arith, h));
      full = marked_none blocks numbers;
      blank = λ n h. record { marks = zero_get blocks n; ends = zero_get blocks n; weight = zero_get blocks n };
      sized =
          record {
            place = length-replicate {A = ℕ} blocks 0;
            listed = length-replicate {A = ℕ} blocks 0;
            marks = length-replicate {A = ℕ} blocks 0;
            ends = length-replicate {A = ℕ} blocks 0;
            weight = length-replicate {A = ℕ} blocks 0;
          };
    }

module _ (s : List ℕ) (i : ℕ) (b : Blocks) (h : BlocksHeld s i b) where
  module _ (number marks end weight : ℕ) (e : record_at s i ≡ Block number marks end weight) (entry : ℕ) (entry_is : entry ≡ entry_of (before s i)) where
    same_fault : block_fault (get_or b.place number 0) entry marks ≡ block_fault (place_of number (before s i)) (entry_of (before s i)) marks
    same_fault = rw (h.place number, entry_is)

    pub block_refused : InRecords s → i < length s / size → (f : Fault) → block_fault (get_or b.place number 0) entry marks ≡ Some f → verdict s ≡ told i (Some f)
    unfolding record_checks first is_listed block_fault
    block_refused file inside f w =
        refused_at s i file inside h.clear (Block number marks end weight) f e
        (rw h.armless
        (block_faulty (ltb 0 (place_of number (before s i))) (is_entry marks && ltb 0 (entry_of (before s i))) (length (before s i))
        ∙ ap (told (length (before s i))) (sym same_fault ∙ w)))

    pub entry_turn : entry_next entry marks i ≡ entry_of (before s (i + 1))
    unfolding before entry_of entry_next
    entry_turn = rw add-one (rw e (rw (before_length s i, entry_is)))

    module _ (w : block_fault (get_or b.place number 0) entry marks ≡ None) where
      small : number < numbers
      small = block_small s i number marks end weight e

      clears : (is_listed number (before s i) ≡ false) × (is_entry marks && ltb 0 (entry_of (before s i)) ≡ false)
      unfolding is_listed block_fault
      clears = block_fine (ltb 0 (place_of number (before s i))) (is_entry marks && ltb 0 (entry_of (before s i))) (sym same_fault ∙ w)

      fresh : get_or b.place number 0 ≡ 0
      unfolding is_listed
      fresh = h.place number ∙ omega (arith, ltb-false 0 (place_of number (before s i)) clears.0)

      -- there is room for one more
      pub listed_room : i < blocks
      listed_room = omega (arith, h.full, marked_room b.place numbers number small fresh)

      -- a block that is listed already is another
      other : (j : ℕ) → j < i → get_or b.listed j 0 ≡ number → ⊥
      other j l q = omega (arith, sym (h.back j l) ∙ ap (λ (n : ℕ). get_or b.place n 0) q ∙ fresh)

      abbrev next : Blocks
      next = listed b i number marks end weight

      -- entries of other numbers are as they were
      kept : (n : ℕ) → (n ≡ number → ⊥) → says_block next n ≡ says_block b n
      kept n d =
          rw (
            get_or-set_other b.marks number n marks 0 d,
            get_or-set_other b.ends number n end 0 d,
            get_or-set_other b.weight number n weight 0 d,
          )

      stored : says_block next number ≡ Block number marks end weight
      stored =
          rw (
            get_or-set_same b.marks number marks 0 (omega (arith, small, h.sized.marks)),
            get_or-set_same b.ends number end 0 (omega (arith, small, h.sized.ends)),
            get_or-set_same b.weight number weight 0 (omega (arith, small, h.sized.weight)),
          )

      here : get_or next.listed i 0 ≡ number
      here = get_or-set_same b.listed i number 0 (omega (arith, listed_room, h.sized.listed))

      earlier : (j : ℕ) → j < i → get_or next.listed j 0 ≡ get_or b.listed j 0
      earlier j l = get_or-set_other b.listed i j number 0 (λ q. omega (arith, q))

      place_next : (n : ℕ) → get_or next.place n 0 ≡ cond (eqb n number) (i + 1) (get_or b.place n 0)
      place_next n = set_get b.place number (i + 1) n (omega (arith, small, h.sized.place))

      says_next : (j : ℕ) → j < suc i → record_at s j ≡ says_block next (get_or next.listed j 0)
      says_next j l =
          split_lt j i
          (λ k. h.says j k ∙ sym (kept (get_or b.listed j 0) (other j k)) ∙ ap (says_block next) (sym (earlier j k)))
          (λ k.
          let q : j ≡ i = omega (arith, l) in
          rw q (e ∙ sym stored ∙ ap (says_block next) (sym here)))

      back_next : (j : ℕ) → j < suc i → get_or next.place (get_or next.listed j 0) 0 ≡ suc j
      back_next j l =
          split_lt j i
          (λ k.
          ap (λ (n : ℕ). get_or next.place n 0) (earlier j k)
          ∙ get_or-set_other b.place number (get_or b.listed j 0) (i + 1) 0 (other j k)
          ∙ h.back j k)
          (λ k.
          let q : j ≡ i = omega (arith, l) in
          rw q
          (ap (λ (n : ℕ). get_or next.place n 0) here
          ∙ get_or-set_same b.place number (i + 1) 0 (omega (arith, small, h.sized.place))
          ∙ add-one i))

      blank_next : (n : ℕ) → get_or next.place n 0 ≡ 0 → Blank next n
      blank_next n z =
          let d : n ≡ number → ⊥ = λ q. omega (arith, sym (get_or-set_same b.place number (i + 1) 0 (omega (arith, small, h.sized.place))) ∙ ap (λ (m : ℕ). get_or next.place m 0) (sym q) ∙ z) in
          let k = h.blank n (sym (get_or-set_other b.place number n (i + 1) 0 d) ∙ z) in
          record {
            marks = get_or-set_other b.marks number n marks 0 d ∙ k.marks;
            ends = get_or-set_other b.ends number n end 0 d ∙ k.ends;
            weight = get_or-set_other b.weight number n weight 0 d ∙ k.weight;
          }

      turned : BlocksHeld s (suc i) next
      unfolding before all_checks arm_count place_of record_checks
      turned =
          let long : i + 1 ≡ suc (length (before s i)) = omega (arith, before_length s i) in
          let none : ltb 0 (arm_count (before s i)) ≡ false = rw h.armless in
          record {
            clear = clear_join (all_checks (before s i)) (record_checks (before s i) (record_at s i)) h.clear (rw e (none, (clears.0, (clears.1, tt))));
            armless = rw e h.armless;
            place = λ n. rw e (place_next n ∙ rw (long, h.place n));
            says = says_next;
            back = back_next;
            full = marked_more b.place numbers number (i + 1) small (omega (arith, small, h.sized.place)) fresh (omega arith) ∙ ap suc h.full;
            blank = blank_next;
            sized =
                record {
                  place = length-set b.place number (i + 1) ∙ h.sized.place;
                  listed = length-set b.listed i number ∙ h.sized.listed;
                  marks = length-set b.marks number marks ∙ h.sized.marks;
                  ends = length-set b.ends number end ∙ h.sized.ends;
                  weight = length-set b.weight number weight ∙ h.sized.weight;
                };
          }

      pub block_turn : BlocksHeld s (i + 1) (listed b i number marks end weight)
      block_turn = subst (λ (n : ℕ). BlocksHeld s n next) (sym (add-one i)) turned
