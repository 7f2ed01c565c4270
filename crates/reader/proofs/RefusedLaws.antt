-- A record that is refused is the file's verdict, if none before it is. Assumes nothing.
use Rattle.std.proofs.Common.{ℕ, ◌≡◌, ◌<◌, ◌/◌, ◌∙◌, ap, arith, refl, List, length}
use Rattle.std.specs.Prelude.{Option, None, Some}
use Rattle.limits.specs.Limits.{size}
use Rattle.rules.specs.declared.Record.{Record}
use Rattle.rules.specs.declared.Record.TheVariants.{Outside}
use Rattle.rules.specs.declared.Fault.{Fault}
use Rattle.rules.specs.declared.Fault.TheVariants.{TooLong, NotWhole, OutsideLayout, OutOfOrder, ListedBefore, SecondEntry, NotListed, TooManyArms, TooManyForEnd, NoRoom}
use Rattle.rules.specs.Records.{record_at, before}
use Rattle.rules.specs.Refusals.{Verdict, record_checks, all_checks, Clear, fine, first, verdict}
use Rattle.rules.specs.Faults.{number_of}
use Rattle.rules.proofs.Verdicts.{at, first_after, before_length, at_record}
use Rattle.reader.specs.Reads.{InRecords}

-- what a fault at record k says of the file
abbrev pub told : ℕ → Option Fault → Verdict
told k None = fine
told k (Some f) = at (number_of f) k

number_some : (f : Fault) → number_of f ≡ 0 → ⊥
number_some TooLong e = omega (arith, e)
number_some NotWhole e = omega (arith, e)
number_some OutsideLayout e = omega (arith, e)
number_some OutOfOrder e = omega (arith, e)
number_some ListedBefore e = omega (arith, e)
number_some SecondEntry e = omega (arith, e)
number_some NotListed e = omega (arith, e)
number_some TooManyArms e = omega (arith, e)
number_some TooManyForEnd e = omega (arith, e)
number_some NoRoom e = omega (arith, e)

module _ (s : List ℕ) (i : ℕ) (file : InRecords s) (inside : i < length s / size) (clear : Clear (all_checks (before s i))) where
  pub refused_at : (r : Record) (f : Fault) → record_at s i ≡ r → first (record_checks (before s i) r) ≡ told (length (before s i)) (Some f) → verdict s ≡ told i (Some f)
  unfolding before all_checks
  refused_at r f e h =
      at_record s file.short file.whole i (number_of f) inside (number_some f)
      (first_after (all_checks (before s i)) (record_checks (before s i) (record_at s i)) clear
      ∙ ap (λ (q : Record). first (record_checks (before s i) q)) e
      ∙ h
      ∙ ap (at (number_of f)) (before_length s i))

  pub outside_at : record_at s i ≡ Outside → verdict s ≡ told i (Some OutsideLayout)
  unfolding record_checks first
  outside_at e = refused_at Outside OutsideLayout e refl
