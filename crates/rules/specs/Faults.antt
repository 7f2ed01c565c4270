-- The refusals of the code, by document 01's numbers.
use Rattle.std.specs.Prelude.{ℕ}
use Rattle.std.specs.declared.result.Result.{Result}
use Rattle.std.specs.declared.result.Result.TheVariants.{Ok, Err}
use Rattle.rules.specs.declared.Fault.{Fault}
use Rattle.rules.specs.declared.Fault.TheVariants.{TooLong, NotWhole, OutsideLayout, OutOfOrder, ListedBefore, SecondEntry, NotListed, TooManyArms, TooManyForEnd, NoRoom}
use Rattle.rules.specs.declared.Refusal.{Refusal}
use Rattle.rules.specs.Refusals.{Verdict, fine}

-- "Refusal numbers"
abbrev pub number_of : Fault → ℕ
number_of TooLong = 1
number_of NotWhole = 2
number_of OutsideLayout = 3
number_of OutOfOrder = 4
number_of ListedBefore = 5
number_of SecondEntry = 6
number_of NotListed = 7
number_of TooManyArms = 8
number_of TooManyForEnd = 9
number_of NoRoom = 10

-- what a refusal says of a file
abbrev pub said : Refusal → Verdict
said r = record { number = number_of r.fault; place = r.place }

-- what a result says of it
abbrev pub verdict_of : {T : Type 0} → Result T Refusal → Verdict
verdict_of (Ok _) = fine
verdict_of (Err r) = said r
