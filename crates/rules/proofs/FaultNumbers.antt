-- No refusal has the number of a file that is accepted. Assumes nothing.
use Rattle.std.proofs.Common.{◌≡◌, arith}
use Rattle.rules.specs.declared.Fault.{Fault}
use Rattle.rules.specs.declared.Fault.TheVariants.{TooLong, NotWhole, OutsideLayout, OutOfOrder, ListedBefore, SecondEntry, NotListed, TooManyArms, TooManyForEnd, NoRoom}
use Rattle.rules.specs.Faults.{number_of}

pub numbered : (f : Fault) → number_of f ≡ 0 → ⊥
numbered TooLong e = omega (arith, e)
numbered NotWhole e = omega (arith, e)
numbered OutsideLayout e = omega (arith, e)
numbered OutOfOrder e = omega (arith, e)
numbered ListedBefore e = omega (arith, e)
numbered SecondEntry e = omega (arith, e)
numbered NotListed e = omega (arith, e)
numbered TooManyArms e = omega (arith, e)
numbered TooManyForEnd e = omega (arith, e)
numbered NoRoom e = omega (arith, e)
