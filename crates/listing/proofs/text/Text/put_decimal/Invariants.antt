-- `Text::put_decimal` meets its contract: while it runs, the last digits are made.
use Rattle.listing.proofs.DigitLaws.{Digits}
use Rattle.listing.proofs.text.Text.put_decimal.Given as goal

abbrev pub invariant-loop-rest : goal.invariant-loop-rest
invariant-loop-rest l = Digits l.n l.digits l.at l.rest

abbrev pub decreases-loop-rest : goal.decreases-loop-rest
decreases-loop-rest l = l.rest
