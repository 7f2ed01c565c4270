-- `Text::put_decimal` meets its contract: while it runs, the last digits are made.
use Rattle.std.proofs.Common.{ℕ, ap, arith, List, length, subst}
use Rattle.listing.specs.Put.{Put}
use Rattle.listing.proofs.DigitLaws.{tens, digits_none, digits_room, digits_next, digits_last}
use Rattle.listing.proofs.text.Text.put_decimal.Goals as goal

pub loop-rest-init : goal.loop-rest-init
loop-rest-init c = digits_none c.args.n

pub overflow_sub-at-in-loop-rest : goal.overflow_sub-at-in-loop-rest
unfolding tens
overflow_sub-at-in-loop-rest c = omega (arith, digits_room _ _ _ _ c.loop-rest.invariant (omega arith) c.loop-rest-test.true)

pub loop-rest-preserved : goal.loop-rest-preserved
unfolding tens
loop-rest-preserved c = digits_next _ _ _ _ c.loop-rest.invariant (omega arith) c.loop-rest-test.true

pub put_word-requires : goal.put_word-requires
put_word-requires c = omega (arith, c.requires, ap length (digits_last _ _ _ _ c.loop-rest.invariant c.loop-rest-test.false))

pub returns : goal.returns
returns c = subst (λ (s : List ℕ). Put s c.args.self.now c.put_word.new.self) (digits_last _ _ _ _ c.loop-rest.invariant c.loop-rest-test.false) c.put_word.ensures
