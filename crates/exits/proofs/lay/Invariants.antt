-- `exits::lay` meets its contract: while it runs, the blocks so far are laid as they should be.
use Rattle.records.specs.Tables.{in_order}
use Rattle.exits.proofs.Steps.{Laying}
use Rattle.exits.proofs.lay.Given as goal

abbrev pub invariant-loop-i : goal.invariant-loop-i
invariant-loop-i l = Laying l.g (in_order l.o) l.split l.laid l.i
