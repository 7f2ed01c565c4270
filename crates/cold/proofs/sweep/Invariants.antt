-- `cold::sweep` meets its contract: while it runs, the blocks at the first i places had their turn.
use Rattle.cold.specs.Sweeps.{Swept}
use Rattle.cold.proofs.sweep.Given as goal

abbrev pub invariant-loop-i : goal.invariant-loop-i
invariant-loop-i l = Swept l.entry l.initial.g l.i l.g l.ways l.joined
