-- `cold::gather` meets its contract: while it runs, those of the first blocks of the order are gathered.
use lib.ListN.{take}
use Rattle.cold.specs.Sides.{on_side, Gathered}
use Rattle.cold.proofs.gather.Given as goal

abbrev pub invariant-loop-k : goal.invariant-loop-k
invariant-loop-k l = Gathered (on_side l.b.marks l.cold (take l.k-index l.k-items)) l.initial.out l.out
