-- `Ways::count` meets its contract: while it runs, the arms of the first i blocks are counted.
use Rattle.cold.specs.Ways.{links_of, Counted}
use Rattle.cold.proofs.ways.Ways.count.Given as goal

abbrev pub invariant-loop-i : goal.invariant-loop-i
invariant-loop-i l = Counted (links_of l.g) l.g.b.marks l.i l.ways
