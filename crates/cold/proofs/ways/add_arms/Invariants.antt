-- `ways::add_arms` meets its contract: while it runs, the first arms are counted.
use lib.ListN.{take}
use Rattle.cold.specs.Ways.{Added}
use Rattle.cold.proofs.ways.add_arms.Given as goal

abbrev pub invariant-loop-to : goal.invariant-loop-to
invariant-loop-to l = Added (take l.to-index l.to-items) l.initial.table l.table
