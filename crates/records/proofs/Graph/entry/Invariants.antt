-- `Graph::entry` meets its contract: while it runs, no block before has the mark.
use Rattle.std.proofs.Common.{◌≡◌}
use Rattle.std.specs.Prelude.{None}
use Rattle.rules.specs.Graph.{entry}
use Rattle.records.specs.Tables.{up_to}
use Rattle.records.proofs.Graph.entry.Given as goal

abbrev pub invariant-loop-n : goal.invariant-loop-n
invariant-loop-n l = entry (up_to l.self.b l.self.a l.n-index) ≡ None
