-- `forwarding::leaves_at` meets its contract: while it runs, the chain from here on is the whole chain.
use Rattle.std.proofs.Common.{◌≡◌}
use Rattle.rules.specs.Graph.{numbers_of}
use Rattle.rules.specs.Forward.{leaves_at}
use Rattle.rules.proofs.Membership.{In}
use Rattle.records.specs.Tables.{tabled}
use Rattle.forwarding.proofs.leaves_at.Given as goal

abbrev pub invariant-loop-left : goal.invariant-loop-left
invariant-loop-left l = In l.at (numbers_of (tabled l.g)) × (leaves_at (tabled l.g) l._left l.at ≡ leaves_at (tabled l.g) l.steps l.start)
