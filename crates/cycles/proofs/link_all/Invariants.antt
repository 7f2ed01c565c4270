-- `cycles::link_all` meets its contract: while it runs, the arms of the first listed blocks are linked.
use Rattle.std.proofs.Common.{◌≡◌}
use Rattle.cycles.specs.Inward.{Lists, ins}
use Rattle.cycles.proofs.StandingLaws.{armed}
use Rattle.cycles.proofs.link_all.Given as goal

abbrev pub invariant-loop-m : goal.invariant-loop-m
invariant-loop-m l = (l.t.len ≡ armed l.g.b l.g.a l.m-index) × Lists l.t (ins l.g l.m-index)
