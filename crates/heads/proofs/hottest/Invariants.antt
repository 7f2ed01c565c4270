-- `heads::hottest` meets its contract: while it runs, the hottest of the first listed blocks is known.
use Rattle.std.proofs.Common.{◌≡◌}
use Rattle.rules.specs.Heads.{hottest}
use Rattle.records.specs.Tables.{up_to}
use Rattle.heads.proofs.hottest.Given as goal

abbrev pub invariant-loop-m : goal.invariant-loop-m
invariant-loop-m l = l.hot ≡ hottest (up_to l.g.b l.g.a l.m-index)
