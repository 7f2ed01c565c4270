-- `writer::put_leaving` meets its contract: while it runs, the front of the room has the arms so far.
use Rattle.std.proofs.Common.{◌≡◌, ◌*◌, ◌++◌, drop}
use Rattle.limits.specs.Limits.{size}
use Rattle.rules.specs.Records.{leaving_bytes}
use Rattle.records.specs.Tables.{arms_from}
use Rattle.writer.proofs.put_leaving.Given as goal

abbrev pub invariant-loop-j : goal.invariant-loop-j
invariant-loop-j l = l.out ≡ leaving_bytes l.n (arms_from l.a l.first l.j) ++ drop (size * l.j) l.initial.out
