-- `writer::put_blocks` meets its contract: while it runs, the front of the room has the blocks so far.
use Rattle.std.proofs.Common.{◌≡◌, ◌*◌, ◌++◌, drop}
use Rattle.limits.specs.Limits.{size}
use Rattle.rules.specs.Records.{blocks_bytes}
use Rattle.records.specs.Tables.{up_to}
use Rattle.writer.proofs.put_blocks.Given as goal

abbrev pub invariant-loop-place : goal.invariant-loop-place
invariant-loop-place l = l.out ≡ blocks_bytes (up_to l.g.b l.g.a l.place) ++ drop (size * l.place) l.initial.out
