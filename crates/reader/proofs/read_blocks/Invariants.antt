-- `reader::read_blocks` meets its contract: while it runs, the records so far are blocks and the tables say what they say.
use Rattle.std.proofs.Common.{◌≡◌}
use Rattle.rules.specs.Records.{before}
use Rattle.rules.specs.Refusals.{entry_of}
use Rattle.reader.specs.Reads.{BlocksHeld}
use Rattle.reader.proofs.read_blocks.Given as goal

abbrev pub invariant-loop-i : goal.invariant-loop-i
invariant-loop-i l = record { held : BlocksHeld l.s l.i l.b; entry : l.entry ≡ entry_of (before l.s l.i) }
