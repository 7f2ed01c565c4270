-- `writer::put_arms` meets its contract: while it runs, the arms of the blocks so far stand behind the block records.
use Rattle.std.proofs.Common.{◌≡◌, ◌+◌, ◌*◌, ◌++◌, drop}
use Rattle.limits.specs.Limits.{size}
use Rattle.writer.proofs.WriteLaws.{arms_long, arms_front}
use Rattle.writer.proofs.put_arms.Given as goal

abbrev pub invariant-loop-i : goal.invariant-loop-i
invariant-loop-i l =
    record {
      at : l.at ≡ size * l.g.blocks + arms_long l.g.b l.g.a l.i;
      out : l.out ≡ arms_front l.g.b l.g.a l.initial.out (size * l.g.blocks) l.i ++ drop l.at l.initial.out;
    }
