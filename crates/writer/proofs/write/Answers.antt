-- `writer::write` meets its contract: the blocks, and behind them the arms.
use Rattle.std.proofs.Common.{◌∙◌}
use Rattle.records.specs.Tables.{tabled}
use Rattle.writer.proofs.WriteLaws.{both_parts}
use Rattle.writer.proofs.write.Goals as goal

pub returns : goal.returns
unfolding tabled
returns c =
    let g = c.args.g.now in
    c.put_arms.ensures ∙ both_parts g.b g.a g.blocks c.args.out.now _ c.put_blocks.ensures
