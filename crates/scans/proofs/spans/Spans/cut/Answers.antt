-- `Spans::cut` meets its contract: the first i places are cut.
use Rattle.std.proofs.Common.{rules, ◌∙◌, length-set}
use Rattle.records.specs.Tables.{in_order}
use Rattle.scans.proofs.CutLaws.{cut_next}
use Rattle.scans.proofs.spans.Spans.cut.Goals as goal

pub loop-i-preserved : goal.loop-i-preserved
unfolding in_order
loop-i-preserved c =
    let o = c.args.order.now in
    let l = c.loop-i in
    let v = l.invariant in
    rw c.from.ensures (record {
      span_long = length-set _ _ _ ∙ v.span_long;
      upto_long = length-set _ _ _ ∙ v.upto_long;
      cut = cut_next o.block o.len l.i l.span l.upto (search rules) v.span_long v.upto_long c.requires.0 c.requires.1 (c.requires.2 l.i c.loop-i-test.true) c.loop-i-test.true v.cut;
    })
