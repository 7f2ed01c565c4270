-- `walks::finished` meets its contract.
use Rattle.std.proofs.Common.{◌∙◌, arith}
use Rattle.marks.proofs.SetLaws.{size_most}
use Rattle.walks.proofs.GraphLaws.{finished_is, finished_long}
use Rattle.walks.proofs.finished.Goals as goal

pub reverse-requires : goal.reverse-requires
reverse-requires c = omega (arith, c.visit_all.ensures.0, size_most c.visit_all.new.w.seen)

pub returns : goal.returns
returns c =
    let v = c.visit_all in
    let t = c.args.g.now in
    (finished_is t c.requires v.new.w v.ensures.1 c.reverse.ensures.0, c.reverse.ensures.1 ∙ finished_long t c.requires v.new.w v.ensures.1 v.ensures.0)
