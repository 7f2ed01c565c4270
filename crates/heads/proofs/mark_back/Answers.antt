-- `heads::mark_back` meets its contract.
use Rattle.std.proofs.Common.{◌∙◌}
use Rattle.heads.proofs.MarkLaws.{back_none, back_more}
use Rattle.heads.proofs.mark_back.Goals as goal

pub loop-i-init : goal.loop-i-init
loop-i-init c = λ m. c.none-back.ensures m ∙ back_none c.args.g.now c.args.piece.now m

pub loop-i-preserved : goal.loop-i-preserved
loop-i-preserved c = λ m. back_more c.args.g.now c.args.piece.now c.loop-i.i m _ _ (c.loop-i.invariant m) (c.mark_arms.ensures m)
