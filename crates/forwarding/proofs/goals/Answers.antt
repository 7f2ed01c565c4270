-- `forwarding::goals` meets its contract: while it runs, the goals of the blocks so far are in the table.
use Rattle.std.proofs.Common.{rules, refl}
use Rattle.forwarding.proofs.StepLaws.{number_in, goals_none, goals_more}
use Rattle.forwarding.proofs.goals.Goals as goal

pub loop-i-init : goal.loop-i-init
loop-i-init c = (refl, goals_none c.args.g.now)

pub goal-requires : goal.goal-requires
goal-requires c = (c.requires, number_in c.args.g.now c.loop-i.i c.loop-i-test.true)

pub loop-i-preserved : goal.loop-i-preserved
loop-i-preserved c =
    let l = c.loop-i in
    (search rules, goals_more c.args.g.now c.requires l.onward l.i c.goal.result l.invariant.0 c.loop-i-test.true l.invariant.1 c.goal.ensures)
