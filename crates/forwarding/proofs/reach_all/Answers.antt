-- `forwarding::reach_all` meets its contract: at first no arm is seen.
use Rattle.std.proofs.Common.{sym, ◌∙◌, false}
use Rattle.limits.specs.Limits.{blocks}
use Rattle.forwarding.proofs.StepLaws.{same_get}
use Rattle.forwarding.proofs.ReachLaws.{entered_none}
use Rattle.forwarding.proofs.reach_all.Goals as goal

pub loop-i-init : goal.loop-i-init
loop-i-init c x = same_get false blocks x ∙ sym (entered_none c.args.g.now.b c.args.g.now.a x)
