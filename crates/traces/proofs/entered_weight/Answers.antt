-- `traces::entered_weight` meets its contract.
use mathlib.Core.Path.{sym, ◌∙◌}
use Rattle.traces.proofs.RoundLaws.{no_weight, its_weight}
use Rattle.traces.proofs.entered_weight.Goals as goal

pub returns-in-Some : goal.returns-in-Some
returns-in-Some c = c.weight_of.ensures ∙ its_weight c.args.g.now c.requires.0 _ (sym c.requires.1 ∙ c.in-Some.is)

pub returns-in-None : goal.returns-in-None
returns-in-None c = no_weight _ (sym c.requires.1 ∙ c.in-None.is)
