-- `walks::reach` meets its contract.
use Rattle.std.proofs.Common.{sym, ◌∙◌}
use Rattle.rules.proofs.PlainVisit.{nothing}
use Rattle.rules.proofs.Wholeness.{entry_in}
use Rattle.records.specs.Tables.{tabled}
use Rattle.walks.proofs.ArmLaws.{fitting_has}
use Rattle.walks.proofs.RootLaws.{entered_none, entered_some}
use Rattle.walks.proofs.reach.Goals as goal

pub returns-in_default : goal.returns-in_default
returns-in_default c = (c.requires.1, entered_none (tabled c.args.g.now) (sym c.entry.ensures ∙ c.in_default.is) c.requires.2)

pub visit-requires : goal.visit-requires
visit-requires c =
    let t = c.args.g.now in
    let n = c.in-Some in
    (record { graph = tabled t; has = fitting_has t c.requires.0; root_in = entry_in (tabled t) n.entry (sym c.entry.ensures ∙ n.is) }, c.requires.1)

pub returns : goal.returns
returns c =
    let t = c.args.g.now in
    let n = c.in-Some in
    let is = sym c.entry.ensures ∙ n.is in
    (c.visit.ensures.0, entered_some (tabled t) n.entry is (c.visit.ensures.1 (tabled t) (fitting_has t c.requires.0) (entry_in (tabled t) n.entry is) nothing c.requires.2))
