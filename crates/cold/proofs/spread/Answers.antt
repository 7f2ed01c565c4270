-- `cold::spread` meets its contract: the marks settle on the least set.
use Rattle.std.proofs.Common.{sym, refl, ◌∙◌}
use Rattle.records.specs.Tables.{tabled}
use Rattle.cold.proofs.PartLaws.{split_is, split_some}
use Rattle.cold.proofs.SpreadLaws.{carried_settled, carried_still}
use Rattle.cold.proofs.spread.Goals as goal

pub returns-in-Some : goal.returns-in-Some
returns-in-Some c =
    let found = split_some (tabled c.args.g.now) c.splits.result c.splits.ensures c.in-Some.e c.in-Some.is in
    carried_settled c.args.g.now c.requires c.in-Some.e found.0 found.1 c.cool.new.g c.cool.ensures

pub returns-in_default : goal.returns-in_default
returns-in_default c =
    carried_still c.args.g.now c.requires
    (sym (split_is (tabled c.args.g.now) c.splits.result c.splits.ensures) ∙ rw c.in_default.is refl)
