-- `weights::part_of` meets its contract: the share stays at least `low` and below `high`.
use native.Mathlib.Omega.{arith}
use mathlib.Core.Path.{sym, ap, ◌∙◌}
use lib.Dec.{leb}
use borrow.Author.Rules.{rules}
use borrow.Author.Tests.{leb-true, leb-false}
use Rattle.weights.proofs.ShareLaws.{part_below, part_share}
use Rattle.weights.proofs.part_of.Goals as goal

pub loop-low-init : goal.loop-low-init
loop-low-init c = (search rules, search rules, search rules, part_below c.args.r c.args.whole c.requires)

pub loop-low-preserved-then-at_least : goal.loop-low-preserved-then-at_least
loop-low-preserved-then-at_least c =
    let l = c.loop-low in
    let e = sym (ap (leb _) (part_share c.args.r c.args.whole c.requires)) ∙ sym c.at_least.ensures in
    (omega arith, l.invariant.1, leb-true _ _ (e ∙ c.if-at_least.true), l.invariant.3)

pub loop-low-preserved : goal.loop-low-preserved
loop-low-preserved c =
    let l = c.loop-low in
    let e = sym (ap (leb _) (part_share c.args.r c.args.whole c.requires)) ∙ sym c.at_least.ensures in
    (omega arith, omega arith, l.invariant.2, leb-false _ _ (e ∙ c.if-at_least.false))

pub returns : goal.returns
returns c = omega arith
