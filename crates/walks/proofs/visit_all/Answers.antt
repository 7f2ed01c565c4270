-- `walks::visit_all` meets its contract.
use Rattle.rules.specs.Lists.{foldl}
use Rattle.records.specs.Tables.{tabled}
use Rattle.walks.proofs.ArmLaws.{fitting_has}
use Rattle.walks.proofs.GraphLaws.{numbers}
use Rattle.walks.proofs.RootLaws.{root_in, visited_more, visited_end}
use Rattle.walks.proofs.visit_all.Goals as goal

pub loop-n-init : goal.loop-n-init
unfolding foldl
loop-n-init c = (c.requires.1, c.requires.2)

pub visit-requires : goal.visit-requires
visit-requires c =
    let t = c.args.g.now in
    let s = c.requires.0 in
    (record { graph = tabled t; has = fitting_has t s; root_in = root_in (tabled t) _ (numbers t s) c.loop-n.n-index c.loop-n-test.true }, c.loop-n.invariant.0)

pub loop-n-preserved : goal.loop-n-preserved
loop-n-preserved c =
    let t = c.args.g.now in
    let l = c.loop-n in
    let s = c.requires.0 in
    let is = numbers t s in
    let visited = c.visit.ensures.1 (tabled t) (fitting_has t s) (root_in (tabled t) _ is l.n-index c.loop-n-test.true) in
    (c.visit.ensures.0, visited_more (tabled t) _ is l.n-index c.visit.new.w c.loop-n-test.true l.invariant.1 visited)

pub returns : goal.returns
returns c =
    let t = c.args.g.now in
    let l = c.loop-n in
    (l.invariant.0, visited_end (tabled t) _ (numbers t c.requires.0) l.n-index c.loop-n-test.false l.invariant.1)
