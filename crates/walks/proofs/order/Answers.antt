-- `walks::order` meets its contract.
use Rattle.std.proofs.Common.{ap, ◌∙◌, arith, ◌++◌, List, ℕ}
use Rattle.marks.proofs.SetLaws.{size_most}
use Rattle.walks.specs.Walking.{unmarked}
use Rattle.walks.proofs.GraphLaws.{carried_walks, order_is, order_long}
use Rattle.walks.proofs.order.Goals as goal

pub reach-requires : goal.reach-requires
reach-requires c = (carried_walks c.args.g.now c.requires, c.new-w.ensures.0, c.new-w.ensures.1)

pub reverse-requires : goal.reverse-requires
reverse-requires c = omega (arith, c.reach.ensures.0, size_most c.reach.new.w.seen)

pub unreached-requires : goal.unreached-requires
unreached-requires c =
    let t = c.args.g.now in
    let w = c.reach.new.w in
    let long = order_long t (carried_walks t c.requires) w c.reach.ensures.1 in
    (omega (arith, c.requires.stands.few), omega (arith, c.reverse.ensures.1, long, c.requires.stands.few))

pub returns : goal.returns
returns c =
    let t = c.args.g.now in
    let w = c.reach.new.w in
    let long = order_long t (carried_walks t c.requires) w c.reach.ensures.1 in (
      order_is t (carried_walks t c.requires) w c.reach.ensures.1 (c.unreached.ensures.0 ∙ ap (λ (l : List ℕ). l ++ unmarked t w.seen) c.reverse.ensures.0),
      omega (arith, c.unreached.ensures.1, c.reverse.ensures.1, long),
    )
