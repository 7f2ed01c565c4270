-- `ways::add_arms` meets its contract: while it runs, the first arms are counted.
use Rattle.std.proofs.Common.{ℕ, ◌≡◌, ◌+◌, ◌-◌, ◌∙◌, arith, take, drop, take_all, subst, List, rules}
use Rattle.cold.specs.Ways.{outs, Added}
use Rattle.cold.proofs.WayLaws.{add_none, add_room, add_more, outs_are, outs_below, outs_room}
use Rattle.cold.proofs.ways.add_arms.Goals as goal

pub loop-to-init : goal.loop-to-init
loop-to-init c =
    let f = c.first_of-first.result in
    add_none (take (f + c.count_of.result - f) (drop f c.args.a.now.to)) c.args.table.now

pub bounds-table-to : goal.bounds-table-to
bounds-table-to c = outs_below _ _ _ _ c.first_of-first.ensures c.count_of.ensures _ c.requires _ c.loop-to-test.true

pub overflow_add-table : goal.overflow_add-table
overflow_add-table c =
    omega (
      arith,
      add_room _ _ _ _ c.loop-to.invariant c.loop-to-test.true
          (outs_room _ _ _ _ c.first_of-first.ensures c.count_of.ensures _ c.requires),
    )

pub bounds-table-to-in-loop-to : goal.bounds-table-to-in-loop-to
bounds-table-to-in-loop-to c = outs_below _ _ _ _ c.first_of-first.ensures c.count_of.ensures _ c.requires _ c.loop-to-test.true

pub loop-to-preserved : goal.loop-to-preserved
loop-to-preserved c =
    let below = outs_below _ _ _ _ c.first_of-first.ensures c.count_of.ensures _ c.requires _ c.loop-to-test.true in
    add_more _ _ _ _ c.loop-to.invariant c.loop-to-test.true (search rules)

pub returns : goal.returns
returns c =
    let x = c.args in
    let l = c.loop-to in
    let f = c.first_of-first.result in
    let n = c.count_of.result in
    let all : take l.to-index (take (f + n - f) (drop f x.a.now.to)) ≡ outs x.a.now x.k =
    take_all l.to-index (take (f + n - f) (drop f x.a.now.to)) c.loop-to-test.false ∙ outs_are x.a.now x.k f n c.first_of-first.ensures c.count_of.ensures in
    subst (λ (s : List ℕ). Added s x.table.now l.table) all l.invariant
