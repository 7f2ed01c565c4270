-- `exits::lay` meets its contract: each turn lays a block, and its bridge if there is one.
use Rattle.std.proofs.Common.{rules, ◌≡◌, ℕ, subst, arith}
use Rattle.records.specs.Tables.{in_order}
use Rattle.exits.proofs.Steps.{Laying}
use Rattle.exits.proofs.Turns.{room, within, bridge_room, plain_turn, bridge_turn}
use Rattle.exits.proofs.Finished.{laying_start, laid_of}
use Rattle.exits.proofs.lay.Goals as goal
use Rattle.exits.proofs.lay.Goals.{in-Bridge, in_default}

pub loop-i-init : goal.loop-i-init
loop-i-init c = laying_start c.args.g.now (in_order c.args.o.now) c.args.split (search rules) (search rules) (search rules) c.args.laid.now c.requires.unlaid

pub leave-requires-clause-to_bound : goal.leave-requires-clause-to_bound
leave-requires-clause-to_bound c =
    let r = room c.requires.layable (search rules) c.loop-i.invariant c.loop-i-test.true in
    omega (arith, r.arm)

pub leave-requires-clause-bridge_within : goal.leave-requires-clause-bridge_within
leave-requires-clause-bridge_within c = within c.requires.layable (search rules) c.loop-i.invariant c.loop-i-test.true c.next_of.ensures c.leaving-e.ensures.how_value

pub put_place-requires : goal.put_place-requires
put_place-requires c =
    let r = room c.requires.layable (search rules) c.loop-i.invariant c.loop-i-test.true in
    (omega (arith, r.n_low), omega (arith, r.place), omega (arith, r.arm, c.count_of.ensures))

pub put_bridge-requires : goal.put_bridge-requires
put_bridge-requires c =
    rw (c.put_place.ensures, c.count_of.ensures, c.leaving-e.ensures.digit_value)
    (bridge_room c.requires.layable (search rules) c.loop-i.invariant c.loop-i-test.true c.next_of.ensures c.leaving-e.ensures.how_value c.leave.ensures c.in-Bridge.arm c.in-Bridge.is)

pub loop-i-preserved : goal.loop-i-preserved
loop-i-preserved c =
    elim c.match-e.branch [
      | in-Bridge w ↦
          rw (w.laid-is, w.put_bridge.ensures, w.is_cold.ensures, c.put_place.ensures, c.count_of.ensures, c.leaving-e.ensures.digit_value)
          (bridge_turn c.requires.layable (search rules) c.loop-i.invariant c.loop-i-test.true c.next_of.ensures c.leaving-e.ensures.how_value c.leave.ensures w.in-Bridge.arm w.in-Bridge.is)
      | in_default w ↦
          rw (w.laid-is, c.put_place.ensures, c.count_of.ensures, c.leaving-e.ensures.digit_value)
          (plain_turn c.requires.layable (search rules) c.loop-i.invariant c.loop-i-test.true c.next_of.ensures c.leaving-e.ensures.how_value c.leave.ensures w.in_default.not-Bridge)
    ]

pub returns : goal.returns
returns c =
    let x = c.args in
    let e : c.loop-i.i ≡ x.o.now.len = omega arith in
    laid_of (search rules) (subst (λ (k : ℕ). Laying x.g.now (in_order x.o.now) x.split c.loop-i.laid k) e c.loop-i.invariant)
