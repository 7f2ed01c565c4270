-- `forwarding::move_block` meets its contract: while it runs, the arms so far have had their turn.
use Rattle.std.proofs.Common.{ℕ, refl, sym, ◌∙◌, arith, length-take, take_all}
use Rattle.forwarding.specs.Steps.{differing}
use Rattle.forwarding.proofs.StepLaws.{hops_more, hops_end, rest_more, differing_on, differing_none, differing_most, differ_most, turn_not, turn_ours}
use Rattle.forwarding.proofs.move_block.Goals as goal

pub returns-then-not-ours : goal.returns-then-not-ours
returns-then-not-ours c = let x = c.args in (differing_none x.to.now, sym (turn_not x.onward.now x.end x.to.now (sym c.ours.ensures ∙ c.if-not-ours.true)))

pub loop-j-init : goal.loop-j-init
unfolding differing
loop-j-init c = (refl, refl, refl)

pub overflow_add-moved : goal.overflow_add-moved
overflow_add-moved c = omega (arith, c.loop-j.invariant.0, differing_most, length-take {A = ℕ}, c.changed-moved.ensures, differ_most)

pub loop-j-preserved : goal.loop-j-preserved
loop-j-preserved c =
    let l = c.loop-j in
    let h = c.loop-j-test.true in
    let x = c.args in
    rw (c.changed-moved.ensures, c.hop-next.ensures, l.invariant.0)
    (differing_on x.onward.now l.to l.j (omega arith) x.to.now l.invariant.1 l.auto.to, rest_more x.onward.now l.to l.j (omega arith) x.to.now l.invariant.1, sym (hops_more x.onward.now l.to l.j (omega arith)) ∙ l.invariant.2)

pub returns : goal.returns
returns c =
    let l = c.loop-j in
    let x = c.args in (
      l.invariant.0 ∙ rw (take_all l.j x.to.now c.loop-j-test.false, take_all l.j l.to (omega arith)),
      sym (hops_end x.onward.now l.to l.j (omega arith)) ∙ l.invariant.2 ∙ sym (turn_ours x.onward.now x.end x.to.now (sym c.ours.ensures ∙ c.if-not-ours.false)),
    )
