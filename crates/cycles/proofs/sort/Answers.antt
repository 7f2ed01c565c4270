-- `cycles::sort` meets its contract: while it runs, the first blocks of the order are in pieces.
use Rattle.std.proofs.Common.{ℕ, ◌≡◌, length, subst, arith}
use Rattle.limits.specs.Limits.{blocks}
use Rattle.lists.proofs.Tables.{zero_get}
use Rattle.walks.proofs.TurnLaws.{get_or-In}
use Rattle.records.specs.Tables.{in_order}
use Rattle.cycles.specs.Gathering.{Sorted, none}
use Rattle.cycles.proofs.GatherLaws.{sorted_old, sorted_new}
use Rattle.cycles.proofs.sort.Goals as goal

pub loop-root-init : goal.loop-root-init
loop-root-init c = λ f h. none (λ x. zero_get blocks x)

pub loop-root-preserved-then-at-gt0 : goal.loop-root-preserved-then-at-gt0
unfolding in_order
loop-root-preserved-then-at-gt0 c = λ f h. sorted_old c.loop-root.root-index (c.loop-root.invariant f h) (omega (arith, c.at.ensures, c.if-at-gt0.true))

pub collect-requires : goal.collect-requires
unfolding in_order
collect-requires c =
    (c.requires.0, c.requires.2 _ (get_or-In _ c.loop-root.root-index c.loop-root-test.true), omega (arith, c.at.ensures, c.if-at-gt0.false))

pub loop-root-preserved : goal.loop-root-preserved
unfolding in_order
loop-root-preserved c = λ f h. sorted_new c.loop-root.root-index (c.loop-root.invariant f h) (omega (arith, c.at.ensures, c.if-at-gt0.false)) (c.collect.ensures f h)

pub returns : goal.returns
unfolding in_order
returns c =
    let l = c.loop-root in
    let o = c.args.o.now in
    let e : l.root-index ≡ length (in_order o) = omega (arith, c.loop-root-test.false, l.auto.root-index-end) in
    λ f h. subst (λ (i : ℕ). Sorted f (in_order o) i l.piece) e (l.invariant f h)
