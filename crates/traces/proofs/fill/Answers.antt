-- `traces::fill` meets its contract: while it runs, so much of the round is done, whatever is held.
use native.Mathlib.Omega.{arith}
use Rattle.traces.proofs.HeldLaws.{found_few}
use Rattle.traces.proofs.FillLaws.{going_first, going_more, going_full, going_adds}
use Rattle.traces.proofs.fill.Goals as goal

pub loop-from-init : goal.loop-from-init
loop-from-init c = going_first c.args.g.now c.args.bar.likely c.args.bar.low c.args.w.now

pub add_trace-requires-clause-adds : goal.add_trace-requires-clause-adds
add_trace-requires-clause-adds c =
    let x = c.args in
    going_adds x.g.now c.requires.sound x.bar.likely x.bar.low x.w.now c.loop-from.w c.loop-from.invariant x.plain.now c.requires.plain _ c.next_seed.ensures.starts_at c.requires.holds _ c.in-Some.is

pub loop-from-smaller : goal.loop-from-smaller
loop-from-smaller c =
    let x = c.args in
    let a = going_adds x.g.now c.requires.sound x.bar.likely x.bar.low x.w.now c.loop-from.w c.loop-from.invariant x.plain.now c.requires.plain _ c.next_seed.ensures.starts_at c.requires.holds _ c.in-Some.is in
    omega (arith, c.add_trace.ensures.len, found_few c.requires.sound a.so_far c.loop-from.w a.held _ a.free)

pub loop-from-preserved : goal.loop-from-preserved
loop-from-preserved c =
    let x = c.args in
    going_more x.g.now x.bar.likely x.bar.low x.w.now c.loop-from.w c.loop-from.invariant x.plain.now c.requires.plain _ c.next_seed.ensures.starts_at _ c.in-Some.is _ c.add_trace.ensures.added

pub returns : goal.returns
returns c =
    let x = c.args in
    going_full x.g.now c.requires.sound x.bar.likely x.bar.low x.w.now c.loop-from.w c.loop-from.invariant x.plain.now c.requires.plain _ c.next_seed.ensures.starts_at c.in_default.is
