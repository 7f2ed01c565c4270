-- `connect::follow` meets its contract: what the rules lay from the next trace on is what they lay from the first on.
use native.Mathlib.Omega.{arith}
use borrow.Author.Rules.{rules}
use Rattle.connect.proofs.FollowLaws.{stretch, headed, some_block, fewer_left, room_for, along_start, along_stop, along_next}
use Rattle.connect.proofs.follow.Goals as goal

pub loop-link-init : goal.loop-link-init
loop-link-init c =
    let a = c.args in
    along_start a.g.now a.found.now (search rules) a.head.now a.used.now a.o.now a.from c.requires.begins

pub trace-trace-requires : goal.trace-trace-requires
trace-trace-requires c = let b = c.loop-link.invariant.begins in stretch _ (search rules) _ _ _ _ b c.loop-link.at b.one

pub copy-requires : goal.copy-requires
copy-requires c = room_for _ (search rules) _ _ _ _ c.loop-link.invariant.begins _ c.trace-trace.ensures _ c.mark.ensures

pub overflow_sub-last : goal.overflow_sub-last
overflow_sub-last c = some_block _ (search rules) _ _ _ _ c.loop-link.invariant.begins _ c.trace-trace.ensures

pub bounds-trace-trace : goal.bounds-trace-trace
bounds-trace-trace c = omega (arith, some_block _ (search rules) _ _ _ _ c.loop-link.invariant.begins _ c.trace-trace.ensures)

pub next_trace-requires : goal.next_trace-requires
next_trace-requires c = (c.requires.arms, headed _ (search rules) _ _ _ _ c.loop-link.invariant.begins)

pub returns-in_default : goal.returns-in_default
returns-in_default c =
    let a = c.args in
    let l = c.loop-link in
    along_stop a.g.now a.found.now (search rules) a.head.now a.used.now a.o.now a.from l.used l.o l.at l.invariant _ c.trace-trace.ensures _ _ c.mark.ensures
    c.copy.ensures.order_after c.copy.ensures.len _ c.next_trace.ensures.best_by c.in_default.is

pub loop-link-smaller : goal.loop-link-smaller
loop-link-smaller c = fewer_left _ (search rules) _ _ _ _ c.loop-link.invariant.begins _ c.trace-trace.ensures _ c.mark.ensures

pub loop-link-preserved : goal.loop-link-preserved
loop-link-preserved c =
    let a = c.args in
    let l = c.loop-link in
    along_next a.g.now a.found.now (search rules) a.head.now a.used.now a.o.now a.from l.used l.o l.at l.invariant _ c.trace-trace.ensures _ _ c.mark.ensures
    c.copy.ensures.order_after c.copy.ensures.len _ c.next_trace.ensures.best_by _ c.in-Some.is c.next_trace.ensures.unused
