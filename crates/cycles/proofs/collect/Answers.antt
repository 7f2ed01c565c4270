-- `cycles::collect` meets its contract: while it runs, what is in the piece is on the stack or has all its ways in in pieces.
use Rattle.std.proofs.Common.{◌+◌, ◌<◌, length, ap, arith, rules, add-one}
use Rattle.limits.specs.Limits.{blocks}
use Rattle.lists.proofs.Tables.{marked_more}
use Rattle.stack.proofs.FrameLaws.{frames_length, taken_some, taken_none}
use Rattle.cycles.proofs.GatherLaws.{reach_start, reach_turn, reach_end, join_less}
use Rattle.cycles.proofs.collect.Goals as goal

pub push-stack-requires : goal.push-stack-requires
push-stack-requires c =
    let s = c.new.result in
    omega (arith, ap length c.new.ensures.frames, frames_length s.slots.now s.len)

pub loop-f-init : goal.loop-f-init
loop-f-init c =
    let x = c.args in
    let p = c.requires in
    let top = rw c.new.ensures.frames at c.push-stack.ensures.frames in
    let inside : x.root < length x.piece.now = search rules in
    (omega (arith, ap length top, marked_more x.piece.now blocks x.root (x.root + 1) p.1 inside p.2 (omega arith)), λ f h. reach_start f x.root (x.root + 1) x.piece.now top inside p.2)

pub loop-f-smaller : goal.loop-f-smaller
loop-f-smaller c = join_less c.loop-f.piece c.gather-stack.new.piece _ _ _ (ap length (taken_some c.in-Some.f c.in-Some.is c.pop-rest.ensures.taken)) c.gather-stack.ensures.counts

pub loop-f-preserved : goal.loop-f-preserved
loop-f-preserved c =
    let l = c.loop-f in
    let g = c.gather-stack.ensures in
    (omega (arith, g.counts, ap length (taken_some c.in-Some.f c.in-Some.is c.pop-rest.ensures.taken), l.invariant.0), λ f h. reach_turn (omega arith) (l.invariant.1 f h) (taken_some c.in-Some.f c.in-Some.is c.pop-rest.ensures.taken) _ (g.gathers f h))

pub returns-in_default : goal.returns-in_default
returns-in_default c =
    let x = c.args in
    λ f h. reach_end f x.root (x.root + 1) _ _ _ (add-one x.root) (taken_none _ c.in_default.is c.pop-rest.ensures.taken) (c.loop-f.invariant.1 f h)
