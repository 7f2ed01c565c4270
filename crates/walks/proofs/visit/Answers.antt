-- `walks::visit` meets its contract: a marked block is passed, and the walk from another ends as the recursive visit.
use Rattle.std.proofs.Common.{length, sym, ap, ◌∙◌, arith}
use Rattle.marks.proofs.SetLaws.{size_most, size_room}
use Rattle.stack.proofs.FrameLaws.{frames_length, taken_some, taken_none}
use Rattle.walks.proofs.ArmLaws.{todo_length, todo_few}
use Rattle.walks.proofs.Measure.{owes_end, owes_old, owes_new}
use Rattle.walks.proofs.TurnLaws.{top_in, top_next, top_counted, turn_end, turn_old, turn_new}
use Rattle.walks.proofs.VisitLaws.{visit_marked, going_start, going_end}
use Rattle.walks.proofs.visit.Goals as goal

pub returns-then-is_marked : goal.returns-then-is_marked
returns-then-is_marked c = (c.requires.1, λ h has i. visit_marked h c.args.root c.args.w.now (sym c.is_marked.ensures ∙ c.if-is_marked.true))

pub mark-requires : goal.mark-requires
mark-requires c = let b = c.requires.0 in b.has.low c.args.root b.root_in

pub push-stack-requires : goal.push-stack-requires
push-stack-requires c =
    let s = c.new.result in
    omega (arith, ap length c.new.ensures.frames, frames_length s.slots.now s.len)

pub loop-f-init : goal.loop-f-init
loop-f-init c h has i =
    let new = sym c.is_marked.ensures ∙ c.if-is_marked.false in
    let r = c.args.root in
    going_start h r c.args.w.now i new c.mark.new.set (has.low r i) c.requires.1 c.mark.ensures (rw (← c.new.ensures.frames) c.push-stack.ensures.frames)

pub leads_to-requires : goal.leads_to-requires
leads_to-requires c =
    let b = c.requires.0 in
    let going = c.loop-f.invariant b.graph b.has b.root_in in record { graph = b.graph; has = b.has; root_in = top_in (taken_some c.in-Some.f c.in-Some.is c.pop-rest.ensures.taken) going }

pub push-requires : goal.push-requires
push-requires c =
    let b = c.requires.0 in
    let going = c.loop-f.invariant b.graph b.has b.root_in in
    omega (arith, top_counted (taken_some c.in-Some.f c.in-Some.is c.pop-rest.ensures.taken) going, size_most c.loop-f.w.seen)

pub loop-f-smaller-in_default-leads_to : goal.loop-f-smaller-in_default-leads_to
loop-f-smaller-in_default-leads_to c =
    let b = c.requires.0 in
    let going = c.loop-f.invariant b.graph b.has b.root_in in
    let had = taken_some c.in-Some.f c.in-Some.is c.pop-rest.ensures.taken in
    owes_end c.args.g.now.a.count c.loop-f.w.seen had (omega (arith, top_next had going, todo_length b.has c.in-Some.f.block (top_in had going)))

pub loop-f-preserved-in_default-leads_to : goal.loop-f-preserved-in_default-leads_to
loop-f-preserved-in_default-leads_to c h has i =
    let going = c.loop-f.invariant h has i in
    let had = taken_some c.in-Some.f c.in-Some.is c.pop-rest.ensures.taken in
    turn_end had going c.push.new.o (c.in_default-leads_to.ensures h has (top_in had going)) c.push.ensures.0 c.push.ensures.1

pub overflow_add-f : goal.overflow_add-f
overflow_add-f c =
    let b = c.requires.0 in
    let top = top_in (taken_some c.in-Some.f c.in-Some.is c.pop-rest.ensures.taken) (c.loop-f.invariant b.graph b.has b.root_in) in
    omega (arith, c.in-Some-leads_to.ensures b.graph b.has top, todo_few b.has c.in-Some.f.block top)

pub push-stack-requires-in-loop-f : goal.push-stack-requires-in-loop-f
push-stack-requires-in-loop-f c =
    let b = c.requires.0 in
    let going = c.loop-f.invariant b.graph b.has b.root_in in
    let s = c.pop-rest.result.stack in
    omega (
      arith,
      top_counted (taken_some c.in-Some.f c.in-Some.is c.pop-rest.ensures.taken) going,
      size_most c.loop-f.w.seen,
      frames_length s.slots.now s.len,
    )

pub loop-f-smaller-then-is_marked-2 : goal.loop-f-smaller-then-is_marked-2
loop-f-smaller-then-is_marked-2 c =
    let b = c.requires.0 in
    let had = taken_some c.in-Some.f c.in-Some.is c.pop-rest.ensures.taken in
    let top = top_in had (c.loop-f.invariant b.graph b.has b.root_in) in
    owes_old c.args.g.now.a.count c.loop-f.w.seen had c.push-stack-in-loop-f.ensures.frames (omega (arith, c.in-Some-leads_to.ensures b.graph b.has top, todo_length b.has c.in-Some.f.block top))

pub loop-f-preserved-then-is_marked-2 : goal.loop-f-preserved-then-is_marked-2
loop-f-preserved-then-is_marked-2 c h has i =
    let going = c.loop-f.invariant h has i in
    let had = taken_some c.in-Some.f c.in-Some.is c.pop-rest.ensures.taken in
    let leads = c.in-Some-leads_to.ensures h has (top_in had going) in
    turn_old had going leads.0 leads.1 c.push-stack-in-loop-f.ensures.frames (sym c.is_marked-in-loop-f.ensures ∙ c.if-is_marked-2.true)

pub mark-requires-in-loop-f : goal.mark-requires-in-loop-f
mark-requires-in-loop-f c =
    let b = c.requires.0 in
    let t = c.in-Some-leads_to in
    let top = top_in (taken_some c.in-Some.f c.in-Some.is c.pop-rest.ensures.taken) (c.loop-f.invariant b.graph b.has b.root_in) in
    b.has.low t.t (t.ensures b.graph b.has top).2

pub push-stack-requires-in-loop-f-2 : goal.push-stack-requires-in-loop-f-2
push-stack-requires-in-loop-f-2 c =
    let b = c.requires.0 in
    let going = c.loop-f.invariant b.graph b.has b.root_in in
    let had = taken_some c.in-Some.f c.in-Some.is c.pop-rest.ensures.taken in
    let t = c.in-Some-leads_to in
    let small = b.has.low t.t (t.ensures b.graph b.has (top_in had going)).2 in
    let s = c.pop-rest.result.stack in
    omega (
      arith,
      c.push-stack-in-loop-f.ensures.room.len,
      frames_length s.slots.now s.len,
      top_counted had going,
      size_room c.loop-f.w.seen t.t small (sym c.is_marked-in-loop-f.ensures ∙ c.if-is_marked-2.false),
    )

pub loop-f-smaller : goal.loop-f-smaller
loop-f-smaller c =
    let b = c.requires.0 in
    let had = taken_some c.in-Some.f c.in-Some.is c.pop-rest.ensures.taken in
    let top = top_in had (c.loop-f.invariant b.graph b.has b.root_in) in
    let t = c.in-Some-leads_to in
    let leads = t.ensures b.graph b.has top in
    let new = sym c.is_marked-in-loop-f.ensures ∙ c.if-is_marked-2.false in
    let m = c.mark-in-loop-f in
    let lifted = c.push-stack-in-loop-f.ensures.frames in
    let entered = c.push-stack-in-loop-f-2.ensures.frames in
    owes_new c.args.g.now.a.count c.loop-f.w.seen had m.new.set lifted entered (omega (arith, leads.0, todo_length b.has c.in-Some.f.block top)) (b.has.low t.t leads.2) new m.ensures

pub loop-f-preserved : goal.loop-f-preserved
loop-f-preserved c h has i =
    let going = c.loop-f.invariant h has i in
    let had = taken_some c.in-Some.f c.in-Some.is c.pop-rest.ensures.taken in
    let t = c.in-Some-leads_to in
    let leads = t.ensures h has (top_in had going) in
    let new = sym c.is_marked-in-loop-f.ensures ∙ c.if-is_marked-2.false in
    let m = c.mark-in-loop-f in
    let lifted = c.push-stack-in-loop-f.ensures.frames in
    let entered = c.push-stack-in-loop-f-2.ensures.frames in
    turn_new had going leads.0 leads.1 lifted entered m.new.set leads.2 (has.low t.t leads.2) new m.ensures

pub returns-in_default : goal.returns-in_default
returns-in_default c =
    let b = c.requires.0 in
    let r = c.args.root in
    let w = c.args.w.now in
    let none = taken_none _ c.in_default.is c.pop-rest.ensures.taken in
    let new = sym c.is_marked.ensures ∙ c.if-is_marked.false in (
      (going_end b.graph r w b.root_in new b.has.whole none (c.loop-f.invariant b.graph b.has b.root_in)).0,
      λ h has i. (going_end h r w i new has.whole none (c.loop-f.invariant h has i)).1,
    )
