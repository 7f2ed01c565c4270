-- `traces::trace` meets its contract: while it runs, the trace is on its way, whatever is held.
use native.Mathlib.Omega.{arith}
use mathlib.Core.Path.{refl, sym, ◌∙◌, subst}
use Prim.Native.Nat.{ℕ, ◌+◌}
use Rattle.seeds.proofs.ReachedLaws.{notes}
use Rattle.traces.proofs.HeldLaws.{found_few}
use lib.ListN.{length-set}
use Rattle.traces.proofs.GrowLaws.{Grows, put_long, grows_first, grows_on, grows_more, grows_below, grows_turned}
use Rattle.traces.proofs.trace.Goals as goal

pub begin-start-requires : goal.begin-start-requires
begin-start-requires c =
    let a = c.requires.adds in
    omega (arith, found_few c.requires.sound a.so_far c.args.w.now a.held c.args.from a.free)

pub loop-q-init : goal.loop-q-init
loop-q-init c =
    let x = c.args in
    let g = subst (λ (e : ℕ). Grows x.g.now x.bar.likely x.bar.low x.from x.w.now x.w.now.seen x.w.now.reached x.w.now.made.order e x.from) (sym c.begin-start.ensures)
    (grows_first x.g.now c.requires.sound x.bar.likely x.bar.low x.from x.w.now) in (
      record { entry = refl; starts = refl; ends = refl; len = refl; order_sized = refl },
      grows_on x.g.now c.requires.sound x.bar.likely x.bar.low x.from x.w.now c.requires.adds _ _ _ _ _ g,
      g,
    )

pub note-requires : goal.note-requires
note-requires c = notes c.requires.sound c.loop-q.n c.loop-q.invariant.1.block

pub rotate-requires-clause-below : goal.rotate-requires-clause-below
rotate-requires-clause-below c =
    let x = c.args in
    let l = c.loop-q in
    grows_below x.g.now c.requires.sound x.bar.likely x.bar.low x.from x.w.now l.w.seen l.w.reached l.w.made.order l.at l.n l.invariant.2
    _ _ _ l.invariant.1.inside c.mark.ensures c.note.ensures.noted refl _ c.along.ensures.goes_on (l.at + 1) (omega arith) c.in_default.is _ c.begin-start.ensures c.requires.adds

pub returns-in_default-clause-kept : goal.returns-in_default-clause-kept
returns-in_default-clause-kept c =
    let l = c.loop-q in
    let k = l.invariant.0 in
    let set = length-set l.w.made.order l.at l.n in
    record {
      entry = k.entry;
      starts = k.starts;
      ends = k.ends;
      len = k.len;
      order_sized = put_long c.begin-start.result _ _ _ (omega (arith, c.begin-start.ensures, set, k.order_sized)) c.rotate.auto.trace ∙ set ∙ k.order_sized;
    }

pub returns-in_default-clause-turned : goal.returns-in_default-clause-turned
returns-in_default-clause-turned c =
    let x = c.args in
    let l = c.loop-q in
    grows_turned x.g.now c.requires.sound x.bar.likely x.bar.low x.from x.w.now l.w.seen l.w.reached l.w.made.order l.at l.n l.invariant.2
    _ _ _ l.invariant.1.inside c.mark.ensures c.note.ensures.noted refl _ c.along.ensures.goes_on (l.at + 1) (omega arith) c.in_default.is _ c.begin-start.ensures
    _ _ l.invariant.0.entry l.invariant.0.starts _ c.rotate.ensures.rotated _ refl refl refl

pub loop-q-preserved : goal.loop-q-preserved
loop-q-preserved c =
    let x = c.args in
    let l = c.loop-q in
    let k = l.invariant.0 in
    let g = grows_more x.g.now c.requires.sound x.bar.likely x.bar.low x.from x.w.now l.w.seen l.w.reached l.w.made.order l.at l.n l.invariant.2
    _ _ _ l.invariant.1.inside c.mark.ensures c.note.ensures.noted refl _ c.along.ensures.goes_on (l.at + 1) (omega arith) _ c.in-Some.is in (
      record { entry = k.entry; starts = k.starts; ends = k.ends; len = k.len; order_sized = length-set l.w.made.order l.at l.n ∙ k.order_sized },
      grows_on x.g.now c.requires.sound x.bar.likely x.bar.low x.from x.w.now c.requires.adds _ _ _ _ _ g,
      g,
    )
