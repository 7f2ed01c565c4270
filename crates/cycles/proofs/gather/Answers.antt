-- `cycles::gather` meets its contract.
use Rattle.std.proofs.Common.{◌≡◌, ◌<◌, get_or, length, refl, ap, arith, rules}
use Rattle.limits.specs.Limits.{blocks}
use Rattle.lists.proofs.Tables.{marked_room, marked_more}
use Rattle.stack.specs.Frames.{stack_of}
use Rattle.stack.proofs.FrameLaws.{frames_length}
use Rattle.cycles.specs.Inward.{way}
use Rattle.cycles.specs.Gathering.{blocks_on}
use Rattle.cycles.proofs.GatherLaws.{going_start, going_end, within, goes_down, first_in, turn_old, turn_new_on}
use Rattle.cycles.proofs.gather.Goals as goal

pub loop-next-init : goal.loop-next-init
loop-next-init c =
    let x = c.args in
    (refl, λ f h. going_start x.t.now (f x.block) x.number x.piece.now (blocks_on (stack_of x.stack)) c.at-next.result (rw c.at-next.ensures (h.linked x.block)))

pub bounds-t-k : goal.bounds-t-k
bounds-t-k c =
    let h = c.requires.0 in
    omega (arith, within c.in-Some.k (c.loop-next.invariant.1 h.lists h.has) c.in-Some.is, h.has.fits)

pub loop-next-smaller-then-at-gt0 : goal.loop-next-smaller-then-at-gt0
loop-next-smaller-then-at-gt0 c = let h = c.requires.0 in goes_down c.in-Some.k (c.loop-next.invariant.1 h.lists h.has) c.in-Some.is

pub loop-next-preserved-then-at-gt0 : goal.loop-next-preserved-then-at-gt0
loop-next-preserved-then-at-gt0 c =
    let l = c.loop-next in
    (l.invariant.0, λ f h. turn_old c.in-Some.k (l.invariant.1 f h) c.in-Some.is (omega (arith, c.at.ensures, c.if-at-gt0.true)))

pub bounds-piece-way : goal.bounds-piece-way
bounds-piece-way c = let h = c.requires.0 in h.has.low c.args.block _ (first_in c.in-Some.k (c.loop-next.invariant.1 h.lists h.has) c.in-Some.is)

pub push-stack-requires : goal.push-stack-requires
push-stack-requires c =
    let l = c.loop-next in
    let h = c.requires.0 in
    let m = (way c.args.t.now.ways c.in-Some.k).from in
    let low : m < blocks = h.has.low c.args.block m (first_in c.in-Some.k (l.invariant.1 h.lists h.has) c.in-Some.is) in
    let free : get_or l.piece m 0 ≡ 0 = omega (arith, c.at.ensures, c.if-at-gt0.false) in
    let s = l.stack in
    omega (arith, l.invariant.0, c.requires.2, marked_room l.piece blocks m low free, frames_length s.slots.now s.len)

pub loop-next-smaller : goal.loop-next-smaller
loop-next-smaller c = let h = c.requires.0 in goes_down c.in-Some.k (c.loop-next.invariant.1 h.lists h.has) c.in-Some.is

pub loop-next-preserved : goal.loop-next-preserved
loop-next-preserved c =
    let l = c.loop-next in
    let h = c.requires.0 in
    let m = (way c.args.t.now.ways c.in-Some.k).from in
    let low : m < blocks = h.has.low c.args.block m (first_in c.in-Some.k (l.invariant.1 h.lists h.has) c.in-Some.is) in
    let inside : m < length l.piece = search rules in
    let free : get_or l.piece m 0 ≡ 0 = omega (arith, c.at.ensures, c.if-at-gt0.false) in
    (omega (arith, l.invariant.0, ap length c.push-stack.ensures.frames, marked_more l.piece blocks m c.args.number low inside free c.requires.1), λ f h. turn_new_on c.in-Some.k (l.invariant.1 f h) c.in-Some.is refl c.push-stack.ensures.frames free inside c.requires.1)

pub returns : goal.returns
returns c = let l = c.loop-next in record { counts = l.invariant.0; gathers = λ f h. going_end (l.invariant.1 f h) c.in_default.is }
