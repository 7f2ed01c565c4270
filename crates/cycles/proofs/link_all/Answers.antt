-- `cycles::link_all` meets its contract: while it runs, the arms of the first listed blocks are linked.
use Rattle.std.proofs.Common.{ℕ, ◌≡◌, ◌<◌, get_or, ap, ◌∙◌, subst, arith, get_or-take, length-take-le}
use Rattle.cycles.specs.Inward.{Lists, ins}
use Rattle.cycles.proofs.InwardLaws.{ins_none, ins_more}
use Rattle.cycles.proofs.StandingLaws.{armed_none, armed_more, goes, arms_room}
use Rattle.cycles.proofs.link_all.Goals as goal

pub loop-m-init : goal.loop-m-init
loop-m-init c = (c.requires.1 ∙ armed_none c.args.g.now.b c.args.g.now.a, ins_none c.args.g.now _ c.requires.1 c.requires.2)

pub link_arms-requires : goal.link_arms-requires
link_arms-requires c =
    let g = c.args.g.now in
    let s = c.requires.0.fitting.stands in
    let i = c.loop-m.m-index in
    let inside : i < g.blocks = omega (arith, length-take-le g.blocks g.b.listed (omega (arith, s.few, s.blocks_sized.listed)), c.loop-m-test.true) in
    let here = get_or-take g.blocks g.b.listed i 0 inside in
    rw here (record { fits = (s.fits (get_or g.b.listed i 0), omega (arith, c.loop-m.invariant.0, arms_room g c.requires.0 i inside), s.below i inside); goes = goes g c.requires.0 i inside })

pub loop-m-preserved : goal.loop-m-preserved
loop-m-preserved c =
    let g = c.args.g.now in
    let s = c.requires.0.fitting.stands in
    let i = c.loop-m.m-index in
    let inside : i < g.blocks = omega (arith, length-take-le g.blocks g.b.listed (omega (arith, s.few, s.blocks_sized.listed)), c.loop-m-test.true) in
    let here = get_or-take g.blocks g.b.listed i 0 inside in
    (omega (arith, c.link_arms.ensures.0, c.loop-m.invariant.0, armed_more g.b g.a i, ap (λ (m : ℕ). get_or g.a.count m 0) here), ins_more g i _ here (c.link_arms.ensures.1 (ins g i) c.loop-m.invariant.1))

pub returns : goal.returns
returns c =
    let g = c.args.g.now in
    let s = c.requires.0.fitting.stands in
    let l = c.loop-m in
    let e : l.m-index ≡ g.blocks = omega (arith, length-take-le g.blocks g.b.listed (omega (arith, s.few, s.blocks_sized.listed)), c.loop-m-test.false, l.auto.m-index-end) in
    subst (λ (i : ℕ). Lists l.t (ins g i)) e l.invariant.1
