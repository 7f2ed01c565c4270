-- `heads::hottest` meets its contract.
use Rattle.std.proofs.Common.{ℕ, ◌≡◌, ◌<◌, get_or, sym, ap, ◌∙◌, arith, get_or-take, length-take-le}
use Rattle.rules.specs.Heads.{hottest}
use Rattle.records.specs.Tables.{up_to, tabled}
use Rattle.heads.proofs.HeadLaws.{hot_none, hot_more}
use Rattle.heads.proofs.hottest.Goals as goal

pub loop-m-init : goal.loop-m-init
loop-m-init c = hot_none c.args.g.now.b c.args.g.now.a

pub loop-m-preserved : goal.loop-m-preserved
loop-m-preserved c =
    let g = c.args.g.now in
    let l = c.loop-m in
    let inside : l.m-index < g.blocks = omega (arith, length-take-le g.blocks g.b.listed (omega (arith, c.requires.stands.few, c.requires.stands.blocks_sized.listed)), c.loop-m-test.true) in
    let here = get_or-take g.blocks g.b.listed l.m-index 0 inside in
    let weight = c.weight_of.ensures ∙ ap (λ (m : ℕ). get_or g.b.weight m 0) here in
    c.max-hot.ensures ∙ rw (l.invariant, weight) (sym (hot_more g.b g.a l.m-index))

pub returns : goal.returns
unfolding tabled
returns c =
    let g = c.args.g.now in
    let l = c.loop-m in
    let e : l.m-index ≡ g.blocks = omega (arith, length-take-le g.blocks g.b.listed (omega (arith, c.requires.stands.few, c.requires.stands.blocks_sized.listed)), c.loop-m-test.false, l.auto.m-index-end) in
    l.invariant ∙ ap (λ (i : ℕ). hottest (up_to g.b g.a i)) e
