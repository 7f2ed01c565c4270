-- `along::along` meets its contract: the best so far is the choice among the arms gone through.
use Rattle.std.proofs.Common.{◌≡◌, ◌-◌, ◌+◌, sym, ◌∙◌, arith, get_or, true, false}
use Rattle.along.proofs.ChoosingLaws.{chosen_none, chosen_more, chosen_all}
use Rattle.along.proofs.along.Goals as goal
use Rattle.along.proofs.along.Goals.{then-fits, else-fits}

pub loop-q-init : goal.loop-q-init
loop-q-init c = let a = c.args in let z : c.first_of-first.result - c.first_of-first.result ≡ 0 = omega arith in rw z (chosen_none a.g.now a.seen.now a.likely a.low a.n)

pub better-best-requires : goal.better-best-requires
better-best-requires c =
    (λ x e. let h = c.loop-q.invariant.has x e in omega (arith, h.below, c.requires.0 c.args.n), omega (arith, c.requires.0 c.args.n))

pub loop-q-preserved : goal.loop-q-preserved
loop-q-preserved c =
    let a = c.args in
    let l = c.loop-q in
    let k = l.q - c.first_of-first.result in
    let next : l.q + 1 - c.first_of-first.result ≡ k + 1 = omega arith in
    let step = chosen_more a.g.now a.seen.now a.likely a.low a.n k l.q l.best (omega arith) (omega arith) l.invariant in
    rw next (elim c.if-fits.branch [
      | then-fits w ↦ rw (w.best-is, w.better-best.ensures) (step true (sym c.fits.ensures ∙ w.if-fits.true))
      | else-fits w ↦ rw w.best-is (step false (sym c.fits.ensures ∙ w.if-fits.false))
    ])

pub returns : goal.returns
returns c =
    let a = c.args in
    let k : c.loop-q.q - c.first_of-first.result ≡ get_or a.g.now.a.count a.n 0 = omega arith in
    chosen_all a.g.now a.seen.now a.likely a.low a.n c.loop-q.best (rw k at c.loop-q.invariant)
