-- `heads::mark_arms` meets its contract.
use Rattle.std.proofs.Common.{ℕ, ◌+◌, ◌≡◌, get_or, sym, ap, ◌∙◌, ◌||◌, arith}
use Rattle.marks.specs.Sets.{member}
use Rattle.cycles.proofs.StandingLaws.{goes}
use Rattle.heads.specs.Heading.{arms_back}
use Rattle.heads.proofs.MarkLaws.{arms_none, arms_yes, arms_no}
use Rattle.heads.proofs.mark_arms.Goals.{then-goes_back, else-goes_back}
use Rattle.heads.proofs.mark_arms.Goals as goal

pub loop-j-init : goal.loop-j-init
loop-j-init c = λ m. arms_none c.args.g.now c.args.piece.now c.args.i m (member c.args.back.now m)

pub mark-requires : goal.mark-requires
mark-requires c =
    rw c.first_of-first.ensures (goes c.args.g.now c.requires.0 c.args.i c.requires.1 c.loop-j.j (omega (arith, c.loop-j-test.true, c.count_of-j-end.ensures)))

pub loop-j-preserved : goal.loop-j-preserved
loop-j-preserved c =
    let x = c.args in
    let l = c.loop-j in
    let t = get_or x.g.now.a.to (c.first_of-first.result + l.j) 0 in
    let is : t ≡ get_or x.g.now.a.to (get_or x.g.now.a.first (get_or x.g.now.b.listed x.i 0) 0 + l.j) 0 = ap (λ (q : ℕ). get_or x.g.now.a.to (q + l.j) 0) c.first_of-first.ensures in
    λ m.
    let step = arms_yes x.g.now x.piece.now x.i m l.j t is (member x.back.now m) (member l.back m) (l.invariant m) in
    let stay = arms_no x.g.now x.piece.now x.i m l.j t is (member x.back.now m) (member l.back m) (l.invariant m) in
    elim c.if-goes_back.branch [
      | then-goes_back w ↦ rw w.back-is (step _ (w.mark.ensures m) (sym c.goes_back.ensures ∙ w.if-goes_back.true))
      | else-goes_back w ↦ rw w.back-is (stay (sym c.goes_back.ensures ∙ w.if-goes_back.false))
    ]

pub returns : goal.returns
returns c =
    let x = c.args in
    let l = c.loop-j in
    let e : l.j ≡ get_or x.g.now.a.count (get_or x.g.now.b.listed x.i 0) 0 = omega (arith, c.loop-j-test.false, l.auto.j-end, c.count_of-j-end.ensures) in
    λ m. l.invariant m ∙ ap (λ (j : ℕ). member x.back.now m || arms_back x.g.now x.piece.now x.i j m) e
