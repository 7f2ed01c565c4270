-- `cycles::link_arms` meets its contract: while it runs, the first j arms are linked.
use Rattle.std.proofs.Common.{ℕ, ◌≡◌, get_or, subst, arith}
use Rattle.cycles.specs.Inward.{Lists, entered}
use Rattle.cycles.proofs.InwardLaws.{enter_none, enter_more}
use Rattle.cycles.proofs.link_arms.Goals as goal

pub loop-j-init : goal.loop-j-init
loop-j-init c = (omega arith, λ f h. enter_none c.args.m c.args.a.now.to _ h)

pub loop-j-preserved : goal.loop-j-preserved
loop-j-preserved c =
    let l = c.loop-j in
    let a = c.args.a.now in
    let m = c.args.m in
    let q = get_or a.first m 0 in
    (omega (arith, c.link.ensures.0, l.invariant.0), λ f h. enter_more f m a.to q l.j (rw c.first_of-first.ensures at (c.link.ensures.1 (entered f m a.to q l.j) (l.invariant.1 f h))))

pub returns : goal.returns
returns c =
    let l = c.loop-j in
    let a = c.args.a.now in
    let m = c.args.m in
    let e : l.j ≡ get_or a.count m 0 = omega (arith, c.loop-j-test.false, l.auto.j-end, c.count_of-j-end.ensures) in
    (omega (arith, l.invariant.0, e), λ f h. subst (λ (j : ℕ). Lists l.t (entered f m a.to (get_or a.first m 0) j)) e (l.invariant.1 f h))
