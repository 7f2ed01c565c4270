-- `connect::heads` meets its contract: the table has the traces so far.
use Prim.Native.Nat.{ℕ}
use native.Mathlib.Omega.{arith}
use mathlib.Core.Path.{◌≡◌, subst}
use borrow.Author.Rules.{rules}
use Rattle.connect.proofs.HeadLaws.{Heading, no_heads, one_more, all_heads}
use Rattle.connect.proofs.heads.Goals as goal

pub loop-k-init : goal.loop-k-init
loop-k-init c = no_heads c.args.found.now

pub loop-k-preserved : goal.loop-k-preserved
loop-k-preserved c = rw c.begin.ensures (one_more c.args.found.now c.requires (search rules) c.loop-k.k c.loop-k-test.true c.loop-k.head c.loop-k.invariant)

pub returns : goal.returns
returns c =
    let f = c.args.found.now in
    let e : c.loop-k.k ≡ f.len = omega arith in
    all_heads f c.loop-k.head (subst (λ (k : ℕ). Heading f k c.loop-k.head) e c.loop-k.invariant)
