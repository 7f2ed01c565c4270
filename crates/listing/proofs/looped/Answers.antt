-- `listing::looped` meets its contract: while it runs, the first listed blocks with another of their piece are marked.
use Rattle.std.proofs.Common.{ℕ, ◌≡◌, arith, subst, take, length-take-le}
use Rattle.listing.specs.Loops.{mate}
use Rattle.listing.proofs.LoopLaws.{Chosen, loops_of}
use Rattle.listing.proofs.looped.Goals as goal

pub returns : goal.returns
returns c =
    let g = c.args.g.now in
    let few = c.loop-m.invariant.0 in
    let e : c.loop-m.m-index ≡ g.blocks = omega (arith, length-take-le g.blocks g.b.listed few) in
    loops_of g c.args.piece.now c.loop-m.set few (subst (λ (k : ℕ). Chosen (take g.blocks g.b.listed) (mate g c.args.piece.now) k c.loop-m.set) e c.loop-m.invariant.1)
