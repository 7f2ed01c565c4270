-- `listing::put_places` meets its contract: while it runs, the lines of the first i places are put.
use Rattle.std.proofs.Common.{ℕ, ◌≡◌, ◌≤◌, ◌++◌, ap, ◌∙◌, sym, arith, add-one, subst, length, get_or, List}
use Rattle.listing.specs.Put.{Put}
use Rattle.listing.specs.Lines.{front_of, back_of, line_at, lines_to}
use Rattle.listing.proofs.PutLaws.{put_none, put_then, put_same}
use Rattle.listing.proofs.LineLaws.{front_fits, back_fits}
use Rattle.listing.proofs.put_places.Goals as goal

pub loop-i-init : goal.loop-i-init
unfolding lines_to
loop-i-init c = (omega arith, put_none c.args.text.now (omega (arith, c.requires.room)))

pub loop-i-preserved : goal.loop-i-preserved
unfolding line_at lines_to
loop-i-preserved c =
    let i = c.loop-i.i in
    let n = get_or c.args.l.now.graph.b.listed i 0 in
    let h = c.requires.printable.low i c.loop-i-test.true in
    let lines : ℕ → List ℕ = λ k. lines_to c.args.l.now c.args.heads.now c.args.loops.now k in
    let e : front_of i n c.weight_of.result ++ back_of c.marks_of.result c.is_marked.result c.is_marked-in-loop-i.result c.at.result ≡ line_at c.args.l.now c.args.heads.now c.args.loops.now i =
    rw (c.weight_of.ensures, c.marks_of.ensures, c.is_marked.ensures, c.is_marked-in-loop-i.ensures, c.at.ensures) in
    let was : c.args.text.now.len ≤ length c.args.text.now.out.now = omega (arith, c.requires.room) in
    let front : c.loop-i.text.len ≤ length c.loop-i.text.out.now = omega (arith, c.requires.room, c.requires.printable.few, c.loop-i.invariant.1.long) in (
      omega (
        arith,
        c.requires.printable.few,
        c.put_block.ensures.ends,
        c.put_laid.ensures.ends,
        front_fits i n c.weight_of.result,
        back_fits c.marks_of.result c.at.result c.is_marked.result c.is_marked-in-loop-i.result,
      ),
      put_same (ap (λ (r : List ℕ). lines i ++ r) e ∙ ap lines (sym (add-one i))) (put_then was c.loop-i.invariant.1 (put_then front c.put_block.ensures c.put_laid.ensures)),
    )

pub returns : goal.returns
returns c =
    let l = c.args.l.now in
    let e : c.loop-i.i ≡ l.graph.blocks = omega arith in
    record { upper_bound = omega (arith, c.loop-i.invariant.0, e); put = subst (λ (i : ℕ). Put (lines_to l c.args.heads.now c.args.loops.now i) c.args.text.now c.loop-i.text) e c.loop-i.invariant.1 }
