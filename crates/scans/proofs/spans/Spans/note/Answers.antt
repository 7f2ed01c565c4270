-- `Spans::note` meets its contract: the spans of the blocks that the arms gone through raise are forgotten.
use Rattle.std.proofs.Common.{arith}
use Rattle.scans.proofs.SpanLaws.{forgets_all}
use Rattle.scans.proofs.spans.Spans.note.Goals as goal

pub returns-clause-forgets : goal.returns-clause-forgets
returns-clause-forgets c =
    let a = c.args in
    let l = c.loop-q in
    rw c.forget-2.ensures (forgets_all a.self.now l.self l.invariant.fewer a.n a.a.now a.reached.now c.note.new.reached c.note.ensures.entries
    (λ q h. l.invariant.raised q (omega (arith, h.from)) (omega (arith, h.below))))
