-- `Spans::note` meets its contract: the spans of the blocks that the arms gone through raise are forgotten.
use Rattle.std.proofs.Common.{ℕ, ◌≤◌, ◌<◌, get_or}
use Rattle.scans.specs.Spans.{Forgotten}
use Rattle.scans.proofs.SpanLaws.{Fewer}
use Rattle.scans.proofs.spans.Spans.note.Given as goal

abbrev pub invariant-loop-q : goal.invariant-loop-q
invariant-loop-q l = record {
  fewer : Fewer l.initial.self l.self;
  raised : (j : ℕ) → l.first ≤ j → j < l.q → get_or l.reached (get_or l.a.to j 0) 0 < get_or l.a.weight j 0 → Forgotten l.self (get_or l.a.to j 0);
}
