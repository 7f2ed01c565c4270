-- `Spans::cut` meets its contract: the first i places are cut.
use Rattle.std.proofs.Common.{◌≡◌, length}
use Rattle.limits.specs.Limits.{blocks}
use Rattle.scans.specs.Spans.{spans, CutTo}
use Rattle.scans.proofs.spans.Spans.cut.Given as goal

abbrev pub invariant-loop-i : goal.invariant-loop-i
invariant-loop-i l = record { span_long : length l.span ≡ blocks; upto_long : length l.upto ≡ spans; cut : CutTo l.order.block l.i l.span l.upto }
