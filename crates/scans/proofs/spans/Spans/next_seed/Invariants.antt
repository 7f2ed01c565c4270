-- `Spans::next_seed` meets its contract: the best of the spans so far is the best of what they are spans of.
use Rattle.std.proofs.Common.{◌≡◌}
use Rattle.scans.specs.Looks.{Spanned}
use Rattle.scans.proofs.LookLaws.{Searching}
use Rattle.scans.proofs.spans.Spans.next_seed.Given as goal

abbrev pub invariant-loop-g : goal.invariant-loop-g
invariant-loop-g l = record {
  spanned : Spanned l.self;
  count : l.self.count ≡ l.initial.self.count;
  searching : Searching l.b l.seen l.reached l.low l.initial.self l.self l.best l.g;
}
