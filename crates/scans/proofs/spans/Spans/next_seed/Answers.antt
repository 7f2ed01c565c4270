-- `Spans::next_seed` meets its contract: the best of the spans so far is the best of what they are spans of.
use Rattle.std.proofs.Common.{◌≡◌, ◌∙◌, refl, arith}
use Rattle.seeds.specs.Starts.{seed_by}
use Rattle.scans.proofs.LookLaws.{met, searching_none, searching_more, searching_last}
use Rattle.scans.proofs.spans.Spans.next_seed.Goals as goal
use Rattle.scans.proofs.spans.Spans.next_seed.Goals.{in-Some, in_default}

pub loop-g-init : goal.loop-g-init
loop-g-init c =
    let a = c.args in
    record { spanned = c.requires; count = refl; searching = searching_none a.b.now a.seen.now a.reached.now a.low a.self.now }

pub loop-g-preserved : goal.loop-g-preserved
loop-g-preserved c =
    let a = c.args in
    let l = c.loop-g in
    let k = c.known_of in
    let more = searching_more a.b.now a.seen.now a.reached.now a.low a.self.now l.self l.best l.g l.invariant.searching k.new.self k.result k.ensures.told in
    let is : c.match-known_of.best ≡ met (seed_by a.b.now a.reached.now) l.best k.result = elim c.match-known_of.branch [
      | in-Some w ↦ w.best-is ∙ w.better-best.ensures ∙ rw w.in-Some.is refl
      | in_default w ↦ w.best-is ∙ rw w.in_default.is refl
    ] in
    record { spanned = k.ensures.spanned.0; count = k.ensures.spanned.1 ∙ l.invariant.count; searching = rw is more }

pub returns-clause-searched : goal.returns-clause-searched
returns-clause-searched c =
    let a = c.args in
    let l = c.loop-g in
    searching_last a.b.now a.seen.now a.reached.now a.low a.self.now l.self l.best l.g l.invariant.searching (omega arith)
