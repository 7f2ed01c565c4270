-- `Spans::known_of` meets its contract: what is known stays, and else a look at the span tells.
use Rattle.std.proofs.Common.{rules, ◌≡◌, length, ◌*◌, ◌∙◌, sym, ap}
use Rattle.std.proofs.Math.Seq.{slice}
use Rattle.seeds.specs.Starts.{best_of}
use Rattle.scans.specs.Spans.{spans}
use Rattle.scans.proofs.LookLaws.{slice_mid, left_looked, best_looked, knows_looked}
use Rattle.scans.proofs.spans.Spans.known_of.Goals as goal

pub returns-clause-told : goal.returns-clause-told
returns-clause-told c =
    let a = c.args in
    let s = a.self.now in
    let k = c.sift-end.ensures in
    let left' = c.sift-end.new.left in
    let r = c.sift-end.result in
    let o = c.best_of-best.result in
    let ul : length s.upto ≡ spans = search rules in
    let kl : length s.known ≡ spans = search rules in
    let same : length left' ≡ length s.left = search rules in
    let b : o ≡ best_of a.b.now a.seen.now a.reached.now a.low (slice (16 * a.g) r left') = c.best_of-best.ensures ∙ ap (best_of a.b.now a.seen.now a.reached.now a.low) (sym (slice_mid (16 * a.g) r left' k.low)) in
    λ plain l q. (
      left_looked s c.requires.0 a.g c.requires.1 ul kl a.seen.now left' same r k o plain l,
      knows_looked s c.requires.0 a.g c.requires.1 ul kl a.seen.now left' same r k o a.b.now a.reached.now a.low plain l b q,
      best_looked s c.requires.0 a.g c.requires.1 ul kl a.seen.now left' same r k o a.b.now a.reached.now a.low plain l b,
    )
