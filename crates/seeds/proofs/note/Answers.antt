-- `seeds::note` meets its contract: the table counts the arms gone through.
use Rattle.std.proofs.Common.{◌≡◌, ◌-◌, ◌+◌, ◌<◌, arith, length, get_or, rules}
use Rattle.limits.specs.Limits.{blocks}
use Rattle.records.specs.Tables.{leaves}
use Rattle.seeds.specs.Reached.{Entries}
use Rattle.seeds.proofs.ReachedLaws.{counted_none, counted_more, entries_noted}
use Rattle.seeds.proofs.note.Goals as goal

pub loop-q-init : goal.loop-q-init
loop-q-init c = let z : c.first_of-first.result - c.first_of-first.result ≡ 0 = omega arith in rw z (counted_none c.args.a.now c.args.n c.args.reached.now)

pub loop-q-preserved : goal.loop-q-preserved
loop-q-preserved c =
    let a = c.args in
    let l = c.loop-q in
    let k = l.q - c.first_of-first.result in
    let next : l.q + 1 - c.first_of-first.result ≡ k + 1 = omega arith in
    let long : length l.reached ≡ blocks = search rules in
    let to = a.a.now.to in
    let inside : get_or to l.q 0 < length l.reached = omega (arith, c.requires.goes l.q (record { from = omega arith; below = omega arith }), long) in
    rw (next, c.max.ensures, c.from-k.ensures) (counted_more a.a.now a.n a.reached.now l.reached k l.q (omega arith) inside l.invariant)

pub returns : goal.returns
unfolding leaves
returns c =
    let a = c.args in
    let k : c.loop-q.q - c.first_of-first.result ≡ get_or a.a.now.count a.n 0 = omega arith in
    let v : Entries a.a.now a.n a.reached.now c.loop-q.reached = rw k at c.loop-q.invariant in
    record { entries = v; noted = entries_noted a.a.now a.n a.reached.now c.loop-q.reached v }
