-- `writer::put_leaving` meets its contract: while it runs, the front of the room has the arms so far.
use Rattle.std.proofs.Common.{ℕ, ◌≡◌, ◌*◌, ◌++◌, arith, drop, get_or, refl, subst}
use Rattle.limits.specs.Limits.{size}
use Rattle.lists.proofs.Parts.{fill_all}
use Rattle.rules.specs.Records.{fields, arm_bytes, leaving_bytes}
use Rattle.records.specs.Tables.{arm_at, arms_from, leaves}
use Rattle.writer.proofs.WriteLaws.{leaving_turn}
use Rattle.writer.proofs.put_leaving.Goals as goal

pub loop-j-init : goal.loop-j-init
unfolding arms_from leaving_bytes
loop-j-init c = refl

pub loop-j-preserved : goal.loop-j-preserved
unfolding arm_bytes arm_at fields
loop-j-preserved c =
    let l = c.loop-j in
    leaving_turn c.args.a.now c.args.n c.first_of-first.result c.args.out.now l.out c.encode.new.o l.j l.invariant c.encode.ensures

pub returns : goal.returns
unfolding leaves
returns c =
    let l = c.loop-j in
    let a = c.args.a.now in
    let n = c.args.n in
    let e : l.j ≡ get_or a.count n 0 = omega (arith, c.count_of-j-end.ensures) in
    fill_all (leaving_bytes n (arms_from a (get_or a.first n 0) (get_or a.count n 0))) c.args.out.now l.out (size * get_or a.count n 0) c.requires.1
    (subst (λ (f : ℕ). l.out ≡ leaving_bytes n (arms_from a f (get_or a.count n 0)) ++ drop (size * get_or a.count n 0) c.args.out.now) c.first_of-first.ensures
    (subst (λ (k : ℕ). l.out ≡ leaving_bytes n (arms_from a c.first_of-first.result k) ++ drop (size * k) c.args.out.now) e l.invariant))
