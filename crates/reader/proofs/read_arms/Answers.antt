-- `reader::read_arms` meets its contract: while it runs, the records so far are arms and the tables say what they say.
use Rattle.std.proofs.Common.{ℕ, ◌≡◌, ◌<◌, ◌+◌, ◌-◌, ◌/◌, length, sym, subst, refl, ◌∙◌, arith, get_or, add-zero}
use Rattle.std.specs.Prelude.{None}
use Rattle.limits.specs.Limits.{size}
use Rattle.rules.specs.declared.Fault.TheVariants.{OutOfOrder}
use Rattle.rules.specs.Records.{before, records}
use Rattle.records.specs.Faults.{arm_fault}
use Rattle.records.proofs.Laws.{record_is}
use Rattle.reader.specs.Reads.{ArmsHeld}
use Rattle.reader.proofs.RefusedLaws.{refused_at, outside_at}
use Rattle.reader.proofs.ArmLaws.{from_inside, record_behind, behind_long, arms_start, last_start, block_after, block_late, arm_refused, arm_turn, last_turn}
use Rattle.reader.proofs.read_arms.Goals as goal

pub overflow_add-place : goal.overflow_add-place
overflow_add-place c = let b = c.requires.0.1 in omega (arith, behind_long b, b.file.short)

pub loop-j-init : goal.loop-j-init
loop-j-init c s b =
    let h = b.done.held in
    rw (add-zero c.args.blocks) (subst (ArmsHeld c.args.b.now.place (before s c.args.blocks) (before s c.args.blocks) 0) (sym c.requires.1) (arms_start s c.args.blocks c.args.b.now h), last_start s c.args.blocks c.args.b.now h)

pub returns-in-Some : goal.returns-in-Some
returns-in-Some c s b =
    let l = c.loop-j in
    let i = c.args.blocks + l.j in
    let h = l.invariant s b in
    refused_at s i b.file (omega (arith, behind_long b)) h.0.clear _ c.in-Some.fault (record_behind b l.j _ (record_is c.args.t.now l.j _ c.in-Arm.ensures))
    (arm_refused c.args.b.now.place _ (before s i) _ l.a h.0 _ _ _ _ l.last h.1 c.in-Some.fault
    (sym (c.arm_fault.ensures ∙ rw (c.place_of-here.ensures, c.place_of.ensures)) ∙ c.in-Some.is))

pub add-requires : goal.add-requires
add-requires c =
    let l = c.loop-j in
    let b = c.requires.0.1 in
    let place = c.args.b.now.place in
    let fine : arm_fault (get_or place c.in-Arm.from 0) (get_or place c.in-Arm.to 0) l.last l.j ≡ None = sym (c.arm_fault.ensures ∙ rw (c.place_of-here.ensures, c.place_of.ensures)) ∙ c.in_default.is in
    (omega (arith, behind_long b, b.file.short), from_inside place _ _ l.last _ b.done.held.sized.place fine, (l.invariant _ b).0.fits)

pub returns-in-Block : goal.returns-in-Block
returns-in-Block c s b =
    let l = c.loop-j in
    let i = c.args.blocks + l.j in
    let h = l.invariant s b in
    let e = record_behind b l.j _ (record_is c.args.t.now l.j _ c.in-Block.ensures) in
    let inside : i < length s / size = omega (arith, behind_long b) in
    refused_at s i b.file inside h.0.clear _ OutOfOrder e
    (block_late c.args.b.now.place _ (before s i) _ l.a h.0 (omega (arith, block_after s c.args.blocks i _ _ _ _ c.args.b.now b.done (omega arith) inside e)) _ _ _ _)

pub returns-in-Outside : goal.returns-in-Outside
returns-in-Outside c s b =
    let l = c.loop-j in
    outside_at s (c.args.blocks + l.j) b.file (omega (arith, behind_long b)) (l.invariant s b).0.clear (record_behind b l.j _ (record_is c.args.t.now l.j _ c.in-Outside.ensures))

pub loop-j-preserved : goal.loop-j-preserved
loop-j-preserved c s b =
    let l = c.loop-j in
    let i = c.args.blocks + l.j in
    let h = l.invariant s b in
    let place = c.args.b.now.place in
    let e = record_behind b l.j _ (record_is c.args.t.now l.j _ c.in-Arm.ensures) in
    let fine : arm_fault (get_or place c.in-Arm.from 0) (get_or place c.in-Arm.to 0) l.last l.j ≡ None = sym (c.arm_fault.ensures ∙ rw (c.place_of-here.ensures, c.place_of.ensures)) ∙ c.in_default.is in
    let on : c.args.blocks + (l.j + 1) ≡ i + 1 = omega arith in
    rw on (
      subst (ArmsHeld place (before s c.args.blocks) (before s (i + 1)) (l.j + 1)) (sym c.add.ensures)
          (arm_turn place _ (before s i) l.j l.a h.0 _ _ _ _ l.last h.1 fine b.done.held.sized.place (omega (arith, behind_long b, b.file.short)) s i _ refl e (omega arith)),
      c.place_of-here.ensures ∙ last_turn place _ (before s i) l.j l.a h.0 _ _ _ _ l.last h.1 s i refl e,
    )

pub returns : goal.returns
unfolding records
returns c s b =
    let l = c.loop-j in
    let i = c.args.blocks in
    let e : i + l.j ≡ length s / size = omega (arith, behind_long b) in
    let k : l.j ≡ length s / size - i = omega (arith, behind_long b) in
    subst (λ (n : ℕ). ArmsHeld c.args.b.now.place (before s i) (before s n) (length s / size - i) l.a) e
    (subst (λ (n : ℕ). ArmsHeld c.args.b.now.place (before s i) (before s (i + l.j)) n l.a) k (l.invariant s b).0)
