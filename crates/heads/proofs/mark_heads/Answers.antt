-- `heads::mark_heads` meets its contract.
use Rattle.std.proofs.Common.{ℕ, ◌≡◌, refl, sym, ap, ◌∙◌, arith}
use Rattle.lists.proofs.Choices.{split_lt}
use Rattle.marks.specs.Sets.{member}
use Rattle.heads.specs.Heading.{heads, head_to}
use Rattle.heads.proofs.MarkLaws.{head_one, head_yes, head_no}
use Rattle.heads.proofs.mark_heads.Goals.{then-is_head, else-is_head}
use Rattle.heads.proofs.mark_heads.Goals as goal

pub loop-i-init : goal.loop-i-init
loop-i-init c =
    let b = c.args.g.now.b in
    (λ h. refl, λ m. c.none-set.ensures m ∙ head_one b.listed (heads b.weight c.args.back.now c.args.floor) m 1 (omega arith))

pub loop-i-preserved : goal.loop-i-preserved
loop-i-preserved c =
    let b = c.args.g.now.b in
    let l = c.loop-i in
    let p = heads b.weight c.args.back.now c.args.floor in
    let h = c.loop-i-test.true in (
      λ k. omega (arith, h, k),
      λ m. elim c.if-is_head.branch [
        | then-is_head w ↦ rw w.set-is (head_yes b.listed p m l.i (member l.set m) _ l.auto.i (l.invariant.1 m) (w.mark.ensures m) (sym c.is_head.ensures ∙ w.if-is_head.true))
        | else-is_head w ↦ rw w.set-is (head_no b.listed p m l.i (member l.set m) l.auto.i (l.invariant.1 m) (sym c.is_head.ensures ∙ w.if-is_head.false))
      ],
    )

-- with no block the loop stands at 1 all the same
pub returns : goal.returns
returns c =
    let g = c.args.g.now in
    let l = c.loop-i in
    let p = heads g.b.weight c.args.back.now c.args.floor in
    λ m. l.invariant.1 m ∙ split_lt g.blocks l.i
    (λ h. let one : l.i ≡ 1 = l.invariant.0 h in sym (head_one g.b.listed p m l.i (omega (arith, one))) ∙ head_one g.b.listed p m g.blocks (omega (arith, h, one)))
    (λ h. let e : l.i ≡ g.blocks = omega (arith, h, c.loop-i-test.false) in ap (λ (i : ℕ). head_to g.b.listed p i m) e)
