-- `cold::gather` meets its contract: while it runs, those of the first blocks of the order are gathered.
use Rattle.std.proofs.Common.{rules, arith, take, take_all, List, ℕ, subst}
use Rattle.records.specs.Tables.{in_order}
use Rattle.cold.specs.Sides.{Gathered, on_side}
use Rattle.cold.proofs.SideLaws.{gather_start, gather_room, gather_yes, gather_no}
use Rattle.cold.proofs.gather.Goals as goal
use Rattle.cold.proofs.gather.Goals.{then-is_cold-cold, else-is_cold-cold}

pub loop-k-init : goal.loop-k-init
loop-k-init c = gather_start c.args.b.now.marks c.args.cold (take c.args.o.now.len c.args.o.now.block) c.args.out.now

pub offset_bounds-out-out : goal.offset_bounds-out-out
unfolding in_order
offset_bounds-out-out c =
    omega (arith, gather_room _ _ _ _ _ _ c.loop-k-test.true c.loop-k.invariant _ _ c.marks_of.ensures c.is_cold.ensures _ c.if-is_cold-cold.true c.requires.block_bound)

pub bounds-out-out : goal.bounds-out-out
unfolding in_order
bounds-out-out c = gather_room _ _ _ _ _ _ c.loop-k-test.true c.loop-k.invariant _ _ c.marks_of.ensures c.is_cold.ensures _ c.if-is_cold-cold.true c.requires.block_bound

pub overflow_add-out : goal.overflow_add-out
unfolding in_order
overflow_add-out c =
    omega (arith, gather_room _ _ _ _ _ _ c.loop-k-test.true c.loop-k.invariant _ _ c.marks_of.ensures c.is_cold.ensures _ c.if-is_cold-cold.true c.requires.block_bound)

pub loop-k-preserved : goal.loop-k-preserved
unfolding in_order
loop-k-preserved c =
    let l = c.loop-k in
    elim c.if-is_cold-cold.branch [
      | then-is_cold-cold w ↦
          (let room = gather_room _ _ _ _ _ _ c.loop-k-test.true l.invariant _ _ c.marks_of.ensures c.is_cold.ensures _ w.if-is_cold-cold.true c.requires.block_bound in
          rw w.out-is (gather_yes _ _ _ _ _ _ c.loop-k-test.true l.invariant _ _ c.marks_of.ensures c.is_cold.ensures w.if-is_cold-cold.true (search rules)))
      | else-is_cold-cold w ↦ rw w.out-is (gather_no _ _ _ _ _ _ c.loop-k-test.true l.invariant _ _ c.marks_of.ensures c.is_cold.ensures w.if-is_cold-cold.false)
    ]

pub returns : goal.returns
unfolding in_order
returns c =
    let x = c.args in
    subst (λ (s : List ℕ). Gathered (on_side x.b.now.marks x.cold s) x.out.now c.loop-k.out) (take_all c.loop-k.k-index (take x.o.now.len x.o.now.block) c.loop-k-test.false) c.loop-k.invariant
