-- `writer::put_arms` meets its contract: while it runs, the arms of the blocks so far stand behind the block records.
use Rattle.std.proofs.Common.{ℕ, ◌≡◌, ◌+◌, ◌*◌, ◌++◌, ◌≤◌, ◌∙◌, add-one, ap, arith, drop, length}
use Rattle.limits.specs.Limits.{size}
use Rattle.records.specs.Tables.{tabled}
use Rattle.writer.proofs.WriteLaws.{arms_long, arms_none, arms_step, arms_front, front_start, front_all, arms_turn, written_parts, next_room}
use Rattle.writer.proofs.put_arms.Goals as goal

pub loop-i-init : goal.loop-i-init
loop-i-init c =
    let g = c.args.g.now in
    record { at = omega (arith, arms_none g.b g.a); out = front_start g.b g.a c.args.out.now (size * g.blocks) }

pub overflow_add-next : goal.overflow_add-next
overflow_add-next c =
    let l = c.loop-i in
    omega (arith, next_room c.args.g.now _ l.i l.at c.requires (omega arith) l.invariant.at, c.count_of.ensures)

pub slice_bounds-put_leaving-end : goal.slice_bounds-put_leaving-end
slice_bounds-put_leaving-end c =
    let l = c.loop-i in
    omega (arith, next_room c.args.g.now _ l.i l.at c.requires (omega arith) l.invariant.at, c.count_of.ensures)

pub loop-i-preserved : goal.loop-i-preserved
unfolding tabled
loop-i-preserved c =
    let l = c.loop-i in
    let g = c.args.g.now in
    let d = c.args.out.now in
    let k = size * g.blocks in
    let fits : k ≤ length d = omega (arith, written_parts g.b g.a g.blocks, c.requires.room_is) in
    record {
      at = rw add-one (omega (arith, c.count_of.ensures, l.invariant.at, arms_step g.b g.a l.i));
      out = arms_turn g.b g.a d l.out c.put_leaving.new.out k l.i l.at c.count_of.result fits l.invariant.at l.invariant.out c.put_leaving.ensures;
    }

pub returns : goal.returns
unfolding tabled
returns c =
    let l = c.loop-i in
    let g = c.args.g.now in
    let d = c.args.out.now in
    let k = size * g.blocks in
    let e : l.i ≡ g.blocks = omega arith in
    l.invariant.out
    ∙ ap (λ (n : ℕ). arms_front g.b g.a d k l.i ++ drop n d) l.invariant.at
    ∙ ap (λ (n : ℕ). arms_front g.b g.a d k n ++ drop (k + arms_long g.b g.a n) d) e
    ∙ front_all g.b g.a d k g.blocks
