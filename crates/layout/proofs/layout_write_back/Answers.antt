-- `layout::layout_write_back` meets its contract: refused, short of room, or written.
use Rattle.std.proofs.Common.{arith, ◌∙◌}
use Rattle.layout.proofs.BackLaws.{none_read, held, back_refused, back_short, can_write, back_room}
use Rattle.layout.proofs.layout_write_back.Goals as goal

pub read-requires : goal.read-requires
read-requires c = none_read c.empty-g.ensures

pub returns-in-Err : goal.returns-in-Err
returns-in-Err c =
    let b = back_refused c.args.input.now c.args.out.now _ _ c.read.ensures c.in-Err.r c.in-Err.is in
    record { value = c.refuse.ensures ∙ b.0; out_after = b.1 }

pub overflow_add-needed : goal.overflow_add-needed
overflow_add-needed c = let h = held _ _ _ c.read.ensures _ c.in_default.is in omega (arith, h.few, h.few_arms)

pub overflow_mul-needed : goal.overflow_mul-needed
overflow_mul-needed c = let h = held _ _ _ c.read.ensures _ c.in_default.is in omega (arith, h.few, h.few_arms)

pub returns-then-out-needed : goal.returns-then-out-needed
returns-then-out-needed c =
    let b = back_short c.args.input.now c.args.out.now _ _ c.read.ensures _ c.in_default.is c.if-out-needed.true in
    record { value = c.short.ensures ∙ b.0; out_after = b.1 }

pub write-requires : goal.write-requires
write-requires c = can_write c.args.input.now _ _ c.read.ensures _ c.in_default.is _ c.if-out-needed.false

pub returns : goal.returns
returns c =
    let b = back_room c.args.input.now c.args.out.now _ _ c.read.ensures _ c.in_default.is c.if-out-needed.false _ c.write.ensures in
    record { value = c.written_back.ensures ∙ b.0; out_after = b.1 }
