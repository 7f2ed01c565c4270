-- `layout::write_laid` meets its contract: short of room, or written with its heads.
use Rattle.std.proofs.Common.{arith, ◌∙◌}
use Rattle.layout.proofs.WriteLaws.{laid_few, laid_short, laid_room, can_head, can_write}
use Rattle.layout.proofs.write_laid.Goals as goal

pub overflow_add-bytes : goal.overflow_add-bytes
overflow_add-bytes c = let k = laid_few c.requires.placed in omega (arith, k.0, k.1)

pub overflow_mul-bytes : goal.overflow_mul-bytes
overflow_mul-bytes c = let k = laid_few c.requires.placed in omega (arith, k.0, k.1)

pub returns-then-out-bytes : goal.returns-then-out-bytes
returns-then-out-bytes c b g h f e =
    let s = laid_short h c.args.moved c.args.out.now c.if-out-bytes.true in
    (c.short.ensures ∙ s.0, s.1)

pub heads-heads-requires : goal.heads-heads-requires
heads-heads-requires c = can_head c.requires.placed c.requires.fit

pub write-requires : goal.write-requires
write-requires c = record { heads = c.heads-heads.ensures; room = can_write c.requires.placed c.requires.fit _ c.if-out-bytes.false }

pub returns : goal.returns
returns c b g h f e =
    let s = laid_room h c.args.moved c.args.out.now _ c.args.n e c.if-out-bytes.false c.write.ensures in
    (c.laid_out.ensures ∙ s.0, s.1)
