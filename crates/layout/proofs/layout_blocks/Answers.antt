-- `layout::layout_blocks` meets its contract: refused, or what is asked for laid.
use Rattle.std.proofs.Common.{◌∙◌, ap, sym}
use Rattle.records.specs.declared.Graph.{Graph}
use Rattle.records.proofs.StandLaws.{sound_carried}
use Rattle.exits.proofs.Finished.{empty_unlaid}
use Rattle.layout.proofs.BackLaws.{none_read}
use Rattle.layout.proofs.BlockLaws.{ready_arrangeable}
use Rattle.layout.proofs.FileLaws.{layout_refused, can_forward, ready, fit, count_made, file_laid}
use Rattle.layout.proofs.layout_blocks.Goals as goal

pub read-requires : goal.read-requires
read-requires c = none_read c.empty-g.ensures

pub returns-in-Err : goal.returns-in-Err
returns-in-Err c =
    let x = c.args in
    let b = layout_refused x.input.now x.out.now x.forward x.reorder _ _ c.read.ensures c.in-Err.r c.in-Err.is in
    record { value = c.refuse.ensures ∙ b.0; out_after = b.1 }

pub forwarded-moved-requires : goal.forwarded-moved-requires
forwarded-moved-requires c =
    let x = c.args in
    let f = can_forward x.input.now x.out.now x.forward x.reorder _ _ c.read.ensures _ c.in_default.is in
    (sound_carried f.0, f.1)

pub blocks-requires : goal.blocks-requires
blocks-requires c =
    let x = c.args in
    let r = ready x.input.now x.out.now x.forward x.reorder _ _ c.read.ensures _ c.in_default.is _ _ c.forwarded-moved.ensures in
    record { ready = ready_arrangeable r; unlaid = rw c.empty-laid.ensures empty_unlaid }

pub write_laid-requires : goal.write_laid-requires
write_laid-requires c =
    let x = c.args in
    record { reorder = x.reorder; graph = _; placed = c.blocks-2.ensures.placed; fit = fit x.input.now x.out.now x.forward x.reorder _ _ c.read.ensures _ c.in_default.is _ _ c.forwarded-moved.ensures }

pub returns : goal.returns
returns c =
    let x = c.args in
    let f = c.forwarded-moved.ensures in
    let fits = fit x.input.now x.out.now x.forward x.reorder _ _ c.read.ensures _ c.in_default.is _ _ f in
    let n = count_made x.input.now x.out.now x.forward x.reorder _ _ c.read.ensures _ c.in_default.is _ _ f in
    let b = file_laid x.input.now x.out.now x.forward x.reorder _ _ c.read.ensures _ c.in_default.is _ _ f _ _
    (c.write_laid.ensures x.reorder _ c.blocks-2.ensures.placed fits (n ∙ sym (ap (λ (t : Graph). t.blocks) f.kept) ∙ sym (ap (λ (t : Graph). t.blocks) c.blocks-2.ensures.spread.same))) in
    record { value = b.0; out_after = b.1 }
