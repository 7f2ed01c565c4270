-- `lister::list` meets its contract: the line of a refusal, or the file's listing.
use Rattle.std.proofs.Common.{true}
use Rattle.records.proofs.StandLaws.{sound_carried}
use Rattle.exits.proofs.Finished.{empty_unlaid}
use Rattle.layout.proofs.BackLaws.{none_read}
use Rattle.layout.proofs.BlockLaws.{ready_arrangeable}
use Rattle.layout.proofs.FileLaws.{can_forward, ready, fit}
use Rattle.lister.proofs.ListLaws.{list_refused, list_laid}
use Rattle.lister.proofs.list.Goals as goal

pub read-requires : goal.read-requires
read-requires c = none_read c.empty-g.ensures

pub returns-in-Err : goal.returns-in-Err
returns-in-Err c = list_refused c.args.input.now _ _ c.read.ensures c.in-Err.r c.in-Err.is _ _ _ (rw c.from.ensures at c.refused.ensures)

pub forwarded-requires : goal.forwarded-requires
forwarded-requires c =
    let s = c.args.input.now in
    let f = can_forward s s true true _ _ c.read.ensures _ c.in_default.is in
    (sound_carried f.0, f.1)

pub blocks-requires : goal.blocks-requires
blocks-requires c =
    let s = c.args.input.now in
    record { ready = ready_arrangeable (ready s s true true _ _ c.read.ensures _ c.in_default.is _ _ c.forwarded.ensures); unlaid = rw c.empty-laid.ensures empty_unlaid }

pub list_laid-requires : goal.list_laid-requires
list_laid-requires c =
    let s = c.args.input.now in
    let f = fit s s true true _ _ c.read.ensures _ c.in_default.is _ _ c.forwarded.ensures in
    record { writable = record { reorder = true; graph = _; placed = c.blocks-2.ensures.placed; fit = f }; text_room_in_bounds = c.requires }

pub returns : goal.returns
returns c =
    let s = c.args.input.now in
    let f = fit s s true true _ _ c.read.ensures _ c.in_default.is _ _ c.forwarded.ensures in
    let placed = c.blocks-2.ensures.placed in
    list_laid s _ _ c.read.ensures _ c.in_default.is _ _ c.forwarded.ensures _ placed _ _ _ (c.list_laid.ensures true _ placed f)
