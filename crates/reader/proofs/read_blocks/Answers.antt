-- `reader::read_blocks` meets its contract: while it runs, the records so far are blocks and the tables say what they say.
use Rattle.std.proofs.Common.{◌+◌, sym, subst, refl, ◌∙◌, arith}
use Rattle.rules.specs.Records.{before}
use Rattle.rules.specs.Refusals.{entry_of}
use Rattle.rules.proofs.Layouts.{block_small}
use Rattle.records.proofs.Laws.{record_is}
use Rattle.reader.specs.Reads.{BlocksHeld}
use Rattle.reader.proofs.RefusedLaws.{outside_at}
use Rattle.reader.proofs.BlockLaws.{held_start, block_refused, listed_room, block_turn, entry_turn}
use Rattle.reader.proofs.read_blocks.Goals as goal

pub loop-i-init : goal.loop-i-init
unfolding before entry_of
loop-i-init c =
    let s = c.args.s.now in
    record { held = subst (BlocksHeld s 0) (sym c.requires.1) (held_start s); entry = refl }

pub returns-in-Some : goal.returns-in-Some
returns-in-Some c =
    let l = c.loop-i in
    let s = c.args.s.now in
    block_refused s l.i l.b l.invariant.held _ _ _ _ (record_is s l.i _ c.in-Block.ensures) l.entry l.invariant.entry c.requires.0 (omega arith)
    c.in-Some.fault (sym (c.block_fault.ensures ∙ rw c.place_of.ensures) ∙ c.in-Some.is)

pub list-requires : goal.list-requires
list-requires c =
    let l = c.loop-i in
    let s = c.args.s.now in
    let e = record_is s l.i _ c.in-Block.ensures in (
      listed_room s l.i l.b l.invariant.held _ _ _ _ e l.entry l.invariant.entry (sym (c.block_fault.ensures ∙ rw c.place_of.ensures) ∙ c.in_default.is),
      omega (arith, block_small s l.i _ _ _ _ e),
    )

pub returns-in-Arm : goal.returns-in-Arm
returns-in-Arm c =
    let l = c.loop-i in
    let s = c.args.s.now in
    record { within = omega arith; held = l.invariant.held; ended = λ h. rw (record_is s l.i _ c.in-Arm.ensures) (λ z. z) }

pub returns-in-Outside : goal.returns-in-Outside
returns-in-Outside c =
    let l = c.loop-i in
    let s = c.args.s.now in
    outside_at s l.i c.requires.0 (omega arith) l.invariant.held.clear (record_is s l.i _ c.in-Outside.ensures)

pub loop-i-preserved : goal.loop-i-preserved
loop-i-preserved c =
    let l = c.loop-i in
    let s = c.args.s.now in
    let e = record_is s l.i _ c.in-Block.ensures in
    record {
      held = subst (BlocksHeld s (l.i + 1)) (sym c.list.ensures) (block_turn s l.i l.b l.invariant.held _ _ _ _ e l.entry l.invariant.entry (sym (c.block_fault.ensures ∙ rw c.place_of.ensures) ∙ c.in_default.is));
      entry = c.entry_next-entry.ensures ∙ entry_turn s l.i l.b l.invariant.held _ _ _ _ e l.entry l.invariant.entry;
    }
