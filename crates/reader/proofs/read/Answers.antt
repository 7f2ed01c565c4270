-- `reader::read` meets its contract: the three parts, one after the other.
use Rattle.std.proofs.Common.{refl, arith}
use Rattle.limits.specs.Limits.{numbers}
use Rattle.lists.proofs.Tables.{marked_most}
use Rattle.reader.proofs.ArmLaws.{behind}
use Rattle.reader.proofs.ReadLaws.{panics, none_panics}
use Rattle.reader.proofs.read.Goals as goal

pub first_panic-requires : goal.first_panic-requires
first_panic-requires c = let h = c.in_ok-g.ensures in omega (arith, h.held.full, marked_most c.read_blocks.new.b.place numbers)

pub returns-in-Some : goal.returns-in-Some
returns-in-Some c =
    panics c.args.s.now _ c.in_ok-g.ensures (c.in_ok-read_arms.ensures _ (behind _ _ _ (record { short = c.if-s-gt-MOST_BYTES.false; whole = c.if-s-ne0.false }) c.in_ok-g.ensures)) (record { short = c.if-s-gt-MOST_BYTES.false; whole = c.if-s-ne0.false })
    c.in-Some.place c.in-Some.ensures

pub returns-in-None : goal.returns-in-None
returns-in-None c =
    none_panics c.args.s.now _ c.in_ok-g.ensures (c.in_ok-read_arms.ensures _ (behind _ _ _ (record { short = c.if-s-gt-MOST_BYTES.false; whole = c.if-s-ne0.false }) c.in_ok-g.ensures)) (record { short = c.if-s-gt-MOST_BYTES.false; whole = c.if-s-ne0.false })
    refl c.in-None.ensures
