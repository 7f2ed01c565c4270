-- `laid::put_places` meets its contract: while it runs, the front of the room has the places so far.
use Rattle.std.proofs.Common.{◌≡◌, ◌∙◌, refl}
use Rattle.rules.specs.Records.{fields}
use Rattle.laid.specs.Written.{record_of, records_to}
use Rattle.laid.proofs.RecordLaws.{records_turn}
use Rattle.laid.proofs.put_places.Goals as goal

pub loop-i-init : goal.loop-i-init
unfolding records_to
loop-i-init c = refl

pub loop-i-preserved : goal.loop-i-preserved
unfolding record_of fields
loop-i-preserved c =
    let x = c.args in
    let e : c.encode.new.o ≡ record_of x.l.now x.heads.now c.loop-i.i =
    c.encode.ensures
    ∙ rw (c.weight_of.ensures, c.begins_cold.ensures, c.at-exit.ensures, c.end_of.ensures, c.head_marks-marks.ensures, c.is_marked.ensures, c.marks_of.ensures, c.kind.ensures) in
    records_turn x.l.now x.heads.now x.out.now c.loop-i.out c.encode.new.o c.loop-i.i c.loop-i.invariant e
