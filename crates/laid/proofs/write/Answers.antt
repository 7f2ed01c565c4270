-- `laid::write` meets its contract: the places, and behind them the arms.
use Rattle.std.proofs.Common.{◌∙◌, arith}
use Rattle.laid.proofs.RecordLaws.{written_size, both_parts}
use Rattle.laid.proofs.write.Goals as goal

pub put_arms-requires : goal.put_arms-requires
put_arms-requires c =
    let w = c.requires.room in
    record { few = w.few; fits = w.within; room_is = omega (arith, written_size c.args.l.now c.args.heads.now c.requires.heads, w.fits, c.put_places.auto) }

pub returns : goal.returns
returns c = c.put_arms.ensures ∙ both_parts c.args.l.now c.args.heads.now c.requires.heads c.args.out.now _ c.put_places.ensures
