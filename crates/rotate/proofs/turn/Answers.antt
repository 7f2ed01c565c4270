-- `rotate::turn` meets its contract.
use Rattle.rotate.proofs.TurnLaws.{sides_turned}
use Rattle.rotate.proofs.turn.Goals as goal

pub returns : goal.returns
returns c =
    sides_turned c.args.part.now c.args.k c.requires c.reverse.new.self c.reverse-2.new.self c.reverse-3.new.self c.reverse.ensures.after c.reverse-2.ensures.after c.reverse-3.ensures.after
