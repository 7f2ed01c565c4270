-- `forwarding::forward` meets its contract: the passes, one after the other.
use Rattle.forwarding.proofs.ForwardLaws.{leads_on, carried_forwards}
use Rattle.forwarding.proofs.forward.Goals as goal

pub reach_all-reached-requires : goal.reach_all-reached-requires
reach_all-reached-requires c = let g = c.args.g.now in rw c.move_arms-moved.ensures.1 (leads_on g c.requires.sound c.goals-onward.result c.goals-onward.ensures)

pub returns : goal.returns
returns c =
    let moved = c.move_arms-moved.ensures in
    rw (c.clear.ensures, moved.1, moved.0)
    (carried_forwards c.args.g.now c.requires.sound c.goals-onward.result c.goals-onward.ensures c.requires.apart c.reach_all-reached.result (rw moved.1 at c.reach_all-reached.ensures))
