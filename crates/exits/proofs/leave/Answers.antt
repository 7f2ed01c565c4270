-- `exits::leave` meets its contract: all arms stand as they are left, and then the one that goes to a bridge.
use Rattle.std.proofs.Common.{arith}
use Rattle.exits.proofs.LeftArms.{leaves_turn, left_plain, left_bridged}
use Rattle.exits.proofs.leave.Goals as goal

pub loop-j-preserved : goal.loop-j-preserved
loop-j-preserved c = rw (c.put_arm.ensures, c.source.ensures.value) (leaves_turn c.loop-j.invariant (omega arith))

pub returns-in_default : goal.returns-in_default
returns-in_default c = left_plain c.loop-j.invariant c.args.n c.args.new c.first_of-f.ensures c.count_of-c.ensures (omega arith) c.in_default.not-Bridge

pub returns-in-Bridge : goal.returns-in-Bridge
returns-in-Bridge c =
    let h = c.requires.bridge_within c.in-Bridge.arm c.in-Bridge.is in
    left_bridged c.loop-j.invariant c.args.n c.args.new c.first_of-f.ensures c.count_of-c.ensures (omega arith) c.in-Bridge.arm c.in-Bridge.is (omega (arith, h)) (omega arith)
