-- `Stack::pop` meets its contract.
use Rattle.std.proofs.Common.{refl, arith}
use Rattle.stack.proofs.FrameLaws.{frames_none, frames_top}
use Rattle.stack.proofs.Stack.pop.Goals as goal

pub returns-then-len-eq0 : goal.returns-then-len-eq0
returns-then-len-eq0 c =
    let s = c.args.self in
    let none = frames_none s.slots.now s.len c.if-len-eq0.true in
    record { slots = refl; len = omega (arith, c.if-len-eq0.true); taken = (none, none) }

pub returns : goal.returns
returns c =
    let s = c.args.self in
    record { slots = refl; len = refl; taken = frames_top s.slots.now s.len (omega (arith, c.if-len-eq0.false)) }
