-- `Stack::push` meets its contract: a frame more is on top.
use Rattle.std.proofs.Common.{arith}
use Rattle.stack.proofs.FrameLaws.{frames_push}
use Rattle.stack.proofs.Stack.push.Goals as goal

pub returns-clause-frames : goal.returns-clause-frames
returns-clause-frames c =
    let s = c.args.self in frames_push s.slots.now s.len _ _ (omega (arith, s.within.1, c.requires)) (omega (arith, s.within.2, c.requires))
