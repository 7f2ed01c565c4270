-- `Stack::new` meets its contract.
use Rattle.std.proofs.Common.{refl}
use Rattle.stack.specs.Frames.{frames}
use Rattle.stack.proofs.Stack.new.Goals as goal

pub returns-clause-frames : goal.returns-clause-frames
unfolding frames
returns-clause-frames c = refl
