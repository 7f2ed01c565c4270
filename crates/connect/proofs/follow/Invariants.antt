-- `connect::follow` meets its contract: what the rules lay from the next trace on is what they lay from the first on.
use Prim.Native.Nat.{◌-◌}
use Rattle.limits.specs.Limits.{blocks}
use Rattle.marks.specs.Sets.{size}
use Rattle.connect.proofs.FollowLaws.{Along}
use Rattle.connect.proofs.follow.Given as goal

abbrev pub invariant-loop-link : goal.invariant-loop-link
invariant-loop-link l = Along l.g l.found l.head l.initial.used l.initial.o l.from l.used l.o l.at

abbrev pub decreases-loop-link : goal.decreases-loop-link
decreases-loop-link l = blocks - size l.used
