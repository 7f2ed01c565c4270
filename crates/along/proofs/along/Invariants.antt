-- `along::along` meets its contract: the best so far is the choice among the arms gone through.
use Rattle.std.proofs.Common.{◌-◌}
use Rattle.along.proofs.ChoosingLaws.{Chosen}
use Rattle.along.proofs.along.Given as goal

abbrev pub invariant-loop-q : goal.invariant-loop-q
invariant-loop-q l = Chosen l.g l.seen l.likely l.low l.n (l.q - l.first) l.best
