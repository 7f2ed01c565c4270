-- `traces::fill` meets its contract: while it runs, so much of the round is done, whatever is held.
use Prim.Native.Nat.{◌-◌}
use Rattle.limits.specs.Limits.{blocks}
use Rattle.traces.proofs.FillLaws.{Going}
use Rattle.traces.proofs.fill.Given as goal

abbrev pub invariant-loop-from : goal.invariant-loop-from
invariant-loop-from l = Going l.g l.bar.likely l.bar.low l.initial.w l.w

abbrev pub decreases-loop-from : goal.decreases-loop-from
decreases-loop-from l = blocks - l.w.made.len
