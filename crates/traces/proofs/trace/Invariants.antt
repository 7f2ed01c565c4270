-- `traces::trace` meets its contract: while it runs, the trace is on its way, whatever is held.
use Prim.Native.Nat.{◌-◌}
use Rattle.limits.specs.Limits.{blocks}
use Rattle.traces.specs.Growing.{Kept}
use Rattle.traces.proofs.GrowLaws.{Grows, Next}
use Rattle.traces.proofs.trace.Given as goal

abbrev pub invariant-loop-q : goal.invariant-loop-q
invariant-loop-q l =
    Kept l.initial.w l.w × Next l.g l.initial.w l.at l.n
    × Grows l.g l.bar.likely l.bar.low l.from l.initial.w l.w.seen l.w.reached l.w.made.order l.at l.n

abbrev pub decreases-loop-q : goal.decreases-loop-q
decreases-loop-q l = blocks - l.at
