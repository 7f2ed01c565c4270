-- `weights::part_of` meets its contract: the share stays at least `low` and below `high`.
use Prim.Native.Nat.{◌-◌, ◌*◌, ◌/◌, ◌≤◌, ◌<◌}
use Rattle.rules.specs.Weights.{scale}
use Rattle.weights.proofs.part_of.Given as goal

abbrev pub invariant-loop-low : goal.invariant-loop-low
invariant-loop-low l = (l.low < l.high) × (l.high ≤ scale) × (l.low ≤ l.r * scale / l.whole) × (l.r * scale / l.whole < l.high)

abbrev pub decreases-loop-low : goal.decreases-loop-low
decreases-loop-low l = l.high - l.low
