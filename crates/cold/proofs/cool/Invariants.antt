-- `cold::cool` meets its contract: every sweep but the last makes a block cold.
use Rattle.std.proofs.Common.{ℕ}
use Rattle.cold.specs.Ways.{links_of}
use Rattle.cold.specs.Sweeps.{Cooling}
use Rattle.cold.proofs.SweepLaws.{warms}
use Rattle.cold.proofs.cool.Given as goal

abbrev pub invariant-loop-ways : goal.invariant-loop-ways
invariant-loop-ways l = (j : ℕ) × Cooling l.entry l.initial.g l.g l.ways j

abbrev pub decreases-loop-ways : goal.decreases-loop-ways
decreases-loop-ways l = warms (links_of l.initial.g) l.g.b.marks
