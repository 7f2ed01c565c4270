-- `cycles::collect` meets its contract: while it runs, what is in the piece is on the stack or has all its ways in in pieces.
use Rattle.std.proofs.Common.{ℕ, ◌+◌, ◌-◌, ◌≤◌, List, length}
use Rattle.limits.specs.Limits.{blocks}
use Rattle.lists.specs.Marked.{marked}
use Rattle.stack.specs.Frames.{stack_of}
use Rattle.cycles.specs.Inward.{Lists}
use Rattle.cycles.specs.Gathering.{blocks_on}
use Rattle.cycles.proofs.GatherLaws.{Reaching}
use Rattle.cycles.proofs.collect.Given as goal

abbrev pub invariant-loop-f : goal.invariant-loop-f
invariant-loop-f l =
    (length (stack_of l.stack) ≤ marked l.piece blocks)
    × ((f : ℕ → List ℕ) → Lists l.t f → Reaching f l.root l.number l.fn.piece l.piece (blocks_on (stack_of l.stack)))

abbrev pub decreases-loop-f : goal.decreases-loop-f
decreases-loop-f l = length (stack_of l.stack) + (blocks - marked l.piece blocks)
