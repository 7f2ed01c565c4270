-- `cycles::gather` meets its contract: while it runs, the blocks of the list up to here are in pieces.
use Rattle.std.proofs.Common.{ℕ, ◌+◌, ◌≡◌, List, length}
use Rattle.limits.specs.Limits.{blocks}
use Rattle.lists.specs.Marked.{marked}
use Rattle.stack.specs.Frames.{stack_of}
use Rattle.cycles.specs.Inward.{Lists}
use Rattle.cycles.specs.Gathering.{blocks_on}
use Rattle.cycles.proofs.GatherLaws.{Going, depth}
use Rattle.cycles.proofs.gather.Given as goal

abbrev pub invariant-loop-next : goal.invariant-loop-next
invariant-loop-next l =
    (length (stack_of l.stack) + marked l.initial.piece blocks ≡ length (stack_of l.initial.stack) + marked l.piece blocks)
    × ((f : ℕ → List ℕ) → Lists l.t f → Going l.t (f l.block) l.number l.initial.piece (blocks_on (stack_of l.initial.stack)) l.piece (blocks_on (stack_of l.stack)) l.next)

abbrev pub decreases-loop-next : goal.decreases-loop-next
decreases-loop-next l = depth l.next
