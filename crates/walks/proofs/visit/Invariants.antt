-- `walks::visit` meets its contract: while it runs, the machine has come to its stack and to what is walked, in every graph that the
-- tables have.
use Rattle.rules.specs.Graph.{Graph, numbers_of}
use Rattle.rules.proofs.Membership.{In}
use Rattle.stack.specs.Frames.{stack_of}
use Rattle.walks.specs.Walking.{ArmsOf}
use Rattle.walks.proofs.Measure.{owes}
use Rattle.walks.proofs.TurnLaws.{Going}
use Rattle.walks.proofs.visit.Given as goal

abbrev pub invariant-loop-f : goal.invariant-loop-f
invariant-loop-f l = (h : Graph) → ArmsOf l.g.a h → In l.root (numbers_of h) → Going h l.root l.fn.w (stack_of l.stack) l.w

abbrev pub decreases-loop-f : goal.decreases-loop-f
decreases-loop-f l = owes l.g.a.count (stack_of l.stack) l.w.seen
