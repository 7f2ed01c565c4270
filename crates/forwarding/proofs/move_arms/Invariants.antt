-- `forwarding::move_arms` meets its contract: while it runs, the blocks so far have had their turn.
use Rattle.std.proofs.Common.{◌≡◌}
use Rattle.forwarding.specs.Steps.{moved_of, turned}
use Rattle.forwarding.proofs.move_arms.Given as goal

abbrev pub invariant-loop-i : goal.invariant-loop-i
invariant-loop-i l =
    (l.moved ≡ moved_of l.onward l.initial.g.b l.initial.g.a l.i) × (l.g ≡ turned l.onward l.initial.g l.i)
