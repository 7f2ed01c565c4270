-- `forwarding::goals` meets its contract: while it runs, the goals of the blocks so far are in the table.
use Rattle.std.proofs.Common.{◌≡◌, length}
use Rattle.limits.specs.Limits.{blocks}
use Rattle.forwarding.specs.Steps.{Goals}
use Rattle.forwarding.proofs.goals.Given as goal

abbrev pub invariant-loop-i : goal.invariant-loop-i
invariant-loop-i l = (length l.onward ≡ blocks) × Goals l.g l.onward l.i
