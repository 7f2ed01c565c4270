-- `forwarding::clear` meets its contract: while it runs, the blocks so far are cleared.
use Rattle.std.proofs.Common.{◌≡◌}
use Rattle.forwarding.specs.Steps.{cleared}
use Rattle.forwarding.proofs.clear.Given as goal

abbrev pub invariant-loop-i : goal.invariant-loop-i
invariant-loop-i l = (l.g ≡ cleared l.onward l.reached l.initial.g l.i) × (l.g.b.listed ≡ l.initial.g.b.listed)
