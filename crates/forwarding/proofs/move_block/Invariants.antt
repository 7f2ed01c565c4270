-- `forwarding::move_block` meets its contract: while it runs, the arms so far have had their turn.
use Rattle.std.proofs.Common.{◌≡◌, ◌++◌, [], take, drop}
use Rattle.forwarding.specs.Steps.{differing, hops_of}
use Rattle.forwarding.proofs.move_block.Given as goal

abbrev pub invariant-loop-j : goal.invariant-loop-j
invariant-loop-j l =
    (l.moved ≡ differing (take l.j l.initial.to) (take l.j l.to))
    × (drop l.j l.to ≡ drop l.j l.initial.to)
    × (take l.j l.to ++ hops_of l.onward (take l.j l.to) (drop l.j l.to) ≡ hops_of l.onward [] l.initial.to)
