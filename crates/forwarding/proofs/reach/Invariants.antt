-- `forwarding::reach` meets its contract: while it runs, the arms so far are seen.
use Rattle.std.proofs.Common.{take}
use Rattle.forwarding.specs.Steps.{Reached}
use Rattle.forwarding.proofs.reach.Given as goal

abbrev pub invariant-loop-k : goal.invariant-loop-k
invariant-loop-k l = Reached (take l.k-index l.to) l.initial.reached l.reached
