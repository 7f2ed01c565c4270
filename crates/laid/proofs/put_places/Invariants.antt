-- `laid::put_places` meets its contract: while it runs, the front of the room has the places so far.
use Rattle.std.proofs.Common.{◌≡◌, ◌*◌, ◌++◌, drop}
use Rattle.limits.specs.Limits.{size}
use Rattle.laid.specs.Written.{records_to}
use Rattle.laid.proofs.put_places.Given as goal

abbrev pub invariant-loop-i : goal.invariant-loop-i
invariant-loop-i c = c.out ≡ records_to c.l c.heads c.i ++ drop (size * c.i) c.initial.out
