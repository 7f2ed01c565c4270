-- `connect::connect` meets its contract: what is laid before each turn, and what is left, come to what the rules lay.
use Rattle.connect.proofs.JoinLaws.{Turn}
use Rattle.connect.proofs.connect.Given as goal

abbrev pub invariant-loop-from : goal.invariant-loop-from
invariant-loop-from l = Turn l.g l.found l.used l.o l.from
