-- `exits::leave` meets its contract: while it runs, the arms so far are as they are left.
use Rattle.exits.proofs.LeftArms.{Leaves}
use Rattle.exits.proofs.leave.Given as goal

abbrev pub invariant-loop-j : goal.invariant-loop-j
invariant-loop-j l = Leaves l.from l.f l.c l.how l.initial.to l.q l.to l.j
