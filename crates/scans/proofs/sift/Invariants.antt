-- `sift` meets its contract: the places before i are looked at.
use Rattle.scans.specs.Looks.{Sifted}
use Rattle.scans.proofs.sift.Given as goal

abbrev pub invariant-loop-i : goal.invariant-loop-i
invariant-loop-i l = Sifted l.seen l.from l.i l.initial.left l.left l.kept
