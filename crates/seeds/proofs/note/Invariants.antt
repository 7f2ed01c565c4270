-- `seeds::note` meets its contract: the table counts the arms gone through.
use Rattle.std.proofs.Common.{◌-◌}
use Rattle.seeds.proofs.ReachedLaws.{Counted}
use Rattle.seeds.proofs.note.Given as goal

abbrev pub invariant-loop-q : goal.invariant-loop-q
invariant-loop-q l = Counted l.a l.n l.initial.reached l.reached (l.q - l.first)
