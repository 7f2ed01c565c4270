-- `rotate::back_arm` meets its contract: while it runs, `best` is the last of the heaviest so far.
use Prim.Native.Nat.{◌+◌, ◌<◌}
use mathlib.Core.Path.{◌≡◌}
use Rattle.rotate.proofs.BackLaws.{heaviest}
use Rattle.rotate.proofs.back_arm.Given as goal

abbrev pub invariant-loop-q : goal.invariant-loop-q
invariant-loop-q l = (l.best < l.end) × (heaviest l.a l.best l.q l.end ≡ heaviest l.a l.f (l.f + 1) l.end)
