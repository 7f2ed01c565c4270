-- `rotate::inside_of` meets its contract: while it runs, the blocks before are in the set.
use lib.ListN.{take}
use Rattle.flow.specs.Lent.{Marks}
use Rattle.rotate.proofs.inside_of.Given as goal

abbrev pub invariant-loop-n : goal.invariant-loop-n
invariant-loop-n l = Marks l.inside (take l.n-index l.part)
