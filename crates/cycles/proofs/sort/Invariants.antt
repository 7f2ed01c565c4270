-- `cycles::sort` meets its contract: while it runs, the first blocks of the order are in pieces.
use Rattle.std.proofs.Common.{ℕ, List}
use Rattle.records.specs.Tables.{in_order}
use Rattle.cycles.specs.Inward.{Lists}
use Rattle.cycles.specs.Gathering.{Sorted}
use Rattle.cycles.proofs.sort.Given as goal

abbrev pub invariant-loop-root : goal.invariant-loop-root
invariant-loop-root l = (f : ℕ → List ℕ) → Lists l.t f → Sorted f (in_order l.o) l.root-index l.piece
