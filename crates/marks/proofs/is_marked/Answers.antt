-- `marks::is_marked` meets its contract.
use Rattle.std.proofs.Common.{ℕ, ap, not}
use lib.Dec.{eqb}
use Rattle.marks.specs.Sets.{member}
use Rattle.marks.proofs.is_marked.Goals as goal

pub returns : goal.returns
unfolding member
returns c = ap (λ (x : ℕ). not (eqb x 0)) c.at.ensures
