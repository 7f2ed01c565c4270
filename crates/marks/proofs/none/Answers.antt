-- `marks::none` meets its contract.
use Rattle.limits.specs.Limits.{blocks}
use Rattle.marks.proofs.HeldLaws.{zero_member}
use Rattle.marks.proofs.none.Goals as goal

pub returns : goal.returns
returns c = zero_member blocks
