-- `marks::mark` meets its contract.
use Rattle.std.proofs.Common.{arith, rules}
use Rattle.marks.proofs.HeldLaws.{store_member}
use Rattle.marks.proofs.mark.Goals as goal

pub returns : goal.returns
returns c m = store_member c.args.set.now c.args.n m (search rules)
