-- `Growth::new` meets its contract.
use Rattle.traces.proofs.FillLaws.{nothing_held}
use Rattle.traces.proofs.Growth.new.Goals as goal

pub returns : goal.returns
returns c = λ g e. rw c.empty.ensures (nothing_held g c.none.result c.none-2.result c.args.entry c.none.ensures c.none-2.ensures e)
