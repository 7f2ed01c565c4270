-- `walks::push` meets its contract.
use Rattle.std.proofs.Common.{refl, rules}
use Rattle.std.proofs.lemmas.List.{take_more_set}
use Rattle.records.specs.Tables.{in_order}
use Rattle.walks.proofs.push.Goals as goal

pub returns : goal.returns
unfolding in_order
returns c = (take_more_set _ _ _ (search rules), refl)
