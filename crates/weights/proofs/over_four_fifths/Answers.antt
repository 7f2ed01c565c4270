-- `weights::over_four_fifths` meets its contract.
use Rattle.weights.proofs.ShareLaws.{fifths_are}
use Rattle.weights.proofs.over_four_fifths.Goals as goal

pub returns : goal.returns
returns c = fifths_are c.args.arm c.args.whole
