-- `traces::traces` meets its contract: the plain order, the traces found by it, and these joined.
use native.Mathlib.Omega.{arith}
use Rattle.traces.proofs.HeldLaws.{joinable}
use Rattle.traces.proofs.JoinLaws.{joined}
use Rattle.traces.proofs.traces.Goals as goal

pub connect-requires : goal.connect-requires
connect-requires c = (λ n. omega (arith, c.requires.stands.fits n), joinable c.requires _ c.find.new.w c.find.ensures)

pub returns : goal.returns
returns c = joined c.args.g.now c.requires c.find.new.w c.find.ensures c.connect.result c.connect.ensures
