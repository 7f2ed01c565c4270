-- `weights::floor` meets its contract.
use native.Mathlib.Omega.{arith}
use Rattle.weights.proofs.ShareLaws.{quotient, remainder, floor_is}
use Rattle.weights.proofs.floor.Goals as goal

pub overflow_mul-result : goal.overflow_mul-result
overflow_mul-result c = omega (arith, quotient c.args.entered c.args.often c.requires)

pub overflow_mul-result-2 : goal.overflow_mul-result-2
overflow_mul-result-2 c = omega (arith, remainder c.args.entered c.args.often c.requires)

pub overflow_add-result : goal.overflow_add-result
overflow_add-result c = let a = c.args in omega (arith, quotient a.entered a.often c.requires, remainder a.entered a.often c.requires)

pub returns : goal.returns
returns c = floor_is c.args.entered c.args.often c.requires
