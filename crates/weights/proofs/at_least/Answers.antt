-- `weights::at_least` meets its contract: nothing overflows, and the test is the share's.
use native.Mathlib.Omega.{arith}
use Rattle.weights.proofs.ShareLaws.{quotient, remainder, share_is, none_is}
use Rattle.weights.proofs.at_least.Goals as goal

pub returns-then-whole-eq0 : goal.returns-then-whole-eq0
returns-then-whole-eq0 c = rw c.if-whole-eq0.true (none_is c.args.w c.args.likely)

pub overflow_mul-result : goal.overflow_mul-result
overflow_mul-result c = omega (arith, quotient c.args.whole c.args.likely c.requires)

pub overflow_mul-result-2 : goal.overflow_mul-result-2
overflow_mul-result-2 c = omega (arith, remainder c.args.whole c.args.likely c.requires)

pub overflow_add-result : goal.overflow_add-result
overflow_add-result c = omega (arith, remainder c.args.whole c.args.likely c.requires)

pub overflow_add-result-2 : goal.overflow_add-result-2
overflow_add-result-2 c = omega (arith, quotient c.args.whole c.args.likely c.requires, remainder c.args.whole c.args.likely c.requires)

pub returns : goal.returns
returns c = share_is c.args.whole c.args.likely c.requires c.args.w c.if-whole-eq0.false
