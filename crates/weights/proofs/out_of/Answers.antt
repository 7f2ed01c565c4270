-- `weights::out_of` meets its contract, by quotient and remainder.
use native.Mathlib.Nat.{mod-lt}
use native.Mathlib.Omega.{arith}
use Rattle.weights.proofs.ShareLaws.{zero_share, share_parts}
use Rattle.weights.proofs.out_of.Goals as goal

pub returns-then-whole-eq0 : goal.returns-then-whole-eq0
returns-then-whole-eq0 c = rw c.if-whole-eq0.true (zero_share c.args.w)

pub returns-then-q-gt-MOST : goal.returns-then-q-gt-MOST
returns-then-q-gt-MOST c = let a = c.args in omega (arith, share_parts a.w a.whole c.if-whole-eq0.false)

pub part_of-part-requires : goal.part_of-part-requires
part_of-part-requires c = let h = c.if-whole-eq0.false in mod-lt c.args.w (omega (arith, h))

pub returns-then-base-part : goal.returns-then-base-part
returns-then-base-part c = omega (arith, share_parts c.args.w c.args.whole c.if-whole-eq0.false, c.part_of-part.ensures)

pub returns : goal.returns
returns c = omega (arith, share_parts c.args.w c.args.whole c.if-whole-eq0.false, c.part_of-part.ensures)
