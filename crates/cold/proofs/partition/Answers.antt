-- `cold::partition` meets its contract: the warm side, and behind it the cold one.
use Rattle.std.proofs.Common.{◌∙◌, sym, refl, rules, arith}
use Rattle.records.specs.Tables.{tabled, in_order}
use Rattle.cold.proofs.PartLaws.{split_is, sides_fit, parted, unparted}
use Rattle.cold.proofs.partition.Goals as goal

pub returns-then-is_none : goal.returns-then-is_none
returns-then-is_none c = unparted c.args.g.now c.args.o c.requires (search rules) (sym (split_is (tabled c.args.g.now) c.splits.result c.splits.ensures) ∙ c.if-is_none.ensures)

pub gather-requires-clause-block_bound : goal.gather-requires-clause-block_bound
gather-requires-clause-block_bound c = omega (arith, c.requires.fits, sides_fit c.args.g.now c.args.o c.requires (search rules))

pub gather-requires-2-clause-block_bound : goal.gather-requires-2-clause-block_bound
gather-requires-2-clause-block_bound c = omega (arith, c.requires.fits, c.gather.ensures.ends, sides_fit c.args.g.now c.args.o c.requires (search rules))

pub returns : goal.returns
unfolding in_order
returns c =
    parted c.args.g.now c.args.o c.requires (search rules) (sym (split_is (tabled c.args.g.now) c.splits.result c.splits.ensures) ∙ c.if-is_none.ensures) _ _ _ refl refl c.gather.ensures c.gather-2.ensures
