-- `cold::cool` meets its contract: every sweep but the last makes a block cold.
use Rattle.std.proofs.Common.{refl}
use Rattle.cold.specs.Sweeps.Cools.{still}
use Rattle.cold.proofs.SweepLaws.{cool_sweeps, cool_less, cool_more, cool_last}
use Rattle.cold.proofs.LinkLaws.{linked}
use Rattle.cold.proofs.cool.Goals as goal

pub count-ways-requires : goal.count-ways-requires
count-ways-requires c = linked c.args.g.now c.requires.stands c.requires.whole

pub loop-ways-init : goal.loop-ways-init
loop-ways-init c = (0, record { same = refl; cools = still; sized = c.requires.stands.blocks_sized.marks; counts = c.count-ways.ensures })

pub sweep-requires : goal.sweep-requires
sweep-requires c =
    cool_sweeps _ _ _ (linked c.args.g.now c.requires.stands c.requires.whole) _ _ c.loop-ways.invariant.1

pub loop-ways-smaller : goal.loop-ways-smaller
loop-ways-smaller c =
    cool_less _ _ _ (linked c.args.g.now c.requires.stands c.requires.whole) _ _ c.loop-ways.invariant.1 _ _ _ c.sweep.ensures c.loop-ways-test.true

pub loop-ways-preserved : goal.loop-ways-preserved
loop-ways-preserved c =
    cool_more _ _ _ (linked c.args.g.now c.requires.stands c.requires.whole) _ _ c.loop-ways.invariant.1 _ _ _ c.sweep.ensures

pub returns : goal.returns
returns c =
    cool_last _ _ _ (linked c.args.g.now c.requires.stands c.requires.whole) _ _ c.loop-ways.invariant.1 _ _ _ c.sweep.ensures c.loop-ways-test.false
