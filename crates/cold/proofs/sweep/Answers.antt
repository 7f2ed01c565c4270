-- `cold::sweep` meets its contract: while it runs, the blocks at the first i places had their turn.
use Rattle.std.proofs.Common.{ℕ, arith, subst}
use Rattle.cold.specs.Sweeps.{Swept}
use Rattle.cold.proofs.SweepLaws.{chills_chilling, sweep_start, sweep_chills, sweep_more}
use Rattle.cold.proofs.sweep.Goals as goal

pub loop-i-init : goal.loop-i-init
loop-i-init c = sweep_start c.args.entry c.args.g.now c.args.ways.now c.requires

pub chill-joined-requires : goal.chill-joined-requires
chill-joined-requires c = chills_chilling (sweep_chills _ _ _ c.requires.linked _ c.loop-i-test.true _ _ c.loop-i.invariant)

pub loop-i-preserved : goal.loop-i-preserved
loop-i-preserved c = sweep_more _ _ _ c.requires.linked _ c.loop-i-test.true _ _ _ _ _ c.loop-i.invariant c.chill-joined.ensures

pub returns : goal.returns
returns c =
    let l = c.loop-i in
    subst (λ (i : ℕ). Swept c.args.entry c.args.g.now i l.g l.ways l.joined) (omega arith) l.invariant
