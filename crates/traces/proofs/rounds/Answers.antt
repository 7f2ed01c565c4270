-- `traces::rounds` meets its contract: while it runs, so many rounds are done, whatever is held.
use Prim.Native.Nat.{ℕ}
use native.Mathlib.Omega.{arith}
use mathlib.Core.Path.{refl, ap, ◌∙◌}
use Rattle.rules.specs.Weights.{floor}
use Rattle.rules.specs.Traces.{rounds}
use lib.ListN.{get_or}
use Rattle.traces.specs.declared.Round.{Round}
use Rattle.traces.specs.declared.TheConstants.{ROUNDS}
use Rattle.traces.proofs.RoundLaws.{done_first, done_holds, done_round, done_all}
use Rattle.traces.proofs.rounds.Goals as goal

pub loop-r-init : goal.loop-r-init
loop-r-init c = done_first c.args.g.now c.args.w.now

pub fill-requires-clause-holds : goal.fill-requires-clause-holds
fill-requires-clause-holds c = done_holds c.args.g.now c.args.w.now c.loop-r.w c.loop-r.r-index c.loop-r.invariant c.requires.holds

pub loop-r-preserved : goal.loop-r-preserved
unfolding rounds
loop-r-preserved c =
    let z : Round = record { likely = 0; often = 0 } in
    done_round c.args.g.now c.args.w.now c.loop-r.w c.loop-r.r-index c.loop-r.invariant ROUNDS refl z c.loop-r-test.true _ _ c.bar.ensures.likely
    (c.bar.ensures.low ∙ ap (λ (x : ℕ). floor x (get_or ROUNDS c.loop-r.r-index z).often) c.requires.sound.1) _ c.fill.ensures

pub returns : goal.returns
unfolding rounds
returns c = done_all c.args.g.now c.args.w.now c.loop-r.w c.loop-r.r-index c.loop-r.invariant (omega arith)
