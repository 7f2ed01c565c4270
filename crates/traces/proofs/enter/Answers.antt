-- `traces::enter` meets its contract.
use Prim.Native.Nat.{ℕ}
use mathlib.Core.Path.{ap, ◌∙◌}
use Rattle.rules.specs.Weights.{floor}
use Rattle.traces.proofs.RoundLaws.{entered_none, entry_adds, entered_some}
use Rattle.traces.proofs.enter.Goals as goal

pub add_trace-requires-clause-adds : goal.add_trace-requires-clause-adds
add_trace-requires-clause-adds c = entry_adds c.args.g.now c.args.w.now c.requires.held _ c.in-Some.is

pub returns-in-Some : goal.returns-in-Some
returns-in-Some c =
    entered_some c.args.g.now c.args.w.now c.requires.held _ c.in-Some.is c.bar.result.likely c.bar.result.low c.bar.ensures.likely (c.bar.ensures.low ∙ ap (λ (x : ℕ). floor x 5000) c.requires.sound.1) _ c.add_trace.ensures.added

pub returns-in_default : goal.returns-in_default
returns-in_default c = entered_none c.args.g.now c.args.w.now c.requires.held c.in_default.is
