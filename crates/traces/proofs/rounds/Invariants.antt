-- `traces::rounds` meets its contract: while it runs, so many rounds are done, whatever is held.
use Rattle.traces.proofs.RoundLaws.{Done}
use Rattle.traces.proofs.rounds.Given as goal

abbrev pub invariant-loop-r : goal.invariant-loop-r
invariant-loop-r l = Done l.g l.initial.w l.w l.r-index
