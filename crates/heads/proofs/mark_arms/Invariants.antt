-- `heads::mark_arms` meets its contract: while it runs, what the first j arms go back to is marked.
use Rattle.std.proofs.Common.{ℕ, ◌≡◌, ◌||◌}
use Rattle.marks.specs.Sets.{member}
use Rattle.heads.specs.Heading.{arms_back}
use Rattle.heads.proofs.mark_arms.Given as goal

abbrev pub invariant-loop-j : goal.invariant-loop-j
invariant-loop-j l = (m : ℕ) → member l.back m ≡ member l.initial.back m || arms_back l.g l.piece l.i l.j m
