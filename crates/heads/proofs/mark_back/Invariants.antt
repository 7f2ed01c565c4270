-- `heads::mark_back` meets its contract: while it runs, what the arms of the first i listed blocks enter from behind is marked.
use Rattle.std.proofs.Common.{ℕ, ◌≡◌}
use Rattle.marks.specs.Sets.{member}
use Rattle.heads.specs.Heading.{back_to}
use Rattle.heads.proofs.mark_back.Given as goal

abbrev pub invariant-loop-i : goal.invariant-loop-i
invariant-loop-i l = (m : ℕ) → member l.back m ≡ back_to l.g l.piece l.i m
