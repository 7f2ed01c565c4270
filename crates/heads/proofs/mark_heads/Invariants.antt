-- `heads::mark_heads` meets its contract: while it runs, the heads of the places 1 to i are marked.
use Rattle.std.proofs.Common.{ℕ, ◌<◌, ◌≡◌}
use Rattle.marks.specs.Sets.{member}
use Rattle.heads.specs.Heading.{heads, head_to}
use Rattle.heads.proofs.mark_heads.Given as goal

abbrev pub invariant-loop-i : goal.invariant-loop-i
invariant-loop-i l = (l.g.blocks < l.i → l.i ≡ 1) × ((m : ℕ) → member l.set m ≡ head_to l.g.b.listed (heads l.g.b.weight l.back l.floor) l.i m)
