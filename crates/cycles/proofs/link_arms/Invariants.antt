-- `cycles::link_arms` meets its contract: while it runs, the first j arms are linked.
use Rattle.std.proofs.Common.{ℕ, ◌+◌, ◌≡◌, List, get_or}
use Rattle.cycles.specs.Inward.{Lists, entered}
use Rattle.cycles.proofs.link_arms.Given as goal

abbrev pub invariant-loop-j : goal.invariant-loop-j
invariant-loop-j l = (l.t.len ≡ l.initial.t.len + l.j) × ((f : ℕ → List ℕ) → Lists l.initial.t f → Lists l.t (entered f l.m l.a.to (get_or l.a.first l.m 0) l.j))
