-- `forwarding::reach_all` meets its contract: while it runs, the arms of the blocks so far are seen.
use Rattle.std.proofs.Common.{◌≡◌, ℕ, false, get_or}
use Rattle.rules.specs.Forward.{entered}
use Rattle.records.specs.Tables.{up_to}
use Rattle.forwarding.proofs.reach_all.Given as goal

abbrev pub invariant-loop-i : goal.invariant-loop-i
invariant-loop-i l = (x : ℕ) → get_or l.reached x false ≡ entered (up_to l.g.b l.g.a l.i) x
