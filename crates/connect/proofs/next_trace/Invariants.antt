-- `connect::next_trace` meets its contract: the best among the arms left, from the best so far, stays that among all.
use Prim.Native.Nat.{◌-◌}
use mathlib.Core.Path.{◌≡◌}
use Rattle.std.specs.Prelude.{None}
use Rattle.std.specs.Option.{option_map}
use Rattle.records.specs.Tables.{}
use Rattle.connect.specs.Links.{link_in, leads_by, Unused}
use Rattle.connect.proofs.LinkLaws.{chosen}
use Rattle.connect.proofs.next_trace.Given as goal

abbrev pub invariant-loop-q : goal.invariant-loop-q
invariant-loop-q l =
    Unused l.head l.used (option_map link_in l.best)
    × (chosen (leads_by l.g l.found.ends l.head l.used l.cold) (option_map link_in l.best) l.q (l.q-end - l.q) ≡ chosen (leads_by l.g l.found.ends l.head l.used l.cold) None l.first (l.q-end - l.first))
