-- `listing::put_places` meets its contract: while it runs, the lines of the first i places are put.
use Rattle.std.proofs.Common.{◌+◌, ◌*◌, ◌≤◌}
use Rattle.limits.specs.Limits.{line_room}
use Rattle.listing.specs.Put.{Put}
use Rattle.listing.specs.Lines.{lines_to}
use Rattle.listing.proofs.put_places.Given as goal

abbrev pub invariant-loop-i : goal.invariant-loop-i
invariant-loop-i l = (l.text.len ≤ l.initial.text.len + line_room * l.i) × Put (lines_to l.l l.heads l.loops l.i) l.initial.text l.text
