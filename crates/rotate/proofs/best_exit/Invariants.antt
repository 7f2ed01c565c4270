-- `rotate::best_exit` meets its contract: the best so far and what is left have the best of all.
use mathlib.Core.Path.{◌≡◌}
use Rattle.std.specs.Prelude.{None}
use Rattle.std.specs.Option.{option_map}
use Rattle.marks.specs.Sets.{member}
use Rattle.rotate.specs.Turning.{way_of, liked}
use Rattle.rotate.proofs.OutLaws.{left}
use Rattle.rotate.proofs.best_exit.Given as goal

abbrev pub invariant-loop-i : goal.invariant-loop-i
invariant-loop-i l = left l.a (liked l.seen l.starts) (member l.inside) l.part (option_map way_of l.found) l.i ≡ left l.a (liked l.seen l.starts) (member l.inside) l.part None 0
