-- `rotate::exits_at` meets its contract: the best so far and what is left have the best of all.
use Prim.Native.Nat.{◌+◌}
use mathlib.Core.Path.{◌≡◌}
use Rattle.std.specs.Option.{option_map}
use Rattle.marks.specs.Sets.{member}
use Rattle.rotate.specs.Turning.{way_of, liked}
use Rattle.rotate.proofs.OutLaws.{through}
use Rattle.rotate.proofs.exits_at.Given as goal

abbrev pub invariant-loop-q : goal.invariant-loop-q
invariant-loop-q l =
    through l.a (liked l.seen l.starts) (member l.inside) l.index (option_map way_of l.found) l.q (l.f + l.c)
    ≡ through l.a (liked l.seen l.starts) (member l.inside) l.index (option_map way_of l.initial.found) l.f (l.f + l.c)
