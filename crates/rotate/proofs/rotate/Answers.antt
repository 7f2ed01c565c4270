-- `rotate::rotate` meets its contract: the part that turns, its best way out, and the turn.
use native.Mathlib.Omega.{arith}
use lib.ListN.{length}
use Rattle.std.proofs.lemmas.Slice.{between_to_end}
use Rattle.rotate.proofs.RotateLaws.{rotated_none, rotated_stuck, rotated_so}
use Rattle.rotate.proofs.rotate.Goals as goal

pub returns-in_default-clause-rotated : goal.returns-in_default-clause-rotated
returns-in_default-clause-rotated c =
    let x = c.args in
    rotated_none x.g.now x.seen.now x.starts.now x.entry x.trace.now c.in_default.ensures

pub returns-in-Some-best_exit-clause-rotated : goal.returns-in-Some-best_exit-clause-rotated
returns-in-Some-best_exit-clause-rotated c =
    let x = c.args in
    rotated_so x.g.now x.seen.now x.starts.now x.entry x.trace.now c.in-Some.p c.in-Some.ensures _ (between_to_end x.trace.now c.in-Some.p (length x.trace.now) (omega arith))
    c.inside_of-inside.result c.inside_of-inside.ensures _ c.best_exit.ensures c.in-Some-best_exit.out c.in-Some-best_exit.is _ c.turn.ensures

pub returns-in_default-best_exit-clause-rotated : goal.returns-in_default-best_exit-clause-rotated
returns-in_default-best_exit-clause-rotated c =
    let x = c.args in
    rotated_stuck x.g.now x.seen.now x.starts.now x.entry x.trace.now c.in-Some.p c.in-Some.ensures _ (between_to_end x.trace.now c.in-Some.p (length x.trace.now) (omega arith))
    c.inside_of-inside.result c.inside_of-inside.ensures _ c.best_exit.ensures c.in_default-best_exit.is
