-- `rotate::turning_place` meets its contract: the rule's tests, by the tables.
use native.Mathlib.Omega.{arith}
use mathlib.Core.Path.{sym}
use lib.ListN.{length}
use Rattle.std.proofs.lemmas.Slice.{between_to_end}
use Rattle.rotate.proofs.PlaceLaws.{found_at, found_none}
use Rattle.rotate.proofs.RotateLaws.{turns_empty, turns_nowhere, turns_missing, turns_from, turns_not}
use Rattle.rotate.proofs.turning_place.Goals as goal

pub returns-in_err-last : goal.returns-in_err-last
returns-in_err-last c =
    let x = c.args in
    rw c.from_residual.ensures (turns_empty x.g.now x.entry x.trace.now (sym c.in_err-last.ensures.value))

pub returns-in_err-q : goal.returns-in_err-q
returns-in_err-q c =
    let x = c.args in
    rw c.from_residual-in_err-q.ensures (turns_nowhere x.g.now x.entry x.trace.now _ (sym c.in_ok-last.ensures.value) (c.in_err-q.ensures.value x.g.now.b))

pub returns-in_err-p : goal.returns-in_err-p
returns-in_err-p c =
    let x = c.args in
    rw c.from_residual-in_err-p.ensures
    (turns_missing x.g.now x.entry x.trace.now _ (sym c.in_ok-last.ensures.value) c.in_ok-q.q (c.in_ok-q.ensures.value x.g.now.b) (found_none _ x.trace.now (sym c.in_err-p.ensures)))

pub returns-then-turns : goal.returns-then-turns
returns-then-turns c =
    let x = c.args in
    turns_from x.g.now x.entry x.trace.now _ (sym c.in_ok-last.ensures.value) c.in_ok-q.q (c.in_ok-q.ensures.value x.g.now.b) c.in_ok-p.p (found_at _ x.trace.now c.in_ok-p.p (sym c.in_ok-p.ensures)) _
    (between_to_end x.trace.now c.in_ok-p.p (length x.trace.now) (omega arith)) _ c.turns.ensures c.if-turns.true

pub returns-else-turns : goal.returns-else-turns
returns-else-turns c =
    let x = c.args in
    turns_not x.g.now x.entry x.trace.now _ (sym c.in_ok-last.ensures.value) c.in_ok-q.q (c.in_ok-q.ensures.value x.g.now.b) c.in_ok-p.p (found_at _ x.trace.now c.in_ok-p.p (sym c.in_ok-p.ensures)) _
    (between_to_end x.trace.now c.in_ok-p.p (length x.trace.now) (omega arith)) _ c.turns.ensures c.if-turns.false
