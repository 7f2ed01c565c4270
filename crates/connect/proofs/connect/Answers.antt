-- `connect::connect` meets its contract: what is laid before each turn, and what is left, come to what the rules lay.
use mathlib.Core.Path.{sym, ◌∙◌}
use Rattle.connect.proofs.JoinLaws.{turn_first, turn_used, turn_begins, turn_laid, turns_over}
use Rattle.connect.proofs.connect.Goals as goal
use Rattle.connect.proofs.connect.Goals.{then-not-is_marked, else-not-is_marked}

pub loop-from-init : goal.loop-from-init
loop-from-init c = turn_first c.args.g.now c.args.found.now c.none-used.result _ c.none-used.ensures

pub follow-requires : goal.follow-requires
follow-requires c =
    record {
      arms = c.requires.0;
      begins = turn_begins c.args.g.now c.args.found.now c.loop-from.used c.loop-from.o c.loop-from.from c.loop-from-test.true c.loop-from.invariant c.heads-head.result c.requires.1 c.heads-head.ensures
          (sym c.is_marked.ensures ∙ c.if-not-is_marked.true);
    }

pub loop-from-preserved : goal.loop-from-preserved
loop-from-preserved c =
    let g = c.args.g.now in
    let f = c.args.found.now in
    let l = c.loop-from in
    elim c.if-not-is_marked.branch [
      | then-not-is_marked w ↦ rw (w.used-is, w.o-is) (turn_laid g f l.used l.o l.from c.loop-from-test.true l.invariant _ _ (sym c.is_marked.ensures ∙ w.if-not-is_marked.true) w.follow.ensures)
      | else-not-is_marked w ↦ rw (w.used-is, w.o-is) (turn_used g f l.used l.o l.from c.loop-from-test.true l.invariant (sym c.is_marked.ensures ∙ w.if-not-is_marked.false))
    ]

pub returns : goal.returns
returns c = turns_over c.args.g.now c.args.found.now c.loop-from.used c.loop-from.o c.loop-from.from c.requires.1 c.loop-from-test.false c.loop-from.invariant
