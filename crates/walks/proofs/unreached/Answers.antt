-- `walks::unreached` meets its contract.
use Rattle.std.proofs.Common.{sym, ◌∙◌}
use Rattle.walks.specs.Walking.{unmarked}
use Rattle.walks.proofs.OrderLaws.{behind_start, behind_no, behind_room, behind_yes, behind_end}
use Rattle.walks.proofs.unreached.Goals as goal

pub loop-n-init : goal.loop-n-init
loop-n-init c = behind_start _ _ _

pub loop-n-preserved-then-is_marked : goal.loop-n-preserved-then-is_marked
loop-n-preserved-then-is_marked c =
    let l = c.loop-n in
    behind_no c.args.seen.now _ c.args.o.now l.o l.n-index l.invariant c.loop-n-test.true (sym c.is_marked.ensures ∙ c.if-is_marked.true)

pub push-requires : goal.push-requires
unfolding unmarked
push-requires c =
    let l = c.loop-n in
    behind_room c.args.seen.now _ c.args.o.now l.o l.n-index l.invariant c.loop-n-test.true (sym c.is_marked.ensures ∙ c.if-is_marked.false) c.requires.1

pub loop-n-preserved : goal.loop-n-preserved
loop-n-preserved c =
    let l = c.loop-n in
    behind_yes c.args.seen.now _ c.args.o.now l.o l.n-index l.invariant c.loop-n-test.true (sym c.is_marked.ensures ∙ c.if-is_marked.false) c.push.new.o c.push.ensures.0 c.push.ensures.1

pub returns : goal.returns
unfolding unmarked
returns c = let l = c.loop-n in behind_end c.args.seen.now _ c.args.o.now l.o l.n-index l.invariant c.loop-n-test.false
