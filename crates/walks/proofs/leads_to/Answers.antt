-- `walks::leads_to` meets its contract.
use Rattle.std.proofs.Common.{◌+◌, ◌-◌, ◌<◌, ◌≡◌, sym, arith, length, get_or}
use Rattle.rules.proofs.PlainVisit.{todo, todo_listed}
use Rattle.walks.proofs.ArmLaws.{todo_length, todo_get}
use Rattle.walks.proofs.TurnLaws.{get_or-In}
use Rattle.walks.proofs.leads_to.Goals as goal

pub returns-then-n-next : goal.returns-then-n-next
returns-then-n-next c h has i = omega (arith, todo_length has c.args.f.block i, c.count_of-n.ensures)

pub returns : goal.returns
returns c h has i =
    let a = c.args.g.now.a in
    let f = c.args.f in
    let e = c.count_of-n.ensures in
    let lt : f.arm < length (todo h f.block) = omega (arith, c.if-n-next.false, e, todo_length has f.block i) in
    let t = get_or a.to (c.first_of-first.result + (c.count_of-n.result - 1 - f.arm)) 0 in
    let is : t ≡ get_or (todo h f.block) f.arm 0 = rw (c.first_of-first.ensures, e) (sym (todo_get has f.block i f.arm (omega (arith, c.if-n-next.false, e)))) in
    (lt, is, rw is (todo_listed h has.whole f.block i _ (get_or-In (todo h f.block) f.arm lt)))
