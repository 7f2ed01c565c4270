-- `cycles::cycles` meets its contract: both walks in turn, over the lists of arms in.
use Rattle.std.proofs.Common.{refl, arith}
use Rattle.limits.specs.Limits.{blocks}
use Rattle.cycles.specs.Inward.{ins}
use Rattle.cycles.proofs.InwardLaws.{none_get}
use Rattle.cycles.proofs.StandingLaws.{order_low, pieces_of}
use Rattle.cycles.proofs.cycles.Goals as goal

pub link_all-requires : goal.link_all-requires
link_all-requires c = (c.requires, refl, λ y. none_get blocks y)

pub sort-requires : goal.sort-requires
sort-requires c =
    let t = c.args.g.now in
    let o = c.finished-o.ensures in
    (record { lists = ins t t.blocks; has = c.link_all.ensures }, omega (arith, o.1, c.requires.fitting.stands.few), order_low t c.requires _ o.0)

pub returns : goal.returns
returns c =
    let t = c.args.g.now in
    pieces_of t c.requires _ c.finished-o.ensures.0 _ (c.sort.ensures (ins t t.blocks) c.link_all.ensures)
