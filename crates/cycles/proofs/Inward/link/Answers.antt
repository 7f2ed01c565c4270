-- `Inward::link` meets its contract.
use Rattle.std.proofs.Common.{refl, rules}
use Rattle.cycles.proofs.InwardLaws.{link_more}
use Rattle.cycles.proofs.Inward.link.Goals as goal

pub returns : goal.returns
returns c =
    let p = c.requires in
    (refl, link_more c.args.self.now c.args.m c.args.t (search rules) p.0 p.1 (search rules))
