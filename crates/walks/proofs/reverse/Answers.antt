-- `walks::reverse` meets its contract.
use Rattle.std.proofs.Common.{refl, ◌∙◌, rules, length-take-le}
use Rattle.std.proofs.lemmas.List.{take_at}
use Rattle.records.specs.Tables.{in_order}
use Rattle.walks.proofs.reverse.Goals as goal

pub returns : goal.returns
unfolding in_order
returns c =
    let r = c.reverse in
    let o = c.args.o.now in
    (take_at r.new.self _ o.len (r.ensures.len ∙ length-take-le o.len o.block (search rules)) ∙ r.ensures.after, refl)
