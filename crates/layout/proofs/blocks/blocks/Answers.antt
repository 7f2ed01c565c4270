-- `layout::blocks::blocks` meets its contract: each pass is given what the one before made.
use Rattle.std.proofs.Common.{◌≡◌, length, rules}
use Rattle.limits.specs.Limits.{blocks}
use Rattle.layout.proofs.BlockLaws.{layable_own, laid_own, spread_carried, can_divide, carried_can_lay, can_split, all_placed}
use Rattle.layout.proofs.blocks.blocks.Goals as goal

pub spread-requires : goal.spread-requires
spread-requires c = c.requires.ready.sound

pub ordered-order-requires : goal.ordered-order-requires
ordered-order-requires c = spread_carried c.requires.ready c.spread.ensures

pub partition-parts-requires : goal.partition-parts-requires
partition-parts-requires c = can_divide c.requires.ready c.spread.ensures c.args.reorder _ c.ordered-order.ensures

pub lay-requires : goal.lay-requires
lay-requires c =
    let long : length c.partition-parts.result.order.block ≡ blocks = search rules in
    let fits = carried_can_lay c.requires.ready c.spread.ensures c.args.reorder _ c.ordered-order.ensures _ c.partition-parts.ensures long in
    record { layable = layable_own fits; unlaid = c.requires.unlaid }

pub split_place-laid-requires : goal.split_place-laid-requires
split_place-laid-requires c =
    let long : length c.partition-parts.result.order.block ≡ blocks = search rules in
    let fits = carried_can_lay c.requires.ready c.spread.ensures c.args.reorder _ c.ordered-order.ensures _ c.partition-parts.ensures long in
    can_split c.requires.ready c.spread.ensures c.args.reorder _ c.ordered-order.ensures _ c.partition-parts.ensures long _ (laid_own fits c.lay.ensures)

pub returns : goal.returns
returns c =
    let long : length c.partition-parts.result.order.block ≡ blocks = search rules in
    let fits = carried_can_lay c.requires.ready c.spread.ensures c.args.reorder _ c.ordered-order.ensures _ c.partition-parts.ensures long in
    record {
      spread = c.spread.ensures;
      placed = all_placed c.requires.ready c.spread.ensures c.args.reorder _ c.ordered-order.ensures _ c.partition-parts.ensures long _ (laid_own fits c.lay.ensures) _ c.split_place-laid.ensures;
    }
