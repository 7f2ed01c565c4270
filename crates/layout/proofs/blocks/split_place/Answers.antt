-- `layout::blocks::split_place` meets its contract: where there is a split, its block has a place.
use Rattle.std.proofs.Common.{arith}
use Rattle.layout.proofs.blocks.split_place.Goals as goal

pub offset_bounds-order-i : goal.offset_bounds-order-i
offset_bounds-order-i c = omega (arith, (c.requires c.in-Some.i c.in-Some.is).0)

pub bounds-order-i : goal.bounds-order-i
bounds-order-i c = (c.requires c.in-Some.i c.in-Some.is).0

pub overflow_sub-result : goal.overflow_sub-result
overflow_sub-result c = omega (arith, c.place_of.ensures, (c.requires c.in-Some.i c.in-Some.is).1)
