-- `lister::list_laid` meets its contract: the heads, the loops, and the lines.
use Rattle.cycles.proofs.StandingLaws.{linkable_gathers}
use Rattle.layout.proofs.WriteLaws.{own, laid_few, can_head}
use Rattle.lister.proofs.ListLaws.{can_print, printed}
use Rattle.lister.proofs.list_laid.Goals as goal

pub heads-heads-requires : goal.heads-heads-requires
heads-heads-requires c = let w = c.requires.writable in can_head w.placed w.fit

pub cycles-piece-requires : goal.cycles-piece-requires
cycles-piece-requires c = let w = c.requires.writable in linkable_gathers (can_head w.placed w.fit)

pub looped-loops-requires : goal.looped-loops-requires
looped-loops-requires c = let w = c.requires.writable in ((laid_few w.placed).0, (own w.placed).below)

pub write-requires : goal.write-requires
write-requires c = record { printable = can_print c.requires.writable.placed; text_room_in_bounds = c.requires.text_room_in_bounds }

pub returns : goal.returns
returns c reorder g h f = printed h _ _ _ c.cycles-piece.ensures c.looped-loops.ensures c.heads-heads.ensures _ _ _ c.write.ensures
