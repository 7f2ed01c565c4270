-- `walks::unreached` meets its contract: while it runs, the first listed blocks that are not marked stand behind the order.
use Rattle.std.proofs.Common.{take}
use Rattle.walks.proofs.OrderLaws.{Behind}
use Rattle.walks.proofs.unreached.Given as goal

abbrev pub invariant-loop-n : goal.invariant-loop-n
invariant-loop-n l = Behind l.seen (take l.g.blocks l.g.b.listed) l.initial.o l.o l.n-index
