-- `listing::looped` meets its contract: while it runs, the first listed blocks with another of their piece are marked.
use Rattle.std.proofs.Common.{◌≤◌, length}
use Rattle.listing.specs.Loops.{mate}
use Rattle.listing.proofs.LoopLaws.{Chosen}
use Rattle.listing.proofs.looped.Given as goal

abbrev pub invariant-loop-m : goal.invariant-loop-m
invariant-loop-m l = (l.g.blocks ≤ length l.g.b.listed) × Chosen l.m-items (mate l.g l.piece) l.m-index l.set
