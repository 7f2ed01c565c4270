-- `walks::visit_all` meets its contract: while it runs, the walk from the first listed blocks is shown.
use Rattle.std.proofs.Common.{length, take}
use Rattle.rules.specs.Lists.{foldl}
use Rattle.rules.specs.PlainOrder.{visit}
use Rattle.rules.proofs.PlainVisit.{nothing}
use Rattle.records.specs.Tables.{tabled}
use Rattle.walks.specs.Walking.{Counted, Shows}
use Rattle.walks.proofs.visit_all.Given as goal

abbrev pub invariant-loop-n : goal.invariant-loop-n
invariant-loop-n l =
    let g = tabled l.g in
    Counted 0 l.w × Shows (foldl (visit g (length g)) nothing (take l.n-index (take l.g.blocks l.g.b.listed))) l.w
