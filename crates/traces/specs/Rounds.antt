-- The rounds in turn, and the whole of it.
use Rattle.std.specs.Prelude.{ℕ, ◌≤◌, ◌≡◌, length}
use Rattle.limits.specs.Limits.{blocks}
use Rattle.rules.specs.Lists.{foldl}
use Rattle.rules.specs.Graph as graph
use Rattle.rules.specs.PlainOrder as rules
use Rattle.rules.specs.Traces.{rounds, Traced, fill, in_round, entry_trace}
use Rattle.records.specs.declared.Graph.{Graph}
use Rattle.records.specs.declared.Order.{Order}
use Rattle.records.specs.Tables.{tabled, in_order}

-- the plain order of the graph
pub record Plain (t : Graph) (o : Order) : Type 0 where
  pub order_is : in_order o ≡ rules.order (tabled t)
  pub few : o.len ≤ blocks

-- with the traces of a round
abbrev pub filled : graph.Graph → ℕ → ℕ → Traced → Traced
filled g likely low s = fill g (rules.order g) likely low (length g) s

-- with those of all rounds
abbrev pub all_rounds : graph.Graph → Traced → Traced
all_rounds g s = foldl (in_round g) s rounds

-- what is traced of a graph when the rounds are over
abbrev pub all_traced : graph.Graph → Traced
all_traced g = all_rounds g (entry_trace g)
