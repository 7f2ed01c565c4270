-- What the passes ask of the graph that they are lent, and what they make of it.
use Rattle.std.specs.Prelude.{ℕ, ◌-◌, ◌≤◌, ◌<◌, ◌≡◌, Bool, List, get_or, Option, Some, None}
use Rattle.limits.specs.Limits as most
use Rattle.rules.specs.Graph as graph
use Rattle.rules.specs.Within.{arm_total}
use Rattle.rules.specs.Spread.{spread}
use Rattle.rules.specs.Laid.{ordered}
use Rattle.rules.specs.Exits.{Place, bridges, lay, split_place, laid_graph}
use Rattle.records.specs.declared.Graph.{Graph}
use Rattle.records.specs.Tables.{tabled, Stands, Sound, Carried}
use Rattle.exits.specs.declared.Laid.{Laid}
use Rattle.exits.specs.Lays.{places_of, split_number}

-- the place of the order's block at `split`; no place where there is none
unfoldable pub split_at : List ℕ → List ℕ → Option ℕ → Option ℕ
split_at place order None = None
split_at place order (Some i) = Some (get_or place (get_or order i 0) 0 - 1)

-- the places that the spread graph's order takes, reordered or not
abbrev pub places_by : Bool → graph.Graph → List Place
places_by reorder g = lay (spread g) (ordered reorder (spread g))

-- the place of its cold part's first block
abbrev pub split_by : Bool → graph.Graph → ℕ
split_by reorder g = split_place (spread g) (ordered reorder (spread g))

-- t stands for a graph that can be laid
pub record Ready (t : Graph) : Type 0 where
  pub sound : Sound t
  pub total : arm_total (tabled t) ≤ most.most_arms

-- t carries such a graph
pub record Arrangeable (t : Graph) : Type 0 where
  pub sound : Carried t
  pub total : arm_total (tabled t) ≤ most.most_arms

-- l has the places of g
pub record PlacedOf (reorder : Bool) (g : graph.Graph) (l : Laid) : Type 0 where
  pub places : places_of l ≡ places_by reorder g
  pub stands : Stands most.blocks most.arms l.graph (laid_graph (places_by reorder g))
  pub bridged : l.bridges ≡ bridges (places_by reorder g)
  pub total : l.graph.arms ≡ arm_total (laid_graph (places_by reorder g))
  pub few_arms : l.graph.arms ≤ most.arms
  pub split_is : split_number l.split ≡ split_by reorder g
  pub split_low : (i : ℕ) → l.split ≡ Some i → i < most.no_split
