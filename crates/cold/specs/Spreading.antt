-- What `spread` gives: the graph's tables with other marks.
use Rattle.std.specs.Prelude.{◌≡◌}
use Rattle.limits.specs.Limits.{numbers, most_arms}
use Rattle.rules.specs.Spread.{spread}
use Rattle.records.specs.declared.Graph.{Graph}
use Rattle.records.specs.Tables.{tabled, Back, Carries, Stands}
use Rattle.cold.specs.Sweeps.{with_marks}

-- they stand for the spread graph
pub record SpreadTo (t₀ t : Graph) : Type 0 where
  pub stands : Stands numbers most_arms t (spread (tabled t₀))
  pub same : t ≡ with_marks t₀ t.b.marks

-- they carry the spread graph, the way back as it was
pub record SpreadFrom (t₀ t : Graph) : Type 0 where
  pub stands : Carries numbers most_arms t (spread (tabled t₀))
  pub back : Back t₀ → Back t
  pub same : t ≡ with_marks t₀ t.b.marks
