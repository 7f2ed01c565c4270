-- What forwarding makes of the graph that it is lent.
use Rattle.std.specs.Prelude.{ℕ, ◌≡◌, List}
use Rattle.limits.specs.Limits.{numbers, most_arms}
use Rattle.rules.specs.Forward as rule
use Rattle.records.specs.declared.Graph.{Graph}
use Rattle.records.specs.Tables.{tabled, Apart, Back, Carries, Stands}

-- t with others of the tables that forwarding changes
abbrev pub changed : Graph → List ℕ → List ℕ → List ℕ → List ℕ → Graph
changed t marks weight count to =
    record t { b = record t.b { marks = marks; weight = weight }; a = record t.a { count = count; to = to } }

-- u stands for t forwarded and is t but for these tables, the moves are counted, and arms are still apart
pub record Forwarded (t u : Graph) (moved : ℕ) : Type 0 where
  pub stands : Stands numbers most_arms u (rule.forward (tabled t))
  pub kept : u ≡ changed t u.b.marks u.b.weight u.a.count u.a.to
  pub moved_is : moved ≡ rule.moves (tabled t)
  pub apart : Apart u

-- u carries t forwarded and is t but for these tables, the way back as it was, the moves are counted, and arms are still apart
pub record ForwardedFrom (t u : Graph) (moved : ℕ) : Type 0 where
  pub stands : Carries numbers most_arms u (rule.forward (tabled t))
  pub back : Back t → Back u
  pub kept : u ≡ changed t u.b.marks u.b.weight u.a.count u.a.to
  pub moved_is : moved ≡ rule.moves (tabled t)
  pub apart : Apart u
