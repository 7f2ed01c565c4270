-- What `cycles` asks of a graph, and what it answers.
use Rattle.std.specs.Prelude.{ℕ, ◌≤◌, ◌≡◌, ◌↔◌, List, T, get_or}
use Rattle.limits.specs.Limits.{arms}
use Rattle.rules.specs.Graph as graph
use Rattle.rules.specs.Graph.{numbers_of}
use Rattle.rules.specs.Heads.{together}
use Rattle.rules.specs.Within.{arm_total}
use Rattle.rules.proofs.Membership.{In}
use Rattle.records.specs.declared.Graph.{Graph}
use Rattle.records.specs.Tables.{tabled}
use Rattle.walks.specs.Walking.{Fitting, Walkable}

-- The tables stand for a graph within their room, and there is room for each of its arms.
pub record Linkable (t : Graph) : Type 0 where
  pub fitting : Fitting t
  pub few_arms : arm_total (tabled t) ≤ arms

-- The tables carry such a graph, wherever `place` says that its blocks are listed.
pub record Gatherable (t : Graph) : Type 0 where
  pub fitting : Walkable t
  pub few_arms : arm_total (tabled t) ≤ arms

-- two listed blocks have one piece exactly when each reaches the other
pub record PiecesOf (g : graph.Graph) (piece : List ℕ) : Type 0 where
  pub exact : (n m : ℕ) → In n (numbers_of g) → In m (numbers_of g) → (get_or piece n 0 ≡ get_or piece m 0) ↔ T (together g n m)
