-- What the passes that go by weights say of the graphs that have their tables: of the blocks, a set of them, and an arm that is chosen.
use Rattle.std.specs.Prelude.{ℕ, ◌≡◌, List, Option, None, Some}
use Rattle.rules.specs.Lists.{mem}
use Rattle.rules.specs.Graph as graph
use Rattle.rules.specs.Graph.{numbers_of}
use Rattle.rules.proofs.Membership.{In}
use Rattle.records.specs.declared.Arms.{Arms}
use Rattle.records.specs.declared.Graph.{Graph}
use Rattle.records.specs.Tables.{arm_at, tabled, Carried}
use Rattle.marks.specs.Sets.{member}

-- t has these arms, whatever they carry
pub record HasArms (t : Graph) (a : Arms) : Type 0 where
  pub first_is : t.a.first ≡ a.first
  pub count_is : t.a.count ≡ a.count
  pub to_is : t.a.to ≡ a.to
  pub weight_is : t.a.weight ≡ a.weight

-- t is carried and has g's marks and arms, and maybe other tables
pub record Runs (t g : Graph) : Type 0 where
  pub sound : Carried t
  pub marks_is : t.b.marks ≡ g.b.marks
  pub arms : HasArms t g.a

-- and its weights too
pub record Flows (t g : Graph) : Type 0 where
  pub runs : Runs t g
  pub weight_is : t.b.weight ≡ g.b.weight

-- n is one of t's blocks
abbrev pub Of : Graph → ℕ → Type 0
Of t n = In n (numbers_of (tabled t))

-- the set is of the blocks of the list
abbrev pub Marks : List ℕ → List ℕ → Type 0
Marks set l = (n : ℕ) → member set n ≡ mem n l

-- the arm that is chosen
unfoldable pub arm_of : Arms → Option ℕ → Option graph.Arm
arm_of a (Some q) = Some (arm_at a q)
arm_of a None = None
