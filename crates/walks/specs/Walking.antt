-- What the walks ask of a graph, and what they leave.
use Rattle.std.specs.Prelude.{ℕ, ◌+◌, ◌≤◌, ◌<◌, ◌≡◌, not, List, [], ◌∷◌, length, get_or, map, take, reverse, Option, None, Some}
use Rattle.limits.specs.Limits.{blocks, arms}
use Rattle.marks.specs.Sets.{member, size}
use Rattle.records.specs.declared.Arms.{Arms}
use Rattle.records.specs.declared.Graph.{Graph}
use Rattle.records.specs.Tables.{leaves, tabled, Stands, Carries, in_order}
use Rattle.rules.specs.Lists.{keep, foldl, mem}
use Rattle.rules.specs.Graph as graph
use Rattle.rules.specs.Graph.{numbers_of, entry}
use Rattle.rules.specs.PlainOrder as rules
use Rattle.rules.proofs.Membership.{In}
use Rattle.rules.proofs.Wholeness.{Whole}
use Rattle.rules.proofs.PlainVisit.{todo, nothing}
use Rattle.rules.proofs.StackWalk as machine
use Rattle.stack.specs.declared.Frame.{Frame}
use Rattle.walks.specs.declared.Walk.{Walk}

-- The tables stand for a graph within their room, and its arms go to blocks of its own.
pub record Fitting (t : Graph) : Type 0 where
  pub stands : Stands blocks arms t (tabled t)
  pub whole : Whole (tabled t)

-- The tables carry such a graph, wherever `place` says that its blocks are listed.
pub record Walkable (t : Graph) : Type 0 where
  pub stands : Carries blocks arms t (tabled t)
  pub whole : Whole (tabled t)

-- the tables have the arms of h, which all go to blocks of h
pub record ArmsOf (a : Arms) (h : graph.Graph) : Type 0 where
  pub whole : Whole h
  pub low : (n : ℕ) → In n (numbers_of h) → n < blocks
  pub within : (n : ℕ) → In n (numbers_of h) → get_or a.first n 0 + get_or a.count n 0 ≤ arms
  pub same : (n : ℕ) → In n (numbers_of h) → todo h n ≡ reverse (map (λ (x : graph.Arm). x.to) (leaves a n))

-- a block of a graph that the tables have
pub record Begins (a : Arms) (root : ℕ) : Type 0 where
  pub graph : graph.Graph
  pub has : ArmsOf a graph
  pub root_in : In root (numbers_of graph)

-- where the next arm of a block goes, when so many are started: to a block of g, if there is one
abbrev pub Leads : graph.Graph → Frame → Option ℕ → Type 0
Leads g f None = length (todo g f.block) ≤ f.arm
Leads g f (Some t) = (f.arm < length (todo g f.block)) × (t ≡ get_or (todo g f.block) f.arm 0) × In t (numbers_of g)

-- the same in every graph that the tables have and that has the block
abbrev pub LeadsIn : Arms → Frame → Option ℕ → Type 0
LeadsIn a f r = (h : graph.Graph) → ArmsOf a h → In f.block (numbers_of h) → Leads h f r

-- the entries of a stack are blocks of g, with no more arms started than they have
abbrev pub Stacked : graph.Graph → List machine.Frame → Type 0
Stacked g [] = Unit {0}
Stacked g (f ∷ st) = (In f.block (numbers_of g) × (f.next ≤ length (todo g f.block))) × Stacked g st

-- all that are seen are finished, but for n blocks
abbrev pub Counted : ℕ → Walk → Type 0
Counted n w = n + w.done.len ≡ size w.seen

-- this is the rules' walk v
pub record Shows (v : rules.Walk) (w : Walk) : Type 0 where
  pub seen_is : (m : ℕ) → member w.seen m ≡ mem m v.seen
  pub done_is : in_order w.done ≡ reverse v.done
  pub long : w.done.len ≡ length v.done

-- after the one walk, a visit of this block gives the other
abbrev pub Visited : graph.Graph → ℕ → Walk → Walk → Type 0
Visited g root w w' = (v : rules.Walk) → Shows v w → Shows (rules.visit g (length g) v root) w'

-- the same in every graph that the tables have and that has the block
abbrev pub Visits : Arms → ℕ → Walk → Walk → Type 0
Visits a root w w' = (h : graph.Graph) → ArmsOf a h → In root (numbers_of h) → Visited h root w w'

-- the walk from the entry, if there is one
unfoldable pub entered : graph.Graph → rules.Walk
entered g = elim (entry g) [ None ↦ nothing | Some e ↦ rules.visit g (length g) nothing e ]

-- the walk from each listed block in turn
unfoldable pub all_visited : graph.Graph → rules.Walk
all_visited g = foldl (rules.visit g (length g)) nothing (numbers_of g)

-- the listed blocks that are not in a set
unfoldable pub unmarked : Graph → List ℕ → List ℕ
unmarked t seen = keep (λ (m : ℕ). not (member seen m)) (take t.blocks t.b.listed)
