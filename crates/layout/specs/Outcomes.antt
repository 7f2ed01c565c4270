-- What the calls answer once a graph is in tables, and what they write.
use Rattle.std.specs.Prelude.{ℕ, ◌<◌, ◌≡◌, Bool, cond, List, ◌++◌, ltb, length, drop}
use Rattle.limits.specs.Limits.{numbers, most_arms, marks_below}
use Rattle.rules.specs.declared.Answer.{Answer}
use Rattle.rules.specs.Graph as graph
use Rattle.rules.specs.Forward.{moves}
use Rattle.rules.specs.Exits.{Place, bridges, laid_graph}
use Rattle.rules.specs.Laid.{laid_bytes}
use Rattle.rules.specs.Outcome.{Outcome, refused}
use Rattle.rules.proofs.Membership.{In}
use Rattle.rules.proofs.Wholeness.{Whole}
use Rattle.rules.proofs.Demands.{asked}
use Rattle.records.specs.declared.Graph.{Graph}
use Rattle.records.specs.Tables.{tabled, Back, Carries, Stands}
use Rattle.forwarding.specs.Forwards.{changed}
use Rattle.exits.specs.declared.Laid.{Laid}
use Rattle.layout.specs.Blocks.{places_by, split_by, PlacedOf}

-- ---- forwarding, if it is asked for

-- t' stands for what is asked of t's graph and is t but for what forwarding changes, and so many arms moved
pub record ForwardsIf (on : Bool) (t t' : Graph) (moved : ℕ) : Type 0 where
  pub stands : Stands numbers most_arms t' (asked on (tabled t))
  pub kept : t' ≡ changed t t'.b.marks t'.b.weight t'.a.count t'.a.to
  pub moved_is : moved ≡ cond on (moves (tabled t)) 0

-- t' carries what is asked of t's graph and is t but for what forwarding changes, the way back as it was, and so many arms moved
pub record ForwardedIf (on : Bool) (t t' : Graph) (moved : ℕ) : Type 0 where
  pub stands : Carries numbers most_arms t' (asked on (tabled t))
  pub back : Back t → Back t'
  pub kept : t' ≡ changed t t'.b.marks t'.b.weight t'.a.count t'.a.to
  pub moved_is : moved ≡ cond on (moves (tabled t)) 0

-- ---- what is laid

-- the answer of a layout
unfoldable pub laid_out : ℕ → ℕ → ℕ → ℕ → ℕ → Answer
laid_out bytes blocks bridges moved split =
    record { refusal = 0; place = 0; needed = 0; written = bytes; blocks = blocks; bridges = bridges; moved = moved; split = split }

-- a graph laid and written, of which so many arms had moved before
unfoldable pub outcome_by : Bool → graph.Graph → ℕ → List ℕ → Outcome
outcome_by reorder g moved lent =
    let l = places_by reorder g in
    let out = laid_bytes (split_by reorder g) l in
    let n = length out in
    cond (ltb (length lent) n) (refused 10 0 n lent) (record { answer = laid_out n (length g) (bridges l) moved (split_by reorder g); lent = out ++ drop n lent })

-- that is the answer, and what the lent bytes are in the end
abbrev pub Makes : Bool → graph.Graph → ℕ → List ℕ → List ℕ → Answer → Type 0
Makes reorder g moved before after r = (r ≡ (outcome_by reorder g moved before).answer) × (after ≡ (outcome_by reorder g moved before).lent)

-- what is laid of a graph has arms to blocks of its own, and marks that leave room for the heads'
pub record Fit (reorder : Bool) (g : graph.Graph) : Type 0 where
  pub whole : Whole (laid_graph (places_by reorder g))
  pub low : (p : Place) → In p (places_by reorder g) → p.block.marks < marks_below

-- l has the places of some graph that can be written
pub record Writable (l : Laid) : Type 0 where
  pub reorder : Bool
  pub graph : graph.Graph
  pub placed : PlacedOf reorder graph l
  pub fit : Fit reorder graph

-- for every such graph of n blocks: it is written
abbrev pub Writes : Laid → ℕ → ℕ → List ℕ → List ℕ → Answer → Type 0
Writes l n moved before after r = (reorder : Bool) (g : graph.Graph) → PlacedOf reorder g l → Fit reorder g → length g ≡ n → Makes reorder g moved before after r
