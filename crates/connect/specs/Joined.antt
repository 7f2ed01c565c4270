-- The traces as the tables have them, and what joining them gives in every graph that has the tables.
use Rattle.std.specs.Prelude.{ℕ, zero, suc, ◌≤◌, ◌<◌, ◌≡◌, List, [], ◌∷◌, ◌++◌, get_or, replicate, take}
use Rattle.std.proofs.Math.Seq.{slice}
use Rattle.limits.specs.Limits.{numbers, blocks}
use Rattle.rules.specs.Join.{connect}
use Rattle.rules.proofs.Membership.{In}
use Rattle.rules.proofs.Counting.{Once}
use Rattle.records.specs.declared.Graph.{Graph}
use Rattle.records.specs.declared.Order.{Order}
use Rattle.records.specs.Tables.{tabled, in_order}
use Rattle.flow.specs.Lent.{Runs, Of}
use Rattle.connect.specs.declared.Traces.{Traces}

-- no trace
abbrev pub empty : Traces
empty = record { order = replicate blocks 0; ends = replicate blocks 0; len = 0 }

-- where trace k begins, each ending where the next begins
unfoldable pub begin_of : List ℕ → ℕ → ℕ
begin_of ends zero = 0
begin_of ends (suc k) = get_or ends k 0

-- where it ends
abbrev pub end_of : List ℕ → ℕ → ℕ
end_of ends k = get_or ends k 0

-- the first k traces
unfoldable pub traces_in : List ℕ → List ℕ → ℕ → List (List ℕ)
unfolding begin_of
traces_in order ends zero = []
traces_in order ends (suc k) = traces_in order ends k ++ (slice (begin_of ends k) (get_or ends k 0) order ∷ [])

-- all traces, and their blocks
abbrev pub all_traces : Traces → List (List ℕ)
all_traces f = traces_in f.order f.ends f.len

abbrev pub all_blocks : Traces → List ℕ
all_blocks f = take (begin_of f.ends f.len) f.order

-- trace k has a block, and lies within the order
pub record Stretch (ends : List ℕ) (k : ℕ) : Type 0 where
  pub one : k < blocks
  pub rises : begin_of ends k < end_of ends k
  pub within : end_of ends k ≤ blocks

-- every trace has a block, and no block stands twice
pub record Joinable (f : Traces) : Type 0 where
  pub rising : (k : ℕ) → k < f.len → begin_of f.ends k < end_of f.ends k
  pub last : begin_of f.ends f.len ≤ numbers
  pub low : (i : ℕ) → i < begin_of f.ends f.len → get_or f.order i 0 < blocks
  pub once : Once (all_blocks f)

-- all blocks of the traces are the graph's
abbrev pub AllOf : Graph → Traces → Type 0
AllOf g f = (n : ℕ) → In n (all_blocks f) → Of g n

-- in every graph that has these tables and the blocks of these traces: the traces as the rules join them
abbrev pub JoinedBy : Graph → Traces → Order → Type 0
JoinedBy g f r = (t : Graph) → Runs t g → AllOf t f → (in_order r ≡ connect (tabled t) (all_traces f)) × (r.len ≡ begin_of f.ends f.len)
