-- The traces that are used so far and where their blocks stand, and what following on from a trace adds.
use Rattle.std.specs.Prelude.{ℕ, zero, suc, ◌+◌, ◌-◌, ◌<◌, ◌≡◌, true, false, cond, List, [], map, reverse, get_or, Option, None, Some}
use Rattle.rules.specs.Lists.{concat}
use Rattle.rules.proofs.JoinEnd.{Follows}
use Rattle.records.specs.declared.Graph.{Graph}
use Rattle.records.specs.declared.Order.{Order}
use Rattle.records.specs.Tables.{tabled, in_order}
use Rattle.marks.specs.Sets.{member}
use Rattle.flow.specs.Lent.{Runs, Marks}
use Rattle.connect.specs.declared.Traces.{Traces}
use Rattle.connect.specs.Joined.{begin_of, end_of, all_traces, Joinable, AllOf}
use Rattle.connect.specs.Links.{Starts}

-- the table of the traces by their first blocks
pub record Heads (f : Traces) (head : List (Option ℕ)) : Type 0 where
  pub below : (n k : ℕ) → get_or head n None ≡ Some k → k < f.len
  pub starts : Starts (all_traces f) f.ends head

-- how many blocks the used ones of the first k traces have
unfoldable pub laid_in : List ℕ → List ℕ → ℕ → ℕ
laid_in ends used zero = 0
laid_in ends used (suc k) = cond (member used k) (end_of ends k - begin_of ends k) 0 + laid_in ends used k

-- the blocks of the traces that were used, the last first
unfoldable pub laid_of : List (List ℕ) → List ℕ → List ℕ
laid_of ts l = concat (map (λ (i : ℕ). get_or ts i []) (reverse l))

-- the blocks of the used traces are laid
abbrev pub Places : Traces → List ℕ → Order → Type 0
Places f used o = o.len ≡ laid_in f.ends used f.len

-- trace `from` can be laid and what follows it
pub record Begins (f : Traces) (head : List (Option ℕ)) (used : List ℕ) (o : Order) (from : ℕ) : Type 0 where
  pub joinable : Joinable f
  pub heads : Heads f head
  pub places : Places f used o
  pub one : from < f.len
  pub free : member used from ≡ false

-- the traces of the list are used, the last first, and their blocks laid
pub record Laid (ts : List (List ℕ)) (used : List ℕ) (o : Order) (l : List ℕ) : Type 0 where
  pub used_are : Marks used l
  pub block_is : in_order o ≡ laid_of ts l

-- trace `from` is used and those that were, their blocks are laid; and in every graph that has these tables and the blocks of the
-- traces, what the rules lay when they follow on from it is laid
pub record Followed (g : Graph) (f : Traces) (used : List ℕ) (o : Order) (from : ℕ) (used' : List ℕ) (o' : Order) : Type 0 where
  pub places : Places f used' o'
  pub laid : member used' from ≡ true
  pub kept : (m : ℕ) → member used m ≡ true → member used' m ≡ true
  pub follows : (t : Graph) → Runs t g → AllOf t f → (l v : List ℕ) → Laid (all_traces f) used o l → Follows (tabled t) (all_traces f) l from v → Laid (all_traces f) used' o' v
