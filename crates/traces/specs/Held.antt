-- What is held of the traces so far, and how a trace more changes it.
use Rattle.std.specs.Prelude.{ℕ, ◌<◌, ◌≡◌, not, T, length}
use Rattle.limits.specs.Limits.{blocks}
use Rattle.rules.specs.Lists.{mem}
use Rattle.rules.specs.Graph as graph
use Rattle.rules.specs.Graph.{numbers_of}
use Rattle.rules.specs.Traces.{Traced, trace_from}
use Rattle.rules.proofs.Counting.{Once}
use Rattle.rules.proofs.Wholeness.{Whole}
use Rattle.rules.proofs.TracesOnce.{Good}
use Rattle.records.specs.declared.Graph.{Graph}
use Rattle.records.specs.Tables.{tabled}
use Rattle.flow.specs.Lent.{Of, Marks}
use Rattle.seeds.specs.Reached.{Reached}
use Rattle.connect.specs.Joined.{begin_of, end_of, all_traces}
use Rattle.traces.specs.declared.Growth.{Growth}

-- s is what is held: the traces found, one after the other
pub record Held (t : Graph) (s : Traced) (w : Growth) : Type 0 where
  pub order_sized : length w.made.order ≡ blocks
  pub ends_sized : length w.made.ends ≡ blocks
  pub entry_is : w.entry ≡ graph.entry (tabled t)
  pub laid_is : Marks w.seen s.laid
  pub starts_are : Marks w.starts s.starts
  pub reached_is : Reached t s.laid w.reached
  pub found_is : all_traces w.made ≡ s.found
  pub long : begin_of w.made.ends w.made.len ≡ length s.laid
  pub rising : (k : ℕ) → k < w.made.len → begin_of w.made.ends k < end_of w.made.ends k
  pub good : (v : Whole (tabled t)) (d : Once (numbers_of (tabled t))) → Good (tabled t) v d s

-- something is held
pub record Holds (t : Graph) (w : Growth) : Type 0 where
  pub so_far : Traced
  pub held : Held t so_far w

-- what is held goes on by a step of the rules
abbrev pub Steps : Graph → (Traced → Traced) → Growth → Growth → Type 0
Steps t f w v = (s : Traced) → Held t s w → Held t (f s) v

-- block n is not laid
pub record Free (t : Graph) (s : Traced) (n : ℕ) : Type 0 where
  pub block : Of t n
  pub new : T (not (mem n s.laid))

-- something is held, and the block is not laid
pub record Adds (t : Graph) (w : Growth) (from : ℕ) : Type 0 where
  pub so_far : Traced
  pub held : Held t so_far w
  pub free : Free t so_far from

-- what is held goes on by a trace from that block
abbrev pub Added : Graph → ℕ → ℕ → ℕ → Growth → Growth → Type 0
Added t likely low from w v = (s : Traced) → Held t s w → Free t s from → Held t (trace_from (tabled t) likely low s from) v
