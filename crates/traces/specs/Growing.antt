-- One trace, and what is held when it is laid.
use Rattle.std.specs.Prelude.{ℕ, ◌+◌, ◌≤◌, ◌≡◌, List, ◌++◌, length, take, drop}
use Rattle.limits.specs.Limits.{numbers}
use Rattle.rules.specs.Rotate.{rotate}
use Rattle.rules.specs.Traces.{extend, Traced}
use Rattle.records.specs.declared.Graph.{Graph}
use Rattle.records.specs.Tables.{tabled}
use Rattle.flow.specs.Lent.{Marks}
use Rattle.seeds.specs.Reached.{Reached}
use Rattle.connect.specs.Joined.{begin_of}
use Rattle.traces.specs.declared.Growth.{Growth}
use Rattle.traces.specs.Held.{Held, Free}

-- where the next trace begins
abbrev pub start_of : Growth → ℕ
start_of w = begin_of w.made.ends w.made.len

-- the trace from a block
abbrev pub trace_of : Graph → Traced → ℕ → ℕ → ℕ → List ℕ
trace_of t s likely low from = extend (tabled t) likely low (length (tabled t)) s.laid from

-- what a trace leaves as it was, before it counts as found
pub record Kept (w v : Growth) : Type 0 where
  pub entry : v.entry ≡ w.entry
  pub starts : v.starts ≡ w.starts
  pub ends : v.made.ends ≡ w.made.ends
  pub len : v.made.len ≡ w.made.len
  pub order_sized : length v.made.order ≡ length w.made.order

-- the trace is laid, turned, up to place e
pub record TurnedTo (t : Graph) (s : Traced) (likely low from : ℕ) (w v : Growth) (e : ℕ) : Type 0 where
  pub laid_is : Marks v.seen (trace_of t s likely low from ++ s.laid)
  pub reached_is : Reached t (trace_of t s likely low from ++ s.laid) v.reached
  pub end : e ≡ start_of w + length (trace_of t s likely low from)
  pub few : e ≤ numbers
  pub order_is : v.made.order ≡ take (start_of w) w.made.order ++ (rotate (tabled t) (trace_of t s likely low from ++ s.laid) s.starts (trace_of t s likely low from) ++ drop e w.made.order)

abbrev pub Turned : Graph → ℕ → ℕ → ℕ → Growth → Growth → ℕ → Type 0
Turned t likely low from w v e = (s : Traced) → Held t s w → Free t s from → TurnedTo t s likely low from w v e
