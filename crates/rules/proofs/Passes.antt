-- What is owed of each pass on the way to a layout, in one place: of every accepted file, with no other condition. What the passes'
-- theorems say of all graphs (`goal_first`, `forward_moves`, `spread_closed`, `spread_least`, the choices) is not said again here.
-- Assumes nothing.
use Prim.Native.Nat.{ℕ}
use mathlib.Core.Path.{◌≡◌, sym, ap, ◌∙◌, subst}
use mathlib.Core.Bool.{Bool}
use mathlib.Core.List.{List, [], ◌∷◌}
use Rattle.std.specs.Prelude.{Some}
use lib.ListN.{length}
use Rattle.rules.specs.Lists.{concat}
use Rattle.rules.specs.Graph.{Graph, numbers_of, entry}
use Rattle.rules.specs.Records.{records, graph_of}
use Rattle.rules.specs.Refusals.{verdict}
use Rattle.rules.specs.PlainOrder.{Walk, order}
use Rattle.rules.specs.Traces.{Traced, entry_trace, extend, rounds, traces}
use Rattle.rules.specs.Join.{connect}
use Rattle.rules.specs.Exits.{laid_graph}
use Rattle.rules.specs.Laid.{readied, layout}
use Rattle.rules.proofs.Membership.{In}
use Rattle.rules.proofs.Counting.{count, Once}
use Rattle.rules.proofs.Wholeness.{Whole}
use Rattle.rules.proofs.AcceptedGraph.{Sound, accepted_sound}
use Rattle.rules.proofs.Forwarded.{readied_numbers, readied_whole, readied_entry}
use Rattle.rules.proofs.PlainVisit.{Went, nothing, walk_order, plain_visit}
use Rattle.rules.proofs.PlainOnce.{plain_once}
use Rattle.rules.proofs.TracesOnce.{traces_once}
use Rattle.rules.proofs.TracesEnd.{Extends, InTurn, trace_ends, rounds_end}
use Rattle.rules.proofs.JoinOnce.{joined_once}
use Rattle.rules.proofs.ListedOnce.{twice_none, listed_once}
use Rattle.rules.proofs.BridgeAfter.{laid_whole, laid_numbers}
use Rattle.rules.proofs.TwoWalks.{Pieced, pieces, finished, two_walks}

module _ (g : Graph) (forwarding reorder : Bool) where
  abbrev from : Graph
  from = readied forwarding g

  abbrev laid_blocks : Graph
  laid_blocks = laid_graph (layout forwarding reorder g)

  pub record Passes : Type 0 where
    -- the plain order is the depth-first visit, and has each block once
    pub visited : (e : ℕ) → entry g ≡ Some e → (w : Walk) × Went from nothing (e ∷ []) w × (order from ≡ walk_order from w)
    pub plain_has_once : (n : ℕ) → count n (order from) ≡ count n (numbers_of g)
    -- a trace goes on while an arm fits, the rounds while there is a start, and each block is in one trace
    pub trace_goes_on : (likely low : ℕ) (laid : List ℕ) (n : ℕ) → In n (numbers_of g) → Extends from likely low laid n (extend from likely low (length from) laid n)
    pub rounds_go_on : (z : Traced) × InTurn from (entry_trace from) rounds z × (traces from ≡ z.found)
    pub traces_have_once : (n : ℕ) → count n (concat (traces from)) ≡ count n (numbers_of g)
    -- joined, each block stands once
    pub joined_has_once : (n : ℕ) → count n (connect from (traces from)) ≡ count n (numbers_of g)
    -- the two walks of `cycles` over what is laid give the mutual-reach classes
    pub pieces_are : Pieced laid_blocks [] (pieces laid_blocks [] (finished laid_blocks))

  pub passes : Sound g → Passes
  passes d =
      let w : Whole from = readied_whole forwarding g d.whole in
      let o : Once (numbers_of from) = twice_none g d forwarding in
      let same : numbers_of from ≡ numbers_of g = readied_numbers forwarding g in
      record {
        visited = λ e q. plain_visit from w e (readied_entry forwarding g ∙ q);
        plain_has_once = λ n. plain_once from w o n ∙ ap (count n) same;
        trace_goes_on = λ likely low laid n i. trace_ends from w likely low laid n (subst (λ (l : List ℕ). In n l) (sym same) i);
        rounds_go_on = rounds_end from w o;
        traces_have_once = λ n. traces_once from w o n ∙ ap (count n) same;
        joined_has_once = λ n. joined_once from w o n ∙ ap (count n) same;
        pieces_are = two_walks laid_blocks (laid_whole g d forwarding reorder) (subst Once (sym (laid_numbers (layout forwarding reorder g))) (listed_once g d forwarding reorder));
      }

-- THE THEOREM
pub accepted_passes : (s : List ℕ) → (verdict s).number ≡ 0 → (forwarding reorder : Bool) → Passes (graph_of (records s)) forwarding reorder
accepted_passes s e forwarding reorder = passes (graph_of (records s)) forwarding reorder (accepted_sound s e)
