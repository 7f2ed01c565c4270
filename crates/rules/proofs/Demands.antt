-- What is owed of a layout, in one place: every theorem about what is laid, of every accepted file, with no other condition.
-- Assumes nothing.
use Prim.Native.Nat.{ℕ, ◌+◌, ◌≤◌, ◌<◌}
use native.Mathlib.Omega.{arith}
use mathlib.Core.Path.{◌≡◌, sym, subst}
use mathlib.Core.Bool.{Bool, true, false, not}
use mathlib.Core.Logic.{◌↔◌}
use mathlib.Core.List.{List}
use Rattle.std.specs.Prelude.{Some}
use lib.Dec.{T}
use lib.ListN.{length, get_or}
use Rattle.limits.specs.Limits.{numbers}
use Rattle.rules.specs.Graph.{Graph, no_block, block_at, numbers_of, entry}
use Rattle.rules.specs.Records.{records, graph_of}
use Rattle.rules.specs.Refusals.{verdict}
use Rattle.rules.specs.Forward.{forward}
use Rattle.rules.specs.Split.{splits, partition}
use Rattle.rules.specs.Exits.{Place, bridges, laid_graph}
use Rattle.rules.specs.Heads.{head_at, together, looped}
use Rattle.rules.specs.Laid.{ordered, readied, layout}
use Rattle.rules.proofs.Membership.{In}
use Rattle.rules.proofs.Counting.{count, Once, In→count}
use Rattle.rules.proofs.Written.{numbers_in, bridges_in}
use Rattle.rules.proofs.AcceptedGraph.{Sound, accepted_sound}
use Rattle.rules.proofs.Forwarded.{forward_numbers}
use Rattle.rules.proofs.SpreadMarks.{spread_arms}
use Rattle.rules.proofs.Chains.{Chain}
use Rattle.rules.proofs.HeadsExact.{Head, heads_exact}
use Rattle.rules.proofs.BridgeNoHead.{no_place, bridge_no_head}
use Rattle.rules.proofs.Classes.{Other, classes, looped_exact}
use Rattle.rules.proofs.ListedOnce.{ordered_listed, blocks_once, bridges_once, listed_once}
use Rattle.rules.proofs.ArmsKept.{Kept, arms_kept}
use Rattle.rules.proofs.BridgeAfter.{targets_in, After, bridge_after, bridge_only, laid_whole}
use Rattle.rules.proofs.SplitParts.{Parts, split_parts, Undivided, no_split_lem}
use Rattle.rules.proofs.EntryFirst.{BeginsPlace, entry_first}

-- the graph after forwarding, if it is asked for
abbrev pub asked : Bool → Graph → Graph
asked true g = forward g
asked false g = g

readied_arms : (forwarding : Bool) (g : Graph) (n : ℕ) → In n (numbers_of g) → (block_at (readied forwarding g) n).arms ≡ (block_at (asked forwarding g) n).arms
unfolding readied
readied_arms true g n i = spread_arms (forward g) n (subst (λ (l : List ℕ). In n l) (sym (forward_numbers g)) i)
readied_arms false g n i = spread_arms g n i

module _ (g : Graph) (forwarding reorder : Bool) where
  -- the graph as it is laid from, the order before the split, the places, and the laid graph
  abbrev pub from : Graph
  from = readied forwarding g

  abbrev pub in_order : List ℕ
  in_order = ordered reorder from

  abbrev pub places : List Place
  places = layout forwarding reorder g

  abbrev pub laid_blocks : Graph
  laid_blocks = laid_graph places

  pub record Demands : Type 0 where
    -- each block of the graph stands exactly once, each bridge exactly once, and no number twice
    pub each_block_once : (n : ℕ) → In n (numbers_of g) → count n (numbers_in places) ≡ 1
    pub each_bridge_once : (n : ℕ) → numbers ≤ n → n < numbers + bridges places → count n (numbers_in places) ≡ 1
    pub no_number_twice : Once (numbers_in places)
    -- a bridge stands directly after the only block with an arm into it
    pub bridge_directly_after : (n : ℕ) → In n (bridges_in places) → After places n
    pub bridge_entered_once : (n : ℕ) → numbers ≤ n → n < numbers + bridges places → count n (targets_in places) ≡ 1
    -- the entry is first
    pub entry_is_first : (e : ℕ) → entry g ≡ Some e → BeginsPlace e places
    -- with a split warm comes first, each part in its order; without one nothing moves
    pub parts : T (splits from) → Parts from in_order
    pub undivided : T (not (splits from)) → Undivided from in_order
    -- with bridges passed through, each block's arms are those after forwarding (if asked for), at most two exchanged
    pub arms_are_kept : Kept from (partition from in_order) places
    pub arms_are_forwarded : (n : ℕ) → In n (numbers_of g) → (block_at from n).arms ≡ (block_at (asked forwarding g) n).arms
    -- heads exactly as said, over the laid graph
    pub heads_are : (i : ℕ) → i < length laid_blocks → T (head_at laid_blocks i) ↔ Head laid_blocks i (get_or laid_blocks i no_block)
    pub no_bridge_heads : (i : ℕ) → i < length laid_blocks → (get_or places i no_place).is_bridge ≡ true → T (head_at laid_blocks i) → ⊥
    -- classes exactly as said, over the laid graph
    pub classes_are : (n m : ℕ) → In n (numbers_of laid_blocks) → In m (numbers_of laid_blocks) → T (together laid_blocks n m) ↔ (Chain laid_blocks n m × Chain laid_blocks m n)
    pub loops_are : (n : ℕ) → In n (numbers_of laid_blocks) → T (looped laid_blocks n) ↔ Other laid_blocks n

  pub demands : Sound g → Demands
  demands d =
      record {
        each_block_once = λ n i. omega (arith, blocks_once g d forwarding reorder n (d.low n i), d.once n, In→count n (numbers_of g) i);
        each_bridge_once = bridges_once g d forwarding reorder;
        no_number_twice = listed_once g d forwarding reorder;
        bridge_directly_after = bridge_after g d forwarding reorder;
        bridge_entered_once = bridge_only g d forwarding reorder;
        entry_is_first = entry_first g d forwarding reorder;
        parts = split_parts from in_order (ordered_listed g d forwarding reorder);
        undivided = no_split_lem from in_order (ordered_listed g d forwarding reorder);
        arms_are_kept = arms_kept forwarding reorder g;
        arms_are_forwarded = readied_arms forwarding g;
        heads_are = heads_exact laid_blocks (laid_whole g d forwarding reorder);
        no_bridge_heads = bridge_no_head g d forwarding reorder;
        classes_are = classes laid_blocks (laid_whole g d forwarding reorder);
        loops_are = looped_exact laid_blocks (laid_whole g d forwarding reorder);
      }

-- THE THEOREM
pub accepted_demands : (s : List ℕ) → (verdict s).number ≡ 0 → (forwarding reorder : Bool) → Demands (graph_of (records s)) forwarding reorder
accepted_demands s e forwarding reorder = demands (graph_of (records s)) forwarding reorder (accepted_sound s e)
