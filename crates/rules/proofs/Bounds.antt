-- THEOREMS lay_marks, readied_total: what is laid keeps within its tables: marks stay below a head's, and no pass makes more arms than there
-- were. Assumes nothing.
use Prim.Native.Nat.{ℕ, zero, suc, ◌+◌, ◌/◌, ◌%◌, ◌≤◌, ◌<◌}
use native.Mathlib.Omega.{arith}
use mathlib.Core.Path.{◌≡◌, refl, sym, ap, subst}
use mathlib.Core.Bool.{Bool, true, false, not, ◌&&◌, ◌||◌, cond}
use mathlib.Core.Logic.{inl, inr, ⊎_elim}
use mathlib.Core.List.{List, [], ◌∷◌, ◌++◌, map, append-nil}
use Rattle.std.specs.Prelude.{Option, None, Some}
use lib.ListN.{length}
use borrow.Author.Tests.{eqb-false}
use Rattle.limits.specs.Limits.{numbers, marks_below}
use Rattle.lists.proofs.Choices.{split_eq}
use Rattle.rules.specs.declared.Record.{Record}
use Rattle.rules.specs.declared.Record.TheVariants.{Block, Arm, Outside}
use Rattle.rules.specs.declared.Leaving.{Leaving}
use Rattle.rules.specs.declared.Leaving.TheVariants.{Nothing, Jump, Branch, Exchanged, Bridge}
use Rattle.rules.specs.Lists.{mem}
use Rattle.rules.specs.Graph as graph
use Rattle.rules.specs.Graph.{Graph, bit, is_cold, is_dead, is_addressed, no_block, block_at, with_arms}
use Rattle.rules.specs.Records.{record_at, before, records, listing, blocks_of, graph_of}
use Rattle.rules.specs.Within.{arm_total}
use Rattle.rules.specs.Ours.{ours}
use Rattle.rules.specs.Forward.{goal, moved_arms, moved_block, moved_all, entered, cleared_block, forward}
use Rattle.rules.specs.Spread.{cold_set, chilled, spread}
use Rattle.rules.specs.Split.{splits, warm_part, cold_part}
use Rattle.rules.specs.Exits.{Place, edges, laid_block, bridge_for, bridge_of, new_after, next_in, lay_part, bridges, warm_places, lay}
use Rattle.rules.specs.Laid.{readied}
use Rattle.rules.proofs.Membership.{In, append-In, map-In}
use Rattle.rules.proofs.Layouts.{Inside, at_inside}
use Rattle.rules.proofs.Forwarded.{block_or, chilled_arms}
use Rattle.rules.proofs.Wholeness.{block_in}

-- bit 7 is free
abbrev pub MarksLow : Graph → Type 0
MarksLow g = (x : graph.Block) → In x g → x.marks < marks_below

-- ---- as read
read_marks : (f : ℕ → List graph.Arm) (s : List ℕ) (i : ℕ) → MarksLow (blocks_of f (before s i))
unfolding before blocks_of listing
read_marks f s zero x j = absurd j
read_marks f s (suc i) x j = go (read_marks f s i x) (record_at s i) (at_inside s i) j
  where
    go : (In x (blocks_of f (before s i)) → x.marks < marks_below) → (r : Record) → Inside r → In x (blocks_of f (r ∷ before s i)) → x.marks < marks_below
    go ih (Block number marks end weight) e j =
        ⊎_elim ih (λ k. ⊎_elim (λ q. subst (λ (y : graph.Block). y.marks < marks_below) (sym q) e.1) (λ z. absurd z) k)
        (append-In x (blocks_of f (before s i)) (listing f (Block number marks end weight)) j)
    go ih (Arm from to args weight) e j = ih (subst (λ (k : Graph). In x k) (append-nil (blocks_of f (before s i))) j)
    go ih Outside e j = ih (subst (λ (k : Graph). In x k) (append-nil (blocks_of f (before s i))) j)

pub accepted_marks : (s : List ℕ) → MarksLow (graph_of (records s))
unfolding graph_of records
accepted_marks s = read_marks _ s _

-- ---- a mark is set where it is clear
clear_2 : (m : ℕ) → m < marks_below → is_dead m ≡ false → m + 4 < marks_below
unfolding is_dead bit
clear_2 m h e =
    split_eq (m / 4 % 2) (λ z. omega (arith, h, z)) (λ z. absurd (eqb-false (m / 4 % 2) 1 e (omega (arith, z))))

clear_1 : (m : ℕ) → m < marks_below → is_cold m ≡ false → m + 2 < marks_below
unfolding is_cold bit
clear_1 m h e =
    split_eq (m / 2 % 2) (λ z. omega (arith, h, z)) (λ z. absurd (eqb-false (m / 2 % 2) 1 e (omega (arith, z))))

-- ---- after forwarding
moved_marks : (goals : ℕ → Option ℕ) (b : graph.Block) → (moved_block goals b).marks ≡ b.marks
unfolding moved_block with_arms
moved_marks goals b = go (ours b)
  where
    go : (t : Bool) → (elim t as (λ (x : Bool). graph.Block) [ false ↦ b | true ↦ with_arms b (moved_arms goals [] b.arms) ]).marks ≡ b.marks
    go true = refl
    go false = refl

cleared_marks : (goals : ℕ → Option ℕ) (h : Graph) (b : graph.Block) → b.marks < marks_below → (cleared_block goals h b).marks < marks_below
unfolding cleared_block
cleared_marks goals h b l = go (goals b.number)
  where
    bare : graph.Block
    bare = record { number = b.number; marks = cond (is_dead b.marks) b.marks (b.marks + 4); end = b.end; weight = 0; arms = [] }

    dead : (t : Bool) → is_dead b.marks ≡ t → cond t b.marks (b.marks + 4) < marks_below
    dead true e = l
    dead false e = clear_2 b.marks l e

    step : (t : Bool) → (elim t as (λ (x : Bool). graph.Block) [ true ↦ b | false ↦ bare ]).marks < marks_below
    step true = l
    step false = dead (is_dead b.marks) refl

    go : (o : Option ℕ) → (elim o as (λ (x : Option ℕ). graph.Block) [ None ↦ b | Some m ↦ elim (entered h b.number || is_addressed b.marks) as (λ (x : Bool). graph.Block) [ true ↦ b | false ↦ bare ] ]).marks < marks_below
    go None = l
    go (Some m) = step (entered h b.number || is_addressed b.marks)

forward_marks : (g : Graph) → MarksLow g → MarksLow (forward g)
unfolding forward moved_all
forward_marks g l x i =
    let r = map-In (cleared_block (goal g) (moved_all g)) (moved_all g) x i in
    let s = map-In (moved_block (goal g)) g r.0 r.1 in
    subst (λ (y : graph.Block). y.marks < marks_below) (sym r.2)
    (cleared_marks (goal g) (moved_all g) r.0 (subst (λ (y : graph.Block). y.marks < marks_below) (sym s.2) (subst (λ (m : ℕ). m < marks_below) (sym (moved_marks (goal g) s.0)) (l s.0 s.1))))

-- ---- after spreading
chilled_marks : (s : List ℕ) (b : graph.Block) → b.marks < marks_below → (chilled s b).marks < marks_below
unfolding chilled
chilled_marks s b l = go (mem b.number s) (is_cold b.marks) refl
  where
    go : (m c : Bool) → is_cold b.marks ≡ c →
        (elim (m && not c) as (λ (x : Bool). graph.Block) [ false ↦ b | true ↦ record { number = b.number; marks = b.marks + 2; end = b.end; weight = b.weight; arms = b.arms } ]).marks < marks_below
    go false c e = l
    go true true e = l
    go true false e = clear_1 b.marks l e

spread_marks : (g : Graph) → MarksLow g → MarksLow (spread g)
unfolding spread
spread_marks g l x i =
    let r = map-In (chilled (cold_set g)) g x i in
    subst (λ (y : graph.Block). y.marks < marks_below) (sym r.2) (chilled_marks (cold_set g) r.0 (l r.0 r.1))

pub readied_marks : (forwarding : Bool) (g : Graph) → MarksLow g → MarksLow (readied forwarding g)
unfolding readied
readied_marks true g l = spread_marks (forward g) (forward_marks g l)
readied_marks false g l = spread_marks g l

-- ---- as laid
found_marks : (g : Graph) → MarksLow g → (n : ℕ) → (block_at g n).marks < marks_below
unfolding no_block
found_marks g l n = ⊎_elim (λ i. l (block_at g n) (block_in g n i).0) (λ e. subst (λ (y : graph.Block). y.marks < marks_below) (sym e) (omega arith)) (block_or g n)

abbrev PlacesLow : List Place → Type 0
PlacesLow l = (p : Place) → In p l → p.block.marks < marks_below

bridge_marks : (new : ℕ) (cold : Bool) (b : graph.Block) (v : Leaving) → PlacesLow (bridge_of new cold b v)
unfolding bridge_of bridge_for
bridge_marks new cold b Nothing p i = absurd i
bridge_marks new cold b Jump p i = absurd i
bridge_marks new cold b Branch p i = absurd i
bridge_marks new cold b Exchanged p i = absurd i
bridge_marks new cold b (Bridge j) p (inl e) = subst (λ (q : Place). q.block.marks < marks_below) (sym e) (go cold)
  where
    go : (t : Bool) → cond t 2 0 < marks_below
    go true = omega arith
    go false = omega arith
bridge_marks new cold b (Bridge j) p (inr i) = absurd i

part_marks : (g : Graph) → MarksLow g → (cold : Bool) (new : ℕ) (o : List ℕ) → PlacesLow (lay_part g cold new o)
unfolding lay_part laid_block with_arms
part_marks g l cold new [] p i = absurd i
part_marks g l cold new (n ∷ o) p (inl e) = subst (λ (q : Place). q.block.marks < marks_below) (sym e) (found_marks g l n)
part_marks g l cold new (n ∷ o) p (inr i) =
    ⊎_elim (bridge_marks new cold (block_at g n) (v n o) p) (part_marks g l cold (new_after new (v n o)) o p)
    (append-In p (bridge_of new cold (block_at g n) (v n o)) (lay_part g cold (new_after new (v n o)) o) i)
  where
    v : ℕ → List ℕ → Leaving
    v n o = edges (next_in o) (block_at g n).end (block_at g n).arms

-- THE THEOREM, of marks
pub lay_marks : (g : Graph) → MarksLow g → (o : List ℕ) (p : Place) → In p (lay g o) → p.block.marks < marks_below
unfolding lay warm_places
lay_marks g l o p = go (splits g)
  where
    go : (t : Bool) → In p (elim t as (λ (x : Bool). List Place) [
      | false ↦ lay_part g false numbers o
      | true ↦
          let w = warm_places g o in
          w ++ lay_part g true (numbers + bridges w) (cold_part g o)
    ]) → p.block.marks < marks_below
    go false i = part_marks g l false numbers o p i
    go true i =
        ⊎_elim (part_marks g l false numbers (warm_part g o) p) (part_marks g l true (numbers + bridges (warm_places g o)) (cold_part g o) p)
        (append-In p (warm_places g o) (lay_part g true (numbers + bridges (warm_places g o)) (cold_part g o)) i)

-- ---- the arms
moved_length : (goals : ℕ → Option ℕ) (l done : List graph.Arm) → length (moved_arms goals done l) ≡ length l
unfolding moved_arms
moved_length goals [] done = refl
moved_length goals (a ∷ l) done = ap suc (moved_length goals l _)

moved_count : (goals : ℕ → Option ℕ) (b : graph.Block) → length (moved_block goals b).arms ≡ length b.arms
unfolding moved_block with_arms
moved_count goals b = go (ours b)
  where
    go : (t : Bool) → length (elim t as (λ (x : Bool). graph.Block) [ false ↦ b | true ↦ with_arms b (moved_arms goals [] b.arms) ]).arms ≡ length b.arms
    go true = moved_length goals b.arms []
    go false = refl

cleared_count : (goals : ℕ → Option ℕ) (h : Graph) (b : graph.Block) → length (cleared_block goals h b).arms ≤ length b.arms
unfolding cleared_block
cleared_count goals h b = go (goals b.number)
  where
    bare : graph.Block
    bare = record { number = b.number; marks = cond (is_dead b.marks) b.marks (b.marks + 4); end = b.end; weight = 0; arms = [] }

    step : (t : Bool) → length (elim t as (λ (x : Bool). graph.Block) [ true ↦ b | false ↦ bare ]).arms ≤ length b.arms
    step true = omega arith
    step false = omega arith

    go : (o : Option ℕ) → length (elim o as (λ (x : Option ℕ). graph.Block) [ None ↦ b | Some m ↦ elim (entered h b.number || is_addressed b.marks) as (λ (x : Bool). graph.Block) [ true ↦ b | false ↦ bare ] ]).arms ≤ length b.arms
    go None = omega arith
    go (Some m) = step (entered h b.number || is_addressed b.marks)

mapped_total : (f : graph.Block → graph.Block) → ((b : graph.Block) → length (f b).arms ≤ length b.arms) → (g : Graph) → arm_total (map f g) ≤ arm_total g
unfolding arm_total
mapped_total f h [] = omega arith
mapped_total f h (b ∷ g) = omega (arith, h b, mapped_total f h g)

pub forward_total : (g : Graph) → arm_total (forward g) ≤ arm_total g
unfolding forward moved_all
forward_total g =
    omega (
      arith,
      mapped_total (cleared_block (goal g) (moved_all g)) (cleared_count (goal g) (moved_all g)) (moved_all g),
      mapped_total (moved_block (goal g)) (λ b. omega (arith, moved_count (goal g) b)) g,
    )

spread_total : (g : Graph) → arm_total (spread g) ≤ arm_total g
unfolding spread
spread_total g = mapped_total (chilled (cold_set g)) (λ b. omega (arith, ap length (chilled_arms (cold_set g) b))) g

-- THE THEOREM, of arms
pub readied_total : (forwarding : Bool) (g : Graph) → arm_total (readied forwarding g) ≤ arm_total g
unfolding readied
readied_total true g = omega (arith, spread_total (forward g), forward_total g)
readied_total false g = spread_total g
