-- How a block is left, by the tables; an order that can be laid, and the places that the tables then have.
use Rattle.std.specs.Prelude.{ℕ, zero, suc, ◌+◌, ◌≤◌, ◌<◌, ◌≡◌, Bool, true, false, cond, ◌||◌, List, [], ◌∷◌, ◌++◌, eqb, ltb, leb, length, get_or, set, replicate, take, drop, Option, None, Some}
use Rattle.limits.specs.Limits.{numbers, most_arms, blocks, arms, no_split}
use Rattle.rules.specs.declared.Leaving.{Leaving}
use Rattle.rules.specs.declared.Leaving.TheVariants.{Nothing, Jump, Branch, Exchanged, Bridge}
use Rattle.rules.specs.Lists.{pick}
use Rattle.rules.specs.Graph as graph
use Rattle.rules.specs.Exits.{Place, indirect, arms_left, lay_part, bridges, laid_graph}
use Rattle.rules.specs.Within.{arm_total}
use Rattle.rules.proofs.Membership.{In}
use Rattle.records.specs.declared.Blocks.{Blocks}
use Rattle.records.specs.declared.Arms.{Arms}
use Rattle.records.specs.declared.Graph.{Graph}
use Rattle.records.specs.declared.Order.{Order}
use Rattle.records.specs.Tables as tables
use Rattle.records.specs.Tables.{arm_at, arms_from, leaves, block_at, tabled, BlocksSized, ArmsSized, ArmsWithin, Carries, Stands, in_order}
use Rattle.exits.specs.declared.Laid.{Laid}

-- ---- the decision, by the few things that decide it: the end, how many arms there are, and whether the first and the second go
-- to the next block
unfoldable pub leaving_of : ℕ → ℕ → Bool → Bool → Leaving
unfolding indirect pick
leaving_of end zero x y = Nothing
leaving_of end (suc zero) x y = pick (indirect end || x) Nothing Jump
leaving_of end (suc (suc n)) x y =
    pick (indirect end) Nothing (
    pick (eqb end 5) (pick x Nothing (Bridge 0)) (
    pick (eqb end 6) (pick y Nothing (Bridge 1)) (
    pick y Branch (pick x Exchanged (Bridge 1)))))

-- arm j of the c arms from arm f on goes to the next block
unfoldable pub goes_to : List ℕ → ℕ → ℕ → ℕ → Option ℕ → Bool
goes_to to f c j next = cond (ltb j c) (graph.names next (get_or to (f + j) 0)) false

-- which arm of c stands at j when a block is left: "exchange"
unfoldable pub source_of : Leaving → ℕ → ℕ → ℕ
source_of Nothing c j = j
source_of Jump c j = j
source_of Branch c j = j
source_of Exchanged c j = cond (ltb c 2) j (cond (eqb j 0) 1 (cond (eqb j 1) 0 j))
source_of (Bridge i) c j = j

-- a bridge takes one of c arms
abbrev pub BridgeWithin : ℕ → Leaving → Type 0
BridgeWithin c v = (i : ℕ) → v ≡ Bridge i → i < c

-- the arms before arm q are the same
abbrev pub Below : ℕ → Arms → Arms → Type 0
Below q a b = (x : ℕ) → x < q → arm_at a x ≡ arm_at b x

-- a is b with the arms of block n of a₀ from arm q on, as the block leaves them where a bridge would be numbered `new`
pub record Left (a₀ : Arms) (n : ℕ) (how : Leaving) (new : ℕ) (b : Arms) (q : ℕ) (a : Arms) : Type 0 where
  pub sized : ArmsSized a
  pub first : a.first ≡ b.first
  pub count : a.count ≡ b.count
  pub below : Below q a b
  pub left : arms_from a q (get_or a₀.count n 0) ≡ arms_left new (leaves a₀ n) how

-- ---- an order

-- the next block of the part that place i of an order is in: a part ends at the split and at the order's end
unfoldable pub next_at : List ℕ → Option ℕ → ℕ → Option ℕ
unfolding graph.names
next_at o split i = cond (graph.names split (suc i)) None (cond (ltb (suc i) (length o)) (Some (get_or o (suc i) 0)) None)

-- place i of an order is in its cold part
unfoldable pub cold_at : Option ℕ → ℕ → Bool
cold_at None i = false
cold_at (Some split) i = leb split i

-- the split as the rules number it: "256 for none"
unfoldable pub split_number : Option ℕ → ℕ
split_number None = no_split
split_number (Some split) = split

-- ---- the places of the tables

unfoldable pub place_at : Blocks → Arms → List ℕ → ℕ → Place
place_at b a exits n = record { block = block_at b a n; is_bridge = leb numbers n; exit = get_or exits n 0 }

-- the first p places
unfoldable pub places_to : Blocks → Arms → List ℕ → ℕ → List Place
places_to b a exits zero = []
places_to b a exits (suc p) = places_to b a exits p ++ (place_at b a exits (get_or b.listed p 0) ∷ [])

-- all that is laid
abbrev pub places_of : Laid → List Place
places_of l = places_to l.graph.b l.graph.a l.exits l.graph.blocks

-- how many arms the first i blocks of an order have
unfoldable pub arms_to : List ℕ → List ℕ → ℕ → ℕ
arms_to count o zero = 0
arms_to count o (suc i) = arms_to count o i + get_or count (get_or o i 0) 0

-- an order that can be laid: its numbers are below those of bridges, none comes twice, and its arms leave room for those of bridges
pub record Orderly (count o : List ℕ) : Type 0 where
  pub few : length o ≤ numbers
  pub low : (i : ℕ) → i < length o → get_or o i 0 < numbers
  pub once : (i j : ℕ) → i < length o → j < length o → get_or o i 0 ≡ get_or o j 0 → i ≡ j
  pub total : arms_to count o (length o) ≤ most_arms

-- ---- one step

-- arm q is arm x of a₀
unfoldable pub with_arm : Arms → ℕ → Arms → ℕ → Arms
with_arm a q a₀ x = record a { to = set a.to q (get_or a₀.to x 0); args = set a.args q (get_or a₀.args x 0); weight = set a.weight q (get_or a₀.weight x 0) }

-- block n is laid next, with the c arms that follow the last
unfoldable pub with_place : Laid → ℕ → ℕ → ℕ → Laid
with_place l n c digit =
    let p = l.graph.blocks in
    let q = l.graph.arms in
    record l {
      graph =
          record {
            blocks = p + 1;
            arms = q + c;
            b = record l.graph.b { place = set l.graph.b.place n (p + 1); listed = set l.graph.b.listed p n };
            a = record l.graph.a { first = set l.graph.a.first n q; count = set l.graph.a.count n c };
          };
      exits = set l.exits n digit;
    }

-- a bridge is laid next, which takes arm x of a₀
unfoldable pub with_bridge : Arms → ℕ → Bool → Laid → Laid
unfolding with_arm with_place
with_bridge a₀ x cold l =
    let n = numbers + l.bridges in
    let b = l.graph.b in
    let marked = record b { marks = set b.marks n (cond cold 2 0); ends = set b.ends n 0; weight = set b.weight n (get_or a₀.weight x 0) } in
    let r = with_place (record l { graph = record l.graph { b = marked; a = with_arm l.graph.a l.graph.arms a₀ x } }) n 1 1 in
    record r { bridges = l.bridges + 1 }

-- ---- the whole

-- no block is placed yet, and no arm
pub record Unlaid (l : Laid) : Type 0 where
  pub blocks_sized : BlocksSized l.graph.b
  pub arms_sized : ArmsSized l.graph.a
  pub exits_sized : length l.exits ≡ blocks
  pub unplaced : (n : ℕ) → get_or l.graph.b.place n 0 ≡ 0
  pub armless : ArmsWithin l.graph.a 0

-- as a call makes it
unfoldable pub empty : Laid
empty = record { graph = tables.empty; exits = replicate blocks 0; bridges = 0; split = None }

-- an order whose cold part begins at this place, or that has none, as it is laid
unfoldable pub lay_at : graph.Graph → List ℕ → Option ℕ → List Place
unfolding lay_part bridges
lay_at g o None = lay_part g false numbers o
lay_at g o (Some split) = let w = lay_part g false numbers (take split o) in w ++ lay_part g true (numbers + bridges w) (drop split o)

-- an order of a graph's blocks and its split can be laid
pub record Fits (t : Graph) (o : Order) (split : Option ℕ) : Type 0 where
  pub stands : Stands numbers most_arms t (tabled t)
  pub few : o.len ≤ numbers
  pub orderly : Orderly t.a.count (in_order o)
  pub listed : (i : ℕ) → i < o.len → In (get_or o.block i 0) (graph.numbers_of (tabled t))
  pub inside : (s : ℕ) → split ≡ Some s → s ≤ o.len

-- and so they can where the tables carry the graph, wherever `place` says that its blocks are listed
pub record Suits (t : Graph) (o : Order) (split : Option ℕ) : Type 0 where
  pub stands : Carries numbers most_arms t (tabled t)
  pub few : o.len ≤ numbers
  pub orderly : Orderly t.a.count (in_order o)
  pub listed : (i : ℕ) → i < o.len → In (get_or o.block i 0) (graph.numbers_of (tabled t))
  pub inside : (s : ℕ) → split ≡ Some s → s ≤ o.len

-- t has g's marks, ends, weights and arms, wherever its blocks are listed
pub record Over (t g : Graph) : Type 0 where
  pub marks_is : t.b.marks ≡ g.b.marks
  pub ends_is : t.b.ends ≡ g.b.ends
  pub weight_is : t.b.weight ≡ g.b.weight
  pub arms_are : t.a ≡ g.a

-- some graph that has them has an order that can be laid
pub record Layable (g : Graph) (o : Order) (split : Option ℕ) : Type 0 where
  pub tables : Graph
  pub over : Over tables g
  pub fits : Suits tables o split

-- what is laid of the order o of the graph g
pub record LaidOf (g : graph.Graph) (o : List ℕ) (split : Option ℕ) (l : Laid) : Type 0 where
  pub places : places_of l ≡ lay_at g o split
  pub stands : Stands blocks arms l.graph (laid_graph (lay_at g o split))
  pub bridged : l.bridges ≡ bridges (lay_at g o split)
  pub total : l.graph.arms ≡ arm_total (laid_graph (lay_at g o split))
  pub few_arms : l.graph.arms ≤ arms

-- of every such graph that is what is laid
abbrev pub Lays : Graph → Order → Option ℕ → Laid → Type 0
Lays g o split l = (t : Graph) → Over t g → Suits t o split → LaidOf (tabled t) (in_order o) split l
