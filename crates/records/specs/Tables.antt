-- The graph that the tables hold.
use Rattle.std.specs.Prelude.{ℕ, zero, suc, ◌+◌, ◌*◌, ◌≤◌, ◌<◌, ◌≡◌, List, [], ◌∷◌, ◌++◌, length, get_or, replicate, take}
use Rattle.limits.specs.Limits as most
use Rattle.rules.specs.Graph as graph
use Rattle.rules.specs.Records.{written}
use Rattle.rules.proofs.Wholeness.{Whole}
use Rattle.records.specs.declared.Blocks.{Blocks}
use Rattle.records.specs.declared.Arms.{Arms}
use Rattle.records.specs.declared.Graph.{Graph}
use Rattle.records.specs.declared.Order.{Order}

unfoldable pub arm_at : Arms → ℕ → graph.Arm
arm_at a q = record { to = get_or a.to q 0; args = get_or a.args q 0; weight = get_or a.weight q 0 }

-- n arms from arm f on
unfoldable pub arms_from : Arms → ℕ → ℕ → List graph.Arm
arms_from a f zero = []
arms_from a f (suc n) = arm_at a f ∷ arms_from a (suc f) n

-- the arms that leave block n
unfoldable pub leaves : Arms → ℕ → List graph.Arm
leaves a n = arms_from a (get_or a.first n 0) (get_or a.count n 0)

unfoldable pub block_at : Blocks → Arms → ℕ → graph.Block
block_at b a n =
    record {
      number = n;
      marks = get_or b.marks n 0;
      end = get_or b.ends n 0;
      weight = get_or b.weight n 0;
      arms = leaves a n;
    }

-- the first i listed blocks
unfoldable pub up_to : Blocks → Arms → ℕ → graph.Graph
up_to b a zero = []
up_to b a (suc i) = up_to b a i ++ (block_at b a (get_or b.listed i 0) ∷ [])

unfoldable pub tabled : Graph → graph.Graph
tabled t = up_to t.b t.a t.blocks

-- tables with nothing in them
unfoldable pub no_blocks : Blocks
no_blocks =
    record {
      place = replicate most.blocks 0;
      listed = replicate most.blocks 0;
      marks = replicate most.blocks 0;
      ends = replicate most.blocks 0;
      weight = replicate most.blocks 0;
    }

unfoldable pub no_arms : Arms
no_arms =
    record {
      first = replicate most.blocks 0;
      count = replicate most.blocks 0;
      to = replicate most.arms 0;
      args = replicate most.arms 0;
      weight = replicate most.arms 0;
    }

-- a graph with no block and no arm
unfoldable pub empty : Graph
empty = record { blocks = 0; arms = 0; b = no_blocks; a = no_arms }

-- an entry for each number, or for each arm
pub record BlocksSized (b : Blocks) : Type 0 where
  pub place : length b.place ≡ most.blocks
  pub listed : length b.listed ≡ most.blocks
  pub marks : length b.marks ≡ most.blocks
  pub ends : length b.ends ≡ most.blocks
  pub weight : length b.weight ≡ most.blocks

pub record ArmsSized (a : Arms) : Type 0 where
  pub first : length a.first ≡ most.blocks
  pub count : length a.count ≡ most.blocks
  pub to : length a.to ≡ most.arms
  pub args : length a.args ≡ most.arms
  pub weight : length a.weight ≡ most.arms

-- no block's arms reach past the first j
abbrev pub ArmsWithin : Arms → ℕ → Type 0
ArmsWithin a j = (n : ℕ) → get_or a.first n 0 + get_or a.count n 0 ≤ j

-- what the tables have for a number that is not listed
pub record Blank (b : Blocks) (n : ℕ) : Type 0 where
  pub marks : get_or b.marks n 0 ≡ 0
  pub ends : get_or b.ends n 0 ≡ 0
  pub weight : get_or b.weight n 0 ≡ 0

-- arm q is one of block n's
pub record Has (a : Arms) (n q : ℕ) : Type 0 where
  pub from : get_or a.first n 0 ≤ q
  pub below : q < get_or a.first n 0 + get_or a.count n 0

-- no arm is two blocks'
abbrev pub Apart : Graph → Type 0
Apart t =
    (i j : ℕ) → i < t.blocks → j < t.blocks → (i ≡ j → ⊥) → (q : ℕ) → Has t.a (get_or t.b.listed i 0) q → Has t.a (get_or t.b.listed j 0) q → ⊥

-- The tables hold the graph g, whose file is `total` long: each block once in `listed`, `place` the way back, nothing at numbers
-- that are not listed, no arm past the last, and none that is two blocks'.
pub record Holds (t : Graph) (g : graph.Graph) : Type 0 where
  pub graph_is : tabled t ≡ g
  pub few : t.blocks ≤ most.numbers
  pub few_arms : t.arms ≤ most.most_arms
  pub total : length (written g) ≡ most.size * (t.blocks + t.arms)
  pub back : (i : ℕ) → i < t.blocks → get_or t.b.place (get_or t.b.listed i 0) 0 ≡ suc i
  pub placed : (n : ℕ) → get_or t.b.place n 0 ≤ t.blocks
  pub blank : (n : ℕ) → get_or t.b.place n 0 ≡ 0 → Blank t.b n × (get_or t.a.count n 0 ≡ 0)
  pub fits : ArmsWithin t.a t.arms
  pub blocks_sized : BlocksSized t.b
  pub arms_sized : ArmsSized t.a
  pub apart : Apart t

-- The tables stand for the graph g between the passes: its numbers are below n and each is listed once, `place` being the way back,
-- and its arms are among the first m.
pub record Stands (n m : ℕ) (t : Graph) (g : graph.Graph) : Type 0 where
  pub graph_is : tabled t ≡ g
  pub few : t.blocks ≤ n
  pub below : (i : ℕ) → i < t.blocks → get_or t.b.listed i 0 < n
  pub back : (i : ℕ) → i < t.blocks → get_or t.b.place (get_or t.b.listed i 0) 0 ≡ suc i
  pub fits : ArmsWithin t.a m
  pub blocks_sized : BlocksSized t.b
  pub arms_sized : ArmsSized t.a

-- `place` is the way back
abbrev pub Back : Graph → Type 0
Back t = (i : ℕ) → i < t.blocks → get_or t.b.place (get_or t.b.listed i 0) 0 ≡ suc i

-- The tables carry the graph g, wherever `place` says that its blocks are listed: what `Stands` says, but for the way back.
pub record Carries (n m : ℕ) (t : Graph) (g : graph.Graph) : Type 0 where
  pub graph_is : tabled t ≡ g
  pub few : t.blocks ≤ n
  pub below : (i : ℕ) → i < t.blocks → get_or t.b.listed i 0 < n
  pub once : (i j : ℕ) → i < t.blocks → j < t.blocks → get_or t.b.listed i 0 ≡ get_or t.b.listed j 0 → i ≡ j
  pub fits : ArmsWithin t.a m
  pub blocks_sized : BlocksSized t.b
  pub arms_sized : ArmsSized t.a

-- The tables stand for a graph as the passes lend it: within the limits, and its arms go to blocks of its own.
pub record Sound (t : Graph) : Type 0 where
  pub stands : Stands most.numbers most.most_arms t (tabled t)
  pub whole : Whole (tabled t)

-- The tables carry such a graph. No pass but `heads` reads `place`, so no other asks that it is the way back.
pub record Carried (t : Graph) : Type 0 where
  pub stands : Carries most.numbers most.most_arms t (tabled t)
  pub whole : Whole (tabled t)

-- an order of blocks
unfoldable pub in_order : Order → List ℕ
in_order o = take o.len o.block
