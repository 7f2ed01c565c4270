-- An order laid step by step, and what the tables hold after each step.
use Rattle.std.proofs.Common.{ℕ, zero, suc, ◌+◌, ◌≤◌, ◌<◌, ◌≡◌, List, [], ◌∷◌, ◌++◌, length, get_or}
use Rattle.std.specs.Prelude.{Option}
use Rattle.limits.specs.Limits as most
use Rattle.limits.specs.Limits.{numbers}
use Rattle.rules.specs.declared.Leaving.{Leaving}
use Rattle.rules.specs.Graph as graph
use Rattle.rules.specs.Exits.{Place, edges, laid_block, bridge_of, new_after}
use Rattle.records.specs.declared.Graph.{Graph}
use Rattle.records.specs.Tables.{block_at, BlocksSized, ArmsSized, ArmsWithin}
use Rattle.exits.specs.declared.Laid.{Laid}
use Rattle.exits.specs.Lays.{next_at, cold_at, places_of, arms_to}

-- the blocks are found by `at`
module _ (at : ℕ → graph.Block) (o : List ℕ) (split : Option ℕ) where
  -- how the block at place i of the order is left
  unfoldable pub leave_at : ℕ → Leaving
  leave_at i = let b = at (get_or o i 0) in edges (next_at o split i) b.end b.arms

  -- the number that a bridge made at place i gets
  unfoldable pub new_to : ℕ → ℕ
  unfolding new_after leave_at
  new_to zero = numbers
  new_to (suc i) = new_after (new_to i) (leave_at i)

  -- what is laid at place i of the order: its block, and the bridge if one is made
  unfoldable pub laid_at : ℕ → List Place
  unfolding laid_block bridge_of leave_at new_to
  laid_at i = let b = at (get_or o i 0) in laid_block (new_to i) b (leave_at i) ∷ bridge_of (new_to i) (cold_at split i) b (leave_at i)

  -- the first i blocks of the order, laid
  unfoldable pub laid_to : ℕ → List Place
  unfolding laid_at
  laid_to zero = []
  laid_to (suc i) = laid_to i ++ laid_at i

-- an entry for each number, or for each arm
pub record Sized (l : Laid) : Type 0 where
  pub blocks : BlocksSized l.graph.b
  pub arms : ArmsSized l.graph.a
  pub exits : length l.exits ≡ most.blocks

-- the tables know where each place is, and which arms are its block's
pub record Placed (l : Laid) : Type 0 where
  pub back : (x : ℕ) → x < l.graph.blocks → get_or l.graph.b.place (get_or l.graph.b.listed x 0) 0 ≡ suc x
  pub within : ArmsWithin l.graph.a l.graph.arms

-- the block of the tables with this number
abbrev pub at : Graph → ℕ → graph.Block
at g n = block_at g.b g.a n

-- of the order o of g, split here, i blocks are laid
pub record Laying (g : Graph) (o : List ℕ) (split : Option ℕ) (l : Laid) (i : ℕ) : Type 0 where
  pub sized : Sized l
  pub placed : Placed l
  pub places : places_of l ≡ laid_to (at g) o split i
  pub p_is : l.graph.blocks ≡ i + l.bridges
  pub few : l.bridges ≤ i
  pub new_is : new_to (at g) o split i ≡ numbers + l.bridges
  pub q_is : l.graph.arms ≡ arms_to g.a.count o i + l.bridges
  pub unlaid : (j : ℕ) → i ≤ j → j < length o → get_or l.graph.b.place (get_or o j 0) 0 ≡ 0
  pub spare : (m : ℕ) → numbers + l.bridges ≤ m → get_or l.graph.b.place m 0 ≡ 0
  pub marks : (m : ℕ) → m < numbers → get_or l.graph.b.marks m 0 ≡ get_or g.b.marks m 0
  pub ends : (m : ℕ) → m < numbers → get_or l.graph.b.ends m 0 ≡ get_or g.b.ends m 0
  pub weight : (m : ℕ) → m < numbers → get_or l.graph.b.weight m 0 ≡ get_or g.b.weight m 0
