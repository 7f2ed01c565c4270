-- The graphs that a file can hold: within document 01's limits, and with nothing that its table refuses.
use Rattle.std.specs.Prelude.{ℕ, ◌+◌, ◌^◌, ◌≤◌, ◌<◌, ◌≡◌, Bool, true, false, ◌||◌, List, [], ◌∷◌, eqb, length}
use Rattle.limits.specs.Limits.{numbers, most_arms, marks_below, ends_below}
use Rattle.rules.specs.Graph.{Arm, Block, Graph, is_entry}
use Rattle.rules.specs.Refusals.{too_many}

-- n is the number of a block
unfoldable pub has : ℕ → Graph → Bool
has n [] = false
has n (b ∷ g) = eqb n b.number || has n g

-- some block has the entry mark
unfoldable pub has_entry : Graph → Bool
has_entry [] = false
has_entry (b ∷ g) = is_entry b.marks || has_entry g

-- all arms of the graph
unfoldable pub arm_total : Graph → ℕ
arm_total [] = 0
arm_total (b ∷ g) = length b.arms + arm_total g

-- every arm goes to a block of the graph
abbrev pub ArmsFit : Graph → List Arm → Type 0
ArmsFit g [] = Unit
ArmsFit g (a ∷ l) = ((has a.to g ≡ true) × (a.args < 2) × (a.weight < 2 ^ 64)) × ArmsFit g l

-- a block that a file can hold in this graph
pub record BlockFits (g : Graph) (b : Block) : Type 0 where
  pub number : b.number < numbers
  pub marks : b.marks < marks_below
  pub end : b.end < ends_below
  pub weight : b.weight < 2 ^ 64
  pub arms : ArmsFit g b.arms
  pub calm : too_many b.end (length b.arms) ≡ false

-- each block fits, no number comes twice, and no second block is the entry
abbrev pub BlocksFit : Graph → Graph → Type 0
BlocksFit g [] = Unit
BlocksFit g (b ∷ l) = (BlockFits g b × (has b.number l ≡ false) × (is_entry b.marks ≡ true → has_entry l ≡ false)) × BlocksFit g l

-- a graph that a file can hold
pub record Within (g : Graph) : Type 0 where
  pub few : length g ≤ numbers
  pub few_arms : arm_total g ≤ most_arms
  pub each : BlocksFit g g
