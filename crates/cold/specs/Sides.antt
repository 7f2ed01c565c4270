-- The split: the blocks of an order on one side, and what `partition` asks for and gives.
use Rattle.std.specs.Prelude.{ℕ, ◌+◌, ◌≤◌, ◌≡◌, Bool, List, ◌++◌, length, get_or, take, None, Some}
use Rattle.std.specs.List.{list_any}
use Rattle.std.proofs.Math.Bool.{beq}
use Rattle.limits.specs.Limits.{blocks}
use Rattle.rules.specs.Lists.{pick, keep}
use Rattle.rules.specs.Graph.{is_cold, numbers_of}
use Rattle.rules.specs.Split.{splits, warm_part, partition}
use Rattle.rules.proofs.Membership.{In}
use Rattle.records.specs.declared.Graph.{Graph}
use Rattle.records.specs.declared.Order.{Order}
use Rattle.records.specs.Tables.{tabled, in_order}
use Rattle.cold.specs.declared.Parts.{Parts}

-- one of the blocks is cold
abbrev pub any_cold : Graph → Bool
any_cold t = list_any (λ (k : ℕ). is_cold (get_or t.b.marks k 0)) (take t.blocks t.b.listed)

-- the blocks of an order on one side, "in order": those that are cold, or those that are not
unfoldable pub on_side : List ℕ → Bool → List ℕ → List ℕ
unfolding keep is_cold
on_side marks cold o = keep (λ (n : ℕ). beq (is_cold (get_or marks n 0)) cold) o

-- l stands behind the blocks of `before`
pub record Gathered (l : List ℕ) (before after : Order) : Type 0 where
  pub behind : in_order after ≡ in_order before ++ l
  pub ends : after.len ≡ before.len + length l

-- the order is of blocks of t
abbrev pub Within : Graph → Order → Type 0
Within t o = (k : ℕ) → In k (in_order o) → In k (numbers_of (tabled t))

-- no more blocks than the tables have room for (the check knows an array's length only where it is read)
pub record Roomy (t : Graph) : Type 0 where
  pub few : t.blocks ≤ blocks
  pub sized : length t.b.listed ≡ blocks

-- and the order is of them
pub record Divides (t : Graph) (o : Order) : Type 0 where
  pub roomy : Roomy t
  pub within : Within t o
  pub fits : o.len ≤ blocks

-- r is the order o split for t, where t is split
pub record Parted (t : Graph) (o : Order) (r : Parts) : Type 0 where
  pub parts : in_order r.order ≡ partition (tabled t) (in_order o)
  pub long : r.order.len ≡ o.len
  pub split : r.split ≡ pick (splits (tabled t)) (Some (length (warm_part (tabled t) (in_order o)))) None
