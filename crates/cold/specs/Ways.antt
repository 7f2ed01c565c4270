-- The arms into each block, counted afresh over the tables: all of them, and those from cold blocks.
use Rattle.std.specs.Prelude.{ℕ, zero, suc, ◌+◌, ◌≤◌, ◌<◌, ◌≡◌, cond, List, length, get_or, take, drop}
use Rattle.limits.specs.Limits.{numbers, most_arms, blocks, arms}
use Rattle.rules.specs.Graph.{is_cold}
use Rattle.rules.proofs.Membership.{In}
use Rattle.rules.proofs.Counting as counting
use Rattle.records.specs.declared.Arms.{Arms}
use Rattle.records.specs.declared.Graph.{Graph}
use Rattle.cold.specs.declared.ways.Ways.{Ways}

-- a count fits an entry
abbrev pub most_count : ℕ
most_count = 65535

-- what of the tables says where arms go: the blocks as listed, and their arms
pub record Links : Type 0 where
  pub listed : List ℕ
  pub arms : Arms
  pub blocks : ℕ

abbrev pub links_of : Graph → Links
links_of t = record { listed = t.b.listed; arms = t.a; blocks = t.blocks }

-- where the arms of block b go
unfoldable pub outs : Arms → ℕ → List ℕ
outs a b = take (get_or a.count b 0) (drop (get_or a.first b 0) a.to)

-- the number that stands at place i
abbrev pub at : Links → ℕ → ℕ
at w i = get_or w.listed i 0

-- how many arms of block b go to block k
unfoldable pub arms_to : Links → ℕ → ℕ → ℕ
unfolding outs counting.count
arms_to w k b = counting.count k (outs w.arms b)

-- how many arms of the first i listed blocks go to block k
unfoldable pub ins : Links → ℕ → ℕ → ℕ
unfolding arms_to
ins w zero k = 0
ins w (suc i) k = ins w i k + arms_to w k (at w i)

-- a sum over the cold ones of the first i listed blocks
unfoldable pub cold_sum : Links → List ℕ → (ℕ → ℕ) → ℕ → ℕ
unfolding is_cold
cold_sum w marks f zero = 0
cold_sum w marks f (suc i) = cold_sum w marks f i + cond (is_cold (get_or marks (at w i) 0)) (f (at w i)) 0

-- how many arms of these go to block k
unfoldable pub cold_ins : Links → List ℕ → ℕ → ℕ → ℕ
unfolding cold_sum arms_to
cold_ins w marks i k = cold_sum w marks (arms_to w k) i

-- the tables are in order: no number listed twice, arms and what they go to within
pub record Linked (w : Links) : Type 0 where
  pub sized : length w.arms.to ≡ arms
  pub few : w.blocks ≤ numbers
  pub below : (i : ℕ) → i < w.blocks → at w i < blocks
  pub once : (i j : ℕ) → i < w.blocks → j < w.blocks → at w i ≡ at w j → i ≡ j
  pub fits : (b : ℕ) → get_or w.arms.first b 0 + get_or w.arms.count b 0 ≤ most_arms
  pub goes : (i : ℕ) → i < w.blocks → (k : ℕ) → In k (outs w.arms (at w i)) → k < blocks

-- the arms of block b can be counted: they are among those of a file's graph, and the counts fit
pub record Adds (a : Arms) (b : ℕ) (table : List ℕ) : Type 0 where
  pub fits : get_or a.first b 0 + get_or a.count b 0 ≤ most_arms
  pub goes : (k : ℕ) → In k (outs a b) → k < blocks
  pub room : (k : ℕ) → get_or table k 0 + counting.count k (outs a b) ≤ most_count

-- what counting the arms of block b asks for: they are within the tables, and the counts fit
pub record Adding (a : Arms) (b : ℕ) (table : List ℕ) : Type 0 where
  pub fits : get_or a.first b 0 + get_or a.count b 0 ≤ arms
  pub goes : (k : ℕ) → In k (outs a b) → k < blocks
  pub room : (k : ℕ) → get_or table k 0 + counting.count k (outs a b) ≤ most_count

-- a table with one more for each arm that goes to a block
pub record Added (l before after : List ℕ) : Type 0 where
  pub counts : (k : ℕ) → get_or after k 0 ≡ get_or before k 0 + counting.count k l

-- the ways into each block from the first i listed ones
pub record Counted (w : Links) (marks : List ℕ) (i : ℕ) (v : Ways) : Type 0 where
  pub ins : (k : ℕ) → get_or v.ins k 0 ≡ ins w i k
  pub cold : (k : ℕ) → get_or v.cold k 0 ≡ cold_ins w marks i k
