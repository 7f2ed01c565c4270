-- The start rule by the tables, and what is found in every graph that has them.
use Rattle.std.specs.Prelude.{ℕ, ◌≡◌, Bool, false, not, cond, ◌&&◌, List, leb, get_or, Option, None, Some, filter, fold}
use Rattle.rules.specs.Graph.{is_cold}
use Rattle.rules.specs.Traces.{Seed, below, next_seed}
use Rattle.rules.proofs.Membership.{In}
use Rattle.records.specs.declared.Blocks.{Blocks}
use Rattle.records.specs.declared.Graph.{Graph}
use Rattle.records.specs.Tables.{tabled, Carried}
use Rattle.marks.specs.Sets.{member}
use Rattle.flow.specs.Lent.{Of, Marks}
use Rattle.seeds.specs.Reached.{Reached}

-- block n as a start
unfoldable pub seed_by : Blocks → List ℕ → ℕ → Seed
seed_by b reached n =
    record { block = n; warm = cond (is_cold (get_or b.marks n 0)) 0 1; reached = get_or reached n 0; weight = get_or b.weight n 0 }

-- block n is unlaid and weighs at least `low`
unfoldable pub startable_by : Blocks → List ℕ → ℕ → ℕ → Bool
startable_by b seen low n = not (member seen n) && leb low (get_or b.weight n 0)

-- the better of the best start so far and block n, the former on ties
unfoldable pub ahead : (ℕ → Seed) → Option ℕ → ℕ → Option ℕ
ahead seed None n = Some n
ahead seed (Some x) n = cond (below (seed x) (seed n)) (Some n) (Some x)

-- the best start among some blocks, the first on ties
unfoldable pub best_of : Blocks → List ℕ → List ℕ → ℕ → List ℕ → Option ℕ
best_of b seen reached low l = fold (ahead (seed_by b reached)) None (filter (startable_by b seen low) l)

-- a start is one of these blocks, and not in the set
abbrev pub Among : List ℕ → List ℕ → Option ℕ → Type 0
Among l seen o = (n : ℕ) → o ≡ Some n → In n l × (member seen n ≡ false)

-- the block of a seed, if there is one
unfoldable pub block_of : Option Seed → Option ℕ
block_of None = None
block_of (Some s) = Some s.block

-- in every graph that has these marks and weights and the blocks of this order: the block that the rules start at
abbrev pub StartsAt : Blocks → List ℕ → List ℕ → List ℕ → ℕ → Option ℕ → Type 0
StartsAt b order seen reached low r =
    (t : Graph) → t.b.marks ≡ b.marks → t.b.weight ≡ b.weight → Carried t → ((n : ℕ) → In n order → Of t n) →
    (laid : List ℕ) → Marks seen laid → Reached t laid reached → r ≡ block_of (next_seed (tabled t) order laid low)
