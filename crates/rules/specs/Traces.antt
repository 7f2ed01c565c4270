-- Document 01, "Traces": runs of blocks that mostly follow each other, found in four rounds.
use Rattle.std.specs.Prelude.{ℕ, zero, suc, max, Bool, not, cond, ◌&&◌, ◌||◌, List, [], ◌∷◌, ◌++◌, map, eqb, leb, ltb, length, Option, None, Some}
use Rattle.std.specs.Bool.{beq}
use Rattle.limits.specs.Limits.{blocks}
use Rattle.rules.specs.Lists.{keep, foldl, best, first_or, mem}
use Rattle.rules.specs.Graph.{Arm, Block, Graph, is_cold, block_at, cold_at, entry}
use Rattle.rules.specs.PlainOrder.{order}
use Rattle.rules.specs.Weights.{once, share, floor}
use Rattle.rules.specs.Rotate.{rotate}

-- "as (likely, often)"
pub record Round : Type 0 where
  pub likely : ℕ
  pub often : ℕ

abbrev pub round_one : Round
round_one = record { likely = 4000; often = 5000 }

-- "Rounds (4000,5000), (2000,2000), (1000,500), (0,0) as (likely, often)."
unfoldable pub rounds : List Round
rounds = round_one ∷ record { likely = 2000; often = 2000 } ∷ record { likely = 1000; often = 500 } ∷ record { likely = 0; often = 0 } ∷ []

-- "entry weight (ONCE if no entry)"
unfoldable pub entered_weight : Graph → ℕ
unfolding entry block_at
entered_weight g = elim (entry g) [ None ↦ once | Some e ↦ (block_at g e).weight ]

-- "Floor = entry weight (ONCE if no entry) x often / 10,000 rounded down."
unfoldable pub floor_of : Graph → ℕ → ℕ
unfolding entered_weight floor
floor_of g often = floor (entered_weight g) often

-- ---- extending

-- "to an unlaid block with the same cold mark, arm weight at least the floor, share of the block at least likely"
unfoldable pub fits : Graph → List ℕ → ℕ → ℕ → Block → Arm → Bool
unfolding mem cold_at is_cold share
fits g laid likely low b a =
    not (mem a.to laid) && beq (is_cold b.marks) (cold_at g a.to) && leb low a.weight && leb likely (share a.weight b.weight)

abbrev pub lighter : Arm → Arm → Bool
lighter a b = ltb a.weight b.weight

-- "Extend by the heaviest arm, first on ties, [that fits]"
unfoldable pub along : Graph → List ℕ → ℕ → ℕ → Block → Option Arm
unfolding best keep fits
along g laid likely low b = best lighter None (keep (fits g laid likely low b) b.arms)

-- the trace from block n, at most k blocks beyond it
unfoldable pub extend : Graph → ℕ → ℕ → ℕ → List ℕ → ℕ → List ℕ
unfolding along block_at
extend g likely low zero laid n = n ∷ []
extend g likely low (suc k) laid n =
    elim (along g (n ∷ laid) likely low (block_at g n)) [ None ↦ n ∷ [] | Some a ↦ n ∷ extend g likely low k (n ∷ laid) a.to ]

-- ---- starts

-- "heaviest arm in from a laid block (0 if none)"
unfoldable pub heaviest_in : Graph → List ℕ → ℕ → ℕ
unfolding mem foldl
heaviest_in g laid n =
    foldl (λ (m : ℕ) (b : Block). cond (mem b.number laid) (foldl (λ (k : ℕ) (a : Arm). cond (eqb a.to n) (max k a.weight) k) m b.arms) m) 0 g

-- what starts are compared by: "warm, then heaviest arm in from a laid block (0 if none), then weight"
pub record Seed : Type 0 where
  pub block : ℕ
  pub warm : ℕ
  pub reached : ℕ
  pub weight : ℕ

-- a block as a start
unfoldable pub seed_of : Graph → List ℕ → ℕ → Seed
unfolding heaviest_in cold_at block_at
seed_of g laid n = record { block = n; warm = cond (cold_at g n) 0 1; reached = heaviest_in g laid n; weight = (block_at g n).weight }

-- "by warm, then heaviest arm in from a laid block (0 if none), then weight"
unfoldable pub below : Seed → Seed → Bool
below a b =
    ltb a.warm b.warm || (eqb a.warm b.warm
    && (ltb a.reached b.reached || (eqb a.reached b.reached && ltb a.weight b.weight)))

-- "the unlaid block of weight at least the floor"
unfoldable pub startable : Graph → List ℕ → ℕ → ℕ → Bool
unfolding mem block_at
startable g laid low n = not (mem n laid) && leb low (block_at g n).weight

-- "Other starts: the unlaid block of weight at least the floor that is greatest by [those], then earlier plain place": the first
-- on ties, in the plain order `o`
unfoldable pub next_seed : Graph → List ℕ → List ℕ → ℕ → Option Seed
unfolding best below seed_of keep startable
next_seed g o laid low = best below None (map (seed_of g laid) (keep (startable g laid low) o))

-- ---- the rounds

-- the blocks laid, the first blocks of the traces found, and the traces in the order in which they were found
pub record Traced : Type 0 where
  pub laid : List ℕ
  pub starts : List ℕ
  pub found : List (List ℕ)

-- nothing laid yet
unfoldable pub no_traces : Traced
no_traces = record { laid = []; starts = []; found = [] }

-- one trace more, from block n; it is turned before it counts as a start
unfoldable pub trace_from : Graph → ℕ → ℕ → Traced → ℕ → Traced
unfolding extend rotate first_or
trace_from g likely low s n =
    let t = extend g likely low (length g) s.laid n in
    let laid = t ++ s.laid in
    let r = rotate g laid s.starts t in
    record { laid = laid; starts = first_or blocks r ∷ s.starts; found = s.found ++ (r ∷ []) }

-- traces for as long as the start rule finds one, at most k
unfoldable pub fill : Graph → List ℕ → ℕ → ℕ → ℕ → Traced → Traced
unfolding next_seed trace_from
fill g o likely low zero s = s
fill g o likely low (suc k) s = elim (next_seed g o s.laid low) [ None ↦ s | Some e ↦ fill g o likely low k (trace_from g likely low s e.block) ]

-- "Round one starts at the entry."
unfoldable pub entry_trace : Graph → Traced
unfolding entry no_traces trace_from floor_of
entry_trace g = elim (entry g) [ None ↦ no_traces | Some e ↦ trace_from g round_one.likely (floor_of g round_one.often) no_traces e ]

-- one round, with its floor
unfoldable pub in_round : Graph → Traced → Round → Traced
unfolding fill order floor_of
in_round g s r = fill g (order g) r.likely (floor_of g r.often) (length g) s

-- the traces in the order that they were made
unfoldable pub traces : Graph → List (List ℕ)
unfolding foldl in_round rounds entry_trace
traces g = (foldl (in_round g) (entry_trace g) rounds).found
