-- THEOREMS trace_ends and rounds_end: a trace is extended until no arm fits, and a round goes on until the start rule finds none; the
-- bounds on their lengths are never met. Assumes nothing.
use Prim.Native.Nat.{ℕ, zero, suc, ◌≤◌, ◌<◌}
use native.Mathlib.Omega.{arith}
use mathlib.Core.Path.{◌≡◌, refl}
use mathlib.Core.Bool.{not}
use mathlib.Core.Logic.{inl, inr}
use mathlib.Core.List.{List, [], ◌∷◌, map}
use Rattle.std.specs.Prelude.{Option, None, Some}
use lib.Dec.{T, T_not, not_T}
use lib.ListN.{length, length-map}
use Rattle.rules.specs.Lists.{foldl, mem}
use Rattle.rules.specs.Graph.{Arm, Block, Graph, block_at, numbers_of}
use Rattle.rules.specs.PlainOrder.{order}
use Rattle.rules.specs.Traces.{Round, rounds, floor_of, along, extend, Seed, next_seed, Traced, trace_from, fill, entry_trace, in_round, traces}
use Rattle.rules.proofs.Membership.{In, mem→, →mem}
use Rattle.rules.proofs.Counting.{tally, tally_lt, tally_len, Once, In→count, count→In}
use Rattle.rules.proofs.Wholeness.{Whole, block_in, arm_target}
use Rattle.rules.proofs.PlainOnce.{plain_once}
use Rattle.rules.proofs.TracesOnce.{along_ok, Good, left, grow_ok, seed_ok, fill_ok, entry_good}

-- a trace from block n, where `laid` is laid before it
pub data Extends (g : Graph) (likely low : ℕ) : List ℕ → ℕ → List ℕ → Type 0 where
  stops : (laid : List ℕ) (n : ℕ) → along g (n ∷ laid) likely low (block_at g n) ≡ None → Extends g likely low laid n (n ∷ [])
  goes : (laid : List ℕ) (n : ℕ) (a : Arm) (t : List ℕ) → along g (n ∷ laid) likely low (block_at g n) ≡ Some a → Extends g likely low (n ∷ laid) a.to t
      → Extends g likely low laid n (n ∷ t)

-- a round, where `o` is the plain order
pub data Fills (g : Graph) (o : List ℕ) (likely low : ℕ) : Traced → Traced → Type 0 where
  full : (s : Traced) → next_seed g o s.laid low ≡ None → Fills g o likely low s s
  more : (s t : Traced) (e : Seed) → next_seed g o s.laid low ≡ Some e → Fills g o likely low (trace_from g likely low s e.block) t → Fills g o likely low s t

-- rounds, one after the other
pub data InTurn (g : Graph) : Traced → List Round → Traced → Type 0 where
  over : (s : Traced) → InTurn g s [] s
  turn : (s t u : Traced) (r : Round) (l : List Round) → Fills g (order g) r.likely (floor_of g r.often) s t → InTurn g t l u → InTurn g s (r ∷ l) u

module _ (g : Graph) (w : Whole g) where
  -- how many blocks are not of the list
  unlaid : List ℕ → ℕ
  unlaid l = tally (λ (b : ℕ). not (mem b l)) (numbers_of g)

  unlaid_less : (l : List ℕ) (n : ℕ) → In n (numbers_of g) → T (not (mem n l)) → unlaid (n ∷ l) < unlaid l
  unfolding unlaid
  unlaid_less l n j f =
      tally_lt (λ (b : ℕ). not (mem b (n ∷ l))) (λ (b : ℕ). not (mem b l)) (numbers_of g)
      (λ x i q. not_T (mem x l) (λ t. T_not (mem x (n ∷ l)) q (→mem x (n ∷ l) (inr (mem→ x l t)))))
      n j (not_T (not (mem n (n ∷ l))) (λ q. T_not (mem n (n ∷ l)) q (→mem n (n ∷ l) (inl refl)))) f

  unlaid_few : (l : List ℕ) → unlaid l ≤ length g
  unfolding unlaid numbers_of
  unlaid_few l = omega (arith, tally_len (λ (b : ℕ). not (mem b l)) (map (λ (b : Block). b.number) g), length-map g (λ (b : Block). b.number))

  extends : (likely low k : ℕ) (laid : List ℕ) (n : ℕ) → In n (numbers_of g) → unlaid (n ∷ laid) ≤ k → Extends g likely low laid n (extend g likely low k laid n)
  unfolding extend
  extends likely low zero laid n j h = go (along g (n ∷ laid) likely low (block_at g n)) refl
    where
      go : (o : Option Arm) → along g (n ∷ laid) likely low (block_at g n) ≡ o → Extends g likely low laid n (n ∷ [])
      go None e = stops laid n e
      go (Some a) e =
          let r = along_ok g w likely low (n ∷ laid) (block_at g n) a e in
          absurd (omega (arith, h, unlaid_less (n ∷ laid) a.to (w (block_at g n) (block_in g n j).0 a.to (arm_target (block_at g n) a r.0)) r.1))
  extends likely low (suc k) laid n j h = go (extends likely low k (n ∷ laid)) (along g (n ∷ laid) likely low (block_at g n)) refl
    where
      go : ((m : ℕ) → In m (numbers_of g) → unlaid (m ∷ n ∷ laid) ≤ k → Extends g likely low (n ∷ laid) m (extend g likely low k (n ∷ laid) m))
          → (o : Option Arm) → along g (n ∷ laid) likely low (block_at g n) ≡ o
          → Extends g likely low laid n (elim o as (λ (x : Option Arm). List ℕ) [ None ↦ n ∷ [] | Some a ↦ n ∷ extend g likely low k (n ∷ laid) a.to ])
      go ih None e = stops laid n e
      go ih (Some a) e =
          let r = along_ok g w likely low (n ∷ laid) (block_at g n) a e in
          let i = w (block_at g n) (block_in g n j).0 a.to (arm_target (block_at g n) a r.0) in
          goes laid n a (extend g likely low k (n ∷ laid) a.to) e (ih a.to i (omega (arith, h, unlaid_less (n ∷ laid) a.to i r.1)))

  pub trace_ends : (likely low : ℕ) (laid : List ℕ) (n : ℕ) → In n (numbers_of g) → Extends g likely low laid n (extend g likely low (length g) laid n)
  trace_ends likely low laid n j = extends likely low (length g) laid n j (unlaid_few (n ∷ laid))

  module _ (d : Once (numbers_of g)) where
    in_order : (n : ℕ) → In n (order g) → In n (numbers_of g)
    in_order n i = count→In n (numbers_of g) (omega (arith, plain_once g w d n, In→count n (order g) i))

    fills : (likely low k : ℕ) (s : Traced) → Good g w d s → left g w d s ≤ k → Fills g (order g) likely low s (fill g (order g) likely low k s)
    unfolding fill
    fills likely low zero s h c = go (next_seed g (order g) s.laid low) refl
      where
        go : (o : Option Seed) → next_seed g (order g) s.laid low ≡ o → Fills g (order g) likely low s s
        go None e = full s e
        go (Some x) e =
            let r = seed_ok g w d (order g) s.laid low x e in
            absurd (omega (arith, c, (grow_ok g w d likely low s x.block (in_order x.block r.0) r.1 h).less))
    fills likely low (suc k) s h c = go (fills likely low k) (next_seed g (order g) s.laid low) refl
      where
        go : ((t : Traced) → Good g w d t → left g w d t ≤ k → Fills g (order g) likely low t (fill g (order g) likely low k t))
            → (o : Option Seed) → next_seed g (order g) s.laid low ≡ o
            → Fills g (order g) likely low s (elim o as (λ (x : Option Seed). Traced) [ None ↦ s | Some e ↦ fill g (order g) likely low k (trace_from g likely low s e.block) ])
        go ih None e = full s e
        go ih (Some x) e =
            let r = seed_ok g w d (order g) s.laid low x e in
            let b = grow_ok g w d likely low s x.block (in_order x.block r.0) r.1 h in
            more s (fill g (order g) likely low k (trace_from g likely low s x.block)) x e (ih (trace_from g likely low s x.block) b.good (omega (arith, c, b.less)))

    left_few : (s : Traced) → left g w d s ≤ length g
    unfolding left numbers_of
    left_few s = omega (arith, tally_len (λ (b : ℕ). not (mem b s.laid)) (map (λ (b : Block). b.number) g), length-map g (λ (b : Block). b.number))

    in_turn : (l : List Round) (s : Traced) → Good g w d s → InTurn g s l (foldl (in_round g) s l)
    unfolding foldl in_round
    in_turn [] s h = over s
    in_turn (r ∷ l) s h =
        let t = in_round g s r in
        turn s t (foldl (in_round g) t l) r l
        (fills r.likely (floor_of g r.often) (length g) s h (left_few s))
        (in_turn l t (fill_ok g w d (order g) (plain_once g w d) r.likely (floor_of g r.often) (length g) s h))

    pub rounds_end : (z : Traced) × InTurn g (entry_trace g) rounds z × (traces g ≡ z.found)
    unfolding traces
    rounds_end = (foldl (in_round g) (entry_trace g) rounds, in_turn rounds (entry_trace g) (entry_good g w d), refl)
