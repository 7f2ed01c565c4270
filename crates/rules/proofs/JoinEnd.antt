-- THEOREM join_ends: from each unused trace in turn the joining follows on until there is no trace to follow; the bound on its length
-- is never met. Assumes nothing.
use Prim.Native.Nat.{ℕ, zero, suc, ◌+◌, ◌≤◌, ◌<◌}
use native.Mathlib.Omega.{arith}
use mathlib.Core.Path.{◌≡◌, refl, ap}
use mathlib.Core.Bool.{Bool, true, false, not}
use mathlib.Core.Logic.{inl, inr}
use mathlib.Core.List.{List, [], ◌∷◌, map, reverse}
use Rattle.std.specs.Prelude.{Option, None, Some}
use lib.Dec.{T, T_not, not_T}
use lib.ListN.{length, get_or}
use Rattle.rules.specs.Lists.{concat, mem, range}
use Rattle.rules.specs.Graph.{Graph}
use Rattle.rules.specs.Join.{Link, next_trace, follow, connect_from, connect}
use Rattle.rules.proofs.Membership.{In, mem→, →mem}
use Rattle.rules.proofs.Counting.{tally, tally_lt, tally_len, range_once, count→In}
use Rattle.rules.proofs.JoinOnce.{next_ok}

-- trace i laid, and what follows it: `used` are those laid before, the last first
pub data Follows (g : Graph) (ts : List (List ℕ)) : List ℕ → ℕ → List ℕ → Type 0 where
  stops : (used : List ℕ) (i : ℕ) → next_trace g ts (i ∷ used) i ≡ None → Follows g ts used i (i ∷ used)
  goes : (used : List ℕ) (i : ℕ) (e : Link) (v : List ℕ) → next_trace g ts (i ∷ used) i ≡ Some e → Follows g ts (i ∷ used) e.index v → Follows g ts used i v

-- each trace from i on, in turn
pub data Connects (g : Graph) (ts : List (List ℕ)) : List ℕ → ℕ → List (List ℕ) → List ℕ → Type 0 where
  over : (used : List ℕ) (i : ℕ) → Connects g ts used i [] used
  passed : (used : List ℕ) (i : ℕ) (t : List ℕ) (l : List (List ℕ)) (v : List ℕ) → T (mem i used) → Connects g ts used (i + 1) l v → Connects g ts used i (t ∷ l) v
  from : (used : List ℕ) (i : ℕ) (t : List ℕ) (l : List (List ℕ)) (u v : List ℕ) → T (not (mem i used)) → Follows g ts used i u → Connects g ts u (i + 1) l v
      → Connects g ts used i (t ∷ l) v

range_in : (a k n : ℕ) → a ≤ n → n < a + k → In n (range a k)
range_in a k n h i = count→In n (range a k) (omega (arith, range_once a k n h i))

range_length : (a k : ℕ) → length (range a k) ≡ k
unfolding range
range_length a zero = refl
range_length a (suc k) = ap suc (range_length (suc a) k)

module _ (g : Graph) (ts : List (List ℕ)) where
  -- how many traces are not of the list
  unused : List ℕ → ℕ
  unused l = tally (λ (b : ℕ). not (mem b l)) (range 0 (length ts))

  unused_less : (l : List ℕ) (n : ℕ) → n < length ts → T (not (mem n l)) → unused (n ∷ l) < unused l
  unfolding unused
  unused_less l n j f =
      tally_lt (λ (b : ℕ). not (mem b (n ∷ l))) (λ (b : ℕ). not (mem b l)) (range 0 (length ts))
      (λ x i q. not_T (mem x l) (λ t. T_not (mem x (n ∷ l)) q (→mem x (n ∷ l) (inr (mem→ x l t)))))
      n (range_in 0 (length ts) n (omega arith) (omega (arith, j))) (not_T (not (mem n (n ∷ l))) (λ q. T_not (mem n (n ∷ l)) q (→mem n (n ∷ l) (inl refl)))) f

  unused_few : (l : List ℕ) → unused l ≤ length ts
  unfolding unused
  unused_few l = omega (arith, tally_len (λ (b : ℕ). not (mem b l)) (range 0 (length ts)), range_length 0 (length ts))

  follows : (k : ℕ) (used : List ℕ) (i : ℕ) → unused (i ∷ used) ≤ k → Follows g ts used i (follow g ts k used i)
  unfolding follow
  follows zero used i h = go (next_trace g ts (i ∷ used) i) refl
    where
      go : (o : Option Link) → next_trace g ts (i ∷ used) i ≡ o → Follows g ts used i (i ∷ used)
      go None e = stops used i e
      go (Some x) e = let r = next_ok g ts (i ∷ used) i x e in absurd (omega (arith, h, unused_less (i ∷ used) x.index r.1 r.0))
  follows (suc k) used i h = go (follows k (i ∷ used)) (next_trace g ts (i ∷ used) i) refl
    where
      go : ((j : ℕ) → unused (j ∷ i ∷ used) ≤ k → Follows g ts (i ∷ used) j (follow g ts k (i ∷ used) j)) → (o : Option Link) → next_trace g ts (i ∷ used) i ≡ o
          → Follows g ts used i (elim o as (λ (x : Option Link). List ℕ) [ None ↦ i ∷ used | Some e ↦ follow g ts k (i ∷ used) e.index ])
      go ih None e = stops used i e
      go ih (Some x) e =
          let r = next_ok g ts (i ∷ used) i x e in
          goes used i x (follow g ts k (i ∷ used) x.index) e (ih x.index (omega (arith, h, unused_less (i ∷ used) x.index r.1 r.0)))

  connects : (used : List ℕ) (i : ℕ) (l : List (List ℕ)) → Connects g ts used i l (connect_from g ts used i l)
  unfolding connect_from
  connects used i [] = over used i
  connects used i (t ∷ l) = go (λ u. connects u (i + 1) l) (mem i used) refl
    where
      next : Bool → List ℕ
      next c = elim c as (λ (x : Bool). List ℕ) [ true ↦ used | false ↦ follow g ts (length ts) used i ]

      go : ((u : List ℕ) → Connects g ts u (i + 1) l (connect_from g ts u (i + 1) l)) → (c : Bool) → mem i used ≡ c → Connects g ts used i (t ∷ l) (connect_from g ts (next c) (i + 1) l)
      go ih true q = passed used i t l (connect_from g ts used (i + 1) l) (rw q tt) (ih used)
      go ih false q =
          let u = follow g ts (length ts) used i in
          from used i t l u (connect_from g ts u (i + 1) l) (rw q tt) (follows (length ts) used i (unused_few (i ∷ used))) (ih u)

  -- THE THEOREM: the traces are laid in the order in which they came to be used
  pub join_ends : (v : List ℕ) × Connects g ts [] 0 ts v × (connect g ts ≡ concat (map (λ (i : ℕ). get_or ts i []) (reverse v)))
  unfolding connect
  join_ends = (connect_from g ts [] 0 ts, connects [] 0 ts, refl)
