-- The least set by sweeps holds its start, is closed under its rule, and lies inside whatever has both. Assumes nothing.
use Prim.Native.Nat.{ℕ, zero, suc, ◌≤◌, ◌<◌}
use native.Mathlib.Omega.{arith}
use mathlib.Core.Path.{◌≡◌, refl}
use mathlib.Core.Bool.{Bool, true, false, not, ◌||◌}
use mathlib.Core.Logic.{◌⊎◌, inl, inr, ⊎_elim}
use mathlib.Core.List.{List}
use lib.Dec.{T, T_not, not_T}
use lib.ListN.{length}
use Rattle.rules.specs.Lists.{all, mem}
use Rattle.rules.specs.Spread.{grown, close, least}
use Rattle.rules.proofs.Membership.{In, or_cases, or_l, or_r, test, all→, keep→, →keep, mem→, →mem}
use Rattle.rules.proofs.Counting.{tally, tally_lt, tally_pos, tally_len, not_all→}

module _ (univ : List ℕ) (adds : List ℕ → ℕ → Bool) where
  misses : List ℕ → ℕ
  misses s = tally (λ (b : ℕ). not (mem b s)) univ

  pub close_start : (k : ℕ) (s : List ℕ) (b : ℕ) → In b univ → T (mem b s) → T (mem b (close univ adds k s))
  unfolding close
  close_start zero s b u t = t
  close_start (suc k) s b u t = go (close_start k (grown univ adds s) b u) (all (λ (x : ℕ). mem x s) (grown univ adds s))
    where
      inside : T (mem b (grown univ adds s))
      inside = →mem b (grown univ adds s) (→keep (λ (x : ℕ). mem x s || adds s x) univ b u (or_l (mem b s) (adds s b) t))

      go : (T (mem b (grown univ adds s)) → T (mem b (close univ adds k (grown univ adds s)))) → (c : Bool) → T (mem b (elim c [ true ↦ s | false ↦ close univ adds k (grown univ adds s) ]))
      go ih true = t
      go ih false = ih inside

  -- law 2: it is closed
  Closed : List ℕ → Type 0
  Closed s = (b : ℕ) → In b univ → T (adds s b) → T (mem b s)

  close_closed : (k : ℕ) (s : List ℕ) → misses s ≤ k → Closed (close univ adds k s)
  unfolding close Closed misses
  close_closed zero s h b u a = go (test (mem b s))
    where
      go : T (mem b s) ⊎ T (not (mem b s)) → T (mem b s)
      go (inl t) = t
      go (inr f) = absurd (omega (arith, tally_pos (λ (x : ℕ). not (mem x s)) univ b u f))
  close_closed (suc k) s h b u a = go (close_closed k (grown univ adds s)) (all (λ (x : ℕ). mem x s) (grown univ adds s)) refl b u a
    where
      less : T (not (all (λ (x : ℕ). mem x s) (grown univ adds s))) → misses (grown univ adds s) < misses s
      less f =
          let r = not_all→ (λ (x : ℕ). mem x s) (grown univ adds s) f in
          tally_lt (λ (x : ℕ). not (mem x (grown univ adds s))) (λ (x : ℕ). not (mem x s)) univ
          (λ x i t. not_T (mem x s) (λ m. T_not (mem x (grown univ adds s)) t (→mem x (grown univ adds s) (→keep (λ (y : ℕ). mem y s || adds s y) univ x i (or_l (mem x s) (adds s x) m)))))
          r.0 (keep→ (λ (y : ℕ). mem y s || adds s y) univ r.0 r.1).0
          (not_T (not (mem r.0 (grown univ adds s))) (λ f2. T_not (mem r.0 (grown univ adds s)) f2 (→mem r.0 (grown univ adds s) r.1))) r.2

      go : (misses (grown univ adds s) ≤ k → Closed (close univ adds k (grown univ adds s))) → (c : Bool) → all (λ (x : ℕ). mem x s) (grown univ adds s) ≡ c → Closed (elim c [ true ↦ s | false ↦ close univ adds k (grown univ adds s) ])
      go ih true e b u a = all→ (λ (x : ℕ). mem x s) (grown univ adds s) (rw e tt) b (→keep (λ (y : ℕ). mem y s || adds s y) univ b u (or_r (mem b s) (adds s b) a))
      go ih false e b u a = ih (omega (arith, less (rw e tt))) b u a

  pub least_closed : (s : List ℕ) (b : ℕ) → In b univ → T (adds (least univ adds s) b) → T (mem b (least univ adds s))
  unfolding least Closed misses
  least_closed s = close_closed (length univ) s (tally_len (λ (b : ℕ). not (mem b s)) univ)

  pub least_start : (s : List ℕ) (b : ℕ) → In b univ → T (mem b s) → T (mem b (least univ adds s))
  unfolding least
  least_start s b u t = close_start (length univ) s b u t

  -- law 3: whatever holds of the start and is kept by the rule holds of each of its members
  pub close_ind : (P : ℕ → Type 0) → ((s : List ℕ) (b : ℕ) → ((c : ℕ) → T (mem c s) → P c) → In b univ → T (adds s b) → P b) →
      (k : ℕ) (s : List ℕ) → ((c : ℕ) → T (mem c s) → P c) → (b : ℕ) → T (mem b (close univ adds k s)) → P b
  unfolding close
  close_ind P keeps zero s h b t = h b t
  close_ind P keeps (suc k) s h b t = go (close_ind P keeps k (grown univ adds s)) (all (λ (x : ℕ). mem x s) (grown univ adds s)) t
    where
      step : (c : ℕ) → T (mem c (grown univ adds s)) → P c
      step c m =
          let r = keep→ (λ (y : ℕ). mem y s || adds s y) univ c (mem→ c (grown univ adds s) m) in
          ⊎_elim (h c) (keeps s c h r.0) (or_cases (mem c s) (adds s c) r.1)

      go : (((c : ℕ) → T (mem c (grown univ adds s)) → P c) → (x : ℕ) → T (mem x (close univ adds k (grown univ adds s))) → P x) → (c : Bool) → T (mem b (elim c [ true ↦ s | false ↦ close univ adds k (grown univ adds s) ])) → P b
      go ih true u = h b u
      go ih false u = ih step b u

  pub least_ind : (P : ℕ → Type 0) → ((s : List ℕ) (b : ℕ) → ((c : ℕ) → T (mem c s) → P c) → In b univ → T (adds s b) → P b) →
      (s : List ℕ) → ((c : ℕ) → T (mem c s) → P c) → (b : ℕ) → T (mem b (least univ adds s)) → P b
  unfolding least
  least_ind P keeps s h b t = close_ind P keeps (length univ) s h b t
