-- THEOREM goal_first: a way through has the goal m exactly when m is the first block on its chain that is no way through; so it has
-- none exactly when its chain never leaves. The bound on the chain's length is never met. Assumes nothing.
use Prim.Native.Nat.{ℕ, zero, suc, ◌≤◌, ◌<◌}
use native.Mathlib.Omega.{arith}
use mathlib.Core.Path.{◌≡◌, refl, sym, ap, ◌∙◌, subst}
use mathlib.Core.Logic.{inl, inr, ⊎_elim, ◌↔◌}
use mathlib.Core.List.{List, [], ◌∷◌}
use Rattle.std.specs.Prelude.{Option, None, Some}
use lib.Dec.{not_T}
use lib.ListN.{length, length-map}
use Rattle.rules.specs.Lists.{mem}
use Rattle.rules.specs.Graph.{Block, Graph, block_at, numbers_of}
use Rattle.rules.specs.Forward.{through, leaves_at, goal}
use Rattle.rules.proofs.Membership.{In, test, mem→}
use Rattle.rules.proofs.Counting.{tally, count, Once, count_zero, In→count, fresh, no_longer}
use Rattle.rules.proofs.Forwarded.{through_listed}

module _ (g : Graph) where
  -- from block n on, the first block that is no way through is m
  pub data Leads : ℕ → ℕ → Type 0 where
    out : (n : ℕ) → through (block_at g n) ≡ None → Leads n n
    onward : (n t m : ℕ) → through (block_at g n) ≡ Some t → Leads t m → Leads n m

  pub record Goal (n m : ℕ) : Type 0 where
    pub next : ℕ
    pub way : through (block_at g n) ≡ Some next
    pub leads : Leads next m

  -- ---- the chain is as the search goes
  search_leads : (k n m : ℕ) → leaves_at g k n ≡ Some m → Leads n m
  unfolding leaves_at
  search_leads zero n m e = absurd (let z : ◌≡◌ {A = ℕ} 0 1 = cc in omega arith)
  search_leads (suc k) n m e = go (λ t. search_leads k t m) (through (block_at g n)) refl e
    where
      go : ((t : ℕ) → leaves_at g k t ≡ Some m → Leads t m) → (o : Option ℕ) → through (block_at g n) ≡ o
          → (elim o as (λ (x : Option ℕ). Option ℕ) [ None ↦ Some n | Some t ↦ leaves_at g k t ]) ≡ Some m → Leads n m
      go ih None q e = let r : n ≡ m = cc in subst (λ (x : ℕ). Leads n x) r (out n q)
      go ih (Some t) q e = onward n t m q (ih t e)

  -- ---- how many ways through the chain passes, and which
  steps : (n m : ℕ) → Leads n m → ℕ
  steps n m (out a q) = 0
  steps n m (onward a t b q p) = suc (steps t b p)

  ways : (n m : ℕ) → Leads n m → List ℕ
  ways n m (out a q) = []
  ways n m (onward a t b q p) = a ∷ ways t b p

  ways_length : (n m : ℕ) (p : Leads n m) → length (ways n m p) ≡ steps n m p
  unfolding steps ways
  ways_length n m (out a q) = refl
  ways_length n m (onward a t b q p) = ap suc (ways_length t b p)

  -- one block has one chain
  steps_one : (n m : ℕ) (p : Leads n m) (x y : ℕ) → n ≡ x → (r : Leads x y) → steps n m p ≡ steps x y r
  unfolding steps
  steps_one n m (out a q) x y e (out b s) = refl
  steps_one n m (out a q) x y e (onward b t c s r) = absurd (let h : through (block_at g a) ≡ Some t = ap (λ (k : ℕ). through (block_at g k)) e ∙ s in let z : ◌≡◌ {A = ℕ} 0 1 = cc in omega arith)
  steps_one n m (onward a t c q p) x y e (out b s) = absurd (let h : through (block_at g a) ≡ None = ap (λ (k : ℕ). through (block_at g k)) e ∙ s in let z : ◌≡◌ {A = ℕ} 0 1 = cc in omega arith)
  steps_one n m (onward a t c q p) x y e (onward b u d s r) =
      let h : through (block_at g a) ≡ Some u = ap (λ (k : ℕ). through (block_at g k)) e ∙ s in
      let f : t ≡ u = cc in
      ap suc (steps_one t c p u d f r)

  -- a block of the chain has the rest of it
  rest_of : (n m : ℕ) (p : Leads n m) (x : ℕ) → In x (ways n m p) → (r : Leads x m) × (steps x m r ≤ steps n m p)
  unfolding steps ways
  rest_of n m (out a q) x i = absurd i
  rest_of n m (onward a t c q p) x (inl e) = (subst (λ (k : ℕ). Leads k c) (sym e) (onward a t c q p), omega (arith, steps_one x c (subst (λ (k : ℕ). Leads k c) (sym e) (onward a t c q p)) a c e (onward a t c q p)))
  rest_of n m (onward a t c q p) x (inr i) = let r = rest_of t c p x i in (r.0, omega (arith, r.1))

  -- so it passes no block twice
  ways_once : (n m : ℕ) (p : Leads n m) → Once (ways n m p)
  unfolding ways steps
  ways_once n m (out a q) k = unfold count tally in omega arith
  ways_once n m (onward a t c q p) k =
      fresh a (ways t c p) (ways_once t c p)
      (not_T (mem a (ways t c p))
      (λ y.
      let r = rest_of t c p a (mem→ a (ways t c p) y) in
      omega (arith, r.1, steps_one a c r.0 a c refl (onward a t c q p)))) k

  ways_listed : (n m : ℕ) (p : Leads n m) (x : ℕ) → In x (ways n m p) → In x (numbers_of g)
  unfolding ways
  ways_listed n m (out a q) x i = absurd i
  ways_listed n m (onward a t c q p) x (inl e) = subst (λ (k : ℕ). In k (numbers_of g)) (sym e) (through_listed g a t q)
  ways_listed n m (onward a t c q p) x (inr i) = ways_listed t c p x i

  steps_few : (n m : ℕ) (p : Leads n m) → steps n m p ≤ length g
  unfolding numbers_of
  steps_few n m p =
      let l = ways n m p in
      let h : length l ≤ length (numbers_of g) =
      no_longer l (numbers_of g)
      (λ k.
      ⊎_elim (λ t. omega (arith, ways_once n m p k, In→count k (numbers_of g) (ways_listed n m p k (mem→ k l t)))) (λ f. omega (arith, count_zero k l f)) (test (mem k l))) in
      omega (arith, h, ways_length n m p, length-map g (λ (b : Block). b.number))

  -- ---- the search finds the chain's end
  leads_search : (n m : ℕ) (p : Leads n m) (k : ℕ) → steps n m p < k → leaves_at g k n ≡ Some m
  unfolding leaves_at steps
  leads_search n m p zero h = absurd (omega (arith, h))
  leads_search n m (out a q) (suc k) h = rw (q, leaves_at) refl
  leads_search n m (onward a t c q p) (suc k) h = rw (q, leaves_at) (leads_search t c p k (omega (arith, h)))

  -- THE THEOREM
  pub goal_first : (n m : ℕ) → (goal g n ≡ Some m) ↔ Goal n m
  unfolding goal
  goal_first n m = (λ e. go (through (block_at g n)) refl e, back)
    where
      go : (o : Option ℕ) → through (block_at g n) ≡ o → (elim o as (λ (x : Option ℕ). Option ℕ) [ None ↦ None | Some t ↦ leaves_at g (length g) t ]) ≡ Some m → Goal n m
      go None q e = absurd (let z : ◌≡◌ {A = ℕ} 0 1 = cc in omega arith)
      go (Some t) q e = record { next = t; way = q; leads = search_leads (length g) t m e }

      back : Goal n m → goal g n ≡ Some m
      back k =
          let all : Leads n m = onward n k.next m k.way k.leads in
          let few : suc (steps k.next m k.leads) ≤ length g = unfold steps in steps_few n m all in
          rw (k.way, goal) (leads_search k.next m k.leads (length g) (omega (arith, few)))

  -- "none if the chain never leaves"
  pub goal_none : (n : ℕ) → goal g n ≡ None → (m : ℕ) → Goal n m → ⊥
  goal_none n e m k = let h = (goal_first n m).1 k in let z : ◌≡◌ {A = ℕ} 0 1 = cc in omega arith

  -- a goal is no way through
  leads_end : (n m : ℕ) → Leads n m → through (block_at g m) ≡ None
  leads_end n m (out a q) = q
  leads_end n m (onward a t c q p) = leads_end t c p

  pub goal_other : (n m : ℕ) → goal g n ≡ Some m → m ≡ n → ⊥
  goal_other n m e q =
      let k = (goal_first n m).0 e in
      let h : through (block_at g n) ≡ None = ap (λ (x : ℕ). through (block_at g x)) (sym q) ∙ leads_end k.next m k.leads in
      let z : ◌≡◌ {A = ℕ} 0 1 = (let w = k.way in cc) in
      omega arith
