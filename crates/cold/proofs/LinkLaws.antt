-- The ways into a block of the graph, by the counts of its tables. Assumes nothing.
use Prim.Native.Nat.{ℕ, zero, suc, ◌+◌, ◌≤◌, ◌<◌}
use native.Mathlib.Omega.{arith}
use mathlib.Core.Path.{◌≡◌, refl, sym, ap, ◌∙◌, subst}
use mathlib.Core.Bool.{Bool, true, false, cond}
use mathlib.Core.List.{List, ◌∷◌, map}
use lib.Dec.{T}
use lib.ListN.{length, get_or, take, drop}
use lib.Seq.{drop-cons}
use Rattle.limits.specs.Limits.{numbers, most_arms}
use Rattle.lists.proofs.Choices.{split_lt, split_eq}
use Rattle.rules.specs.Lists.{keep, mem}
use Rattle.rules.specs.Graph as graph
use Rattle.rules.specs.Graph.{is_cold, numbers_of, targets}
use Rattle.rules.specs.Spread.{ways_in}
use Rattle.rules.proofs.Membership.{In, In-map, map-In, →keep, keep→, mem→, →mem}
use Rattle.rules.proofs.Counting.{In→count, count→In}
use Rattle.rules.proofs.Wholeness.{Whole, block_in}
use Rattle.records.specs.declared.Graph.{Graph}
use Rattle.records.specs.declared.Arms.{Arms}
use Rattle.records.specs.declared.Blocks.{Blocks}
use Rattle.records.specs.Tables.{arm_at, arms_from, leaves, block_at, tabled, Carries}
use Rattle.records.proofs.StandLaws.{listed_in, in_listed, in_tables, find_listed}
use Rattle.cold.specs.Ways.{Links, links_of, outs, at, arms_to, ins, cold_sum, cold_ins, Linked}
use Rattle.cold.proofs.WayLaws.{cold_part_lem}

-- ---- sums over the listed blocks
module _ (w : Links) where
  pub ins_some : (p k : ℕ) → 0 < ins w p k → (j : ℕ) × (j < p) × (0 < arms_to w k (at w j))
  unfolding ins
  ins_some zero k h = absurd (omega (arith, h))
  ins_some (suc p) k h =
      split_eq (arms_to w k (at w p))
      (λ e. let r = ins_some p k (omega (arith, h, e)) in (r.0, omega (arith, r.1), r.2))
      (λ d. (p, omega arith, omega (arith, d)))

  pub ins_pos : (p k j : ℕ) → j < p → 0 < arms_to w k (at w j) → 0 < ins w p k
  unfolding ins
  ins_pos zero k j l h = absurd (omega (arith, l))
  ins_pos (suc p) k j l h =
      split_lt j p (λ q. omega (arith, ins_pos p k j q h)) (λ q. let e : j ≡ p = omega (arith, l, q) in omega (arith, subst (λ (x : ℕ). 0 < arms_to w k (at w x)) e h))

  module _ (h : Linked w) (m : List ℕ) (k : ℕ) where
    -- as many from cold blocks as in all: every one is from a cold block
    pub cold_all : (p : ℕ) → ins w p k ≡ cold_ins w m p k → (j : ℕ) → j < p → 0 < arms_to w k (at w j) → is_cold (get_or m (at w j) 0) ≡ true
    unfolding ins cold_ins cold_sum
    cold_all zero e j l a = absurd (omega (arith, l))
    cold_all (suc p) e j l a = go (cold_all p) (is_cold (get_or m (at w p) 0)) refl e
      where
        go : (ins w p k ≡ cold_ins w m p k → (j : ℕ) → j < p → 0 < arms_to w k (at w j) → is_cold (get_or m (at w j) 0) ≡ true) → (t : Bool) → is_cold (get_or m (at w p) 0) ≡ t
            → ins w p k + arms_to w k (at w p) ≡ cold_ins w m p k + cond t (arms_to w k (at w p)) 0 → is_cold (get_or m (at w j) 0) ≡ true
        go ih true q e = split_lt j p (λ u. ih (omega (arith, e)) j u a) (λ u. let z : j ≡ p = omega (arith, l, u) in rw z q)
        go ih false q e =
            split_lt j p (λ u. ih (omega (arith, e, cold_part_lem w h m p k)) j u a)
            (λ u. let z : j ≡ p = omega (arith, l, u) in absurd (omega (arith, e, cold_part_lem w h m p k, subst (λ (x : ℕ). 0 < arms_to w k (at w x)) z a)))

    -- and the other way round
    pub all_cold : (p : ℕ) → ((j : ℕ) → j < p → 0 < arms_to w k (at w j) → is_cold (get_or m (at w j) 0) ≡ true) → ins w p k ≡ cold_ins w m p k
    unfolding ins cold_ins cold_sum
    all_cold zero f = refl
    all_cold (suc p) f = go (all_cold p (λ j l. f j (omega (arith, l)))) (is_cold (get_or m (at w p) 0)) refl
      where
        go : ins w p k ≡ cold_ins w m p k → (t : Bool) → is_cold (get_or m (at w p) 0) ≡ t → ins w p k + arms_to w k (at w p) ≡ cold_ins w m p k + cond t (arms_to w k (at w p)) 0
        go ih true q = omega (arith, ih)
        go ih false q =
            split_eq (arms_to w k (at w p)) (λ e. omega (arith, ih, e))
            (λ d. absurd (let z : true ≡ false = sym (f p (omega arith) (omega (arith, d))) ∙ q in subst T z tt))

-- ---- the graph's tables
arms_to_slice : (a : Arms) (c f : ℕ) → f + c ≤ length a.to → map (λ (x : graph.Arm). x.to) (arms_from a f c) ≡ take c (drop f a.to)
unfolding arms_from arm_at
arms_to_slice a zero f h = refl
arms_to_slice a (suc c) f h =
    ap (λ (l : List ℕ). get_or a.to f 0 ∷ l) (arms_to_slice a c (suc f) (omega (arith, h))) ∙ sym (ap (take (suc c)) (drop-cons a.to f 0 (omega (arith, h))))

targets_slice : (b : Blocks) (a : Arms) (n : ℕ) → get_or a.first n 0 + get_or a.count n 0 ≤ length a.to → targets (block_at b a n) ≡ outs a n
unfolding targets block_at leaves outs
targets_slice b a n h = arms_to_slice a (get_or a.count n 0) (get_or a.first n 0) h

pub targets_are : (t : Graph) → Linked (links_of t) → (n : ℕ) → targets (block_at t.b t.a n) ≡ outs t.a n
targets_are t h n = targets_slice t.b t.a n (omega (arith, h.fits n, h.sized))

module _ (t : Graph) where
  -- the block at place i
  pub block_at_lem : (i : ℕ) → i < t.blocks → In (block_at t.b t.a (at (links_of t) i)) (tabled t)
  unfolding tabled
  block_at_lem i l =
      subst (λ (x : graph.Block). In x (tabled t)) (find_listed t.b t.a i t.blocks l) (block_in (tabled t) (at (links_of t) i) (listed_in t.b t.a i t.blocks l)).0

  pub number_at : (i : ℕ) → i < t.blocks → In (at (links_of t) i) (numbers_of (tabled t))
  unfolding tabled
  number_at i l = listed_in t.b t.a i t.blocks l

  pub place_of : (k : ℕ) → In k (numbers_of (tabled t)) → (i : ℕ) × (i < t.blocks) × (at (links_of t) i ≡ k)
  unfolding tabled
  place_of k i = in_listed t.b t.a k t.blocks i

  pub block_is : (x : graph.Block) → In x (tabled t) → x ≡ block_at t.b t.a x.number
  unfolding tabled
  block_is x i = in_tables t.b t.a t.blocks x i

  pub linked : Carries numbers most_arms t (tabled t) → Whole (tabled t) → Linked (links_of t)
  linked s whole =
      record {
        sized = s.arms_sized.to;
        few = s.few;
        below = λ i l. omega (arith, s.below i l);
        once = s.once;
        fits = s.fits;
        goes =
            λ i l k o.
            let b = at (links_of t) i in
            let e = targets_slice t.b t.a b (omega (arith, s.fits b, s.arms_sized.to)) in
            let r = place_of k (whole _ (block_at_lem i l) k (subst (In k) (sym e) o)) in
            omega (arith, s.below r.0 r.1, r.2);
      }

  -- ---- its ways in
  pub way_in : Linked (links_of t) → (k j : ℕ) → j < t.blocks → 0 < arms_to (links_of t) k (at (links_of t) j) → In (at (links_of t) j) (ways_in (tabled t) k)
  unfolding ways_in arms_to block_at
  way_in h k j l a =
      let b = at (links_of t) j in
      let i : In k (targets (block_at t.b t.a b)) = subst (In k) (sym (targets_are t h b)) (count→In k (outs t.a b) a) in
      In-map (λ (x : graph.Block). x.number) (keep (λ (x : graph.Block). mem k (targets x)) (tabled t)) (block_at t.b t.a b)
      (→keep (λ (x : graph.Block). mem k (targets x)) (tabled t) (block_at t.b t.a b) (block_at_lem j l) (→mem k (targets (block_at t.b t.a b)) i))

  pub in_way : Linked (links_of t) → (k n : ℕ) → In n (ways_in (tabled t) k) → (j : ℕ) × (j < t.blocks) × (at (links_of t) j ≡ n) × (0 < arms_to (links_of t) k n)
  unfolding ways_in arms_to numbers_of
  in_way h k n i =
      let r = map-In (λ (x : graph.Block). x.number) (keep (λ (x : graph.Block). mem k (targets x)) (tabled t)) n i in
      let q = keep→ (λ (x : graph.Block). mem k (targets x)) (tabled t) r.0 r.1 in
      let p = place_of r.0.number (In-map (λ (x : graph.Block). x.number) (tabled t) r.0 q.0) in
      let o : In k (outs t.a r.0.number) = subst (In k) (ap targets (block_is r.0 q.0) ∙ targets_are t h r.0.number) (mem→ k (targets r.0) q.1) in
      (p.0, p.1, p.2 ∙ sym r.2, In→count k (outs t.a n) (subst (λ (x : ℕ). In k (outs t.a x)) (sym r.2) o))
