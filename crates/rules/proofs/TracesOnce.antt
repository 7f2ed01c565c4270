-- THEOREM traces_once: each listed block comes into exactly one trace, once. Assumes nothing.
use Prim.Native.Nat.{ℕ, zero, suc, ◌+◌, ◌≤◌, ◌<◌}
use native.Mathlib.Omega.{arith}
use mathlib.Core.Path.{◌≡◌, refl, sym, ap, ◌∙◌, subst}
use mathlib.Core.Bool.{Bool, true, false, not, ◌||◌}
use mathlib.Core.Logic.{◌⊎◌, inl, inr, ⊎_elim}
use mathlib.Core.List.{List, [], ◌∷◌, ◌++◌, map}
use Rattle.std.specs.Prelude.{Option, None, Some}
use lib.Dec.{T, eqb, leb, T_not, not_T, le→leb}
use lib.ListN.{length, take, drop, length-map}
use Rattle.limits.specs.Limits.{blocks}
use Rattle.rules.specs.Lists.{keep, best, last_or, concat, foldl, mem}
use Rattle.rules.specs.Graph.{Arm, Block, Graph, block_at, numbers_of, entry}
use Rattle.rules.specs.PlainOrder.{order}
use Rattle.rules.specs.Weights.{floor}
use Rattle.rules.specs.Rotate.{back_arm, lead_in, cycle, turns, WayOut, worse, ways_out, turned, rotate}
use Rattle.rules.specs.Traces.{round_one, rounds, floor_of, fits, lighter, along, extend, Seed, seed_of, below, startable, next_seed, Traced, no_traces, trace_from, fill, entry_trace, in_round, traces}
use Rattle.rules.proofs.Membership.{In, and_l, and_r, and_i, test, keep→, →keep, mem→, →mem, best_in, best_none, In-map, map-In, append-In, In-left, In-right}
use Rattle.rules.proofs.Counting.{tally, tally_lt, tally_pos, tally_len, tally_append, tally_turn, count, Once, count_zero, In→count, count→In, fresh, concat_append}
use Rattle.rules.proofs.Wholeness.{Whole, block_in, entry_in, arm_target}
use Rattle.rules.proofs.PlainOnce.{plain_once}

-- ---- turning keeps the blocks

cut : (n : ℕ) (l : List ℕ) → lead_in n l ++ cycle n l ≡ l
unfolding lead_in cycle
cut n [] = refl
cut n (x ∷ l) = go (cut n l) (eqb x n)
  where
    go : lead_in n l ++ cycle n l ≡ l → (b : Bool) → (elim b as (λ (c : Bool). List ℕ) [ true ↦ [] | false ↦ x ∷ lead_in n l ]) ++ (elim b as (λ (c : Bool). List ℕ) [ true ↦ x ∷ l | false ↦ cycle n l ]) ≡ x ∷ l
    go ih true = refl
    go ih false = ap (λ (r : List ℕ). x ∷ r) ih

turn_same : (q : ℕ → Bool) (g : Graph) (liked : ℕ → Bool) (part : List ℕ) → tally q (turned g liked part) ≡ tally q part
unfolding turned
turn_same q g liked part = go (best worse None (ways_out g liked part 0 part))
  where
    go : (o : Option WayOut) → tally q (elim o [ None ↦ part | Some e ↦ drop (e.index + 1) part ++ take (e.index + 1) part ]) ≡ tally q part
    go None = refl
    go (Some e) = tally_turn q (e.index + 1) part

rotate_same : (q : ℕ → Bool) (g : Graph) (laid starts trace : List ℕ) → tally q (rotate g laid starts trace) ≡ tally q trace
unfolding rotate
rotate_same q g laid starts trace = go (back_arm (block_at g (last_or blocks trace)))
  where
    liked : ℕ → Bool
    liked n = not (mem n laid) || mem n starts

    whole : Arm → List ℕ
    whole a = lead_in a.to trace ++ turned g liked (cycle a.to trace)

    step : (a : Arm) (b : Bool) → tally q (elim b as (λ (c : Bool). List ℕ) [ false ↦ trace | true ↦ whole a ]) ≡ tally q trace
    step a false = refl
    step a true = omega (
      arith,
      tally_append q (lead_in a.to trace) (turned g liked (cycle a.to trace)),
      turn_same q g liked (cycle a.to trace),
      tally_append q (lead_in a.to trace) (cycle a.to trace),
      ap (tally q) (cut a.to trace),
    )

    go : (o : Option Arm) → tally q (elim o as (λ (c : Option Arm). List ℕ) [ None ↦ trace | Some a ↦ elim (turns g (last_or blocks trace) a trace) as (λ (c : Bool). List ℕ) [ false ↦ trace | true ↦ whole a ] ]) ≡ tally q trace
    go None = refl
    go (Some a) = step a (turns g (last_or blocks trace) a trace)

-- ---- a trace

module _ (g : Graph) (w : Whole g) (likely low : ℕ) where
  fits_new : (laid : List ℕ) (b : Block) (a : Arm) → T (fits g laid likely low b a) → T (not (mem a.to laid))
  unfolding fits
  fits_new laid b a t = search (and_l, and_r)

  pub along_ok : (laid : List ℕ) (b : Block) (a : Arm) → along g laid likely low b ≡ Some a → In a b.arms × T (not (mem a.to laid))
  unfolding along
  along_ok laid b a e = ⊎_elim (λ q. absurd (let z : ◌≡◌ {A = ℕ} 0 1 = cc in omega arith)) (λ i. let r = keep→ (fits g laid likely low b) b.arms a i in (r.0, fits_new laid b a r.1))
      (best_in lighter None (keep (fits g laid likely low b) b.arms) a e)

  pub record Grown (laid : List ℕ) (n : ℕ) (t : List ℕ) : Type 0 where
    pub once : Once (t ++ laid)
    pub sub : (m : ℕ) → In m t → In m (numbers_of g)
    pub starts : In n t

  extend_ok : (k : ℕ) (laid : List ℕ) (n : ℕ) → In n (numbers_of g) → Once (n ∷ laid) → Grown laid n (extend g likely low k laid n)
  unfolding extend count tally
  extend_ok zero laid n j o = record { once = o; sub = λ m i. ⊎_elim (λ e. subst (λ (x : ℕ). In x (numbers_of g)) (sym e) j) (λ f. absurd f) i; starts = inl refl }
  extend_ok (suc k) laid n j o = go (λ m. extend_ok k (n ∷ laid) m) (along g (n ∷ laid) likely low (block_at g n)) refl
    where
      go : ((m : ℕ) → In m (numbers_of g) → Once (m ∷ n ∷ laid) → Grown (n ∷ laid) m (extend g likely low k (n ∷ laid) m)) → (p : Option Arm) → along g (n ∷ laid) likely low (block_at g n) ≡ p →
          Grown laid n (elim p [ None ↦ n ∷ [] | Some a ↦ n ∷ extend g likely low k (n ∷ laid) a.to ])
      go ih None e = record { once = o; sub = λ m i. ⊎_elim (λ e. subst (λ (x : ℕ). In x (numbers_of g)) (sym e) j) (λ f. absurd f) i; starts = inl refl }
      go ih (Some a) e =
          let r = along_ok (n ∷ laid) (block_at g n) a e in
          let u = ih a.to (w (block_at g n) (block_in g n j).0 a.to (arm_target (block_at g n) a r.0)) (fresh a.to (n ∷ laid) o r.1) in
          record {
            once = λ m. omega (arith, u.once m, tally_append (λ (x : ℕ). eqb x m) (extend g likely low k (n ∷ laid) a.to) (n ∷ laid), tally_append (λ (x : ℕ). eqb x m) (extend g likely low k (n ∷ laid) a.to) laid);
            sub = λ m i. ⊎_elim (λ e. subst (λ (x : ℕ). In x (numbers_of g)) (sym e) j) (u.sub m) i;
            starts = inl refl;
          }

module _ (g : Graph) (w : Whole g) (d : Once (numbers_of g)) where
  pub record Good (s : Traced) : Type 0 where
    pub once : Once s.laid
    pub sub : (m : ℕ) → In m s.laid → In m (numbers_of g)
    pub even : (m : ℕ) → count m (concat s.found) ≡ count m s.laid

  unfoldable pub left : Traced → ℕ
  left s = tally (λ (b : ℕ). not (mem b s.laid)) (numbers_of g)

  pub record Better (s t : Traced) : Type 0 where
    pub good : Good t
    pub less : left t < left s

  pub grow_ok : (likely low : ℕ) (s : Traced) (n : ℕ) → In n (numbers_of g) → T (not (mem n s.laid)) → Good s → Better s (trace_from g likely low s n)
  unfolding trace_from count left concat tally
  grow_ok likely low s n j f h = record {
    good = record {
      once = u.once;
      sub = λ m i. ⊎_elim (u.sub m) (h.sub m) (append-In m t s.laid i);
      even = λ m. omega (arith, concat_append (λ (x : ℕ). eqb x m) s.found (r ∷ []), tally_append (λ (x : ℕ). eqb x m) t s.laid, h.even m, rotate_same (λ (x : ℕ). eqb x m) g (t ++ s.laid) s.starts t, lone m);
    };
    less = tally_lt (λ (b : ℕ). not (mem b (t ++ s.laid))) (λ (b : ℕ). not (mem b s.laid)) (numbers_of g)
        (λ x i q. not_T (mem x s.laid) (λ z. T_not (mem x (t ++ s.laid)) q (→mem x (t ++ s.laid) (In-right x t s.laid (mem→ x s.laid z)))))
        n j (not_T (not (mem n (t ++ s.laid))) (λ q. T_not (mem n (t ++ s.laid)) q (→mem n (t ++ s.laid) (In-left n t s.laid u.starts)))) f;
  }
    where
      t : List ℕ
      t = extend g likely low (length g) s.laid n

      r : List ℕ
      r = rotate g (t ++ s.laid) s.starts t

      u : Grown g w likely low s.laid n t
      u = extend_ok g w likely low (length g) s.laid n j (fresh n s.laid h.once f)

      lone : (m : ℕ) → count m (concat (r ∷ [])) ≡ count m r
      lone m = tally_append (λ (x : ℕ). eqb x m) r [] ∙ omega arith

  -- what the start rule picks is listed, of the order, not laid
  pub seed_ok : (o : List ℕ) (laid : List ℕ) (low : ℕ) (e : Seed) → next_seed g o laid low ≡ Some e → In e.block o × T (not (mem e.block laid))
  unfolding next_seed seed_of startable
  seed_ok o laid low e q = ⊎_elim (λ z. absurd (let y : ◌≡◌ {A = ℕ} 0 1 = cc in omega arith)) (λ i.
      let r = map-In (seed_of g laid) (keep (startable g laid low) o) e i in
      let k = keep→ (startable g laid low) o r.0 r.1 in
      let same : e.block ≡ r.0 = ap (λ (x : Seed). x.block) r.2 in
      (subst (λ (x : ℕ). In x o) (sym same) k.0, subst (λ (x : ℕ). T (not (mem x laid))) (sym same) (and_l (not (mem r.0 laid)) (leb low (block_at g r.0).weight) k.1)))
      (best_in below None (map (seed_of g laid) (keep (startable g laid low) o)) e q)

  seed_none : (o : List ℕ) (laid : List ℕ) → next_seed g o laid 0 ≡ None → (n : ℕ) → In n o → T (mem n laid)
  unfolding next_seed startable
  seed_none o laid q n i = ⊎_elim (λ t. t) (λ f. absurd (best_none below (map (seed_of g laid) (keep (startable g laid 0) o)) q (seed_of g laid n)
      (In-map (seed_of g laid) (keep (startable g laid 0) o) n (→keep (startable g laid 0) o n i (and_i (not (mem n laid)) (leb 0 (block_at g n).weight) f (le→leb 0 (block_at g n).weight (omega arith))))))) (test (mem n laid))

  module _ (o : List ℕ) (os : (m : ℕ) → count m o ≡ count m (numbers_of g)) where
    pub fill_ok : (likely low k : ℕ) (s : Traced) → Good s → Good (fill g o likely low k s)
    unfolding fill
    fill_ok likely low zero s h = h
    fill_ok likely low (suc k) s h = go (fill_ok likely low k) (next_seed g o s.laid low) refl
      where
        go : ((t : Traced) → Good t → Good (fill g o likely low k t)) → (e : Option Seed) → next_seed g o s.laid low ≡ e → Good (elim e as (λ (x : Option Seed). Traced) [ None ↦ s | Some e ↦ fill g o likely low k (trace_from g likely low s e.block) ])
        go ih None q = h
        go ih (Some e) q =
            let r = seed_ok o s.laid low e q in
            ih (trace_from g likely low s e.block) (grow_ok likely low s e.block (count→In e.block (numbers_of g) (omega (arith, os e.block, In→count e.block o r.0))) r.1 h).good

    fill_all : (likely k : ℕ) (s : Traced) → Good s → left s ≤ k → (n : ℕ) → In n (numbers_of g) → T (mem n (fill g o likely 0 k s).laid)
    unfolding fill left
    fill_all likely zero s h c n i = ⊎_elim (λ t. t) (λ f. absurd (omega (arith, tally_pos (λ (b : ℕ). not (mem b s.laid)) (numbers_of g) n i f))) (test (mem n s.laid))
    fill_all likely (suc k) s h c n i = go (fill_all likely k) (next_seed g o s.laid 0) refl
      where
        go : ((t : Traced) → Good t → left t ≤ k → (n : ℕ) → In n (numbers_of g) → T (mem n (fill g o likely 0 k t).laid)) → (e : Option Seed) → next_seed g o s.laid 0 ≡ e →
            T (mem n (elim e as (λ (x : Option Seed). Traced) [ None ↦ s | Some e ↦ fill g o likely 0 k (trace_from g likely 0 s e.block) ]).laid)
        go ih None q = seed_none o s.laid q n (count→In n o (omega (arith, os n, In→count n (numbers_of g) i)))
        go ih (Some e) q =
            let r = seed_ok o s.laid 0 e q in
            let b = grow_ok likely 0 s e.block (count→In e.block (numbers_of g) (omega (arith, os e.block, In→count e.block o r.0))) r.1 h in
            ih (trace_from g likely 0 s e.block) b.good (omega (arith, b.less)) n i

  none_good : Good no_traces
  unfolding no_traces count tally concat
  none_good = record { once = λ m. omega arith; sub = λ m i. absurd i; even = λ m. refl }

  pub entry_good : Good (entry_trace g)
  unfolding entry_trace no_traces
  entry_good = go (entry g) refl
    where
      low : ℕ
      low = floor_of g round_one.often

      go : (e : Option ℕ) → entry g ≡ e → Good (elim e as (λ (x : Option ℕ). Traced) [ None ↦ no_traces | Some e ↦ trace_from g round_one.likely low no_traces e ])
      go None q = none_good
      go (Some e) q = (grow_ok round_one.likely low no_traces e (entry_in g e q) tt none_good).good

  -- the last round asks for nothing
  no_floor : floor_of g 0 ≡ 0
  unfolding floor_of floor
  no_floor = omega arith

  pub traces_once : (m : ℕ) → count m (concat (traces g)) ≡ count m (numbers_of g)
  unfolding traces rounds foldl in_round left numbers_of
  traces_once m = go (test (mem m z.laid))
    where
      o : List ℕ
      o = order g

      os : (m : ℕ) → count m o ≡ count m (numbers_of g)
      os = plain_once g w d

      c : Traced
      c = fill g o 1000 (floor_of g 500) (length g) (fill g o 2000 (floor_of g 2000) (length g) (fill g o 4000 (floor_of g 5000) (length g) (entry_trace g)))

      cg : Good c
      cg = fill_ok o os 1000 (floor_of g 500) (length g) _ (fill_ok o os 2000 (floor_of g 2000) (length g) _ (fill_ok o os 4000 (floor_of g 5000) (length g) (entry_trace g) entry_good))

      z : Traced
      z = fill g o 0 (floor_of g 0) (length g) c

      zg : Good z
      zg = fill_ok o os 0 (floor_of g 0) (length g) c cg

      size : length (numbers_of g) ≡ length g
      size = length-map g (λ (b : Block). b.number)

      all_laid : (n : ℕ) → In n (numbers_of g) → T (mem n z.laid)
      all_laid n i =
          subst (λ (low : ℕ). T (mem n (fill g o 0 low (length g) c).laid)) (sym no_floor)
          (fill_all o os 0 (length g) c cg (omega (arith, size, tally_len (λ (b : ℕ). not (mem b c.laid)) (numbers_of g))) n i)

      go : T (mem m z.laid) ⊎ T (not (mem m z.laid)) → count m (concat z.found) ≡ count m (numbers_of g)
      go (inl t) = omega (arith, zg.even m, zg.once m, d m, In→count m z.laid (mem→ m z.laid t), In→count m (numbers_of g) (zg.sub m (mem→ m z.laid t)))
      go (inr f) = ⊎_elim (λ i. absurd (T_not (mem m z.laid) f (all_laid m (mem→ m (numbers_of g) i))))
          (λ e. omega (arith, zg.even m, count_zero m z.laid f, count_zero m (numbers_of g) e)) (test (mem m (numbers_of g)))
