-- THEOREM join_once: joining the traces keeps each block once. Assumes nothing.
use Prim.Native.Nat.{ℕ, zero, suc, ◌+◌, ◌≤◌, ◌<◌}
use native.Mathlib.Omega.{arith}
use mathlib.Core.Path.{◌≡◌, refl, sym, ap, ◌∙◌, subst}
use mathlib.Core.Bool.{Bool, true, false, not, ◌&&◌, ◌||◌, cond}
use mathlib.Core.Logic.{◌⊎◌, inl, inr, ⊎_elim}
use mathlib.Core.List.{List, [], ◌∷◌, map, reverse}
use Rattle.std.specs.Prelude.{Option, None, Some}
use lib.Dec.{T, eqb, ltb, T_not, not_T, eqb→eq, eqb_refl, ltb→lt, nltb→le}
use lib.ListN.{length, get_or}
use Rattle.limits.specs.Limits.{blocks}
use Rattle.rules.specs.Lists.{first_or, last_or, concat, mem, range}
use Rattle.rules.specs.Graph.{Arm, Graph, block_at, cold_at, numbers_of}
use Rattle.rules.specs.Traces.{traces}
use Rattle.rules.specs.Join.{Link, looser, starting_at, links, next_trace, follow, connect_from, connect}
use Rattle.rules.proofs.Membership.{In, or_l, test, mem→, best_in}
use Rattle.rules.proofs.Counting.{tally, tally_append, tally_reverse, count, range_once, range_above, Once, count_zero, In→count, fresh, sum_by, perm_sum}
use Rattle.rules.proofs.Wholeness.{Whole}
use Rattle.rules.proofs.TracesOnce.{traces_once}

-- ---- the traces, by index

pieces : (q : ℕ → Bool) (ts : List (List ℕ)) (l : List ℕ) → tally q (concat (map (λ (i : ℕ). get_or ts i []) l)) ≡ sum_by (λ (i : ℕ). tally q (get_or ts i [])) l
unfolding concat sum_by tally
pieces q ts [] = refl
pieces q ts (i ∷ l) = tally_append q (get_or ts i []) (concat (map (λ (i : ℕ). get_or ts i []) l)) ∙ ap (λ (k : ℕ). tally q (get_or ts i []) + k) (pieces q ts l)

sum_shift : (f : ℕ → ℕ) (a n : ℕ) → sum_by f (range (suc a) n) ≡ sum_by (λ (i : ℕ). f (suc i)) (range a n)
unfolding sum_by range
sum_shift f a zero = refl
sum_shift f a (suc n) = ap (λ (k : ℕ). f (suc a) + k) (sum_shift f (suc a) n)

whole : (q : ℕ → Bool) (ts : List (List ℕ)) → tally q (concat ts) ≡ sum_by (λ (i : ℕ). tally q (get_or ts i [])) (range 0 (length ts))
unfolding concat sum_by range tally
whole q [] = refl
whole q (t ∷ ts) = omega (arith, tally_append q t (concat ts), whole q ts, sum_shift (λ (i : ℕ). tally q (get_or (t ∷ ts) i [])) 0 (length ts))

-- ---- the links

start_at_ok : (n i : ℕ) (ts : List (List ℕ)) (k : Link) → starting_at n i ts ≡ Some k → (i ≤ k.index) × (k.index < i + length ts)
unfolding starting_at
start_at_ok n i [] k e = absurd (let z : ◌≡◌ {A = ℕ} 0 1 = cc in omega arith)
start_at_ok n i (t ∷ l) k e = go (start_at_ok n (i + 1) l k) (eqb (first_or blocks t) n) e
  where
    go : (starting_at n (i + 1) l ≡ Some k → (i + 1 ≤ k.index) × (k.index < i + 1 + length l)) → (b : Bool) →
        (elim b as (λ (x : Bool). Option Link) [ true ↦ Some (record { weight = 0; long = length t; index = i }) | false ↦ starting_at n (i + 1) l ]) ≡ Some k → (i ≤ k.index) × (k.index < i + suc (length l))
    go ih true e = let q : i ≡ k.index = ap (λ (o : Option Link). elim o as (λ (x : Option Link). ℕ) [ None ↦ 0 | Some l ↦ l.index ]) e in omega arith
    go ih false e = let r = ih e in omega (arith, r.0, r.1)

module _ (g : Graph) (ts : List (List ℕ)) where
  links_ok : (used : List ℕ) (cold : Bool) (l : List Arm) (e : Link) → In e (links g ts used cold l) → T (not (mem e.index used)) × (e.index < length ts)
  unfolding links
  links_ok used cold [] e i = absurd i
  links_ok used cold (a ∷ l) e i = go (links_ok used cold l e) (starting_at a.to 0 ts) refl i
    where
      R : Type 0
      R = T (not (mem e.index used)) × (e.index < length ts)

      rest : List Link
      rest = links g ts used cold l

      new : Link → Link
      new k = record { weight = a.weight; long = k.long; index = k.index }

      bad : Link → Bool
      bad k = mem k.index used || (cold_at g a.to && not cold) || (not (cold_at g a.to) && cold)

      step : (In e rest → R) → (k : Link) → starting_at a.to 0 ts ≡ Some k → (b : Bool) → bad k ≡ b → In e (cond b rest (new k ∷ rest)) → R
      step ih k q true z j = ih j
      step ih k q false z (inr j) = ih j
      step ih k q false z (inl p) =
          let s : e.index ≡ k.index = ap (λ (x : Link). x.index) p in (
            rw s (not_T (mem k.index used) (λ m. subst T z (or_l (mem k.index used || (cold_at g a.to && not cold)) (not (cold_at g a.to) && cold) (or_l (mem k.index used) (cold_at g a.to && not cold) m)))),
            omega (arith, s, (start_at_ok a.to 0 ts k q).1),
          )

      go : (In e rest → R) → (o : Option Link) → starting_at a.to 0 ts ≡ o → In e (elim o [ None ↦ rest | Some k ↦ cond (bad k) rest (new k ∷ rest) ]) → R
      go ih None q j = ih j
      go ih (Some k) q j = step ih k q (bad k) refl j

  pub next_ok : (used : List ℕ) (i : ℕ) (e : Link) → next_trace g ts used i ≡ Some e → T (not (mem e.index used)) × (e.index < length ts)
  unfolding next_trace
  next_ok used i e q = ⊎_elim (λ z. absurd (let y : ◌≡◌ {A = ℕ} 0 1 = cc in omega arith)) (links_ok used (cold_at g n) (block_at g n).arms e) (best_in looser None (links g ts used (cold_at g n) (block_at g n).arms) e q)
    where
      n : ℕ
      n = last_or blocks (get_or ts i [])

  pub record Used (before now : List ℕ) : Type 0 where
    pub once : Once now
    pub low : (m : ℕ) → In m now → m < length ts
    pub holds : (m : ℕ) → In m before → In m now

  pub follow_ok : (k : ℕ) (used : List ℕ) (i : ℕ) → Once (i ∷ used) → ((m : ℕ) → In m (i ∷ used) → m < length ts) → Used (i ∷ used) (follow g ts k used i)
  unfolding follow
  follow_ok zero used i o b = record { once = o; low = b; holds = λ m j. j }
  follow_ok (suc k) used i o b = go (follow_ok k (i ∷ used)) (next_trace g ts (i ∷ used) i) refl
    where
      go : ((j : ℕ) → Once (j ∷ i ∷ used) → ((m : ℕ) → In m (j ∷ i ∷ used) → m < length ts) → Used (j ∷ i ∷ used) (follow g ts k (i ∷ used) j)) → (e : Option Link) → next_trace g ts (i ∷ used) i ≡ e →
          Used (i ∷ used) (elim e as (λ (x : Option Link). List ℕ) [ None ↦ i ∷ used | Some e ↦ follow g ts k (i ∷ used) e.index ])
      go ih None q = record { once = o; low = b; holds = λ m j. j }
      go ih (Some e) q =
          let r = next_ok (i ∷ used) i e q in
          let u = ih e.index (fresh e.index (i ∷ used) o r.0) (λ m j. ⊎_elim (λ p. subst (λ (x : ℕ). x < length ts) (sym p) r.1) (b m) j) in
          record { once = u.once; low = u.low; holds = λ m j. u.holds m (inr j) }

  join_from_ok : (used : List ℕ) (i : ℕ) (l : List (List ℕ)) → i + length l ≡ length ts → Once used → ((m : ℕ) → In m used → m < length ts) → ((m : ℕ) → m < i → In m used) →
      Used used (connect_from g ts used i l) × ((m : ℕ) → m < length ts → In m (connect_from g ts used i l))
  unfolding connect_from
  join_from_ok used i [] s o b a = (record { once = o; low = b; holds = λ m j. j }, λ m h. a m (omega arith))
  join_from_ok used i (t ∷ l) s o b a = go (λ u. join_from_ok u (i + 1) l) (mem i used) refl
    where
      next : Bool → List ℕ
      next c = elim c [ true ↦ used | false ↦ follow g ts (length ts) used i ]

      goal : List ℕ → Type 0
      goal v = Used used v × ((m : ℕ) → m < length ts → In m v)

      go : ((u : List ℕ) → i + 1 + length l ≡ length ts → Once u → ((m : ℕ) → In m u → m < length ts) → ((m : ℕ) → m < i + 1 → In m u) → Used u (connect_from g ts u (i + 1) l) × ((m : ℕ) → m < length ts → In m (connect_from g ts u (i + 1) l))) →
          (c : Bool) → mem i used ≡ c → goal (connect_from g ts (next c) (i + 1) l)
      go ih true q = ih used (omega arith) o b (λ m h. ⊎_elim (λ t. mem→ m used t) (λ f. let ne : m ≡ i → ⊥ = λ e. T_not (mem m used) f (rw (e, q) tt) in a m (omega (arith, ne))) (test (mem m used)))
      go ih false q =
          let u = follow_ok (length ts) used i (fresh i used o (rw q tt)) (λ m j. ⊎_elim (λ p. omega arith) (b m) j) in
          let r = ih (follow g ts (length ts) used i) (omega arith) u.once u.low
          (λ m h. ⊎_elim (λ t. u.holds m (inl (eqb→eq m i t))) (λ f. let ne : m ≡ i → ⊥ = λ e. T_not (eqb m i) f (subst (λ (x : ℕ). T (eqb m x)) e (eqb_refl m)) in u.holds m (inr (a m (omega (arith, ne))))) (test (eqb m i))) in
          (record { once = r.0.once; low = r.0.low; holds = λ m j. r.0.holds m (u.holds m (inr j)) }, r.1)

  pub join_once : (m : ℕ) → count m (connect g ts) ≡ count m (concat ts)
  unfolding connect count tally
  join_once m = pieces q ts (reverse r) ∙ perm_sum (λ (i : ℕ). tally q (get_or ts i [])) (reverse r) (range 0 (length ts)) same ∙ sym (whole q ts)
    where
      q : ℕ → Bool
      q x = eqb x m

      r : List ℕ
      r = connect_from g ts [] 0 ts

      ok : Used [] r × ((m : ℕ) → m < length ts → In m r)
      ok = join_from_ok [] 0 ts (omega arith) (λ k. omega arith) (λ k i. absurd i) (λ k h. absurd (omega arith))

      same : (k : ℕ) → count k (reverse r) ≡ count k (range 0 (length ts))
      same k = tally_reverse (λ (x : ℕ). eqb x k) r ∙ go (test (ltb k (length ts)))
        where
          go : T (ltb k (length ts)) ⊎ T (not (ltb k (length ts))) → count k r ≡ count k (range 0 (length ts))
          go (inl t) = omega (arith, ok.0.once k, In→count k r (ok.1 k (ltb→lt k (length ts) t)), range_once 0 (length ts) k (omega arith) (omega (arith, ltb→lt k (length ts) t)))
          go (inr f) = omega (arith, count_zero k r (not_T (mem k r) (λ t. omega (arith, nltb→le k (length ts) f, ok.0.low k (mem→ k r t)))), range_above 0 (length ts) k (omega (arith, nltb→le k (length ts) f)))

pub joined_once : (g : Graph) → Whole g → Once (numbers_of g) → (m : ℕ) → count m (connect g (traces g)) ≡ count m (numbers_of g)
joined_once g w d m = join_once g (traces g) m ∙ traces_once g w d m
