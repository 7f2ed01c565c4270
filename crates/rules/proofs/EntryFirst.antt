-- THEOREM entry_first: where there is an entry, it is laid first. Assumes nothing.
use Prim.Native.Nat.{ℕ, zero, suc, ◌+◌}
use native.Mathlib.Omega.{arith}
use mathlib.Core.Path.{◌≡◌, refl, sym, ap, ◌∙◌, subst}
use mathlib.Core.Bool.{Bool, true, false, not, ◌&&◌, ◌||◌, cond, true≢false}
use mathlib.Core.Logic.{inl}
use mathlib.Core.List.{List, [], ◌∷◌, ◌++◌, map, reverse, reverse-cons, append_assoc}
use Rattle.std.specs.Prelude.{Option, None, Some}
use lib.Dec.{T, eqb}
use lib.ListN.{length, get_or}
use Rattle.limits.specs.Limits.{blocks}
use Rattle.rules.specs.Lists.{keep, any, last_or, concat, foldl, mem}
use Rattle.rules.specs.Graph.{Arm, Block, Graph, is_cold, is_walking, block_at, cold_at, numbers_of, entry, names}
use Rattle.rules.specs.Spread.{warm_entry}
use Rattle.rules.specs.PlainOrder.{Walk, visit, order}
use Rattle.rules.specs.Weights.{over_four_fifths}
use Rattle.rules.specs.Rotate.{back_arm, lead_in, cycle, turns, turned, rotate}
use Rattle.rules.specs.Traces.{Round, round_one, rounds, floor_of, along, extend, Seed, next_seed, Traced, no_traces, trace_from, fill, entry_trace, in_round, traces}
use Rattle.rules.specs.Join.{Link, next_trace, follow, connect_from, connect}
use Rattle.rules.specs.Split.{splits, warm_part, cold_part, partition}
use Rattle.rules.specs.Exits.{Place}
use Rattle.rules.specs.Laid.{ordered, readied, layout}
use Rattle.rules.proofs.Membership.{and_l, and_r, T→≡, F→≡}
use Rattle.rules.proofs.Counting.{In→count, count→In}
use Rattle.rules.proofs.Wholeness.{Listed}
use Rattle.rules.proofs.Written.{partition_count}
use Rattle.rules.proofs.Forwarded.{readied_entry}
use Rattle.rules.proofs.AcceptedGraph.{Sound}
use Rattle.rules.proofs.ListedOnce.{ordered_listed}
use Rattle.rules.proofs.ArmsKept.{Kept, ended, alone, spanned, arms_kept}

-- the list begins with n
abbrev pub Begins : ℕ → List ℕ → Type 0
Begins n [] = ⊥
Begins n (x ∷ l) = x ≡ n

begins_append : (n : ℕ) (s t : List ℕ) → Begins n s → Begins n (s ++ t)
begins_append n [] t h = absurd h
begins_append n (x ∷ s) t h = h

-- ---- the plain order
pub plain_first : (g : Graph) (e : ℕ) → entry g ≡ Some e → Begins e (order g)
unfolding order visit mem any entry
plain_first [] e q = absurd (let z : ◌≡◌ {A = ℕ} 0 1 = cc in omega arith)
plain_first (b ∷ g) e q = subst (λ (o : Option ℕ). Begins e (from o)) (sym q) (begins_append e walk.done rest refl)
  where
    h : Graph
    h = b ∷ g

    start : Walk
    start = record { seen = []; done = [] }

    walk : Walk
    walk = visit h (length h) start e

    rest : List ℕ
    rest = keep (λ (n : ℕ). not (mem n walk.seen)) (numbers_of h)

    from : Option ℕ → List ℕ
    from o = elim o as (λ (x : Option ℕ). List ℕ) [
      | None ↦ numbers_of h
      | Some e ↦
          let w = visit h (length h) start e in
          w.done ++ keep (λ (n : ℕ). not (mem n w.seen)) (numbers_of h)
    ]

-- ---- the first trace
extended_first : (g : Graph) (likely low k : ℕ) (laid : List ℕ) (n : ℕ) → Begins n (extend g likely low k laid n)
unfolding extend
extended_first g likely low zero laid n = refl
extended_first g likely low (suc k) laid n = go (along g (n ∷ laid) likely low (block_at g n))
  where
    go : (o : Option Arm) → Begins n (elim o as (λ (x : Option Arm). List ℕ) [ None ↦ n ∷ [] | Some a ↦ n ∷ extend g likely low k (n ∷ laid) a.to ])
    go None = refl
    go (Some a) = refl

-- what is before another block of the trace begins as the trace does
lead_first : (n m : ℕ) (t : List ℕ) → Begins n t → T (not (eqb n m)) → Begins n (lead_in m t)
unfolding lead_in
lead_first n m [] h f = h
lead_first n m (x ∷ l) h f = go (eqb x m) (ap (λ (y : ℕ). eqb y m) h ∙ F→≡ (eqb n m) f)
  where
    go : (b : Bool) → b ≡ false → Begins n (elim b as (λ (c : Bool). List ℕ) [ true ↦ [] | false ↦ x ∷ lead_in m l ])
    go true e = absurd (true≢false e)
    go false e = h

turn_target : (g : Graph) (last : ℕ) (a : Arm) (t : List ℕ) → T (turns g last a t) → T (not (names (entry g) a.to))
unfolding turns
turn_target g last a t y =
    let p = mem a.to t && not (eqb a.to last) in
    let n = not (names (entry g) a.to) in
    let v = over_four_fifths a.weight (block_at g a.to).weight in
    let w = not (any (λ (n : ℕ). is_walking (block_at g n).marks) (cycle a.to t)) in
    and_r p n (and_l (p && n) v (and_l (p && n && v) w y))

other_block : (e m : ℕ) → T (not (names (Some e) m)) → T (not (eqb e m))
unfolding names
other_block e m t = t

-- a trace from the entry is not turned at the entry
rotated_first : (g : Graph) (e : ℕ) → entry g ≡ Some e → (laid starts t : List ℕ) → Begins e t → Begins e (rotate g laid starts t)
unfolding rotate
rotated_first g e q laid starts t h = go (back_arm (block_at g (last_or blocks t)))
  where
    liked : ℕ → Bool
    liked n = not (mem n laid) || mem n starts

    whole : Arm → List ℕ
    whole a = lead_in a.to t ++ turned g liked (cycle a.to t)

    not_entry : (a : Arm) → T (turns g (last_or blocks t) a t) → T (not (names (entry g) a.to))
    not_entry a y = turn_target g (last_or blocks t) a t y

    step : (a : Arm) (b : Bool) → turns g (last_or blocks t) a t ≡ b → Begins e (elim b as (λ (c : Bool). List ℕ) [ false ↦ t | true ↦ whole a ])
    step a false z = h
    step a true z =
        begins_append e (lead_in a.to t) (turned g liked (cycle a.to t))
        (lead_first e a.to t h (other_block e a.to (subst (λ (o : Option ℕ). T (not (names o a.to))) q (not_entry a (rw z tt)))))

    go : (o : Option Arm) → Begins e (elim o as (λ (c : Option Arm). List ℕ) [ None ↦ t | Some a ↦ elim (turns g (last_or blocks t) a t) as (λ (c : Bool). List ℕ) [ false ↦ t | true ↦ whole a ] ])
    go None = h
    go (Some a) = step a (turns g (last_or blocks t) a t) refl

-- ---- the first of the traces found
abbrev pub BeginsAll : ℕ → List (List ℕ) → Type 0
BeginsAll n [] = ⊥
BeginsAll n (t ∷ l) = Begins n t

more_traces : (n : ℕ) (s t : List (List ℕ)) → BeginsAll n s → BeginsAll n (s ++ t)
more_traces n [] t h = absurd h
more_traces n (x ∷ s) t h = h

fill_first : (g : Graph) (o : List ℕ) (n likely low k : ℕ) (s : Traced) → BeginsAll n s.found → BeginsAll n (fill g o likely low k s).found
unfolding fill trace_from
fill_first g o n likely low zero s h = h
fill_first g o n likely low (suc k) s h = go (fill_first g o n likely low k) (next_seed g o s.laid low)
  where
    go : ((t : Traced) → BeginsAll n t.found → BeginsAll n (fill g o likely low k t).found) → (e : Option Seed)
        → BeginsAll n (elim e as (λ (x : Option Seed). Traced) [ None ↦ s | Some e ↦ fill g o likely low k (trace_from g likely low s e.block) ]).found
    go ih None = h
    go ih (Some e) = ih (trace_from g likely low s e.block) (more_traces n s.found _ h)

rounds_first : (g : Graph) (n : ℕ) (l : List Round) (s : Traced) → BeginsAll n s.found → BeginsAll n (foldl (in_round g) s l).found
unfolding foldl in_round
rounds_first g n [] s h = h
rounds_first g n (r ∷ l) s h = rounds_first g n l (in_round g s r) (fill_first g (order g) n r.likely (floor_of g r.often) (length g) s h)

pub traces_first : (g : Graph) (e : ℕ) → entry g ≡ Some e → BeginsAll e (traces g)
unfolding traces entry_trace trace_from no_traces
traces_first g e q =
    rounds_first g e rounds (entry_trace g)
    (subst (λ (o : Option ℕ). BeginsAll e (from o).found) (sym q) (rotated_first g e q (t ++ []) [] t (extended_first g round_one.likely (floor_of g round_one.often) (length g) [] e)))
  where
    t : List ℕ
    t = extend g round_one.likely (floor_of g round_one.often) (length g) [] e

    from : Option ℕ → Traced
    from o = elim o as (λ (x : Option ℕ). Traced) [ None ↦ no_traces | Some e ↦ trace_from g round_one.likely (floor_of g round_one.often) no_traces e ]

reverse_last : (s : List ℕ) (x : ℕ) → reverse (s ++ (x ∷ [])) ≡ x ∷ reverse s
reverse_last [] x = refl
reverse_last (y ∷ s) x = reverse-cons y (s ++ (x ∷ [])) ∙ ap (λ (l : List ℕ). l ++ (y ∷ [])) (reverse_last s x) ∙ ap (λ (l : List ℕ). x ∷ l) (sym (reverse-cons y s))

-- ---- joined: the traces used end with those used before
record Ends (l used : List ℕ) : Type 0 where
  front : List ℕ
  whole : l ≡ front ++ used

ends_more : (l used : List ℕ) (i : ℕ) → Ends l (i ∷ used) → Ends l used
ends_more l used i e = record { front = e.front ++ (i ∷ []); whole = e.whole ∙ sym (append_assoc e.front (i ∷ []) used) }

ends_past : (l m used : List ℕ) → Ends l m → Ends m used → Ends l used
ends_past l m used a b =
    record { front = a.front ++ b.front; whole = a.whole ∙ ap (λ (k : List ℕ). a.front ++ k) b.whole ∙ sym (append_assoc a.front b.front used) }

follow_ends : (g : Graph) (ts : List (List ℕ)) (k : ℕ) (used : List ℕ) (i : ℕ) → Ends (follow g ts k used i) (i ∷ used)
unfolding follow
follow_ends g ts zero used i = record { front = []; whole = refl }
follow_ends g ts (suc k) used i = go (λ j. follow_ends g ts k (i ∷ used) j) (next_trace g ts (i ∷ used) i)
  where
    go : ((j : ℕ) → Ends (follow g ts k (i ∷ used) j) (j ∷ i ∷ used)) → (o : Option Link)
        → Ends (elim o as (λ (x : Option Link). List ℕ) [ None ↦ i ∷ used | Some e ↦ follow g ts k (i ∷ used) e.index ]) (i ∷ used)
    go ih None = record { front = []; whole = refl }
    go ih (Some e) = ends_more _ (i ∷ used) e.index (ih e.index)

connect_ends : (g : Graph) (ts : List (List ℕ)) (used : List ℕ) (i : ℕ) (l : List (List ℕ)) → Ends (connect_from g ts used i l) used
unfolding connect_from
connect_ends g ts used i [] = record { front = []; whole = refl }
connect_ends g ts used i (t ∷ l) = go (λ u. connect_ends g ts u (i + 1) l) (mem i used)
  where
    next : Bool → List ℕ
    next c = elim c as (λ (x : Bool). List ℕ) [ true ↦ used | false ↦ follow g ts (length ts) used i ]

    go : ((u : List ℕ) → Ends (connect_from g ts u (i + 1) l) u) → (c : Bool) → Ends (connect_from g ts (next c) (i + 1) l) used
    go ih true = ih used
    go ih false = ends_past _ (follow g ts (length ts) used i) used (ih (follow g ts (length ts) used i)) (ends_more _ used i (follow_ends g ts (length ts) used i))

pub connect_first : (g : Graph) (n : ℕ) (ts : List (List ℕ)) → BeginsAll n ts → Begins n (connect g ts)
unfolding connect concat connect_from mem any
connect_first g n [] h = absurd h
connect_first g n (t ∷ l) h =
    let ts : List (List ℕ) = t ∷ l in
    let u : List ℕ = follow g ts (length ts) [] 0 in
    let e = ends_past (connect_from g ts u 1 l) u (0 ∷ []) (connect_ends g ts u 1 l) (follow_ends g ts (length ts) [] 0) in
    let r : reverse (connect_from g ts u 1 l) ≡ 0 ∷ reverse e.front = ap reverse e.whole ∙ reverse_last e.front 0 in
    subst (λ (k : List ℕ). Begins n (concat (map (λ (i : ℕ). get_or ts i []) k))) (sym r) (begins_append n t _ h)

-- ---- split
part_first : (p : ℕ → Bool) (n : ℕ) (l : List ℕ) → Begins n l → T (p n) → Begins n (keep p l)
unfolding keep
part_first p n [] h t = h
part_first p n (x ∷ l) h t = go (p x) (T→≡ (p x) (subst (λ (y : ℕ). T (p y)) (sym h) t))
  where
    go : (b : Bool) → b ≡ true → Begins n (cond b (x ∷ keep p l) (keep p l))
    go true e = h
    go false e = absurd (true≢false (sym e))

splits_warm : (g : Graph) (e : ℕ) → entry g ≡ Some e → T (splits g) → T (not (cold_at g e))
unfolding splits warm_entry
splits_warm g e q t =
    subst (λ (o : Option ℕ). T (elim o as (λ (x : Option ℕ). Bool) [ None ↦ false | Some e ↦ not (cold_at g e) ])) q
    (and_l (warm_entry g) (any (λ (b : Block). is_cold b.marks) g) t)

pub partition_first : (g : Graph) (e : ℕ) → entry g ≡ Some e → (o : List ℕ) → Begins e o → Begins e (partition g o)
unfolding partition warm_part
partition_first g e q o h = go (splits g) refl
  where
    go : (b : Bool) → splits g ≡ b → Begins e (elim b as (λ (x : Bool). List ℕ) [ false ↦ o | true ↦ warm_part g o ++ cold_part g o ])
    go false z = h
    go true z = begins_append e (warm_part g o) (cold_part g o) (part_first (λ (n : ℕ). not (cold_at g n)) e o h (splits_warm g e q (rw z tt)))

-- ---- laid
abbrev pub BeginsPlace : ℕ → List Place → Type 0
BeginsPlace n [] = ⊥
BeginsPlace n (p ∷ l) = p.block.number ≡ n

kept_first : (g : Graph) (e : ℕ) (o : List ℕ) (l : List Place) → Kept g o l → Listed g o → Begins e o → BeginsPlace e l
kept_first g e o l ended d h = absurd h
kept_first g e o l (alone n r p t a k) d h = a.number ∙ d n (inl refl) ∙ h
kept_first g e o l (spanned n r p q t s k) d h = s.number ∙ d n (inl refl) ∙ h

-- THE THEOREM
pub entry_first : (g : Graph) → Sound g → (f r : Bool) (e : ℕ) → entry g ≡ Some e → BeginsPlace e (layout f r g)
unfolding ordered
entry_first g d f r e z =
    kept_first (readied f g) e (partition (readied f g) (ordered r (readied f g))) (layout f r g) (arms_kept f r g)
    (λ n i.
    ordered_listed g d f r n
    (count→In n (ordered r (readied f g)) (omega (arith, partition_count (readied f g) (ordered r (readied f g)) n, In→count n (partition (readied f g) (ordered r (readied f g))) i))))
    (partition_first (readied f g) e q (ordered r (readied f g)) (go r))
  where
    q : entry (readied f g) ≡ Some e
    q = readied_entry f g ∙ z

    go : (r : Bool) → Begins e (ordered r (readied f g))
    go true = connect_first (readied f g) e (traces (readied f g)) (traces_first (readied f g) e q)
    go false = plain_first (readied f g) e q
