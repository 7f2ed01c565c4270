-- The graph of an accepted file: no number twice, every number below the limit, every arm to a listed block. Assumes nothing.
use Prim.Native.Nat.{ℕ, zero, suc, ◌+◌, ◌/◌, ◌≤◌, ◌<◌}
use native.Mathlib.Omega.{arith}
use mathlib.Core.Path.{◌≡◌, refl, sym, ap, ◌∙◌, subst}
use mathlib.Core.Bool.{Bool, true, false, not, cond, true≢false}
use mathlib.Core.Logic.{◌⊎◌, inl, inr, ⊎_elim}
use mathlib.Core.List.{List, [], ◌∷◌, ◌++◌, map, append-nil}
use lib.Dec.{T, eqb, not_T, eqb→eq, eqb_refl}
use lib.ListN.{length}
use Rattle.limits.specs.Limits.{numbers, size}
use Rattle.rules.specs.declared.Record.{Record}
use Rattle.rules.specs.declared.Record.TheVariants.{Block, Arm, Outside}
use Rattle.rules.specs.Graph as graph
use Rattle.rules.specs.Lists.{mem}
use Rattle.rules.specs.Graph.{Graph, numbers_of, targets}
use Rattle.rules.specs.Records.{record_at, before, records, leaving, arms_of, listing, blocks_of, graph_of}
use Rattle.rules.specs.Refusals.{place_of, record_checks, all_checks, Clear, verdict}
use Rattle.rules.proofs.Membership.{In, test, T→≡, F→≡, mem→, append-In, In-left, In-right, map_append}
use Rattle.rules.proofs.Counting.{one, tally, tally_append, count, Once, count_zero}
use Rattle.rules.proofs.Wholeness.{Whole}
use Rattle.rules.proofs.Layouts.{block_small}
use Rattle.rules.proofs.Verdicts.{clear_parts}
use Rattle.rules.proofs.Listed.{block_clear, arm_clear}
use Rattle.rules.proofs.RoundTrip.{accepted}

abbrev Arms : Type 0
Arms = ℕ → List graph.Arm

numbers_append : (g h : Graph) → numbers_of (g ++ h) ≡ numbers_of g ++ numbers_of h
unfolding numbers_of
numbers_append g h = map_append (λ (b : graph.Block). b.number) g h

-- ---- listed is being of the graph
in_placed : (f : Arms) (l : List Record) (n : ℕ) → In n (numbers_of (blocks_of f l)) → 0 < place_of n l
unfolding blocks_of listing place_of numbers_of
in_placed f [] n i = absurd i
in_placed f (Block number marks end weight ∷ l) n i =
    ⊎_elim (λ j. go (in_placed f l n j) (eqb n number)) (λ j. ⊎_elim (λ e. same (eqb n number) (T→≡ (eqb n number) (subst (λ (k : ℕ). T (eqb n k)) e (eqb_refl n)))) (λ z. absurd z) j)
    (append-In n (numbers_of (blocks_of f l)) (number ∷ []) (subst (λ (k : List ℕ). In n k) (numbers_append (blocks_of f l) (listing f (Block number marks end weight))) i))
  where
    go : 0 < place_of n l → (b : Bool) → 0 < cond b (suc (length l)) (place_of n l)
    go h true = omega arith
    go h false = h

    same : (b : Bool) → b ≡ true → 0 < cond b (suc (length l)) (place_of n l)
    same true e = omega arith
    same false e = absurd (true≢false (sym e))
in_placed f (Arm from to args weight ∷ l) n i = in_placed f l n (subst (λ (k : Graph). In n (numbers_of k)) (append-nil (blocks_of f l)) i)
in_placed f (Outside ∷ l) n i = in_placed f l n (subst (λ (k : Graph). In n (numbers_of k)) (append-nil (blocks_of f l)) i)

placed_in : (f : Arms) (l : List Record) (n : ℕ) → 0 < place_of n l → In n (numbers_of (blocks_of f l))
unfolding blocks_of listing place_of numbers_of
placed_in f [] n h = absurd (omega (arith, h))
placed_in f (Block number marks end weight ∷ l) n h =
    subst (λ (k : List ℕ). In n k) (sym (numbers_append (blocks_of f l) (listing f (Block number marks end weight)))) (go (placed_in f l n) (eqb n number) refl h)
  where
    go : (0 < place_of n l → In n (numbers_of (blocks_of f l))) → (b : Bool) → eqb n number ≡ b → 0 < cond b (suc (length l)) (place_of n l)
        → In n (numbers_of (blocks_of f l) ++ (number ∷ []))
    go ih true e h = In-right n (numbers_of (blocks_of f l)) (number ∷ []) (inl (eqb→eq n number (rw e tt)))
    go ih false e h = In-left n (numbers_of (blocks_of f l)) (number ∷ []) (ih h)
placed_in f (Arm from to args weight ∷ l) n h = subst (λ (k : Graph). In n (numbers_of k)) (sym (append-nil (blocks_of f l))) (placed_in f l n h)
placed_in f (Outside ∷ l) n h = subst (λ (k : Graph). In n (numbers_of k)) (sym (append-nil (blocks_of f l))) (placed_in f l n h)

-- ---- no number twice
once_blocks : (f : Arms) (l : List Record) → Clear (all_checks l) → Once (numbers_of (blocks_of f l))
unfolding blocks_of listing all_checks numbers_of count tally
once_blocks f [] c m = omega arith
once_blocks f (Block number marks end weight ∷ l) c m =
    let k = clear_parts (all_checks l) (record_checks l (Block number marks end weight)) c in
    let new : place_of number l ≡ 0 = (block_clear l number marks end weight k.1).1 in
    let parts : count m (numbers_of (blocks_of f (Block number marks end weight ∷ l))) ≡ count m (numbers_of (blocks_of f l)) + count m (number ∷ []) =
    ap (count m) (numbers_append (blocks_of f l) (listing f (Block number marks end weight))) ∙ tally_append (λ (x : ℕ). eqb x m) (numbers_of (blocks_of f l)) (number ∷ []) in
    go parts (test (eqb number m)) new (once_blocks f l k.0 m)
  where
    had : ℕ
    had = count m (numbers_of (blocks_of f l))

    go : count m (numbers_of (blocks_of f (Block number marks end weight ∷ l))) ≡ had + count m (number ∷ []) → T (eqb number m) ⊎ T (not (eqb number m))
        → place_of number l ≡ 0 → had ≤ 1 → count m (numbers_of (blocks_of f (Block number marks end weight ∷ l))) ≤ 1
    go p (inr q) new h = omega (arith, p, ap one (F→≡ (eqb number m) q), h)
    go p (inl q) new h =
        let none : had ≡ 0 = count_zero m (numbers_of (blocks_of f l)) (not_T (mem m (numbers_of (blocks_of f l)))
        (λ t. let z = in_placed f l number (subst (λ (x : ℕ). In x (numbers_of (blocks_of f l))) (sym (eqb→eq number m q)) (mem→ m (numbers_of (blocks_of f l)) t)) in omega (arith, new, z))) in
        omega (arith, p, ap one (T→≡ (eqb number m) q), none)
once_blocks f (Arm from to args weight ∷ l) c m =
    subst (λ (k : Graph). count m (numbers_of k) ≤ 1) (sym (append-nil (blocks_of f l))) (once_blocks f l (clear_parts (all_checks l) (record_checks l (Arm from to args weight)) c).0 m)
once_blocks f (Outside ∷ l) c m =
    subst (λ (k : Graph). count m (numbers_of k) ≤ 1) (sym (append-nil (blocks_of f l))) (once_blocks f l (clear_parts (all_checks l) (record_checks l Outside) c).0 m)

-- ---- every arm to a listed block
own_arms : (f : Arms) (l : List Record) (x : graph.Block) → In x (blocks_of f l) → x.arms ≡ f x.number
unfolding blocks_of listing
own_arms f [] x i = absurd i
own_arms f (Block number marks end weight ∷ l) x i =
    ⊎_elim (λ j. own_arms f l x j) (λ j. ⊎_elim (λ e. ap (λ (b : graph.Block). b.arms) e ∙ ap (λ (b : graph.Block). f b.number) (sym e)) (λ z. absurd z) j)
    (append-In x (blocks_of f l) (listing f (Block number marks end weight)) i)
own_arms f (Arm from to args weight ∷ l) x i = own_arms f l x (subst (λ (k : Graph). In x k) (append-nil (blocks_of f l)) i)
own_arms f (Outside ∷ l) x i = own_arms f l x (subst (λ (k : Graph). In x k) (append-nil (blocks_of f l)) i)

later_placed : (r : Record) (l : List Record) (n : ℕ) → 0 < place_of n l → 0 < place_of n (r ∷ l)
unfolding place_of
later_placed (Block number marks end weight) l n h = go (eqb n number)
  where
    go : (b : Bool) → 0 < cond b (suc (length l)) (place_of n l)
    go true = omega arith
    go false = h
later_placed (Arm from to args weight) l n h = h
later_placed Outside l n h = h

abbrev tos : List graph.Arm → List ℕ
tos k = map (λ (a : graph.Arm). a.to) k

arms_placed : (l : List Record) → Clear (all_checks l) → (n c : ℕ) → In c (tos (arms_of n l)) → 0 < place_of c l
unfolding arms_of leaving all_checks
arms_placed [] k n c i = absurd i
arms_placed (Block number marks end weight ∷ l) k n c i =
    later_placed (Block number marks end weight) l c
    (arms_placed l (clear_parts (all_checks l) (record_checks l (Block number marks end weight)) k).0 n c (subst (λ (x : List graph.Arm). In c (tos x)) (append-nil (arms_of n l)) i))
arms_placed (Arm from to args weight ∷ l) k n c i =
    later_placed (Arm from to args weight) l c
    (⊎_elim (λ j. arms_placed l p.0 n c j) (λ j. go (eqb n from) j)
    (append-In c (tos (arms_of n l)) (tos (leaving n (Arm from to args weight)))
    (subst (λ (x : List ℕ). In c x) (map_append (λ (a : graph.Arm). a.to) (arms_of n l) (leaving n (Arm from to args weight))) i)))
  where
    p : Clear (all_checks l) × Clear (record_checks l (Arm from to args weight))
    p = clear_parts (all_checks l) (record_checks l (Arm from to args weight)) k

    go : (b : Bool) → In c (tos (cond b (record { to = to; args = args; weight = weight } ∷ []) [])) → 0 < place_of c l
    go true (inl e) = subst (λ (x : ℕ). 0 < place_of x l) (sym e) (arm_clear l from to args weight p.1).to_listed
    go true (inr z) = absurd z
    go false z = absurd z
arms_placed (Outside ∷ l) k n c i =
    later_placed Outside l c
    (arms_placed l (clear_parts (all_checks l) (record_checks l Outside) k).0 n c (subst (λ (x : List graph.Arm). In c (tos x)) (append-nil (arms_of n l)) i))

whole_blocks : (l : List Record) → Clear (all_checks l) → Whole (graph_of l)
unfolding graph_of targets
whole_blocks l k x i c j =
    placed_in (λ n. arms_of n l) l c
    (arms_placed l k x.number c (subst (λ (y : List graph.Arm). In c (tos y)) (own_arms (λ n. arms_of n l) l x i) j))

-- ---- every number below the limit
low_blocks : (f : Arms) (s : List ℕ) (i n : ℕ) → In n (numbers_of (blocks_of f (before s i))) → n < numbers
unfolding before blocks_of listing numbers_of
low_blocks f s zero n j = absurd j
low_blocks f s (suc i) n j = go (low_blocks f s i n) (record_at s i) refl j
  where
    go : (In n (numbers_of (blocks_of f (before s i))) → n < numbers) → (r : Record) → record_at s i ≡ r → In n (numbers_of (blocks_of f (r ∷ before s i))) → n < numbers
    go ih (Block number marks end weight) e j =
        ⊎_elim ih (λ k. ⊎_elim (λ q. subst (λ (x : ℕ). x < numbers) (sym q) (block_small s i number marks end weight e)) (λ z. absurd z) k)
        (append-In n (numbers_of (blocks_of f (before s i))) (number ∷ [])
        (subst (λ (k : List ℕ). In n k) (numbers_append (blocks_of f (before s i)) (listing f (Block number marks end weight))) j))
    go ih (Arm from to args weight) e j = ih (subst (λ (k : Graph). In n (numbers_of k)) (append-nil (blocks_of f (before s i))) j)
    go ih Outside e j = ih (subst (λ (k : Graph). In n (numbers_of k)) (append-nil (blocks_of f (before s i))) j)

-- ---- the graph of an accepted file
pub record Sound (g : Graph) : Type 0 where
  pub whole : Whole g
  pub once : Once (numbers_of g)
  pub low : (n : ℕ) → In n (numbers_of g) → n < numbers

pub accepted_sound : (s : List ℕ) → (verdict s).number ≡ 0 → Sound (graph_of (records s))
unfolding graph_of records
accepted_sound s e =
    let a = accepted s e in
    record {
      whole = whole_blocks (records s) a.clear;
      once = once_blocks (λ n. arms_of n (records s)) (records s) a.clear;
      low = low_blocks (λ n. arms_of n (records s)) s (length s / size);
    }
