-- THEOREM bridge_after: a bridge stands directly after the only block with an arm into it. And in the laid graph every arm goes to a
-- laid block. Assumes nothing.
use Prim.Native.Nat.{ℕ, zero, suc, ◌+◌, ◌≤◌, ◌<◌}
use native.Mathlib.Omega.{arith}
use mathlib.Core.Path.{◌≡◌, refl, sym, ap, ap₂, ◌∙◌, subst}
use mathlib.Core.Bool.{Bool, true, false}
use mathlib.Core.Logic.{◌⊎◌, inl, inr, ⊎_elim}
use mathlib.Core.List.{List, [], ◌∷◌, ◌++◌, map}
use lib.Dec.{eqb, not_T}
use lib.ListN.{length, get_or}
use Rattle.limits.specs.Limits.{numbers}
use Rattle.lists.proofs.Choices.{split_lt}
use Rattle.rules.specs.Lists.{mem, range}
use Rattle.rules.specs.Graph.{Arm, Block, Graph, block_at, numbers_of, targets}
use Rattle.rules.specs.Split.{partition}
use Rattle.rules.specs.Exits.{Place, no_arm, set_arm, swapped, bridges, laid_graph}
use Rattle.rules.specs.Laid.{ordered, readied, layout}
use Rattle.rules.proofs.Membership.{In, mem→, map-In}
use Rattle.rules.proofs.Counting.{one, tally, tally_append, count, range_below, range_once, range_above, count_zero, In→count, count→In}
use Rattle.rules.proofs.Wholeness.{Whole, block_in}
use Rattle.rules.proofs.Written.{numbers_in, bridges_in, lay_blocks, lay_bridges, partition_count, places_count}
use Rattle.rules.proofs.Forwarded.{readied_numbers, readied_whole}
use Rattle.rules.proofs.AcceptedGraph.{Sound}
use Rattle.rules.proofs.ListedOnce.{ordered_count, ordered_listed}
use Rattle.rules.proofs.ArmsKept.{Alone, Spanned, Kept, ended, alone, spanned, arms_kept}

abbrev tos : List Arm → List ℕ
tos l = map (λ (a : Arm). a.to) l

-- where the arms of all places go
unfoldable pub targets_in : List Place → List ℕ
unfolding targets
targets_in [] = []
targets_in (p ∷ l) = targets p.block ++ targets_in l

-- ---- one arm set
set_target : (i : ℕ) (a : Arm) (l : List Arm) (c : ℕ) → In c (tos l) → (c ≡ (get_or l i no_arm).to) ⊎ In c (tos (set_arm i a l))
unfolding set_arm
set_target i a [] c j = absurd j
set_target zero a (x ∷ l) c (inl e) = inl e
set_target zero a (x ∷ l) c (inr j) = inr (inr j)
set_target (suc i) a (x ∷ l) c (inl e) = inr (inl e)
set_target (suc i) a (x ∷ l) c (inr j) = ⊎_elim (λ e. inl e) (λ k. inr (inr k)) (set_target i a l c j)

set_count : (i : ℕ) (a : Arm) (l : List Arm) (n : ℕ) → i < length l
    → count n (tos l) + one (eqb a.to n) ≡ count n (tos (set_arm i a l)) + one (eqb (get_or l i no_arm).to n)
unfolding set_arm count tally
set_count i a [] n h = absurd (omega arith)
set_count zero a (x ∷ l) n h = omega arith
set_count (suc i) a (x ∷ l) n h = omega (arith, set_count i a l n (omega arith))

get_in : (i : ℕ) (l : List Arm) → i < length l → In (get_or l i no_arm).to (tos l)
get_in i [] h = absurd (omega arith)
get_in zero (x ∷ l) h = inl refl
get_in (suc i) (x ∷ l) h = inr (get_in i l (omega arith))

set_length : (i : ℕ) (a : Arm) (l : List Arm) → length (set_arm i a l) ≡ length l
unfolding set_arm
set_length i a [] = refl
set_length zero a (x ∷ l) = refl
set_length (suc i) a (x ∷ l) = ap suc (set_length i a l)

swapped_count : (l : List Arm) (n : ℕ) → count n (tos (swapped l)) ≡ count n (tos l)
unfolding swapped count tally
swapped_count [] n = refl
swapped_count (x ∷ []) n = refl
swapped_count (x ∷ y ∷ l) n = omega arith

-- ---- one place more
bridges_no : (p : Place) (l : List Place) → p.is_bridge ≡ false → bridges_in (p ∷ l) ≡ bridges_in l
unfolding bridges_in
bridges_no p l e = rw e

bridges_yes : (p : Place) (l : List Place) → p.is_bridge ≡ true → bridges_in (p ∷ l) ≡ p.block.number ∷ bridges_in l
unfolding bridges_in
bridges_yes p l e = rw e

alone_count : (b : Block) (p : Place) (n : ℕ) → Alone b p → count n (targets p.block) ≡ count n (targets b)
unfolding targets
alone_count b p n a = ⊎_elim (λ e. ap (λ (l : List Arm). count n (tos l)) e) (λ e. ap (λ (l : List Arm). count n (tos l)) e ∙ swapped_count b.arms n) a.arms

module _ (b : Block) (p q : Place) (s : Spanned b p q) where
  abbrev own : Arm
  own = get_or b.arms s.index no_arm

  long : s.index < length p.block.arms
  long =
      let e : length p.block.arms ≡ length b.arms = sym (set_length s.index own p.block.arms) ∙ ap length s.through in
      omega (arith, s.inside, e)

  into_bridge : (get_or p.block.arms s.index no_arm).to ≡ q.block.number
  into_bridge = ap (λ (a : Arm). a.to) s.into

  span_count : (n : ℕ) → count n (targets p.block) + one (eqb own.to n) ≡ count n (targets b) + one (eqb q.block.number n)
  unfolding targets
  span_count n =
      set_count s.index own p.block.arms n long
      ∙ ap₂ (λ (l : List Arm) (k : ℕ). count n (tos l) + one (eqb k n)) s.through into_bridge

  span_targets : (c : ℕ) → In c (targets p.block) → (c ≡ q.block.number) ⊎ In c (targets b)
  unfolding targets
  span_targets c i =
      ⊎_elim (λ e. inl (e ∙ into_bridge)) (λ j. inr (subst (λ (l : List Arm). In c (tos l)) s.through j)) (set_target s.index own p.block.arms c i)

  bridge_target : (c : ℕ) → In c (targets q.block) → In c (targets b)
  unfolding targets
  bridge_target c i =
      ⊎_elim (λ e. subst (λ (x : ℕ). In x (tos b.arms)) (sym e) (get_in s.index b.arms s.inside)) (λ z. absurd z)
      (subst (λ (l : List Arm). In c (tos l)) s.taken i)

  pub span_arm : In q.block.number (targets p.block)
  unfolding targets
  span_arm = subst (λ (x : ℕ). In x (tos p.block.arms)) into_bridge (get_in s.index p.block.arms long)

  bridge_count : (n : ℕ) → count n (targets q.block) ≡ one (eqb own.to n)
  unfolding targets count tally
  bridge_count n = ap (λ (l : List Arm). count n (tos l)) s.taken ∙ omega arith

-- ---- the only arm in

-- the arms of the order's blocks go to numbers below the bridges'
abbrev pub Low : Graph → List ℕ → Type 0
Low g o = (m : ℕ) → In m o → (c : ℕ) → In c (targets (block_at g m)) → c < numbers

none_in : (b : Block) → ((c : ℕ) → In c (targets b) → c < numbers) → (n : ℕ) → numbers ≤ n → count n (targets b) ≡ 0
none_in b h n k = count_zero n (targets b) (not_T (mem n (targets b)) (λ t. omega (arith, k, h n (mem→ n (targets b) t))))

pub kept_into : (g : Graph) (o : List ℕ) (l : List Place) → Kept g o l → Low g o → (n : ℕ) → numbers ≤ n → count n (targets_in l) ≡ count n (bridges_in l)
unfolding targets_in bridges_in count tally
kept_into g o l ended h n k = refl
kept_into g o l (alone m r p t a i) h n k =
    omega (
      arith,
      tally_append (λ (x : ℕ). eqb x n) (targets p.block) (targets_in t),
      alone_count (block_at g m) p n a,
      none_in (block_at g m) (h m (inl refl)) n k,
      kept_into g r t i (λ x j. h x (inr j)) n k,
      ap (count n) (bridges_no p t a.block),
    )
kept_into g o l (spanned m r p q t s i) h n k =
    omega (
      arith,
      tally_append (λ (x : ℕ). eqb x n) (targets p.block) (targets q.block ++ targets_in t),
      tally_append (λ (x : ℕ). eqb x n) (targets q.block) (targets_in t),
      span_count (block_at g m) p q s n,
      bridge_count (block_at g m) p q s n,
      none_in (block_at g m) (h m (inl refl)) n k,
      kept_into g r t i (λ x j. h x (inr j)) n k,
      ap (count n) (bridges_no p (q ∷ t) s.block ∙ bridges_yes q t s.bridge),
    )

-- ---- directly after

-- bridge n stands in the list directly after a block with an arm into it
pub record After (l : List Place) (n : ℕ) : Type 0 where
  pub earlier : List Place
  pub later : List Place
  pub block : Place
  pub bridge : Place
  pub whole : l ≡ earlier ++ block ∷ bridge ∷ later
  pub no_bridge : block.is_bridge ≡ false
  pub is_bridge_lem : bridge.is_bridge ≡ true
  pub number : bridge.block.number ≡ n
  pub arm : In n (targets block.block)

more : (p : Place) (l : List Place) (n : ℕ) → After l n → After (p ∷ l) n
more p l n a =
    record {
      earlier = p ∷ a.earlier;
      later = a.later;
      block = a.block;
      bridge = a.bridge;
      whole = ap (λ (r : List Place). p ∷ r) a.whole;
      no_bridge = a.no_bridge;
      is_bridge_lem = a.is_bridge_lem;
      number = a.number;
      arm = a.arm;
    }

pub kept_after : (g : Graph) (o : List ℕ) (l : List Place) → Kept g o l → (n : ℕ) → In n (bridges_in l) → After l n
unfolding bridges_in
kept_after g o l ended n i = absurd i
kept_after g o l (alone m r p t a k) n i = more p t n (kept_after g r t k n (subst (λ (x : List ℕ). In n x) (bridges_no p t a.block) i))
kept_after g o l (spanned m r p q t s k) n i =
    ⊎_elim
    (λ e.
    record {
      earlier = [];
      later = t;
      block = p;
      bridge = q;
      whole = refl;
      no_bridge = s.block;
      is_bridge_lem = s.bridge;
      number = sym e;
      arm = subst (λ (x : ℕ). In x (targets p.block)) (sym e) (span_arm (block_at g m) p q s);
    })
    (λ j. more p (q ∷ t) n (more q t n (kept_after g r t k n j)))
    (subst (λ (x : List ℕ). In n x) (bridges_no p (q ∷ t) s.block ∙ bridges_yes q t s.bridge) i)

-- ---- every arm of the laid graph
kept_targets : (g : Graph) (o : List ℕ) (l : List Place) → Kept g o l → (x : Place) → In x l → (c : ℕ) → In c (targets x.block)
    → ((m : ℕ) × In m o × In c (targets (block_at g m))) ⊎ In c (bridges_in l)
unfolding bridges_in
kept_targets g o l ended x i c j = absurd i
kept_targets g o l (alone m r p t a k) x (inl e) c j =
    inl (m, inl refl, count→In c (targets (block_at g m)) (omega (arith, alone_count (block_at g m) p c a, In→count c (targets p.block) (subst (λ (y : Place). In c (targets y.block)) e j))))
kept_targets g o l (alone m r p t a k) x (inr i) c j =
    ⊎_elim (λ z. inl (z.0, inr z.1, z.2)) (λ z. inr (subst (λ (y : List ℕ). In c y) (sym (bridges_no p t a.block)) z)) (kept_targets g r t k x i c j)
kept_targets g o l (spanned m r p q t s k) x i c j = go (λ h. kept_targets g r t k x h c j) i
  where
    same : bridges_in (p ∷ q ∷ t) ≡ q.block.number ∷ bridges_in t
    same = bridges_no p (q ∷ t) s.block ∙ bridges_yes q t s.bridge

    R : Type 0
    R = ((n : ℕ) × In n (m ∷ r) × In c (targets (block_at g n))) ⊎ In c (bridges_in (p ∷ q ∷ t))

    go : (In x t → ((n : ℕ) × In n r × In c (targets (block_at g n))) ⊎ In c (bridges_in t)) → In x (p ∷ q ∷ t) → R
    go ih (inl e) =
        ⊎_elim (λ z. inr (subst (λ (y : List ℕ). In c y) (sym same) (inl z))) (λ z. inl (m, inl refl, z))
        (span_targets (block_at g m) p q s c (subst (λ (y : Place). In c (targets y.block)) e j))
    go ih (inr (inl e)) = inl (m, inl refl, bridge_target (block_at g m) p q s c (subst (λ (y : Place). In c (targets y.block)) e j))
    go ih (inr (inr h)) =
        ⊎_elim (λ z. inl (z.0, inr z.1, z.2)) (λ z. inr (subst (λ (y : List ℕ). In c y) (sym same) (inr z))) (ih h)

-- ---- the layout of a sound graph
-- the numbers of the laid graph are those that stand in the places
pub laid_numbers : (l : List Place) → numbers_of (laid_graph l) ≡ numbers_in l
unfolding laid_graph numbers_of numbers_in
laid_numbers [] = refl
laid_numbers (p ∷ l) = ap (λ (k : List ℕ). p.block.number ∷ k) (laid_numbers l)

module _ (g : Graph) (d : Sound g) (f r : Bool) where
  s : Graph
  s = readied f g

  o : List ℕ
  o = ordered r (readied f g)

  order_in : (n : ℕ) → In n (partition s o) → In n (numbers_of s)
  unfolding s o
  order_in n i =
      subst (λ (l : List ℕ). In n l) (sym (readied_numbers f g))
      (count→In n (numbers_of g) (omega (arith, ordered_count g d f r n, partition_count s o n, In→count n (partition s o) i)))

  low : Low s (partition s o)
  unfolding s o
  low n i c j =
      d.low c (subst (λ (l : List ℕ). In c l) (readied_numbers f g) (readied_whole f g d.whole (block_at s n) (block_in s n (order_in n i)).0 c j))

  -- THE THEOREM, both halves
  pub bridge_after : (n : ℕ) → In n (bridges_in (layout f r g)) → After (layout f r g) n
  bridge_after n i = kept_after (readied f g) (partition (readied f g) (ordered r (readied f g))) (layout f r g) (arms_kept f r g) n i

  pub bridge_only : (n : ℕ) → numbers ≤ n → n < numbers + bridges (layout f r g) → count n (targets_in (layout f r g)) ≡ 1
  unfolding layout s o
  bridge_only n h k =
      kept_into s (partition s o) (layout f r g) (arms_kept f r g) low n h
      ∙ ap (count n) (lay_bridges s o)
      ∙ range_once numbers (bridges (layout f r g)) n h k

  pub bridge_few : (n : ℕ) → In n (bridges_in (layout f r g)) → count n (targets_in (layout f r g)) ≤ 1
  unfolding layout s o
  bridge_few n i =
      let k : count n (bridges_in (layout f r g)) ≡ count n (range numbers (bridges (layout f r g))) = ap (count n) (lay_bridges s o) in
      let some_in = In→count n (bridges_in (layout f r g)) i in
      split_lt n numbers (λ h. absurd (omega (arith, k, some_in, range_below numbers (bridges (layout f r g)) n h)))
      (λ h.
      split_lt n (numbers + bridges (layout f r g)) (λ j. omega (arith, bridge_only n h j))
      (λ j. absurd (omega (arith, k, some_in, range_above numbers (bridges (layout f r g)) n j))))

  pub laid_whole : Whole (laid_graph (layout f r g))
  unfolding laid_graph numbers_of numbers_in layout s o
  laid_whole x i c j =
      let q = map-In (λ (p : Place). p.block) (layout f r g) x i in
      let k : In c (numbers_in (layout f r g)) =
      ⊎_elim
      (λ z.
      count→In c (numbers_in (layout f r g))
      (omega (
        arith,
        places_count (layout f r g) c,
        ap (count c) (lay_blocks s o (ordered_listed g d f r)),
        partition_count s o c,
        ordered_count g d f r c,
        In→count c (numbers_of g) (subst (λ (l : List ℕ). In c l) (readied_numbers f g) (readied_whole f g d.whole (block_at s z.0) (block_in s z.0 (order_in z.0 z.1)).0 c z.2)),
      )))
      (λ z. count→In c (numbers_in (layout f r g)) (omega (arith, places_count (layout f r g) c, In→count c (bridges_in (layout f r g)) z)))
      (kept_targets s (partition s o) (layout f r g) (arms_kept f r g) q.0 q.1 c (subst (λ (y : Block). In c (targets y)) q.2 j)) in
      subst (λ (l : List ℕ). In c l) (sym (laid_numbers (layout f r g))) k
