-- Tables that stand for a graph: what the code marks by them is what the rules call a head. Assumes nothing.
use Prim.Native.Nat.{ℕ, zero, suc, ◌+◌, ◌≤◌, ◌<◌, ◌/◌, max}
use native.Mathlib.Nat.{add-zero, add-suc, suc-add}
use native.Mathlib.Numerals.{add-one}
use native.Mathlib.Omega.{arith}
use mathlib.Core.Path.{◌≡◌, refl, sym, ap, ◌∙◌, subst}
use mathlib.Core.Bool.{Bool, ◌&&◌}
use mathlib.Core.Logic.{inl, inr, ⊎_elim}
use mathlib.Core.List.{List, [], ◌∷◌, ◌++◌, map}
use lib.Dec.{T, eqb, leb, eqb→eq, leb→le, le→leb, eqb_refl}
use lib.ListN.{length, get_or, drop, get_or-append}
use lib.Seq.{get_or-append_seam}
use Rattle.lists.proofs.Choices.{split_lt, same_test}
use Rattle.marks.specs.Sets.{member}
use Rattle.rules.specs.Lists.{foldl}
use Rattle.rules.specs.Graph as graph
use Rattle.rules.specs.Graph.{no_block, numbers_of, targets}
use Rattle.rules.specs.Heads.{hottest, head_floor, head_at}
use Rattle.rules.proofs.Membership.{In, and_l, and_r, and_i, or_cases, or_l, or_r}
use Rattle.rules.proofs.Chains.{Chain, here, then}
use Rattle.rules.proofs.Classes.{classes}
use Rattle.rules.proofs.HeadsExact.{Head, heads_exact}
use Rattle.records.specs.declared.Blocks.{Blocks}
use Rattle.records.specs.declared.Arms.{Arms}
use Rattle.records.specs.declared.Graph.{Graph}
use Rattle.records.specs.Tables.{arm_at, arms_from, leaves, block_at, up_to, tabled}
use Rattle.records.proofs.TableLaws.{up_to_length}
use Rattle.records.proofs.StandLaws.{listed_in}
use Rattle.cycles.specs.Pieces.{PiecesOf}
use Rattle.cycles.proofs.InwardLaws.{Arm}
use Rattle.walks.specs.Walking.{Fitting}
use Rattle.heads.specs.Heading.{behind, arms_back, back_to, heads, head_to}

-- ---- what the marks mean
-- block m is entered from behind by the block at `place`
record From (t : Graph) (piece : List ℕ) (n m : ℕ) : Type 0 where
  place : ℕ
  within : place < n
  arm : Arm t.a.to (get_or t.a.first (get_or t.b.listed place 0) 0) (get_or t.a.count (get_or t.b.listed place 0) 0) m
  back : T (behind t.b.place piece (get_or t.b.listed place 0) (suc place) m)

module _ (t : Graph) (piece : List ℕ) where
  module _ (i : ℕ) where
    abbrev c : ℕ
    c = get_or t.b.listed i 0

    abbrev goes_to : ℕ → ℕ → Bool
    goes_to n m = eqb m (get_or t.a.to (get_or t.a.first c 0 + n) 0)

    arms_back_lem : (n m : ℕ) → T (arms_back t piece i n m) → Arm t.a.to (get_or t.a.first c 0) n m × T (behind t.b.place piece c (suc i) m)
    unfolding arms_back
    arms_back_lem zero m u = absurd u
    arms_back_lem (suc n) m u =
        ⊎_elim (λ v. let a = arms_back_lem n m v in (record { arm = a.0.arm; below = omega (arith, a.0.below); goes = a.0.goes }, a.1))
        (λ v. (record { arm = n; below = omega arith; goes = sym (eqb→eq m (get_or t.a.to (get_or t.a.first c 0 + n) 0) (and_l (goes_to n m) (behind t.b.place piece c (suc i) m) v)) }, and_r (goes_to n m) (behind t.b.place piece c (suc i) m) v))
        (or_cases (arms_back t piece i n m) (goes_to n m && behind t.b.place piece c (suc i) m) u)

    back_arms : (n m : ℕ) → Arm t.a.to (get_or t.a.first c 0) n m → T (behind t.b.place piece c (suc i) m) → T (arms_back t piece i n m)
    unfolding arms_back
    back_arms zero m a u = absurd (omega (arith, a.below))
    back_arms (suc n) m a u =
        split_lt a.arm n
        (λ h. or_l (arms_back t piece i n m) (goes_to n m && behind t.b.place piece c (suc i) m) (back_arms n m (record { arm = a.arm; below = h; goes = a.goes }) u))
        (λ h.
        let e : a.arm ≡ n = omega (arith, h, a.below) in
        let g : get_or t.a.to (get_or t.a.first c 0 + n) 0 ≡ m = ap (λ (k : ℕ). get_or t.a.to (get_or t.a.first c 0 + k) 0) (sym e) ∙ a.goes in
        or_r (arms_back t piece i n m) (goes_to n m && behind t.b.place piece c (suc i) m)
        (and_i (goes_to n m) (behind t.b.place piece c (suc i) m) (subst (λ (k : ℕ). T (eqb m k)) (sym g) (eqb_refl m)) u))

  arms_at : ℕ → ℕ → Bool
  arms_at i m = arms_back t piece i (get_or t.a.count (get_or t.b.listed i 0) 0) m

  back_from : (n m : ℕ) → T (back_to t piece n m) → From t piece n m
  unfolding back_to arms_at
  back_from zero m u = absurd u
  back_from (suc n) m u =
      ⊎_elim (λ v. let a = back_from n m v in record { place = a.place; within = omega (arith, a.within); arm = a.arm; back = a.back })
      (λ v. let a = arms_back_lem n (get_or t.a.count (get_or t.b.listed n 0) 0) m v in record { place = n; within = omega arith; arm = a.0; back = a.1 })
      (or_cases (back_to t piece n m) (arms_at n m) u)

  from_back : (n m : ℕ) → From t piece n m → T (back_to t piece n m)
  unfolding back_to arms_at
  from_back zero m a = absurd (omega (arith, a.within))
  from_back (suc n) m a =
      split_lt a.place n
      (λ h. or_l (back_to t piece n m) (arms_at n m) (from_back n m (record { place = a.place; within = h; arm = a.arm; back = a.back })))
      (λ h.
      let e : a.place ≡ n = omega (arith, h, a.within) in
      or_r (back_to t piece n m) (arms_at n m) (subst (λ (i : ℕ). T (arms_at i m)) e
      (back_arms a.place (get_or t.a.count (get_or t.b.listed a.place 0) 0) m a.arm a.back)))

module _ (listed : List ℕ) (p : ℕ → Bool) where
  head_from : (n m : ℕ) → T (head_to listed p n m) → (i : ℕ) × (i < n) × (1 ≤ i) × (m ≡ get_or listed i 0) × T (p m)
  unfolding head_to
  head_from zero m t = absurd t
  head_from (suc n) m t =
      ⊎_elim (λ u. let a = head_from n m u in (a.0, omega (arith, a.1), a.2, a.3, a.4))
      (λ u.
      let v = and_l (leb 1 n && eqb m (get_or listed n 0)) (p m) u in
      (n, omega arith, leb→le 1 n (and_l (leb 1 n) (eqb m (get_or listed n 0)) v), eqb→eq m (get_or listed n 0) (and_r (leb 1 n) (eqb m (get_or listed n 0)) v), and_r (leb 1 n && eqb m (get_or listed n 0)) (p m) u))
      (or_cases (head_to listed p n m) (leb 1 n && eqb m (get_or listed n 0) && p m) t)

  from_head : (n i m : ℕ) → i < n → 1 ≤ i → m ≡ get_or listed i 0 → T (p m) → T (head_to listed p n m)
  unfolding head_to
  from_head zero i m h k e t = absurd (omega (arith, h))
  from_head (suc n) i m h k e t =
      split_lt i n
      (λ l. or_l (head_to listed p n m) (leb 1 n && eqb m (get_or listed n 0) && p m) (from_head n i m l k e t))
      (λ l.
      let q : i ≡ n = omega (arith, h, l) in
      let e' : m ≡ get_or listed n 0 = e ∙ ap (λ (j : ℕ). get_or listed j 0) q in
      or_r (head_to listed p n m) (leb 1 n && eqb m (get_or listed n 0) && p m)
      (and_i (leb 1 n && eqb m (get_or listed n 0)) (p m) (and_i (leb 1 n) (eqb m (get_or listed n 0)) (le→leb 1 n (omega (arith, k, q))) (subst (λ (j : ℕ). T (eqb m j)) e' (eqb_refl m))) t))

-- ---- the blocks of the graph by place

-- what is left of a list is what stands from there on
drop_at : {A : Type 0} (d : A) (l : List A) (i : ℕ) (x : A) → In x (drop i l) → (j : ℕ) × (i ≤ j) × (j < length l) × (x ≡ get_or l j d)
drop_at d [] zero x k = absurd k
drop_at d [] (suc i) x k = absurd k
drop_at d (y ∷ l) zero x (inl e) = (0, omega arith, omega arith, e)
drop_at d (y ∷ l) zero x (inr k) = let r = drop_at d l zero x k in (suc r.0, omega arith, omega (arith, r.2), r.3)
drop_at d (y ∷ l) (suc i) x k = let r = drop_at d l i x k in (suc r.0, omega (arith, r.1), omega (arith, r.2), r.3)

at_drop : {A : Type 0} (d : A) (l : List A) (i j : ℕ) → i ≤ j → j < length l → In (get_or l j d) (drop i l)
at_drop d [] i j h k = absurd (omega (arith, k))
at_drop d (y ∷ l) zero zero h k = inl refl
at_drop d (y ∷ l) zero (suc j) h k = inr (at_drop d l zero j (omega arith) (omega (arith, k)))
at_drop d (y ∷ l) (suc i) zero h k = absurd (omega (arith, h))
at_drop d (y ∷ l) (suc i) (suc j) h k = at_drop d l i j (omega (arith, h)) (omega (arith, k))

drop_in : {A : Type 0} (l : List A) (i : ℕ) (x : A) → In x (drop i l) → In x l
drop_in [] zero x k = k
drop_in [] (suc i) x k = k
drop_in (y ∷ l) zero x k = k
drop_in (y ∷ l) (suc i) x k = inr (drop_in l i x k)

module _ (b : Blocks) (a : Arms) where
  block_at_lem : (n j : ℕ) → j < n → get_or (up_to b a n) j no_block ≡ block_at b a (get_or b.listed j 0)
  unfolding up_to
  block_at_lem zero j h = absurd (omega (arith, h))
  block_at_lem (suc n) j h =
      split_lt j n
      (λ l. get_or-append (up_to b a n) (block_at b a (get_or b.listed n 0) ∷ []) no_block j (omega (arith, l, up_to_length b a n)) ∙ block_at_lem n j l)
      (λ l.
      let e : length (up_to b a n) ≡ j = omega (arith, h, l, up_to_length b a n) in
      let q : n ≡ j = omega (arith, h, l) in
      subst (λ (k : ℕ). get_or (up_to b a n ++ (block_at b a (get_or b.listed n 0) ∷ [])) k no_block ≡ block_at b a (get_or b.listed n 0)) e (get_or-append_seam (up_to b a n) (block_at b a (get_or b.listed n 0)) [] no_block)
      ∙ ap (λ (k : ℕ). block_at b a (get_or b.listed k 0)) q)

  -- the hottest, with one block more
  pub hot_none : 0 ≡ hottest (up_to b a 0)
  unfolding hottest up_to foldl
  hot_none = refl

  pub hot_more : (n : ℕ) → hottest (up_to b a (n + 1)) ≡ max (hottest (up_to b a n)) (get_or b.weight (get_or b.listed n 0) 0)
  unfolding hottest up_to foldl block_at
  hot_more n = rw add-one (fold_last (up_to b a n) 0 (block_at b a (get_or b.listed n 0)))
    where
      fold_last : (g : graph.Graph) (h : ℕ) (x : graph.Block) → foldl (λ (m : ℕ) (y : graph.Block). max m y.weight) h (g ++ (x ∷ [])) ≡ max (foldl (λ (m : ℕ) (y : graph.Block). max m y.weight) h g) x.weight
      fold_last [] h x = refl
      fold_last (y ∷ g) h x = fold_last g (max h y.weight) x

  -- where the arms of a block go
  arm_in : (n f j : ℕ) → j < n → In (get_or a.to (f + j) 0) (map (λ (x : graph.Arm). x.to) (arms_from a f n))
  unfolding arms_from arm_at
  arm_in zero f j h = absurd (omega (arith, h))
  arm_in (suc n) f zero h = inl (ap (λ (k : ℕ). get_or a.to k 0) (add-zero f))
  arm_in (suc n) f (suc j) h = inr (subst (λ (k : ℕ). In (get_or a.to k 0) (map (λ (x : graph.Arm). x.to) (arms_from a (suc f) n))) (suc-add f j ∙ sym (add-suc f j)) (arm_in n (suc f) j (omega (arith, h))))

  in_arm : (n f y : ℕ) → In y (map (λ (x : graph.Arm). x.to) (arms_from a f n)) → Arm a.to f n y
  unfolding arms_from arm_at
  in_arm zero f y i = absurd i
  in_arm (suc n) f y (inl e) = record { arm = 0; below = omega arith; goes = ap (λ (k : ℕ). get_or a.to k 0) (add-zero f) ∙ sym e }
  in_arm (suc n) f y (inr i) =
      let r = in_arm n (suc f) y i in
      record { arm = suc r.arm; below = omega (arith, r.below); goes = ap (λ (k : ℕ). get_or a.to k 0) (add-suc f r.arm ∙ sym (suc-add f r.arm)) ∙ r.goes }

  target_in : (c y : ℕ) → Arm a.to (get_or a.first c 0) (get_or a.count c 0) y → In y (targets (block_at b a c))
  unfolding targets block_at leaves
  target_in c y r = subst (λ (z : ℕ). In z (map (λ (x : graph.Arm). x.to) (arms_from a (get_or a.first c 0) (get_or a.count c 0)))) r.goes (arm_in (get_or a.count c 0) (get_or a.first c 0) r.arm r.below)

  in_target : (c y : ℕ) → In y (targets (block_at b a c)) → Arm a.to (get_or a.first c 0) (get_or a.count c 0) y
  unfolding targets block_at leaves
  in_target c y i = in_arm (get_or a.count c 0) (get_or a.first c 0) y i

-- ---- the heads

module _ (t : Graph) (s : Fitting t) (piece : List ℕ) (ps : PiecesOf (tabled t) piece) where
  number_in : (i : ℕ) → i < t.blocks → In (get_or t.b.listed i 0) (numbers_of (tabled t))
  unfolding tabled
  number_in i h = listed_in t.b t.a i t.blocks h

  -- no block stands at two places
  place_one : (i j : ℕ) → i < t.blocks → j < t.blocks → get_or t.b.listed i 0 ≡ get_or t.b.listed j 0 → i ≡ j
  place_one i j h k e = omega (arith, sym (s.stands.back i h) ∙ ap (λ (m : ℕ). get_or t.b.place m 0) e ∙ s.stands.back j k)

  module _ (i : ℕ) (h : i < t.blocks) where
    abbrev m : ℕ
    m = get_or t.b.listed i 0

    at_is : get_or (tabled t) i no_block ≡ block_at t.b t.a m
    unfolding tabled
    at_is = block_at_lem t.b t.a t.blocks i h

    long : i < length (tabled t)
    unfolding tabled
    long = omega (arith, h, up_to_length t.b t.a t.blocks)

    block_in : (j : ℕ) → i ≤ j → j < t.blocks → In (block_at t.b t.a (get_or t.b.listed j 0)) (drop i (tabled t))
    unfolding tabled
    block_in j l k =
        subst (λ (x : graph.Block). In x (drop i (up_to t.b t.a t.blocks))) (block_at_lem t.b t.a t.blocks j k)
        (at_drop no_block (up_to t.b t.a t.blocks) i j l (omega (arith, k, up_to_length t.b t.a t.blocks)))

    in_block : (x : graph.Block) → In x (drop i (tabled t)) → (j : ℕ) × (i ≤ j) × (j < t.blocks) × (x ≡ block_at t.b t.a (get_or t.b.listed j 0))
    unfolding tabled
    in_block x k =
        let r = drop_at no_block (up_to t.b t.a t.blocks) i x k in
        let l : r.0 < t.blocks = omega (arith, r.2, up_to_length t.b t.a t.blocks) in
        (r.0, r.1, l, r.3 ∙ block_at_lem t.b t.a t.blocks r.0 l)

    to_head : 1 ≤ i → head_floor (tabled t) ≤ get_or t.b.weight m 0 → From t piece t.blocks m → Head (tabled t) i (block_at t.b t.a m)
    unfolding behind block_at
    to_head l f r =
        let c = get_or t.b.listed r.place 0 in
        let q = and_r (leb (get_or t.b.place m 0) (suc r.place)) (eqb (get_or piece m 0) (get_or piece c 0)) r.back in
        let p = leb→le (get_or t.b.place m 0) (suc r.place) (and_l (leb (get_or t.b.place m 0) (suc r.place)) (eqb (get_or piece m 0) (get_or piece c 0)) r.back) in
        record {
          later = l;
          hot = f;
          tail = block_at t.b t.a c;
          place = block_in r.place (omega (arith, p, s.stands.back i h)) r.within;
          arm = target_in t.b t.a c m r.arm;
          loop = ((classes (tabled t) s.whole m c (number_in i h) (number_in r.place r.within)).0 ((ps.exact m c (number_in i h) (number_in r.place r.within)).0 (eqb→eq (get_or piece m 0) (get_or piece c 0) q))).0;
        }

    from_head_at : Head (tabled t) i (block_at t.b t.a m) → (1 ≤ i) × (head_floor (tabled t) ≤ get_or t.b.weight m 0) × From t piece t.blocks m
    unfolding behind block_at
    from_head_at d =
        let r = in_block d.tail d.place in
        let j = r.0 in
        let c = get_or t.b.listed j 0 in
        let arm : In m (targets (block_at t.b t.a c)) = subst (λ (x : graph.Block). In m (targets x)) r.3 d.arm in
        let number : d.tail.number ≡ c = ap (λ (x : graph.Block). x.number) r.3 in
        let there : Chain (tabled t) m c = subst (Chain (tabled t) m) number d.loop in
        let back : Chain (tabled t) c m = then (here refl) d.tail (drop_in (tabled t) i d.tail d.place) number d.arm in
        let e = (ps.exact m c (number_in i h) (number_in j r.2)).1 ((classes (tabled t) s.whole m c (number_in i h) (number_in j r.2)).1 (there, back)) in (
          d.later,
          d.hot,
          record {
            place = j;
            within = r.2;
            arm = in_target t.b t.a c m arm;
            back = and_i (leb (get_or t.b.place m 0) (suc j)) (eqb (get_or piece m 0) (get_or piece c 0)) (le→leb (get_or t.b.place m 0) (suc j) (omega (arith, r.1, s.stands.back i h))) (subst (λ (z : ℕ). T (eqb (get_or piece m 0) z)) e (eqb_refl (get_or piece m 0)));
          },
        )

  -- THE THEOREM
  module _ (back : List ℕ) (floor : ℕ) (marked : (m : ℕ) → member back m ≡ back_to t piece t.blocks m) (is_floor : floor ≡ hottest (tabled t) / 100) where
    floor_is : head_floor (tabled t) ≡ floor
    unfolding head_floor
    floor_is = sym is_floor

    pub head_exact : (i : ℕ) → i < t.blocks → head_to t.b.listed (heads t.b.weight back floor) t.blocks (get_or t.b.listed i 0) ≡ head_at (tabled t) i
    unfolding heads
    head_exact i h = same_test (head_to t.b.listed (heads t.b.weight back floor) t.blocks (m i h)) (head_at (tabled t) i) to from
      where
        to : T (head_to t.b.listed (heads t.b.weight back floor) t.blocks (m i h)) → T (head_at (tabled t) i)
        to u =
            let r = head_from t.b.listed (heads t.b.weight back floor) t.blocks (m i h) u in
            let e = place_one i r.0 h r.1 r.3 in
            let f = leb→le floor (get_or t.b.weight (m i h) 0) (and_l (leb floor (get_or t.b.weight (m i h) 0)) (member back (m i h)) r.4) in
            let k = and_r (leb floor (get_or t.b.weight (m i h) 0)) (member back (m i h)) r.4 in
            (heads_exact (tabled t) s.whole i (long i h)).1 (subst (Head (tabled t) i) (sym (at_is i h)) (to_head i h (omega (arith, r.2, e)) (omega (arith, f, floor_is)) (back_from t piece t.blocks (m i h) (subst T (marked (m i h)) k))))

        from : T (head_at (tabled t) i) → T (head_to t.b.listed (heads t.b.weight back floor) t.blocks (m i h))
        from u =
            let r = from_head_at i h (subst (Head (tabled t) i) (at_is i h) ((heads_exact (tabled t) s.whole i (long i h)).0 u)) in
            from_head t.b.listed (heads t.b.weight back floor) t.blocks i (m i h) h r.0 refl
            (and_i (leb floor (get_or t.b.weight (m i h) 0)) (member back (m i h)) (le→leb floor (get_or t.b.weight (m i h) 0) (omega (arith, r.1, floor_is))) (subst T (sym (marked (m i h))) (from_back t piece t.blocks (m i h) r.2)))
