-- The heaviest arm in from a laid block, with one block more laid; and the table of them, arm by arm. Assumes nothing.
use Prim.Native.Nat.{ℕ, zero, suc, ◌+◌, ◌≤◌, ◌<◌, max}
use native.Mathlib.Numerals.{add-one}
use native.Mathlib.Omega.{arith}
use mathlib.Core.Path.{◌≡◌, refl, sym, ap, ◌∙◌}
use mathlib.Core.Bool.{Bool, true, false, cond, ◌||◌}
use mathlib.Core.Logic.{inl, inr}
use mathlib.Core.List.{List, [], ◌∷◌, ◌++◌, map}
use lib.Dec.{eqb}
use lib.ListN.{length, get_or, set, replicate}
use borrow.Author.Tests.{eq-eqb, eqb-true}
use Rattle.lists.proofs.Tables.{set_get, zero_get}
use Rattle.rules.specs.Graph as graph
use Rattle.rules.specs.Graph.{numbers_of}
use Rattle.rules.specs.Lists.{any, foldl, mem}
use Rattle.rules.specs.Traces.{heaviest_in}
use Rattle.rules.proofs.Membership.{In}
use Rattle.records.specs.declared.Arms.{Arms}
use Rattle.records.specs.declared.Graph.{Graph}
use Rattle.records.specs.Tables.{arm_at, arms_from, leaves, block_at, tabled, Has, Carried}
use Rattle.records.proofs.StandLaws.{in_tables}
use Rattle.records.proofs.TableLaws.{arms_more}
use Rattle.marks.proofs.SetLaws.{eqb_turn}
use Rattle.flow.specs.Lent.{Of}
use Rattle.flow.proofs.SoundLaws.{block_is, small, arms_are, goes_on, bare, leaves_bare}
use Rattle.seeds.specs.Reached.{Reached, Notes, heaviest, Entries, Noted}

-- ---- by the rules
heaviest_max : (m k : ℕ) (l : List graph.Arm) → heaviest m k l ≡ max k (heaviest m 0 l)
unfolding heaviest foldl
heaviest_max m k [] = omega arith
heaviest_max m k (a ∷ l) = go (λ j. heaviest_max m j l) (eqb a.to m)
  where
    go : ((j : ℕ) → heaviest m j l ≡ max j (heaviest m 0 l)) → (t : Bool) → heaviest m (cond t (max k a.weight) k) l ≡ max k (heaviest m (cond t (max 0 a.weight) 0) l)
    go ih true = omega (arith, ih (max k a.weight), ih (max 0 a.weight))
    go ih false = ih k

module _ (laid : List ℕ) (m : ℕ) where
  -- the heaviest of k and the arms to block m of the laid ones of some blocks
  unfoldable over : ℕ → graph.Graph → ℕ
  over k [] = k
  over k (b ∷ g) = over (cond (mem b.number laid) (heaviest m k b.arms) k) g

  over_max : (k : ℕ) (g : graph.Graph) → over k g ≡ max k (over 0 g)
  unfolding over
  over_max k [] = omega arith
  over_max k (b ∷ g) = go (λ j. over_max j g) (mem b.number laid)
    where
      go : ((j : ℕ) → over j g ≡ max j (over 0 g)) → (t : Bool) → over (cond t (heaviest m k b.arms) k) g ≡ max k (over (cond t (heaviest m 0 b.arms) 0) g)
      go ih true = omega (arith, ih (heaviest m k b.arms), ih (heaviest m 0 b.arms), heaviest_max m k b.arms)
      go ih false = ih k

  over_is : (k : ℕ) (g : graph.Graph) → foldl (λ (j : ℕ) (b : graph.Block). cond (mem b.number laid) (foldl (λ (i : ℕ) (a : graph.Arm). cond (eqb a.to m) (max i a.weight) i) j b.arms) j) k g ≡ over k g
  unfolding over heaviest foldl
  over_is k [] = refl
  over_is k (b ∷ g) = over_is (cond (mem b.number laid) (heaviest m k b.arms) k) g

  heaviest_over : (g : graph.Graph) → heaviest_in g laid m ≡ over 0 g
  unfolding heaviest_in
  heaviest_over g = over_is 0 g

-- block n, whose arms are l, is laid too
module _ (laid : List ℕ) (m n : ℕ) (l : List graph.Arm) where
  -- the blocks with that number have those arms
  abbrev Known : graph.Graph → Type 0
  Known g = (b : graph.Block) → In b g → b.number ≡ n → b.arms ≡ l

  over_same : (g : graph.Graph) → Known g → max (heaviest m 0 l) (over (n ∷ laid) m 0 g) ≡ max (heaviest m 0 l) (over laid m 0 g)
  unfolding over mem any
  over_same [] h = refl
  over_same (b ∷ g) h = go (over_same g (λ c i. h c (inr i))) (eqb n b.number) (mem b.number laid) (λ e. ap (heaviest m 0) (h b (inl refl) (sym (eqb-true n b.number e))))
    where
      go : max (heaviest m 0 l) (over (n ∷ laid) m 0 g) ≡ max (heaviest m 0 l) (over laid m 0 g) → (s t : Bool) → (s ≡ true → heaviest m 0 b.arms ≡ heaviest m 0 l) →
          max (heaviest m 0 l) (over (n ∷ laid) m (cond (s || t) (heaviest m 0 b.arms) 0) g) ≡ max (heaviest m 0 l) (over laid m (cond t (heaviest m 0 b.arms) 0) g)
      go ih true true e = omega (arith, ih, e refl, over_max (n ∷ laid) m (heaviest m 0 b.arms) g, over_max laid m (heaviest m 0 b.arms) g)
      go ih true false e = omega (arith, ih, e refl, over_max (n ∷ laid) m (heaviest m 0 b.arms) g)
      go ih false true e = omega (arith, ih, over_max (n ∷ laid) m (heaviest m 0 b.arms) g, over_max laid m (heaviest m 0 b.arms) g)
      go ih false false e = ih

  over_has : (g : graph.Graph) → Known g → In n (numbers_of g) → heaviest m 0 l ≤ over (n ∷ laid) m 0 g
  unfolding over mem any numbers_of
  over_has [] h i = absurd i
  over_has (b ∷ g) h (inl e) = rw (eq-eqb n b.number e) (omega (arith, ap (heaviest m 0) (h b (inl refl) (sym e)), over_max (n ∷ laid) m (heaviest m 0 b.arms) g))
  over_has (b ∷ g) h (inr i) = omega (arith, over_has g (λ c j. h c (inr j)) i, over_max (n ∷ laid) m (cond (eqb n b.number || mem b.number laid) (heaviest m 0 b.arms) 0) g)

  heaviest_more : (g : graph.Graph) → Known g → In n (numbers_of g) → heaviest_in g (n ∷ laid) m ≡ heaviest m (heaviest_in g laid m) l
  heaviest_more g h i =
      omega (arith, heaviest_over (n ∷ laid) m g, heaviest_over laid m g, over_same g h, over_has g h i, heaviest_max m (heaviest_in g laid m) l)

-- nothing is laid
over_none : (m k : ℕ) (g : graph.Graph) → over [] m k g ≡ k
unfolding over mem any
over_none m k [] = refl
over_none m k (b ∷ g) = over_none m k g

pub reached_none : (t : Graph) (k : ℕ) → Reached t [] (replicate k 0)
reached_none t k m i = zero_get k m ∙ sym (heaviest_over [] m (tabled t) ∙ over_none m 0 (tabled t))

-- ---- by the table
foldl_append : {A B : Type 0} (f : B → A → B) (b : B) (l k : List A) → foldl f b (l ++ k) ≡ foldl f (foldl f b l) k
unfolding foldl
foldl_append f b [] k = refl
foldl_append f b (x ∷ l) k = foldl_append f (f b x) l k

-- the entries count the first k of block n's arms too
abbrev pub Counted : Arms → ℕ → List ℕ → List ℕ → ℕ → Type 0
Counted a n before after k = (m : ℕ) → get_or after m 0 ≡ heaviest m (get_or before m 0) (arms_from a (get_or a.first n 0) k)

module _ (a : Arms) (n : ℕ) (before : List ℕ) where
  pub counted_none : Counted a n before before 0
  unfolding heaviest foldl arms_from
  counted_none m = refl

  pub counted_more : (after : List ℕ) (k q : ℕ) → q ≡ get_or a.first n 0 + k → get_or a.to q 0 < length after → Counted a n before after k
      → Counted a n before (set after (get_or a.to q 0) (max (get_or after (get_or a.to q 0) 0) (get_or a.weight q 0))) (k + 1)
  unfolding heaviest foldl arm_at
  counted_more after k q at h v m =
      let to = get_or a.to q 0 in
      let w = get_or a.weight q 0 in
      set_get after to (max (get_or after to 0) w) m h ∙ turn (eqb m to) refl
      ∙ rw (eqb_turn m to, v m, at, add-one, arms_more a k (get_or a.first n 0))
      (sym (foldl_append (λ (j : ℕ) (x : graph.Arm). cond (eqb x.to m) (max j x.weight) j) (get_or before m 0) (arms_from a (get_or a.first n 0) k) (arm_at a (get_or a.first n 0 + k) ∷ [])))
    where
      turn : (t : Bool) → eqb m (get_or a.to q 0) ≡ t → cond t (max (get_or after (get_or a.to q 0) 0) (get_or a.weight q 0)) (get_or after m 0) ≡ cond t (max (get_or after m 0) (get_or a.weight q 0)) (get_or after m 0)
      turn true e = ap (λ (k : ℕ). max (get_or after k 0) (get_or a.weight q 0)) (sym (eqb-true m (get_or a.to q 0) e))
      turn false e = refl

-- ---- in a graph that has the tables
module _ {t : Graph} (s : Carried t) (n : ℕ) (i : Of t n) where
  known : (b : graph.Block) → In b (tabled t) → b.number ≡ n → b.arms ≡ leaves t.a n
  unfolding tabled
  known b j e = ap (λ (c : graph.Block). c.arms) (in_tables t.b t.a t.blocks b j ∙ ap (block_at t.b t.a) e ∙ sym (block_is s n i)) ∙ arms_are s n i

  -- what noting asks for
  pub notes : Notes t.a n
  notes = record { fits = omega (arith, s.stands.fits n); goes = λ q h. omega (arith, small s (get_or t.a.to q 0) (goes_on s n i q h)) }

-- what the arms carry does not count
heaviest_bare : (m k : ℕ) (l : List graph.Arm) → heaviest m k (map bare l) ≡ heaviest m k l
unfolding heaviest foldl
heaviest_bare m k [] = refl
heaviest_bare m k (a ∷ l) = heaviest_bare m (cond (eqb a.to m) (max k a.weight) k) l

pub entries_noted : (a : Arms) (n : ℕ) (before after : List ℕ) → Entries a n before after → Noted a n before after
entries_noted a n before after v t z s i laid h m j =
    v m ∙ ap (λ (k : ℕ). heaviest m k (leaves a n)) (h m j)
    ∙ sym (heaviest_bare m (heaviest_in (tabled t) laid m) (leaves a n)) ∙ ap (heaviest m (heaviest_in (tabled t) laid m)) (sym (leaves_bare z n))
    ∙ heaviest_bare m (heaviest_in (tabled t) laid m) (leaves t.a n)
    ∙ sym (heaviest_more laid m n (leaves t.a n) (tabled t) (known s n i) i)

-- an entry that none of the arms is over stays
module _ (a : Arms) (m k : ℕ) where
  heaviest_same : (f c : ℕ) → ((q : ℕ) → f ≤ q → q < f + c → get_or a.to q 0 ≡ m → get_or a.weight q 0 ≤ k) → heaviest m k (arms_from a f c) ≡ k
  unfolding heaviest foldl arms_from arm_at
  heaviest_same f zero h = refl
  heaviest_same f (suc c) h = go (eqb (get_or a.to f 0) m) refl (heaviest_same (suc f) c (λ q l u. h q (omega (arith, l)) (omega (arith, u))))
    where
      go : (t : Bool) → eqb (get_or a.to f 0) m ≡ t → heaviest m k (arms_from a (suc f) c) ≡ k → heaviest m (cond t (max k (get_or a.weight f 0)) k) (arms_from a (suc f) c) ≡ k
      go true e ih = let z : max k (get_or a.weight f 0) ≡ k = omega (arith, h f (omega arith) (omega arith) (eqb-true (get_or a.to f 0) m e)) in rw z ih
      go false e ih = ih

pub entries_same : (a : Arms) (n : ℕ) (before after : List ℕ) → Entries a n before after → (m : ℕ)
    → ((q : ℕ) → Has a n q → get_or a.to q 0 ≡ m → get_or a.weight q 0 ≤ get_or before m 0) → get_or after m 0 ≡ get_or before m 0
unfolding leaves
entries_same a n before after v m h = v m ∙ heaviest_same a m (get_or before m 0) (get_or a.first n 0) (get_or a.count n 0) (λ q l u. h q (record { from = l; below = u }))
