-- THEOREM two_walks: the two walks of `cycles` give the mutual-reach classes: every listed block is in a piece, and the blocks of a
-- piece are exactly those that some block of it reaches and is reached from. Assumes nothing.
use Prim.Native.Nat.{ℕ, ◌≤◌}
use native.Mathlib.Omega.{arith}
use mathlib.Core.Path.{◌≡◌, refl, sym, ap, subst}
use mathlib.Core.Bool.{Bool, true, false, not, cond}
use mathlib.Core.Logic.{◌⊎◌, inl, inr, ⊎_elim, ◌↔◌}
use mathlib.Core.List.{List, [], ◌∷◌, ◌++◌}
use lib.Dec.{T, eqb, T_not, not_T, eqb_refl}
use lib.ListN.{length}
use Rattle.rules.specs.Lists.{foldl, mem}
use Rattle.rules.specs.Graph.{Block, Graph, block_at, numbers_of, targets}
use Rattle.rules.specs.PlainOrder.{Walk, visit}
use Rattle.rules.specs.Heads.{together}
use Rattle.rules.proofs.Membership.{In, test, T→≡, F→≡, mem→, →mem, →any, →keep, append-In, In-left, In-right, In-map}
use Rattle.rules.proofs.Counting.{one, tally, tally_reverse, count, Once, In→count, count→In}
use Rattle.rules.proofs.Wholeness.{Whole, block_in}
use Rattle.rules.proofs.Chains.{Chain, here, then}
use Rattle.rules.proofs.Classes.{classes}
use Rattle.rules.proofs.LeastLaws.{least_closed, least_start}
use Rattle.rules.proofs.PlainVisit.{todo, unseen, unseen_mono, todo_listed, few, nothing}
use Rattle.rules.proofs.FinishOrder.{Leads, stay, on, Good, Inv, done_mono, leads_listed, visits, join_leads}
use Rattle.rules.proofs.Pieces.{leads_in, unlaid, piece, piece_sound, piece_complete}

-- a listed block is what its number finds, where no number is listed twice
block_own : (g : Graph) → Once (numbers_of g) → (x : Block) → In x g → block_at g x.number ≡ x
unfolding block_at numbers_of count tally
block_own [] o x i = absurd i
block_own (y ∷ g) o x i = go (block_own g (λ n. omega (arith, o n))) (eqb y.number x.number) refl i
  where
    go : ((z : Block) → In z g → block_at g z.number ≡ z) → (b : Bool) → eqb y.number x.number ≡ b → In x (y ∷ g) → cond b y (block_at g x.number) ≡ x
    go ih true e (inl q) = sym q
    go ih true e (inr j) = absurd (omega (arith, o x.number, ap one e, In→count x.number (numbers_of g) (In-map (λ (z : Block). z.number) g x j)))
    go ih false e (inl q) = absurd (rw e at (subst (λ (z : Block). T (eqb y.number z.number)) (sym q) (eqb_refl y.number)))
    go ih false e (inr j) = ih x j

module _ (g : Graph) where
  -- the first walk: from each listed block in turn, what is finished, the last first
  unfoldable pub finished : List ℕ
  finished = (foldl (visit g (length g)) nothing (numbers_of g)).done

  -- the second: from each block of that list that is in no piece yet, a piece of what leads to it
  unfoldable pub pieces : List ℕ → List ℕ → List (List ℕ)
  unfolding piece mem
  pieces s [] = []
  pieces s (r ∷ l) = cond (mem r s) (pieces s l) (piece g s r ∷ pieces (piece g s r ++ s) l)

  -- the blocks of a piece are one class
  pub record Class (p : List ℕ) : Type 0 where
    pub exact : (x y : ℕ) → In x (numbers_of g) → In y (numbers_of g) → T (mem x p) → T (mem y p) ↔ T (together g x y)

  pub record Pieced (s : List ℕ) (ps : List (List ℕ)) : Type 0 where
    pub each : (p : List ℕ) → In p ps → Class p
    pub covers : (x : ℕ) → In x (numbers_of g) → T (not (mem x s)) → (p : List ℕ) × In p ps × T (mem x p)

module _ (g : Graph) (w : Whole g) (o : Once (numbers_of g)) where
  abbrev listed : (n : ℕ) → In n (numbers_of g) → (c : ℕ) → In c (todo g n) → In c (numbers_of g)
  listed = todo_listed g w

  -- ---- chains of arms, as the walks follow them

  leads_chain : (a b : ℕ) → In a (numbers_of g) → Leads g a b → Chain g a b
  unfolding todo count
  leads_chain a b i (stay e) = here e
  leads_chain a b i (on {b = m} p j) =
      let f = block_in g m (leads_listed g listed a i m p) in
      then (leads_chain a m i p) (block_at g m) f.0 f.1
      (count→In b (targets (block_at g m)) (omega (arith, In→count b (todo g m) j, tally_reverse (λ (x : ℕ). eqb x b) (targets (block_at g m)))))

  chain_leads : (a b : ℕ) → Chain g a b → Leads g a b
  unfolding todo count
  chain_leads a b (here e) = stay e
  chain_leads a b (then {b = m} p x i e j) =
      let q : In b (targets (block_at g m)) = subst (λ (k : ℕ). In b (targets (block_at g k))) e (rw (block_own g o x i) j) in
      on (chain_leads a m p)
      (count→In b (todo g m) (omega (arith, In→count b (targets (block_at g m)) q, tally_reverse (λ (x : ℕ). eqb x b) (targets (block_at g m)))))

  -- ---- the first walk

  record Over (v : Walk) : Type 0 where
    inv : Inv g v
    over : (m : ℕ) → In m v.seen → In m v.done
    low : (m : ℕ) → In m v.done → In m (numbers_of g)

  roots : (k : ℕ) (l : List ℕ) → ((c : ℕ) → In c l → In c (numbers_of g)) → (u : Walk) → unseen g u ≤ k → Over u →
      Over (foldl (visit g k) u l) × ((c : ℕ) → In c u.seen ⊎ In c l → In c (foldl (visit g k) u l).seen)
  unfolding foldl
  roots k [] s u q i = (i, λ c j. ⊎_elim (λ p. p) (λ p. absurd p) j)
  roots k (x ∷ l) s u q i =
      let a = visits g listed k u x (s x (inl refl)) q i.inv in
      let v = visit g k u x in
      let b = roots k l (λ c j. s c (inr j)) v (omega (arith, unseen_mono g u v a.0.mono))
      (record {
        inv = a.0.inv;
        over = λ m j. ⊎_elim (λ p. p) (λ p. done_mono g (Leads g x) u v a.0 m (i.over m p)) (a.0.ends m j);
        low = λ m j. ⊎_elim (λ p. leads_listed g listed x (s x (inl refl)) m (a.0.leads m p)) (i.low m) (append-In m a.0.new u.done (subst (λ (r : List ℕ). In m r) a.0.split j));
      }) in
      (b.0, λ c j. ⊎_elim (λ p. b.1 c (inl (a.0.mono c p))) (λ p. ⊎_elim (λ e. b.1 c (inl (subst (λ (y : ℕ). In y v.seen) (sym e) a.1))) (λ r. b.1 c (inr r)) p) j)

  -- ---- the second

  -- no arm leads into the set from outside it
  abbrev Shut : List ℕ → Type 0
  Shut s = (x y : ℕ) → In x (numbers_of g) → In y (todo g x) → T (mem y s) → T (mem x s)

  abbrev Covers : List ℕ → List ℕ → Type 0
  Covers s l = (x : ℕ) → In x (numbers_of g) → T (not (mem x s)) → In x l

  module _ (s : List ℕ) (r : ℕ) (l : List ℕ) (good : Good g (r ∷ l)) (shut : Shut s) (cover : Covers s (r ∷ l)) (ri : In r (numbers_of g)) (rs : T (not (mem r s))) where
    p : List ℕ
    p = piece g s r

    open_in : (x : ℕ) → In x (numbers_of g) → T (not (mem x s)) → In x (unlaid g s)
    unfolding unlaid
    open_in x i f = →keep (λ (b : ℕ). not (mem b s)) (numbers_of g) x i f

    root_in : T (mem r p)
    unfolding piece p
    root_in = least_start (unlaid g s) (leads_in g) (r ∷ []) r (open_in r ri rs) (→mem r (r ∷ []) (inl refl))

    class : Class g p
    unfolding p
    class = record {
      exact = λ x y i j t. let a = piece_sound g listed s r l good shut cover ri rs x t in (
        λ u. let b = piece_sound g listed s r l good shut cover ri rs y u in
            (classes g w x y i j).1 (leads_chain x y i (join_leads g x r a.1 y b.0), leads_chain y x j (join_leads g y r b.1 x a.0)),
        λ u. let c = (classes g w x y i j).0 u in
            piece_complete g listed s r l good shut cover ri rs y j (join_leads g r x a.0 y (chain_leads x y c.0)) (join_leads g y x (chain_leads y x c.1) r a.1),
      );
    }

    shut_more : Shut (p ++ s)
    unfolding p piece leads_in
    shut_more x y i j t = go (test (mem x s)) (append-In y p s (mem→ y (p ++ s) t))
      where
        go : T (mem x s) ⊎ T (not (mem x s)) → In y p ⊎ In y s → T (mem x (p ++ s))
        go (inl q) h = →mem x (p ++ s) (In-right x p s (mem→ x s q))
        go (inr q) (inl h) = →mem x (p ++ s) (In-left x p s (mem→ x p (least_closed (unlaid g s) (leads_in g) (r ∷ []) x (open_in x i q) (→any (λ (z : ℕ). mem z p) (todo g x) y j (→mem y p h)))))
        go (inr q) (inr h) = →mem x (p ++ s) (In-right x p s (mem→ x s (shut x y i j (→mem y s h))))

    outside : (x : ℕ) → T (not (mem x (p ++ s))) → T (not (mem x p)) × T (not (mem x s))
    outside x f = (
      not_T (mem x p) (λ t. T_not (mem x (p ++ s)) f (→mem x (p ++ s) (In-left x p s (mem→ x p t)))),
      not_T (mem x s) (λ t. T_not (mem x (p ++ s)) f (→mem x (p ++ s) (In-right x p s (mem→ x s t)))),
    )

    cover_more : Covers (p ++ s) l
    cover_more x i f = let q = outside x f in ⊎_elim (λ e. absurd (T_not (mem x p) q.0 (subst (λ (y : ℕ). T (mem y p)) (sym e) root_in))) (λ j. j) (cover x i q.1)

    neither : (x : ℕ) → T (not (mem x p)) → T (not (mem x s)) → T (not (mem x (p ++ s)))
    neither x a b = not_T (mem x (p ++ s)) (λ t. ⊎_elim (λ i. T_not (mem x p) a (→mem x p i)) (λ i. T_not (mem x s) b (→mem x s i)) (append-In x p s (mem→ x (p ++ s) t)))

    one_more : (ps : List (List ℕ)) → Pieced g (p ++ s) ps → Pieced g s (p ∷ ps)
    one_more ps h = record {
      each = λ q i. ⊎_elim (λ e. subst (Class g) (sym e) class) (h.each q) i;
      covers = λ x i f. ⊎_elim (λ t. (p, inl refl, t)) (λ a. let c = h.covers x i (neither x a f) in (c.0, inr c.1, c.2)) (test (mem x p));
    }

  pieced : (l s : List ℕ) → Good g l → ((m : ℕ) → In m l → In m (numbers_of g)) → Shut s → Covers s l → Pieced g s (pieces g s l)
  unfolding pieces p
  pieced [] s d low shut cover = record { each = λ q i. absurd i; covers = λ x i f. absurd (cover x i f) }
  pieced (r ∷ l) s d low shut cover = go (λ u. pieced l u d.1 (λ m j. low m (inr j))) (test (mem r s))
    where
      passed : T (mem r s) → Covers s l
      passed t x i f = ⊎_elim (λ e. absurd (T_not (mem x s) f (subst (λ (y : ℕ). T (mem y s)) (sym e) t))) (λ j. j) (cover x i f)

      go : ((u : List ℕ) → Shut u → Covers u l → Pieced g u (pieces g u l)) → T (mem r s) ⊎ T (not (mem r s)) → Pieced g s (cond (mem r s) (pieces g s l) (piece g s r ∷ pieces g (piece g s r ++ s) l))
      go ih (inl t) = rw (T→≡ (mem r s) t) (ih s shut (passed t))
      go ih (inr f) = rw (F→≡ (mem r s) f) (one_more s r l d shut cover (low r (inl refl)) f (pieces g (piece g s r ++ s) l)
          (ih (piece g s r ++ s) (shut_more s r l d shut cover (low r (inl refl)) f) (cover_more s r l d shut cover (low r (inl refl)) f)))

  -- THE THEOREM
  pub two_walks : Pieced g [] (pieces g [] (finished g))
  unfolding finished mem
  two_walks =
      let z = roots (length g) (numbers_of g) (λ c j. j) nothing (few g)
      (record { inv = record { good = tt; shut = λ v j. absurd j }; over = λ m j. absurd j; low = λ m j. absurd j }) in
      pieced (finished g) [] z.0.inv.good z.0.low (λ x y i j t. absurd t) (λ x i f. z.0.over x (z.1 x (inr i)))
