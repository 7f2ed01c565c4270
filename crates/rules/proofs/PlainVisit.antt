-- THEOREM plain_visit: the plain order is the recursive depth-first visit from the entry, last arm first, in reverse finishing order,
-- and then the unreached blocks as listed; the bound on its depth is never met. Assumes nothing.
use Prim.Native.Nat.{ℕ, zero, suc, ◌≤◌, ◌<◌}
use native.Mathlib.Omega.{arith}
use mathlib.Core.Path.{◌≡◌, refl, sym, ap, ap₂, subst}
use mathlib.Core.Bool.{not}
use mathlib.Core.Logic.{◌⊎◌, inl, inr, ⊎_elim}
use mathlib.Core.List.{List, [], ◌∷◌, ◌++◌, map, reverse}
use Rattle.std.specs.Prelude.{Option, None, Some}
use lib.Dec.{T, eqb, T_not, not_T}
use lib.ListN.{length, length-map}
use Rattle.rules.specs.Lists.{keep, foldl, mem}
use Rattle.rules.specs.Graph.{Block, Graph, block_at, numbers_of, targets, entry}
use Rattle.rules.specs.PlainOrder.{Walk, visit, order}
use Rattle.rules.proofs.Membership.{In, test, T→≡, F→≡, mem→, →mem}
use Rattle.rules.proofs.Counting.{tally, tally_le, tally_lt, tally_pos, tally_len, tally_reverse, count, In→count, count→In}
use Rattle.rules.proofs.Wholeness.{Whole, block_in, entry_in}

-- the arms of block n, the last first
unfoldable pub todo : Graph → ℕ → List ℕ
todo g n = reverse (targets (block_at g n))

unfoldable pub enter : Walk → ℕ → Walk
enter w n = record { seen = n ∷ w.seen; done = w.done }

unfoldable pub finish : Walk → ℕ → Walk
finish w n = record { seen = w.seen; done = n ∷ w.done }

-- a walk over some blocks in turn: those seen are passed, the others entered, walked through their arms, and finished
pub data Went (g : Graph) : Walk → List ℕ → Walk → Type 0 where
  ended : (w : Walk) → Went g w [] w
  passed : (w v : Walk) (n : ℕ) (l : List ℕ) → T (mem n w.seen) → Went g w l v → Went g w (n ∷ l) v
  through : (w r v : Walk) (n : ℕ) (l : List ℕ) → T (not (mem n w.seen)) → Went g (enter w n) (todo g n) r → Went g (finish r n) l v → Went g w (n ∷ l) v

-- ---- one step of the visit
module _ (g : Graph) where
  pub visit_old : (k : ℕ) (w : Walk) (n : ℕ) → T (mem n w.seen) → visit g (suc k) w n ≡ w
  unfolding visit
  visit_old k w n m = rw (T→≡ (mem n w.seen) m, visit) refl

  pub visit_new : (k : ℕ) (w : Walk) (n : ℕ) → T (not (mem n w.seen)) → visit g (suc k) w n ≡ finish (foldl (visit g k) (enter w n) (todo g n)) n
  unfolding visit finish enter todo
  visit_new k w n m = rw (F→≡ (mem n w.seen) m, visit) refl

  -- ---- what is seen stays seen

  foldl_mono : (f : Walk → ℕ → Walk) → ((u : Walk) (n m : ℕ) → In m u.seen → In m (f u n).seen) → (l : List ℕ) (u : Walk) (m : ℕ) → In m u.seen → In m (foldl f u l).seen
  unfolding foldl
  foldl_mono f h [] u m i = i
  foldl_mono f h (x ∷ l) u m i = foldl_mono f h l (f u x) m (h u x m i)

  pub visit_mono : (k : ℕ) (u : Walk) (n m : ℕ) → In m u.seen → In m (visit g k u n).seen
  unfolding visit
  visit_mono zero u n m i = i
  visit_mono (suc k) u n m i = go (visit_mono k) (test (mem n u.seen))
    where
      go : ((v : Walk) (b c : ℕ) → In c v.seen → In c (visit g k v b).seen) → T (mem n u.seen) ⊎ T (not (mem n u.seen)) → In m (visit g (suc k) u n).seen
      go ih (inl t) = subst (λ (v : Walk). In m v.seen) (sym (visit_old k u n t)) i
      go ih (inr f) = subst (λ (v : Walk). In m v.seen) (sym (visit_new k u n f)) (unfold finish enter in foldl_mono (visit g k) ih (todo g n) (enter u n) m (inr i))

  unfoldable pub unseen : Walk → ℕ
  unseen w = tally (λ (b : ℕ). not (mem b w.seen)) (numbers_of g)

  pub unseen_mono : (u v : Walk) → ((m : ℕ) → In m u.seen → In m v.seen) → unseen v ≤ unseen u
  unfolding unseen
  unseen_mono u v h = tally_le (λ (b : ℕ). not (mem b v.seen)) (λ (b : ℕ). not (mem b u.seen)) (numbers_of g)
      (λ x i f. not_T (mem x u.seen) (λ t. T_not (mem x v.seen) f (→mem x v.seen (h x (mem→ x u.seen t)))))

  pub unseen_enter : (u : Walk) (n : ℕ) → In n (numbers_of g) → T (not (mem n u.seen)) → unseen (enter u n) < unseen u
  unfolding unseen enter
  unseen_enter u n j f = tally_lt (λ (b : ℕ). not (mem b (n ∷ u.seen))) (λ (b : ℕ). not (mem b u.seen)) (numbers_of g)
      (λ x i q. not_T (mem x u.seen) (λ t. T_not (mem x (n ∷ u.seen)) q (→mem x (n ∷ u.seen) (inr (mem→ x u.seen t)))))
      n j (not_T (not (mem n (n ∷ u.seen))) (λ q. T_not (mem n (n ∷ u.seen)) q (→mem n (n ∷ u.seen) (inl refl)))) f

  pub unseen_pos : (w : Walk) (n : ℕ) → In n (numbers_of g) → T (not (mem n w.seen)) → 0 < unseen w
  unfolding unseen
  unseen_pos w n j f = tally_pos (λ (b : ℕ). not (mem b w.seen)) (numbers_of g) n j f

  pub visit_seen : (k : ℕ) (w : Walk) (n : ℕ) → T (mem n w.seen) → visit g k w n ≡ w
  unfolding visit
  visit_seen zero w n t = refl
  visit_seen (suc k) w n t = visit_old k w n t

  -- ---- the visit, as deep as there are blocks not seen, is the walk
  abbrev Goes : ℕ → Type 0
  Goes k = (l : List ℕ) (w : Walk) → unseen w ≤ k → ((c : ℕ) → In c l → In c (numbers_of g)) → Went g w l (foldl (visit g k) w l)

  abbrev Deeper : ℕ → Type 0
  Deeper zero = Unit {0}
  Deeper (suc k) = Goes k

  pub todo_listed : Whole g → (n : ℕ) → In n (numbers_of g) → (c : ℕ) → In c (todo g n) → In c (numbers_of g)
  unfolding todo count
  todo_listed w n j c q =
      w (block_at g n) (block_in g n j).0 c
      (count→In c (targets (block_at g n)) (omega (arith, In→count c (reverse (targets (block_at g n))) q, tally_reverse (λ (x : ℕ). eqb x c) (targets (block_at g n)))))

  module _ (listed : (n : ℕ) → In n (numbers_of g) → (c : ℕ) → In c (todo g n) → In c (numbers_of g)) where
    goes : (k : ℕ) → Deeper k → Goes k
    unfolding foldl
    goes k d [] w h s = ended w
    goes k d (x ∷ l) w h s = go k d h (λ v q. goes k d l v q (λ c i. s c (inr i))) (test (mem x w.seen))
      where
        go : (k : ℕ) → Deeper k → unseen w ≤ k → ((v : Walk) → unseen v ≤ k → Went g v l (foldl (visit g k) v l)) → T (mem x w.seen) ⊎ T (not (mem x w.seen))
            → Went g w (x ∷ l) (foldl (visit g k) (visit g k w x) l)
        go k d h ih (inl t) = subst (λ (v : Walk). Went g w (x ∷ l) (foldl (visit g k) v l)) (sym (visit_seen k w x t)) (passed w (foldl (visit g k) w l) x l t (ih w h))
        go zero d h ih (inr f) = absurd (omega (arith, unseen_pos w x (s x (inl refl)) f))
        go (suc k) d h ih (inr f) =
            let r = foldl (visit g k) (enter w x) (todo g x) in
            let e = visit_new k w x f in
            let a = ih (visit g (suc k) w x) (omega (arith, unseen_mono w (visit g (suc k) w x) (visit_mono (suc k) w x))) in
            subst (λ (v : Walk). Went g w (x ∷ l) (foldl (visit g (suc k)) v l)) (sym e)
            (through w r (foldl (visit g (suc k)) (finish r x) l) x l f
            (d (todo g x) (enter w x) (omega (arith, unseen_enter w x (s x (inl refl)) f)) (listed x (s x (inl refl))))
            (subst (λ (v : Walk). Went g v l (foldl (visit g (suc k)) v l)) e a))

    all_goes : (k : ℕ) → Goes k
    all_goes zero = goes zero tt
    all_goes (suc k) = goes (suc k) (all_goes k)

  pub few : unseen (record { seen = []; done = [] }) ≤ length g
  unfolding unseen numbers_of
  few = omega (arith, tally_len (λ (b : ℕ). not (mem b [])) (map (λ (b : Block). b.number) g), length-map g (λ (b : Block). b.number))

abbrev pub nothing : Walk
nothing = record { seen = []; done = [] }

-- the order that a walk gives
unfoldable pub walk_order : Graph → Walk → List ℕ
walk_order g w = w.done ++ keep (λ (n : ℕ). not (mem n w.seen)) (numbers_of g)

-- THE THEOREM
pub plain_visit : (g : Graph) → Whole g → (e : ℕ) → entry g ≡ Some e → (w : Walk) × Went g nothing (e ∷ []) w × (order g ≡ walk_order g w)
unfolding order walk_order
plain_visit g w e q = (
  visit g (length g) nothing e,
  all_goes g (todo_listed g w) (length g) (e ∷ []) nothing (few g) (λ c i. ⊎_elim (λ p. subst (λ (x : ℕ). In x (numbers_of g)) (sym p) (entry_in g e q)) (λ z. absurd z) i),
  ap from q,
)
  where
    from : Option ℕ → List ℕ
    from o = elim o as (λ (x : Option ℕ). List ℕ) [
      | None ↦ numbers_of g
      | Some e ↦
          let w = visit g (length g) nothing e in
          w.done ++ keep (λ (n : ℕ). not (mem n w.seen)) (numbers_of g)
    ]

-- without an entry nothing is reached
pub plain_none : (g : Graph) → entry g ≡ None → order g ≡ numbers_of g
unfolding order
plain_none g q = rw (q, order) refl

-- there is one such walk
pub went_one : (g : Graph) (w : Walk) (l : List ℕ) (u : Walk) → Went g w l u → (x : Walk) (k : List ℕ) (v : Walk) → w ≡ x → l ≡ k → Went g x k v → u ≡ v
went_one g w l u (ended a) x k v d e (ended b) = d
went_one g w l u (ended a) x k v d e (passed b c n m t q) = absurd (let z : ◌≡◌ {A = ℕ} 0 1 = cc in omega arith)
went_one g w l u (ended a) x k v d e (through b r c n m f p q) = absurd (let z : ◌≡◌ {A = ℕ} 0 1 = cc in omega arith)
went_one g w l u (passed a y n m t p) x k v d e (ended b) = absurd (let z : ◌≡◌ {A = ℕ} 0 1 = cc in omega arith)
went_one g w l u (passed a y n m t p) x k v d e (passed b c i j s q) = went_one g a m y p b j c d (cc) q
went_one g w l u (passed a y n m t p) x k v d e (through b r c i j f q s) =
    let h : n ≡ i = cc in absurd (T_not (mem i b.seen) f (subst (λ (z : ℕ). T (mem z b.seen)) h (subst (λ (z : Walk). T (mem n z.seen)) d t)))
went_one g w l u (through a y c n m f p q) x k v d e (ended b) = absurd (let z : ◌≡◌ {A = ℕ} 0 1 = cc in omega arith)
went_one g w l u (through a y c n m f p q) x k v d e (passed b o i j s r) =
    let h : n ≡ i = cc in absurd (T_not (mem n a.seen) f (subst (λ (z : ℕ). T (mem z a.seen)) (sym h) (subst (λ (z : Walk). T (mem i z.seen)) (sym d) s)))
went_one g w l u (through a y c n m f p q) x k v d e (through b r o i j h s t) =
    let z : n ≡ i = cc in
    let inside : y ≡ r = went_one g (enter a n) (todo g n) y p (enter b i) (todo g i) r (ap₂ enter d z) (ap (todo g) z) s in
    went_one g (finish y n) m c q (finish r i) j o (ap₂ finish inside z) (cc) t
