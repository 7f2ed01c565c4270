-- The walk with a stack of its own is the recursive one: what each step of the stack does, and where it ends. Assumes nothing.
use Prim.Native.Nat.{ℕ, zero, suc, ◌+◌, ◌≤◌}
use native.Mathlib.Nat.{suc-add, zero-add}
use native.Mathlib.Omega.{arith}
use mathlib.Core.Path.{◌≡◌, refl, sym, ap, ◌∙◌, subst}
use mathlib.Core.Bool.{true, false, not}
use mathlib.Core.Logic.{◌⊎◌, inl, inr, ⊎_elim}
use mathlib.Core.List.{List, [], ◌∷◌}
use lib.Dec.{T, ltb, not_T, ltb→lt, nltb→le}
use lib.ListN.{length, get_or, drop, drop_of_length-le}
use lib.Seq.{drop-cons}
use Rattle.rules.specs.Lists.{foldl, mem}
use Rattle.rules.specs.Graph.{Graph, numbers_of}
use Rattle.rules.specs.PlainOrder.{Walk, visit}
use Rattle.rules.proofs.Membership.{In, test, T→≡, F→≡}
use Rattle.rules.proofs.PlainVisit.{todo, enter, finish, visit_new, visit_mono, unseen, unseen_mono, unseen_enter, unseen_pos, visit_seen}

-- a block, and how many of its arms have been started
pub record Frame : Type 0 where
  pub block : ℕ
  pub next : ℕ

-- the stack, its top first, and the walk so far
pub record State : Type 0 where
  pub stack : List Frame
  pub walk : Walk

-- one removal: the block is finished, or its next arm is passed, or what that leads to is entered
unfoldable pub pop : Graph → List Frame → Walk → State
unfolding todo enter finish mem
pop g [] w = record { stack = []; walk = w }
pop g (f ∷ st) w =
    let t = get_or (todo g f.block) f.next 0 in
    let up : Frame = record { block = f.block; next = suc f.next } in
    elim (ltb f.next (length (todo g f.block))) [
      | false ↦ record { stack = st; walk = finish w f.block }
      | true ↦
          elim (mem t w.seen) [ true ↦ record { stack = up ∷ st; walk = w } | false ↦ record { stack = record { block = t; next = 0 } ∷ up ∷ st; walk = enter w t } ]
    ]

unfoldable pub run : Graph → ℕ → State → State
unfolding pop
run g zero s = s
run g (suc k) s = run g k (pop g s.stack s.walk)

run_add : (g : Graph) (a b : ℕ) (s : State) → run g (a + b) s ≡ run g b (run g a s)
unfolding run
run_add g zero b s = rw (zero-add b) refl
run_add g (suc a) b s = rw (suc-add a b) (run_add g a b (pop g s.stack s.walk))

module _ (g : Graph) where
  pub pop_end : (n j : ℕ) (st : List Frame) (w : Walk) → length (todo g n) ≤ j → pop g (record { block = n; next = j } ∷ st) w ≡ record { stack = st; walk = finish w n }
  unfolding pop
  pop_end n j st w h = rw (F→≡ (ltb j (length (todo g n))) (not_T (ltb j (length (todo g n))) (λ t. omega (arith, ltb→lt j (length (todo g n)) t))), pop) refl

  pub pop_old : (n j : ℕ) (st : List Frame) (w : Walk) → T (ltb j (length (todo g n))) → T (mem (get_or (todo g n) j 0) w.seen) → pop g (record { block = n; next = j } ∷ st) w ≡ record { stack = record { block = n; next = suc j } ∷ st; walk = w }
  unfolding pop
  pop_old n j st w h m = rw (T→≡ (ltb j (length (todo g n))) h, pop, T→≡ (mem (get_or (todo g n) j 0) w.seen) m) refl

  pub pop_new : (n j : ℕ) (st : List Frame) (w : Walk) → T (ltb j (length (todo g n))) → T (not (mem (get_or (todo g n) j 0) w.seen)) →
      pop g (record { block = n; next = j } ∷ st) w ≡ record { stack = record { block = get_or (todo g n) j 0; next = 0 } ∷ record { block = n; next = suc j } ∷ st; walk = enter w (get_or (todo g n) j 0) }
  unfolding pop
  pop_new n j st w h m = rw (T→≡ (ltb j (length (todo g n))) h, pop, F→≡ (mem (get_or (todo g n) j 0) w.seen) m) refl

  -- ---- a frame is walked to its end

  abbrev on : ℕ → ℕ → List Frame → Walk → State
  on n j st w = record { stack = record { block = n; next = j } ∷ st; walk = w }

  abbrev off : List Frame → Walk → State
  off st w = record { stack = st; walk = w }

  abbrev Walked : ℕ → Type 0
  Walked k = (l : List ℕ) (n j : ℕ) (st : List Frame) (w : Walk) → unseen g w ≤ k → ((c : ℕ) → In c l → In c (numbers_of g)) → drop j (todo g n) ≡ l →
      (m : ℕ) × (run g m (on n j st w) ≡ off st (finish (foldl (visit g k) w l) n))

  abbrev Deeper : ℕ → Type 0
  Deeper zero = Unit {0}
  Deeper (suc k) = Walked k

  drop_nil_end : (l : List ℕ) (j : ℕ) → drop j l ≡ [] → length l ≤ j
  drop_nil_end l j e = ⊎_elim (λ t. absurd (let q = drop-cons l j 0 (ltb→lt j (length l) t) in let z : ◌≡◌ {A = ℕ} 0 1 = cc in omega arith)) (λ f. nltb→le j (length l) f) (test (ltb j (length l)))

  drop_cons_end : (l : List ℕ) (j x : ℕ) (r : List ℕ) → drop j l ≡ x ∷ r → T (ltb j (length l)) × (get_or l j 0 ≡ x) × (drop (suc j) l ≡ r)
  drop_cons_end l j x r e = ⊎_elim (λ t. let q = drop-cons l j 0 (ltb→lt j (length l) t) in (t, cc, cc))
      (λ f. absurd (let q = drop_of_length-le l (nltb→le j (length l) f) in let z : ◌≡◌ {A = ℕ} 0 1 = cc in omega arith)) (test (ltb j (length l)))

  module _ (listed : (n : ℕ) → In n (numbers_of g) → (c : ℕ) → In c (todo g n) → In c (numbers_of g)) where
    inner : (k : ℕ) → Deeper k → Walked k
    unfolding run foldl
    inner k d [] n j st w h s e = (1, pop_end n j st w (drop_nil_end (todo g n) j e))
    inner k d (x ∷ l) n j st w h s e =
        let r = drop_cons_end (todo g n) j x l e in
        go k d h (λ v q. inner k d l n (suc j) st v q (λ c i. s c (inr i)) r.2) (test (mem x w.seen))
      where
        r : T (ltb j (length (todo g n))) × (get_or (todo g n) j 0 ≡ x) × (drop (suc j) (todo g n) ≡ l)
        r = drop_cons_end (todo g n) j x l e

        go : (k : ℕ) → Deeper k → unseen g w ≤ k → ((v : Walk) → unseen g v ≤ k → (m : ℕ) × (run g m (on n (suc j) st v) ≡ off st (finish (foldl (visit g k) v l) n))) →
            T (mem x w.seen) ⊎ T (not (mem x w.seen)) → (m : ℕ) × (run g m (on n j st w) ≡ off st (finish (foldl (visit g k) (visit g k w x) l) n))
        go k d h ih (inl t) =
            let a = ih w h in (
              suc a.0,
              ap (run g a.0) (pop_old n j st w r.0 (subst (λ (y : ℕ). T (mem y w.seen)) (sym r.1) t)) ∙ a.1 ∙ ap (λ (v : Walk). off st (finish (foldl (visit g k) v l) n)) (sym (visit_seen g k w x t)),
            )
        go zero d h ih (inr f) = absurd (omega (arith, unseen_pos g w x (s x (inl refl)) f))
        go (suc k) d h ih (inr f) =
            let f' = subst (λ (y : ℕ). T (not (mem y w.seen))) (sym r.1) f in
            let b = d (todo g x) x 0 (record { block = n; next = suc j } ∷ st) (enter w x) (omega (arith, unseen_enter g w x (s x (inl refl)) f)) (listed x (s x (inl refl))) refl in
            let a = ih (visit g (suc k) w x) (omega (arith, unseen_mono g w (visit g (suc k) w x) (visit_mono g (suc k) w x))) in (
              suc (b.0 + a.0),
              ap (run g (b.0 + a.0)) (pop_new n j st w r.0 f' ∙ ap (λ (y : ℕ). on y 0 (record { block = n; next = suc j } ∷ st) (enter w y)) r.1)
                  ∙ run_add g b.0 a.0 (on x 0 (record { block = n; next = suc j } ∷ st) (enter w x))
                  ∙ ap (run g a.0) (b.1 ∙ ap (λ (v : Walk). on n (suc j) st v) (sym (visit_new g k w x f))) ∙ a.1,
            )

    walked : (k : ℕ) → Walked k
    walked zero = inner zero tt
    walked (suc k) = inner (suc k) (walked k)

    -- the machine, started at a block that is not seen, ends with the recursive walk's answer
    pub machine_visit : (k : ℕ) (w : Walk) (n : ℕ) → In n (numbers_of g) → T (not (mem n w.seen)) → unseen g w ≤ suc k →
        (m : ℕ) × (run g m (on n 0 [] (enter w n)) ≡ off [] (visit g (suc k) w n))
    machine_visit k w n j f h =
        let a = walked k (todo g n) n 0 [] (enter w n) (omega (arith, unseen_enter g w n j f)) (listed n j) refl in
        (a.0, a.1 ∙ ap (off []) (sym (visit_new g k w n f)))
