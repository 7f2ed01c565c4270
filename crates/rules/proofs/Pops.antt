-- Each removal from the stack lowers what the walk still owes by one: its measure, and the count of its removals. Assumes nothing.
use Prim.Native.Nat.{ℕ, zero, suc, ◌+◌, ◌-◌, ◌≤◌, ◌<◌}
use native.Mathlib.Omega.{arith}
use mathlib.Core.Path.{◌≡◌, refl, sym, ap, ◌∙◌, subst}
use mathlib.Core.Bool.{Bool, true, false, not, ◌||◌, cond}
use mathlib.Core.Logic.{◌⊎◌, inl, inr}
use mathlib.Core.List.{List, [], ◌∷◌}
use lib.Dec.{T, eqb, ltb, T_not, not_T, eqb→eq, eqb_refl, ltb→lt, nltb→le}
use lib.ListN.{length, get_or}
use Rattle.rules.specs.Lists.{any, mem}
use Rattle.rules.specs.Graph.{Graph, numbers_of}
use Rattle.rules.specs.PlainOrder.{Walk}
use Rattle.rules.proofs.Membership.{In, test, T→≡, F→≡, mem→}
use Rattle.rules.proofs.Counting.{one, tally, count, Once, In→count}
use Rattle.rules.proofs.PlainVisit.{todo, enter, finish}
use Rattle.rules.proofs.StackWalk.{Frame, State, pop, pop_end, pop_old, pop_new}

get_d-In : (l : List ℕ) (i : ℕ) → i < length l → In (get_or l i 0) l
get_d-In [] i h = absurd (omega arith)
get_d-In (x ∷ l) zero h = inl refl
get_d-In (x ∷ l) (suc i) h = inr (get_d-In l i (omega arith))

module _ (g : Graph) where
  unfoldable pub cost : ℕ → ℕ
  cost n = suc (length (todo g n))

  unfoldable pub owed : List Frame → ℕ
  unfolding cost
  owed [] = 0
  owed (f ∷ st) = (cost f.block - f.next) + owed st

  -- the cost of the blocks of l that are not seen
  unfoldable pub ahead : List ℕ → List ℕ → ℕ
  unfolding cost mem
  ahead s [] = 0
  ahead s (b ∷ l) = cond (mem b s) 0 (cost b) + ahead s l

  ahead_same : (s : List ℕ) (t : ℕ) (l : List ℕ) → T (not (mem t l)) → ahead (t ∷ s) l ≡ ahead s l
  unfolding ahead mem any
  ahead_same s t [] f = refl
  ahead_same s t (b ∷ l) f = go (ahead_same s t l) (eqb b t) refl f
    where
      go : (T (not (mem t l)) → ahead (t ∷ s) l ≡ ahead s l) → (c : Bool) → eqb b t ≡ c → T (not (c || mem t l)) → cond (eqb t b || mem b s) 0 (cost b) + ahead (t ∷ s) l ≡ cond (mem b s) 0 (cost b) + ahead s l
      go ih true e f = absurd f
      go ih false e f = rw (other) (ap (λ (y : ℕ). cond (mem b s) 0 (cost b) + y) (ih f))
        where
          other : eqb t b ≡ false
          other = F→≡ (eqb t b) (not_T (eqb t b) (λ q. subst T e (subst (λ (k : ℕ). T (eqb b k)) (sym (eqb→eq t b q)) (eqb_refl b))))

  ahead_enter : (s : List ℕ) (t : ℕ) (l : List ℕ) → In t l → count t l ≤ 1 → T (not (mem t s)) → ahead (t ∷ s) l + cost t ≡ ahead s l
  unfolding ahead mem any count tally
  ahead_enter s t [] i o f = absurd i
  ahead_enter s t (b ∷ l) i o f = go (ahead_enter s t l) (test (eqb b t)) i
    where
      go : (In t l → count t l ≤ 1 → T (not (mem t s)) → ahead (t ∷ s) l + cost t ≡ ahead s l) → T (eqb b t) ⊎ T (not (eqb b t)) → (t ≡ b) ⊎ In t l →
          (cond (eqb t b || mem b s) 0 (cost b) + ahead (t ∷ s) l) + cost t ≡ cond (mem b s) 0 (cost b) + ahead s l
      go ih (inl q) j =
          let e : b ≡ t = eqb→eq b t q in
          let a : cond (eqb t b || mem b s) 0 (cost b) ≡ 0 = rw (e, T→≡ (eqb t t) (eqb_refl t)) refl in
          let c : cond (mem b s) 0 (cost b) ≡ cost t = rw (e, F→≡ (mem t s) f) refl in
          omega (arith, a, c, ap one (T→≡ (eqb b t) q), ahead_same s t l (not_T (mem t l) (λ m. omega (arith, ap one (T→≡ (eqb b t) q), In→count t l (mem→ t l m)))))
      go ih (inr q) (inl e) = absurd (T_not (eqb b t) q (subst (λ (k : ℕ). T (eqb b k)) (sym e) (eqb_refl b)))
      go ih (inr q) (inr j) =
          let ne : eqb t b ≡ false = F→≡ (eqb t b) (not_T (eqb t b) (λ z. T_not (eqb b t) q (subst (λ (k : ℕ). T (eqb b k)) (sym (eqb→eq t b z)) (eqb_refl b)))) in
          let a : cond (eqb t b || mem b s) 0 (cost b) ≡ cond (mem b s) 0 (cost b) = rw ne refl in
          omega (arith, a, ih j (omega (arith, ap one (F→≡ (eqb b t) q))) f)

  unfoldable pub owes : State → ℕ
  unfolding owed ahead
  owes s = owed s.stack + ahead s.walk.seen (numbers_of g)

  module _ (d : Once (numbers_of g)) (listed : (n : ℕ) → In n (numbers_of g) → (c : ℕ) → In c (todo g n) → In c (numbers_of g)) where
    pub pop_owes : (f : Frame) (st : List Frame) (w : Walk) → In f.block (numbers_of g) → f.next ≤ length (todo g f.block) → suc (owes (pop g (f ∷ st) w)) ≡ owes (record { stack = f ∷ st; walk = w })
    unfolding owes enter finish
    pop_owes f st w j h = go (test (ltb n (length (todo g b))))
      where
        b : ℕ
        b = f.block

        n : ℕ
        n = f.next

        t : ℕ
        t = get_or (todo g b) n 0

        push : T (ltb n (length (todo g b))) → T (mem t w.seen) ⊎ T (not (mem t w.seen)) → suc (owes (pop g (f ∷ st) w)) ≡ owes (record { stack = f ∷ st; walk = w })
        push y (inl m) = ap (λ (s : State). suc (owes s)) (pop_old g b n st w y m) ∙ omega (arith, ltb→lt n (length (todo g b)) y)
        push y (inr m) = ap (λ (s : State). suc (owes s)) (pop_new g b n st w y m) ∙ omega (arith, ltb→lt n (length (todo g b)) y, ahead_enter w.seen t (numbers_of g) (listed b j t (get_d-In (todo g b) n (ltb→lt n (length (todo g b)) y))) (d t) m)

        go : T (ltb n (length (todo g b))) ⊎ T (not (ltb n (length (todo g b)))) → suc (owes (pop g (f ∷ st) w)) ≡ owes (record { stack = f ∷ st; walk = w })
        go (inl y) = push y (test (mem t w.seen))
        go (inr y) = ap (λ (s : State). suc (owes s)) (pop_end g b n st w (nltb→le n (length (todo g b)) y)) ∙ omega (arith, nltb→le n (length (todo g b)) y)
