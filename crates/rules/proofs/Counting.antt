-- How often a number stands in a list: exactly once is a count of one. Assumes nothing.
use Prim.Native.Nat.{ℕ, zero, suc, ◌+◌, ◌≤◌, ◌<◌}
use native.Mathlib.Omega.{arith}
use mathlib.Core.Path.{◌≡◌, refl, sym, ap, ◌∙◌, subst}
use mathlib.Core.Bool.{Bool, true, false, not, ◌&&◌, ◌||◌, cond}
use mathlib.Core.Logic.{◌⊎◌, inl, inr, ⊎_elim}
use mathlib.Core.List.{List, [], ◌∷◌, ◌++◌, map, reverse, reverse-cons}
use lib.Dec.{T, eqb, T_not, not_T, eqb→eq, eqb_refl}
use lib.ListN.{length, take, drop, take-append-drop}
use Rattle.rules.specs.Lists.{keep, any, all, concat, mem, range}
use Rattle.rules.proofs.Membership.{In, test, T→≡, F→≡, mem→}

abbrev pub one : Bool → ℕ
one true = 1
one false = 0

one_le : (a b : Bool) → (T a → T b) → one a ≤ one b
one_le true true h = omega arith
one_le true false h = absurd (h tt)
one_le false true h = omega arith
one_le false false h = omega arith

one_lt : (a b : Bool) → T (not a) → T b → one a < one b
one_lt true b s t = absurd s
one_lt false true s t = omega arith
one_lt false false s t = absurd t

module _ {A : Type 0} where
  unfoldable pub tally : (A → Bool) → List A → ℕ
  tally p [] = 0
  tally p (x ∷ l) = one (p x) + tally p l

  pub tally_le : (p q : A → Bool) (l : List A) → ((x : A) → In x l → T (p x) → T (q x)) → tally p l ≤ tally q l
  unfolding tally
  tally_le p q [] h = omega arith
  tally_le p q (x ∷ l) h = omega (arith, one_le (p x) (q x) (h x (inl refl)), tally_le p q l (λ y i. h y (inr i)))

  pub tally_lt : (p q : A → Bool) (l : List A) → ((x : A) → In x l → T (p x) → T (q x)) → (y : A) → In y l → T (not (p y)) → T (q y) → tally p l < tally q l
  unfolding tally
  tally_lt p q [] h y i s t = absurd i
  tally_lt p q (x ∷ l) h y (inl e) s t = omega (arith, one_lt (p x) (q x) (rw e at s) (rw e at t), tally_le p q l (λ z j. h z (inr j)))
  tally_lt p q (x ∷ l) h y (inr i) s t = omega (arith, one_le (p x) (q x) (h x (inl refl)), tally_lt p q l (λ z j. h z (inr j)) y i s t)

  pub tally_pos : (p : A → Bool) (l : List A) (y : A) → In y l → T (p y) → 0 < tally p l
  unfolding tally
  tally_pos p l y i t = go p l y i t
    where
      go : (p : A → Bool) (l : List A) (y : A) → In y l → T (p y) → 0 < tally p l
      go p [] y i t = absurd i
      go p (x ∷ l) y (inl e) t = omega (arith, ap one (T→≡ (p x) (rw e at t)))
      go p (x ∷ l) y (inr i) t = omega (arith, go p l y i t)

  pub tally_len : (p : A → Bool) (l : List A) → tally p l ≤ length l
  unfolding tally
  tally_len p [] = omega arith
  tally_len p (x ∷ l) = omega (arith, one_le (p x) true (λ t. tt), tally_len p l)

  pub not_all→ : (p : A → Bool) (l : List A) → T (not (all p l)) → (x : A) × In x l × T (not (p x))
  unfolding all
  not_all→ p [] t = absurd t
  not_all→ p (x ∷ l) t = go (not_all→ p l) (p x) refl t
    where
      go : (T (not (all p l)) → (z : A) × In z l × T (not (p z))) → (b : Bool) → p x ≡ b → T (not (b && all p l)) → (z : A) × In z (x ∷ l) × T (not (p z))
      go ih true e t = let r = ih t in (r.0, inr r.1, r.2)
      go ih false e t = (x, inl refl, rw e tt)

module _ {A : Type 0} where
  pub tally_append : (p : A → Bool) (s t : List A) → tally p (s ++ t) ≡ tally p s + tally p t
  unfolding tally
  tally_append p [] t = omega arith
  tally_append p (x ∷ s) t = omega (arith, tally_append p s t)

  pub tally_reverse : (p : A → Bool) (s : List A) → tally p (reverse s) ≡ tally p s
  unfolding tally
  tally_reverse p [] = refl
  tally_reverse p (x ∷ s) = rw (reverse-cons x s) (omega (arith, tally_append p (reverse s) (x ∷ []), tally_reverse p s))

  -- warm, then cold
  pub tally_split : (p q : A → Bool) (l : List A) → tally p (keep (λ (x : A). not (q x)) l ++ keep q l) ≡ tally p l
  unfolding tally keep
  tally_split p q l = tally_append p (keep (λ (x : A). not (q x)) l) (keep q l) ∙ go l
    where
      step : (x : A) (l : List A) → tally p (keep (λ (x : A). not (q x)) l) + tally p (keep q l) ≡ tally p l → (b : Bool) →
          tally p (cond (not b) (x ∷ keep (λ (x : A). not (q x)) l) (keep (λ (x : A). not (q x)) l)) + tally p (cond b (x ∷ keep q l) (keep q l)) ≡ one (p x) + tally p l
      step x l ih true = omega arith
      step x l ih false = omega arith

      go : (l : List A) → tally p (keep (λ (x : A). not (q x)) l) + tally p (keep q l) ≡ tally p l
      go [] = refl
      go (x ∷ l) = step x l (go l) (q x)

  -- a turned
  pub tally_turn : (p : A → Bool) (k : ℕ) (l : List A) → tally p (drop k l ++ take k l) ≡ tally p l
  tally_turn p k l = omega (arith, tally_append p (drop k l) (take k l), tally_append p (take k l) (drop k l), ap (tally p) (take-append-drop k l))

unfoldable pub count : ℕ → List ℕ → ℕ
unfolding tally
count n l = tally (λ (x : ℕ). eqb x n) l

pub tally_map : {A : Type 0} (q : ℕ → Bool) (f : A → ℕ) (l : List A) → tally q (map f l) ≡ tally (λ (x : A). q (f x)) l
unfolding tally
tally_map q f [] = refl
tally_map q f (x ∷ l) = ap (λ (r : ℕ). one (q (f x)) + r) (tally_map q f l)

-- ---- numbers from a up
pub range_below : (a k n : ℕ) → n < a → count n (range a k) ≡ 0
unfolding count range tally
range_below a zero n h = refl
range_below a (suc k) n h = omega (arith, ap one (F→≡ (eqb a n) (not_T (eqb a n) (λ t. omega (arith, eqb→eq a n t)))), range_below (suc a) k n (omega arith))

pub range_once : (a k n : ℕ) → a ≤ n → n < a + k → count n (range a k) ≡ 1
unfolding count range tally
range_once a zero n h i = absurd (omega arith)
range_once a (suc k) n h i = go (range_once (suc a) k n) (test (eqb a n))
  where
    go : (suc a ≤ n → n < suc a + k → count n (range (suc a) k) ≡ 1) → T (eqb a n) ⊎ T (not (eqb a n)) → one (eqb a n) + count n (range (suc a) k) ≡ 1
    go ih (inl t) = omega (arith, ap one (T→≡ (eqb a n) t), range_below (suc a) k n (omega (arith, eqb→eq a n t)))
    go ih (inr f) = omega (arith, ap one (F→≡ (eqb a n) f), ih (omega (arith, ne)) (omega arith))
      where
        ne : a ≡ n → ⊥
        ne e = T_not (eqb a n) f (subst (λ (x : ℕ). T (eqb a x)) e (eqb_refl a))

pub range_above : (a k n : ℕ) → a + k ≤ n → count n (range a k) ≡ 0
unfolding count range tally
range_above a zero n h = refl
range_above a (suc k) n h = omega (arith, ap one (F→≡ (eqb a n) (not_T (eqb a n) (λ t. omega (arith, eqb→eq a n t)))), range_above (suc a) k n (omega arith))

-- ---- no number twice
abbrev pub Once : List ℕ → Type 0
Once l = (m : ℕ) → count m l ≤ 1

pub count_zero : (x : ℕ) (l : List ℕ) → T (not (mem x l)) → count x l ≡ 0
unfolding count tally mem any
count_zero x [] f = refl
count_zero x (y ∷ l) f = go (count_zero x l) (eqb y x) f
  where
    go : (T (not (mem x l)) → count x l ≡ 0) → (b : Bool) → T (not (b || mem x l)) → one b + count x l ≡ 0
    go ih true f = absurd f
    go ih false f = omega (arith, ih f)

pub In→count : (x : ℕ) (l : List ℕ) → In x l → 0 < count x l
unfolding count
In→count x l i = tally_pos (λ (y : ℕ). eqb y x) l x i (eqb_refl x)

pub count→In : (x : ℕ) (l : List ℕ) → 0 < count x l → In x l
count→In x l h = ⊎_elim (λ t. mem→ x l t) (λ f. absurd (omega (arith, count_zero x l f))) (test (mem x l))

pub fresh : (x : ℕ) (l : List ℕ) → Once l → T (not (mem x l)) → Once (x ∷ l)
unfolding count tally
fresh x l h f m = go (test (eqb x m))
  where
    go : T (eqb x m) ⊎ T (not (eqb x m)) → one (eqb x m) + count m l ≤ 1
    go (inl t) = omega (arith, ap one (T→≡ (eqb x m) t), subst (λ (k : ℕ). count k l ≡ 0) (eqb→eq x m t) (count_zero x l f))
    go (inr n) = omega (arith, ap one (F→≡ (eqb x m) n), h m)

pub count_keep : (p : ℕ → Bool) (l : List ℕ) (m : ℕ) → T (p m) → count m (keep p l) ≡ count m l
unfolding count tally keep
count_keep p [] m t = refl
count_keep p (x ∷ l) m t = go (count_keep p l m t) (p x) refl
  where
    go : count m (keep p l) ≡ count m l → (b : Bool) → p x ≡ b → count m (cond b (x ∷ keep p l) (keep p l)) ≡ one (eqb x m) + count m l
    go ih true e = omega arith
    go ih false e = omega (arith, ap one (F→≡ (eqb x m) (not_T (eqb x m) (λ q. subst T e (subst (λ (k : ℕ). T (p k)) (sym (eqb→eq x m q)) t)))))

-- ---- a sum over a list depends on the counts alone
unfoldable pub sum_by : (ℕ → ℕ) → List ℕ → ℕ
sum_by f [] = 0
sum_by f (x ∷ l) = f x + sum_by f l

remove : ℕ → List ℕ → List ℕ
remove x [] = []
remove x (y ∷ l) = let r = remove x l in cond (eqb y x) l (y ∷ r)

remove_count : (x m : ℕ) (l : List ℕ) → In x l → count m l ≡ one (eqb x m) + count m (remove x l)
unfolding count tally remove
remove_count x m [] i = absurd i
remove_count x m (y ∷ l) i = go (remove_count x m l) (eqb y x) refl i
  where
    go : (In x l → count m l ≡ one (eqb x m) + count m (remove x l)) → (b : Bool) → eqb y x ≡ b → (x ≡ y) ⊎ In x l → one (eqb y m) + count m l ≡ one (eqb x m) + count m (cond b l (y ∷ remove x l))
    go ih true e i = ap (λ (k : ℕ). one (eqb k m) + count m l) (eqb→eq y x (rw e tt))
    go ih false e (inl q) = absurd (rw e at (subst (λ (k : ℕ). T (eqb y k)) (sym q) (eqb_refl y)))
    go ih false e (inr j) = omega (arith, ih j)

remove_sum : (f : ℕ → ℕ) (x : ℕ) (l : List ℕ) → In x l → sum_by f l ≡ f x + sum_by f (remove x l)
unfolding sum_by remove
remove_sum f x [] i = absurd i
remove_sum f x (y ∷ l) i = go (remove_sum f x l) (eqb y x) refl i
  where
    go : (In x l → sum_by f l ≡ f x + sum_by f (remove x l)) → (b : Bool) → eqb y x ≡ b → (x ≡ y) ⊎ In x l → f y + sum_by f l ≡ f x + sum_by f (cond b l (y ∷ remove x l))
    go ih true e i = ap (λ (k : ℕ). f k + sum_by f l) (eqb→eq y x (rw e tt))
    go ih false e (inl q) = absurd (rw e at (subst (λ (k : ℕ). T (eqb y k)) (sym q) (eqb_refl y)))
    go ih false e (inr j) = omega (arith, ih j)

pub perm_sum : (f : ℕ → ℕ) (l k : List ℕ) → ((m : ℕ) → count m l ≡ count m k) → sum_by f l ≡ sum_by f k
unfolding sum_by count tally
perm_sum f [] [] h = refl
perm_sum f [] (x ∷ k) h = absurd (omega (arith, h x, In→count x (x ∷ k) (inl refl)))
perm_sum f (x ∷ l) k h =
    let i : In x k = count→In x k (omega (arith, h x, In→count x (x ∷ l) (inl refl))) in
    omega (arith, remove_sum f x k i, perm_sum f l (remove x k) (λ m. omega (arith, h m, remove_count x m k i)))

-- a list with no more of anything is no longer
sum_length : (l : List ℕ) → sum_by (λ (x : ℕ). 1) l ≡ length l
unfolding sum_by
sum_length [] = refl
sum_length (x ∷ l) = omega (arith, sum_length l)

pub no_longer : (l k : List ℕ) → ((m : ℕ) → count m l ≤ count m k) → length l ≤ length k
unfolding count tally
no_longer [] k h = omega arith
no_longer (x ∷ l) k h =
    let i : In x k = count→In x k (omega (arith, h x, In→count x (x ∷ l) (inl refl))) in
    let r = no_longer l (remove x k) (λ m. omega (arith, h m, remove_count x m k i)) in
    omega (arith, r, remove_sum (λ (y : ℕ). 1) x k i, sum_length k, sum_length (remove x k))

pub concat_append : (q : ℕ → Bool) (s t : List (List ℕ)) → tally q (concat (s ++ t)) ≡ tally q (concat s) + tally q (concat t)
unfolding concat tally
concat_append q [] t = omega arith
concat_append q (x ∷ s) t = omega (arith, concat_append q s t, tally_append q x (concat (s ++ t)), tally_append q x (concat s))
