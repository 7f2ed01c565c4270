-- What the functions on lists mean: a test that passes, a member that is kept, the best of a list. Assumes nothing.
use Prim.Native.Nat.{ℕ}
use native.Mathlib.Omega.{arith}
use mathlib.Core.Path.{◌≡◌, refl, ap}
use mathlib.Core.Bool.{Bool, true, false, not, ◌&&◌, ◌||◌, cond}
use mathlib.Core.Logic.{◌⊎◌, inl, inr, ⊎_elim}
use mathlib.Core.List.{List, [], ◌∷◌, ◌++◌, map}
use Rattle.std.specs.Prelude.{Option, None, Some}
use lib.Dec.{T, eqb, eqb→eq, eqb_refl}
use Rattle.rules.specs.Lists.{pick, keep, any, all, best, mem}

module _ {A : Type 0} where
  pub pick_ind : (P : A → Type 0) (c : Bool) (x y : A) → P x → P y → P (pick c x y)
  unfolding pick
  pick_ind P true x y a b = a
  pick_ind P false x y a b = b

  -- a is one of the list
  abbrev pub In : A → List A → Type 0
  In a [] = ⊥
  In a (x ∷ l) = (a ≡ x) ⊎ In a l

pub or_cases : (a b : Bool) → T (a || b) → T a ⊎ T b
or_cases true b t = inl tt
or_cases false b t = inr t

pub or_l : (a b : Bool) → T a → T (a || b)
or_l true b t = tt
or_l false b t = absurd t

pub or_r : (a b : Bool) → T b → T (a || b)
or_r true b t = tt
or_r false b t = t

pub and_l : (a b : Bool) → T (a && b) → T a
and_l true b t = tt
and_l false b t = absurd t

pub and_r : (a b : Bool) → T (a && b) → T b
and_r true b t = t
and_r false b t = absurd t

pub and_i : (a b : Bool) → T a → T b → T (a && b)
and_i true b t u = u
and_i false b t u = absurd t

-- a test, with what it says
pub test : (b : Bool) → T b ⊎ T (not b)
test true = inl tt
test false = inr tt

pub T→≡ : (b : Bool) → T b → b ≡ true
T→≡ true t = refl
T→≡ false t = absurd t

pub F→≡ : (b : Bool) → T (not b) → b ≡ false
F→≡ true t = absurd t
F→≡ false t = refl

module _ {A : Type 0} where
  pub any→ : (p : A → Bool) (l : List A) → T (any p l) → (x : A) × In x l × T (p x)
  unfolding any
  any→ p [] t = absurd t
  any→ p (x ∷ l) t = ⊎_elim (λ h. (x, inl refl, h)) (λ h. let r = any→ p l h in (r.0, inr r.1, r.2)) (or_cases (p x) (any p l) t)

  pub →any : (p : A → Bool) (l : List A) (x : A) → In x l → T (p x) → T (any p l)
  unfolding any
  →any p [] x i t = absurd i
  →any p (y ∷ l) x (inl e) t = or_l (p y) (any p l) (rw e at t)
  →any p (y ∷ l) x (inr i) t = or_r (p y) (any p l) (→any p l x i t)

  pub all→ : (p : A → Bool) (l : List A) → T (all p l) → (x : A) → In x l → T (p x)
  unfolding all
  all→ p [] t x i = absurd i
  all→ p (y ∷ l) t x (inl e) = rw e (and_l (p y) (all p l) t)
  all→ p (y ∷ l) t x (inr i) = all→ p l (and_r (p y) (all p l) t) x i

  pub →all : (p : A → Bool) (l : List A) → ((x : A) → In x l → T (p x)) → T (all p l)
  unfolding all
  →all p [] h = tt
  →all p (y ∷ l) h = and_i (p y) (all p l) (h y (inl refl)) (→all p l (λ x i. h x (inr i)))

  pub keep→ : (p : A → Bool) (l : List A) (x : A) → In x (keep p l) → In x l × T (p x)
  unfolding keep
  keep→ p [] x i = absurd i
  keep→ p (y ∷ l) x i = go (keep→ p l x) (p y) refl i
    where
      go : (In x (keep p l) → In x l × T (p x)) → (b : Bool) → p y ≡ b → In x (cond b (y ∷ keep p l) (keep p l)) → ((x ≡ y) ⊎ In x l) × T (p x)
      go ih true e (inl q) = (inl q, rw (q, e) tt)
      go ih true e (inr j) = (inr (ih j).0, (ih j).1)
      go ih false e j = (inr (ih j).0, (ih j).1)

  pub →keep : (p : A → Bool) (l : List A) (x : A) → In x l → T (p x) → In x (keep p l)
  unfolding keep
  →keep p [] x i t = absurd i
  →keep p (y ∷ l) x i t = go (→keep p l x) (p y) refl i
    where
      go : (In x l → T (p x) → In x (keep p l)) → (b : Bool) → p y ≡ b → (x ≡ y) ⊎ In x l → In x (cond b (y ∷ keep p l) (keep p l))
      go ih true e (inl q) = inl q
      go ih true e (inr j) = inr (ih j t)
      go ih false e (inl q) = absurd (rw (q, e) at t)
      go ih false e (inr j) = ih j t

pub mem→ : (n : ℕ) (l : List ℕ) → T (mem n l) → In n l
unfolding mem
mem→ n l t = let r = any→ (λ (x : ℕ). eqb x n) l t in rw (eqb→eq r.0 n r.2) at r.1

pub →mem : (n : ℕ) (l : List ℕ) → In n l → T (mem n l)
unfolding mem
→mem n l i = →any (λ (x : ℕ). eqb x n) l n i (eqb_refl n)

-- ---- the best of a list is one of it

module _ {A : Type 0} (less : A → A → Bool) where
  pub best_in : (b : Option A) (l : List A) (x : A) → best less b l ≡ Some x → (b ≡ Some x) ⊎ In x l
  unfolding best
  best_in b [] x e = inl e
  best_in None (y ∷ l) x e = ⊎_elim (λ q. inr (inl (cc))) (λ i. inr (inr i)) (best_in (Some y) l x e)
  best_in (Some b) (y ∷ l) x e = go (λ c. best_in c l x) (less b y) e
    where
      go : ((c : Option A) → best less c l ≡ Some x → (c ≡ Some x) ⊎ In x l) → (t : Bool) → best less (elim t [ true ↦ Some y | false ↦ Some b ]) l ≡ Some x → (Some b ≡ Some x) ⊎ ((x ≡ y) ⊎ In x l)
      go ih true e = ⊎_elim (λ q. inr (inl (cc))) (λ i. inr (inr i)) (ih (Some y) e)
      go ih false e = ⊎_elim (λ q. inl q) (λ i. inr (inr i)) (ih (Some b) e)

  pub best_some : (b : A) (l : List A) → best less (Some b) l ≡ None → ⊥
  unfolding best
  best_some b [] e = let z : ◌≡◌ {A = ℕ} 0 1 = cc in omega arith
  best_some b (y ∷ l) e = go (λ c. best_some c l) (less b y) e
    where
      go : ((c : A) → best less (Some c) l ≡ None → ⊥) → (t : Bool) → best less (elim t [ true ↦ Some y | false ↦ Some b ]) l ≡ None → ⊥
      go ih true e = ih y e
      go ih false e = ih b e

  pub best_none : (l : List A) → best less None l ≡ None → (x : A) → In x l → ⊥
  unfolding best
  best_none [] e x i = i
  best_none (y ∷ l) e x i = best_some y l e

pub In-map : {A B : Type 0} (f : A → B) (l : List A) (x : A) → In x l → In (f x) (map f l)
In-map f [] x i = absurd i
In-map f (y ∷ l) x (inl e) = inl (ap f e)
In-map f (y ∷ l) x (inr i) = inr (In-map f l x i)

pub map-In : {A B : Type 0} (f : A → B) (l : List A) (y : B) → In y (map f l) → (x : A) × In x l × (y ≡ f x)
map-In f [] y i = absurd i
map-In f (x ∷ l) y (inl e) = (x, inl refl, e)
map-In f (x ∷ l) y (inr i) = let r = map-In f l y i in (r.0, inr r.1, r.2)

-- ---- lists, one after the other
pub append-In : {A : Type 0} (m : A) (s t : List A) → In m (s ++ t) → In m s ⊎ In m t
append-In m [] t i = inr i
append-In m (x ∷ s) t (inl e) = inl (inl e)
append-In m (x ∷ s) t (inr i) = ⊎_elim (λ j. inl (inr j)) (λ j. inr j) (append-In m s t i)

pub In-left : {A : Type 0} (m : A) (s t : List A) → In m s → In m (s ++ t)
In-left m [] t i = absurd i
In-left m (x ∷ s) t (inl e) = inl e
In-left m (x ∷ s) t (inr i) = inr (In-left m s t i)

pub In-right : {A : Type 0} (m : A) (s t : List A) → In m t → In m (s ++ t)
In-right m [] t i = i
In-right m (x ∷ s) t i = inr (In-right m s t i)

pub keep_append : {A : Type 0} (p : A → Bool) (s t : List A) → keep p (s ++ t) ≡ keep p s ++ keep p t
unfolding keep
keep_append p [] t = refl
keep_append p (x ∷ s) t = go (keep_append p s t) (p x)
  where
    go : keep p (s ++ t) ≡ keep p s ++ keep p t → (b : Bool) → cond b (x ∷ keep p (s ++ t)) (keep p (s ++ t)) ≡ cond b (x ∷ keep p s) (keep p s) ++ keep p t
    go ih true = ap (λ (l : List _). x ∷ l) ih
    go ih false = ih

pub map_append : {A B : Type 0} (f : A → B) (s t : List A) → map f (s ++ t) ≡ map f s ++ map f t
map_append f [] t = refl
map_append f (x ∷ s) t = ap (λ (l : List _). f x ∷ l) (map_append f s t)
