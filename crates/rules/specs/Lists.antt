-- The small functions on lists that the rules are written with.
use Rattle.std.specs.Prelude.{ℕ, zero, suc, true, false, ◌&&◌, ◌||◌, List, [], ◌∷◌, ◌++◌, eqb, Option, None, Some}
use Rattle.std.proofs.Math.Bool.{Bool, cond}

module _ {A : Type 0} where
  -- a choice that stays shut: name it on an `unfolding` line where it is to compute
  unfoldable pub pick : Bool → A → A → A
  pick c x y = cond c x y

  -- those that pass the test, in their order
  unfoldable pub keep : (A → Bool) → List A → List A
  keep p [] = []
  keep p (x ∷ l) = let r = keep p l in cond (p x) (x ∷ r) r

  -- one passes the test
  unfoldable pub any : (A → Bool) → List A → Bool
  any p [] = false
  any p (x ∷ l) = let r = any p l in p x || r

  -- all pass the test
  unfoldable pub all : (A → Bool) → List A → Bool
  all p [] = true
  all p (x ∷ l) = let r = all p l in p x && r

  -- the first that passes the test, or d
  unfoldable pub find : (A → Bool) → A → List A → A
  find p d [] = d
  find p d (x ∷ l) = let r = find p d l in cond (p x) x r

  -- the greatest, the first on ties: of the best so far and a list
  unfoldable pub best : (A → A → Bool) → Option A → List A → Option A
  best less b [] = b
  best less None (x ∷ l) = best less (Some x) l
  best less (Some b) (x ∷ l) = best less (elim (less b x) [ true ↦ Some x | false ↦ Some b ]) l

  -- the first and the last, or d
  unfoldable pub first_or : A → List A → A
  first_or d [] = d
  first_or d (x ∷ l) = x

  -- the last of the list, or a given one
  unfoldable pub last_or : A → List A → A
  last_or d [] = d
  last_or d (x ∷ []) = x
  last_or d (x ∷ y ∷ l) = last_or d (y ∷ l)

  -- lists, one after the other
  unfoldable pub concat : List (List A) → List A
  concat [] = []
  concat (x ∷ l) = x ++ concat l

module _ {A B : Type 0} where
  -- one after the other, from the left
  unfoldable pub foldl : (B → A → B) → B → List A → B
  foldl f b [] = b
  foldl f b (x ∷ l) = foldl f (f b x) l

-- n is one of the list
unfoldable pub mem : ℕ → List ℕ → Bool
unfolding any
mem n l = any (λ (x : ℕ). eqb x n) l

-- k numbers from a up
unfoldable pub range : ℕ → ℕ → List ℕ
range a zero = []
range a (suc k) = a ∷ range (suc a) k
