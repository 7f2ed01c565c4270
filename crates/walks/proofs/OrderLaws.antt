-- The order that a walk leaves: what is finished, turned, and behind it what is not marked. Assumes nothing.
use Rattle.std.proofs.Common.{ℕ, zero, suc, ◌+◌, ◌≤◌, ◌<◌, ◌≡◌, Bool, true, false, not, cond, List, [], ◌∷◌, ◌++◌, append-nil, append_assoc, length, get_or, take, refl, sym, ap, ◌∙◌, arith, length-append}
use Rattle.std.proofs.lemmas.List.{take_all, take_more}
use Rattle.limits.specs.Limits.{blocks}
use Rattle.marks.specs.Sets.{member}
use Rattle.rules.specs.Lists.{keep}
use Rattle.rules.proofs.Membership.{keep_append}
use Rattle.records.specs.declared.Order.{Order}
use Rattle.records.specs.Tables.{in_order}

-- those of a list that pass a test, one more at a time
module _ (p : ℕ → Bool) (l : List ℕ) (i : ℕ) (h : i < length l) where
  keep_next : (b : Bool) → p (get_or l i 0) ≡ b → keep p (take (i + 1) l) ≡ keep p (take i l) ++ cond b (get_or l i 0 ∷ []) []
  unfolding keep
  keep_next b e =
      ap (keep p) (take_more l i 0 h) ∙ keep_append p (take i l) (get_or l i 0 ∷ []) ∙ ap (λ (c : Bool). keep p (take i l) ++ cond c (get_or l i 0 ∷ []) []) e

  pub keep_yes : p (get_or l i 0) ≡ true → keep p (take (i + 1) l) ≡ keep p (take i l) ++ get_or l i 0 ∷ []
  keep_yes e = keep_next true e

  pub keep_no : p (get_or l i 0) ≡ false → keep p (take (i + 1) l) ≡ keep p (take i l)
  keep_no e = keep_next false e ∙ append-nil (keep p (take i l))

-- more of the list has no fewer
pub keep_grows : (p : ℕ → Bool) (l : List ℕ) (i : ℕ) → length (keep p (take i l)) ≤ length (keep p l)
unfolding keep
keep_grows p l zero = omega arith
keep_grows p [] (suc i) = omega arith
keep_grows p (x ∷ l) (suc i) = go (keep_grows p l i) (p x)
  where
    go : length (keep p (take i l)) ≤ length (keep p l) → (b : Bool) → length (cond b (x ∷ keep p (take i l)) (keep p (take i l))) ≤ length (cond b (x ∷ keep p l) (keep p l))
    go ih true = omega (arith, ih)
    go ih false = ih

-- two tests that say the same keep the same
pub keep_same : (p q : ℕ → Bool) (l : List ℕ) → ((m : ℕ) → p m ≡ q m) → keep p l ≡ keep q l
unfolding keep
keep_same p q [] h = refl
keep_same p q (x ∷ l) h = rw (h x, keep_same p q l h)

pub keep_every : (p : ℕ → Bool) (l : List ℕ) → ((m : ℕ) → p m ≡ true) → keep p l ≡ l
unfolding keep
keep_every p [] h = refl
keep_every p (x ∷ l) h = rw (h x, keep_every p l h)

-- ---- what is put behind an order
-- those of the first i of l that are not in the set stand behind the order o₀
pub record Behind (seen l : List ℕ) (o₀ o : Order) (i : ℕ) : Type 0 where
  pub is : in_order o ≡ in_order o₀ ++ keep (λ (m : ℕ). not (member seen m)) (take i l)
  pub long : o.len ≡ o₀.len + length (keep (λ (m : ℕ). not (member seen m)) (take i l))

module _ (seen l : List ℕ) (o₀ : Order) where
  abbrev p : ℕ → Bool
  p m = not (member seen m)

  pub behind_start : Behind seen l o₀ o₀ 0
  unfolding keep
  behind_start = record { is = sym (append-nil (in_order o₀)); long = omega arith }

  module _ (o : Order) (i : ℕ) (b : Behind seen l o₀ o i) (h : i < length l) where
    pub behind_no : member seen (get_or l i 0) ≡ true → Behind seen l o₀ o (i + 1)
    behind_no e = let e = keep_no p l i h (ap not e) in record { is = rw e b.is; long = rw e b.long }

    module _ (e : member seen (get_or l i 0) ≡ false) where
      more : keep p (take (i + 1) l) ≡ keep p (take i l) ++ get_or l i 0 ∷ []
      more = keep_yes p l i h (ap not e)

      -- there is room for one more
      pub behind_room : o₀.len + length (keep p l) ≤ blocks → o.len < blocks
      behind_room m = omega (arith, b.long, keep_grows p l (i + 1), m, ap length more, length-append (keep p (take i l)) (get_or l i 0 ∷ []))

      pub behind_yes : (o' : Order) → in_order o' ≡ in_order o ++ get_or l i 0 ∷ [] → o'.len ≡ o.len + 1 → Behind seen l o₀ o' (i + 1)
      behind_yes o' e n = record {
        is =
            e
            ∙ ap (λ (s : List ℕ). s ++ get_or l i 0 ∷ []) b.is
            ∙ append_assoc (in_order o₀) (keep p (take i l)) (get_or l i 0 ∷ [])
            ∙ ap (λ (s : List ℕ). in_order o₀ ++ s) (sym more);
        long = omega (arith, b.long, n, ap length more, length-append (keep p (take i l)) (get_or l i 0 ∷ []));
      }

  pub behind_end : (o : Order) (i : ℕ) → Behind seen l o₀ o i → length l ≤ i → (in_order o ≡ in_order o₀ ++ keep p l) × (o.len ≡ o₀.len + length (keep p l))
  behind_end o i b h = let e = take_all i l h in (rw e at b.is, rw e at b.long)
