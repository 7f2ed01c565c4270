-- The blocks with another of their piece are those that the rules call looped. Assumes nothing.
use Prim.Native.Nat.{ℕ, ◌+◌, ◌≤◌, ◌<◌}
use native.Mathlib.Omega.{arith}
use mathlib.Core.Path.{◌≡◌, refl, sym, ap, ap₂, ◌∙◌, subst}
use mathlib.Core.Bool.{Bool, true, false, not, ◌&&◌, ◌||◌}
use mathlib.Core.Logic.{inl, inr, ⊎_elim}
use mathlib.Core.List.{List, [], ◌∷◌}
use Rattle.std.specs.List.{list_any}
use Rattle.std.proofs.Common.{get_or-take}
use lib.Dec.{T, eqb, eqb→eq, eqb_refl}
use lib.ListN.{length, get_or, take}
use Rattle.lists.proofs.Choices.{split_lt, same_test}
use Rattle.marks.specs.Sets.{member}
use Rattle.rules.specs.Lists.{any}
use Rattle.rules.specs.Graph as graph
use Rattle.rules.specs.Graph.{numbers_of}
use Rattle.rules.specs.Heads.{together, looped}
use Rattle.rules.proofs.Membership.{In, or_cases, or_l, or_r}
use Rattle.records.specs.declared.Graph.{Graph}
use Rattle.records.specs.Tables.{tabled}
use Rattle.records.proofs.StandLaws.{listed_in, numbers_are}
use Rattle.cycles.specs.Pieces.{PiecesOf}
use Rattle.listing.specs.Loops.{mate, LoopsOf}

-- ---- a test of the blocks by their numbers
any_numbers : (p : ℕ → Bool) (g : graph.Graph) → any (λ (x : graph.Block). p x.number) g ≡ list_any p (numbers_of g)
unfolding any numbers_of
any_numbers p [] = refl
any_numbers p (x ∷ g) = ap (λ (b : Bool). p x.number || b) (any_numbers p g)

any_same : (p q : ℕ → Bool) (l : List ℕ) → ((x : ℕ) → In x l → p x ≡ q x) → list_any p l ≡ list_any q l
any_same p q [] h = refl
any_same p q (x ∷ l) h = ap₂ (λ (a b : Bool). a || b) (h x (inl refl)) (any_same p q l (λ y i. h y (inr i)))

-- ---- by the rule
module _ (t : Graph) (few : t.blocks ≤ length t.b.listed) (piece : List ℕ) (ps : PiecesOf (tabled t) piece) where
  numbers : numbers_of (tabled t) ≡ take t.blocks t.b.listed
  unfolding tabled
  numbers = numbers_are t.b t.a t.blocks few

  number_in : (i : ℕ) → i < t.blocks → In (get_or t.b.listed i 0) (numbers_of (tabled t))
  unfolding tabled
  number_in i h = listed_in t.b t.a i t.blocks h

  mate_looped : (m : ℕ) → In m (numbers_of (tabled t)) → mate t piece m ≡ looped (tabled t) m
  unfolding looped
  mate_looped m j =
      let p : ℕ → Bool = λ k. not (eqb k m) && eqb (get_or piece k 0) (get_or piece m 0) in
      let q : ℕ → Bool = λ k. not (eqb k m) && together (tabled t) m k in
      ap (list_any p) (sym numbers)
      ∙ any_same p q (numbers_of (tabled t)) (λ k i. ap (λ (b : Bool). not (eqb k m) && b) (same_test (eqb (get_or piece k 0) (get_or piece m 0)) (together (tabled t) m k)
      (λ e. (ps.exact m k j i).0 (sym (eqb→eq (get_or piece k 0) (get_or piece m 0) e)))
      (λ u. subst (λ (x : ℕ). T (eqb (get_or piece k 0) x)) (sym ((ps.exact m k j i).1 u)) (eqb_refl (get_or piece k 0)))))
      ∙ sym (any_numbers q (tabled t))

-- ---- marking those that pass a test
pub record Chosen (listed : List ℕ) (p : ℕ → Bool) (i : ℕ) (set : List ℕ) : Type 0 where
  pub sound : (m : ℕ) → T (member set m) → T (p m)
  pub whole : (j : ℕ) → j < i → T (p (get_or listed j 0)) → T (member set (get_or listed j 0))

module _ (listed : List ℕ) (p : ℕ → Bool) where
  pub chosen_none : (set : List ℕ) → ((m : ℕ) → member set m ≡ false) → Chosen listed p 0 set
  chosen_none set e = record { sound = λ m t. absurd (subst T (e m) t); whole = λ j h. absurd (omega (arith, h)) }

  pub chosen_yes : (i : ℕ) (was now : List ℕ) → Chosen listed p i was → ((m : ℕ) → member now m ≡ eqb m (get_or listed i 0) || member was m) → p (get_or listed i 0) ≡ true → Chosen listed p (i + 1) now
  chosen_yes i was now c e y =
      let k = get_or listed i 0 in
      let yes : T (p k) = subst T (sym y) tt in
      record {
        sound = λ m t. ⊎_elim (λ u. subst (λ (x : ℕ). T (p x)) (sym (eqb→eq m k u)) yes) (c.sound m) (or_cases (eqb m k) (member was m) (subst T (e m) t));
        whole = λ j h t. subst T (sym (e (get_or listed j 0)))
            (split_lt j i (λ l. or_r (eqb (get_or listed j 0) k) (member was (get_or listed j 0)) (c.whole j l t))
            (λ l. let z : j ≡ i = omega (arith, h, l) in or_l (eqb (get_or listed j 0) k) (member was (get_or listed j 0)) (subst (λ (x : ℕ). T (eqb (get_or listed j 0) (get_or listed x 0))) z (eqb_refl (get_or listed j 0)))));
      }

  pub chosen_no : (i : ℕ) (was : List ℕ) → Chosen listed p i was → p (get_or listed i 0) ≡ false → Chosen listed p (i + 1) was
  chosen_no i was c n = record {
    sound = c.sound;
    whole = λ j h t. split_lt j i (λ l. c.whole j l t) (λ l. let z : j ≡ i = omega (arith, h, l) in absurd (subst T (ap (λ (x : ℕ). p (get_or listed x 0)) z ∙ n) t));
  }

  pub chosen_all : (n : ℕ) (set : List ℕ) → Chosen listed p n set → (i : ℕ) → i < n → member set (get_or listed i 0) ≡ p (get_or listed i 0)
  chosen_all n set c i h = same_test (member set (get_or listed i 0)) (p (get_or listed i 0)) (c.sound (get_or listed i 0)) (c.whole i h)

-- THE LAW
pub loops_of : (t : Graph) (piece set : List ℕ) → t.blocks ≤ length t.b.listed → Chosen (take t.blocks t.b.listed) (mate t piece) t.blocks set → LoopsOf t piece set
loops_of t piece set few c ps i h =
    let all = chosen_all (take t.blocks t.b.listed) (mate t piece) t.blocks set c i h in
    let here = get_or-take t.blocks t.b.listed i 0 h in
    rw here at all ∙ mate_looped t few piece ps (get_or t.b.listed i 0) (number_in t few piece ps i h)
