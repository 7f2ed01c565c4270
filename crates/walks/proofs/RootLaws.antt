-- The walk from each listed block sees all that are listed, and nothing else. Assumes nothing.
use Rattle.std.proofs.Common.{ℕ, ◌+◌, ◌≤◌, ◌<◌, ◌≡◌, ◌⊎◌, inl, inr, List, [], ◌∷◌, ◌++◌, length, get_or, take, refl, sym, subst, arith}
use Rattle.std.specs.Prelude.{None, Some}
use Rattle.std.proofs.lemmas.List.{take_more, take_all}
use mathlib.Core.Logic.{⊎_elim}
use Rattle.lists.proofs.Choices.{same_test}
use Rattle.rules.specs.Lists.{foldl, mem}
use Rattle.rules.specs.Graph.{Graph, numbers_of, entry}
use Rattle.rules.specs.PlainOrder.{Walk, visit}
use Rattle.rules.proofs.Membership.{In, mem→, →mem, append-In}
use Rattle.rules.proofs.PlainVisit.{nothing, todo, unseen, unseen_mono}
use Rattle.rules.proofs.FinishOrder.{Leads, Inv, done_mono, leads_listed, visits}
use Rattle.walks.specs.declared.Walk as walked
use Rattle.walks.specs.Walking.{Shows, Visited, entered, all_visited}
use Rattle.walks.proofs.TurnLaws.{get_or-In}
use Rattle.walks.proofs.VisitLaws.{unseen_most}

pub foldl_last : (f : Walk → ℕ → Walk) (w : Walk) (l : List ℕ) (x : ℕ) → foldl f w (l ++ x ∷ []) ≡ f (foldl f w l) x
unfolding foldl
foldl_last f w [] x = refl
foldl_last f w (y ∷ l) x = foldl_last f (f w y) l x

module _ (g : Graph) (listed : (n : ℕ) → In n (numbers_of g) → (c : ℕ) → In c (todo g n) → In c (numbers_of g)) where
  record Over (v : Walk) : Type 0 where
    inv : Inv g v
    over : (m : ℕ) → In m v.seen → In m v.done
    low : (m : ℕ) → In m v.done → In m (numbers_of g)

  roots : (k : ℕ) (l : List ℕ) → ((c : ℕ) → In c l → In c (numbers_of g)) → (u : Walk) → unseen g u ≤ k → Over u →
      Over (foldl (visit g k) u l) × ((c : ℕ) → In c u.seen ⊎ In c l → In c (foldl (visit g k) u l).seen)
  unfolding foldl
  roots k [] s u q i = (i, λ c j. ⊎_elim (λ p. p) (λ p. absurd p) j)
  roots k (x ∷ l) s u q i =
      let a = visits g listed k u x (s x (inl refl)) q i.inv in
      let v = visit g k u x in
      let b = roots k l (λ c j. s c (inr j)) v (omega (arith, unseen_mono g u v a.0.mono))
      (record {
        inv = a.0.inv;
        over = λ m j. ⊎_elim (λ p. p) (λ p. done_mono g (Leads g x) u v a.0 m (i.over m p)) (a.0.ends m j);
        low = λ m j. ⊎_elim (λ p. leads_listed g listed x (s x (inl refl)) m (a.0.leads m p)) (i.low m) (append-In m a.0.new u.done (subst (λ (r : List ℕ). In m r) a.0.split j));
      }) in
      (b.0, λ c j. ⊎_elim (λ p. b.1 c (inl (a.0.mono c p))) (λ p. ⊎_elim (λ e. b.1 c (inl (subst (λ (y : ℕ). In y v.seen) (sym e) a.1))) (λ r. b.1 c (inr r)) p) j)

  pub all_seen : (m : ℕ) → mem m (all_visited g).seen ≡ mem m (numbers_of g)
  unfolding all_visited
  all_seen m =
      let v = foldl (visit g (length g)) nothing (numbers_of g) in
      let z = roots (length g) (numbers_of g) (λ c j. j) nothing (unseen_most g nothing)
      (record { inv = record { good = tt; shut = λ v j. absurd j }; over = λ m j. absurd j; low = λ m j. absurd j }) in
      same_test (mem m v.seen) (mem m (numbers_of g))
      (λ t. →mem m (numbers_of g) (z.0.low m (z.0.over m (mem→ m v.seen t))))
      (λ t. →mem m v.seen (z.1 m (inr (mem→ m (numbers_of g) t))))

-- ---- what the code makes of them
pub root_in : (g : Graph) (l : List ℕ) → numbers_of g ≡ l → (i : ℕ) → i < length l → In (get_or l i 0) (numbers_of g)
root_in g l is i h = subst (λ (k : List ℕ). In (get_or l i 0) k) (sym is) (get_or-In l i h)

module _ (g : Graph) {w : walked.Walk} where
  pub entered_none : entry g ≡ None → Shows nothing w → Shows (entered g) w
  unfolding entered
  entered_none e h = rw (e, entered) h

  pub entered_some : (n : ℕ) → entry g ≡ Some n → Shows (visit g (length g) nothing n) w → Shows (entered g) w
  unfolding entered
  entered_some n e h = rw (e, entered) h

  module _ (l : List ℕ) (is : numbers_of g ≡ l) where
    pub visited_more : (i : ℕ) (w' : walked.Walk) → i < length l → Shows (foldl (visit g (length g)) nothing (take i l)) w → Visited g (get_or l i 0) w w' → Shows (foldl (visit g (length g)) nothing (take (i + 1) l)) w'
    visited_more i w' h a v =
        let u = foldl (visit g (length g)) nothing (take i l) in
        rw (take_more l i 0 h, foldl_last (visit g (length g)) nothing (take i l) (get_or l i 0)) (v u a)

    pub visited_end : (i : ℕ) → length l ≤ i → Shows (foldl (visit g (length g)) nothing (take i l)) w → Shows (all_visited g) w
    unfolding all_visited
    visited_end i h a = rw (is, ← take_all i l h) a
