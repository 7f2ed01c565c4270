-- THEOREM start_rule: a start is of the unlaid blocks at or over the floor, none of these is above it, and those before it in the plain
-- order are below it. The like of every other choice: the arm that a trace is extended by, the arm back, the way out, the link.
-- Assumes nothing.
use Prim.Native.Nat.{ℕ, ◌≤◌, ◌<◌}
use native.Mathlib.Omega.{arith}
use mathlib.Core.Path.{◌≡◌, refl, sym, ap, ◌∙◌, subst}
use mathlib.Core.Bool.{Bool, true, false, not, ◌&&◌, ◌||◌}
use mathlib.Core.Logic.{◌⊎◌, inl, inr, ⊎_elim}
use mathlib.Core.List.{List, [], ◌∷◌, ◌++◌, map, append_assoc, append-nil}
use Rattle.std.specs.Prelude.{None, Some}
use lib.Dec.{T, eqb, leb, ltb, T_not, not_T, leb→le, le→leb, eqb→eq, eqb_refl, ltb→lt, nltb→le, lt→ltb}
use lib.ListN.{get_or}
use Rattle.limits.specs.Limits.{blocks}
use Rattle.lists.proofs.Choices.{split_lt}
use Rattle.rules.specs.Lists.{keep, best, last_or}
use Rattle.rules.specs.Graph.{Arm, Block, Graph, block_at, cold_at}
use Rattle.rules.specs.Rotate.{back_arm, WayOut, worse, ways_out}
use Rattle.rules.specs.Traces.{fits, lighter, along, Seed, seed_of, below, startable, next_seed}
use Rattle.rules.specs.Join.{Link, looser, links, next_trace}
use Rattle.rules.proofs.Membership.{In, or_cases, or_l, or_r, and_l, and_r, and_i, append-In}

-- what makes the first of the greatest well chosen: `less` is transitive, and what is not above b is below all that b is below
pub record Ranks {A : Type 0} (less : A → A → Bool) : Type 0 where
  pub past : (a b c : A) → T (less a b) → T (less b c) → T (less a c)
  pub level : (a b c : A) → T (not (less a b)) → T (less a c) → T (less b c)

-- x is of the list, those before it are below it, and none after it is above it
pub record Greatest {A : Type 0} (less : A → A → Bool) (l : List A) (x : A) : Type 0 where
  pub earlier : List A
  pub later : List A
  pub whole : l ≡ earlier ++ x ∷ later
  pub below_it : (y : A) → In y earlier → T (less y x)
  pub not_above : (y : A) → In y later → T (not (less x y))

module _ {A : Type 0} (less : A → A → Bool) (k : Ranks less) where
  -- the best so far, with what came before it and after it
  from_best : (b : A) (pre mid l : List A) → ((y : A) → In y pre → T (less y b)) → ((y : A) → In y mid → T (not (less b y))) → (x : A)
      → best less (Some b) l ≡ Some x → Greatest less (pre ++ b ∷ (mid ++ l)) x
  unfolding best
  from_best b pre mid [] h m x e =
      let q : b ≡ x = cc in
      subst (λ (z : A). Greatest less (pre ++ b ∷ (mid ++ [])) z) q
      (record { earlier = pre; later = mid; whole = ap (λ (r : List A). pre ++ b ∷ r) (append-nil mid); below_it = h; not_above = m })
  from_best b pre mid (y ∷ l) h m x e = go (λ c p n i j. from_best c p n l i j x) (less b y) refl e
    where
      R : Type 0
      R = Greatest less (pre ++ b ∷ (mid ++ y ∷ l)) x

      go : ((c : A) (p n : List A) → ((z : A) → In z p → T (less z c)) → ((z : A) → In z n → T (not (less c z))) → best less (Some c) l ≡ Some x → Greatest less (p ++ c ∷ (n ++ l)) x)
          → (t : Bool) → less b y ≡ t → best less (elim t [ true ↦ Some y | false ↦ Some b ]) l ≡ Some x → R
      go ih true q e =
          let up : T (less b y) = rw q tt in
          let r = ih y (pre ++ b ∷ mid) []
          (λ z i. ⊎_elim (λ j. k.past z b y (h z j) up) (λ j. ⊎_elim (λ w. subst (λ (v : A). T (less v y)) (sym w) up) (λ w. k.level b z y (m z w) up) j) (append-In z pre (b ∷ mid) i))
          (λ z i. absurd i) e in
          subst (λ (s : List A). Greatest less s x) (append_assoc pre (b ∷ mid) (y ∷ l)) r
      go ih false q e =
          let r = ih b pre (mid ++ (y ∷ [])) h
          (λ z i. ⊎_elim (λ j. m z j) (λ j. ⊎_elim (λ w. subst (λ (v : A). T (not (less b v))) (sym w) (rw q tt)) (λ w. absurd w) j) (append-In z mid (y ∷ []) i)) e in
          subst (λ (s : List A). Greatest less s x) (ap (λ (s : List A). pre ++ b ∷ s) (append_assoc mid (y ∷ []) l)) r

  pub best_greatest : (l : List A) (x : A) → best less None l ≡ Some x → Greatest less l x
  unfolding best
  best_greatest [] x e = absurd (let z : ◌≡◌ {A = ℕ} 0 1 = cc in omega arith)
  best_greatest (y ∷ l) x e = from_best y [] [] l (λ z i. absurd i) (λ z i. absurd i) x e

-- ---- by one number, then by what breaks its ties
unfoldable lex : {A : Type 0} → (A → ℕ) → (A → A → Bool) → A → A → Bool
lex f less a b = ltb (f a) (f b) || (eqb (f a) (f b) && less a b)

module _ {A : Type 0} (f : A → ℕ) (less : A → A → Bool) where
  lex_cases : (a b : A) → T (lex f less a b) → (f a < f b) ⊎ ((f a ≡ f b) × T (less a b))
  unfolding lex
  lex_cases a b t =
      ⊎_elim (λ h. inl (ltb→lt (f a) (f b) h)) (λ h. inr (eqb→eq (f a) (f b) (and_l (eqb (f a) (f b)) (less a b) h), and_r (eqb (f a) (f b)) (less a b) h))
      (or_cases (ltb (f a) (f b)) (eqb (f a) (f b) && less a b) t)

  lex_less : (a b : A) → f a < f b → T (lex f less a b)
  unfolding lex
  lex_less a b h = or_l (ltb (f a) (f b)) (eqb (f a) (f b) && less a b) (lt→ltb (f a) (f b) h)

  lex_tie : (a b : A) → f a ≡ f b → T (less a b) → T (lex f less a b)
  unfolding lex
  lex_tie a b e t =
      or_r (ltb (f a) (f b)) (eqb (f a) (f b) && less a b) (and_i (eqb (f a) (f b)) (less a b) (subst (λ (x : ℕ). T (eqb (f a) x)) e (eqb_refl (f a))) t)

  lex_ranks : Ranks less → Ranks (lex f less)
  lex_ranks k =
      record {
        past = λ a b c p q. past a b c (lex_cases a b p) (lex_cases b c q);
        level = λ a b c n q. level a b c n (lex_cases a c q);
      }
    where
      past : (a b c : A) → (f a < f b) ⊎ ((f a ≡ f b) × T (less a b)) → (f b < f c) ⊎ ((f b ≡ f c) × T (less b c)) → T (lex f less a c)
      past a b c (inl h) (inl i) = lex_less a c (omega (arith, h, i))
      past a b c (inl h) (inr i) = lex_less a c (omega (arith, h, i.0))
      past a b c (inr h) (inl i) = lex_less a c (omega (arith, h.0, i))
      past a b c (inr h) (inr i) = lex_tie a c (h.0 ∙ i.0) (k.past a b c h.1 i.1)

      not_less : (a b : A) → T (not (lex f less a b)) → f b ≤ f a
      not_less a b n = split_lt (f a) (f b) (λ h. absurd (T_not (lex f less a b) n (lex_less a b h))) (λ h. h)

      level : (a b c : A) → T (not (lex f less a b)) → (f a < f c) ⊎ ((f a ≡ f c) × T (less a c)) → T (lex f less b c)
      level a b c n (inl h) = lex_less b c (omega (arith, h, not_less a b n))
      level a b c n (inr h) =
          split_lt (f b) (f c) (λ i. lex_less b c i)
          (λ i.
          let e : f a ≡ f b = omega (arith, h.0, i, not_less a b n) in
          lex_tie b c (sym e ∙ h.0) (k.level a b c (not_T (less a b) (λ t. T_not (lex f less a b) n (lex_tie a b e t))) h.1))

-- less by a number, more by a number, and not more by a number
less_ranks : {A : Type 0} (f : A → ℕ) → Ranks (λ (a b : A). ltb (f a) (f b))
less_ranks f =
    record {
      past = λ a b c h k. lt→ltb (f a) (f c) (omega (arith, ltb→lt (f a) (f b) h, ltb→lt (f b) (f c) k));
      level = λ a b c n h. lt→ltb (f b) (f c) (omega (arith, nltb→le (f a) (f b) n, ltb→lt (f a) (f c) h));
    }

more_ranks : {A : Type 0} (f : A → ℕ) → Ranks (λ (a b : A). ltb (f b) (f a))
more_ranks f =
    record {
      past = λ a b c h k. lt→ltb (f c) (f a) (omega (arith, ltb→lt (f b) (f a) h, ltb→lt (f c) (f b) k));
      level = λ a b c n h. lt→ltb (f c) (f b) (omega (arith, nltb→le (f b) (f a) n, ltb→lt (f c) (f a) h));
    }

most_ranks : {A : Type 0} (f : A → ℕ) → Ranks (λ (a b : A). leb (f a) (f b))
most_ranks f =
    record {
      past = λ a b c h k. le→leb (f a) (f c) (omega (arith, leb→le (f a) (f b) h, leb→le (f b) (f c) k));
      level = λ a b c n h.
          le→leb (f b) (f c)
          (split_lt (f b) (f a) (λ i. omega (arith, i, leb→le (f a) (f c) h)) (λ i. absurd (T_not (leb (f a) (f b)) n (le→leb (f a) (f b) i))));
    }

pub below_ranks : Ranks below
unfolding below lex
below_ranks = lex_ranks (λ (s : Seed). s.warm) _ (lex_ranks (λ (s : Seed). s.reached) _ (less_ranks (λ (s : Seed). s.weight)))

worse_ranks : Ranks worse
unfolding worse lex
worse_ranks = lex_ranks (λ (w : WayOut). w.preferred) _ (less_ranks (λ (w : WayOut). w.weight))

looser_ranks : Ranks looser
unfolding looser lex
looser_ranks = lex_ranks (λ (k : Link). k.weight) _ (lex_ranks (λ (k : Link). k.long) _ (more_ranks (λ (k : Link). k.index)))

-- ---- THE THEOREM: `o` is the plain order
pub start_rule : (g : Graph) (o laid : List ℕ) (low : ℕ) (e : Seed) → next_seed g o laid low ≡ Some e
    → Greatest below (map (seed_of g laid) (keep (startable g laid low) o)) e
unfolding next_seed
start_rule g o laid low e q = best_greatest below below_ranks (map (seed_of g laid) (keep (startable g laid low) o)) e q

-- "the heaviest arm, first on ties" of those that fit
pub extend_rule : (g : Graph) (laid : List ℕ) (likely low : ℕ) (b : Block) (a : Arm) → along g laid likely low b ≡ Some a
    → Greatest lighter (keep (fits g laid likely low b) b.arms) a
unfolding along
extend_rule g laid likely low b a q = best_greatest lighter (less_ranks (λ (a : Arm). a.weight)) (keep (fits g laid likely low b) b.arms) a q

-- "the last block's heaviest arm, LAST on ties": those before it are not heavier, those after it are lighter
pub back_rule : (b : Block) (a : Arm) → back_arm b ≡ Some a → Greatest (λ (x y : Arm). leb x.weight y.weight) b.arms a
unfolding back_arm
back_rule b a q = best_greatest (λ (x y : Arm). leb x.weight y.weight) (most_ranks (λ (a : Arm). a.weight)) b.arms a q

-- "prefer targets unlaid or starting an earlier trace (as turned), then weight, then first"
pub way_out_rule : (g : Graph) (preferred : ℕ → Bool) (part : List ℕ) (w : WayOut) → best worse None (ways_out g preferred part 0 part) ≡ Some w
    → Greatest worse (ways_out g preferred part 0 part) w
way_out_rule g preferred part w q = best_greatest worse worse_ranks (ways_out g preferred part 0 part) w q

-- "heaviest, then longer trace, then earlier"
pub link_rule : (g : Graph) (ts : List (List ℕ)) (used : List ℕ) (i : ℕ) (k : Link) → next_trace g ts used i ≡ Some k
    → Greatest looser (links g ts used (cold_at g (last_or blocks (get_or ts i []))) (block_at g (last_or blocks (get_or ts i []))).arms) k
unfolding next_trace
link_rule g ts used i k q =
    best_greatest looser looser_ranks (links g ts used (cold_at g (last_or blocks (get_or ts i []))) (block_at g (last_or blocks (get_or ts i []))).arms) k q
