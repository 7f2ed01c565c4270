-- The best of a list of blocks as starts, and that it is the start that the rules find. Assumes nothing.
use Prim.Native.Nat.{ℕ}
use mathlib.Core.Path.{◌≡◌, refl, sym, ap, ◌∙◌}
use mathlib.Core.Bool.{Bool, true, false, not, cond, ◌&&◌, true≢false}
use mathlib.Core.Logic.{◌⊎◌, inl, inr, ⊎_elim}
use mathlib.Core.List.{List, [], ◌∷◌, map}
use Rattle.std.specs.Prelude.{Option, None, Some, filter, fold}
use lib.Dec.{leb}
use lib.ListN.{get_or}
use Rattle.rules.specs.Lists.{keep, best}
use Rattle.rules.specs.Graph as graph
use Rattle.rules.specs.Graph.{is_cold}
use Rattle.rules.specs.Traces.{Seed, seed_of, below, startable, next_seed}
use Rattle.rules.proofs.Membership.{In}
use Rattle.records.specs.declared.Blocks.{Blocks}
use Rattle.records.specs.declared.Graph.{Graph}
use Rattle.records.specs.Tables.{tabled, Carried}
use Rattle.marks.specs.Sets.{member}
use Rattle.flow.specs.Lent.{Of, Marks}
use Rattle.flow.proofs.SoundLaws.{weight_is, cold_is}
use Rattle.seeds.specs.Reached.{Reached}
use Rattle.seeds.specs.Starts.{seed_by, startable_by, ahead, best_of, Among, block_of, StartsAt}

-- ---- the best of those that pass a test
module _ (p : ℕ → Bool) (seed : ℕ → Seed) where
  ahead_one : (o : Option ℕ) (x n : ℕ) → ahead seed o x ≡ Some n → (o ≡ Some n) ⊎ (n ≡ x)
  unfolding ahead
  ahead_one None x n e = inr (cc)
  ahead_one (Some y) x n e = go (below (seed y) (seed x)) e
    where
      go : (t : Bool) → cond t (Some x) (Some y) ≡ Some n → (Some y ≡ Some n) ⊎ (n ≡ x)
      go true e = inr (cc)
      go false e = inl e

  -- it is one of them, or the best before
  one_of : (o : Option ℕ) (l : List ℕ) (n : ℕ) → fold (ahead seed) o (filter p l) ≡ Some n → (o ≡ Some n) ⊎ (In n l × (p n ≡ true))
  one_of o [] n e = inl e
  one_of o (x ∷ l) n e = go (p x) refl (λ r. one_of r l n) e
    where
      go : (t : Bool) → p x ≡ t → ((r : Option ℕ) → fold (ahead seed) r (filter p l) ≡ Some n → (r ≡ Some n) ⊎ (In n l × (p n ≡ true)))
          → fold (ahead seed) o (cond t (x ∷ filter p l) (filter p l)) ≡ Some n → (o ≡ Some n) ⊎ (In n (x ∷ l) × (p n ≡ true))
      go true t ih q = ⊎_elim
          (λ h. ⊎_elim (λ z. inl z) (λ z. inr (inl z, ap p z ∙ t)) (ahead_one o x n h))
          (λ h. inr (inr h.0, h.1)) (ih (ahead seed o x) q)
      go false t ih q = ⊎_elim (λ h. inl h) (λ h. inr (inr h.0, h.1)) (ih o q)

  -- the seed of a start
  seed_in : Option ℕ → Option Seed
  seed_in None = None
  seed_in (Some n) = Some (seed n)

  best_more : (o : Option ℕ) (n : ℕ) (l : List Seed) → best below (seed_in (ahead seed o n)) l ≡ best below (seed_in o) (seed n ∷ l)
  unfolding best ahead seed_in
  best_more None n l = refl
  best_more (Some x) n l = go (below (seed x) (seed n))
    where
      go : (t : Bool) → best below (seed_in (cond t (Some n) (Some x))) l ≡ best below (elim t [ true ↦ Some (seed n) | false ↦ Some (seed x) ]) l
      go true = refl
      go false = refl

  -- it is the rules' best of their seeds
  best_is : (o : Option ℕ) (l : List ℕ) → seed_in (fold (ahead seed) o (filter p l)) ≡ best below (seed_in o) (map seed (keep p l))
  unfolding keep best
  best_is o [] = refl
  best_is o (n ∷ l) = go (p n) (λ r. best_is r l)
    where
      go : (t : Bool) → ((r : Option ℕ) → seed_in (fold (ahead seed) r (filter p l)) ≡ best below (seed_in r) (map seed (keep p l)))
          → seed_in (fold (ahead seed) o (cond t (n ∷ filter p l) (filter p l))) ≡ best below (seed_in o) (map seed (cond t (n ∷ keep p l) (keep p l)))
      go true ih = ih (ahead seed o n) ∙ best_more o n (map seed (keep p l))
      go false ih = ih o

-- ---- in a graph that has the tables
map_same : (p q : ℕ → Bool) (f h : ℕ → Seed) (l : List ℕ) → ((n : ℕ) → In n l → p n ≡ q n) → ((n : ℕ) → In n l → f n ≡ h n) → map f (keep p l) ≡ map h (keep q l)
unfolding keep
map_same p q f h [] t s = refl
map_same p q f h (n ∷ l) t s = rw (t n (inl refl)) (go (q n) (map_same p q f h l (λ m i. t m (inr i)) (λ m i. s m (inr i))))
  where
    go : (b : Bool) → map f (keep p l) ≡ map h (keep q l) → map f (cond b (n ∷ keep p l) (keep p l)) ≡ map h (cond b (n ∷ keep q l) (keep q l))
    go true ih = rw (s n (inl refl), ih) refl
    go false ih = ih

module _ {t : Graph} (b : Blocks) (marks : t.b.marks ≡ b.marks) (weights : t.b.weight ≡ b.weight) (s : Carried t) (seen laid : List ℕ) (m : Marks seen laid)
    (reached : List ℕ) (h : Reached t laid reached) (low n : ℕ) (i : Of t n) where
  heavy : (graph.block_at (tabled t) n).weight ≡ get_or b.weight n 0
  heavy = weight_is s n i ∙ ap (λ (l : List ℕ). get_or l n 0) weights

  startable_same : startable_by b seen low n ≡ startable (tabled t) laid low n
  unfolding startable_by startable
  startable_same = rw (m n, heavy) refl

  seed_same : seed_by b reached n ≡ seed_of (tabled t) laid n
  unfolding seed_by seed_of
  seed_same = rw (cold_is s n i ∙ ap (λ (l : List ℕ). is_cold (get_or l n 0)) marks, heavy, sym (h n i)) refl

module _ (b : Blocks) (seen reached : List ℕ) (low : ℕ) (order : List ℕ) where
  pub best_among : Among order seen (best_of b seen reached low order)
  unfolding best_of startable_by
  best_among n e = ⊎_elim (λ z. absurd (cc)) (λ h. (h.0, free (member seen n) h.1)) (one_of (startable_by b seen low) (seed_by b reached) None order n e)
    where
      free : (t : Bool) → not t && leb low (get_or b.weight n 0) ≡ true → t ≡ false
      free true q = absurd (true≢false (sym q))
      free false q = refl

  block_is : (o : Option ℕ) → block_of (seed_in (startable_by b seen low) (seed_by b reached) o) ≡ o
  unfolding block_of seed_in seed_by
  block_is None = refl
  block_is (Some n) = refl

  pub best_starts : StartsAt b order seen reached low (best_of b seen reached low order)
  unfolding next_seed seed_in best_of
  best_starts t z w s o laid m h =
      sym (block_is (best_of b seen reached low order)) ∙ ap block_of (best_is (startable_by b seen low) (seed_by b reached) None order)
      ∙ ap (λ (l : List Seed). block_of (best below None l))
      (map_same (startable_by b seen low) (startable (tabled t) laid low) (seed_by b reached) (seed_of (tabled t) laid) order
      (λ n i. startable_same b z w s seen laid m reached h low n (o n i)) (λ n i. seed_same b z w s seen laid m reached h low n (o n i)))
