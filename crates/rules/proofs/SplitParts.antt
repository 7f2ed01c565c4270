-- THEOREMS split_parts and warm_first: with a warm entry and a cold block the warm blocks come first and then the cold ones, each in
-- their order, every place before the split warm and every place from it on cold; otherwise nothing moves, there is no split, and
-- no bridge is cold. Assumes nothing.
use Prim.Native.Nat.{ℕ, suc, ◌+◌}
use mathlib.Core.Path.{◌≡◌, refl, sym, ap, ◌∙◌, subst}
use mathlib.Core.Bool.{Bool, true, false, not, cond, true≢false}
use mathlib.Core.Logic.{inl, inr}
use mathlib.Core.List.{List, [], ◌∷◌, ◌++◌}
use lib.Dec.{T}
use lib.ListN.{length}
use Rattle.limits.specs.Limits.{numbers, no_split}
use Rattle.rules.specs.declared.Leaving.{Leaving}
use Rattle.rules.specs.declared.Leaving.TheVariants.{Nothing, Jump, Branch, Exchanged, Bridge}
use Rattle.rules.specs.Graph.{Graph, bit, is_cold, block_at, cold_at, with_arms}
use Rattle.rules.specs.Split.{splits, warm_part, cold_part}
use Rattle.rules.specs.Exits.{edges, Place, laid_block, bridge_for, bridge_of, new_after, next_in, lay_part, bridges, warm_places, lay, split_place}
use Rattle.rules.proofs.Membership.{In, T→≡, F→≡, keep→}
use Rattle.rules.proofs.Wholeness.{Listed}
use Rattle.rules.proofs.Written.{blocks_in, part_blocks}

-- every place of the list is cold, or none is
abbrev pub All : Bool → List Place → Type 0
All cold l = (p : Place) → In p l → is_cold p.block.marks ≡ cold

part_marks : (g : Graph) (cold : Bool) (new : ℕ) (o : List ℕ) → ((n : ℕ) → In n o → cold_at g n ≡ cold) → All cold (lay_part g cold new o)
unfolding lay_part laid_block bridge_of bridge_for with_arms cold_at is_cold bit
part_marks g cold new [] h p i = absurd i
part_marks g cold new (n ∷ l) h p i =
    go (λ m. part_marks g cold m l (λ k j. h k (inr j)) p) (edges (next_in l) (block_at g n).end (block_at g n).arms) i
  where
    bridge : (c : Bool) → is_cold (cond c 2 0) ≡ c
    bridge true = refl
    bridge false = refl

    go : ((m : ℕ) → In p (lay_part g cold m l) → is_cold p.block.marks ≡ cold) → (v : Leaving)
        → In p (laid_block new (block_at g n) v ∷ (bridge_of new cold (block_at g n) v ++ lay_part g cold (new_after new v) l)) → is_cold p.block.marks ≡ cold
    go ih v (inl e) = ap (λ (q : Place). is_cold q.block.marks) e ∙ h n (inl refl)
    go ih Nothing (inr j) = ih new j
    go ih Jump (inr j) = ih new j
    go ih Branch (inr j) = ih new j
    go ih Exchanged (inr j) = ih new j
    go ih (Bridge k) (inr (inl e)) = ap (λ (q : Place). is_cold q.block.marks) e ∙ bridge cold
    go ih (Bridge k) (inr (inr j)) = ih (suc new) j

bridge_marks : (g : Graph) (new : ℕ) (o : List ℕ) (p : Place) → In p (lay_part g false new o) → p.is_bridge ≡ true → is_cold p.block.marks ≡ false
unfolding lay_part laid_block bridge_of bridge_for is_cold bit
bridge_marks g new [] p i b = absurd i
bridge_marks g new (n ∷ l) p i b = go (λ m j. bridge_marks g m l p j b) (edges (next_in l) (block_at g n).end (block_at g n).arms) i
  where
    go : ((m : ℕ) → In p (lay_part g false m l) → is_cold p.block.marks ≡ false) → (v : Leaving)
        → In p (laid_block new (block_at g n) v ∷ (bridge_of new false (block_at g n) v ++ lay_part g false (new_after new v) l)) → is_cold p.block.marks ≡ false
    go ih v (inl e) = absurd (true≢false (sym b ∙ ap (λ (q : Place). q.is_bridge) e))
    go ih Nothing (inr j) = ih new j
    go ih Jump (inr j) = ih new j
    go ih Branch (inr j) = ih new j
    go ih Exchanged (inr j) = ih new j
    go ih (Bridge k) (inr (inl e)) = ap (λ (q : Place). is_cold q.block.marks) e
    go ih (Bridge k) (inr (inr j)) = ih (suc new) j

module _ (g : Graph) (o : List ℕ) where
  pub record Parts : Type 0 where
    pub warm : List Place
    pub cold : List Place
    pub whole : lay g o ≡ warm ++ cold
    -- each in its order
    pub warm_order : blocks_in warm ≡ warm_part g o
    pub cold_order : blocks_in cold ≡ cold_part g o
    pub warm_first : All false warm
    pub cold_last : All true cold
    pub split : split_place g o ≡ length warm

  pub split_parts : Listed g o → T (splits g) → Parts
  unfolding lay split_place warm_places warm_part cold_part
  split_parts h t =
      record {
        warm = warm_places g o;
        cold = lay_part g true (numbers + bridges (warm_places g o)) (cold_part g o);
        whole = rw (T→≡ (splits g) t, lay) refl;
        warm_order = part_blocks g false numbers (warm_part g o) (λ n i. h n (keep→ (λ (n : ℕ). not (cold_at g n)) o n i).0);
        cold_order = part_blocks g true (numbers + bridges (warm_places g o)) (cold_part g o) (λ n i. h n (keep→ (cold_at g) o n i).0);
        warm_first = part_marks g false numbers (warm_part g o) (λ n i. F→≡ (cold_at g n) (keep→ (λ (n : ℕ). not (cold_at g n)) o n i).1);
        cold_last = part_marks g true (numbers + bridges (warm_places g o)) (cold_part g o) (λ n i. T→≡ (cold_at g n) (keep→ (cold_at g) o n i).1);
        split = rw (T→≡ (splits g) t) refl;
      }

  pub record Undivided : Type 0 where
    pub order : blocks_in (lay g o) ≡ o
    pub split : split_place g o ≡ no_split
    pub no_cold_bridge : (p : Place) → In p (lay g o) → p.is_bridge ≡ true → is_cold p.block.marks ≡ false

  pub no_split_lem : Listed g o → T (not (splits g)) → Undivided
  unfolding lay split_place
  no_split_lem h t =
      let e : lay g o ≡ lay_part g false numbers o = rw (F→≡ (splits g) t, lay) refl in
      record {
        order = ap blocks_in e ∙ part_blocks g false numbers o h;
        split = rw (F→≡ (splits g) t) refl;
        no_cold_bridge = λ p i. bridge_marks g numbers o p (subst (λ (l : List Place). In p l) e i);
      }
