-- What is written of an order: its blocks in that order, and bridges numbered up from the first free number. Assumes nothing.
use Prim.Native.Nat.{ℕ, zero, suc, ◌+◌}
use native.Mathlib.Nat.{add-suc, suc-add}
use native.Mathlib.Omega.{arith}
use mathlib.Core.Path.{◌≡◌, refl, sym, ap, ap₂, ◌∙◌}
use mathlib.Core.Bool.{Bool, true, false, not, cond}
use mathlib.Core.Logic.{inl, inr}
use mathlib.Core.List.{List, [], ◌∷◌, ◌++◌, map}
use lib.Dec.{eqb}
use Rattle.limits.specs.Limits.{numbers}
use Rattle.rules.specs.declared.Leaving.{Leaving}
use Rattle.rules.specs.declared.Leaving.TheVariants.{Nothing, Jump, Branch, Exchanged, Bridge}
use Rattle.rules.specs.Lists.{keep, range}
use Rattle.rules.specs.Graph.{Block, Graph, block_at, cold_at}
use Rattle.rules.specs.Split.{splits, warm_part, cold_part, partition}
use Rattle.rules.specs.Exits.{edges, Place, laid_block, bridge_of, new_after, next_in, lay_part, bridges, warm_places, lay}
use Rattle.rules.proofs.Membership.{keep→, keep_append, map_append}
use Rattle.rules.proofs.Counting.{tally_append, tally_split, count, tally_map}
use Rattle.rules.proofs.Wholeness.{Listed}

-- the numbers of the places, of those that are no bridges, and of the bridges
unfoldable pub numbers_in : List Place → List ℕ
numbers_in l = map (λ (p : Place). p.block.number) l

unfoldable pub blocks_in : List Place → List ℕ
unfolding keep
blocks_in l = map (λ (p : Place). p.block.number) (keep (λ (p : Place). not p.is_bridge) l)

unfoldable pub bridges_in : List Place → List ℕ
unfolding keep
bridges_in l = map (λ (p : Place). p.block.number) (keep (λ (p : Place). p.is_bridge) l)

-- ---- one part
pub part_blocks : (g : Graph) (cold : Bool) (new : ℕ) (o : List ℕ) → Listed g o → blocks_in (lay_part g cold new o) ≡ o
unfolding blocks_in lay_part
part_blocks g cold new [] h = refl
part_blocks g cold new (n ∷ l) h =
    go (λ m. part_blocks g cold m l (λ k i. h k (inr i))) (edges (next_in l) (block_at g n).end (block_at g n).arms)
  where
    b : Block
    b = block_at g n

    go : ((m : ℕ) → blocks_in (lay_part g cold m l) ≡ l) → (v : Leaving)
        → blocks_in (laid_block new b v ∷ (bridge_of new cold b v ++ lay_part g cold (new_after new v) l)) ≡ n ∷ l
    go ih Nothing = ap₂ ◌∷◌ (h n (inl refl)) (ih new)
    go ih Jump = ap₂ ◌∷◌ (h n (inl refl)) (ih new)
    go ih Branch = ap₂ ◌∷◌ (h n (inl refl)) (ih new)
    go ih Exchanged = ap₂ ◌∷◌ (h n (inl refl)) (ih new)
    go ih (Bridge i) = ap₂ ◌∷◌ (h n (inl refl)) (ih (suc new))

pub part_bridges : (g : Graph) (cold : Bool) (new : ℕ) (o : List ℕ)
    → bridges_in (lay_part g cold new o) ≡ range new (bridges (lay_part g cold new o))
unfolding bridges_in lay_part bridges range
part_bridges g cold new [] = refl
part_bridges g cold new (n ∷ l) = go (λ m. part_bridges g cold m l) (edges (next_in l) (block_at g n).end (block_at g n).arms)
  where
    rest : Leaving → List Place
    rest v = laid_block new (block_at g n) v ∷ (bridge_of new cold (block_at g n) v ++ lay_part g cold (new_after new v) l)

    go : ((m : ℕ) → bridges_in (lay_part g cold m l) ≡ range m (bridges (lay_part g cold m l))) → (v : Leaving) → bridges_in (rest v) ≡ range new (bridges (rest v))
    go ih Nothing = ih new
    go ih Jump = ih new
    go ih Branch = ih new
    go ih Exchanged = ih new
    go ih (Bridge i) = ap (λ (r : List ℕ). new ∷ r) (ih (suc new))

-- ---- both parts
range_append : (a k j : ℕ) → range a k ++ range (a + k) j ≡ range a (k + j)
unfolding range
range_append a zero j = let e : a + 0 ≡ a = omega arith in let f : 0 + j ≡ j = omega arith in ap₂ range e (sym f)
range_append a (suc k) j =
    rw (suc-add k j) (ap (λ (l : List ℕ). a ∷ l) (ap (λ (x : ℕ). range (suc a) k ++ range x j) (add-suc a k ∙ sym (suc-add a k)) ∙ range_append (suc a) k j))

bridges_append : (s t : List Place) → bridges (s ++ t) ≡ bridges s + bridges t
unfolding bridges
bridges_append [] t = omega arith
bridges_append (p ∷ s) t = go (bridges_append s t) p.is_bridge
  where
    go : bridges (s ++ t) ≡ bridges s + bridges t → (b : Bool) → cond b (suc (bridges (s ++ t))) (bridges (s ++ t)) ≡ cond b (suc (bridges s)) (bridges s) + bridges t
    go ih true = omega arith
    go ih false = ih

module _ (g : Graph) (o : List ℕ) where
  w : List Place
  w = warm_places g o

  c : List Place
  c = lay_part g true (numbers + bridges (warm_places g o)) (cold_part g o)

  pub lay_blocks : Listed g o → blocks_in (lay g o) ≡ partition g o
  unfolding lay partition blocks_in warm_places warm_part cold_part w c
  lay_blocks h = go (splits g)
    where
      go : (b : Bool) → blocks_in (elim b as (λ (x : Bool). List Place) [ false ↦ lay_part g false numbers o | true ↦ w ++ c ])
          ≡ (elim b as (λ (x : Bool). List ℕ) [ false ↦ o | true ↦ warm_part g o ++ cold_part g o ])
      go false = part_blocks g false numbers o h
      go true =
          ap (map (λ (p : Place). p.block.number)) (keep_append (λ (p : Place). not p.is_bridge) w c)
          ∙ map_append (λ (p : Place). p.block.number) (keep (λ (p : Place). not p.is_bridge) w) (keep (λ (p : Place). not p.is_bridge) c)
          ∙ ap₂ ◌++◌
          (part_blocks g false numbers (warm_part g o) (λ n i. h n (keep→ (λ (n : ℕ). not (cold_at g n)) o n i).0))
          (part_blocks g true (numbers + bridges w) (cold_part g o) (λ n i. h n (keep→ (cold_at g) o n i).0))

  pub lay_bridges : bridges_in (lay g o) ≡ range numbers (bridges (lay g o))
  unfolding lay bridges_in warm_places w c
  lay_bridges = go (splits g)
    where
      go : (b : Bool) → bridges_in (elim b as (λ (x : Bool). List Place) [ false ↦ lay_part g false numbers o | true ↦ w ++ c ])
          ≡ range numbers (bridges (elim b as (λ (x : Bool). List Place) [ false ↦ lay_part g false numbers o | true ↦ w ++ c ]))
      go false = part_bridges g false numbers o
      go true =
          ap (map (λ (p : Place). p.block.number)) (keep_append (λ (p : Place). p.is_bridge) w c)
          ∙ map_append (λ (p : Place). p.block.number) (keep (λ (p : Place). p.is_bridge) w) (keep (λ (p : Place). p.is_bridge) c)
          ∙ ap₂ ◌++◌ (part_bridges g false numbers (warm_part g o)) (part_bridges g true (numbers + bridges w) (cold_part g o))
          ∙ range_append numbers (bridges w) (bridges c)
          ∙ ap (range numbers) (sym (bridges_append w c))

pub partition_count : (g : Graph) (o : List ℕ) (n : ℕ) → count n (partition g o) ≡ count n o
unfolding partition count warm_part cold_part
partition_count g o n = go (splits g)
  where
    go : (b : Bool) → count n (elim b as (λ (x : Bool). List ℕ) [ false ↦ o | true ↦ warm_part g o ++ cold_part g o ]) ≡ count n o
    go false = refl
    go true = tally_split (λ (x : ℕ). eqb x n) (cold_at g) o

pub places_count : (l : List Place) (n : ℕ) → count n (numbers_in l) ≡ count n (blocks_in l) + count n (bridges_in l)
unfolding count numbers_in blocks_in bridges_in
places_count l n =
    let f : Place → ℕ = λ p. p.block.number in
    let q : Place → Bool = λ p. eqb p.block.number n in
    let s = keep (λ (p : Place). not p.is_bridge) l in
    let t = keep (λ (p : Place). p.is_bridge) l in
    omega (
      arith,
      tally_map (λ (x : ℕ). eqb x n) f l,
      tally_map (λ (x : ℕ). eqb x n) f s,
      tally_map (λ (x : ℕ). eqb x n) f t,
      tally_append q s t,
      tally_split q (λ (p : Place). p.is_bridge) l,
    )
