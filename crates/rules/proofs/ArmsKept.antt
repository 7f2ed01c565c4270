-- THEOREM arms_kept: the laid list is the blocks of the order, each with the arms that it had, or the first two exchanged, or one
-- taken by a bridge that stands directly after it; passed through the bridge, that arm is the block's own. Assumes nothing.
use Prim.Native.Nat.{ℕ, zero, suc, ◌+◌, ◌<◌}
use native.Mathlib.Omega.{arith}
use mathlib.Core.Path.{◌≡◌, refl, ap}
use mathlib.Core.Bool.{Bool, true, false}
use mathlib.Core.Logic.{◌⊎◌, inl, inr}
use mathlib.Core.List.{List, [], ◌∷◌, ◌++◌}
use Rattle.std.specs.Prelude.{Option}
use lib.ListN.{length, get_or}
use Rattle.limits.specs.Limits.{numbers}
use Rattle.rules.specs.declared.Leaving.{Leaving}
use Rattle.rules.specs.declared.Leaving.TheVariants.{Nothing, Jump, Branch, Exchanged, Bridge}
use Rattle.rules.specs.Graph.{Arm, Block, Graph, block_at, with_arms}
use Rattle.rules.specs.Split.{splits, warm_part, cold_part, partition}
use Rattle.rules.specs.Exits.{edges, Place, no_arm, set_arm, swapped, arms_left, laid_block, bridge_for, bridge_of, new_after, next_in, lay_part, bridges, warm_places, lay}
use Rattle.rules.specs.Laid.{ordered, readied, layout}
use Rattle.rules.proofs.Membership.{pick_ind}

-- a bridge's arm is one of the block's
abbrev pub Fits : ℕ → Leaving → Type 0
Fits n Nothing = Unit {0}
Fits n Jump = Unit {0}
Fits n Branch = Unit {0}
Fits n Exchanged = Unit {0}
Fits n (Bridge i) = i < n

pub edges_fit : (next : Option ℕ) (end : ℕ) (l : List Arm) → Fits (length l) (edges next end l)
unfolding edges
edges_fit next end [] = tt
edges_fit next end (x ∷ []) = pick_ind (Fits 1) _ _ _ tt tt
edges_fit next end (x ∷ y ∷ l) =
    pick_ind F _ _ _ tt
    (pick_ind F _ _ _ (pick_ind F _ _ _ tt (omega arith))
    (pick_ind F _ _ _ (pick_ind F _ _ _ tt (omega arith))
    (pick_ind F _ _ _ tt (pick_ind F _ _ _ tt (omega arith)))))
  where
    F : Leaving → Type 0
    F = Fits (suc (suc (length l)))

set_back : (i : ℕ) (a : Arm) (l : List Arm) → i < length l → set_arm i (get_or l i no_arm) (set_arm i a l) ≡ l
unfolding set_arm
set_back i a [] h = refl
set_back zero a (x ∷ l) h = refl
set_back (suc i) a (x ∷ l) h = ap (λ (r : List Arm). x ∷ r) (set_back i a l (omega arith))

set_get : (i : ℕ) (a : Arm) (l : List Arm) → i < length l → get_or (set_arm i a l) i no_arm ≡ a
unfolding set_arm
set_get i a [] h = absurd (omega arith)
set_get zero a (x ∷ l) h = refl
set_get (suc i) a (x ∷ l) h = set_get i a l (omega arith)

-- a block with its arms kept
pub record Alone (b : Block) (p : Place) : Type 0 where
  pub block : p.is_bridge ≡ false
  pub number : p.block.number ≡ b.number
  pub arms : (p.block.arms ≡ b.arms) ⊎ (p.block.arms ≡ swapped b.arms)

-- a block and the bridge that takes one of its arms
pub record Spanned (b : Block) (p q : Place) : Type 0 where
  pub block : p.is_bridge ≡ false
  pub bridge : q.is_bridge ≡ true
  pub number : p.block.number ≡ b.number
  pub index : ℕ
  pub inside : index < length b.arms
  -- "A bridge takes the arm with its arguments and weight, and weighs as much itself"
  pub taken : q.block.arms ≡ get_or b.arms index no_arm ∷ []
  pub weighs : q.block.weight ≡ (get_or b.arms index no_arm).weight
  -- "the block's arm becomes a plain one to it of the same weight"
  pub into : get_or p.block.arms index no_arm ≡ record { to = q.block.number; args = 0; weight = q.block.weight }
  pub through : set_arm index (get_or b.arms index no_arm) p.block.arms ≡ b.arms

pub data Kept (g : Graph) : List ℕ → List Place → Type 0 where
  ended : Kept g [] []
  alone : (n : ℕ) (o : List ℕ) (p : Place) (l : List Place) → Alone (block_at g n) p → Kept g o l → Kept g (n ∷ o) (p ∷ l)
  spanned : (n : ℕ) (o : List ℕ) (p q : Place) (l : List Place) → Spanned (block_at g n) p q → Kept g o l → Kept g (n ∷ o) (p ∷ q ∷ l)

pub part_kept : (g : Graph) (cold : Bool) (new : ℕ) (o : List ℕ) → Kept g o (lay_part g cold new o)
unfolding lay_part laid_block bridge_of bridge_for arms_left with_arms
part_kept g cold new [] = ended
part_kept g cold new (n ∷ l) =
    go (λ m. part_kept g cold m l) (edges (next_in l) (block_at g n).end (block_at g n).arms) (edges_fit (next_in l) (block_at g n).end (block_at g n).arms)
  where
    b : Block
    b = block_at g n

    go : ((m : ℕ) → Kept g l (lay_part g cold m l)) → (v : Leaving) → Fits (length (block_at g n).arms) v
        → Kept g (n ∷ l) (laid_block new (block_at g n) v ∷ (bridge_of new cold (block_at g n) v ++ lay_part g cold (new_after new v) l))
    go ih Nothing f = alone _ _ _ _ (record { block = refl; number = refl; arms = inl refl }) (ih new)
    go ih Jump f = alone _ _ _ _ (record { block = refl; number = refl; arms = inl refl }) (ih new)
    go ih Branch f = alone _ _ _ _ (record { block = refl; number = refl; arms = inl refl }) (ih new)
    go ih Exchanged f = alone _ _ _ _ (record { block = refl; number = refl; arms = inr refl }) (ih new)
    go ih (Bridge i) f =
        spanned _ _ _ _ _
        (record {
          block = refl;
          bridge = refl;
          number = refl;
          index = i;
          inside = f;
          taken = refl;
          weighs = refl;
          into = set_get i _ (block_at g n).arms f;
          through = set_back i _ (block_at g n).arms f;
        })
        (ih (suc new))

pub kept_append : (g : Graph) (o₁ o₂ : List ℕ) (l₁ l₂ : List Place) → Kept g o₁ l₁ → Kept g o₂ l₂ → Kept g (o₁ ++ o₂) (l₁ ++ l₂)
kept_append g o₁ o₂ l₁ l₂ ended k = k
kept_append g o₁ o₂ l₁ l₂ (alone n o p l a h) k = alone n (o ++ o₂) p (l ++ l₂) a (kept_append g o o₂ l l₂ h k)
kept_append g o₁ o₂ l₁ l₂ (spanned n o p q l s h) k = spanned n (o ++ o₂) p q (l ++ l₂) s (kept_append g o o₂ l l₂ h k)

pub lay_kept : (g : Graph) (o : List ℕ) → Kept g (partition g o) (lay g o)
unfolding lay partition warm_places
lay_kept g o = go (splits g)
  where
    w : List Place
    w = lay_part g false numbers (warm_part g o)

    c : List Place
    c = lay_part g true (numbers + bridges w) (cold_part g o)

    go : (b : Bool) → Kept g (elim b as (λ (x : Bool). List ℕ) [ false ↦ o | true ↦ warm_part g o ++ cold_part g o ])
        (elim b as (λ (x : Bool). List Place) [ false ↦ lay_part g false numbers o | true ↦ w ++ c ])
    go false = part_kept g false numbers o
    go true = kept_append g (warm_part g o) (cold_part g o) w c (part_kept g false numbers (warm_part g o)) (part_kept g true (numbers + bridges w) (cold_part g o))

pub arms_kept : (f r : Bool) (g : Graph) → Kept (readied f g) (partition (readied f g) (ordered r (readied f g))) (layout f r g)
unfolding layout
arms_kept f r g = lay_kept (readied f g) (ordered r (readied f g))
