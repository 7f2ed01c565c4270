-- THEOREM heads_exact: a place is marked exactly when it is past the first, heavy enough, and entered from its own or a later place
-- whose block it reaches by a chain of arms. Assumes nothing.
use Prim.Native.Nat.{ℕ, zero, suc, ◌≤◌, ◌<◌}
use native.Mathlib.Omega.{arith}
use mathlib.Core.Path.{refl}
use mathlib.Core.Bool.{Bool, ◌&&◌}
use mathlib.Core.Logic.{inl, inr, ◌↔◌}
use mathlib.Core.List.{[], ◌∷◌}
use lib.Dec.{T, leb, leb→le, le→leb}
use lib.ListN.{length, get_or, drop}
use Rattle.rules.specs.Lists.{any, mem}
use Rattle.rules.specs.Graph.{Block, Graph, no_block, numbers_of, targets}
use Rattle.rules.specs.Heads.{reach, head_floor, head_at}
use Rattle.rules.proofs.Membership.{In, and_l, and_r, and_i, any→, →any, mem→, →mem}
use Rattle.rules.proofs.Wholeness.{Whole}
use Rattle.rules.proofs.Chains.{Chain, reach_sound, reach_complete}

pub record Head (g : Graph) (i : ℕ) (b : Block) : Type 0 where
  pub later : 1 ≤ i
  pub hot : head_floor g ≤ b.weight
  pub tail : Block
  pub place : In tail (drop i g)
  pub arm : In b.number (targets tail)
  pub loop : Chain g b.number tail.number

get_d-number : (g : Graph) (i : ℕ) → i < length g → In (get_or g i no_block).number (numbers_of g)
unfolding numbers_of
get_d-number [] i h = absurd (omega arith)
get_d-number (x ∷ g) zero h = inl refl
get_d-number (x ∷ g) (suc i) h = inr (get_d-number g i (omega arith))

pub heads_exact : (g : Graph) → Whole g → (i : ℕ) → i < length g → T (head_at g i) ↔ Head g i (get_or g i no_block)
unfolding head_at
heads_exact g w i h = (to, back)
  where
    b : Block
    b = get_or g i no_block

    t₁ : Bool
    t₁ = leb 1 i

    t₂ : Bool
    t₂ = leb (head_floor g) b.weight

    f : Block → Bool
    f c = mem b.number (targets c) && mem c.number (reach g b.number)

    t₃ : Bool
    t₃ = any f (drop i g)

    to : T (head_at g i) → Head g i (get_or g i no_block)
    to t =
        let r = any→ f (drop i g) (and_r (t₁ && t₂) t₃ t) in
        record {
          later = leb→le 1 i (and_l t₁ t₂ (and_l (t₁ && t₂) t₃ t));
          hot = leb→le (head_floor g) b.weight (and_r t₁ t₂ (and_l (t₁ && t₂) t₃ t));
          tail = r.0;
          place = r.1;
          arm = mem→ b.number (targets r.0) (and_l (mem b.number (targets r.0)) (mem r.0.number (reach g b.number)) r.2);
          loop = reach_sound g b.number r.0.number (and_r (mem b.number (targets r.0)) (mem r.0.number (reach g b.number)) r.2);
        }

    back : Head g i (get_or g i no_block) → T (head_at g i)
    back k = and_i (t₁ && t₂) t₃ (and_i t₁ t₂ (le→leb 1 i k.later) (le→leb (head_floor g) b.weight k.hot))
        (→any f (drop i g) k.tail k.place (and_i (mem b.number (targets k.tail)) (mem k.tail.number (reach g b.number))
        (→mem b.number (targets k.tail) k.arm) (reach_complete g w b.number (get_d-number g i h) k.tail.number k.loop)))
