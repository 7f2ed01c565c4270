-- THEOREM classes: two blocks are of one mutual-reach class exactly when a chain of arms leads from each to the other; and a
-- block's line says L exactly when another block is of its class. Assumes nothing.
use Prim.Native.Nat.{ℕ}
use mathlib.Core.Path.{◌≡◌, subst}
use mathlib.Core.Bool.{Bool, not, ◌&&◌}
use mathlib.Core.Logic.{◌↔◌}
use lib.Dec.{T, eqb, T_not, not_T, eqb→eq, eqb_refl}
use Rattle.rules.specs.Lists.{mem}
use Rattle.rules.specs.Graph.{Block, Graph, numbers_of}
use Rattle.rules.specs.Heads.{reach, together, looped}
use Rattle.rules.proofs.Membership.{In, and_l, and_r, and_i, any→, →any, In-map}
use Rattle.rules.proofs.Wholeness.{Whole}
use Rattle.rules.proofs.Chains.{Chain, reach_sound, reach_complete}

-- another block of the class of block n
pub record Other (g : Graph) (n : ℕ) : Type 0 where
  pub block : Block
  pub listed : In block g
  pub other : block.number ≡ n → ⊥
  pub to : Chain g n block.number
  pub back : Chain g block.number n

module _ (g : Graph) (w : Whole g) where
  pub classes : (n m : ℕ) → In n (numbers_of g) → In m (numbers_of g) → T (together g n m) ↔ (Chain g n m × Chain g m n)
  unfolding together
  classes n m i j = (to, back)
    where
      to : T (together g n m) → Chain g n m × Chain g m n
      to t = (reach_sound g n m (and_l (mem m (reach g n)) (mem n (reach g m)) t), reach_sound g m n (and_r (mem m (reach g n)) (mem n (reach g m)) t))

      back : Chain g n m × Chain g m n → T (together g n m)
      back c = and_i (mem m (reach g n)) (mem n (reach g m)) (reach_complete g w n i m c.0) (reach_complete g w m j n c.1)

  pub looped_exact : (n : ℕ) → In n (numbers_of g) → T (looped g n) ↔ Other g n
  unfolding looped numbers_of
  looped_exact n i = (to, back)
    where
      p : Block → Bool
      p b = not (eqb b.number n) && together g n b.number

      number_in : (b : Block) → In b g → In b.number (numbers_of g)
      number_in b j = In-map (λ (x : Block). x.number) g b j

      to : T (looped g n) → Other g n
      to t =
          let r = any→ p g t in
          let c = (classes n r.0.number i (number_in r.0 r.1)).0 (and_r (not (eqb r.0.number n)) (together g n r.0.number) r.2) in
          record {
            block = r.0;
            listed = r.1;
            other = λ e. T_not (eqb r.0.number n) (and_l (not (eqb r.0.number n)) (together g n r.0.number) r.2) (subst (λ (k : ℕ). T (eqb r.0.number k)) e (eqb_refl r.0.number));
            to = c.0;
            back = c.1;
          }

      back : Other g n → T (looped g n)
      back o =
          →any p g o.block o.listed
          (and_i (not (eqb o.block.number n)) (together g n o.block.number)
          (not_T (eqb o.block.number n) (λ t. o.other (eqb→eq o.block.number n t)))
          ((classes n o.block.number i (number_in o.block o.listed)).1 (o.to, o.back)))
