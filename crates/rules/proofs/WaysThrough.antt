-- THEOREM way_through: a block leads on exactly when it is a way through as document 01 says, and then where its arm goes. Assumes
-- nothing.
use Prim.Native.Nat.{ℕ}
use native.Mathlib.Omega.{arith}
use mathlib.Core.Path.{◌≡◌, refl, ap}
use mathlib.Core.Bool.{Bool, true, false, not, ◌&&◌}
use mathlib.Core.Logic.{◌⊎◌, inl, inr, ◌↔◌}
use mathlib.Core.List.{List, [], ◌∷◌}
use Rattle.std.specs.Prelude.{Option, None, Some}
use lib.Dec.{T, eqb, eqb→eq}
use Rattle.rules.specs.Graph.{Arm, Block, is_entry, is_dead, has_parameters, is_named}
use Rattle.rules.specs.Forward.{only_target, through}
use Rattle.rules.proofs.Membership.{and_l, and_r, test, T→≡, F→≡}

-- "A way through has end 0, one arm without arguments, marks 2, 3, 4 clear, and is not the entry."
pub record Way (b : Block) (t : ℕ) : Type 0 where
  pub no_instruction : b.end ≡ 0
  pub no_entry : is_entry b.marks ≡ false
  pub alive : is_dead b.marks ≡ false
  pub no_parameters : has_parameters b.marks ≡ false
  pub unnamed : is_named b.marks ≡ false
  pub arm : Arm
  pub only : b.arms ≡ arm ∷ []
  pub plain : arm.args ≡ 0
  pub to : arm.to ≡ t

-- its only arm is plain and goes there
record Only (l : List Arm) (t : ℕ) : Type 0 where
  arm : Arm
  only : l ≡ arm ∷ []
  plain : arm.args ≡ 0
  to : arm.to ≡ t

only_arm : (l : List Arm) (t : ℕ) → only_target l ≡ Some t → Only l t
unfolding only_target
only_arm [] t e = absurd (let z : ◌≡◌ {A = ℕ} 0 1 = cc in omega arith)
only_arm (a ∷ []) t e = go (eqb a.args 0) refl e
  where
    go : (b : Bool) → eqb a.args 0 ≡ b → (elim b as (λ (x : Bool). Option ℕ) [ true ↦ Some a.to | false ↦ None ]) ≡ Some t → Only (a ∷ []) t
    go true q e = record { arm = a; only = refl; plain = eqb→eq a.args 0 (rw q tt); to = cc }
    go false q e = absurd (let z : ◌≡◌ {A = ℕ} 0 1 = cc in omega arith)
only_arm (a ∷ b ∷ l) t e = absurd (let z : ◌≡◌ {A = ℕ} 0 1 = cc in omega arith)

pub way_through : (b : Block) (t : ℕ) → (through b ≡ Some t) ↔ Way b t
unfolding through only_target
way_through b t = (λ e. go (test c) e, back)
  where
    inner : Bool
    inner = eqb b.end 0 && not (is_entry b.marks)

    living : Bool
    living = inner && not (is_dead b.marks)

    bare : Bool
    bare = living && not (has_parameters b.marks)

    c : Bool
    c = bare && not (is_named b.marks)

    go : T c ⊎ T (not c) → (elim c as (λ (x : Bool). Option ℕ) [ true ↦ only_target b.arms | false ↦ None ]) ≡ Some t → Way b t
    go (inl y) e =
        let o = only_arm b.arms t (rw (T→≡ c y) at e) in
        let p = and_l bare (not (is_named b.marks)) y in
        let l = and_l living (not (has_parameters b.marks)) p in
        let i = and_l inner (not (is_dead b.marks)) l in
        record {
          no_instruction = eqb→eq b.end 0 (and_l (eqb b.end 0) (not (is_entry b.marks)) i);
          no_entry = F→≡ (is_entry b.marks) (and_r (eqb b.end 0) (not (is_entry b.marks)) i);
          alive = F→≡ (is_dead b.marks) (and_r inner (not (is_dead b.marks)) l);
          no_parameters = F→≡ (has_parameters b.marks) (and_r living (not (has_parameters b.marks)) p);
          unnamed = F→≡ (is_named b.marks) (and_r bare (not (is_named b.marks)) y);
          arm = o.arm;
          only = o.only;
          plain = o.plain;
          to = o.to;
        }
    go (inr f) e = absurd (let h : None ≡ Some t = rw (F→≡ c f) at e in let z : ◌≡◌ {A = ℕ} 0 1 = cc in omega arith)

    back : Way b t → (elim c as (λ (x : Bool). Option ℕ) [ true ↦ only_target b.arms | false ↦ None ]) ≡ Some t
    back w = rw (w.no_instruction, w.no_entry, w.alive, w.no_parameters, w.unnamed, w.only, w.plain) (ap Some w.to)
