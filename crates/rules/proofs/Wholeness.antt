-- Graphs whose arms all go to listed blocks, and the block that a number finds. Assumes nothing.
use Prim.Native.Nat.{ℕ}
use native.Mathlib.Omega.{arith}
use mathlib.Core.Path.{◌≡◌, refl, sym, subst}
use mathlib.Core.Bool.{Bool, true, false, cond}
use mathlib.Core.Logic.{inl, inr}
use mathlib.Core.List.{List, [], ◌∷◌}
use Rattle.std.specs.Prelude.{Option, Some}
use lib.Dec.{T, eqb, eqb→eq, eqb_refl}
use Rattle.rules.specs.Graph.{Arm, Block, Graph, is_entry, block_at, numbers_of, targets, entry}
use Rattle.rules.proofs.Membership.{In, In-map}

-- each arm leads to a listed block
abbrev pub Whole : Graph → Type 0
Whole g = (x : Block) → In x g → (c : ℕ) → In c (targets x) → In c (numbers_of g)

pub block_in : (g : Graph) (n : ℕ) → In n (numbers_of g) → In (block_at g n) g × ((block_at g n).number ≡ n)
unfolding numbers_of block_at
block_in [] n i = absurd i
block_in (x ∷ g) n i = go (block_in g n) (eqb x.number n) refl i
  where
    go : (In n (numbers_of g) → In (block_at g n) g × ((block_at g n).number ≡ n)) → (b : Bool) → eqb x.number n ≡ b → In n (numbers_of (x ∷ g)) →
        In (cond b x (block_at g n)) (x ∷ g) × ((cond b x (block_at g n)).number ≡ n)
    go ih true e i = (inl refl, eqb→eq x.number n (rw e tt))
    go ih false e (inl q) = absurd (rw e at (subst (λ (k : ℕ). T (eqb x.number k)) (sym q) (eqb_refl x.number)))
    go ih false e (inr j) = (inr (ih j).0, (ih j).1)

pub entry_in : (g : Graph) (e : ℕ) → entry g ≡ Some e → In e (numbers_of g)
unfolding entry numbers_of
entry_in [] e q = absurd (let z : ◌≡◌ {A = ℕ} 0 1 = cc in omega arith)
entry_in (b ∷ g) e q = go (entry_in g e) (is_entry b.marks) q
  where
    go : (entry g ≡ Some e → In e (numbers_of g)) → (t : Bool) → (elim t as (λ (x : Bool). Option ℕ) [ true ↦ Some b.number | false ↦ entry g ]) ≡ Some e → In e (numbers_of (b ∷ g))
    go ih true q = inl (cc)
    go ih false q = inr (ih q)

pub arm_target : (b : Block) (a : Arm) → In a b.arms → In a.to (targets b)
unfolding targets
arm_target b a i = In-map (λ (x : Arm). x.to) b.arms a i

-- every number of the list finds its block
abbrev pub Listed : Graph → List ℕ → Type 0
Listed g o = (n : ℕ) → In n o → (block_at g n).number ≡ n
