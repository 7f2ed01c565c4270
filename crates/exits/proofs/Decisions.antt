-- The decision by its few inputs is the rule's, and the arm that its bridge takes. Assumes nothing.
use Rattle.std.proofs.Common.{ℕ, zero, suc, ◌+◌, ◌<◌, ◌≡◌, Bool, false, cond, List, [], ◌∷◌, length, get_or, refl, sym, ap, ◌∙◌, arith, add-zero}
use Rattle.std.specs.Prelude.{Option, ltb}
use lib.Dec.{leb-suc-suc}
use borrow.Author.Tests.{lt-ltb, le-ltb}
use Rattle.rules.specs.declared.Leaving.{Leaving}
use Rattle.rules.specs.declared.Leaving.TheVariants.{Nothing, Jump, Branch, Exchanged, Bridge}
use Rattle.rules.specs.Graph as graph
use Rattle.rules.specs.Graph.{Arm, names}
use Rattle.rules.specs.Exits.{edges, bridge_of, new_after}
use Rattle.rules.proofs.Membership.{pick_ind}
use Rattle.records.specs.declared.Arms.{Arms}
use Rattle.records.specs.Tables.{arm_at, arms_from, leaves}
use Rattle.records.proofs.TableLaws.{leaves_count}
use Rattle.exits.specs.Lays.{leaving_of, goes_to, BridgeWithin}

-- arm j goes to the next block
unfoldable pub goes : Option ℕ → List Arm → ℕ → Bool
goes next [] j = false
goes next (x ∷ l) zero = names next x.to
goes next (x ∷ l) (suc j) = goes next l j

-- THE RULE
edges_is : (next : Option ℕ) (end : ℕ) (l : List Arm) → edges next end l ≡ leaving_of end (length l) (goes next l 0) (goes next l 1)
unfolding edges leaving_of goes
edges_is next end [] = refl
edges_is next end (x ∷ []) = refl
edges_is next end (x ∷ y ∷ l) = refl

-- by the tables
goes_is : (a : Arms) (next : Option ℕ) (c f j : ℕ) → goes next (arms_from a f c) j ≡ goes_to a.to f c j next
unfolding goes arms_from goes_to arm_at
goes_is a next zero f j = rw (le-ltb j 0 (omega arith))
goes_is a next (suc c) f zero = rw (lt-ltb 0 (suc c) (omega arith), add-zero)
goes_is a next (suc c) f (suc j) =
    goes_is a next c (suc f) j ∙ ap (λ (t : Bool). cond t (names next (get_or a.to (suc f + j) 0)) false) (sym (leb-suc-suc (suc j) c))
    ∙ ap (λ (q : ℕ). cond (ltb (suc j) (suc c)) (names next (get_or a.to q 0)) false) e
  where
    e : suc f + j ≡ f + suc j
    e = omega arith

-- how block n of the tables is left, by the rule
pub leaving_is : (a : Arms) (next : Option ℕ) (end n : ℕ) →
    leaving_of end (get_or a.count n 0) (goes_to a.to (get_or a.first n 0) (get_or a.count n 0) 0 next) (goes_to a.to (get_or a.first n 0) (get_or a.count n 0) 1 next)
    ≡ edges next end (leaves a n)
unfolding leaves
leaving_is a next end n =
    rw (← goes_is a next (get_or a.count n 0) (get_or a.first n 0) 0, ← goes_is a next (get_or a.count n 0) (get_or a.first n 0) 1)
    (ap (λ (k : ℕ). leaving_of end k (goes next (leaves a n) 0) (goes next (leaves a n) 1)) (sym (leaves_count a n)) ∙ sym (edges_is next end (leaves a n)))

-- ---- bridges

-- a bridge takes one of the block's arms
pub edges_within : (next : Option ℕ) (end : ℕ) (l : List Arm) → BridgeWithin (length l) (edges next end l)
unfolding edges
edges_within next end [] = λ i e. let w : ⊥ = cc in absurd w
edges_within next end (x ∷ []) = pick_ind (BridgeWithin 1) _ Nothing Jump (λ i e. let w : ⊥ = cc in absurd w) (λ i e. let w : ⊥ = cc in absurd w)
edges_within next end (x ∷ y ∷ l) =
    pick_ind P _ Nothing _ none
    (pick_ind P _ _ _ (pick_ind P _ Nothing (Bridge 0) none (some 0 (omega arith)))
    (pick_ind P _ _ _ (pick_ind P _ Nothing (Bridge 1) none (some 1 (omega arith)))
    (pick_ind P _ Branch _ (λ i e. let w : ⊥ = cc in absurd w) (pick_ind P _ Exchanged (Bridge 1) (λ i e. let w : ⊥ = cc in absurd w) (some 1 (omega arith))))))
  where
    P : Leaving → Type 0
    P = BridgeWithin (suc (suc (length l)))

    none : P Nothing
    none i e = let w : ⊥ = cc in absurd w

    some : (j : ℕ) → j < suc (suc (length l)) → P (Bridge j)
    some j h i e = let w : j ≡ i = cc in omega (arith, h, w)

-- no arm goes to a bridge
abbrev pub Bridgeless : Leaving → Type 0
Bridgeless v = (i : ℕ) → v ≡ Bridge i → ⊥

pub bridge_none : (v : Leaving) (new : ℕ) (cold : Bool) (b : graph.Block) → Bridgeless v → (bridge_of new cold b v ≡ []) × (new_after new v ≡ new)
unfolding bridge_of new_after
bridge_none Nothing new cold b f = (refl, refl)
bridge_none Jump new cold b f = (refl, refl)
bridge_none Branch new cold b f = (refl, refl)
bridge_none Exchanged new cold b f = (refl, refl)
bridge_none (Bridge i) new cold b f = absurd (f i refl)
