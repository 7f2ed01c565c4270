-- The arm by which a trace goes on, arm by arm, is the one that the rules choose. Assumes nothing.
use Prim.Native.Nat.{ℕ, ◌+◌, ◌<◌}
use native.Mathlib.Omega.{arith}
use native.Mathlib.Numerals.{add-one}
use mathlib.Core.Path.{◌≡◌, refl, sym, ap, ◌∙◌, subst}
use mathlib.Core.Bool.{Bool, true, false, cond}
use mathlib.Core.List.{List, [], ◌∷◌}
use Rattle.std.specs.Prelude.{Option, None, Some}
use lib.Dec.{ltb}
use lib.ListN.{get_or}
use Rattle.rules.specs.Graph as graph
use Rattle.rules.specs.Lists.{keep, best}
use Rattle.rules.specs.Traces.{fits, lighter, along}
use Rattle.rules.proofs.Membership.{keep_append}
use Rattle.records.specs.declared.Graph.{Graph}
use Rattle.records.specs.Tables.{arm_at, arms_from, tabled, Has}
use Rattle.records.proofs.TableLaws.{arms_more}
use Rattle.flow.specs.Lent.{Flows, Of, Marks, arm_of}
use Rattle.flow.proofs.ScanLaws.{best_append}
use Rattle.flow.proofs.SoundLaws.{to_at, weight_at, marks_by, cold_by, arms_by, goes_by, weight_by}
use Rattle.along.specs.Choosing.{fits_by, heavier, GoesOn}

-- o is the choice among the first k arms of block n
pub record Chosen (g : Graph) (seen : List ℕ) (likely low n k : ℕ) (o : Option ℕ) : Type 0 where
  pub has : (x : ℕ) → o ≡ Some x → Has g.a n x
  pub by_rules : (t : Graph) → Flows t g → Of t n → (laid : List ℕ) → Marks seen laid → arm_of t.a o
      ≡ best lighter None (keep (fits (tabled t) laid likely low (graph.block_at (tabled t) n)) (arms_from t.a (get_or g.a.first n 0) k))

module _ {t g : Graph} (f : Flows t g) (seen laid : List ℕ) (m : Marks seen laid) (likely low n : ℕ) (i : Of t n) where
  -- an arm fits by the tables where it fits by the rules
  fits_same : (q : ℕ) → Has g.a n q → fits_by g seen likely low n q ≡ fits (tabled t) laid likely low (graph.block_at (tabled t) n) (arm_at t.a q)
  unfolding fits_by fits
  fits_same q h =
      rw (to_at f.runs.arms q, weight_at f.runs.arms q, marks_by f.runs n i, weight_by f n i, cold_by f.runs (get_or g.a.to q 0) (goes_by f.runs n i q h), sym (m (get_or g.a.to q 0)))
      refl

-- one arm more
more : (g : Graph) (t : Bool) (o : Option ℕ) (q : ℕ) → arm_of g.a (cond t (heavier g.a.weight o q) o) ≡ best lighter (arm_of g.a o) (cond t (arm_at g.a q ∷ []) [])
unfolding arm_of heavier best arm_at
more g false o q = refl
more g true None q = refl
more g true (Some x) q = go (ltb (get_or g.a.weight x 0) (get_or g.a.weight q 0))
  where
    go : (u : Bool) → arm_of g.a (cond u (Some q) (Some x)) ≡ elim u [ true ↦ Some (arm_at g.a q) | false ↦ Some (arm_at g.a x) ]
    go true = refl
    go false = refl

keep_one : (test : graph.Arm → Bool) (a : graph.Arm) → keep test (a ∷ []) ≡ cond (test a) (a ∷ []) []
unfolding keep
keep_one test a = refl

heavier_has : (g : Graph) (n q : ℕ) (o : Option ℕ) → Has g.a n q → ((x : ℕ) → o ≡ Some x → Has g.a n x) → (x : ℕ) → heavier g.a.weight o q ≡ Some x → Has g.a n x
unfolding heavier
heavier_has g n q None h v x e = subst (Has g.a n) (cc) h
heavier_has g n q (Some y) h v x e = go (ltb (get_or g.a.weight y 0) (get_or g.a.weight q 0)) e
  where
    go : (u : Bool) → cond u (Some q) (Some y) ≡ Some x → Has g.a n x
    go true e = subst (Has g.a n) (cc) h
    go false e = v x e

module _ (g : Graph) (seen : List ℕ) (likely low n : ℕ) where
  pub chosen_none : Chosen g seen likely low n 0 None
  unfolding arm_of best keep arms_from
  chosen_none = record { has = λ x e. absurd (cc); by_rules = λ t s i laid m. refl }

  module _ (k q : ℕ) (o : Option ℕ) (at : q ≡ get_or g.a.first n 0 + k) (lt : k < get_or g.a.count n 0) (v : Chosen g seen likely low n k o) where
    here : Has g.a n q
    here = record { from = omega arith; below = omega arith }

    pub chosen_more : (b : Bool) → fits_by g seen likely low n q ≡ b → Chosen g seen likely low n (k + 1) (cond b (heavier g.a.weight o q) o)
    chosen_more b e = record {
      has = go b;
      by_rules = λ t s i laid m.
          let test = fits (tabled t) laid likely low (graph.block_at (tabled t) n) in
          let f = get_or g.a.first n 0 in
          subst (λ (weight : List ℕ). arm_of t.a (cond b (heavier weight o q) o) ≡ best lighter (arm_of t.a o) (cond b (arm_at t.a q ∷ []) [])) s.runs.arms.weight_is (more t b o q)
          ∙ rw (sym e, fits_same s seen laid m likely low n i q here, at, v.by_rules t s i laid m, add-one, arms_more t.a k f, keep_append, keep_one)
          (sym (best_append lighter None (keep test (arms_from t.a f k)) (cond (test (arm_at t.a (f + k))) (arm_at t.a (f + k) ∷ []) [])));
    }
      where
        go : (b : Bool) (x : ℕ) → cond b (heavier g.a.weight o q) o ≡ Some x → Has g.a n x
        go true x e = heavier_has g n q o here v.has x e
        go false x e = v.has x e

  pub chosen_all : (o : Option ℕ) → Chosen g seen likely low n (get_or g.a.count n 0) o → record { has : (q : ℕ) → o ≡ Some q → Has g.a n q; goes_on : GoesOn g seen likely low n o }
  unfolding along
  chosen_all o v = record {
    has = v.has;
    goes_on = λ t s i laid m.
        v.by_rules t s i laid m ∙ ap (λ (l : List graph.Arm). best lighter None (keep (fits (tabled t) laid likely low (graph.block_at (tabled t) n)) l)) (sym (arms_by s.runs n i));
  }
