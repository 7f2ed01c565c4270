-- The goals that the code finds in the tables are document 01's. Assumes nothing.
use Rattle.std.proofs.Common.{ℕ, zero, suc, ◌-◌, ◌<◌, ◌≡◌, refl, ap, ◌∙◌, subst, Bool, true, false, not, cond, ◌&&◌, eqb, get_or, arith, ne_eqb}
use Rattle.std.specs.Prelude.{Option, None, Some}
use Rattle.limits.specs.Limits.{numbers}
use Rattle.rules.specs.Graph as graph
use Rattle.rules.specs.Graph.{is_entry, is_dead, has_parameters, is_named, numbers_of}
use Rattle.rules.specs.Forward.{only_target, through, leaves_at, goal}
use Rattle.rules.proofs.Membership.{In}
use Rattle.rules.proofs.Forwarded.{through_target, goal_listed}
use Rattle.records.specs.declared.Blocks.{Blocks}
use Rattle.records.specs.declared.Arms.{Arms}
use Rattle.records.specs.declared.Graph.{Graph}
use Rattle.records.specs.Tables.{arm_at, arms_from, leaves, block_at, tabled, Carried}
use Rattle.records.proofs.TableLaws.{up_to_length}
use Rattle.records.proofs.StandLaws.{in_listed, find_in}
use Rattle.forwarding.specs.Steps.{plain, passing}

-- ---- one block
regroup : (e p q r s : Bool) → e && p && q && r && s ≡ e && (p && q && r && s)
regroup true p q r s = refl
regroup false p q r s = refl

by_args : (t : Bool) (m : ℕ) → ◌≡◌ {A = Option ℕ} (elim t [ true ↦ Some m | false ↦ None ]) (cond t (Some m) None)
by_args true m = refl
by_args false m = refl

only_is : (a : Arms) (f n : ℕ) → only_target (arms_from a f n) ≡ cond (eqb n 1 && eqb (get_or a.args f 0) 0) (Some (get_or a.to f 0)) None
unfolding arms_from only_target arm_at
only_is a f zero = refl
only_is a f (suc zero) = by_args (eqb (get_or a.args f 0) 0) (get_or a.to f 0)
only_is a f (suc (suc n)) = rw (ne_eqb (suc (suc n)) 1 (λ q. omega (arith, q)))

by_tests : (e p x y : Bool) (o : Option ℕ) (m : ℕ) → o ≡ cond (x && y) (Some m) None
    → ◌≡◌ {A = Option ℕ} (elim (e && p) [ true ↦ o | false ↦ None ]) (cond (e && x && y && p) (Some m) None)
by_tests false p x y o m h = refl
by_tests true true true true o m h = h
by_tests true true true false o m h = h
by_tests true true false y o m h = h
by_tests true false true true o m h = refl
by_tests true false true false o m h = refl
by_tests true false false y o m h = refl

pub way_is : (b : Blocks) (a : Arms) (n : ℕ) → through (block_at b a n)
    ≡ cond (passing (get_or b.ends n 0) (get_or b.marks n 0) (get_or a.count n 0) (get_or a.args (get_or a.first n 0) 0)) (Some (get_or a.to (get_or a.first n 0) 0)) None
unfolding through block_at leaves passing plain
way_is b a n =
    let m = get_or b.marks n 0 in
    let f = get_or a.first n 0 in
    let c = get_or a.count n 0 in
    ap (λ (q : Bool). elim q as (λ (x : Bool). Option ℕ) [ true ↦ only_target (arms_from a f c) | false ↦ None ])
    (regroup (eqb (get_or b.ends n 0) 0) (not (is_entry m)) (not (is_dead m)) (not (has_parameters m)) (not (is_named m)))
    ∙ (by_tests (eqb (get_or b.ends n 0) 0) (not (is_entry m) && not (is_dead m) && not (has_parameters m) && not (is_named m)) (eqb c 1) (eqb (get_or a.args f 0) 0)
    (only_target (arms_from a f c)) (get_or a.to f 0) (only_is a f c))

-- ---- chains
module _ (t : Graph) (s : Carried t) where
  pub small : (n : ℕ) → In n (numbers_of (tabled t)) → n < numbers
  unfolding tabled
  small n i = let r = in_listed t.b t.a n t.blocks i in subst (λ (k : ℕ). k < numbers) r.2 (s.stands.below r.0 r.1)

  pub goal_small : (n m : ℕ) → goal (tabled t) n ≡ Some m → m < numbers
  goal_small n m e = small m (goal_listed (tabled t) s.whole n m e)

  module _ (n : ℕ) (i : In n (numbers_of (tabled t))) where
    way : through (graph.block_at (tabled t) n) ≡ through (block_at t.b t.a n)
    unfolding tabled
    way = ap through (find_in t.b t.a t.blocks n i)

    pub onward_in : (m : ℕ) → through (block_at t.b t.a n) ≡ Some m → In m (numbers_of (tabled t))
    onward_in m e = through_target (tabled t) s.whole n m (way ∙ e)

    pub chain_out : (k : ℕ) → 0 < k → through (block_at t.b t.a n) ≡ None → leaves_at (tabled t) k n ≡ Some n
    unfolding leaves_at
    chain_out zero h e = absurd (omega (arith, h))
    chain_out (suc k) h e = rw (way ∙ e, leaves_at)

    pub chain_on : (k m : ℕ) → 0 < k → through (block_at t.b t.a n) ≡ Some m → leaves_at (tabled t) k n ≡ leaves_at (tabled t) (k - 1) m
    unfolding leaves_at
    chain_on zero m h e = absurd (omega (arith, h))
    chain_on (suc k) m h e = let q : suc k - 1 ≡ k = omega arith in rw (q, way ∙ e, leaves_at)

    pub goal_out : through (block_at t.b t.a n) ≡ None → goal (tabled t) n ≡ None
    unfolding goal
    goal_out e = rw (way ∙ e, goal)

    pub goal_on : (m : ℕ) → through (block_at t.b t.a n) ≡ Some m → goal (tabled t) n ≡ leaves_at (tabled t) t.blocks m
    unfolding goal tabled
    goal_on m e = rw (way ∙ e, goal) (ap (λ (k : ℕ). leaves_at (tabled t) k m) (up_to_length t.b t.a t.blocks))

-- ---- what a caller steps by
pub ruleset chain_steps = (onward_in, chain_out, chain_on, goal_out, goal_on)
