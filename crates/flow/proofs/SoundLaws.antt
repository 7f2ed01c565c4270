-- What the tables of a carried graph have for a block is the block that its number finds; and so it is in each graph that has these
-- tables. Assumes nothing.
use Prim.Native.Nat.{ℕ, zero, suc, ◌+◌, ◌-◌, ◌<◌}
use native.Mathlib.Nat.{add-zero}
use native.Mathlib.Omega.{arith}
use mathlib.Core.Path.{◌≡◌, refl, sym, ap, ap₂, ◌∙◌, subst}
use mathlib.Core.Logic.{inl, inr}
use mathlib.Core.List.{List, ◌∷◌, map}
use lib.ListN.{get_or}
use Rattle.limits.specs.Limits.{numbers}
use Rattle.rules.specs.Graph as graph
use Rattle.rules.specs.Graph.{is_cold, cold_at}
use Rattle.rules.proofs.Membership.{In}
use Rattle.rules.proofs.Wholeness.{block_in, arm_target}
use Rattle.records.specs.declared.Arms.{Arms}
use Rattle.records.specs.declared.Graph.{Graph}
use Rattle.records.specs.Tables.{arm_at, arms_from, leaves, block_at, tabled, Has, Carried}
use Rattle.records.proofs.StandLaws.{in_listed, find_in}
use Rattle.flow.specs.Lent.{HasArms, Runs, Flows, Of}

-- arm j of those from arm f on
from_in : (a : Arms) (f n j : ℕ) → j < n → In (arm_at a (f + j)) (arms_from a f n)
unfolding arms_from
from_in a f zero j h = absurd (omega (arith, h))
from_in a f (suc n) zero h = inl (rw add-zero refl)
from_in a f (suc n) (suc j) h = inr (subst (λ (k : ℕ). In (arm_at a k) (arms_from a (suc f) n)) (omega arith) (from_in a (suc f) n j (omega (arith, h))))

module _ {g : Graph} (s : Carried g) (n : ℕ) (i : Of g n) where
  pub block_is : graph.block_at (tabled g) n ≡ block_at g.b g.a n
  unfolding tabled
  block_is = find_in g.b g.a g.blocks n i

  pub small : n < numbers
  unfolding tabled
  small = let r = in_listed g.b g.a n g.blocks i in subst (λ (m : ℕ). m < numbers) r.2 (s.stands.below r.0 r.1)

  pub weight_is : (graph.block_at (tabled g) n).weight ≡ get_or g.b.weight n 0
  unfolding block_at
  weight_is = ap (λ (b : graph.Block). b.weight) block_is

  pub marks_are : (graph.block_at (tabled g) n).marks ≡ get_or g.b.marks n 0
  unfolding block_at
  marks_are = ap (λ (b : graph.Block). b.marks) block_is

  pub cold_is : cold_at (tabled g) n ≡ is_cold (get_or g.b.marks n 0)
  unfolding cold_at
  cold_is = ap is_cold marks_are

  pub arms_are : (graph.block_at (tabled g) n).arms ≡ leaves g.a n
  unfolding block_at
  arms_are = ap (λ (b : graph.Block). b.arms) block_is

  -- an arm of it goes to a block
  pub goes_on : (q : ℕ) → Has g.a n q → Of g (get_or g.a.to q 0)
  unfolding arm_at leaves
  goes_on q h =
      let f = get_or g.a.first n 0 in
      let j : f + (q - f) ≡ q = omega (arith, h.from) in
      let a = subst (λ (k : ℕ). In (arm_at g.a k) (leaves g.a n)) j (from_in g.a f (get_or g.a.count n 0) (q - f) (omega (arith, h.from, h.below))) in
      let b = graph.block_at (tabled g) n in
      s.whole b (block_in (tabled g) n i).0 (arm_at g.a q).to (arm_target b (arm_at g.a q) (subst (In (arm_at g.a q)) (sym arms_are) a))

-- ---- a graph that has the tables of another
-- it has its own
pub runs_self : {g : Graph} → Carried g → Runs g g
runs_self s = record { sound = s; marks_is = refl; arms = record { first_is = refl; count_is = refl; to_is = refl; weight_is = refl } }

pub flows_self : {g : Graph} → Carried g → Flows g g
flows_self s = record { runs = runs_self s; weight_is = refl }

-- an arm but for its args
abbrev pub bare : graph.Arm → graph.Arm
bare x = record { to = x.to; args = 0; weight = x.weight }

module _ {t : Graph} {a : Arms} (h : HasArms t a) where
  has_too : {n q : ℕ} → Has a n q → Has t.a n q
  has_too k = record { from = rw h.first_is k.from; below = rw (h.first_is, h.count_is) k.below }

  leaves_are : (n : ℕ) → leaves t.a n ≡ arms_from t.a (get_or a.first n 0) (get_or a.count n 0)
  unfolding leaves
  leaves_are n = ap₂ (λ (first count : List ℕ). arms_from t.a (get_or first n 0) (get_or count n 0)) h.first_is h.count_is

  -- its arms are the other's but for what they carry
  bare_at : (q : ℕ) → bare (arm_at t.a q) ≡ bare (arm_at a q)
  unfolding arm_at
  bare_at q = ap₂ (λ (to weight : List ℕ). bare (record { to = get_or to q 0; args = 0; weight = get_or weight q 0 })) h.to_is h.weight_is

  arms_bare : (f n : ℕ) → map bare (arms_from t.a f n) ≡ map bare (arms_from a f n)
  unfolding arms_from
  arms_bare f zero = refl
  arms_bare f (suc n) = ap₂ (λ (x : graph.Arm) (l : List graph.Arm). x ∷ l) (bare_at f) (arms_bare (suc f) n)

  pub leaves_bare : (n : ℕ) → map bare (leaves t.a n) ≡ map bare (leaves a n)
  unfolding leaves
  leaves_bare n = ap (map bare) (leaves_are n) ∙ arms_bare (get_or a.first n 0) (get_or a.count n 0)

  pub to_at : (q : ℕ) → (arm_at t.a q).to ≡ get_or a.to q 0
  unfolding arm_at
  to_at q = ap (λ (to : List ℕ). get_or to q 0) h.to_is

  pub weight_at : (q : ℕ) → (arm_at t.a q).weight ≡ get_or a.weight q 0
  unfolding arm_at
  weight_at q = ap (λ (weight : List ℕ). get_or weight q 0) h.weight_is

-- and what it has for a block is what the other's tables have
module _ {t g : Graph} (r : Runs t g) (n : ℕ) (i : Of t n) where
  pub marks_by : (graph.block_at (tabled t) n).marks ≡ get_or g.b.marks n 0
  marks_by = marks_are r.sound n i ∙ ap (λ (marks : List ℕ). get_or marks n 0) r.marks_is

  pub cold_by : cold_at (tabled t) n ≡ is_cold (get_or g.b.marks n 0)
  unfolding cold_at
  cold_by = ap is_cold marks_by

  pub arms_by : (graph.block_at (tabled t) n).arms ≡ arms_from t.a (get_or g.a.first n 0) (get_or g.a.count n 0)
  arms_by = arms_are r.sound n i ∙ leaves_are r.arms n

  pub goes_by : (q : ℕ) → Has g.a n q → Of t (get_or g.a.to q 0)
  goes_by q h = subst (λ (to : List ℕ). Of t (get_or to q 0)) r.arms.to_is (goes_on r.sound n i q (has_too r.arms h))

pub weight_by : {t g : Graph} → Flows t g → (n : ℕ) → Of t n → (graph.block_at (tabled t) n).weight ≡ get_or g.b.weight n 0
weight_by f n i = weight_is f.runs.sound n i ∙ ap (λ (weight : List ℕ). get_or weight n 0) f.weight_is
