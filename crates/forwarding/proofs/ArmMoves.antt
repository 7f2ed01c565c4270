-- The arms of one block, by their targets: as they move in place, they are those of document 01. Assumes nothing.
use Rattle.std.proofs.Common.{ℕ, zero, suc, ◌+◌, ◌-◌, ◌≤◌, ◌<◌, ◌≡◌, refl, sym, ap, ◌∙◌, Bool, true, false, cond, ◌||◌, List, [], ◌∷◌, ◌++◌, eqb, length, get_or, take, drop, drop-cons, length-append, arith}
use Rattle.std.specs.Prelude.{Option, None, Some}
use Rattle.std.specs.List.{between}
use Rattle.rules.specs.Lists.{any}
use Rattle.rules.specs.Graph as graph
use Rattle.rules.specs.Forward.{moved_arms, elsewhere}
use Rattle.records.specs.declared.Arms.{Arms}
use Rattle.records.specs.Tables.{arm_at, arms_from}
use Rattle.forwarding.specs.Steps.{goes_to, hop_of, differ, differing, hops_of}

-- ---- arms by their targets
module _ (args weight : List ℕ) where
  abbrev pub arm_to : ℕ → ℕ → graph.Arm
  arm_to q x = record { to = x; args = get_or args q 0; weight = get_or weight q 0 }

  -- arms that go there, from arm q on
  unfoldable pub arms_to : ℕ → List ℕ → List graph.Arm
  arms_to q [] = []
  arms_to q (x ∷ l) = arm_to q x ∷ arms_to (suc q) l

  arms_append : (k l : List ℕ) (q : ℕ) → arms_to q (k ++ l) ≡ arms_to q k ++ arms_to (q + length k) l
  unfolding arms_to
  arms_append [] l q = let e : q ≡ q + 0 = omega arith in ap (λ (n : ℕ). arms_to n l) e
  arms_append (x ∷ k) l q =
      let e : suc q + length k ≡ q + suc (length k) = omega arith in
      ap (λ (z : List graph.Arm). arm_to q x ∷ z) (arms_append k l (suc q) ∙ ap (λ (n : ℕ). arms_to (suc q) k ++ arms_to n l) e)

  -- a scan of the targets asks all arms
  pub any_to : (m : ℕ) (l : List ℕ) (q : ℕ) → any (λ (x : graph.Arm). eqb x.to m) (arms_to q l) ≡ goes_to l m
  unfolding arms_to any
  any_to m [] q = refl
  any_to m (x ∷ l) q = ap (λ (t : Bool). eqb x m || t) (any_to m l (suc q))

  -- so many go elsewhere
  pub elsewhere_to : (k l : List ℕ) (q : ℕ) → elsewhere (arms_to q k) (arms_to q l) ≡ differing k l
  unfolding arms_to elsewhere differing differ
  elsewhere_to [] l q = refl
  elsewhere_to (x ∷ k) [] q = refl
  elsewhere_to (x ∷ k) (y ∷ l) q = ap (λ (n : ℕ). cond (eqb x y) 0 1 + n) (elsewhere_to k l (suc q))

-- the arms in the tables
arms_taken : (a : Arms) (n f : ℕ) → f + n ≤ length a.to → arms_from a f n ≡ arms_to a.args a.weight f (take n (drop f a.to))
unfolding arms_from arm_at arms_to
arms_taken a zero f h = refl
arms_taken a (suc n) f h =
    rw (drop-cons a.to f 0 (omega (arith, h)))
    (ap (λ (l : List graph.Arm). arm_to a.args a.weight f (get_or a.to f 0) ∷ l) (arms_taken a n (suc f) (omega (arith, h))))

pub arms_between : (a : Arms) (n f : ℕ) → f + n ≤ length a.to → arms_from a f n ≡ arms_to a.args a.weight f (between f (f + n) a.to)
arms_between a n f h = let e : f + n - f ≡ n = omega arith in rw e (arms_taken a n f h)

-- ---- one arm's turn
stay : Bool → ℕ → graph.Arm → graph.Arm
stay t m x = elim t as (λ (x : Bool). graph.Arm) [ true ↦ x | false ↦ record { to = m; args = x.args; weight = x.weight } ]

turn : Option ℕ → List graph.Arm → graph.Arm → graph.Arm
unfolding stay
turn o all x = elim o as (λ (x : Option ℕ). graph.Arm) [ None ↦ x | Some m ↦ stay (any (λ (x : graph.Arm). eqb x.to m) all) m x ]

moved_cons : (goals : ℕ → Option ℕ) (done l : List graph.Arm) (x : graph.Arm)
    → moved_arms goals done (x ∷ l) ≡ turn (goals x.to) (done ++ (x ∷ l)) x ∷ moved_arms goals (done ++ (turn (goals x.to) (done ++ (x ∷ l)) x ∷ [])) l
unfolding moved_arms turn stay
moved_cons goals done l x = refl

module _ (onward : List (Option ℕ)) (goals : ℕ → Option ℕ) (args weight : List ℕ) (f : ℕ) where
  turn_to : (l : List ℕ) (q x : ℕ) → goals x ≡ get_or onward x None → turn (goals x) (arms_to args weight f l) (arm_to args weight q x) ≡ arm_to args weight q (hop_of onward l x)
  unfolding turn stay hop_of
  turn_to l q x e = rw e (go (get_or onward x None))
    where
      by_test : (t : Bool) (m : ℕ) → stay t m (arm_to args weight q x) ≡ arm_to args weight q (cond t x m)
      by_test true m = refl
      by_test false m = refl

      go : (o : Option ℕ) → turn o (arms_to args weight f l) (arm_to args weight q x) ≡ arm_to args weight q (elim o as (λ (x : Option ℕ). ℕ) [ None ↦ x | Some m ↦ cond (goes_to l m) x m ])
      go None = refl
      go (Some m) = rw (any_to args weight m l f) (by_test (goes_to l m) m)

  -- the arms that are left, when `done` have had their turn
  moved_from : (l done : List ℕ) → ((j : ℕ) → j < length l → goals (get_or l j 0) ≡ get_or onward (get_or l j 0) None)
      → moved_arms goals (arms_to args weight f done) (arms_to args weight (f + length done) l) ≡ arms_to args weight (f + length done) (hops_of onward done l)
  unfolding arms_to moved_arms hops_of
  moved_from [] done h = refl
  moved_from (x ∷ l) done h =
      let q = f + length done in
      let y = hop_of onward (done ++ (x ∷ l)) x in
      let all : arms_to args weight f done ++ (arm_to args weight q x ∷ arms_to args weight (suc q) l) ≡ arms_to args weight f (done ++ (x ∷ l)) = sym (arms_append args weight done (x ∷ l) f) in
      let more : arms_to args weight f done ++ (arm_to args weight q y ∷ []) ≡ arms_to args weight f (done ++ (y ∷ [])) = sym (arms_append args weight done (y ∷ []) f) in
      let next : suc q ≡ f + length (done ++ (y ∷ [])) = omega (arith, length-append done (y ∷ [])) in
      moved_cons goals (arms_to args weight f done) (arms_to args weight (suc q) l) (arm_to args weight q x)
      ∙ rw (all, turn_to (done ++ (x ∷ l)) q x (h 0 (omega arith)), more, next)
      (ap (λ (z : List graph.Arm). arm_to args weight q y ∷ z) (moved_from l (done ++ (y ∷ [])) (λ j k. h (suc j) (omega (arith, k)))))

  pub moved_to : (l : List ℕ) → ((j : ℕ) → j < length l → goals (get_or l j 0) ≡ get_or onward (get_or l j 0) None)
      → moved_arms goals [] (arms_to args weight f l) ≡ arms_to args weight f (hops_of onward [] l)
  unfolding arms_to
  moved_to l h = let e : f + 0 ≡ f = omega arith in rw e at (moved_from l [] h)
