-- THEOREM forward_moves: the count of moves is the number of arms that move, each in turn: those of blocks that are ours, whose
-- target has a goal to which no arm of the block goes at that time. Assumes nothing.
use Prim.Native.Nat.{ℕ, suc, ◌+◌}
use native.Mathlib.Omega.{arith}
use mathlib.Core.Path.{◌≡◌, refl, sym, subst}
use mathlib.Core.Bool.{Bool, true, false, not, cond}
use mathlib.Core.List.{List, [], ◌∷◌, ◌++◌, map}
use Rattle.std.specs.Prelude.{Option, None, Some}
use lib.Dec.{T, eqb, not_T, eqb→eq, eqb_refl}
use Rattle.rules.specs.Lists.{any, all}
use Rattle.rules.specs.Graph.{Arm, Block, Graph, with_arms}
use Rattle.rules.specs.Ours.{ours}
use Rattle.rules.specs.Forward.{goal, moved_arms, moved_block, moved_all, elsewhere, moves_between, moves}
use Rattle.rules.proofs.Membership.{T→≡, F→≡}
use Rattle.rules.proofs.GoalFirst.{goal_other}

-- the arm moves to m, where `all` are the block's arms at that time
unfoldable pub free : List Arm → ℕ → Bool
free all m = not (any (λ (x : Arm). eqb x.to m) all)

abbrev pub to : Arm → ℕ → Arm
to a m = record { to = m; args = a.args; weight = a.weight }

-- the arms of a block taken in turn: which move, and how many that are
pub data Turns (goals : ℕ → Option ℕ) : List Arm → List Arm → List Arm → ℕ → Type 0 where
  ended : (done : List Arm) → Turns goals done [] [] 0
  no_goal : (done l k : List Arm) (a : Arm) (n : ℕ) → goals a.to ≡ None → Turns goals (done ++ (a ∷ [])) l k n → Turns goals done (a ∷ l) (a ∷ k) n
  taken : (done l k : List Arm) (a : Arm) (m n : ℕ) → goals a.to ≡ Some m → T (not (free (done ++ (a ∷ l)) m)) → Turns goals (done ++ (a ∷ [])) l k n
      → Turns goals done (a ∷ l) (a ∷ k) n
  moves_on : (done l k : List Arm) (a : Arm) (m n : ℕ) → goals a.to ≡ Some m → T (free (done ++ (a ∷ l)) m) → Turns goals (done ++ (to a m ∷ [])) l k n
      → Turns goals done (a ∷ l) (to a m ∷ k) (suc n)

module _ (goals : ℕ → Option ℕ) (other : (n m : ℕ) → goals n ≡ Some m → m ≡ n → ⊥) where
  arms_turn : (done l : List Arm) → Turns goals done l (moved_arms goals done l) (elsewhere l (moved_arms goals done l))
  unfolding moved_arms elsewhere free
  arms_turn done [] = ended done
  arms_turn done (a ∷ l) = go (goals a.to) refl (λ d. arms_turn d l)
    where
      here : Option ℕ → Arm
      here o = elim o as (λ (x : Option ℕ). Arm) [
        | None ↦ a
        | Some m ↦
            elim (any (λ (x : Arm). eqb x.to m) (done ++ (a ∷ l))) as (λ (x : Bool). Arm) [ true ↦ a | false ↦ record { to = m; args = a.args; weight = a.weight } ]
      ]

      rest : Arm → List Arm
      rest b = moved_arms goals (done ++ (b ∷ [])) l

      R : Arm → Type 0
      R b = Turns goals done (a ∷ l) (b ∷ rest b) (cond (eqb a.to b.to) 0 1 + elsewhere l (rest b))

      same : (n : ℕ) → cond (eqb a.to a.to) 0 1 + n ≡ n
      same n = rw (T→≡ (eqb a.to a.to) (eqb_refl a.to)) (omega arith)

      stays : Turns goals done (a ∷ l) (a ∷ rest a) (elsewhere l (rest a)) → R a
      stays t = subst (λ (n : ℕ). Turns goals done (a ∷ l) (a ∷ rest a) n) (sym (same (elsewhere l (rest a)))) t

      step : (m : ℕ) → goals a.to ≡ Some m → ((d : List Arm) → Turns goals d l (moved_arms goals d l) (elsewhere l (moved_arms goals d l))) → (t : Bool)
          → any (λ (x : Arm). eqb x.to m) (done ++ (a ∷ l)) ≡ t → R (elim t as (λ (x : Bool). Arm) [ true ↦ a | false ↦ to a m ])
      step m q ih true e = stays (taken done l (rest a) a m (elsewhere l (rest a)) q (rw e tt) (ih (done ++ (a ∷ []))))
      step m q ih false e =
          let d : eqb a.to m ≡ false = F→≡ (eqb a.to m) (not_T (eqb a.to m) (λ t. other a.to m q (sym (eqb→eq a.to m t)))) in
          let one_more : cond (eqb a.to m) 0 1 + elsewhere l (rest (to a m)) ≡ suc (elsewhere l (rest (to a m))) = rw d (omega arith) in
          subst (λ (n : ℕ). Turns goals done (a ∷ l) (to a m ∷ rest (to a m)) n) (sym one_more)
          (moves_on done l (rest (to a m)) a m (elsewhere l (rest (to a m))) q (rw e tt) (ih (done ++ (to a m ∷ []))))

      go : (o : Option ℕ) → goals a.to ≡ o → ((d : List Arm) → Turns goals d l (moved_arms goals d l) (elsewhere l (moved_arms goals d l))) → R (here o)
      go None q ih = stays (no_goal done l (rest a) a (elsewhere l (rest a)) q (ih (done ++ (a ∷ []))))
      go (Some m) q ih = step m q ih (any (λ (x : Arm). eqb x.to m) (done ++ (a ∷ l))) refl

-- the moves of a graph, block by block as listed
pub data Moves (goals : ℕ → Option ℕ) : Graph → Graph → ℕ → Type 0 where
  none_left : Moves goals [] [] 0
  not_ours : (b : Block) (g h : Graph) (n : ℕ) → T (not (ours b)) → Moves goals g h n → Moves goals (b ∷ g) (b ∷ h) n
  of_ours : (b : Block) (k : List Arm) (g h : Graph) (m n : ℕ) → T (ours b) → Turns goals [] b.arms k m → Moves goals g h n
      → Moves goals (b ∷ g) (with_arms b k ∷ h) (m + n)

elsewhere_none : (l : List Arm) → elsewhere l l ≡ 0
unfolding elsewhere
elsewhere_none [] = refl
elsewhere_none (a ∷ l) = rw (T→≡ (eqb a.to a.to) (eqb_refl a.to)) (omega (arith, elsewhere_none l))

module _ (goals : ℕ → Option ℕ) (other : (n m : ℕ) → goals n ≡ Some m → m ≡ n → ⊥) where
  all_move : (g : Graph) → Moves goals g (map (moved_block goals) g) (moves_between g (map (moved_block goals) g))
  unfolding moves_between moved_block
  all_move [] = none_left
  all_move (b ∷ g) = go (all_move g) (ours b) refl
    where
      h : Graph
      h = map (moved_block goals) g

      go : Moves goals g h (moves_between g h) → (t : Bool) → ours b ≡ t
          → Moves goals (b ∷ g) ((elim t as (λ (x : Bool). Block) [ false ↦ b | true ↦ with_arms b (moved_arms goals [] b.arms) ]) ∷ h)
          (elsewhere b.arms (elim t as (λ (x : Bool). Block) [ false ↦ b | true ↦ with_arms b (moved_arms goals [] b.arms) ]).arms + moves_between g h)
      go ih false e =
          let no_more : elsewhere b.arms b.arms + moves_between g h ≡ moves_between g h = omega (arith, elsewhere_none b.arms) in
          subst (λ (n : ℕ). Moves goals (b ∷ g) (b ∷ h) n) (sym no_more) (not_ours b g h (moves_between g h) (rw e tt) ih)
      go ih true e = of_ours b (moved_arms goals [] b.arms) g h (elsewhere b.arms (moved_arms goals [] b.arms)) (moves_between g h) (rw e tt) (arms_turn goals other [] b.arms) ih

-- THE THEOREM
pub forward_moves : (g : Graph) → Moves (goal g) g (moved_all g) (moves g)
unfolding moves moved_all
forward_moves g = all_move (goal g) (goal_other g) g
