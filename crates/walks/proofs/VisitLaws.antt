-- The walk from one block: the machine has one end, and that is the recursive visit. Assumes nothing.
use Rattle.std.proofs.Common.{ℕ, zero, suc, ◌≤◌, ◌<◌, ◌≡◌, true, false, not, ◌||◌, List, [], ◌∷◌, map, length, refl, sym, ap, ◌∙◌, subst, arith, T, eqb}
use Rattle.std.proofs.lemmas.List.{length-map}
use Rattle.limits.specs.Limits.{blocks}
use Rattle.marks.specs.Sets.{member}
use Rattle.marks.proofs.SetLaws.{size_more}
use Rattle.rules.specs.Lists.{mem}
use Rattle.rules.specs.Graph.{Block, Graph, numbers_of}
use Rattle.rules.specs.PlainOrder.{visit}
use Rattle.rules.specs.PlainOrder as rules
use Rattle.rules.proofs.Membership.{In}
use Rattle.rules.proofs.Wholeness.{Whole}
use Rattle.rules.proofs.Counting.{tally_len}
use Rattle.rules.proofs.PlainVisit.{enter, todo_listed, unseen, visit_seen}
use Rattle.rules.proofs.StackWalk.{Frame, State, run, pop, machine_visit}
use Rattle.stack.specs.Frames.{frame}
use Rattle.walks.specs.declared.Walk.{Walk}
use Rattle.walks.specs.Walking.{Counted, Shows, Visited}
use Rattle.walks.proofs.TurnLaws.{shows_enter, state, Ends, Going}

-- no more of a graph can be unseen than it has
pub unseen_most : (g : Graph) (w : rules.Walk) → unseen g w ≤ length g
unfolding unseen numbers_of
unseen_most g w = omega (arith, tally_len (λ (b : ℕ). not (mem b w.seen)) (map (λ (b : Block). b.number) g), length-map g (λ (b : Block). b.number))

module _ (g : Graph) where
  stuck : (k : ℕ) (w : rules.Walk) → run g k (state [] w) ≡ state [] w
  unfolding run pop
  stuck zero w = refl
  stuck (suc k) w = stuck k w

  abbrev walk_in : State → rules.Walk
  walk_in s = s.walk

  one_end : (k m : ℕ) (s : State) (v u : rules.Walk) → run g k s ≡ state [] v → run g m s ≡ state [] u → v ≡ u
  unfolding run
  one_end zero m s v u p q = sym (ap walk_in (stuck m v)) ∙ ap walk_in (ap (run g m) (sym p) ∙ q)
  one_end (suc k) zero s v u p q = sym (ap walk_in p) ∙ ap walk_in (ap (run g (suc k)) q) ∙ ap walk_in (stuck (suc k) u)
  one_end (suc k) (suc m) s v u p q = one_end k m (pop g s.stack s.walk) v u p q

  end_visit : Whole g → (w : rules.Walk) (n : ℕ) → In n (numbers_of g) → T (not (mem n w.seen)) → (v : rules.Walk)
      → Ends g (state (frame n 0 ∷ []) (enter w n)) (state [] v) → v ≡ visit g (length g) w n
  unfolding numbers_of
  end_visit whole w n i f v e = go (length g) refl
    where
      go : (k : ℕ) → length g ≡ k → v ≡ visit g k w n
      go zero q = absurd (none g q i)
        where
          none : (h : Graph) → length h ≡ 0 → In n (numbers_of h) → ⊥
          none [] q i = i
          none (x ∷ h) q i = omega (arith, q)
      go (suc k) q =
          let m = machine_visit g (todo_listed g whole) k w n i f (omega (arith, unseen_most g w, q)) in
          one_end e.0 m.0 (state (frame n 0 ∷ []) (enter w n)) v (visit g (suc k) w n) e.1 m.1

  module _ (root : ℕ) (w : Walk) where
    -- a marked block is passed
    pub visit_marked : member w.seen root ≡ true → Visited g root w w
    visit_marked m v s = subst (λ (u : rules.Walk). Shows u w) (sym (visit_seen g (length g) v root (rw (← s.seen_is root, m) tt))) s

    -- another is walked from
    module _ (i : In root (numbers_of g)) (m : member w.seen root ≡ false) where
      pub going_start : {st : List Frame} (seen : List ℕ) → root < blocks → Counted 0 w → ((m : ℕ) → member seen m ≡ eqb m root || member w.seen m) → st ≡ frame root 0 ∷ [] → Going g root w st (record { seen = seen; done = w.done })
      going_start seen low c more top = rw top (record {
        stacked = ((i, omega arith), tt);
        counted = omega (arith, c, size_more w.seen seen root low m more);
        along = λ v s. record { walk = enter v root; shows = shows_enter root seen s more; onward = λ x e. e };
      })

      pub going_end : {st : List Frame} {w' : Walk} → Whole g → st ≡ [] → Going g root w st w' → Counted 0 w' × Visited g root w w'
      unfolding run
      going_end {st} {w'} whole none h =
          let k : Going g root w [] w' = subst (λ (l : List Frame). Going g root w l w') none h in (
            k.counted,
            λ v s.
                let a = k.along v s in
                subst (λ (u : rules.Walk). Shows u w') (end_visit whole v root i (rw (← s.seen_is root, m) tt) a.walk (a.onward (state [] a.walk) (0, refl))) a.shows,
          )
