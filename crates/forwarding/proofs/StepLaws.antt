-- One step of each loop. Assumes nothing.
use Rattle.std.proofs.Common.{ℕ, zero, suc, ◌+◌, ◌-◌, ◌*◌, ◌≤◌, ◌<◌, ◌≡◌, refl, sym, ap, ◌∙◌, true, false, cond, List, [], ◌∷◌, ◌++◌, eqb, length, get_or, set, take, drop, replicate, arith, add-one, eq-eqb, eqb-true, drop-cons, get_or-set_same, get_or-set_other, length-take, length-drop, append_assoc, take-append-drop, take_all, append-nil, length-append, drop-drop}
use Rattle.std.specs.Prelude.{Option, None, Some}
use Rattle.std.specs.List.{between}
use Rattle.std.proofs.lemmas.Bool.{eqb-false}
use Rattle.std.proofs.lemmas.List.{drop_all}
use Rattle.std.proofs.lemmas.List.Edits.{length-between, get_or-between}
use Rattle.std.proofs.lemmas.Slice.{between-put_mid}
use Rattle.std.proofs.lemmas.Grind.{common_steps}
use Rattle.limits.specs.Limits.{blocks, arms}
use Rattle.lists.proofs.Choices.{cond_elim, split_lt}
use Rattle.rules.specs.Lists.{pick}
use Rattle.rules.proofs.Membership.{pick_ind, In}
use Rattle.rules.specs.Graph.{numbers_of}
use Rattle.rules.specs.Forward.{goal}
use Rattle.records.specs.declared.Blocks.{Blocks}
use Rattle.records.specs.declared.Arms.{Arms}
use Rattle.records.specs.declared.Graph.{Graph}
use Rattle.records.specs.Tables.{tabled, ArmsWithin, Carried}
use Rattle.records.proofs.StandLaws.{listed_in}
use Rattle.forwarding.specs.Steps.{ours_of, Goals, goes_to, hop_of, differ, differing, hops_of, turn_of, turns_of, moved_of, put}
use Rattle.forwarding.proofs.GoalLaws.{goal_small}

-- ---- a table of the same entries, and a store
pub same_get : {A : Type 0} (a : A) (n k : ℕ) → get_or (replicate n a) k a ≡ a
same_get a zero k = refl
same_get a (suc n) zero = refl
same_get a (suc n) (suc k) = same_get a n k

pub stored : {A : Type 0} (l : List A) (i k : ℕ) (v d : A) → i < length l → get_or (set l i v) k d ≡ cond (eqb k i) v (get_or l k d)
stored {A} l i k v d h =
    cond_elim (λ (x : A). get_or (set l i v) k d ≡ x) (eqb k i) v (get_or l k d)
    (λ e. ap (λ (n : ℕ). get_or (set l i v) n d) (eqb-true k i e) ∙ get_or-set_same l i v d h)
    (λ e. get_or-set_other l i k v d (eqb-false k i e))

-- ---- goals
module _ (t : Graph) where
  pub number_in : (i : ℕ) → i < t.blocks → In (get_or t.b.listed i 0) (numbers_of (tabled t))
  unfolding tabled
  number_in i h = listed_in t.b t.a i t.blocks h

  pub goals_none : Goals t (replicate blocks None) 0
  goals_none = record { known = λ j h. absurd (omega (arith, h)); small = λ k m e. absurd (let z = sym (same_get None blocks k) ∙ e in cc) }

  pub goals_more : (s : Carried t) (onward : List (Option ℕ)) (i : ℕ) (o : Option ℕ) → length onward ≡ blocks → i < t.blocks → Goals t onward i
      → o ≡ goal (tabled t) (get_or t.b.listed i 0) → Goals t (set onward (get_or t.b.listed i 0) o) (i + 1)
  goals_more s onward i o sized h g e =
      let n = get_or t.b.listed i 0 in
      let at = λ (k : ℕ). stored onward n k o None (omega (arith, sized, s.stands.below i h)) in
      record {
        known = λ j l. let m = get_or t.b.listed j 0 in
            at m
            ∙ cond_elim (λ (x : Option ℕ). x ≡ goal (tabled t) m) (eqb m n) o (get_or onward m None)
            (λ q. e ∙ ap (goal (tabled t)) (sym (eqb-true m n q)))
            (λ q. split_lt j i (g.known j) (λ z. absurd (eqb-false m n q (ap (λ (x : ℕ). get_or t.b.listed x 0) (omega (arith, l, z))))));
        small = λ k m q.
            cond_elim (λ (x : Option ℕ). x ≡ Some m → m < blocks) (eqb k n) o (get_or onward k None)
            (λ _ x. omega (arith, goal_small t s n m (sym e ∙ x)))
            (λ _ x. g.small k m x)
            (sym (at k) ∙ q);
      }

-- ---- few arms move
pub differ_most : (x y : ℕ) → differ x y ≤ 1
unfolding differ
differ_most x y = cond_elim (λ (k : ℕ). k ≤ 1) (eqb x y) 0 1 (λ _. omega arith) (λ _. omega arith)

pub differing_none : (l : List ℕ) → 0 ≡ differing l l
unfolding differing differ
differing_none [] = refl
differing_none (x ∷ l) = rw (eq-eqb x x refl) (omega (arith, differing_none l))

pub differing_most : (k l : List ℕ) → differing k l ≤ length k
unfolding differing
differing_most [] l = omega arith
differing_most (x ∷ k) [] = omega arith
differing_most (x ∷ k) (y ∷ l) = omega (arith, differing_most k l, differ_most x y)

pub differing_more : (k l : List ℕ) (x y : ℕ) → length k ≡ length l → differing (k ++ (x ∷ [])) (l ++ (y ∷ [])) ≡ differing k l + differ x y
unfolding differing
differing_more [] [] x y e = omega arith
differing_more [] (d ∷ l) x y e = absurd (omega (arith, e))
differing_more (c ∷ k) [] x y e = absurd (omega (arith, e))
differing_more (c ∷ k) (d ∷ l) x y e = omega (arith, differing_more k l x y (omega (arith, e)))

-- ---- the arms of a block, one more
module _ (onward : List (Option ℕ)) (to : List ℕ) (j : ℕ) (h : j < length to) where
  abbrev x : ℕ
  x = get_or to j 0

  abbrev y : ℕ
  y = hop_of onward to x

  abbrev s : List ℕ
  s = set to j y

  front : take (j + 1) s ≡ take j to ++ (y ∷ [])
  front = grind (arith, common_steps)

  rest : drop (j + 1) s ≡ drop (j + 1) to
  rest = grind (arith, common_steps)

  from_here : drop j to ≡ x ∷ drop (j + 1) to
  from_here = rw add-one (drop-cons to j 0 h)

  pub hops_more : take j to ++ hops_of onward (take j to) (drop j to) ≡ take (j + 1) s ++ hops_of onward (take (j + 1) s) (drop (j + 1) s)
  unfolding hops_of
  hops_more =
      let all : take j to ++ (x ∷ drop (j + 1) to) ≡ to = ap (λ (l : List ℕ). take j to ++ l) (sym from_here) ∙ take-append-drop j to in
      rw (front, rest, from_here, all) (sym (append_assoc (take j to) (y ∷ []) (hops_of onward (take j to ++ (y ∷ [])) (drop (j + 1) to))))

  module _ (was : List ℕ) (same : drop j to ≡ drop j was) where
    pub rest_more : drop (j + 1) s ≡ drop (j + 1) was
    rest_more = rest ∙ sym (drop-drop 1 j to) ∙ ap (drop 1) same ∙ drop-drop 1 j was

    pub differing_on : length to ≡ length was → differing (take j was) (take j to) + differ x y ≡ differing (take (j + 1) was) (take (j + 1) s)
    differing_on long =
        let z = ap (λ (l : List ℕ). get_or l 0 0) same in
        let e : take (j + 1) was ≡ take j was ++ (x ∷ []) = grind (arith, common_steps) in
        rw (front, e) (sym (differing_more (take j was) (take j to) x y (simp length-take (omega (arith, long)))))

pub hops_end : (onward : List (Option ℕ)) (to : List ℕ) (j : ℕ) → length to ≤ j → take j to ++ hops_of onward (take j to) (drop j to) ≡ to
unfolding hops_of
hops_end onward to j h = rw (take_all j to h, drop_all j to h) (append-nil to)

pub turn_not : (onward : List (Option ℕ)) (end : ℕ) (to : List ℕ) → ours_of end (length to) ≡ false → turn_of onward end to ≡ to
unfolding turn_of pick
turn_not onward end to e = rw e

pub turn_ours : (onward : List (Option ℕ)) (end : ℕ) (to : List ℕ) → ours_of end (length to) ≡ true → turn_of onward end to ≡ hops_of onward [] to
unfolding turn_of pick
turn_ours onward end to e = rw e

pub moved_most : (onward : List (Option ℕ)) (b : Blocks) (a : Arms) → ArmsWithin a arms → (i : ℕ) → moved_of onward b a i ≤ arms * i
unfolding moved_of
moved_most onward b a w zero = omega arith
moved_most onward b a w (suc i) =
    let k = get_or b.listed i 0 in
    let f = get_or a.first k 0 in
    let n = get_or a.count k 0 in
    let s = between f (f + n) (turns_of onward b a i) in
    let long : length s ≤ n = simp (length-take, length-drop) (omega arith) in
    omega (arith, moved_most onward b a w i, w k, differing_most s (turn_of onward (get_or b.ends k 0) s), long)

-- ---- a part of a table, put in
module _ (s ys : List ℕ) (f n : ℕ) (fits : f + n ≤ length s) (long : length ys ≡ n) where
  pub put_length : length (put f (f + n) ys s) ≡ length s
  put_length = simp (length-append, length-take, length-drop) (omega (arith, fits, long))

  pub put_in : between f (f + n) (put f (f + n) ys s) ≡ ys
  put_in = between-put_mid f (f + n - f) s ys (f + n) (omega (arith, fits)) (omega (arith, long))

  pub put_at : (j : ℕ) → j < n → get_or (put f (f + n) ys s) (f + j) 0 ≡ get_or ys j 0
  put_at j h = sym (get_or-between (put f (f + n) ys s) f (f + n) j 0 (omega (arith, h))) ∙ ap (λ (l : List ℕ). get_or l j 0) put_in

  pub put_out : (q : ℕ) → (f ≤ q → q < f + n → ⊥) → get_or (put f (f + n) ys s) q 0 ≡ get_or s q 0
  put_out q d = split_lt q f (λ h. grind (arith, common_steps)) (λ h. split_lt q (f + n) (λ k. absurd (d h k)) (λ k. grind (arith, common_steps)))

-- ---- targets stay those of blocks
hops_length : (onward : List (Option ℕ)) (l done : List ℕ) → length (hops_of onward done l) ≡ length l
unfolding hops_of
hops_length onward [] done = refl
hops_length onward (x ∷ l) done = ap suc (hops_length onward l (done ++ (hop_of onward (done ++ (x ∷ l)) x ∷ [])))

pub turn_length : (onward : List (Option ℕ)) (end : ℕ) (to : List ℕ) → length (turn_of onward end to) ≡ length to
unfolding turn_of
turn_length onward end to = pick_ind (λ (l : List ℕ). length l ≡ length to) (ours_of end (length to)) (hops_of onward [] to) to (hops_length onward to []) refl

-- a part's turn is as long as the part
pub part_long : (onward : List (Option ℕ)) (end f n : ℕ) (s : List ℕ) → f + n ≤ length s → length (turn_of onward end (between f (f + n) s)) ≡ n
part_long onward end f n s h = turn_length onward end (between f (f + n) s) ∙ length-between s f (f + n) h ∙ (let e : f + n - f ≡ n = omega arith in e)

module _ (onward : List (Option ℕ)) (small : (k m : ℕ) → get_or onward k None ≡ Some m → m < blocks) where
  hop_small : (to : List ℕ) (here : ℕ) → here < blocks → hop_of onward to here < blocks
  unfolding hop_of
  hop_small to here h = go (get_or onward here None) refl
    where
      go : (o : Option ℕ) → get_or onward here None ≡ o → elim o as (λ (x : Option ℕ). ℕ) [ None ↦ here | Some m ↦ cond (goes_to to m) here m ] < blocks
      go None e = h
      go (Some m) e = cond_elim (λ (k : ℕ). k < blocks) (goes_to to m) here m (λ _. h) (λ _. small here m e)

  hops_small : (l done : List ℕ) (j : ℕ) → get_or l j 0 < blocks → get_or (hops_of onward done l) j 0 < blocks
  unfolding hops_of
  hops_small [] done j h = h
  hops_small (x ∷ l) done zero h = hop_small (done ++ (x ∷ l)) x h
  hops_small (x ∷ l) done (suc j) h = hops_small l (done ++ (hop_of onward (done ++ (x ∷ l)) x ∷ [])) j h

  turn_small : (end : ℕ) (to : List ℕ) (j : ℕ) → get_or to j 0 < blocks → get_or (turn_of onward end to) j 0 < blocks
  unfolding turn_of
  turn_small end to j h = pick_ind (λ (l : List ℕ). get_or l j 0 < blocks) (ours_of end (length to)) (hops_of onward [] to) to (hops_small to [] j h) h

  part_small : (end f n : ℕ) (s : List ℕ) → f + n ≤ length s → (q : ℕ) → get_or s q 0 < blocks → get_or (put f (f + n) (turn_of onward end (between f (f + n) s)) s) q 0 < blocks
  part_small end f n s fits q h =
      let to = between f (f + n) s in
      let out : (f ≤ q → q < f + n → ⊥) → get_or (put f (f + n) (turn_of onward end to) s) q 0 < blocks =
      λ d. rw (put_out s (turn_of onward end to) f n fits (part_long onward end f n s fits) q d) h in
      split_lt q f (λ l. out (λ k _. omega (arith, l, k)))
      (λ l. split_lt q (f + n)
      (λ k.
      let j = q - f in
      let e : q ≡ f + j = omega (arith, l) in
      let m : f + j < f + n = omega (arith, e, k) in
      let here : get_or to j 0 < blocks = rw (get_or-between s f (f + n) j 0 m, ← e) h in
      rw e (rw (put_at s (turn_of onward end to) f n fits (part_long onward end f n s fits) j (omega (arith, m))) (turn_small end to j here)))
      (λ k. out (λ _ m. omega (arith, k, m))))

module _ (onward : List (Option ℕ)) (b : Blocks) (a : Arms) (fits : ArmsWithin a (length a.to)) where
  pub turns_length : (i : ℕ) → length (turns_of onward b a i) ≡ length a.to
  unfolding turns_of
  turns_length zero = refl
  turns_length (suc i) =
      let k = get_or b.listed i 0 in
      let f = get_or a.first k 0 in
      let n = get_or a.count k 0 in
      let s = turns_of onward b a i in
      let room : f + n ≤ length s = omega (arith, fits k, turns_length i) in
      put_length s (turn_of onward (get_or b.ends k 0) (between f (f + n) s)) f n room (part_long onward (get_or b.ends k 0) f n s room) ∙ turns_length i

  pub turns_small : ((k m : ℕ) → get_or onward k None ≡ Some m → m < blocks) → (i q : ℕ) → get_or a.to q 0 < blocks → get_or (turns_of onward b a i) q 0 < blocks
  unfolding turns_of
  turns_small small zero q h = h
  turns_small small (suc i) q h =
      let k = get_or b.listed i 0 in
      let f = get_or a.first k 0 in
      let n = get_or a.count k 0 in
      part_small onward small (get_or b.ends k 0) f n (turns_of onward b a i) (omega (arith, fits k, turns_length i)) q (turns_small small i q h)

-- ---- what the loops step by
pub ruleset few_moves = (differing_most, moved_most)
