-- The arms of all blocks, as they move in place, are those of document 01, and so is the count of moves. Assumes nothing.
use Rattle.std.proofs.Common.{ℕ, zero, suc, ◌+◌, ◌-◌, ◌≤◌, ◌<◌, ◌≡◌, refl, sym, ap, ◌∙◌, subst, true, false, List, [], ◌∷◌, ◌++◌, map, length, get_or, arith}
use Rattle.std.specs.Prelude.{Option, None}
use Rattle.std.specs.List.{between}
use Rattle.std.proofs.lemmas.List.Edits.{length-between, get_or-between}
use mathlib.Core.Path.{ap₂}
use Rattle.lists.proofs.Choices.{split_bool}
use Rattle.rules.specs.Graph as graph
use Rattle.rules.specs.Graph.{with_arms}
use Rattle.rules.specs.Ours.{ours}
use Rattle.rules.specs.Forward.{moved_arms, moved_block, elsewhere, moves_between}
use Rattle.rules.proofs.Membership.{map_append}
use Rattle.records.specs.declared.Blocks.{Blocks}
use Rattle.records.specs.declared.Arms.{Arms}
use Rattle.records.specs.Tables.{Has, ArmsWithin, arm_at, arms_from, leaves, block_at, up_to}
use Rattle.records.proofs.TableLaws.{leaves_count, up_to_length}
use Rattle.forwarding.specs.Steps.{ours_of, differing, turn_of, turns_of, moved_of, with_to, put}
use Rattle.forwarding.proofs.StepLaws.{turn_not, turn_ours, put_length, put_in, put_out, part_long, turns_length}
use Rattle.forwarding.proofs.ArmMoves.{arms_to, arms_between, elsewhere_to, moved_to}

-- ---- parts of the tables
pub arms_same : (a c : Arms) (n f : ℕ) → ((q : ℕ) → f ≤ q → q < f + n → arm_at a q ≡ arm_at c q) → arms_from a f n ≡ arms_from c f n
unfolding arms_from
arms_same a c zero f h = refl
arms_same a c (suc n) f h =
    ap₂ ◌∷◌ (h f (omega arith) (omega arith)) (arms_same a c n (suc f) (λ q l m. h q (omega (arith, l)) (omega (arith, m))))

-- ---- blocks whose arms may be moved
pub ours_is : (b : Blocks) (a : Arms) (k : ℕ) → ours (block_at b a k) ≡ ours_of (get_or b.ends k 0) (get_or a.count k 0)
unfolding ours ours_of block_at
ours_is b a k = rw (leaves_count a k)

moved_yes : (goals : ℕ → Option ℕ) (x : graph.Block) → ours x ≡ true → moved_block goals x ≡ with_arms x (moved_arms goals [] x.arms)
unfolding moved_block
moved_yes goals x e = rw (e, moved_block)

moved_no : (goals : ℕ → Option ℕ) (x : graph.Block) → ours x ≡ false → moved_block goals x ≡ x
unfolding moved_block
moved_no goals x e = rw (e, moved_block)

-- ---- one block
module _ (onward : List (Option ℕ)) (b : Blocks) (a : Arms) (k : ℕ) (to : List ℕ) (fits : get_or a.first k 0 + get_or a.count k 0 ≤ length to) where
  abbrev f : ℕ
  f = get_or a.first k 0

  abbrev n : ℕ
  n = get_or a.count k 0

  abbrev part : List ℕ
  part = between f (f + n) to

  abbrev part' : List ℕ
  part' = turn_of onward (get_or b.ends k 0) part

  abbrev to' : List ℕ
  to' = put f (f + n) part' to

  long : length part' ≡ n
  long = part_long onward (get_or b.ends k 0) f n to fits

  -- the arms of other blocks stay
  pub turn_outside : (q : ℕ) → (Has a k q → ⊥) → get_or to' q 0 ≡ get_or to q 0
  turn_outside q d = put_out to part' f n fits long q (λ l m. d (record { from = l; below = m }))

  leaves_are : leaves (with_to a to) k ≡ arms_to a.args a.weight f part
  unfolding leaves
  leaves_are = arms_between (with_to a to) n f fits

  leaves_then : leaves (with_to a to') k ≡ arms_to a.args a.weight f part'
  unfolding leaves
  leaves_then = arms_between (with_to a to') n f (omega (arith, fits, put_length to part' f n fits long)) ∙ ap (arms_to a.args a.weight f) (put_in to part' f n fits long)

  pub block_counted : differing part part' ≡ elsewhere (leaves (with_to a to) k) (leaves (with_to a to') k)
  block_counted = sym (elsewhere_to a.args a.weight part part' f) ∙ ap₂ elsewhere (sym leaves_are) (sym leaves_then)

  ours_here : ours (block_at b (with_to a to) k) ≡ ours_of (get_or b.ends k 0) (length part)
  ours_here = ours_is b (with_to a to) k ∙ ap (ours_of (get_or b.ends k 0)) (let e : n ≡ f + n - f = omega arith in e ∙ sym (length-between to f (f + n) fits))

  -- the block with these arms
  abbrev armed : List graph.Arm → graph.Block
  armed l = record { number = k; marks = get_or b.marks k 0; end = get_or b.ends k 0; weight = get_or b.weight k 0; arms = l }

  pub block_turned : (goals : ℕ → Option ℕ) → ((q : ℕ) → Has a k q → goals (get_or to q 0) ≡ get_or onward (get_or to q 0) None)
      → block_at b (with_to a to') k ≡ moved_block goals (block_at b (with_to a to) k)
  unfolding block_at with_arms
  block_turned goals known =
      let x = block_at b (with_to a to) k in
      let here : (j : ℕ) → j < length part → goals (get_or part j 0) ≡ get_or onward (get_or part j 0) None =
      λ j h.
      let m : f + j < f + n = omega (arith, h, length-between to f (f + n) fits) in
      rw (get_or-between to f (f + n) j 0 m) (known (f + j) (record { from = omega arith; below = m })) in
      split_bool (ours_of (get_or b.ends k 0) (length part))
      (λ e.
      ap armed (leaves_then ∙ ap (arms_to a.args a.weight f) (turn_ours onward (get_or b.ends k 0) part e) ∙ sym (moved_to onward goals a.args a.weight f part here) ∙ ap (moved_arms goals []) (sym leaves_are))
      ∙ sym (moved_yes goals x (ours_here ∙ e)))
      (λ e.
      ap armed (leaves_then ∙ ap (arms_to a.args a.weight f) (turn_not onward (get_or b.ends k 0) part e) ∙ sym leaves_are) ∙ sym (moved_no goals x (ours_here ∙ e)))

-- ---- lists of blocks
pub up_to_same : (b c : Blocks) (a d : Arms) (n : ℕ) → ((i : ℕ) → i < n → block_at b a (get_or b.listed i 0) ≡ block_at c d (get_or c.listed i 0)) → up_to b a n ≡ up_to c d n
unfolding up_to
up_to_same b c a d zero h = refl
up_to_same b c a d (suc n) h = ap₂ (λ (g : graph.Graph) (x : graph.Block). g ++ (x ∷ [])) (up_to_same b c a d n (λ i l. h i (omega (arith, l)))) (h n (omega arith))

moves_more : (g h : graph.Graph) (x y : graph.Block) → length g ≡ length h → moves_between (g ++ (x ∷ [])) (h ++ (y ∷ [])) ≡ moves_between g h + elsewhere x.arms y.arms
unfolding moves_between
moves_more [] [] x y e = omega arith
moves_more [] (d ∷ h) x y e = absurd (omega (arith, e))
moves_more (c ∷ g) [] x y e = absurd (omega (arith, e))
moves_more (c ∷ g) (d ∷ h) x y e = omega (arith, moves_more g h x y (omega (arith, e)))

-- ---- all blocks, in their order
module _ (onward : List (Option ℕ)) (goals : ℕ → Option ℕ) (b : Blocks) (a : Arms) (n : ℕ)
    (apart : (i j : ℕ) → i < n → j < n → (i ≡ j → ⊥) → (q : ℕ) → Has a (get_or b.listed i 0) q → Has a (get_or b.listed j 0) q → ⊥)
    (fits : ArmsWithin a (length a.to))
    (known : (i : ℕ) → i < n → (q : ℕ) → Has a (get_or b.listed i 0) q → goals (get_or a.to q 0) ≡ get_or onward (get_or a.to q 0) None) where
  abbrev t : ℕ → List ℕ
  t i = turns_of onward b a i

  abbrev w : ℕ → Arms
  w i = with_to a (t i)

  fits_here : (i : ℕ) → get_or a.first (get_or b.listed i 0) 0 + get_or a.count (get_or b.listed i 0) 0 ≤ length (t i)
  fits_here i = omega (arith, fits (get_or b.listed i 0), turns_length onward b a fits i)

  next : (i q : ℕ) → (Has a (get_or b.listed i 0) q → ⊥) → get_or (t (suc i)) q 0 ≡ get_or (t i) q 0
  unfolding turns_of
  next i q d = turn_outside onward b a (get_or b.listed i 0) (t i) (fits_here i) q d

  -- blocks whose turn is yet to come
  later : (i j : ℕ) → i ≤ j → j < n → (q : ℕ) → Has a (get_or b.listed j 0) q → get_or (t i) q 0 ≡ get_or a.to q 0
  unfolding turns_of
  later zero j l m q h = refl
  later (suc i) j l m q h =
      next i q (λ k. apart i j (omega (arith, l, m)) m (λ e. omega (arith, l, e)) q k h) ∙ later i j (omega (arith, l)) m q h

  same_block : (x y : List ℕ) (k : ℕ) → ((q : ℕ) → Has a k q → get_or x q 0 ≡ get_or y q 0) → block_at b (with_to a x) k ≡ block_at b (with_to a y) k
  unfolding block_at leaves arm_at
  same_block x y k h =
      ap (λ (l : List graph.Arm). record { number = k; marks = get_or b.marks k 0; end = get_or b.ends k 0; weight = get_or b.weight k 0; arms = l })
      (arms_same (with_to a x) (with_to a y) (get_or a.count k 0) (get_or a.first k 0)
      (λ q l m. ap (λ (v : ℕ). record { to = v; args = get_or a.args q 0; weight = get_or a.weight q 0 }) (h q (record { from = l; below = m }))))

  -- a turn changes no block that came before
  before_stay : (i : ℕ) → i < n → up_to b (w (suc i)) i ≡ up_to b (w i) i
  before_stay i l =
      up_to_same b b (w (suc i)) (w i) i
      (λ j m. same_block (t (suc i)) (t i) (get_or b.listed j 0)
      (λ q h. next i q (λ k. apart i j l (omega (arith, l, m)) (λ e. omega (arith, m, e)) q k h)))

  here_first : (i : ℕ) → i < n → block_at b (w i) (get_or b.listed i 0) ≡ block_at b a (get_or b.listed i 0)
  here_first i l = same_block (t i) a.to (get_or b.listed i 0) (λ q h. later i i (omega arith) l q h)

  known_here : (i : ℕ) → i < n → (q : ℕ) → Has a (get_or b.listed i 0) q → goals (get_or (t i) q 0) ≡ get_or onward (get_or (t i) q 0) None
  known_here i l q h = subst (λ (v : ℕ). goals v ≡ get_or onward v None) (sym (later i i (omega arith) l q h)) (known i l q h)

  turned_here : (i : ℕ) → i < n → block_at b (w (suc i)) (get_or b.listed i 0) ≡ moved_block goals (block_at b (w i) (get_or b.listed i 0))
  unfolding turns_of
  turned_here i l = block_turned onward b a (get_or b.listed i 0) (t i) (fits_here i) goals (known_here i l)

  counted_here : (i : ℕ) → i < n
      → (let f = get_or a.first (get_or b.listed i 0) 0 in
      let part = between f (f + get_or a.count (get_or b.listed i 0) 0) (t i) in
      differing part (turn_of onward (get_or b.ends (get_or b.listed i 0) 0) part) ≡ elsewhere (block_at b (w i) (get_or b.listed i 0)).arms (block_at b (w (suc i)) (get_or b.listed i 0)).arms)
  unfolding block_at turns_of
  counted_here i l = block_counted onward b a (get_or b.listed i 0) (t i) (fits_here i)

  pub all_turned : (i : ℕ) → i ≤ n → up_to b (w i) i ≡ map (moved_block goals) (up_to b a i)
  unfolding up_to
  all_turned zero l = refl
  all_turned (suc i) l =
      let k = get_or b.listed i 0 in
      let h : i < n = omega (arith, l) in
      let e : block_at b (w (suc i)) k ≡ moved_block goals (block_at b a k) =
      turned_here i h ∙ ap (moved_block goals) (here_first i h) in
      ap₂ (λ (g : graph.Graph) (x : graph.Block). g ++ (x ∷ [])) (before_stay i h ∙ all_turned i (omega (arith, l))) e
      ∙ sym (map_append (moved_block goals) (up_to b a i) (block_at b a k ∷ []))

  pub all_counted : (i : ℕ) → i ≤ n → moved_of onward b a i ≡ moves_between (up_to b a i) (up_to b (w i) i)
  unfolding up_to moved_of moves_between
  all_counted zero l = refl
  all_counted (suc i) l =
      let k = get_or b.listed i 0 in
      let h : i < n = omega (arith, l) in
      let g = up_to b a i in
      let m = up_to b (w (suc i)) i in
      let x = block_at b a k in
      let y = block_at b (w (suc i)) k in
      let z = block_at b (w i) k in
      let step : elsewhere z.arms y.arms ≡ elsewhere x.arms y.arms = ap (λ (v : graph.Block). elsewhere v.arms y.arms) (here_first i h) in
      let long : length g ≡ length m = up_to_length b a i ∙ sym (up_to_length b (w (suc i)) i) in
      ap₂ ◌+◌ (all_counted i (omega (arith, l)) ∙ ap (moves_between g) (sym (before_stay i h))) (counted_here i h ∙ step)
      ∙ sym (moves_more g m x y long)
