-- The second walk: what a list adds to a piece, and what is in it when nothing is left to look at. Assumes nothing.
use Rattle.std.proofs.Common.{ℕ, suc, ◌+◌, ◌-◌, ◌≤◌, ◌<◌, ◌≡◌, Bool, true, false, ◌⊎◌, inl, inr, List, [], ◌∷◌, length, get_or, set, refl, sym, ap, ◌∙◌, subst, arith, add-one, eqb}
use Rattle.std.specs.Prelude.{Option, None, Some}
use mathlib.Core.Logic.{⊎_elim}
use lib.Seq.{get_or-set_same, get_or-set_other}
use borrow.Author.Tests.{eqb-true, eqb-false}
use Rattle.limits.specs.Limits.{blocks}
use Rattle.lists.specs.Marked.{marked}
use Rattle.lists.proofs.Choices.{split_eq}
use Rattle.lists.proofs.Tables.{marked_most}
use Rattle.rules.proofs.Membership.{In}
use Rattle.rules.proofs.StackWalk.{Frame}
use Rattle.stack.specs.Frames.{frame}
use Rattle.cycles.specs.declared.Way.{Way}
use Rattle.cycles.specs.declared.Inward.{Inward}
use Rattle.cycles.specs.Inward.{way, Linked}
use Rattle.cycles.proofs.InwardLaws.{linked_wide}
use Rattle.cycles.specs.Gathering.{blocks_on, Gathered, Back, here, over, Collected, Sorted, old, new}

-- the same number, or another
same_or : {X : Type 0} (a b : ℕ) → (a ≡ b → X) → ((a ≡ b → ⊥) → X) → X
same_or {X} a b f g = go (eqb a b) refl
  where
    go : (x : Bool) → eqb a b ≡ x → X
    go true e = f (eqb-true a b e)
    go false e = g (eqb-false a b e)

-- ---- a list, block by block

-- the list w, of which `rest` is left
pub record Going (s : Inward) (w : List ℕ) (c : ℕ) (p st q st' : List ℕ) (o : Option ℕ) : Type 0 where
  pub rest : List ℕ
  pub linked : Linked s.ways s.len o rest
  pub some : (x : ℕ) → In x rest → In x w
  pub came : (x : ℕ) → (get_or q x 0 ≡ get_or p x 0) ⊎ ((get_or p x 0 ≡ 0) × (get_or q x 0 ≡ c) × In x w × In x st')
  pub whole : (x : ℕ) → In x w → (0 < get_or q x 0) ⊎ In x rest
  pub held : (x : ℕ) → In x st → In x st'
  pub only : (x : ℕ) → In x st' → In x st ⊎ ((get_or p x 0 ≡ 0) × (get_or q x 0 ≡ c) × In x w)

pub going_start : (s : Inward) (w : List ℕ) (c : ℕ) (p st : List ℕ) (o : Option ℕ) → Linked s.ways s.len o w → Going s w c p st p st o
going_start s w c p st o h = record {
  rest = w;
  linked = h;
  some = λ x i. i;
  came = λ x. inl refl;
  whole = λ x i. inr i;
  held = λ x i. i;
  only = λ x i. inl i;
}

module _ {s : Inward} {w : List ℕ} {c : ℕ} {p st q st' : List ℕ} {o : Option ℕ} (g : Going s w c p st q st' o) where
  pub going_end : o ≡ None → Gathered w c p st q st'
  going_end h = record { came = g.came; whole = λ x i. ⊎_elim (λ z. z) (λ j. absurd (out x g.rest g.linked j)) (g.whole x i); held = g.held; only = g.only }
    where
      out : (x : ℕ) (l : List ℕ) → Linked s.ways s.len o l → In x l → ⊥
      out x [] n j = j
      out x (y ∷ l) n j = let z : ◌≡◌ {A = Option ℕ} None (Some n.0) = sym h ∙ n.1 in cc

-- where a list goes on
pub record Top (s : Inward) (k : ℕ) (l : List ℕ) : Type 0 where
  pub rest : List ℕ
  pub is : l ≡ (way s.ways k).from ∷ rest
  pub within : k < s.len
  pub below : Linked s.ways k (way s.ways k).next rest

linked_first : (s : Inward) (k : ℕ) (o : Option ℕ) (l : List ℕ) → o ≡ Some k → Linked s.ways s.len o l → Top s k l
linked_first s k o [] e n = absurd (let z : ◌≡◌ {A = Option ℕ} None (Some k) = sym n ∙ e in cc)
linked_first s k o (x ∷ l) e n =
    let q : n.0 ≡ k = let z : ◌≡◌ {A = Option ℕ} (Some n.0) (Some k) = sym n.1 ∙ e in cc in
    subst (λ (j : ℕ). Top s j (x ∷ l)) q (record { rest = l; is = ap (λ (z : ℕ). z ∷ l) (sym n.3); within = n.2; below = n.4 })

-- how far a list can go down
unfoldable pub depth : Option ℕ → ℕ
depth None = 0
depth (Some k) = suc k

depth_low : (ways : List Way) (top : ℕ) (o : Option ℕ) (l : List ℕ) → Linked ways top o l → depth o ≤ top
unfolding depth
depth_low ways top o [] h = rw h (omega arith)
depth_low ways top o (m ∷ l) h = rw h.1 (omega (arith, h.2))

module _ {s : Inward} {w : List ℕ} {c : ℕ} {p st q st' : List ℕ} {o : Option ℕ} (k : ℕ) (g : Going s w c p st q st' o) (is : o ≡ Some k) where
  abbrev m : ℕ
  m = (way s.ways k).from

  t : Top s k g.rest
  t = linked_first s k o g.rest is g.linked

  pub within : k < s.len
  within = t.within

  pub goes_down : depth (way s.ways k).next < depth o
  unfolding depth
  goes_down = rw is (omega (arith, depth_low s.ways k (way s.ways k).next t.rest t.below))

  on : Linked s.ways s.len (way s.ways k).next t.rest
  on = linked_wide s.ways k s.len (way s.ways k).next t.rest (omega (arith, t.within)) t.below

  pub first_in : In m w
  first_in = g.some m (subst (λ (l : List ℕ). In m l) (sym t.is) (inl refl))

  pub turn_old : 0 < get_or q m 0 → Going s w c p st q st' (way s.ways k).next
  turn_old h = record {
    rest = t.rest;
    linked = on;
    some = λ x i. g.some x (subst (λ (l : List ℕ). In x l) (sym t.is) (inr i));
    came = g.came;
    whole = λ x i. ⊎_elim inl (λ j. ⊎_elim (λ z. inl (subst (λ (y : ℕ). 0 < get_or q y 0) (sym z) h)) inr (subst (λ (l : List ℕ). In x l) t.is j)) (g.whole x i);
    held = g.held;
    only = g.only;
  }

  -- a block in no piece joins this one
  turn_new : get_or q m 0 ≡ 0 → m < length q → 0 < c → Going s w c p st (set q m c) (m ∷ st') (way s.ways k).next
  turn_new z h pos-c = record {
    rest = t.rest;
    linked = on;
    some = λ x i. g.some x (subst (λ (l : List ℕ). In x l) (sym t.is) (inr i));
    came = λ x. same_or x m (λ s. inr (subst New (sym s) (was, at, first_in, inl refl)))
        (λ d. ⊎_elim (λ s. inl (other x d ∙ s)) (λ s. inr (s.0, other x d ∙ s.1, s.2, inr s.3)) (g.came x));
    whole = λ x i. same_or x m (λ s. inl (subst (λ (y : ℕ). 0 < get_or (set q m c) y 0) (sym s) (omega (arith, at, pos-c))))
        (λ d. ⊎_elim (λ s. inl (omega (arith, s, other x d))) (λ j. ⊎_elim (λ s. absurd (d s)) inr (subst (λ (l : List ℕ). In x l) t.is j)) (g.whole x i));
    held = λ x i. inr (g.held x i);
    only = λ x i. same_or x m (λ s. inr (subst Fresh (sym s) (was, at, first_in)))
        (λ d. ⊎_elim (λ s. absurd (d s)) (λ j. ⊎_elim inl (λ s. inr (s.0, other x d ∙ s.1, s.2)) (g.only x j)) i);
  }
    where
      at : get_or (set q m c) m 0 ≡ c
      at = get_or-set_same q m c 0 h

      other : (x : ℕ) → (x ≡ m → ⊥) → get_or (set q m c) x 0 ≡ get_or q x 0
      other x d = get_or-set_other q m x c 0 d

      was : get_or p m 0 ≡ 0
      was = ⊎_elim (λ s. sym s ∙ z) (λ s. s.0) (g.came m)

      New : ℕ → Type 0
      New x = (get_or p x 0 ≡ 0) × (get_or (set q m c) x 0 ≡ c) × In x w × In x (m ∷ st')

      Fresh : ℕ → Type 0
      Fresh x = (get_or p x 0 ≡ 0) × (get_or (set q m c) x 0 ≡ c) × In x w

  -- the stack as the code has it
  pub turn_new_on : {fs gs : List Frame} → st' ≡ blocks_on fs → gs ≡ frame m 0 ∷ fs → get_or q m 0 ≡ 0 → m < length q → 0 < c → Going s w c p st (set q m c) (blocks_on gs) (way s.ways k).next
  unfolding blocks_on
  turn_new_on {fs} {gs} es eg z h pos-c = rw (eg, ← es) (turn_new z h pos-c)

-- ---- how many are in pieces
-- a block is taken off the stack, and as many are put on it as join
pub join_less : (q q' : List ℕ) (len rest len' : ℕ) → len ≡ suc rest → len' + marked q blocks ≡ rest + marked q' blocks → len' + (blocks - marked q' blocks) < len + (blocks - marked q blocks)
join_less q q' len rest len' e f = omega (arith, e, f, marked_most q blocks, marked_most q' blocks)

-- ---- a piece, list by list

-- the blocks on the stack are still to be looked at
pub record Reaching (f : ℕ → List ℕ) (r c : ℕ) (p q st : List ℕ) : Type 0 where
  pub came : (x : ℕ) → (get_or q x 0 ≡ get_or p x 0) ⊎ ((get_or p x 0 ≡ 0) × (get_or q x 0 ≡ c) × Back f p r x)
  pub root : get_or q r 0 ≡ c
  pub stacked : (x : ℕ) → In x st → (get_or p x 0 ≡ 0) × (get_or q x 0 ≡ c) × Back f p r x
  pub shut : (y : ℕ) → get_or p y 0 ≡ 0 → 0 < get_or q y 0 → In y st ⊎ ((x : ℕ) → In x (f y) → 0 < get_or q x 0)

module _ (f : ℕ → List ℕ) (r c : ℕ) (p : List ℕ) {fs : List Frame} (on : fs ≡ frame r 0 ∷ []) (low : r < length p) (free : get_or p r 0 ≡ 0) where
  root_at : get_or (set p r c) r 0 ≡ c
  root_at = get_or-set_same p r c 0 low

  root_else : (x : ℕ) → (x ≡ r → ⊥) → get_or (set p r c) x 0 ≡ get_or p x 0
  root_else x d = get_or-set_other p r x c 0 d

  Rooted : ℕ → Type 0
  Rooted x = (get_or p x 0 ≡ 0) × (get_or (set p r c) x 0 ≡ c) × Back f p r x

  rooted : (x : ℕ) → x ≡ r → Rooted x
  unfolding Rooted
  rooted x e = subst Rooted (sym e) (free, root_at, here refl)

  pub reach_start : Reaching f r c p (set p r c) (blocks_on fs)
  unfolding blocks_on Rooted
  reach_start = subst (λ (l : List Frame). Reaching f r c p (set p r c) (blocks_on l)) (sym on) (record {
    came = λ x. same_or x r (λ e. inr (rooted x e)) (λ d. inl (root_else x d));
    root = root_at;
    stacked = λ x i. ⊎_elim (rooted x) (λ z. absurd z) i;
    shut = λ y e h. same_or y r (λ s. inl (inl s)) (λ d. absurd (omega (arith, h, e, root_else y d)));
  })

module _ {f : ℕ → List ℕ} {r c : ℕ} {p q : List ℕ} {fs gs : List Frame} {y a : ℕ} (pos : 0 < c) (g : Reaching f r c p q (blocks_on fs)) (top : fs ≡ frame y a ∷ gs) where
  on_top : (x : ℕ) → In x (y ∷ blocks_on gs) → In x (blocks_on fs)
  unfolding blocks_on
  on_top x i = subst (λ (l : List Frame). In x (blocks_on l)) (sym top) i

  off_top : (x : ℕ) → In x (blocks_on fs) → In x (y ∷ blocks_on gs)
  unfolding blocks_on
  off_top x i = subst (λ (l : List Frame). In x (blocks_on l)) top i

  pub reach_turn : {q' : List ℕ} (hs : List Frame) → Gathered (f y) c q (blocks_on gs) q' (blocks_on hs) → Reaching f r c p q' (blocks_on hs)
  reach_turn {q'} hs h = record {
    came = came_more;
    root = stays r (omega (arith, g.root, pos)) ∙ g.root;
    stacked = λ x i. ⊎_elim (λ j. let s = g.stacked x (on_top x (inr j)) in (s.0, stays x (omega (arith, s.1, pos)) ∙ s.1, s.2)) (λ s. joined x s.0 s.1 s.2) (h.only x i);
    shut = λ z e k. split_eq (get_or q z 0) (λ w. inl (fresh z w k)) (λ w. ⊎_elim (λ i. ⊎_elim (λ s. inr (λ x j. h.whole x (subst (λ (v : ℕ). In x (f v)) s j))) (λ j. inl (h.held z j)) (off_top z i)) (λ o. inr (λ x j. grows x (o x j))) (g.shut z e (omega (arith, w))));
  }
    where
      stays : (x : ℕ) → 0 < get_or q x 0 → get_or q' x 0 ≡ get_or q x 0
      stays x k = ⊎_elim (λ e. e) (λ s. absurd (omega (arith, k, s.0))) (h.came x)

      grows : (x : ℕ) → 0 < get_or q x 0 → 0 < get_or q' x 0
      grows x k = omega (arith, k, stays x k)

      joined : (x : ℕ) → get_or q x 0 ≡ 0 → get_or q' x 0 ≡ c → In x (f y) → (get_or p x 0 ≡ 0) × (get_or q' x 0 ≡ c) × Back f p r x
      joined x e k i =
          let w : get_or p x 0 ≡ 0 = ⊎_elim (λ s. sym s ∙ e) (λ s. s.0) (g.came x) in
          (w, k, over (g.stacked y (on_top y (inl refl))).2 i w)

      came_more : (x : ℕ) → (get_or q' x 0 ≡ get_or p x 0) ⊎ ((get_or p x 0 ≡ 0) × (get_or q' x 0 ≡ c) × Back f p r x)
      came_more x = ⊎_elim (λ e. ⊎_elim (λ s. inl (e ∙ s)) (λ s. inr (s.0, e ∙ s.1, s.2)) (g.came x)) (λ s. inr (joined x s.0 s.1 s.2)) (h.came x)

      fresh : (x : ℕ) → get_or q x 0 ≡ 0 → 0 < get_or q' x 0 → In x (blocks_on hs)
      fresh x e k = ⊎_elim (λ s. absurd (omega (arith, s, e, k))) (λ s. s.3) (h.came x)

pub reach_end : (f : ℕ → List ℕ) (r c : ℕ) (p q : List ℕ) (fs : List Frame) → c ≡ suc r → fs ≡ [] → Reaching f r c p q (blocks_on fs) → Collected f r (suc r) p q
unfolding blocks_on
reach_end f r c p q fs e n g = subst (λ (k : ℕ). Collected f r k p q) e (record {
  came = g.came;
  root = g.root;
  shut = λ y z h. ⊎_elim (λ i. absurd (subst (λ (l : List Frame). In y (blocks_on l)) n i)) (λ o. o) (g.shut y z h);
})

-- ---- one block of the order more
module _ {f : ℕ → List ℕ} {order p : List ℕ} (i : ℕ) (h : Sorted f order i p) where
  pub sorted_old : 0 < get_or p (get_or order i 0) 0 → Sorted f order (i + 1) p
  sorted_old k = rw (add-one i) (old h k)

  pub sorted_new : {q : List ℕ} → get_or p (get_or order i 0) 0 ≡ 0 → Collected f (get_or order i 0) (suc (get_or order i 0)) p q → Sorted f order (i + 1) q
  sorted_new e d = rw (add-one i) (new h e d)
