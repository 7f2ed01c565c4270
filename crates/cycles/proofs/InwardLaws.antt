-- The lists of arms in: what a store adds to them, and which blocks they have in the end. Assumes nothing.
use Rattle.std.proofs.Common.{ℕ, zero, suc, ◌+◌, ◌≤◌, ◌<◌, ◌≡◌, Bool, true, false, cond, ◌⊎◌, inl, inr, List, [], ◌∷◌, length, get_or, set, replicate, refl, sym, ap, ◌∙◌, subst, arith, add-one, eqb}
use Rattle.std.specs.Prelude.{Option, None, Some}
use mathlib.Core.Logic.{⊎_elim}
use lib.Seq.{get_or-set_same, get_or-set_other}
use borrow.Author.Tests.{eqb-true, eqb-false, eq-eqb}
use Rattle.limits.specs.Limits.{blocks, arms}
use Rattle.lists.proofs.Choices.{cond_elim, split_lt}
use Rattle.rules.proofs.Membership.{In}
use Rattle.records.specs.declared.Graph.{Graph}
use Rattle.cycles.specs.declared.Way.{Way}
use Rattle.cycles.specs.declared.Inward.{Inward}
use Rattle.cycles.specs.Inward.{way, Linked, Lists, added, entered, ins}

-- ---- one more arm in

-- ways from n on are not looked at
linked_keep : (ways : List Way) (top n : ℕ) (w : Way) (o : Option ℕ) (l : List ℕ) → n ≤ top → Linked ways n o l → Linked (set ways top w) n o l
linked_keep ways top n w o [] q h = h
linked_keep ways top n w o (m ∷ l) q h =
    let ne : h.0 ≡ top → ⊥ = omega (arith, h.2) in
    let a = get_or-set_other ways top h.0 w (record { from = 0; next = None }) ne in
    let at = linked_keep ways top h.0 w (way ways h.0).next l (omega (arith, h.2)) h.4 in
    (h.0, h.1, h.2, rw a h.3, rw a at)

pub linked_wide : (ways : List Way) (n more : ℕ) (o : Option ℕ) (l : List ℕ) → n ≤ more → Linked ways n o l → Linked ways more o l
linked_wide ways n more o [] q h = h
linked_wide ways n more o (m ∷ l) q h = (h.0, h.1, omega (arith, q, h.2), h.3, h.4)

module _ (s : Inward) (m t : ℕ) (room : s.len < length s.ways) (within : s.len < arms) (small : m < blocks) (inside : t < length s.head) where
  abbrev pub stored : Way
  stored = record { from = m; next = get_or s.head t None }

  abbrev pub linked : Inward
  linked = record { head = set s.head t (Some s.len); ways = set s.ways s.len stored; len = s.len + 1 }

  pub link_more : (f : ℕ → List ℕ) → Lists s f → Lists linked (added f m t)
  unfolding added
  link_more f h = record { fits = omega (arith, within); linked = at; low = λ y x i. small_at y x (eqb y t) i }
    where
      small_at : (y x : ℕ) (b : Bool) → In x (cond b (m ∷ f y) (f y)) → x < blocks
      small_at y x true (inl e) = omega (arith, e, small)
      small_at y x true (inr i) = h.low y x i
      small_at y x false i = h.low y x i

      kept : (o : Option ℕ) (l : List ℕ) → Linked s.ways s.len o l → Linked linked.ways s.len o l
      kept o l = linked_keep s.ways s.len s.len stored o l (omega arith)

      here : Linked linked.ways linked.len (Some s.len) (m ∷ f t)
      here =
          let a = get_or-set_same s.ways s.len stored (record { from = 0; next = None }) room in
          (s.len, refl, omega arith, rw a refl, rw a (kept (get_or s.head t None) (f t) (h.linked t)))

      at : (y : ℕ) → Linked linked.ways linked.len (get_or linked.head y None) (cond (eqb y t) (m ∷ f y) (f y))
      at y = cond_elim (λ (l : List ℕ). Linked linked.ways linked.len (get_or linked.head y None) l) (eqb y t) (m ∷ f y) (f y)
          (λ e.
          let q = eqb-true y t e in
          subst (λ (z : ℕ). Linked linked.ways linked.len (get_or linked.head z None) (m ∷ f z)) (sym q)
          (subst (λ (z : Option ℕ). Linked linked.ways linked.len z (m ∷ f t)) (sym (get_or-set_same s.head t (Some s.len) None inside)) here))
          (λ e.
          subst (λ (z : Option ℕ). Linked linked.ways linked.len z (f y)) (sym (get_or-set_other s.head t y (Some s.len) None (eqb-false y t e)))
          (linked_wide linked.ways s.len linked.len (get_or s.head y None) (f y) (omega arith) (kept (get_or s.head y None) (f y) (h.linked y))))

-- ---- which blocks the lists have

added_in : (f : ℕ → List ℕ) (m t y x : ℕ) → In x (added f m t y) → In x (f y) ⊎ ((x ≡ m) × (y ≡ t))
unfolding added
added_in f m t y x i =
    cond_elim (λ (l : List ℕ). In x l → In x (f y) ⊎ ((x ≡ m) × (y ≡ t))) (eqb y t) (m ∷ f y) (f y)
    (λ e i. ⊎_elim (λ q. inr (q, eqb-true y t e)) inl i) (λ e i. inl i) i

in_added : (f : ℕ → List ℕ) (m t y x : ℕ) → In x (f y) → In x (added f m t y)
unfolding added
in_added f m t y x i = cond_elim (λ (l : List ℕ). In x l) (eqb y t) (m ∷ f y) (f y) (λ e. inr i) (λ e. i)

added_new : (f : ℕ → List ℕ) (m t : ℕ) → In m (added f m t t)
unfolding added
added_new f m t = rw (eq-eqb t t refl) (inl refl)

-- block x has an arm to block y among its n from arm q on
pub record Arm (to : List ℕ) (q n y : ℕ) : Type 0 where
  pub arm : ℕ
  pub below : arm < n
  pub goes : get_or to (q + arm) 0 ≡ y

module _ (f : ℕ → List ℕ) (m : ℕ) (to : List ℕ) (q : ℕ) where
  entered_in : (n y x : ℕ) → In x (entered f m to q n y) → In x (f y) ⊎ ((x ≡ m) × Arm to q n y)
  unfolding entered
  entered_in zero y x i = inl i
  entered_in (suc n) y x i =
      ⊎_elim (λ j. ⊎_elim inl (λ a. inr (a.0, record { arm = a.1.arm; below = omega (arith, a.1.below); goes = a.1.goes })) (entered_in n y x j))
      (λ a. inr (a.0, record { arm = n; below = omega arith; goes = sym a.1 }))
      (added_in (entered f m to q n) m (get_or to (q + n) 0) y x i)

  in_entered : (n y x : ℕ) → In x (f y) → In x (entered f m to q n y)
  unfolding entered
  in_entered zero y x i = i
  in_entered (suc n) y x i = in_added (entered f m to q n) m (get_or to (q + n) 0) y x (in_entered n y x i)

  entered_new : (n y : ℕ) → Arm to q n y → In m (entered f m to q n y)
  unfolding entered
  entered_new zero y a = absurd (omega (arith, a.below))
  entered_new (suc n) y a =
      split_lt a.arm n
      (λ h. in_added (entered f m to q n) m (get_or to (q + n) 0) y m (entered_new n y (record { arm = a.arm; below = h; goes = a.goes })))
      (λ h.
      let e : a.arm ≡ n = omega (arith, h, a.below) in
      let g : get_or to (q + n) 0 ≡ y = ap (λ (k : ℕ). get_or to (q + k) 0) (sym e) ∙ a.goes in
      subst (λ (z : ℕ). In m (added (entered f m to q n) m (get_or to (q + n) 0) z)) g (added_new (entered f m to q n) m (get_or to (q + n) 0)))

module _ (t : Graph) where
  -- the block at place `place` is x, and has an arm to y
  pub record From (i y x : ℕ) : Type 0 where
    pub place : ℕ
    pub within : place < i
    pub listed_is : get_or t.b.listed place 0 ≡ x
    pub arm : Arm t.a.to (get_or t.a.first x 0) (get_or t.a.count x 0) y

  pub ins_from : (i y x : ℕ) → In x (ins t i y) → From i y x
  unfolding ins
  ins_from zero y x j = absurd j
  ins_from (suc i) y x j =
      let m = get_or t.b.listed i 0 in
      ⊎_elim (λ k. let a = ins_from i y x k in record { place = a.place; within = omega (arith, a.within); listed_is = a.listed_is; arm = a.arm })
      (λ a. record { place = i; within = omega arith; listed_is = sym a.0; arm = subst (λ (z : ℕ). Arm t.a.to (get_or t.a.first z 0) (get_or t.a.count z 0) y) (sym a.0) a.1 })
      (entered_in (ins t i) m t.a.to (get_or t.a.first m 0) (get_or t.a.count m 0) y x j)

  pub from_ins : (i y x : ℕ) → From i y x → In x (ins t i y)
  unfolding ins
  from_ins zero y x a = absurd (omega (arith, a.within))
  from_ins (suc i) y x a =
      let m = get_or t.b.listed i 0 in
      split_lt a.place i
      (λ h. in_entered (ins t i) m t.a.to (get_or t.a.first m 0) (get_or t.a.count m 0) y x (from_ins i y x (record { place = a.place; within = h; listed_is = a.listed_is; arm = a.arm })))
      (λ h.
      let e : a.place ≡ i = omega (arith, h, a.within) in
      let g : m ≡ x = ap (λ (k : ℕ). get_or t.b.listed k 0) (sym e) ∙ a.listed_is in
      subst (λ (z : ℕ). In z (entered (ins t i) m t.a.to (get_or t.a.first m 0) (get_or t.a.count m 0) y)) g
      (entered_new (ins t i) m t.a.to (get_or t.a.first m 0) (get_or t.a.count m 0) y (subst (λ (z : ℕ). Arm t.a.to (get_or t.a.first z 0) (get_or t.a.count z 0) y) (sym g) a.arm)))

-- ---- as the loops go
pub none_get : (n y : ℕ) → ◌≡◌ {A = Option ℕ} (get_or (replicate n None) y None) None
none_get zero y = refl
none_get (suc n) zero = refl
none_get (suc n) (suc y) = none_get n y

pub enter_none : {s : Inward} {f : ℕ → List ℕ} (m : ℕ) (to : List ℕ) (q : ℕ) → Lists s f → Lists s (entered f m to q 0)
unfolding entered
enter_none m to q h = h

pub enter_more : {s : Inward} (f : ℕ → List ℕ) (m : ℕ) (to : List ℕ) (q j : ℕ) → Lists s (added (entered f m to q j) m (get_or to (q + j) 0)) → Lists s (entered f m to q (j + 1))
unfolding entered
enter_more f m to q j h = rw (add-one j) h

pub ins_none : (t : Graph) (s : Inward) → s.len ≡ 0 → ((y : ℕ) → get_or s.head y None ≡ None) → Lists s (ins t 0)
unfolding ins
ins_none t s z e = record { fits = omega (arith, z); linked = e; low = λ y x i. absurd i }

pub ins_more : {s : Inward} (t : Graph) (i m : ℕ) → m ≡ get_or t.b.listed i 0 → Lists s (entered (ins t i) m t.a.to (get_or t.a.first m 0) (get_or t.a.count m 0)) → Lists s (ins t (i + 1))
unfolding ins
ins_more {s} t i m e h = rw (add-one i, ← e) h
