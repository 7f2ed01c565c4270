-- The first of the two walks of `cycles`: what its finishing order promises the second. Assumes nothing.
use Prim.Native.Nat.{ℕ, zero, suc, ◌≤◌}
use native.Mathlib.Omega.{arith}
use mathlib.Core.Path.{◌≡◌, refl, sym, ap, ◌∙◌, subst}
use mathlib.Core.Bool.{not}
use mathlib.Core.Logic.{◌⊎◌, inl, inr, ⊎_elim}
use mathlib.Core.List.{List, [], ◌∷◌, ◌++◌, append_assoc}
use lib.Dec.{T, T_not}
use Rattle.rules.specs.Lists.{foldl, mem}
use Rattle.rules.specs.Graph.{Graph, numbers_of}
use Rattle.rules.specs.PlainOrder.{Walk, visit}
use Rattle.rules.proofs.Membership.{In, test, mem→, →mem, append-In, In-left, In-right}
use Rattle.rules.proofs.PlainVisit.{todo, enter, finish, visit_new, unseen, unseen_mono, unseen_enter, unseen_pos, visit_seen}

module _ (g : Graph) where
  pub data Leads (a : ℕ) : ℕ → Type 0 where
    stay : {b : ℕ} → a ≡ b → Leads a b
    on : {b c : ℕ} → Leads a b → In c (todo g b) → Leads a c

  pub first_arm : (a b : ℕ) → In b (todo g a) → (c : ℕ) → Leads b c → Leads a c
  first_arm a b i c (stay e) = on (stay refl) (subst (λ (x : ℕ). In x (todo g a)) e i)
  first_arm a b i c (on {b = m} p j) = on (first_arm a b i m p) j

  -- the part of the list that u leads to, beyond which nothing has an arm to u
  pub record Upto (u : ℕ) (l : List ℕ) : Type 0 where
    pub led : List ℕ
    pub rest : List ℕ
    pub whole : l ≡ led ++ rest
    pub leads : (m : ℕ) → In m led → Leads u m
    pub none : (v : ℕ) → In v rest → In u (todo g v) → ⊥

  abbrev pub Good : List ℕ → Type 0
  Good [] = Unit {0}
  Good (u ∷ l) = Upto u l × Good l

  pub record Inv (w : Walk) : Type 0 where
    pub good : Good w.done
    pub shut : (v : ℕ) → In v w.done → (u : ℕ) → In u (todo g v) → In u w.seen

  -- what a walk from a adds
  pub record Adds (P : ℕ → Type 0) (w v : Walk) : Type 0 where
    pub inv : Inv v
    pub new : List ℕ
    pub split : v.done ≡ new ++ w.done
    pub leads : (m : ℕ) → In m new → P m
    pub mono : (m : ℕ) → In m w.seen → In m v.seen
    pub ends : (m : ℕ) → In m v.seen → In m v.done ⊎ In m w.seen

  pub done_mono : (P : ℕ → Type 0) (w v : Walk) → Adds P w v → (m : ℕ) → In m w.done → In m v.done
  done_mono P w v a m j = subst (λ (l : List ℕ). In m l) (sym a.split) (In-right m a.new w.done j)

  module _ (listed : (n : ℕ) → In n (numbers_of g) → (c : ℕ) → In c (todo g n) → In c (numbers_of g)) where
    pub leads_listed : (x : ℕ) → In x (numbers_of g) → (c : ℕ) → Leads x c → In c (numbers_of g)
    leads_listed x i c (stay e) = subst (λ (y : ℕ). In y (numbers_of g)) e i
    leads_listed x i c (on {b = m} p j) = listed m (leads_listed x i m p) c j

    abbrev pub Visits : ℕ → Type 0
    Visits k = (w : Walk) (n : ℕ) → In n (numbers_of g) → unseen g w ≤ k → Inv w → Adds (Leads n) w (visit g k w n) × In n (visit g k w n).seen

    folds : (k : ℕ) → Visits k → (n : ℕ) (l : List ℕ) → ((c : ℕ) → In c l → In c (numbers_of g)) → ((c : ℕ) → In c l → In c (todo g n)) → (w : Walk) → unseen g w ≤ k → Inv w →
        Adds (Leads n) w (foldl (visit g k) w l) × ((c : ℕ) → In c l → In c (foldl (visit g k) w l).seen)
    unfolding foldl
    folds k h n [] s t w q i = (record { inv = i; new = []; split = refl; leads = λ m j. absurd j; mono = λ m j. j; ends = λ m j. inr j }, λ c j. absurd j)
    folds k h n (x ∷ l) s t w q i =
        let a = h w x (s x (inl refl)) q i in
        let w' = visit g k w x in
        let b = folds k h n l (λ c j. s c (inr j)) (λ c j. t c (inr j)) w' (omega (arith, unseen_mono g w w' a.0.mono)) a.0.inv in (
          record {
            inv = b.0.inv;
            new = b.0.new ++ a.0.new;
            split = b.0.split ∙ ap (λ (r : List ℕ). b.0.new ++ r) a.0.split ∙ sym (append_assoc b.0.new a.0.new w.done);
            leads = λ m j. ⊎_elim (b.0.leads m) (λ p. first_arm n x (t x (inl refl)) m (a.0.leads m p)) (append-In m b.0.new a.0.new j);
            mono = λ m j. b.0.mono m (a.0.mono m j);
            ends = λ m j. ⊎_elim inl (λ p. ⊎_elim (λ q. inl (done_mono (Leads n) w' (foldl (visit g k) w' l) b.0 m q)) inr (a.0.ends m p)) (b.0.ends m j);
          },
          λ c j. ⊎_elim (λ e. b.0.mono c (subst (λ (y : ℕ). In y w'.seen) (sym e) a.1)) (b.1 c) j,
        )

    Answer : Walk → ℕ → Walk → Type 0
    Answer w n v = Adds (Leads n) w v × In n v.seen

    already : (w : Walk) (n : ℕ) → Inv w → T (mem n w.seen) → Answer w n w
    unfolding Answer
    already w n i t = (record { inv = i; new = []; split = refl; leads = λ m j. absurd j; mono = λ m j. j; ends = λ m j. inr j }, mem→ n w.seen t)

    pub visits : (k : ℕ) → Visits k
    unfolding Answer finish enter
    visits zero w n j q i =
        ⊎_elim (λ t. subst (Answer w n) (sym (visit_seen g zero w n t)) (already w n i t)) (λ f. absurd (omega (arith, unseen_pos g w n j f))) (test (mem n w.seen))
    visits (suc k) w n j q i = ⊎_elim (λ t. subst (Answer w n) (sym (visit_seen g (suc k) w n t)) (already w n i t)) (λ f. subst (Answer w n) (sym (visit_new g k w n f)) (fresh (visits k) f)) (test (mem n w.seen))
      where
        u : Walk
        u = enter w n

        r : Walk
        r = foldl (visit g k) u (todo g n)

        fresh : Visits k → T (not (mem n w.seen)) → Answer w n (finish r n)
        fresh h f = (
          record {
            inv = record {
              good = (record { led = a.0.new; rest = w.done; whole = a.0.split; leads = a.0.leads; none = λ v p o. T_not (mem n w.seen) f (→mem n w.seen (i.shut v p n o)) }, a.0.inv.good);
              shut = λ v p c o. ⊎_elim (λ e. a.1 c (subst (λ (x : ℕ). In c (todo g x)) e o)) (λ p'. a.0.inv.shut v p' c o) p;
            };
            new = n ∷ a.0.new;
            split = ap (λ (l : List ℕ). n ∷ l) a.0.split;
            leads = λ m p. ⊎_elim (λ e. stay (sym e)) (a.0.leads m) p;
            mono = λ m p. a.0.mono m (inr p);
            ends = λ m p. ⊎_elim (λ q. inl (inr q)) (λ q. ⊎_elim (λ e. inl (inl e)) inr q) (a.0.ends m p);
          },
          a.0.mono n (inl refl),
        )
          where
            a : Adds (Leads n) u r × ((c : ℕ) → In c (todo g n) → In c r.seen)
            a = folds k h n (todo g n) (listed n j) (λ c o. o) u (omega (arith, unseen_enter g w n j f)) (record { good = i.good; shut = λ v p c o. inr (i.shut v p c o) })

  -- ---- what the second walk needs: within the list from r on, whatever leads to r is led to by r

  pub data Toward (r : ℕ) (l : List ℕ) : ℕ → Type 0 where
    there : {x : ℕ} → x ≡ r → Toward r l x
    via : {x y : ℕ} → In x (r ∷ l) → In y (todo g x) → Toward r l y → Toward r l x

  pub join_leads : (a b : ℕ) → Leads a b → (c : ℕ) → Leads b c → Leads a c
  join_leads a b p c (stay e) = subst (λ (x : ℕ). Leads a x) e p
  join_leads a b p c (on {b = m} q j) = on (join_leads a b p m q) j

  record Reached (r : ℕ) (l : List ℕ) (v : ℕ) : Type 0 where
    led : List ℕ
    rest : List ℕ
    whole : l ≡ led ++ rest
    leads : (m : ℕ) → In m led → Leads r m
    now : (v ≡ r) ⊎ In v led

  record Found (m : List ℕ) (r : List ℕ) (v : ℕ) : Type 0 where
    pre : List ℕ
    post : List ℕ
    split : m ≡ pre ++ v ∷ post
    ok : Upto v (post ++ r)

  find_in : (m r : List ℕ) (v : ℕ) → Good (m ++ r) → In v m → Found m r v
  find_in [] r v h i = absurd i
  find_in (x ∷ m) r v h (inl e) = record { pre = []; post = m; split = ap (λ (y : ℕ). y ∷ m) (sym e); ok = subst (λ (y : ℕ). Upto y (m ++ r)) (sym e) h.0 }
  find_in (x ∷ m) r v h (inr i) = let f = find_in m r v h.1 i in record { pre = x ∷ f.pre; post = f.post; split = ap (λ (l : List ℕ). x ∷ l) f.split; ok = f.ok }

  reached : (r : ℕ) (l : List ℕ) → Good (r ∷ l) → (x : ℕ) → Toward r l x → Reached r l x
  reached r l h x (there e) = record { led = []; rest = l; whole = refl; leads = λ m j. absurd j; now = inl e }
  reached r l h x (via {y = y} i o p) = go (reached r l h y p) i
    where
      go : Reached r l y → In x (r ∷ l) → Reached r l x
      go q (inl e) = record { led = q.led; rest = q.rest; whole = q.whole; leads = q.leads; now = inl e }
      go q (inr j) = ⊎_elim inside outside (append-In x q.led q.rest (subst (λ (k : List ℕ). In x k) q.whole j))
        where
          inside : In x q.led → Reached r l x
          inside k = record { led = q.led; rest = q.rest; whole = q.whole; leads = q.leads; now = inr k }

          outside : In x q.rest → Reached r l x
          outside k = ⊎_elim head body q.now
            where
              head : y ≡ r → Reached r l x
              head e =
                  let u = h.0 in
                  let k' = ⊎_elim (λ a. a) (λ b. absurd (u.none x b (subst (λ (z : ℕ). In z (todo g x)) e o))) (append-In x u.led u.rest (subst (λ (s : List ℕ). In x s) u.whole j)) in
                  record { led = u.led; rest = u.rest; whole = u.whole; leads = u.leads; now = inr k' }

              body : In y q.led → Reached r l x
              body a =
                  let f = find_in q.led q.rest y (subst Good q.whole h.1) a in
                  let u = f.ok in
                  let k' : In x u.led = ⊎_elim (λ b. b) (λ b. absurd (u.none x b o)) (append-In x u.led u.rest (subst (λ (s : List ℕ). In x s) u.whole (In-right x f.post q.rest k))) in
                  record {
                    led = f.pre ++ (y ∷ u.led);
                    rest = u.rest;
                    whole = q.whole ∙ ap (λ (s : List ℕ). s ++ q.rest) f.split ∙ append_assoc f.pre (y ∷ f.post) q.rest ∙ ap (λ (s : List ℕ). f.pre ++ (y ∷ s)) u.whole ∙ sym (append_assoc f.pre (y ∷ u.led) u.rest);
                    leads = λ m b. ⊎_elim (λ c. q.leads m (subst (λ (s : List ℕ). In m s) (sym f.split) (In-left m f.pre (y ∷ f.post) c)))
                        (λ c. ⊎_elim (λ e. q.leads m (subst (λ (z : ℕ). In z q.led) (sym e) a)) (λ d. join_leads r y (q.leads y a) m (u.leads m d)) c) (append-In m f.pre (y ∷ u.led) b);
                    now = inr (In-right x f.pre (y ∷ u.led) (inr k'));
                  }

  pub leads_back : (r : ℕ) (l : List ℕ) → Good (r ∷ l) → (x : ℕ) → Toward r l x → Leads r x
  leads_back r l h x p = let q = reached r l h x p in ⊎_elim (λ e. stay (sym e)) (q.leads x) q.now
