-- The marks that the sweeps leave are those of the spread graph: the cold blocks are the least set. Assumes nothing.
use Prim.Native.Nat.{ℕ, zero, suc, ◌+◌, ◌≤◌, ◌<◌}
use native.Mathlib.Omega.{arith}
use mathlib.Core.Path.{◌≡◌, refl, sym, ap, ap₂, ◌∙◌, subst}
use mathlib.Core.Bool.{Bool, true, false, not, ◌&&◌, ◌||◌, cond}
use mathlib.Core.Logic.{◌⊎◌, inl, inr}
use mathlib.Core.List.{List, [], ◌∷◌, ◌++◌, map}
use Rattle.std.specs.Prelude.{Option, Some}
use lib.Dec.{T, eqb, T_not, not_T, eqb→eq, eqb-suc-zero}
use lib.ListN.{length, get_or}
use borrow.Author.Tests.{lt-ltb, eq-eqb, ne_eqb, eqb-true, eqb-false}
use Rattle.limits.specs.Limits.{numbers, most_arms, blocks}
use Rattle.lists.proofs.Choices.{split_bool, same_test}
use Rattle.rules.specs.Lists.{keep, any, mem}
use Rattle.rules.specs.Graph as graph
use Rattle.rules.specs.Graph.{is_cold, entry, names}
use Rattle.rules.specs.Spread.{ways_in, cold_blocks, warm_entry, spreads, cold_set, chilled, spread}
use Rattle.rules.specs.Split.{splits}
use Rattle.rules.proofs.Membership.{In, keep→, map-In, mem→, T→≡, map_append}
use Rattle.rules.proofs.SpreadLeast.{Shut, spread_closed, spread_least, spread_none}
use Rattle.rules.proofs.SpreadMarks.{cold_stays}
use Rattle.records.specs.declared.Graph.{Graph}
use Rattle.records.proofs.StandLaws.{carries_of, stands_of, sound_carried}
use Rattle.records.specs.Tables.{block_at, up_to, tabled, Back, Carries, Stands, Sound, Carried}
use Rattle.cold.specs.Ways.{links_of, at, arms_to, ins, cold_ins, Linked}
use Rattle.cold.specs.Sweeps.{with_marks, joining, joins_at, cooled, Cools, Settled}
use Rattle.cold.specs.Sweeps.Cools.{still, next}
use Rattle.cold.specs.Spreading.{SpreadTo, SpreadFrom}
use Rattle.cold.proofs.SweepLaws.{joins_at_lem, cold_next, cooled_here, cooled_else, cools_sized}
use Rattle.cold.proofs.LinkLaws.{ins_some, ins_pos, cold_all, all_cold, block_at_lem, number_at, place_of, block_is, linked, way_in, in_way}

clash : {X : Type 0} (b : Bool) → b ≡ true → b ≡ false → X
clash b p q = absurd (let z : true ≡ false = sym p ∙ q in subst T z tt)

-- ---- "Only with a warm entry and some cold block"
some_cold : (g : graph.Graph) → not (eqb (length (cold_blocks g)) 0) ≡ any (λ (b : graph.Block). is_cold b.marks) g
unfolding cold_blocks keep any
some_cold [] = refl
some_cold (x ∷ g) = go (some_cold g) (is_cold x.marks)
  where
    go : not (eqb (length (cold_blocks g)) 0) ≡ any (λ (b : graph.Block). is_cold b.marks) g → (t : Bool)
        → not (eqb (length (map (λ (b : graph.Block). b.number) (cond t (x ∷ keep (λ (b : graph.Block). is_cold b.marks) g) (keep (λ (b : graph.Block). is_cold b.marks) g)))) 0)
        ≡ t || any (λ (b : graph.Block). is_cold b.marks) g
    go ih true = ap not (eqb-suc-zero (length (cold_blocks g)))
    go ih false = ih

spreads_are : (g : graph.Graph) → spreads g ≡ splits g
unfolding spreads splits
spreads_are g = ap (λ (b : Bool). warm_entry g && b) (some_cold g)

-- ---- a mark stays, or bit 1 joins it
abbrev pub Kept : ℕ → ℕ → Type 0
Kept x y = (y ≡ x) ⊎ ((is_cold x ≡ false) × (y ≡ x + 2))

kept_cold : (x y : ℕ) → Kept x y → is_cold x ≡ true → is_cold y ≡ true
kept_cold x y (inl e) c = rw e c
kept_cold x y (inr q) c = clash (is_cold x) c q.0

kept_more : (x y : ℕ) → Kept x y → is_cold y ≡ false → Kept x (y + 2)
kept_more x y (inl e) c = inr (rw e at c, ap (λ (z : ℕ). z + 2) e)
kept_more x y (inr q) c = clash (is_cold y) (rw q.1 (cold_next x q.0)) c

chilled_is : (s : List ℕ) (x : graph.Block) (v : ℕ) → Kept x.marks v → is_cold v ≡ mem x.number s
    → ◌≡◌ {A = graph.Block} (record { number = x.number; marks = v; end = x.end; weight = x.weight; arms = x.arms }) (chilled s x)
unfolding chilled
chilled_is s x v (inl e) c = go (is_cold x.marks) refl
  where
    here : graph.Block
    here = record { number = x.number; marks = v; end = x.end; weight = x.weight; arms = x.arms }

    go : (t : Bool) → is_cold x.marks ≡ t → here ≡ chilled s x
    go true q = rw (sym c ∙ ap is_cold e ∙ q, q, chilled) (rw e refl)
    go false q = rw (sym c ∙ ap is_cold e ∙ q, chilled) (rw e refl)
chilled_is s x v (inr q) c = rw (sym c ∙ ap is_cold q.1 ∙ cold_next x.marks q.0, q.0, chilled) (rw q.1 refl)

-- tables that stand for the spread graph carry it, and those that carry it stand for it where `place` was the way back
module _ {t₀ t : Graph} where
  pub spread_from : SpreadTo t₀ t → SpreadFrom t₀ t
  spread_from s = record { stands = carries_of s.stands; back = λ b. s.stands.back; same = s.same }

  pub spread_to : Back t₀ → SpreadFrom t₀ t → SpreadTo t₀ t
  spread_to b s = record { stands = stands_of s.stands (s.back b); same = s.same }

-- ---- the tables with other marks
module _ (t : Graph) (m : List ℕ) (kept : (k : ℕ) → Kept (get_or t.b.marks k 0) (get_or m k 0))
    (set_is : (i : ℕ) → i < t.blocks → is_cold (get_or m (at (links_of t) i) 0) ≡ mem (at (links_of t) i) (cold_set (tabled t))) where
  marked_up : (p : ℕ) → p ≤ t.blocks → up_to (with_marks t m).b t.a p ≡ map (chilled (cold_set (tabled t))) (up_to t.b t.a p)
  unfolding up_to block_at
  marked_up zero l = refl
  marked_up (suc p) l =
      ap₂ (λ (g : graph.Graph) (x : graph.Block). g ++ (x ∷ [])) (marked_up p (omega (arith, l)))
      (chilled_is (cold_set (tabled t)) (block_at t.b t.a (at (links_of t) p)) (get_or m (at (links_of t) p) 0) (kept (at (links_of t) p)) (set_is p (omega (arith, l))))
      ∙ sym (map_append (chilled (cold_set (tabled t))) (up_to t.b t.a p) (block_at t.b t.a (at (links_of t) p) ∷ []))

  pub marked_carries : Carries numbers most_arms t (tabled t) → length m ≡ blocks → SpreadFrom t (with_marks t m)
  unfolding tabled spread
  marked_carries s z =
      record {
        stands =
            record {
              graph_is = marked_up t.blocks (omega arith);
              few = s.few;
              below = s.below;
              once = s.once;
              fits = s.fits;
              blocks_sized =
                  record {
                    place = s.blocks_sized.place;
                    listed = s.blocks_sized.listed;
                    marks = z;
                    ends = s.blocks_sized.ends;
                    weight = s.blocks_sized.weight;
                  };
              arms_sized = s.arms_sized;
            };
        back = λ b. b;
        same = refl;
      }

  pub marked_stands : Stands numbers most_arms t (tabled t) → length m ≡ blocks → Stands numbers most_arms (with_marks t m) (spread (tabled t))
  marked_stands s z = (spread_to s.back (marked_carries (carries_of s) z)).stands

-- ---- the cold blocks are the least set
module _ (t : Graph) where
  -- a cold block of the graph is cold by its mark
  cold_mark : (k : ℕ) → T (mem k (cold_blocks (tabled t))) → is_cold (get_or t.b.marks k 0) ≡ true
  unfolding cold_blocks block_at
  cold_mark k c =
      let r = map-In (λ (b : graph.Block). b.number) (keep (λ (b : graph.Block). is_cold b.marks) (tabled t)) k (mem→ k (cold_blocks (tabled t)) c) in
      let q = keep→ (λ (b : graph.Block). is_cold b.marks) (tabled t) r.0 r.1 in
      let e : is_cold r.0.marks ≡ is_cold (get_or t.b.marks r.0.number 0) = ap (λ (b : graph.Block). is_cold b.marks) (block_is t r.0 q.0) in
      rw r.2 (sym e ∙ T→≡ (is_cold r.0.marks) q.1)

  mark_cold : (i : ℕ) → i < t.blocks → is_cold (get_or t.b.marks (at (links_of t) i) 0) ≡ true → T (mem (at (links_of t) i) (cold_set (tabled t)))
  unfolding block_at
  mark_cold i l c = cold_stays (tabled t) (block_at t.b t.a (at (links_of t) i)) (block_at_lem t i l) (rw c tt)

  -- where nothing spreads the marks are right as they are
  pub none_set : spreads (tabled t) ≡ false → (i : ℕ) → i < t.blocks → is_cold (get_or t.b.marks (at (links_of t) i) 0) ≡ mem (at (links_of t) i) (cold_set (tabled t))
  none_set n i l =
      same_test (is_cold (get_or t.b.marks (at (links_of t) i) 0)) (mem (at (links_of t) i) (cold_set (tabled t)))
      (λ c. mark_cold i l (T→≡ (is_cold (get_or t.b.marks (at (links_of t) i) 0)) c))
      (λ c. rw (cold_mark (at (links_of t) i) (subst (λ (s : List ℕ). T (mem (at (links_of t) i) s)) (spread_none (tabled t) (rw n tt)) c)) tt)

  module _ (h : Linked (links_of t)) (sized : length t.b.marks ≡ blocks) (e : ℕ) where
    pub cools_kept : (j : ℕ) (m : List ℕ) → Cools (links_of t) e t.b.marks j m → (k : ℕ) → Kept (get_or t.b.marks k 0) (get_or m k 0)
    cools_kept zero m still k = inl refl
    cools_kept (suc j) m (next {m = n} b i l q) k = go (cools_kept j n b k) (eqb k (at (links_of t) i)) refl
      where
        z : length n ≡ blocks
        z = cools_sized (links_of t) h e t.b.marks n j sized b

        go : Kept (get_or t.b.marks k 0) (get_or n k 0) → (y : Bool) → eqb k (at (links_of t) i) ≡ y → Kept (get_or t.b.marks k 0) (get_or (cooled n (at (links_of t) i)) k 0)
        go ih true u =
            let v : k ≡ at (links_of t) i = eqb-true k (at (links_of t) i) u in
            subst (Kept (get_or t.b.marks k 0)) (sym (ap (λ (x : ℕ). get_or (cooled n (at (links_of t) i)) x 0) v ∙ cooled_here (links_of t) h n z i l ∙ ap (λ (x : ℕ). get_or n x 0 + 2) (sym v)))
            (kept_more (get_or t.b.marks k 0) (get_or n k 0) ih (ap (λ (x : ℕ). is_cold (get_or n x 0)) v ∙ (joins_at_lem (links_of t) e n i q).warm))
        go ih false u = subst (Kept (get_or t.b.marks k 0)) (sym (cooled_else (links_of t) h n z i l k (eqb-false k (at (links_of t) i) u))) ih

    module _ (spreading : T (spreads (tabled t))) (entry_is : entry (tabled t) ≡ Some e) where
      not_entry : (k : ℕ) → eqb k e ≡ false → T (not (names (entry (tabled t)) k))
      unfolding names
      not_entry k d = rw entry_is (not_T (eqb e k) (λ u. eqb-false k e d (sym (eqb→eq e k u))))

      -- a block that joins has all its ways in inside the set
      joins_set : (m : List ℕ) → ((i : ℕ) → i < t.blocks → is_cold (get_or m (at (links_of t) i) 0) ≡ true → T (mem (at (links_of t) i) (cold_set (tabled t))))
          → (i : ℕ) → i < t.blocks → joins_at (links_of t) e m i ≡ true → T (mem (at (links_of t) i) (cold_set (tabled t)))
      joins_set m inside i l q =
          let j = joins_at_lem (links_of t) e m i q in
          let k = at (links_of t) i in
          let r = ins_some (links_of t) t.blocks k j.some in
          (spread_closed (tabled t) spreading).shut k (number_at t i l) (not_entry k j.other) (some_ways k (at (links_of t) r.0) (way_in t h k r.0 r.1 r.2))
          (λ n u. let p = in_way t h k n u in
          subst (λ (x : ℕ). T (mem x (cold_set (tabled t)))) p.2
          (inside p.0 p.1 (cold_all (links_of t) h m k t.blocks j.all p.0 p.1 (subst (λ (x : ℕ). 0 < arms_to (links_of t) k x) (sym p.2) p.3))))
        where
          some_ways : (k n : ℕ) → In n (ways_in (tabled t) k) → T (not (eqb (length (ways_in (tabled t) k)) 0))
          some_ways k n u = long (ways_in (tabled t) k) u
            where
              long : (s : List ℕ) → In n s → T (not (eqb (length s) 0))
              long [] u = absurd u
              long (x ∷ s) u = rw (eqb-suc-zero (length s)) tt

      cools_inside : (j : ℕ) (m : List ℕ) → Cools (links_of t) e t.b.marks j m → (i : ℕ) → i < t.blocks → is_cold (get_or m (at (links_of t) i) 0) ≡ true → T (mem (at (links_of t) i) (cold_set (tabled t)))
      cools_inside zero m still i l c = mark_cold i l c
      cools_inside (suc j) m (next {m = n} b p u q) i l c = go (cools_inside j n b) (eqb (at (links_of t) i) (at (links_of t) p)) refl
        where
          z : length n ≡ blocks
          z = cools_sized (links_of t) h e t.b.marks n j sized b

          go : ((i : ℕ) → i < t.blocks → is_cold (get_or n (at (links_of t) i) 0) ≡ true → T (mem (at (links_of t) i) (cold_set (tabled t)))) → (y : Bool) → eqb (at (links_of t) i) (at (links_of t) p) ≡ y
              → T (mem (at (links_of t) i) (cold_set (tabled t)))
          go ih true d = subst (λ (x : ℕ). T (mem x (cold_set (tabled t)))) (sym (eqb-true (at (links_of t) i) (at (links_of t) p) d)) (joins_set n ih p u q)
          go ih false d = ih i l (ap is_cold (sym (cooled_else (links_of t) h n z p u (at (links_of t) i) (eqb-false (at (links_of t) i) (at (links_of t) p) d))) ∙ c)

      module _ (m : List ℕ) (turns : ℕ) (cools : Cools (links_of t) e t.b.marks turns m) (quiet : (i : ℕ) → i < t.blocks → joins_at (links_of t) e m i ≡ false) where
        -- a block that no longer joins, though all its ways in are cold, is cold
        stays_cold : (i : ℕ) → i < t.blocks → T (not (names (entry (tabled t)) (at (links_of t) i))) → T (not (eqb (length (ways_in (tabled t) (at (links_of t) i))) 0))
            → ((n : ℕ) → In n (ways_in (tabled t) (at (links_of t) i)) → T (is_cold (get_or m n 0))) → is_cold (get_or m (at (links_of t) i) 0) ≡ true
        unfolding names joins_at joining
        stays_cold i l d o f =
            let k = at (links_of t) i in
            split_bool (is_cold (get_or m k 0)) (λ c. c)
            (λ c.
            let a = first_way k o in
            let Some = ins_pos (links_of t) t.blocks k a.0 a.1 a.2 in
            let alike = all_cold (links_of t) h m k t.blocks (λ j v x. T→≡ (is_cold (get_or m (at (links_of t) j) 0)) (f (at (links_of t) j) (way_in t h k j v x))) in
            let other : eqb k e ≡ false = ne_eqb k e (λ x. T_not (eqb e k) (subst (λ (y : Option ℕ). T (not (names y k))) entry_is d) (subst T (sym (eq-eqb e k (sym x))) tt)) in
            clash (joins_at (links_of t) e m i) (rw (other, c, lt-ltb 0 (ins (links_of t) t.blocks k) Some) (eq-eqb (ins (links_of t) t.blocks k) (cold_ins (links_of t) m t.blocks k) alike)) (quiet i l))
          where
            first_way : (k : ℕ) → T (not (eqb (length (ways_in (tabled t) k)) 0)) → (j : ℕ) × (j < t.blocks) × (0 < arms_to (links_of t) k (at (links_of t) j))
            first_way k o = go (ways_in (tabled t) k) refl o
              where
                go : (x : List ℕ) → ways_in (tabled t) k ≡ x → T (not (eqb (length x) 0)) → (j : ℕ) × (j < t.blocks) × (0 < arms_to (links_of t) k (at (links_of t) j))
                go [] q o = absurd o
                go (n ∷ x) q o =
                    let r = in_way t h k n (subst (In n) (sym q) (inl refl)) in
                    (r.0, r.1, subst (λ (y : ℕ). 0 < arms_to (links_of t) k y) (sym r.2) r.3)

        settled_shut : Shut (tabled t) (entry (tabled t)) (cold_blocks (tabled t)) (λ (b : ℕ). T (is_cold (get_or m b 0)))
        settled_shut =
            record {
              starts = λ b c. subst T (sym (kept_cold (get_or t.b.marks b 0) (get_or m b 0) (cools_kept turns m cools b) (cold_mark b c))) tt;
              shut = λ b u d o f. let r = place_of t b u in
                  subst (λ (x : ℕ). T (is_cold (get_or m x 0))) r.2
                  (subst T (sym (stays_cold r.0 r.1 (subst (λ (x : ℕ). T (not (names (entry (tabled t)) x))) (sym r.2) d) (subst (λ (x : ℕ). T (not (eqb (length (ways_in (tabled t) x)) 0))) (sym r.2) o)
                  (λ n v. f n (subst (λ (x : ℕ). In n (ways_in (tabled t) x)) r.2 v)))) tt);
            }

        pub settled_set : (i : ℕ) → i < t.blocks → is_cold (get_or m (at (links_of t) i) 0) ≡ mem (at (links_of t) i) (cold_set (tabled t))
        settled_set i l =
            same_test (is_cold (get_or m (at (links_of t) i) 0)) (mem (at (links_of t) i) (cold_set (tabled t)))
            (λ c. cools_inside turns m cools i l (T→≡ (is_cold (get_or m (at (links_of t) i) 0)) c))
            (λ c. spread_least (tabled t) spreading (λ (b : ℕ). T (is_cold (get_or m b 0))) settled_shut (at (links_of t) i) c)

-- ---- the pass
module _ (t : Graph) (sound : Carried t) where
  pub carried_settled : (e : ℕ) → splits (tabled t) ≡ true → entry (tabled t) ≡ Some e → (t' : Graph) → Settled e t t' → SpreadFrom t t'
  carried_settled e h found t' q =
      let l = linked t sound.stands sound.whole in
      let sized = sound.stands.blocks_sized.marks in
      subst (SpreadFrom t) (sym q.same)
      (marked_carries t t'.b.marks (cools_kept t l sized e q.turns t'.b.marks q.cools)
      (settled_set t l sized e (rw (spreads_are (tabled t) ∙ h) tt) found t'.b.marks q.turns q.cools q.quiet) sound.stands q.sized)

  pub carried_still : splits (tabled t) ≡ false → SpreadFrom t t
  carried_still h = marked_carries t t.b.marks (λ i. inl refl) (none_set t (spreads_are (tabled t) ∙ h)) sound.stands sound.stands.blocks_sized.marks

module _ (t : Graph) (sound : Sound t) where
  pub spread_settled : (e : ℕ) → splits (tabled t) ≡ true → entry (tabled t) ≡ Some e → (t' : Graph) → Settled e t t' → SpreadTo t t'
  spread_settled e h found t' q = spread_to sound.stands.back (carried_settled t (sound_carried sound) e h found t' q)

  pub spread_still : splits (tabled t) ≡ false → SpreadTo t t
  spread_still h = spread_to sound.stands.back (carried_still t (sound_carried sound) h)
