-- Counting the arms into each block, an arm and a block at a time. Assumes nothing.
use Prim.Native.Nat.{ℕ, zero, suc, ◌+◌, ◌-◌, ◌*◌, ◌≤◌, ◌<◌}
use native.Mathlib.Numerals.{add-one}
use native.Mathlib.Omega.{arith}
use mathlib.Core.Path.{◌≡◌, refl, sym, ap, ◌∙◌, subst}
use mathlib.Core.Bool.{Bool, true, false, cond}
use mathlib.Core.Logic.{inl}
use mathlib.Core.List.{List, [], ◌∷◌, ◌++◌}
use Rattle.std.proofs.lemmas.List.{length-take}
use lib.Dec.{T, eqb, eqb_refl}
use lib.ListN.{length, get_or, set, take, drop, replicate, take-append-drop}
use lib.Seq.{take-suc}
use borrow.Author.Tests.{eq-eqb, eqb-true}
use Rattle.limits.specs.Limits.{most_arms, blocks}
use Rattle.lists.proofs.Choices.{split_bool}
use Rattle.lists.proofs.Tables.{set_get, zero_get}
use Rattle.rules.specs.Graph.{is_cold}
use Rattle.rules.proofs.Membership.{In, In-left, In-right, T→≡}
use Rattle.rules.proofs.Counting.{one, tally, tally_append, tally_len, count}
use Rattle.records.specs.declared.Arms.{Arms}
use Rattle.cold.specs.Ways.{most_count, Links, outs, at, arms_to, ins, cold_sum, cold_ins, Linked, Adds, Adding, Added, Counted}

-- ---- one arm more
module _ (to : List ℕ) where
  count_more : (i k : ℕ) → i < length to → count k (take (i + 1) to) ≡ count k (take i to) + one (eqb (get_or to i 0) k)
  unfolding count tally
  count_more i k h =
      rw (add-one i, take-suc to i 0 h) (omega (arith, tally_append (λ (x : ℕ). eqb x k) (take i to) (get_or to i 0 ∷ [])))

  count_le : (i k : ℕ) → count k (take i to) ≤ count k to
  unfolding count
  count_le i k =
      let e : count k to ≡ count k (take i to ++ drop i to) = ap (count k) (sym (take-append-drop i to)) in
      omega (arith, e, tally_append (λ (x : ℕ). eqb x k) (take i to) (drop i to))

  add_in : (i : ℕ) → i < length to → In (get_or to i 0) to
  add_in i h =
      let more : In (get_or to i 0) (take (suc i) to) = rw (take-suc to i 0 h) (In-right (get_or to i 0) (take i to) (get_or to i 0 ∷ []) (inl refl)) in
      subst (In (get_or to i 0)) (take-append-drop (suc i) to) (In-left (get_or to i 0) (take (suc i) to) (drop (suc i) to) more)

  pub add_none : (table : List ℕ) → Added (take 0 to) table table
  unfolding count tally
  add_none table = record { counts = λ k. omega arith }

  module _ (i : ℕ) (before after : List ℕ) (h : Added (take i to) before after) (inside : i < length to) where
    pub add_room : ((k : ℕ) → get_or before k 0 + count k to ≤ most_count) → get_or after (get_or to i 0) 0 + 1 ≤ most_count
    add_room r =
        let x = get_or to i 0 in
        omega (arith, h.counts x, count_more i x inside, ap one (T→≡ (eqb x x) (eqb_refl x)), count_le (i + 1) x, r x)

    pub add_more : get_or to i 0 < length after → Added (take (i + 1) to) before (set after (get_or to i 0) (get_or after (get_or to i 0) 0 + 1))
    add_more l =
        let x = get_or to i 0 in
        record { counts = λ k. set_get after x (get_or after x 0 + 1) k l ∙ go k (eqb x k) refl }
      where
        other : (k : ℕ) → eqb (get_or to i 0) k ≡ false → eqb k (get_or to i 0) ≡ false
        other k e = split_bool (eqb k (get_or to i 0)) (λ t. absurd (let z : true ≡ false = sym (eq-eqb (get_or to i 0) k (sym (eqb-true k (get_or to i 0) t))) ∙ e in subst T z tt)) (λ t. t)

        go : (k : ℕ) (t : Bool) → eqb (get_or to i 0) k ≡ t → cond (eqb k (get_or to i 0)) (get_or after (get_or to i 0) 0 + 1) (get_or after k 0) ≡ get_or before k 0 + count k (take (i + 1) to)
        go k true e =
            let q : k ≡ get_or to i 0 = sym (eqb-true (get_or to i 0) k e) in
            rw (eq-eqb k (get_or to i 0) q) (rw (ap (λ (x : ℕ). get_or after x 0) (sym q)) (omega (arith, h.counts k, count_more i k inside, ap one e)))
        go k false e =
            rw (other k e) (omega (arith, h.counts k, count_more i k inside, ap one e))

-- ---- the arms of one block
-- those of a file's graph are within the tables
pub adds_adding : {a : Arms} {b : ℕ} {table : List ℕ} → Adds a b table → Adding a b table
adds_adding h = record { fits = omega (arith, h.fits); goes = h.goes; room = h.room }

module _ (a : Arms) (b f c : ℕ) (p : f ≡ get_or a.first b 0) (q : c ≡ get_or a.count b 0) where
  -- as a slice of all arms
  pub outs_are : take (f + c - f) (drop f a.to) ≡ outs a b
  unfolding outs
  outs_are = let e : f + c - f ≡ c = omega arith in rw e (rw (p, q) refl)

  module _ (table : List ℕ) (h : Adding a b table) where
    pub outs_below : (i : ℕ) → i < length (take (f + c - f) (drop f a.to)) → get_or (take (f + c - f) (drop f a.to)) i 0 < blocks
    outs_below i l = h.goes _ (subst (In (get_or (take (f + c - f) (drop f a.to)) i 0)) outs_are (add_in (take (f + c - f) (drop f a.to)) i l))

    pub outs_room : (k : ℕ) → get_or table k 0 + count k (take (f + c - f) (drop f a.to)) ≤ most_count
    outs_room k = rw outs_are (h.room k)

-- ---- one block more
module _ (w : Links) (h : Linked w) where
  arms_most : (k b : ℕ) → arms_to w k b ≤ most_arms
  unfolding arms_to outs count
  arms_most k b =
      let l = drop (get_or w.arms.first b 0) w.arms.to in
      omega (arith, tally_len (λ (x : ℕ). eqb x k) (take (get_or w.arms.count b 0) l), length-take (get_or w.arms.count b 0) l, h.fits b)

  ins_most : (i k : ℕ) → ins w i k ≤ i * most_arms
  unfolding ins
  ins_most zero k = omega arith
  ins_most (suc i) k = omega (arith, ins_most i k, arms_most k (at w i))

  -- a count fits
  ins_fit : (i k : ℕ) → i ≤ w.blocks → ins w i k ≤ most_count
  ins_fit i k l = omega (arith, ins_most i k, h.few)

  pub cold_part_lem : (m : List ℕ) (i k : ℕ) → cold_ins w m i k ≤ ins w i k
  unfolding cold_ins cold_sum ins
  cold_part_lem m zero k = omega arith
  cold_part_lem m (suc i) k = go (cold_part_lem m i k) (is_cold (get_or m (at w i) 0))
    where
      go : cold_ins w m i k ≤ ins w i k → (t : Bool) → cold_ins w m i k + cond t (arms_to w k (at w i)) 0 ≤ ins w i k + arms_to w k (at w i)
      go ih true = omega (arith, ih)
      go ih false = omega (arith, ih)

  pub cold_fit : (m : List ℕ) (i k : ℕ) → i ≤ w.blocks → cold_ins w m i k ≤ most_count
  cold_fit m i k l = omega (arith, cold_part_lem m i k, ins_fit i k l)

  module _ (i : ℕ) (l : i < w.blocks) where
    pub ins_adds : (table : List ℕ) → ((k : ℕ) → get_or table k 0 ≡ ins w i k) → Adds w.arms (at w i) table
    unfolding ins arms_to
    ins_adds table t = record { fits = h.fits (at w i); goes = h.goes i l; room = λ k. omega (arith, t k, ins_fit (suc i) k l) }

    pub ins_more : (before after : List ℕ) → ((k : ℕ) → get_or before k 0 ≡ ins w i k) → Added (outs w.arms (at w i)) before after → (k : ℕ) → get_or after k 0 ≡ ins w (i + 1) k
    unfolding ins arms_to
    ins_more before after t a k = rw (add-one i) (omega (arith, t k, a.counts k))

    module _ (m table : List ℕ) (t : (k : ℕ) → get_or table k 0 ≡ cold_ins w m i k) where
      pub cold_adds : is_cold (get_or m (at w i) 0) ≡ true → Adds w.arms (at w i) table
      unfolding cold_ins cold_sum arms_to
      cold_adds c =
          record { fits = h.fits (at w i); goes = h.goes i l; room = λ k. omega (arith, t k, rw c at (cold_fit m (suc i) k l)) }

      pub cold_more : (after : List ℕ) → is_cold (get_or m (at w i) 0) ≡ true → Added (outs w.arms (at w i)) table after → (k : ℕ) → get_or after k 0 ≡ cold_ins w m (i + 1) k
      unfolding cold_ins cold_sum arms_to
      cold_more after c a k = rw (add-one i) (rw c (omega (arith, t k, a.counts k)))

      pub cold_none : is_cold (get_or m (at w i) 0) ≡ false → (k : ℕ) → get_or table k 0 ≡ cold_ins w m (i + 1) k
      unfolding cold_ins cold_sum
      cold_none c k = rw (add-one i) (rw c (omega (arith, t k)))

pub counted_none : (w : Links) (m : List ℕ) → Counted w m 0 (record { ins = replicate blocks 0; cold = replicate blocks 0 })
unfolding ins cold_ins cold_sum
counted_none w m = record { ins = zero_get blocks; cold = zero_get blocks }
