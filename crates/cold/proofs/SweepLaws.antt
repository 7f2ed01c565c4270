-- Blocks that join the cold ones: what turning one cold changes, and that it comes to an end. Assumes nothing.
use Prim.Native.Nat.{ℕ, zero, suc, ◌+◌, ◌-◌, ◌≤◌, ◌<◌}
use native.Mathlib.Nat.{add-zero, add-suc}
use native.Mathlib.Omega.{arith}
use mathlib.Core.Path.{◌≡◌, refl, sym, ap, ap₂, ◌∙◌, subst}
use mathlib.Core.Bool.{Bool, true, false, cond, ◌||◌, true≢false}
use mathlib.Core.List.{List}
use lib.Dec.{eqb, ltb}
use lib.ListN.{length, get_or, length-set}
use lib.Seq.{get_or-set_same, get_or-set_other}
use borrow.Author.Tests.{ltb-true, lt-ltb, eqb-true}
use Rattle.limits.specs.Limits.{blocks}
use Rattle.lists.proofs.Choices.{split_lt}
use Rattle.rules.specs.Graph.{is_cold}
use Rattle.records.specs.declared.Graph.{Graph}
use Rattle.cold.specs.declared.ways.Ways.{Ways}
use Rattle.cold.specs.Ways.{Links, links_of, at, arms_to, ins, cold_sum, cold_ins, Linked}
use Rattle.cold.specs.Sweeps.{with_marks, joining, joins_at, cooled, Chills, Chilling, Chilled, Cools, Sweeps, Cooling, Swept, Settled}
use Rattle.cold.specs.Sweeps.Cools.{still, next}
use Rattle.cold.proofs.SideLaws.{cold_is, is_warm}
use Rattle.cold.proofs.WayLaws.{adds_adding, cold_fit}

-- ---- the test
pub record Joins (k e m a c : ℕ) : Type 0 where
  pub other : eqb k e ≡ false
  pub warm : is_cold m ≡ false
  pub some : 0 < a
  pub all : a ≡ c

pub joins_are : (k e m a c : ℕ) → joining k e m a c ≡ true → Joins k e m a c
unfolding joining
joins_are k e m a c h = go (eqb k e) (is_cold m) (ltb 0 a) refl refl refl h
  where
    go : (x y z : Bool) → eqb k e ≡ x → is_cold m ≡ y → ltb 0 a ≡ z → cond x false (cond y false (cond z (eqb a c) false)) ≡ true → Joins k e m a c
    go true y z p q r h = absurd (true≢false (sym h))
    go false true z p q r h = absurd (true≢false (sym h))
    go false false false p q r h = absurd (true≢false (sym h))
    go false false true p q r h = record { other = p; warm = q; some = ltb-true 0 a r; all = eqb-true a c h }

-- the block at place i joins
pub joins_at_lem : (w : Links) (e : ℕ) (m : List ℕ) (i : ℕ) → joins_at w e m i ≡ true → Joins (at w i) e (get_or m (at w i) 0) (ins w w.blocks (at w i)) (cold_ins w m w.blocks (at w i))
unfolding joins_at
joins_at_lem w e m i q = joins_are (at w i) e (get_or m (at w i) 0) (ins w w.blocks (at w i)) (cold_ins w m w.blocks (at w i)) q

-- ---- the marks, and sums over the cold blocks
pub cold_next : (m : ℕ) → is_cold m ≡ false → is_cold (m + 2) ≡ true
cold_next m e = cold_is (m + 2) (omega (arith, is_warm m e))

module _ (w : Links) (h : Linked w) (m : List ℕ) (sized : length m ≡ blocks) (i : ℕ) (l : i < w.blocks) where
  pub cooled_here : get_or (cooled m (at w i)) (at w i) 0 ≡ get_or m (at w i) 0 + 2
  unfolding cooled
  cooled_here = get_or-set_same m (at w i) (get_or m (at w i) 0 + 2) 0 (omega (arith, sized, h.below i l))

  pub cooled_else : (k : ℕ) → (k ≡ at w i → ⊥) → get_or (cooled m (at w i)) k 0 ≡ get_or m k 0
  unfolding cooled
  cooled_else k d = get_or-set_other m (at w i) k (get_or m (at w i) 0 + 2) 0 d

  pub cooled_sized : length (cooled m (at w i)) ≡ blocks
  unfolding cooled
  cooled_sized = length-set m (at w i) (get_or m (at w i) 0 + 2) ∙ sized

  module _ (f : ℕ → ℕ) (warm : is_cold (get_or m (at w i) 0) ≡ false) where
    sum_before : (p : ℕ) → p ≤ i → cold_sum w (cooled m (at w i)) f p ≡ cold_sum w m f p
    unfolding cold_sum
    sum_before zero q = refl
    sum_before (suc p) q =
        rw (sum_before p (omega (arith, q)), cooled_else (at w p) (λ e. omega (arith, q, h.once p i (omega (arith, q, l)) l e))) refl

    sum_after : (d : ℕ) → suc i + d ≤ w.blocks → cold_sum w (cooled m (at w i)) f (suc i + d) ≡ cold_sum w m f (suc i + d) + f (at w i)
    unfolding cold_sum
    sum_after zero q = rw (add-zero (suc i)) (rw (sum_before i (omega arith), cooled_here, cold_next (get_or m (at w i) 0) warm, warm) (omega arith))
    sum_after (suc d) q =
        rw (add-suc (suc i) d)
        (rw (sum_after d (omega (arith, q)), cooled_else (at w (suc i + d)) (λ e. omega (arith, q, h.once (suc i + d) i (omega (arith, q)) l e))) (omega arith))

    pub sum_cooled : cold_sum w (cooled m (at w i)) f w.blocks ≡ cold_sum w m f w.blocks + f (at w i)
    sum_cooled =
        let e : suc i + (w.blocks - suc i) ≡ w.blocks = omega (arith, l) in
        subst (λ (p : ℕ). cold_sum w (cooled m (at w i)) f p ≡ cold_sum w m f p + f (at w i)) e (sum_after (w.blocks - suc i) (omega (arith, e)))

  pub ins_cooled : is_cold (get_or m (at w i) 0) ≡ false → (k : ℕ) → cold_ins w (cooled m (at w i)) w.blocks k ≡ cold_ins w m w.blocks k + arms_to w k (at w i)
  unfolding cold_ins
  ins_cooled warm k = sum_cooled (arms_to w k) warm

-- ---- a sweep
pub chills_chilling : {t : Graph} {k : ℕ} {v : Ways} → Chills t k v → Chilling t k v
chills_chilling h = record { below = h.below; adds = λ warm. adds_adding (h.adds warm) }

module _ (e : ℕ) (t₀ t : Graph) (h : Linked (links_of t₀)) (i : ℕ) (l : i < t₀.blocks) (v : Ways) where
  -- what is true of t₀ with the marks of t is true of t
  pub sweep_chills : (r : Bool) → Swept e t₀ i t v r → Chills t (get_or t.b.listed i 0) v
  unfolding arms_to
  sweep_chills r s =
      let w = links_of t₀ in
      let m = t.b.marks in
      subst (λ (x : Graph). Chills x (get_or x.b.listed i 0) v) (sym s.cooling.same)
      (record {
        below = h.below i l;
        adds =
            λ warm.
            record {
              fits = h.fits (at w i);
              goes = h.goes i l;
              room = λ n. omega (arith, s.cooling.counts.cold n, ins_cooled w h m s.cooling.sized i l warm n, cold_fit w h (cooled m (at w i)) w.blocks n (omega arith));
            };
      })

  sweep_told : (r : Bool) → Swept e t₀ i t v r → (y : Bool)
      → joining (at (links_of t₀) i) e (get_or t.b.marks (at (links_of t₀) i) 0) (get_or v.ins (at (links_of t₀) i) 0) (get_or v.cold (at (links_of t₀) i) 0) ≡ y → joins_at (links_of t₀) e t.b.marks i ≡ y
  unfolding joins_at
  sweep_told r s y q =
      let k = at (links_of t₀) i in
      ap₂ (joining k e (get_or t.b.marks k 0)) (sym (s.cooling.counts.ins k)) (sym (s.cooling.counts.cold k)) ∙ q

  pub sweep_more : (t' : Graph) (v' : Ways) (r d : Bool) → Swept e t₀ i t v r → Chilled t v (get_or t.b.listed i 0) e t' v' d → Swept e t₀ (i + 1) t' v' (r || d)
  unfolding arms_to
  sweep_more t' v' r d s c = go r d s (subst (λ (x : Graph). Chilled x v (get_or x.b.listed i 0) e t' v' d) s.cooling.same c)
    where
      w : Links
      w = links_of t₀

      m : List ℕ
      m = t.b.marks

      or_true : (a : Bool) → a || true ≡ true
      or_true true = refl
      or_true false = refl

      or_false : (a : Bool) → a || false ≡ a
      or_false true = refl
      or_false false = refl

      go : (r d : Bool) → Swept e t₀ i t v r → Chilled (with_marks t₀ m) v (at w i) e t' v' d → Swept e t₀ (i + 1) t' v' (r || d)
      go r true s c =
          let joins = sweep_told r s true (sym c.told) in
          let warm = (joins_at_lem w e m i joins).warm in
          rw (or_true r)
          (subst (λ (x : Graph). Swept e t₀ (i + 1) x v' true) (sym c.graph)
          (record {
            turns = suc s.turns;
            cooling =
                record {
                  same = refl;
                  cools = next s.cooling.cools i l joins;
                  sized = cooled_sized w h m s.cooling.sized i l;
                  counts =
                      record {
                        ins = λ k. ap (λ (x : List ℕ). get_or x k 0) c.ins ∙ s.cooling.counts.ins k;
                        cold = λ k. omega (arith, (c.cold refl).counts k, s.cooling.counts.cold k, ins_cooled w h m s.cooling.sized i l warm k);
                      };
                };
            told = sym (lt-ltb 0 (suc s.turns) (omega arith));
            quiet = λ z. absurd (true≢false z);
          }))
      go r false s c =
          rw (or_false r)
          (subst (λ (x : Graph). Swept e t₀ (i + 1) x v' r) (sym c.graph)
          (record {
            turns = s.turns;
            cooling =
                record {
                  same = refl;
                  cools = s.cooling.cools;
                  sized = s.cooling.sized;
                  counts =
                      record {
                        ins = λ k. ap (λ (x : List ℕ). get_or x k 0) c.ins ∙ s.cooling.counts.ins k;
                        cold = λ k. ap (λ (x : List ℕ). get_or x k 0) (c.still refl) ∙ s.cooling.counts.cold k;
                      };
                };
            told = s.told;
            quiet = λ z k u. split_lt k i (λ q. s.quiet z k q) (λ q. let x : k ≡ i = omega (arith, u, q) in rw x (sweep_told r s false (sym c.told)));
          }))

pub sweep_start : (e : ℕ) (t : Graph) (v : Ways) → Sweeps t v → Swept e t 0 t v false
sweep_start e t v s =
    record {
      turns = 0;
      cooling = record { same = refl; cools = still; sized = s.sized; counts = s.counts };
      told = refl;
      quiet = λ z k u. absurd (omega (arith, u));
    }

-- ---- sweeps come to an end
-- how many of the listed blocks are cold
abbrev pub colds : Links → List ℕ → ℕ
colds w m = cold_sum w m (λ (b : ℕ). 1) w.blocks

-- and how many are not
abbrev pub warms : Links → List ℕ → ℕ
warms w m = w.blocks - colds w m

module _ (w : Links) (h : Linked w) (e : ℕ) where
  pub cools_on : (m₀ m : List ℕ) (j : ℕ) → Cools w e m₀ j m → (n : List ℕ) (k : ℕ) → Cools w e m k n → (x : ℕ) × Cools w e m₀ x n
  cools_on m₀ m j a n zero still = (j, a)
  cools_on m₀ m j a n (suc k) (next {m = m'} b i l q) = let r = cools_on m₀ m j a m' k b in (suc r.0, next r.1 i l q)

  pub cools_sized : (m₀ m : List ℕ) (j : ℕ) → length m₀ ≡ blocks → Cools w e m₀ j m → length m ≡ blocks
  cools_sized m₀ m zero s still = s
  cools_sized m₀ m (suc j) s (next {m = m'} b i l q) = cooled_sized w h m' (cools_sized m₀ m' j s b) i l

  pub cools_more : (m₀ m : List ℕ) (j : ℕ) → length m₀ ≡ blocks → Cools w e m₀ j m → colds w m ≡ colds w m₀ + j
  cools_more m₀ m zero s still = omega arith
  cools_more m₀ m (suc j) s (next {m = n} b i l q) =
      omega (arith, cools_more m₀ n j s b, sum_cooled w h n (cools_sized m₀ n j s b) i l (λ (b : ℕ). 1) (joins_at_lem w e n i q).warm)

  sum_most : (m : List ℕ) (p : ℕ) → cold_sum w m (λ (b : ℕ). 1) p ≤ p
  unfolding cold_sum
  sum_most m zero = omega arith
  sum_most m (suc p) = go (sum_most m p) (is_cold (get_or m (at w p) 0))
    where
      go : cold_sum w m (λ (b : ℕ). 1) p ≤ p → (t : Bool) → cold_sum w m (λ (b : ℕ). 1) p + cond t 1 0 ≤ suc p
      go ih true = omega (arith, ih)
      go ih false = omega (arith, ih)

  pub colds_most : (m : List ℕ) → colds w m ≤ w.blocks
  colds_most m = sum_most m w.blocks

module _ (e : ℕ) (t₀ t : Graph) (h : Linked (links_of t₀)) (v : Ways) (j : ℕ) (k : Cooling e t₀ t v j) where
  pub cool_sweeps : Sweeps t v
  cool_sweeps = subst (λ (x : Graph). Sweeps x v) (sym k.same) (record { linked = h; sized = k.sized; counts = k.counts })

  module _ (t' : Graph) (v' : Ways) (r : Bool) (s : Swept e t t.blocks t' v' r) where
    abbrev w : Links
    w = links_of t₀

    here : Swept e (with_marks t₀ t.b.marks) t₀.blocks t' v' r
    here = subst (λ (x : Graph). Swept e x x.blocks t' v' r) k.same s

    pub cool_less : r ≡ true → warms w t'.b.marks < warms w t.b.marks
    cool_less z =
        omega (arith, cools_more w h e t.b.marks t'.b.marks here.turns k.sized here.cooling.cools, colds_most w h e t'.b.marks, ltb-true 0 here.turns (sym here.told ∙ z))

    pub cool_more : (n : ℕ) × Cooling e t₀ t' v' n
    cool_more =
        let c = cools_on w h e t₀.b.marks t.b.marks j k.cools t'.b.marks here.turns here.cooling.cools in
        (c.0, record { same = here.cooling.same; cools = c.1; sized = here.cooling.sized; counts = here.cooling.counts })

    pub cool_last : r ≡ false → Settled e t₀ t'
    cool_last z = let c = cool_more in record { same = here.cooling.same; turns = c.0; cools = c.1.cools; sized = here.cooling.sized; quiet = here.quiet z }
