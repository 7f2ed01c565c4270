-- The best way out of a part, arm by arm and block by block. Assumes nothing.
use Prim.Native.Nat.{ℕ, ◌+◌, ◌-◌, ◌≤◌, ◌<◌}
use native.Mathlib.Numerals.{add-one}
use native.Mathlib.Omega.{arith}
use mathlib.Core.Path.{◌≡◌, refl, sym, ap, ◌∙◌}
use mathlib.Core.Bool.{Bool, true, false, not, cond}
use mathlib.Core.List.{List, [], ◌∷◌, map}
use Rattle.std.specs.Prelude.{Option, Some}
use lib.ListN.{length, get_or, drop, drop_of_length-le}
use lib.Seq.{drop-cons}
use borrow.Author.Tests.{le-leb, lt-leb}
use Rattle.rules.specs.Lists.{keep, best}
use Rattle.rules.specs.Graph.{Arm}
use Rattle.rules.specs.Rotate.{WayOut, worse}
use Rattle.records.specs.declared.Arms.{Arms}
use Rattle.records.specs.Tables.{arm_at, arms_from, leaves}
use Rattle.flow.proofs.ScanLaws.{best_append, arms_length}
use Rattle.rotate.specs.Turning.{way_of, ways_at, ways_from}
use Rattle.rotate.proofs.BackLaws.{arms_next}

-- ---- the arms of one block
module _ (a : Arms) (preferred inside : ℕ → Bool) (index : ℕ) where
  abbrev way_by : Arm → WayOut
  way_by x = record { preferred = cond (preferred x.to) 1 0; weight = x.weight; index = index }

  -- the best of those so far and of the ways out by the arms from place q up to e
  unfoldable pub through : Option WayOut → ℕ → ℕ → Option WayOut
  through o q e = best worse o (map way_by (keep (λ (x : Arm). not (inside x.to)) (arms_from a q (e - q))))

  module _ (o : Option WayOut) (q e : ℕ) (h : q < e) where
    -- an arm within the part
    pub exit_in : inside (get_or a.to q 0) ≡ true → through o (q + 1) e ≡ through o q e
    unfolding through keep arm_at
    exit_in t = rw (arms_next a q e h, keep, t) refl

    -- an arm that leaves it
    pub exit_out : (p : Bool) (r : WayOut) → inside (get_or a.to q 0) ≡ false → p ≡ preferred (get_or a.to q 0)
        → Some r ≡ best worse o (way_of (record { preferred = p; weight = get_or a.weight q 0; index = index }) ∷ []) → through (Some r) (q + 1) e ≡ through o q e
    unfolding through keep arm_at way_of
    exit_out p r t k s =
        let rest : List WayOut = map way_by (keep (λ (x : Arm). not (inside x.to)) (arms_from a (q + 1) (e - (q + 1)))) in
        ap (λ (x : Option WayOut). best worse x rest) (s ∙ ap (λ (b : Bool). best worse o (record { preferred = cond b 1 0; weight = get_or a.weight q 0; index = index } ∷ [])) k)
        ∙ sym (best_append worse o (way_by (arm_at a q) ∷ []) rest)
        ∙ sym (rw (arms_next a q e h, keep, t) refl)

  pub exit_end : (o : Option WayOut) (q e : ℕ) → e ≤ q → through o q e ≡ o
  unfolding through keep best arms_from
  exit_end o q e h = let z : e - q ≡ 0 = omega arith in rw z refl

  module _ (n f c : ℕ) (ef : f ≡ get_or a.first n 0) (ec : c ≡ get_or a.count n 0) (o : Option WayOut) where
    pub exit_few : c ≤ 2 → through o f (f + c) ≡ best worse o (ways_at preferred inside index (leaves a n))
    unfolding through ways_at leaves
    exit_few h = let z : f + c - f ≡ c = omega arith in rw (z, ← ef, ← ec, arms_length a f c, le-leb c 2 h) refl

    pub exit_many : 2 < c → o ≡ best worse o (ways_at preferred inside index (leaves a n))
    unfolding ways_at leaves best
    exit_many h = rw (← ef, ← ec, arms_length a f c, lt-leb c 2 h) refl

-- ---- the blocks of the part
module _ (a : Arms) (preferred inside : ℕ → Bool) (part : List ℕ) where
  -- the best of those so far and of those from place i on
  unfoldable pub left : Option WayOut → ℕ → Option WayOut
  left o i = best worse o (ways_from a preferred inside i (drop i part))

  pub left_step : (o q : Option WayOut) (i : ℕ) → i < length part → q ≡ best worse o (ways_at preferred inside i (leaves a (get_or part i 0))) → left q (i + 1) ≡ left o i
  unfolding left ways_from
  left_step o q i h s =
      let rest : List WayOut = ways_from a preferred inside (i + 1) (drop (i + 1) part) in
      ap (λ (x : Option WayOut). best worse x rest) s
      ∙ sym (best_append worse o (ways_at preferred inside i (leaves a (get_or part i 0))) rest)
      ∙ sym (rw (drop-cons part i 0 h) (ap (λ (k : ℕ). best worse o (ways_from a preferred inside i (get_or part i 0 ∷ drop k part))) (sym (add-one i))))

  pub left_end : (o : Option WayOut) (i : ℕ) → length part ≤ i → left o i ≡ o
  unfolding left ways_from best
  left_end o i h = rw (drop_of_length-le part {i = i} h) refl

pub ruleset exit_steps = (exit_in, exit_out, exit_end, exit_few, exit_many)

pub ruleset left_steps = (left_step, left_end)
