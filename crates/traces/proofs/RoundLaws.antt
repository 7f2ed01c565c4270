-- The rounds, one after the other, from the entry's trace on. Assumes nothing.
use Prim.Native.Nat.{ℕ, zero, suc, ◌+◌, ◌<◌}
use native.Mathlib.Numerals.{add-one}
use native.Mathlib.Omega.{arith}
use mathlib.Core.Path.{◌≡◌, refl, sym, ap, ap₂, ◌∙◌, subst}
use mathlib.Core.List.{List, [], ◌∷◌, map}
use Rattle.std.specs.Prelude.{None, Some}
use lib.ListN.{length, get_or, take, length-map}
use lib.Seq.{take-length}
use Rattle.rules.specs.Lists.{foldl, mem}
use Rattle.rules.specs.Weights.{once, floor}
use Rattle.rules.specs.Graph as graph
use Rattle.rules.specs.Traces.{Round, round_one, rounds, entered_weight, floor_of, Traced, no_traces, trace_from, in_round, entry_trace}
use Rattle.rules.proofs.Wholeness.{entry_in}
use Rattle.records.specs.declared.Graph.{Graph}
use Rattle.records.specs.Tables.{tabled, Carried}
use Rattle.flow.proofs.SoundLaws.{weight_is}
use Rattle.traces.specs.declared.Round as ours
use Rattle.traces.specs.declared.Growth.{Growth}
use Rattle.traces.specs.Held.{Held, Holds, Steps, Free, Adds, Added}
use Rattle.traces.specs.Rounds.{filled, all_rounds}
use Rattle.traces.proofs.FillLaws.{fold_suc}

-- ---- the entry
no_entry : (g : graph.Graph) → graph.entry g ≡ None → entry_trace g ≡ no_traces
unfolding entry_trace
no_entry g e = rw (e, entry_trace) refl

one_entry : (g : graph.Graph) (n : ℕ) → graph.entry g ≡ Some n → entry_trace g ≡ trace_from g round_one.likely (floor (entered_weight g) round_one.often) no_traces n
unfolding entry_trace floor_of
one_entry g n e = rw (e, entry_trace) refl

pub no_weight : (g : graph.Graph) → graph.entry g ≡ None → once ≡ entered_weight g
unfolding entered_weight
no_weight g e = rw (e, entered_weight) refl

pub its_weight : (t : Graph) (l : Carried t) (n : ℕ) → graph.entry (tabled t) ≡ Some n → get_or t.b.weight n 0 ≡ entered_weight (tabled t)
unfolding entered_weight
its_weight t l n e = sym (weight_is l n (entry_in (tabled t) n e)) ∙ rw (e, entered_weight) refl

module _ (t : Graph) (w : Growth) (h : Held t no_traces w) where
  pub entered_none : w.entry ≡ None → Held t (entry_trace (tabled t)) w
  entered_none c = subst (λ (s : Traced). Held t s w) (sym (no_entry (tabled t) (sym h.entry_is ∙ c))) h

  module _ (n : ℕ) (c : w.entry ≡ Some n) where
    entry_free : Free t no_traces n
    unfolding no_traces mem
    entry_free = record { block = entry_in (tabled t) n (sym h.entry_is ∙ c); new = tt }

    pub entry_adds : Adds t w n
    entry_adds = record { so_far = no_traces; held = h; free = entry_free }

    pub entered_some : (likely low : ℕ) → likely ≡ round_one.likely → low ≡ floor (entered_weight (tabled t)) round_one.often → (v : Growth) → Added t likely low n w v → Held t (entry_trace (tabled t)) v
    entered_some likely low a b v added =
        subst (λ (s : Traced). Held t s v) (ap₂ (λ (x y : ℕ). trace_from (tabled t) x y no_traces n) a b ∙ sym (one_entry (tabled t) n (sym h.entry_is ∙ c))) (added no_traces h entry_free)

-- ---- in turn
-- a round as the rules have it
abbrev pub round_in : ours.Round → Round
round_in r = record { likely = r.likely; often = r.often }

get_or-map : {A B : Type 0} (f : A → B) (l : List A) (i : ℕ) (z : A) → get_or (map f l) i (f (get_or l i z)) ≡ f (get_or l i z)
get_or-map f [] i z = refl
get_or-map f (x ∷ l) zero z = refl
get_or-map f (x ∷ l) (suc i) z = get_or-map f l i z

-- the first i rounds are done
abbrev pub Done : Graph → Growth → Growth → ℕ → Type 0
Done t w v i = Steps t (λ (s : Traced). foldl (in_round (tabled t)) s (take i rounds)) w v

pub done_first : (t : Graph) (w : Growth) → Done t w w 0
unfolding foldl
done_first t w s h = h

module _ (t : Graph) (w v : Growth) (i : ℕ) (d : Done t w v i) where
  pub done_holds : Holds t w → Holds t v
  done_holds k = record { so_far = foldl (in_round (tabled t)) k.so_far (take i rounds); held = d k.so_far k.held }

  in_round_lem : (s : Traced) (r : Round) → in_round (tabled t) s r ≡ filled (tabled t) r.likely (floor (entered_weight (tabled t)) r.often) s
  unfolding in_round floor_of
  in_round_lem s r = refl

  done_more : i < length rounds → (r : Round) → get_or rounds i r ≡ r → (low : ℕ) → low ≡ floor (entered_weight (tabled t)) r.often → (k : Growth) → Steps t (filled (tabled t) r.likely low) v k → Done t w k (i + 1)
  done_more h r e low q k f s j =
      let x = foldl (in_round (tabled t)) s (take i rounds) in
      rw (add-one i)
      (subst (λ (y : Traced). Held t y k)
      (ap (λ (y : ℕ). filled (tabled t) r.likely y x) q ∙ sym (in_round_lem x r) ∙ ap (in_round (tabled t) x) (sym e) ∙ sym (fold_suc (in_round (tabled t)) s rounds i r h))
      (f x (d s j)))

  pub done_round : (l : List ours.Round) → map round_in l ≡ rounds → (z : ours.Round) → i < length l → (likely low : ℕ) → likely ≡ (get_or l i z).likely → low ≡ floor (entered_weight (tabled t)) (get_or l i z).often
      → (k : Growth) → Steps t (filled (tabled t) likely low) v k → Done t w k (i + 1)
  done_round l same z h likely low a b k f =
      let r = round_in (get_or l i z) in
      done_more (omega (arith, h, sym (ap length same) ∙ length-map l round_in)) r (ap (λ (m : List Round). get_or m i r) (sym same) ∙ get_or-map round_in l i z) low b k (subst (λ (x : ℕ). Steps t (filled (tabled t) x low) v k) a f)

  pub done_all : i ≡ length rounds → Steps t (all_rounds (tabled t)) w v
  done_all e s h = subst (λ (l : List Round). Held t (foldl (in_round (tabled t)) s l) v) (ap (λ (j : ℕ). take j rounds) e ∙ take-length rounds) (d s h)
