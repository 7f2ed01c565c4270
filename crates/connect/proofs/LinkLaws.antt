-- The trace that follows, arm by arm; and that the tables find it as the rules do. Assumes nothing.
use Prim.Native.Nat.{ℕ, zero, suc, ◌+◌, ◌-◌, ◌≤◌, ◌<◌}
use native.Mathlib.Omega.{arith}
use mathlib.Core.Path.{◌≡◌, refl, sym, ap, ◌∙◌}
use mathlib.Core.Bool.{Bool, true, false, not, cond, ◌&&◌, ◌||◌, beq, true≢false}
use mathlib.Core.List.{List, ◌∷◌}
use Rattle.std.specs.Prelude.{Option, None, Some}
use Rattle.std.specs.Option.{option_map}
use lib.ListN.{get_or}
use Rattle.lists.proofs.Choices.{split_bool}
use Rattle.rules.specs.Lists.{best, mem}
use Rattle.rules.specs.Graph as graph
use Rattle.rules.specs.Graph.{is_cold, cold_at}
use Rattle.rules.specs.Join as join
use Rattle.rules.specs.Join.{looser, links}
use Rattle.records.specs.declared.Arms.{Arms}
use Rattle.records.specs.declared.Graph.{Graph}
use Rattle.records.specs.Tables.{arm_at, arms_from, tabled}
use Rattle.marks.specs.Sets.{member}
use Rattle.flow.specs.Lent.{Runs, Of, Marks}
use Rattle.flow.proofs.SoundLaws.{to_at, weight_at, cold_by, arms_by, goes_by}
use Rattle.connect.specs.declared.Link.{Link}
use Rattle.connect.specs.Joined.{begin_of, end_of}
use Rattle.connect.specs.Links.{link_in, tighter, trace_by, leads_by, start_by, Starts, Unused, BestBy}

-- ---- where an arm leads, test by test
module _ (g : Graph) (ends : List ℕ) (head : List (Option ℕ)) (used : List ℕ) (cold : Bool) (q : ℕ) where
  abbrev n : ℕ
  n = get_or g.a.to q 0

  pub leads_nowhere : get_or head n None ≡ None → None ≡ leads_by g ends head used cold q
  unfolding leads_by trace_by
  leads_nowhere e = rw e refl

  module _ (k : ℕ) (at : get_or head n None ≡ Some k) where
    pub leads_used : member used k ≡ true → None ≡ leads_by g ends head used cold q
    unfolding leads_by trace_by
    leads_used e = rw (at, trace_by, e) refl

    module _ (free : member used k ≡ false) (there : Bool) (same : there ≡ is_cold (get_or g.b.marks n 0)) where
      pub leads_across : not (beq cold there) ≡ true → None ≡ leads_by g ends head used cold q
      unfolding leads_by trace_by
      leads_across d = let e : beq cold there ≡ false = split_bool (beq cold there) (λ t. absurd (true≢false (sym d ∙ ap not t))) (λ t. t) in rw (at, trace_by, free, ← same, e) refl

      pub leads_on : not (beq cold there) ≡ false → (o : Link) → o.weight ≡ get_or g.a.weight q 0 → o.long ≡ end_of ends k - begin_of ends k → o.index ≡ k
          → Some (link_in o) ≡ leads_by g ends head used cold q
      unfolding link_in leads_by trace_by
      leads_on d o w l i = let e : beq cold there ≡ true = split_bool (beq cold there) (λ t. t) (λ t. absurd (true≢false (sym (ap not t) ∙ d))) in rw (at, trace_by, free, ← same, e, w, l, i) refl

-- ---- arm by arm
module _ (f : ℕ → Option join.Link) where
  -- the best of the best link so far and those of n arms from q on
  unfoldable pub chosen : Option join.Link → ℕ → ℕ → Option join.Link
  chosen o q zero = o
  chosen o q (suc n) = chosen (tighter o (f q)) (suc q) n

  pub chosen_next : (o r : Option join.Link) (q e : ℕ) → q < e → r ≡ tighter o (f q) → chosen r (q + 1) (e - (q + 1)) ≡ chosen o q (e - q)
  unfolding chosen
  chosen_next o r q e l h = let z : e - q ≡ suc (e - (q + 1)) = omega (arith, l) in let y : q + 1 ≡ suc q = omega arith in rw (z, y, h) refl

  pub chosen_end : (o : Option join.Link) (q e : ℕ) → e ≤ q → chosen o q (e - q) ≡ o
  unfolding chosen
  chosen_end o q e h = let z : e - q ≡ 0 = omega (arith, h) in rw z refl

-- ---- a trace that is led to is unused
module _ (head : List (Option ℕ)) (used : List ℕ) where
  pub tighter_unused : (o x : Option join.Link) → Unused head used o → Unused head used x → Unused head used (tighter o x)
  unfolding tighter
  tighter_unused o None h k = h
  tighter_unused None (Some x) h k = k
  tighter_unused (Some b) (Some x) h k = go (looser b x)
    where
      go : (t : Bool) → Unused head used (cond t (Some x) (Some b))
      go true = k
      go false = h

  trace_unused : (ends : List ℕ) (same : Bool) (heavy n : ℕ) (h : Option ℕ) → get_or head n None ≡ h → Unused head used (trace_by ends used same heavy h)
  unfolding trace_by
  trace_unused ends same heavy n None e = tt
  trace_unused ends same heavy n (Some k) e = go (member used k) refl same
    where
      go : (m : Bool) → member used k ≡ m → (s : Bool) → Unused head used (cond (not m && s) (Some (record { weight = heavy; long = get_or ends k 0 - begin_of ends k; index = k })) None)
      go true q s = tt
      go false q true = (q, (n, e))
      go false q false = tt

pub leads_unused : (g : Graph) (ends : List ℕ) (head : List (Option ℕ)) (used : List ℕ) (cold : Bool) (q : ℕ) → Unused head used (leads_by g ends head used cold q)
unfolding leads_by
leads_unused g ends head used cold q =
    let n = get_or g.a.to q 0 in trace_unused head used ends (beq cold (is_cold (get_or g.b.marks n 0))) (get_or g.a.weight q 0) n (get_or head n None) refl

-- ---- by the rules
best_more : (o : Option join.Link) (x : join.Link) (l : List join.Link) → best looser o (x ∷ l) ≡ best looser (tighter o (Some x)) l
unfolding best tighter
best_more None x l = refl
best_more (Some b) x l = go (looser b x)
  where
    go : (t : Bool) → best looser (elim t [ true ↦ Some x | false ↦ Some b ]) l ≡ best looser (cond t (Some x) (Some b)) l
    go true = refl
    go false = refl

module _ (g : graph.Graph) (ts : List (List ℕ)) (ends : List ℕ) (head : List (Option ℕ)) (used l : List ℕ) (s : Starts ts ends head) (m : Marks used l) (cold : Bool) where
  -- the trace that an arm leads to
  arm_link : graph.Arm → Option join.Link
  arm_link a = trace_by ends used (beq cold (cold_at g a.to)) a.weight (get_or head a.to None)

  link_more : (o : Option join.Link) (a : graph.Arm) (rest : List graph.Arm) → best looser o (links g ts l cold (a ∷ rest)) ≡ best looser (tighter o (arm_link a)) (links g ts l cold rest)
  unfolding links arm_link trace_by start_by tighter
  link_more o a rest = rw (s a.to, links) (go (get_or head a.to None))
    where
      r : List join.Link
      r = links g ts l cold rest

      new : ℕ → join.Link
      new k = record { weight = a.weight; long = get_or ends k 0 - begin_of ends k; index = k }

      side : (k : ℕ) (b c d : Bool) → best looser o (cond (b || (c && not d) || (not c && d)) r (new k ∷ r)) ≡ best looser (tighter o (cond (not b && beq d c) (Some (new k)) None)) r
      side k true true true = refl
      side k true true false = refl
      side k true false true = refl
      side k true false false = refl
      side k false true true = best_more o (new k) r
      side k false true false = refl
      side k false false true = refl
      side k false false false = best_more o (new k) r

      go : (h : Option ℕ) → best looser o (elim (start_by ends h) as (λ (x : Option join.Link). List join.Link) [
        | None ↦ r
        | Some k ↦ cond (mem k.index l || (cold_at g a.to && not cold) || (not (cold_at g a.to) && cold)) r (record { weight = a.weight; long = k.long; index = k.index } ∷ r)
      ]) ≡ best looser (tighter o (trace_by ends used (beq cold (cold_at g a.to)) a.weight h)) r
      go None = refl
      go (Some k) = rw (sym (m k)) (side k (member used k) (cold_at g a.to) cold)

  chosen_best : (a : Arms) (f : ℕ → Option join.Link) (o : Option join.Link) (q n : ℕ) → ((j : ℕ) → q ≤ j → j < q + n → f j ≡ arm_link (arm_at a j)) → chosen f o q n ≡ best looser o (links g ts l cold (arms_from a q n))
  unfolding chosen arms_from links best
  chosen_best a f o q zero h = refl
  chosen_best a f o q (suc n) h =
      chosen_best a f (tighter o (f q)) (suc q) n (λ j i k. h j (omega (arith, i)) (omega (arith, k)))
      ∙ ap (λ (x : Option join.Link). best looser (tighter o x) (links g ts l cold (arms_from a (suc q) n))) (h q (omega arith) (omega arith))
      ∙ sym (link_more o (arm_at a q) (arms_from a (suc q) n))

-- ---- all arms of a block of a graph that has the tables
module _ {t g : Graph} (k : Runs t g) (n : ℕ) (i : Of t n) (ts : List (List ℕ)) (ends : List ℕ) (head : List (Option ℕ)) (used l : List ℕ) (s : Starts ts ends head) (m : Marks used l) where
  leads_alike : (q : ℕ) → get_or g.a.first n 0 ≤ q → q < get_or g.a.first n 0 + get_or g.a.count n 0
      → leads_by g ends head used (is_cold (get_or g.b.marks n 0)) q ≡ arm_link (tabled t) ts ends head used l s m (is_cold (get_or g.b.marks n 0)) (arm_at t.a q)
  unfolding leads_by arm_link
  leads_alike q b u = rw (to_at k.arms q, weight_at k.arms q, cold_by k (get_or g.a.to q 0) (goes_by k n i q (record { from = b; below = u }))) refl

  chosen_links : chosen (leads_by g ends head used (is_cold (get_or g.b.marks n 0))) None (get_or g.a.first n 0) (get_or g.a.count n 0)
      ≡ best looser None (links (tabled t) ts l (cold_at (tabled t) n) (graph.block_at (tabled t) n).arms)
  chosen_links =
      chosen_best (tabled t) ts ends head used l s m (is_cold (get_or g.b.marks n 0)) t.a (leads_by g ends head used (is_cold (get_or g.b.marks n 0))) None
      (get_or g.a.first n 0) (get_or g.a.count n 0) leads_alike
      ∙ rw (cold_by k n i, arms_by k n i) refl

module _ (g : Graph) (ends : List ℕ) (head : List (Option ℕ)) (used : List ℕ) (n : ℕ) (cold : Bool) (f c : ℕ) (is_cold_lem : cold ≡ is_cold (get_or g.b.marks n 0)) (is_first : f ≡ get_or g.a.first n 0) (is_count : c ≡ get_or g.a.count n 0) where
  pub chosen_all : (r : Option Link) → chosen (leads_by g ends head used cold) None f (f + c - f) ≡ option_map link_in r → BestBy g ends head used n r
  chosen_all r e t k i ts s l m =
      let z : f + c - f ≡ c = omega arith in
      sym e ∙ rw (z, is_cold_lem, is_first, is_count) (chosen_links k n i ts ends head used l s m)

pub ruleset lead_steps = (leads_nowhere, leads_used, leads_across, leads_on)

pub ruleset choice_steps = (chosen_next, chosen_end, chosen_all, tighter_unused, leads_unused)
