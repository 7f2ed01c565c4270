-- One trace more, and what is held then. Assumes nothing.
use Prim.Native.Nat.{ℕ, zero, suc, ◌+◌, ◌≤◌, ◌<◌}
use native.Mathlib.Numerals.{add-one}
use native.Mathlib.Omega.{arith}
use mathlib.Core.Path.{◌≡◌, refl, sym, ap, ap₂, ◌∙◌, subst}
use mathlib.Core.Bool.{◌||◌}
use mathlib.Core.Logic.{inl}
use mathlib.Core.List.{List, [], ◌∷◌, ◌++◌, append_assoc}
use lib.Dec.{eqb}
use lib.ListN.{length, get_or, set, take, drop, length-append, length-drop, length-set}
use lib.Seq.{slice, take_at, drop_at, get_or_at, get_or-set_same, get_or-set_other, take-take, length-take-le}
use Rattle.limits.specs.Limits.{blocks}
use Rattle.lists.proofs.Choices.{split_lt}
use Rattle.marks.specs.Sets.{member}
use Rattle.rules.specs.Lists.{first_or, concat}
use Rattle.rules.specs.Graph.{Graph}
use Rattle.rules.specs.Rotate.{rotate}
use Rattle.rules.specs.Traces.{Traced, trace_from}
use Rattle.rules.proofs.Membership.{In, In-left, In-right}
use Rattle.rules.proofs.Counting.{In→count, count→In}
use Rattle.rules.proofs.TracesOnce.{grow_ok}
use Rattle.rules.proofs.TracesEnd.{Extends, stops, goes, trace_ends}
use Rattle.records.specs.declared.Graph as tables
use Rattle.records.specs.Tables.{tabled, Carried}
use Rattle.flow.specs.Lent.{Of, Marks}
use Rattle.flow.proofs.SoundLaws.{small}
use Rattle.connect.specs.Joined.{begin_of, end_of, traces_in}
use Rattle.connect.proofs.TraceLaws.{next_begin, ends_low}
use Rattle.traces.specs.declared.Growth.{Growth}
use Rattle.traces.specs.Held.{Held, Free, Adds, Added}
use Rattle.traces.specs.Growing.{start_of, trace_of, Kept, TurnedTo, Turned}
use Rattle.traces.proofs.HeldLaws.{concat_both, once_listed, found_few}
use Rattle.traces.proofs.GrowLaws.{marks_more}

-- a trace has a block
some_block : {g : Graph} {likely low n : ℕ} {laid l : List ℕ} → Extends g likely low laid n l → 0 < length l
some_block (stops _ _ e) = omega arith
some_block (goes _ _ a r e x) = omega arith

-- ---- where traces end
begin_same : (ends more : List ℕ) (found : ℕ) → ((j : ℕ) → j < found → get_or more j 0 ≡ get_or ends j 0) → (k : ℕ) → k ≤ found → begin_of more k ≡ begin_of ends k
unfolding begin_of
begin_same ends more found h zero l = refl
begin_same ends more found h (suc k) l = h k (omega (arith, l))

slice_same : (order other : List ℕ) (all from to : ℕ) → take all other ≡ take all order → to ≤ all → slice from to other ≡ slice from to order
slice_same order other all from to e l = ap (drop from) (sym (take-take to all other l) ∙ ap (take to) e ∙ take-take to all order l)

-- the traces that were, where more is put behind them
module _ (order other ends more : List ℕ) (all found : ℕ) (front : take all other ≡ take all order)
    (same : (j : ℕ) → j < found → get_or more j 0 ≡ get_or ends j 0) (low : (j : ℕ) → j < found → get_or ends j 0 ≤ all) where
  pub traces_same : (k : ℕ) → k ≤ found → traces_in other more k ≡ traces_in order ends k
  unfolding traces_in
  traces_same zero h = refl
  traces_same (suc k) h =
      ap₂ (λ (l : List (List ℕ)) (r : List ℕ). l ++ (r ∷ [])) (traces_same k (omega (arith, h)))
      (ap₂ (λ (a b : ℕ). slice a b other) (begin_same ends more found same k (omega (arith, h))) (same k (omega (arith, h)))
      ∙ slice_same order other all (begin_of ends k) (get_or ends k 0) front (low k (omega (arith, h))))

-- ---- one trace more
first_at : (a r d : List ℕ) (n : ℕ) → length a ≡ n → 0 < length r → first_or blocks r ≡ get_or (a ++ (r ++ d)) n 0
unfolding first_or
first_at a [] d n e h = absurd (omega (arith, h))
first_at a (x ∷ r) d n e h = sym (get_or_at a x (r ++ d) 0 n e)

first_in : (r : List ℕ) → 0 < length r → In (first_or blocks r) r
unfolding first_or
first_in [] h = absurd (omega (arith, h))
first_in (x ∷ r) h = inl refl

module _ {t : tables.Graph} (l : Carried t) (s : Traced) (likely low from : ℕ) (w : Growth) (h : Held t s w) (f : Free t s from) (v : Growth) (e : ℕ) (n : TurnedTo t s likely low from w v e)
    (sized : length v.made.order ≡ length w.made.order) (inside : e ≤ length w.made.order) (room : w.made.len < length w.made.ends) where
  abbrev order : List ℕ
  order = w.made.order

  abbrev order' : List ℕ
  order' = v.made.order

  abbrev ends : List ℕ
  ends = w.made.ends

  abbrev found : ℕ
  found = w.made.len

  begin : ℕ
  begin = begin_of ends found

  made : List ℕ
  made = trace_of t s likely low from

  turned : List ℕ
  turned = rotate (tabled t) (made ++ s.laid) s.starts made

  some : 0 < length made
  unfolding made
  some = some_block (trace_ends (tabled t) l.whole likely low s.laid from f.block)

  is : order' ≡ take begin order ++ (turned ++ drop e order)
  unfolding begin turned made
  is = n.order_is

  end : e ≡ begin + length made
  unfolding begin made
  end = n.end

  front : length (take begin order) ≡ begin
  front = length-take-le begin order (omega (arith, inside, end))

  turned_long : length turned ≡ length made
  turned_long =
      omega (
        arith,
        sized,
        ap length is,
        length-append (take begin order) (turned ++ drop e order),
        length-append turned (drop e order),
        length-drop e order,
        front,
        end,
        inside,
      )

  starts_at : get_or order' begin 0 ≡ first_or blocks turned
  starts_at = ap (λ (l : List ℕ). get_or l begin 0) is ∙ sym (first_at (take begin order) turned (drop e order) begin front (omega (arith, turned_long, some)))

  -- what it starts at is a block
  pub start_own : Of t (get_or order' (begin_of ends found) 0)
  unfolding begin trace_from turned made concat
  start_own =
      let g = (grow_ok (tabled t) l.whole (once_listed l) likely low s from f.block f.new (h.good l.whole (once_listed l))).good in
      let x = get_or order' (begin_of ends found) 0 in
      let in_turned : In x turned = subst (λ (k : ℕ). In k turned) (sym starts_at) (first_in turned (omega (arith, turned_long, some))) in
      let in_all : In x (concat (s.found ++ (turned ∷ []))) =
      subst (In x) (sym (concat_both s.found (turned ∷ []))) (In-right x (concat s.found) (turned ++ []) (In-left x turned [] in_turned)) in
      g.sub x (count→In x (made ++ s.laid) (omega (arith, g.even x, In→count x (concat (s.found ++ (turned ∷ []))) in_all)))

  pub begins_before : begin_of ends found < e
  unfolding begin
  begins_before = omega (arith, end, some)

  abbrev more : List ℕ
  more = set ends found e

  last_end : get_or more found 0 ≡ e
  last_end = get_or-set_same ends found e 0 room

  others : (j : ℕ) → j < found → get_or more j 0 ≡ get_or ends j 0
  others j l = get_or-set_other ends found j e 0 (λ q. omega (arith, l, q))

  trace_at : slice begin e order' ≡ turned
  trace_at =
      let long : length (take begin order ++ turned) ≡ e = omega (arith, length-append (take begin order) turned, front, turned_long, end) in
      ap (drop begin) (ap (take e) (is ∙ sym (append_assoc (take begin order) turned (drop e order))) ∙ take_at (take begin order ++ turned) (drop e order) e long)
      ∙ drop_at (take begin order) turned begin front

  pub one_more : (k : Growth) → k.entry ≡ w.entry → k.seen ≡ v.seen → k.reached ≡ v.reached → k.made.order ≡ order' → k.made.ends ≡ more → k.made.len ≡ suc found
      → ((m : ℕ) → member k.starts m ≡ eqb m (get_or order' (begin_of ends found) 0) || member w.starts m) → Held t (trace_from (tabled t) likely low s from) k
  unfolding trace_from begin made turned traces_in
  one_more k ke ks kr ko kn kl m =
      let all : traces_in order' (set ends found e) (suc found) ≡ s.found ++ (turned ∷ []) =
      ap₂ (λ (l : List (List ℕ)) (r : List ℕ). l ++ (r ∷ []))
      (traces_same order order' ends (set ends found e) begin found (ap (take begin) is ∙ take_at (take begin order) (turned ++ drop e order) begin front) others (ends_low ends found h.rising) found (omega arith) ∙ h.found_is)
      (ap₂ (λ (a b : ℕ). slice a b order') (begin_same ends (set ends found e) found others found (omega arith)) last_end ∙ trace_at) in
      record {
        order_sized = ap length ko ∙ sized ∙ h.order_sized;
        ends_sized = ap length kn ∙ length-set ends found e ∙ h.ends_sized;
        entry_is = ke ∙ h.entry_is;
        laid_is = rw ks n.laid_is;
        starts_are = subst (λ (j : ℕ). Marks k.starts (j ∷ s.starts)) starts_at (marks_more w.starts k.starts s.starts (get_or order' (begin_of ends found) 0) m h.starts_are);
        reached_is = rw kr n.reached_is;
        found_is = rw (ko, kn, kl) all;
        long = rw (kn, kl) (next_begin (set ends found e) found ∙ last_end ∙ omega (arith, end, h.long, length-append made s.laid));
        rising = rw (kn, kl) rises;
        good = λ u d. (grow_ok (tabled t) u d likely low s from f.block f.new (h.good u d)).good;
      }
    where
      rises : (j : ℕ) → j < suc found → begin_of more j < end_of more j
      rises j i = split_lt j found
          (λ q. omega (arith, h.rising j q, begin_same ends more found others j (omega (arith, q)), others j q))
          (λ q. let z : j ≡ found = omega (arith, i, q) in subst (λ (j : ℕ). begin_of more j < end_of more j) (sym z) (omega (arith, begin_same ends more found others found (omega arith), last_end, end, some)))

-- ---- what is held, whatever it is
module _ (t : tables.Graph) (l : Carried t) (likely low from : ℕ) (w v : Growth) (e : ℕ) (turns : Turned t likely low from w v e)
    (kept : Kept w v) (a : Adds t w from) where
  own_turn : TurnedTo t a.so_far likely low from w v e
  own_turn = turns a.so_far a.held a.free

  pub adds_few : w.made.len < blocks
  adds_few = omega (arith, found_few l a.so_far w a.held from a.free)

  pub end_few : e < blocks
  end_few = omega (arith, own_turn.few)

  pub start_inside : start_of w < e
  start_inside =
      begins_before l a.so_far likely low from w a.held a.free v e own_turn kept.order_sized (omega (arith, end_few, a.held.order_sized)) (omega (arith, adds_few, a.held.ends_sized))

  pub start_low : get_or v.made.order (start_of w) 0 < blocks
  start_low =
      omega (arith, small l (get_or v.made.order (start_of w) 0) (start_own l a.so_far likely low from w a.held a.free v e own_turn kept.order_sized (omega (arith, end_few, a.held.order_sized)) (omega (arith, adds_few, a.held.ends_sized))))

  pub added : (k : Growth) → k.entry ≡ w.entry → k.seen ≡ v.seen → k.reached ≡ v.reached → k.made.order ≡ v.made.order → k.made.ends ≡ set w.made.ends w.made.len e → k.made.len ≡ w.made.len + 1
      → ((m : ℕ) → member k.starts m ≡ eqb m (get_or v.made.order (start_of w) 0) || member w.starts m) → Added t likely low from w k
  added k ke ks kr ko kn kl m s h f =
      one_more l s likely low from w h f v e (turns s h f) kept.order_sized (omega (arith, end_few, a.held.order_sized)) (omega (arith, adds_few, a.held.ends_sized)) k ke ks kr ko kn (kl ∙ add-one w.made.len) m

pub ruleset add_steps = (adds_few, end_few, start_inside, start_low)
