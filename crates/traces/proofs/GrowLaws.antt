-- A trace grown block by block is the one that the rule makes. Assumes nothing.
use Prim.Native.Nat.{ℕ, suc, ◌+◌, ◌-◌, ◌≤◌, ◌<◌, max}
use native.Mathlib.Omega.{arith}
use mathlib.Core.Path.{◌≡◌, refl, sym, ap, ap₂, ◌∙◌, subst}
use mathlib.Core.Bool.{Bool, true, false, not, cond, ◌||◌}
use mathlib.Core.Logic.{inl, inr}
use mathlib.Core.List.{List, [], ◌∷◌, ◌++◌, append_assoc}
use Rattle.std.specs.Prelude.{Option, None, Some}
use lib.Dec.{T, eqb}
use lib.ListN.{length, get_or, set, take, drop, take-append-drop, length-append, length-drop, get_or-eq_default}
use lib.Seq.{drop-cons, drop-drop, set_at, take_at, drop_at, length-take-le}
use borrow.Rule.Slice.PartMut.{put_mid}
use Rattle.std.specs.List.{between}
use Rattle.std.proofs.lemmas.Slice.{between_is}
use Rattle.limits.specs.Limits.{numbers, blocks}
use Rattle.lists.proofs.Choices.{split_lt}
use Rattle.marks.specs.Sets.{member}
use Rattle.marks.proofs.SetLaws.{eqb_turn}
use Rattle.rules.specs.Lists.{foldl, any, mem}
use Rattle.rules.specs.Graph as graph
use Rattle.rules.specs.Graph.{Block, Graph, block_at, numbers_of}
use Rattle.rules.specs.Rotate.{rotate}
use Rattle.rules.specs.Traces.{heaviest_in, along, Traced}
use Rattle.rules.proofs.Membership.{In, In-left, mem→, →mem}
use Rattle.rules.proofs.Counting.{Once, fresh}
use Rattle.rules.proofs.Wholeness.{Whole, block_in, arm_target}
use Rattle.rules.proofs.TracesOnce.{along_ok}
use Rattle.rules.proofs.TracesEnd.{Extends, stops, goes, trace_ends}
use Rattle.records.specs.declared.Graph as tables
use Rattle.records.specs.Tables.{arm_at, tabled, Carried}
use Rattle.flow.specs.Lent.{Of, Marks, arm_of}
use Rattle.flow.proofs.PartLaws.{get_in}
use Rattle.flow.proofs.SoundLaws.{small, runs_self, flows_self}
use Rattle.seeds.specs.Reached.{Reached, Noted}
use Rattle.along.specs.Choosing.{GoesOn}
use Rattle.rotate.specs.Turning.{Below, Rotated}
use Rattle.traces.specs.declared.Growth.{Growth}
use Rattle.traces.specs.Held.{Held, Free, Adds}
use Rattle.traces.specs.Growing.{start_of, trace_of, Turned}
use Rattle.traces.proofs.HeldLaws.{Ready, no_more, few_blocks, ready}

-- ---- what a rule says of a trace that goes on, and of one that ends
module _ (g : Graph) (likely low : ℕ) where
  some_none : (a : graph.Arm) → ◌≡◌ {A = Option graph.Arm} None (Some a) → ⊥
  some_none a e = let z : ◌≡◌ {A = ℕ} 0 1 = cc in omega arith

  same_arm : (a b : graph.Arm) → ◌≡◌ {A = Option graph.Arm} (Some a) (Some b) → a ≡ b
  same_arm a b e = cc

  went : (laid : List ℕ) (n : ℕ) (rest : List ℕ) (a : graph.Arm) → Extends g likely low laid n rest → along g (n ∷ laid) likely low (block_at g n) ≡ Some a →
      (r : List ℕ) × (rest ≡ n ∷ r) × Extends g likely low (n ∷ laid) a.to r
  went laid n rest a (stops _ _ e) q = absurd (some_none a (sym e ∙ q))
  went laid n rest a (goes _ _ b r e x) q = (r, refl, subst (λ (c : graph.Arm). Extends g likely low (n ∷ laid) c.to r) (same_arm b a (sym e ∙ q)) x)

  ended : (laid : List ℕ) (n : ℕ) (rest : List ℕ) → Extends g likely low laid n rest → along g (n ∷ laid) likely low (block_at g n) ≡ None → rest ≡ n ∷ []
  ended laid n rest (stops _ _ e) q = refl
  ended laid n rest (goes _ _ b r e x) q = absurd (some_none b (sym q ∙ e))

-- ---- what is laid, in another order
mem_cons : (m n : ℕ) (l : List ℕ) → mem m (n ∷ l) ≡ eqb n m || mem m l
unfolding mem any
mem_cons m n l = refl

mem_behind : (m n : ℕ) (l k : List ℕ) → mem m ((l ++ (n ∷ [])) ++ k) ≡ eqb n m || mem m (l ++ k)
unfolding mem any
mem_behind m n [] k = refl
mem_behind m n (x ∷ l) k = ap (λ (b : Bool). eqb x m || b) (mem_behind m n l k) ∙ turn (eqb x m) (eqb n m) (mem m (l ++ k))
  where
    turn : (a b c : Bool) → a || (b || c) ≡ b || (a || c)
    turn true true c = refl
    turn true false c = refl
    turn false b c = refl

heaviest_same : (g : Graph) (l k : List ℕ) → ((m : ℕ) → mem m l ≡ mem m k) → (n : ℕ) → heaviest_in g l n ≡ heaviest_in g k n
unfolding heaviest_in
heaviest_same g l k h n = go g 0
  where
    step : List ℕ → ℕ → Block → ℕ
    step l m b = cond (mem b.number l) (foldl (λ (k : ℕ) (a : graph.Arm). cond (eqb a.to n) (max k a.weight) k) m b.arms) m

    go : (g : Graph) (m : ℕ) → foldl (step l) m g ≡ foldl (step k) m g
    go [] m = refl
    go (b ∷ g) m = ap (λ (t : Bool). foldl (step l) (cond t (foldl (λ (k : ℕ) (a : graph.Arm). cond (eqb a.to n) (max k a.weight) k) m b.arms) m) g) (h b.number) ∙ go g (step k m b)

pub reached_same : (t : tables.Graph) (l k reached : List ℕ) → ((m : ℕ) → mem m l ≡ mem m k) → Reached t l reached → Reached t k reached
reached_same t l k reached h r m i = r m i ∙ heaviest_same (tabled t) l k h m

pub marks_same : (seen l k : List ℕ) → ((m : ℕ) → mem m l ≡ mem m k) → Marks seen l → Marks seen k
marks_same seen l k h r m = r m ∙ h m

pub marks_more : (seen more l : List ℕ) (n : ℕ) → ((m : ℕ) → member more m ≡ eqb m n || member seen m) → Marks seen l → Marks more (n ∷ l)
unfolding mem any
marks_more seen more l n h r m = h m ∙ ap₂ (λ (a b : Bool). a || b) (eqb_turn m n) (r m)

pub put_long : (a k : ℕ) (order part : List ℕ) → a + k ≤ length order → length part ≡ length (take k (drop a order)) → length (put_mid a k order part) ≡ length order
put_long a k order part h e =
    omega (
      arith,
      e,
      length-append (take a order) (part ++ drop k (drop a order)),
      length-append part (drop k (drop a order)),
      length-take-le a order (omega arith),
      length-drop a order,
      length-drop k (drop a order),
      length-take-le k (drop a order) (omega (arith, length-drop a order)),
    )

-- ---- a trace on its way
module _ (t : tables.Graph) (s : Traced) (likely low from start : ℕ) (was : List ℕ) where
  -- the trace as the rule makes it
  abbrev whole : List ℕ
  whole = trace_of t s likely low from

  -- `made` of it is laid, at the places from `start` up to e, and block n comes next
  pub record Going (seen reached order : List ℕ) (e n : ℕ) : Type 0 where
    pub made : List ℕ
    pub rest : List ℕ
    pub laid : List ℕ
    pub is : whole ≡ made ++ rest
    pub goes_on : Extends (tabled t) likely low laid n rest
    pub same : (m : ℕ) → mem m laid ≡ mem m (made ++ s.laid)
    pub new : T (not (mem n laid))
    pub block : Of t n
    pub marked : Marks seen laid
    pub reaches : Reached t laid reached
    pub at : e ≡ start + length made
    pub ordered : order ≡ take start was ++ (made ++ drop e was)
    pub once : Once laid
    pub own : (m : ℕ) → In m laid → Of t m
    pub long : length laid ≡ e

  -- it is laid, and not turned yet
  pub record Grown (seen reached order : List ℕ) (e : ℕ) : Type 0 where
    pub marked : Marks seen (whole ++ s.laid)
    pub reaches : Reached t (whole ++ s.laid) reached
    pub at : e ≡ start + length whole
    pub ordered : order ≡ take start was ++ (whole ++ drop e was)
    pub own : (m : ℕ) → In m whole → Of t m

  pub sets_out : Whole (tabled t) → (seen reached : List ℕ) → Ready t s from start seen reached → Going seen reached was start from
  sets_out w seen reached r = record {
    made = [];
    rest = whole;
    laid = s.laid;
    is = refl;
    goes_on = trace_ends (tabled t) w likely low s.laid from r.block;
    same = λ k. refl;
    new = r.new;
    block = r.block;
    marked = r.laid_is;
    reaches = r.reached_is;
    at = omega arith;
    ordered = sym (take-append-drop start was);
    once = r.once;
    own = r.own;
    long = r.long;
  }

  module _ (seen reached order : List ℕ) (e n : ℕ) (h : Going seen reached order e n) where
    once_more : Once (n ∷ h.laid)
    once_more = fresh n h.laid h.once h.new

    own_more : (m : ℕ) → In m (n ∷ h.laid) → Of t m
    own_more m (inl q) = subst (Of t) (sym q) h.block
    own_more m (inr j) = h.own m j

    -- each block is laid once: there is room
    pub room_for : Carried t → e < numbers
    room_for l = omega (arith, h.long, no_more l (n ∷ h.laid) once_more own_more, few_blocks l)

    module _ (seen' reached' order' : List ℕ) (fits : e < length was) (before : start ≤ length was)
        (marks : (m : ℕ) → member seen' m ≡ eqb m n || member seen m)
        (notes : (l : List ℕ) → Reached t l reached → Reached t (n ∷ l) reached')
        (puts : order' ≡ set order e n) where
      same_more : (m : ℕ) → mem m (n ∷ h.laid) ≡ mem m ((h.made ++ (n ∷ [])) ++ s.laid)
      same_more m = mem_cons m n h.laid ∙ ap (λ (b : Bool). eqb n m || b) (h.same m) ∙ sym (mem_behind m n h.made s.laid)

      front_long : length (take start was ++ h.made) ≡ e
      front_long = omega (arith, length-append (take start was) h.made, length-take-le start was before, h.at)

      put : order' ≡ take start was ++ ((h.made ++ (n ∷ [])) ++ drop (suc e) was)
      put = puts ∙ ap (λ (l : List ℕ). set l e n) (h.ordered ∙ sym (append_assoc (take start was) h.made (drop e was)) ∙ ap (λ (l : List ℕ). (take start was ++ h.made) ++ l) (drop-cons was e 0 fits))
          ∙ set_at (take start was ++ h.made) (get_or was e 0) (drop (suc e) was) n e front_long
          ∙ append_assoc (take start was) h.made (n ∷ drop (suc e) was)
          ∙ ap (λ (l : List ℕ). take start was ++ l) (sym (append_assoc h.made (n ∷ []) (drop (suc e) was)))

      pub goes_by : (a : graph.Arm) → Whole (tabled t) → ((l : List ℕ) → Marks seen' l → along (tabled t) l likely low (block_at (tabled t) n) ≡ Some a) → Going seen' reached' order' (suc e) a.to
      goes_by a w says =
          let m = marks_more seen seen' h.laid n marks h.marked in
          let q = says (n ∷ h.laid) m in
          let x = went (tabled t) likely low h.laid n h.rest a h.goes_on q in
          let k = along_ok (tabled t) w likely low (n ∷ h.laid) (block_at (tabled t) n) a q in
          record {
            made = h.made ++ (n ∷ []);
            rest = x.0;
            laid = n ∷ h.laid;
            is = h.is ∙ ap (λ (l : List ℕ). h.made ++ l) x.1 ∙ sym (append_assoc h.made (n ∷ []) x.0);
            goes_on = x.2;
            same = same_more;
            new = k.1;
            block = w (block_at (tabled t) n) (block_in (tabled t) n h.block).0 a.to (arm_target (block_at (tabled t) n) a k.0);
            marked = m;
            reaches = notes h.laid h.reaches;
            at = omega (arith, h.at, length-append h.made (n ∷ []));
            ordered = put;
            once = once_more;
            own = own_more;
            long = ap suc h.long;
          }

      pub stops_at : ((l : List ℕ) → Marks seen' l → along (tabled t) l likely low (block_at (tabled t) n) ≡ None) → Grown seen' reached' order' (suc e)
      stops_at says =
          let m = marks_more seen seen' h.laid n marks h.marked in
          let q = says (n ∷ h.laid) m in
          let r : whole ≡ h.made ++ (n ∷ []) = h.is ∙ ap (λ (l : List ℕ). h.made ++ l) (ended (tabled t) likely low h.laid n h.rest h.goes_on q) in
          let same : (k : ℕ) → mem k (n ∷ h.laid) ≡ mem k (whole ++ s.laid) = λ k. same_more k ∙ ap (λ (l : List ℕ). mem k (l ++ s.laid)) (sym r) in
          record {
            marked = marks_same seen' (n ∷ h.laid) (whole ++ s.laid) same m;
            reaches = reached_same t (n ∷ h.laid) (whole ++ s.laid) reached' same (notes h.laid h.reaches);
            at = omega (arith, h.at, length-append h.made (n ∷ []), ap length r);
            ordered = put ∙ ap (λ (l : List ℕ). take start was ++ (l ++ drop (suc e) was)) (sym r);
            own = λ k i. own_more k (mem→ k (n ∷ h.laid) (subst T (sym (same k)) (→mem k (whole ++ s.laid) (In-left k whole s.laid i))));
          }
      -- ---- turned

  module _ (seen reached order : List ℕ) (e : ℕ) (h : Grown seen reached order e) (before : start ≤ length was) where
    front : length (take start was) ≡ start
    front = length-take-le start was before

    front_more : length (take start was ++ whole) ≡ e
    front_more = omega (arith, length-append (take start was) whole, front, h.at)

    kept : take start order ≡ take start was
    kept = ap (take start) h.ordered ∙ take_at (take start was) (whole ++ drop e was) start front

    apart : order ≡ (take start was ++ whole) ++ drop e was
    apart = h.ordered ∙ sym (append_assoc (take start was) whole (drop e was))

    pub trace_is : between start e order ≡ whole
    trace_is =
        between_is order start e ∙ ap (drop start) (ap (take e) apart ∙ take_at (take start was ++ whole) (drop e was) e front_more) ∙ drop_at (take start was) whole start front

    behind : drop (e - start) (drop start order) ≡ drop e was
    behind =
        let z : start + (e - start) ≡ e = omega (arith, h.at) in
        drop-drop (e - start) start order ∙ ap (λ (i : ℕ). drop i order) z ∙ ap (drop e) apart ∙ drop_at (take start was ++ whole) (drop e was) e front_more

    pub turned : (r : List ℕ) → r ≡ rotate (tabled t) (whole ++ s.laid) s.starts (between start e order)
        → put_mid start (e - start) order r ≡ take start was ++ (rotate (tabled t) (whole ++ s.laid) s.starts whole ++ drop e was)
    turned r q = rw (kept, behind, q ∙ ap (rotate (tabled t) (whole ++ s.laid) s.starts) trace_is) refl

    -- what is turned are numbers of blocks
    pub trace_below : Carried t → Below (between start e order)
    trace_below l i = rw trace_is (split_lt i (length whole) (λ k. omega (arith, small l (get_or whole i 0) (h.own (get_or whole i 0) (get_in whole i k)))) (λ k. omega (arith, get_or-eq_default whole 0 k)))

-- ---- in a carried graph, whatever is held, the trace is on its way
abbrev pub Grows : tables.Graph → ℕ → ℕ → ℕ → Growth → List ℕ → List ℕ → List ℕ → ℕ → ℕ → Type 0
Grows t likely low from w seen reached order e n = (s : Traced) → Held t s w → Free t s from → Going t s likely low from (start_of w) w.made.order seen reached order e n

-- it is laid, and not turned yet
abbrev pub GrownUp : tables.Graph → ℕ → ℕ → ℕ → Growth → List ℕ → List ℕ → List ℕ → ℕ → Type 0
GrownUp t likely low from w seen reached order e = (s : Traced) → Held t s w → Free t s from → Grown t s likely low from (start_of w) w.made.order seen reached order e

-- block n comes next, at place e
pub record Next (t : tables.Graph) (w : Growth) (e n : ℕ) : Type 0 where
  pub low : n < blocks
  pub room : e < numbers
  pub block : Of t n
  pub behind : start_of w ≤ e
  pub inside : e < length w.made.order

module _ (t : tables.Graph) (l : Carried t) (likely low from : ℕ) (w : Growth) where
  pub grows_first : Grows t likely low from w w.seen w.reached w.made.order (start_of w) from
  grows_first s h f = sets_out t s likely low from (start_of w) w.made.order l.whole w.seen w.reached (ready l s w h from f)

  -- there is room for the block that comes next
  pub grows_on : (a : Adds t w from) (seen reached order : List ℕ) (e n : ℕ) → Grows t likely low from w seen reached order e n → Next t w e n
  grows_on a seen reached order e n h =
      let g = h a.so_far a.held a.free in
      let r = room_for t a.so_far likely low from (start_of w) w.made.order seen reached order e n g l in
      record { low = omega (arith, small l n g.block); room = r; block = g.block; behind = omega (arith, g.at); inside = omega (arith, r, a.held.order_sized) }

  module _ (seen reached order : List ℕ) (e n : ℕ) (h : Grows t likely low from w seen reached order e n)
      (seen' reached' order' : List ℕ) (fits : e < length w.made.order)
      (marked : (m : ℕ) → member seen' m ≡ eqb m n || member seen m) (noted : Noted t.a n reached reached') (put : order' ≡ set order e n)
      (r : Option ℕ) (says : GoesOn t seen' likely low n r) (e' : ℕ) (next : e' ≡ suc e) where
    pub before : (s : Traced) → Held t s w → Free t s from → start_of w ≤ length w.made.order
    before s k f = omega (arith, fits, (h s k f).at)

    pub grows_more : (q : ℕ) → r ≡ Some q → Grows t likely low from w seen' reached' order' e' (get_or t.a.to q 0)
    unfolding arm_of arm_at
    grows_more q c s k f =
        let g = h s k f in
        let told : (laid : List ℕ) → Marks seen' laid → along (tabled t) laid likely low (block_at (tabled t) n) ≡ Some (arm_at t.a q) =
        λ laid m. sym (says t (flows_self l) g.block laid m) ∙ ap (arm_of t.a) c in
        subst (λ (i : ℕ). Going t s likely low from (start_of w) w.made.order seen' reached' order' i (get_or t.a.to q 0)) (sym next)
        (goes_by t s likely low from (start_of w) w.made.order seen reached order e n g seen' reached' order' fits (before s k f) marked
        (λ laid. noted t (runs_self l).arms l g.block laid) put (arm_at t.a q) l.whole told)

    pub grows_out : r ≡ None → GrownUp t likely low from w seen' reached' order' e'
    unfolding arm_of
    grows_out c s k f =
        let g = h s k f in
        let told : (laid : List ℕ) → Marks seen' laid → along (tabled t) laid likely low (block_at (tabled t) n) ≡ None =
        λ laid m. sym (says t (flows_self l) g.block laid m) ∙ ap (arm_of t.a) c in
        subst (λ (i : ℕ). Grown t s likely low from (start_of w) w.made.order seen' reached' order' i) (sym next)
        (stops_at t s likely low from (start_of w) w.made.order seen reached order e n g seen' reached' order' fits (before s k f) marked
        (λ laid. noted t (runs_self l).arms l g.block laid) put told)

    module _ (c : r ≡ None) (start : ℕ) (is : start ≡ start_of w) where
      -- what is turned are numbers of blocks
      pub grows_below : Adds t w from → Below (between start e' order')
      grows_below a =
          subst (λ (i : ℕ). Below (between i e' order')) (sym is)
          (trace_below t a.so_far likely low from (start_of w) w.made.order seen' reached' order' e' (grows_out c a.so_far a.held a.free) (before a.so_far a.held a.free) l)

      -- turned, it is what the rule makes
      pub grows_turned : (entry : Option ℕ) (starts : List ℕ) → entry ≡ w.entry → starts ≡ w.starts → (k : List ℕ) → Rotated t seen' starts entry (between start e' order') k → (v : Growth) → v.seen ≡ seen' → v.reached ≡ reached'
          → v.made.order ≡ put_mid start (e' - start) order' k → Turned t likely low from w v e'
      grows_turned entry starts ee es k rotated v vs vr vo s d f =
          let o = grows_out c s d f in
          let b = before s d f in
          let q = subst (λ (i : ℕ). Rotated t seen' starts entry (between i e' order') k) is rotated in
          let own = λ (m : ℕ) (i : In m (between (start_of w) e' order')). o.own m (subst (In m) (trace_is t s likely low from (start_of w) w.made.order seen' reached' order' e' o b) i) in
          let r = q t (flows_self l) (ee ∙ d.entry_is) own (trace_of t s likely low from ++ s.laid) s.starts o.marked (subst (λ (j : List ℕ). Marks j s.starts) (sym es) d.starts_are) in
          record {
            laid_is = subst (λ (j : List ℕ). Marks j (trace_of t s likely low from ++ s.laid)) (sym vs) o.marked;
            reached_is = subst (Reached t (trace_of t s likely low from ++ s.laid)) (sym vr) o.reaches;
            end = o.at;
            few = omega (arith, next, room_for t s likely low from (start_of w) w.made.order seen reached order e n (h s d f) l);
            order_is = vo ∙ ap (λ (i : ℕ). put_mid i (e' - i) order' k) is ∙ turned t s likely low from (start_of w) w.made.order seen' reached' order' e' o b k r;
          }
