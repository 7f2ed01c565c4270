-- A round goes on for as long as the start rule finds a block. Assumes nothing.
use Prim.Native.Nat.{ℕ, zero, suc, ◌≤◌, ◌<◌}
use native.Mathlib.Omega.{arith}
use mathlib.Core.Path.{◌≡◌, refl, sym, ap, ◌∙◌, subst}
use mathlib.Core.Bool.{false, not}
use mathlib.Core.List.{List, [], ◌∷◌, ◌++◌, map}
use Rattle.std.specs.Prelude.{Option, None, Some}
use lib.ListN.{length, get_or, take, replicate, length-map, length-replicate}
use lib.Seq.{take-suc}
use Rattle.limits.specs.Limits.{blocks}
use Rattle.marks.specs.Sets.{member}
use Rattle.rules.specs.Lists.{foldl, mem, concat}
use Rattle.rules.specs.Graph as graph
use Rattle.rules.specs.Graph.{Block, numbers_of}
use Rattle.rules.specs.PlainOrder.{order}
use Rattle.rules.specs.Traces.{Seed, next_seed, Traced, no_traces, trace_from, fill}
use Rattle.rules.proofs.Membership.{In}
use Rattle.rules.proofs.Counting.{tally, tally_len, count, In→count, count→In}
use Rattle.rules.proofs.PlainOnce.{plain_once}
use Rattle.rules.proofs.TracesOnce.{left, grow_ok, seed_ok}
use Rattle.records.specs.declared.Graph.{Graph}
use Rattle.records.specs.declared.Order.{Order}
use Rattle.records.specs.Tables.{tabled, in_order, Carried}
use Rattle.flow.specs.Lent.{Of}
use Rattle.seeds.specs.Starts.{block_of, StartsAt}
use Rattle.seeds.proofs.ReachedLaws.{reached_none}
use Rattle.connect.specs.Joined.{empty, begin_of, traces_in}
use Rattle.traces.specs.declared.Growth.{Growth}
use Rattle.traces.specs.Held.{Held, Holds, Steps, Free, Adds, Added}
use Rattle.traces.specs.Rounds.{Plain, filled}
use Rattle.traces.proofs.HeldLaws.{once_listed}

-- ---- nothing laid
pub nothing_held : (t : Graph) (seen starts : List ℕ) (entry : Option ℕ) → ((m : ℕ) → member seen m ≡ false) → ((m : ℕ) → member starts m ≡ false) → entry ≡ graph.entry (tabled t)
    → Held t no_traces (record { entry = entry; seen = seen; starts = starts; reached = replicate blocks 0; made = empty })
unfolding no_traces traces_in begin_of mem concat count tally
nothing_held t seen starts entry m n e = record {
  order_sized = length-replicate {A = ℕ} blocks 0;
  ends_sized = length-replicate {A = ℕ} blocks 0;
  entry_is = e;
  laid_is = m;
  starts_are = n;
  reached_is = reached_none t blocks;
  found_is = refl;
  long = refl;
  rising = λ k h. absurd (omega (arith, h));
  good = λ w d. record { once = λ k. omega arith; sub = λ k i. absurd i; even = λ k. refl };
}

-- ---- one round
module _ (t : Graph) (l : Carried t) (likely low : ℕ) (was : Traced) where
  abbrev full : Traced
  full = filled (tabled t) likely low was

  -- so much of the round is left
  pub record Filling (w : Growth) : Type 0 where
    pub now : Traced
    pub more : ℕ
    pub is : full ≡ fill (tabled t) (order (tabled t)) likely low more now
    pub enough : left (tabled t) l.whole (once_listed l) now ≤ more
    pub held : Held t now w

  pub begins : (w : Growth) → Held t was w → Filling w
  unfolding left numbers_of
  begins w h = record {
    now = was;
    more = length (tabled t);
    is = refl;
    enough = omega (arith, tally_len (λ (b : ℕ). not (mem b was.laid)) (map (λ (b : Block). b.number) (tabled t)), length-map (tabled t) (λ (b : Block). b.number));
    held = h;
  }

  fill_on : (k : ℕ) (s : Traced) (e : Seed) → next_seed (tabled t) (order (tabled t)) s.laid low ≡ Some e
      → fill (tabled t) (order (tabled t)) likely low (suc k) s ≡ fill (tabled t) (order (tabled t)) likely low k (trace_from (tabled t) likely low s e.block)
  unfolding fill
  fill_on k s e q = rw (q, fill) refl

  fill_up : (k : ℕ) (s : Traced) → next_seed (tabled t) (order (tabled t)) s.laid low ≡ None → fill (tabled t) (order (tabled t)) likely low k s ≡ s
  unfolding fill
  fill_up zero s q = refl
  fill_up (suc k) s q = rw (q, fill) refl

  module _ (w : Growth) (h : Filling w) where
    pub goes_on : (e : Seed) → next_seed (tabled t) (order (tabled t)) h.now.laid low ≡ Some e → Free t h.now e.block → (v : Growth) → Held t (trace_from (tabled t) likely low h.now e.block) v → Filling v
    goes_on e q f v k = go h.more refl
      where
        less : left (tabled t) l.whole (once_listed l) (trace_from (tabled t) likely low h.now e.block) < left (tabled t) l.whole (once_listed l) h.now
        less = (grow_ok (tabled t) l.whole (once_listed l) likely low h.now e.block f.block f.new (h.held.good l.whole (once_listed l))).less

        go : (m : ℕ) → h.more ≡ m → Filling v
        go zero z = absurd (omega (arith, z, less, h.enough))
        go (suc m) z = record {
          now = trace_from (tabled t) likely low h.now e.block;
          more = m;
          is = h.is ∙ ap (λ (n : ℕ). fill (tabled t) (order (tabled t)) likely low n h.now) z ∙ fill_on m h.now e q;
          enough = omega (arith, z, less, h.enough);
          held = k;
        }

    pub ends_there : next_seed (tabled t) (order (tabled t)) h.now.laid low ≡ None → Held t full w
    ends_there q = subst (λ (s : Traced). Held t s w) (sym (h.is ∙ fill_up h.more h.now q)) h.held

-- ---- by the tables
seed_of_lem : (o : Option Seed) (n : ℕ) → Some n ≡ block_of o → (e : Seed) × (o ≡ Some e) × (e.block ≡ n)
unfolding block_of
seed_of_lem None n q = absurd (let z : ◌≡◌ {A = ℕ} 0 1 = cc in omega arith)
seed_of_lem (Some e) n q = (e, refl, cc)

none_of : (o : Option Seed) → None ≡ block_of o → o ≡ None
unfolding block_of
none_of None q = refl
none_of (Some e) q = absurd (let z : ◌≡◌ {A = ℕ} 0 1 = cc in omega arith)

-- whatever is held, so much of the round is done
abbrev pub Going : Graph → ℕ → ℕ → Growth → Growth → Type 0
Going t likely low w v = (l : Carried t) (s : Traced) → Held t s w → Filling t l likely low s v

pub going_first : (t : Graph) (likely low : ℕ) (w : Growth) → Going t likely low w w
going_first t likely low w l s h = begins t l likely low s w h

module _ (t : Graph) (l : Carried t) (likely low : ℕ) (w v : Growth) (g : Going t likely low w v) (o : Order) (p : Plain t o) (r : Option ℕ) (says : StartsAt t.b (in_order o) v.seen v.reached low r) where
  own : (m : ℕ) → In m (order (tabled t)) → Of t m
  own m j = count→In m (numbers_of (tabled t)) (omega (arith, plain_once (tabled t) l.whole (once_listed l) m, In→count m (order (tabled t)) j))

  module _ (s : Traced) (h : Held t s w) where
    told : r ≡ block_of (next_seed (tabled t) (order (tabled t)) (g l s h).now.laid low)
    told =
        subst (λ (k : List ℕ). r ≡ block_of (next_seed (tabled t) k (g l s h).now.laid low)) p.order_is
        (says t refl refl l (λ m i. own m (subst (In m) p.order_is i)) (g l s h).now.laid (g l s h).held.laid_is (g l s h).held.reached_is)

    module _ (m : ℕ) (c : r ≡ Some m) where
      seed : (e : Seed) × (next_seed (tabled t) (order (tabled t)) (g l s h).now.laid low ≡ Some e) × (e.block ≡ m)
      seed = seed_of_lem (next_seed (tabled t) (order (tabled t)) (g l s h).now.laid low) m (sym c ∙ told)

      its_free : Free t (g l s h).now seed.0.block
      its_free =
          let n = seed_ok (tabled t) l.whole (once_listed l) (order (tabled t)) (g l s h).now.laid low seed.0 seed.1 in
          record { block = own seed.0.block n.0; new = n.1 }

      seed_free : Free t (g l s h).now m
      seed_free = subst (Free t (g l s h).now) seed.2 its_free

      seed_more : (k : Growth) → Added t likely low m v k → Filling t l likely low s k
      seed_more k a =
          goes_on t l likely low s v (g l s h) seed.0 seed.1 its_free k
          (subst (λ (x : ℕ). Held t (trace_from (tabled t) likely low (g l s h).now x) k) (sym seed.2) (a (g l s h).now (g l s h).held seed_free))

  -- the block that is found is free
  pub going_adds : Holds t w → (m : ℕ) → r ≡ Some m → Adds t v m
  going_adds k m c = record { so_far = (g l k.so_far k.held).now; held = (g l k.so_far k.held).held; free = seed_free k.so_far k.held m c }

  -- none is left
  pub going_full : r ≡ None → Steps t (filled (tabled t) likely low) w v
  going_full c s h = ends_there t l likely low s v (g l s h) (none_of (next_seed (tabled t) (order (tabled t)) (g l s h).now.laid low) (sym c ∙ told s h))

-- one trace more
pub going_more : (t : Graph) (likely low : ℕ) (w v : Growth) → Going t likely low w v → (o : Order) → Plain t o → (r : Option ℕ) → StartsAt t.b (in_order o) v.seen v.reached low r
    → (m : ℕ) → r ≡ Some m → (k : Growth) → Added t likely low m v k → Going t likely low w k
going_more t likely low w v g o p r says m c k a l s h = seed_more t l likely low w v g o p r says s h m c k a

-- ---- the rounds in turn
module _ {A B : Type 0} (f : B → A → B) where
  fold_append : (b : B) (l k : List A) → foldl f b (l ++ k) ≡ foldl f (foldl f b l) k
  unfolding foldl
  fold_append b [] k = refl
  fold_append b (x ∷ l) k = fold_append (f b x) l k

  pub fold_suc : (b : B) (l : List A) (i : ℕ) (z : A) → i < length l → foldl f b (take (suc i) l) ≡ f (foldl f b (take i l)) (get_or l i z)
  unfolding foldl
  fold_suc b l i z h = ap (foldl f b) (take-suc l i z h) ∙ fold_append b (take i l) (get_or l i z ∷ [])
