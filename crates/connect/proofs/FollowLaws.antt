-- One trace more laid behind those that are, and the trace that follows it. Assumes nothing.
use Prim.Native.Nat.{ℕ, zero, suc, ◌+◌, ◌-◌, ◌≤◌, ◌<◌}
use native.Mathlib.Omega.{arith}
use mathlib.Core.Path.{◌≡◌, refl, sym, ap, ap₂, ◌∙◌, subst}
use mathlib.Core.Bool.{Bool, true, false, cond, ◌||◌}
use mathlib.Core.Logic.{◌⊎◌, inl, inr, ⊎_elim}
use mathlib.Core.List.{List, [], ◌∷◌, ◌++◌, map, reverse, reverse-cons, append_assoc, append-nil}
use Rattle.std.specs.Prelude.{Option, None, Some}
use Rattle.std.specs.Option.{option_map}
use lib.Dec.{eqb}
use lib.ListN.{length, get_or}
use lib.Seq.{slice, length-slice}
use borrow.Author.Tests.{eq-eqb, ne_eqb}
use Rattle.limits.specs.Limits.{blocks}
use Rattle.lists.proofs.Choices.{split_lt}
use Rattle.rules.specs.Lists.{any, best, concat, last_or, mem}
use Rattle.rules.specs.Graph as graph
use Rattle.rules.specs.Graph.{cold_at}
use Rattle.rules.specs.Join as join
use Rattle.rules.specs.Join.{looser, links, next_trace}
use Rattle.rules.proofs.Membership.{In, map_append}
use Rattle.rules.proofs.JoinEnd.{Follows, stops, goes}
use Rattle.records.specs.declared.Graph.{Graph}
use Rattle.records.specs.declared.Order.{Order}
use Rattle.records.specs.Tables.{tabled, in_order}
use Rattle.marks.specs.Sets.{member, size}
use Rattle.marks.proofs.SetLaws.{eqb_turn, size_room, size_more}
use Rattle.flow.specs.Lent.{Runs, Marks}
use Rattle.flow.proofs.PartLaws.{get_in, last_get}
use Rattle.connect.specs.declared.Link.{Link}
use Rattle.connect.specs.declared.Traces.{Traces}
use Rattle.connect.specs.Joined.{begin_of, end_of, all_blocks, all_traces, Stretch, AllOf}
use Rattle.connect.specs.Links.{link_in, Headed, Unused, BestBy}
use Rattle.connect.specs.Following.{laid_in, laid_of, Places, Begins, Laid, Followed}
use Rattle.connect.proofs.TraceLaws.{ends_low, ends_many, trace_at, part_in}

-- ---- how many blocks the used traces have
module _ (ends : List ℕ) where
  laid_same : (used more : List ℕ) (k n : ℕ) → n ≤ k → ((m : ℕ) → member more m ≡ eqb m k || member used m) → laid_in ends more n ≡ laid_in ends used n
  unfolding laid_in
  laid_same used more k zero h w = refl
  laid_same used more k (suc n) h w =
      let e : member more n ≡ member used n = w n ∙ ap (λ (b : Bool). b || member used n) (ne_eqb n k (λ z. omega (arith, h, z))) in
      rw e (ap (λ (j : ℕ). cond (member used n) (get_or ends n 0 - begin_of ends n) 0 + j) (laid_same used more k n (omega (arith, h)) w))

  -- trace k is used besides
  laid_more : (used more : List ℕ) (k n : ℕ) → k < n → member used k ≡ false → ((m : ℕ) → member more m ≡ eqb m k || member used m) → laid_in ends more n ≡ laid_in ends used n + (get_or ends k 0 - begin_of ends k)
  unfolding laid_in
  laid_more used more k zero h f w = absurd (omega (arith, h))
  laid_more used more k (suc n) h f w =
      split_lt k n
      (λ l.
      let e : member more n ≡ member used n = w n ∙ ap (λ (b : Bool). b || member used n) (ne_eqb n k (λ z. omega (arith, l, z))) in
      rw e (omega (arith, laid_more used more k n l f w)))
      (λ l.
      let z : n ≡ k = omega (arith, h, l) in
      let new : member more n ≡ true = w n ∙ ap (λ (b : Bool). b || member used n) (eq-eqb n k z) in
      let old : member used n ≡ false = ap (member used) z ∙ f in
      rw (new, old) (omega (arith, laid_same used more k n l w, ap (λ (j : ℕ). get_or ends j 0 - begin_of ends j) z)))

  -- no more than all have
  laid_most : (used : List ℕ) (n : ℕ) → ((k : ℕ) → k < n → begin_of ends k < get_or ends k 0) → laid_in ends used n ≤ begin_of ends n
  unfolding laid_in begin_of
  laid_most used zero h = omega arith
  laid_most used (suc n) h = go (member used n) (laid_most used n (λ k l. h k (omega (arith, l))))
    where
      go : (b : Bool) → laid_in ends used n ≤ begin_of ends n → cond b (get_or ends n 0 - begin_of ends n) 0 + laid_in ends used n ≤ get_or ends n 0
      go true i = omega (arith, i, h n (omega arith))
      go false i = omega (arith, i, h n (omega arith))

  pub laid_none : (used : List ℕ) (n : ℕ) → ((m : ℕ) → member used m ≡ false) → laid_in ends used n ≡ 0
  unfolding laid_in
  laid_none used zero h = refl
  laid_none used (suc n) h = rw (h n) (omega (arith, laid_none used n h))

  pub laid_all : (used : List ℕ) (n : ℕ) → ((k : ℕ) → k < n → begin_of ends k < get_or ends k 0) → ((m : ℕ) → m < n → member used m ≡ true) → laid_in ends used n ≡ begin_of ends n
  unfolding laid_in begin_of
  laid_all used zero h a = refl
  laid_all used (suc n) h a =
      rw (a n (omega arith)) (omega (arith, h n (omega arith), laid_all used n (λ k l. h k (omega (arith, l))) (λ m l. a m (omega (arith, l)))))

-- ---- the blocks of one trace more
concat_append : (s t : List (List ℕ)) → concat (s ++ t) ≡ concat s ++ concat t
unfolding concat
concat_append [] t = refl
concat_append (x ∷ s) t = ap (λ (l : List ℕ). x ++ l) (concat_append s t) ∙ sym (append_assoc x (concat s) (concat t))

laid_of_lem : (ts : List (List ℕ)) (l : List ℕ) (k : ℕ) → laid_of ts (k ∷ l) ≡ laid_of ts l ++ get_or ts k []
unfolding laid_of concat
laid_of_lem ts l k =
    ap (λ (r : List ℕ). concat (map (λ (i : ℕ). get_or ts i []) r)) (reverse-cons k l)
    ∙ ap concat (map_append (λ (i : ℕ). get_or ts i []) (reverse l) (k ∷ []))
    ∙ concat_append (map (λ (i : ℕ). get_or ts i []) (reverse l)) (get_or ts k [] ∷ [])
    ∙ ap (λ (r : List ℕ). concat (map (λ (i : ℕ). get_or ts i []) (reverse l)) ++ r) (append-nil (get_or ts k []))

marks_more : (set more l : List ℕ) (k : ℕ) → ((m : ℕ) → member more m ≡ eqb m k || member set m) → Marks set l → Marks more (k ∷ l)
unfolding mem any
marks_more set more l k w h n = w n ∙ ap₂ ◌||◌ (eqb_turn n k) (h n)

-- ---- a step by the rules, taken apart
module _ {g : graph.Graph} {ts : List (List ℕ)} where
  stops_at : {l : List ℕ} {i : ℕ} {v : List ℕ} → Follows g ts l i v → next_trace g ts (i ∷ l) i ≡ None → i ∷ l ≡ v
  stops_at (stops _ _ e) q = refl
  stops_at (goes _ _ x _ e f) q = absurd (let z : ◌≡◌ {A = ℕ} 0 1 = cc in omega arith)

  goes_on : {l : List ℕ} {i : ℕ} {v : List ℕ} → Follows g ts l i v → (k : join.Link) → next_trace g ts (i ∷ l) i ≡ Some k → Follows g ts (i ∷ l) k.index v
  goes_on (stops _ _ e) k q = absurd (let z : ◌≡◌ {A = ℕ} 0 1 = cc in omega arith)
  goes_on (goes l i x v e f) k q = let z : x ≡ k = cc in subst (λ (y : join.Link). Follows g ts (i ∷ l) y.index v) z f

-- ---- trace `at` can be laid
module _ (f : Traces) (sized : length f.order ≡ blocks) (head : List (Option ℕ)) (used : List ℕ) (o : Order) (at : ℕ) (b : Begins f head used o at) where
  pub few : f.len ≤ blocks
  few = omega (arith, ends_many f.ends f.len b.joinable.rising, b.joinable.last)

  -- the traces lie within the order
  pub stretch : (k : ℕ) → k < f.len → Stretch f.ends k
  stretch k h = record {
    one = omega (arith, h, few);
    rises = b.joinable.rising k h;
    within = omega (arith, ends_low f.ends f.len b.joinable.rising k h, b.joinable.last);
  }

  pub headed : Headed f.ends head
  headed n k i = stretch k (b.heads.below n k i)

  module _ (trace : List ℕ) (is : trace ≡ slice (begin_of f.ends at) (end_of f.ends at) f.order) where
    long : length trace ≡ end_of f.ends at - begin_of f.ends at
    long = ap length is ∙ length-slice (begin_of f.ends at) (end_of f.ends at) f.order (omega (arith, (stretch at b.one).within, sized))

    pub some_block : 0 < length trace
    some_block = omega (arith, long, b.joinable.rising at b.one)

    -- its last block
    abbrev last : ℕ
    last = get_or trace (length trace - 1) 0

    last_is : last_or blocks (get_or (all_traces f) at []) ≡ last
    last_is = ap (last_or blocks) (trace_at f.order f.ends f.len at b.one ∙ sym is) ∙ last_get blocks trace some_block

    last_in : In last (all_blocks f)
    last_in =
        part_in last (begin_of f.ends at) (end_of f.ends at) (begin_of f.ends f.len) f.order (ends_low f.ends f.len b.joinable.rising at b.one)
        (subst (In last) is (get_in trace (length trace - 1) (omega (arith, some_block))))

    module _ (used' : List ℕ) (marked : (m : ℕ) → member used' m ≡ eqb m at || member used m) where
      pub fewer_left : blocks - size used' < blocks - size used
      fewer_left = omega (arith, size_more used used' at (omega (arith, b.one, few)) b.free marked, size_room used at (omega (arith, b.one, few)) b.free)

      more_laid : laid_in f.ends used' f.len ≡ o.len + length trace
      more_laid = omega (arith, laid_more f.ends used used' at f.len b.one b.free marked, b.places, long)

      pub room_for : o.len + length trace ≤ blocks
      room_for = omega (arith, more_laid, laid_most f.ends used' f.len b.joinable.rising, b.joinable.last)

      -- what follows it by the tables follows it by the rules
      next_is : {t g : Graph} → Runs t g → AllOf t f → (x : Option Link) → BestBy g f.ends head used' last x → (l : List ℕ) → Marks used l
          → option_map link_in x ≡ next_trace (tabled t) (all_traces f) (at ∷ l) at
      unfolding next_trace
      next_is {t} k all x h l m =
          h t k (all last last_in) (all_traces f) b.heads.starts (at ∷ l) (marks_more used used' l at marked m)
          ∙ ap (λ (n : ℕ). best looser None (links (tabled t) (all_traces f) (at ∷ l) (cold_at (tabled t) n) (graph.block_at (tabled t) n).arms)) (sym last_is)

      -- it is laid
      module _ (o' : Order) (behind : in_order o' ≡ in_order o ++ trace) where
        placed : o'.len ≡ o.len + length trace → Places f used' o'
        placed e = e ∙ sym more_laid

        laid_too : (l : List ℕ) → Laid (all_traces f) used o l → Laid (all_traces f) used' o' (at ∷ l)
        laid_too l k = record {
          used_are = marks_more used used' l at marked k.used_are;
          block_is = behind ∙ ap₂ ◌++◌ k.block_is (is ∙ sym (trace_at f.order f.ends f.len at b.one)) ∙ sym (laid_of_lem (all_traces f) l at);
        }

-- ---- on the way: trace `at` is next, and what the rules lay from it on is what they lay from trace `from` on
pub record Along (g : Graph) (f : Traces) (head : List (Option ℕ)) (used₀ : List ℕ) (o₀ : Order) (from : ℕ) (used : List ℕ) (o : Order) (at : ℕ) : Type 0 where
  pub begins : Begins f head used o at
  pub kept : (m : ℕ) → member used₀ m ≡ true → member used m ≡ true
  pub passed : (member used from ≡ true) ⊎ (at ≡ from)
  pub left : (t : Graph) → Runs t g → AllOf t f → (l v : List ℕ) → Laid (all_traces f) used₀ o₀ l → Follows (tabled t) (all_traces f) l from v →
      (k : List ℕ) × Laid (all_traces f) used o k × Follows (tabled t) (all_traces f) k at v

or_true : (a b : Bool) → b ≡ true → a || b ≡ true
or_true true b e = refl
or_true false b e = e

module _ (g : Graph) (f : Traces) (sized : length f.order ≡ blocks) (head : List (Option ℕ)) (used₀ : List ℕ) (o₀ : Order) (from : ℕ) where
  pub along_start : Begins f head used₀ o₀ from → Along g f head used₀ o₀ from used₀ o₀ from
  along_start b = record { begins = b; kept = λ m e. e; passed = inr refl; left = λ t k all l v h f. (l, h, f) }

  module _ (used : List ℕ) (o : Order) (at : ℕ) (a : Along g f head used₀ o₀ from used o at)
      (trace : List ℕ) (is : trace ≡ slice (begin_of f.ends at) (end_of f.ends at) f.order)
      (used' : List ℕ) (o' : Order) (marked : (m : ℕ) → member used' m ≡ eqb m at || member used m)
      (behind : in_order o' ≡ in_order o ++ trace) (more : o'.len ≡ o.len + length trace)
      (x : Option Link) (h : BestBy g f.ends head used' (get_or trace (length trace - 1) 0) x) where
    keeps : (m : ℕ) → member used₀ m ≡ true → member used' m ≡ true
    keeps m e = marked m ∙ or_true (eqb m at) (member used m) (a.kept m e)

    from_used : member used' from ≡ true
    from_used =
        ⊎_elim (λ e. marked from ∙ or_true (eqb from at) (member used from) e) (λ e. marked from ∙ ap (λ (c : Bool). c || member used from) (eq-eqb from at (sym e))) a.passed

    all_placed : Places f used' o'
    all_placed = placed f sized head used o at a.begins trace is used' marked o' behind more

    step : (t : Graph) → Runs t g → AllOf t f → (l v : List ℕ) → Laid (all_traces f) used₀ o₀ l → Follows (tabled t) (all_traces f) l from v →
        (k : List ℕ) × Laid (all_traces f) used' o' (at ∷ k)
        × (option_map link_in x ≡ next_trace (tabled t) (all_traces f) (at ∷ k) at) × Follows (tabled t) (all_traces f) k at v
    step t k all l v i w =
        let e = a.left t k all l v i w in (
          e.0,
          laid_too f sized head used o at a.begins trace is used' marked o' behind e.0 e.1,
          next_is f sized head used o at a.begins trace is used' marked k all x h e.0 e.1.used_are,
          e.2,
        )

    pub along_stop : x ≡ None → Followed g f used₀ o₀ from used' o'
    along_stop z = record {
      places = all_placed;
      laid = from_used;
      kept = keeps;
      follows = λ t k all l v i w.
          let s = step t k all l v i w in
          subst (Laid (all_traces f) used' o') (stops_at s.3 (sym s.2 ∙ ap (option_map link_in) z)) s.1;
    }

    pub along_next : (k : Link) → x ≡ Some k → Unused head used' (option_map link_in x) → Along g f head used₀ o₀ from used' o' k.index
    unfolding link_in
    along_next k z n =
        let u = subst (λ (y : Option Link). Unused head used' (option_map link_in y)) z n in
        record {
          begins = record {
            joinable = a.begins.joinable;
            heads = a.begins.heads;
            places = all_placed;
            one = a.begins.heads.below u.1.0 k.index u.1.1;
            free = u.0;
          };
          kept = keeps;
          passed = inl from_used;
          left = λ t e all l v i w.
              let s = step t e all l v i w in (at ∷ s.0, s.1, goes_on s.3 (link_in k) (sym s.2 ∙ ap (option_map link_in) z));
        }
