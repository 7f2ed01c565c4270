-- From each unused trace in turn: what is laid before trace `from`, and what the rules lay from there on. Assumes nothing.
use Prim.Native.Nat.{ℕ, ◌+◌, ◌≤◌, ◌<◌}
use native.Mathlib.Numerals.{add-one}
use native.Mathlib.Omega.{arith}
use mathlib.Core.Path.{◌≡◌, refl, sym, ap, ◌∙◌, subst}
use mathlib.Core.Bool.{true, false}
use mathlib.Core.List.{List, [], ◌∷◌}
use Rattle.std.specs.Prelude.{Option}
use lib.Dec.{T, T_not}
use lib.ListN.{get_or, drop, drop_of_length-le}
use lib.Seq.{drop-cons}
use Rattle.lists.proofs.Choices.{split_lt}
use Rattle.rules.specs.Lists.{any, concat, mem}
use Rattle.rules.specs.Graph as graph
use Rattle.rules.proofs.JoinEnd.{Follows, Connects, over, passed, from, join_ends}
use Rattle.records.specs.declared.Graph.{Graph}
use Rattle.records.specs.declared.Order.{Order}
use Rattle.records.specs.Tables.{tabled, in_order}
use Rattle.marks.specs.Sets.{member}
use Rattle.flow.specs.Lent.{Runs}
use Rattle.connect.specs.declared.Traces.{Traces}
use Rattle.connect.specs.Joined.{all_traces, Joinable, AllOf, JoinedBy}
use Rattle.connect.specs.Following.{Heads, laid_of, Places, Begins, Laid, Followed}
use Rattle.connect.proofs.TraceLaws.{traces_many}
use Rattle.connect.proofs.FollowLaws.{laid_none, laid_all}

-- ---- a step by the rules, taken apart
module _ {g : graph.Graph} {ts : List (List ℕ)} where
  over_at : {l : List ℕ} {i : ℕ} {s : List (List ℕ)} {v : List ℕ} → Connects g ts l i s v → s ≡ [] → l ≡ v
  over_at (over _ _) e = refl
  over_at (passed _ _ _ _ _ h c) e = absurd (let z : ◌≡◌ {A = ℕ} 0 1 = cc in omega arith)
  over_at (from _ _ _ _ _ _ h f c) e = absurd (let z : ◌≡◌ {A = ℕ} 0 1 = cc in omega arith)

  used_next : {l : List ℕ} {i : ℕ} {s : List (List ℕ)} {v : List ℕ} → Connects g ts l i s v → (t : List ℕ) (rest : List (List ℕ)) → s ≡ t ∷ rest → mem i l ≡ true → Connects g ts l (i + 1) rest v
  used_next (over _ _) t rest e m = absurd (let z : ◌≡◌ {A = ℕ} 0 1 = cc in omega arith)
  used_next (passed l i _ s v h c) t rest e m = let z : s ≡ rest = cc in subst (λ (r : List (List ℕ)). Connects g ts l (i + 1) r v) z c
  used_next (from l i _ _ _ _ h f c) t rest e m = absurd (T_not (mem i l) h (rw m tt))

  free_next : {l : List ℕ} {i : ℕ} {s : List (List ℕ)} {v : List ℕ} → Connects g ts l i s v → (t : List ℕ) (rest : List (List ℕ)) → s ≡ t ∷ rest → mem i l ≡ false
      → (u : List ℕ) × Follows g ts l i u × Connects g ts u (i + 1) rest v
  free_next (over _ _) t rest e m = absurd (let z : ◌≡◌ {A = ℕ} 0 1 = cc in omega arith)
  free_next (passed l i _ _ _ h c) t rest e m = absurd (subst T m h)
  free_next (from l i _ s u v h f c) t rest e m = let z : s ≡ rest = cc in (u, f, subst (λ (r : List (List ℕ)). Connects g ts u (i + 1) r v) z c)

-- ---- the turn of trace `at`
pub record Turn (g : Graph) (f : Traces) (used : List ℕ) (o : Order) (at : ℕ) : Type 0 where
  pub places : Places f used o
  pub before : (m : ℕ) → m < at → member used m ≡ true
  pub left : (t : Graph) → Runs t g → AllOf t f → (v : List ℕ) → Connects (tabled t) (all_traces f) [] 0 (all_traces f) v →
      (l : List ℕ) × Laid (all_traces f) used o l × Connects (tabled t) (all_traces f) l at (drop at (all_traces f)) v

module _ (g : Graph) (f : Traces) where
  pub turn_first : (used block : List ℕ) → ((m : ℕ) → member used m ≡ false) → Turn g f used (record { block = block; len = 0 }) 0
  unfolding laid_of concat mem any in_order
  turn_first used block n = record {
    places = sym (laid_none f.ends used f.len n);
    before = λ m l. absurd (omega (arith, l));
    left = λ t k all v c. ([], record { used_are = n; block_is = refl }, c);
  }

  module _ (used : List ℕ) (o : Order) (at : ℕ) (l : at < f.len) (s : Turn g f used o at) where
    rest : drop at (all_traces f) ≡ get_or (all_traces f) at [] ∷ drop (at + 1) (all_traces f)
    rest = rw (add-one at) (drop-cons (all_traces f) at [] (omega (arith, l, traces_many f.order f.ends f.len)))

    -- it is used already
    pub turn_used : member used at ≡ true → Turn g f used o (at + 1)
    turn_used e = record {
      places = s.places;
      before = λ m i. split_lt m at (λ j. s.before m j) (λ j. let z : m ≡ at = omega (arith, i, j) in ap (member used) z ∙ e);
      left = λ t k all v c.
          let r = s.left t k all v c in (r.0, r.1, used_next r.2 _ _ rest (sym (r.1.used_are at) ∙ e));
    }

    -- it can be laid
    pub turn_begins : (head : List (Option ℕ)) → Joinable f → Heads f head → member used at ≡ false → Begins f head used o at
    turn_begins head j h e = record { joinable = j; heads = h; places = s.places; one = l; free = e }

    -- it is laid, and what follows it
    pub turn_laid : (used' : List ℕ) (o' : Order) → member used at ≡ false → Followed g f used o at used' o' → Turn g f used' o' (at + 1)
    turn_laid used' o' e w = record {
      places = w.places;
      before = λ m i. split_lt m at (λ j. w.kept m (s.before m j)) (λ j. let z : m ≡ at = omega (arith, i, j) in ap (member used') z ∙ w.laid);
      left = λ t k all v c.
          let q = s.left t k all v c in
          let n = free_next q.2 _ _ rest (sym (q.1.used_are at) ∙ e) in
          (n.0, w.follows t k all q.0 n.0 q.1 n.1, n.2);
    }

  -- none is left
  pub turns_over : (used : List ℕ) (o : Order) (at : ℕ) → Joinable f → f.len ≤ at → Turn g f used o at → JoinedBy g f o
  unfolding laid_of
  turns_over used o at j e s t k all =
      let ts = all_traces f in
      let v = join_ends (tabled t) ts in
      let r = s.left t k all v.0 v.1 in
      let end : drop at ts ≡ [] = drop_of_length-le ts {i = at} (omega (arith, e, traces_many f.order f.ends f.len)) in (
        r.1.block_is ∙ ap (laid_of ts) (over_at r.2 end) ∙ sym v.2,
        s.places ∙ laid_all f.ends used f.len j.rising (λ m l. s.before m (omega (arith, l, e))),
      )
