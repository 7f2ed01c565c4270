-- What the tables tell of the trace is what the rule asks, and what comes of it is the rotated trace. Assumes nothing.
use Prim.Native.Nat.{ℕ, ◌+◌, ◌-◌, ◌≤◌, ◌<◌}
use native.Mathlib.Omega.{arith}
use mathlib.Core.Path.{◌≡◌, refl, sym, ap, ap₂, ◌∙◌, subst, fun_ext}
use mathlib.Core.Bool.{Bool, true, false, not, cond, ◌||◌}
use mathlib.Core.Logic.{inl, inr, ⊎_elim}
use mathlib.Core.List.{List, [], ◌∷◌, ◌++◌, map, append-nil}
use Rattle.std.specs.Prelude.{Option, None, Some}
use Rattle.std.specs.List.{list_any}
use Rattle.std.specs.Option.{option_map, option_eq}
use lib.Dec.{eqb, leb}
use lib.ListN.{length, get_or, take, drop, length-drop, length-map, drop_of_length-le}
use borrow.Rule.Slice.PartMut.{put_mid}
use Rattle.std.proofs.lemmas.List.Edits.{length-between}
use Rattle.limits.specs.Limits.{blocks}
use Rattle.rules.specs.Lists.{keep, any, best, last_or, mem}
use Rattle.rules.specs.Graph as graph
use Rattle.rules.specs.Graph.{Arm, is_walking, names}
use Rattle.rules.specs.Rotate.{back_arm, lead_in, cycle, turns, WayOut, worse, ways_out, turned, rotate}
use Rattle.rules.proofs.Membership.{In, best_in, map-In, append-In}
use Rattle.rules.proofs.Wholeness.{block_in, arm_target}
use Rattle.rules.proofs.RotateLast.{no_exit}
use Rattle.records.specs.declared.Arms.{Arms}
use Rattle.records.specs.declared.Blocks.{Blocks}
use Rattle.records.specs.declared.Graph.{Graph}
use Rattle.records.specs.Tables.{arm_at, leaves, block_at, tabled}
use Rattle.marks.specs.Sets.{member}
use Rattle.flow.specs.Lent.{HasArms, Runs, Flows, Of, Marks, arm_of}
use Rattle.flow.proofs.PartLaws.{In-drop}
use Rattle.flow.proofs.SoundLaws.{block_is, bare, leaves_bare, marks_by, weight_by}
use Rattle.rotate.specs.declared.Out.{Out}
use Rattle.rotate.specs.Turning.{turns_by, way_of, liked, ways_at, ways_from, AllOf, chosen, turned_at, Turns, Rotated}
use Rattle.rotate.proofs.PlaceLaws.{last_of, no_last, last_is, last_in, Found, any_is}

-- ---- a way out is from a block of the part
way_at : (preferred inside : ℕ → Bool) (i : ℕ) (l : List Arm) (w : WayOut) → In w (ways_at preferred inside i l) → w.index ≡ i
unfolding ways_at
way_at preferred inside i l w = go (leb (length l) 2)
  where
    way_by : Arm → WayOut
    way_by a = record { preferred = cond (preferred a.to) 1 0; weight = a.weight; index = i }

    leaving : List Arm
    leaving = keep (λ (a : Arm). not (inside a.to)) l

    go : (b : Bool) → In w (cond b (map way_by leaving) []) → w.index ≡ i
    go false k = absurd k
    go true k = ap (λ (x : WayOut). x.index) (map-In way_by leaving w k).2

way_from : (a : Arms) (preferred inside : ℕ → Bool) (i : ℕ) (l : List ℕ) (w : WayOut) → In w (ways_from a preferred inside i l) → w.index < i + length l
unfolding ways_from
way_from a preferred inside i [] w k = absurd k
way_from a preferred inside i (n ∷ l) w k =
    ⊎_elim (λ j. omega (arith, way_at preferred inside i (leaves a n) w j)) (λ j. omega (arith, way_from a preferred inside (i + 1) l w j))
    (append-In w (ways_at preferred inside i (leaves a n)) (ways_from a preferred inside (i + 1) l) k)

-- so the part has room for the turn
pub turn_fits : (a : Arms) (preferred inside : ℕ → Bool) (part : List ℕ) (o : Out) → option_map way_of (Some o) ≡ best worse None (ways_from a preferred inside 0 part) → o.index + 1 ≤ length part
unfolding way_of
turn_fits a preferred inside part o h =
    ⊎_elim (λ z. absurd (let y : ◌≡◌ {A = ℕ} 0 1 = cc in omega arith)) (λ j. omega (arith, way_from a preferred inside 0 part (way_of o) j))
    (best_in worse None (ways_from a preferred inside 0 part) (way_of o) (sym h))

-- ---- tests
any_same : (p q : ℕ → Bool) (l : List ℕ) → ((n : ℕ) → In n l → p n ≡ q n) → any p l ≡ any q l
unfolding any
any_same p q [] h = refl
any_same p q (x ∷ l) h = ap₂ (λ (a b : Bool). a || b) (h x (inl refl)) (any_same p q l (λ n i. h n (inr i)))

names_is : (e : Option ℕ) (x : ℕ) → names e x ≡ option_eq eqb e (Some x)
unfolding names
names_is None x = refl
names_is (Some m) x = refl

-- ---- the rule, by the arm that goes back
module _ (g : graph.Graph) (laid begun trace : List ℕ) where
  abbrev by_turn : Arm → Bool → List ℕ
  by_turn a b = elim b as (λ (x : Bool). List ℕ) [ false ↦ trace | true ↦ lead_in a.to trace ++ turned g (chosen laid begun) (cycle a.to trace) ]

  abbrev by_arm : ℕ → Option Arm → List ℕ
  by_arm last x = elim x as (λ (y : Option Arm). List ℕ) [ None ↦ trace | Some a ↦ by_turn a (turns g last a trace) ]

  rule : (last : ℕ) → last_of trace ≡ Some last → rotate g laid begun trace ≡ by_arm last (back_arm (graph.block_at g last))
  unfolding rotate
  rule last e = ap (λ (n : ℕ). by_arm n (back_arm (graph.block_at g n))) (last_is trace last e blocks)

rotate_nil : (g : graph.Graph) (laid begun : List ℕ) → rotate g laid begun [] ≡ []
unfolding rotate turns mem any last_or
rotate_nil g laid begun = go (back_arm (graph.block_at g blocks))
  where
    go : (x : Option Arm) → by_arm g laid begun [] blocks x ≡ []
    go None = refl
    go (Some a) = refl

-- ---- the arm that goes back, whatever it carries
best_bare : (o : Option Arm) (l : List Arm) → option_map bare (best (λ (x y : Arm). leb x.weight y.weight) o l) ≡ best (λ (x y : Arm). leb x.weight y.weight) (option_map bare o) (map bare l)
unfolding best
best_bare o [] = refl
best_bare None (a ∷ l) = best_bare (Some a) l
best_bare (Some b) (a ∷ l) = go (leb b.weight a.weight) (λ o. best_bare o l)
  where
    go : (t : Bool) → ((o : Option Arm) → option_map bare (best (λ (x y : Arm). leb x.weight y.weight) o l) ≡ best (λ (x y : Arm). leb x.weight y.weight) (option_map bare o) (map bare l))
        → option_map bare (best (λ (x y : Arm). leb x.weight y.weight) (elim t [ true ↦ Some a | false ↦ Some b ]) l)
        ≡ best (λ (x y : Arm). leb x.weight y.weight) (elim t [ true ↦ Some (bare a) | false ↦ Some (bare b) ]) (map bare l)
    go true ih = ih (Some a)
    go false ih = ih (Some b)

back_bare : {t : Graph} {a : Arms} → HasArms t a → (b c : Blocks) (n : ℕ) → option_map bare (back_arm (block_at b t.a n)) ≡ option_map bare (back_arm (block_at c a n))
unfolding back_arm block_at
back_bare {t} {a} h b c n =
    best_bare None (leaves t.a n) ∙ ap (best (λ (x y : Arm). leb x.weight y.weight) None) (leaves_bare h n) ∙ sym (best_bare None (leaves a n))

bare_none : (o : Option Arm) → option_map bare o ≡ None → o ≡ None
bare_none None e = refl
bare_none (Some x) e = absurd (let z : ◌≡◌ {A = ℕ} 0 1 = cc in omega arith)

bare_some : (o : Option Arm) (a : Arm) → option_map bare o ≡ Some (bare a) → (x : Arm) × (o ≡ Some x) × (x.to ≡ a.to) × (x.weight ≡ a.weight)
bare_some None a e = absurd (let z : ◌≡◌ {A = ℕ} 0 1 = cc in omega arith)
bare_some (Some x) a e = let z : bare x ≡ bare a = cc in (x, refl, ap (λ (y : Arm). y.to) z, ap (λ (y : Arm). y.weight) z)

-- ---- where the part starts that turns
pub turns_empty : (g : Graph) (entry : Option ℕ) (trace : List ℕ) → last_of trace ≡ None → Turns g entry trace None
unfolding turned_at
turns_empty g entry trace e = let z = no_last trace e in record { within = tt; parted = λ t f n all laid begun. rw z (rotate_nil (tabled t) laid begun) }

module _ (g : Graph) (entry : Option ℕ) (trace : List ℕ) (last : ℕ) (l : last_of trace ≡ Some last) where
  back_alike : {t : Graph} → Runs t g → AllOf t trace → option_map bare (back_arm (graph.block_at (tabled t) last)) ≡ option_map bare (back_arm (block_at g.b g.a last))
  back_alike {t} r all = ap (λ (b : graph.Block). option_map bare (back_arm b)) (block_is r.sound last (all last (last_in trace last l))) ∙ back_bare r.arms t.b g.b last

  pub turns_nowhere : arm_of g.a None ≡ back_arm (block_at g.b g.a last) → Turns g entry trace None
  unfolding turned_at arm_of
  turns_nowhere h =
      record {
        within = tt;
        parted = λ t f n all laid begun.
            rule (tabled t) laid begun trace last l
            ∙ ap (by_arm (tabled t) laid begun trace last) (bare_none (back_arm (graph.block_at (tabled t) last)) (back_alike f.runs all ∙ ap (option_map bare) (sym h)));
      }

  module _ (q : ℕ) (h : arm_of g.a (Some q) ≡ back_arm (block_at g.b g.a last)) where
    abbrev x : ℕ
    x = get_or g.a.to q 0

    -- in a graph that has the tables it may carry something else
    back : {t : Graph} → Runs t g → AllOf t trace → (a : Arm) × (back_arm (graph.block_at (tabled t) last) ≡ Some a) × (a.to ≡ x) × (a.weight ≡ get_or g.a.weight q 0)
    unfolding arm_of arm_at
    back {t} r all = bare_some (back_arm (graph.block_at (tabled t) last)) (arm_at g.a q) (back_alike r all ∙ ap (option_map bare) (sym h))

    module _ {t : Graph} (f : Flows t g) (n : entry ≡ graph.entry (tabled t)) (all : AllOf t trace) (a : Arm) (goes : back_arm (graph.block_at (tabled t) last) ≡ Some a)
        (to : a.to ≡ x) (heavy : a.weight ≡ get_or g.a.weight q 0) where
      last_block : Of t last
      last_block = all last (last_in trace last l)

      -- it goes to a block
      x_block : Of t x
      unfolding back_arm
      x_block =
          let b = graph.block_at (tabled t) last in
          subst (Of t) to
          (⊎_elim (λ z. absurd (let y : ◌≡◌ {A = ℕ} 0 1 = cc in omega arith)) (λ j. f.runs.sound.whole b (block_in (tabled t) last last_block).0 a.to (arm_target b a j))
          (best_in (λ (x y : Arm). leb x.weight y.weight) None b.arms a goes))

      by_rule : (b : Bool) → turns (tabled t) last a trace ≡ b → (laid begun : List ℕ) → rotate (tabled t) laid begun trace ≡ by_turn (tabled t) laid begun trace a b
      by_rule b e laid begun = rule (tabled t) laid begun trace last l ∙ ap (by_arm (tabled t) laid begun trace last) goes ∙ ap (by_turn (tabled t) laid begun trace a) e

      tested : (p : ℕ) → Found x trace p → turns (tabled t) last a trace ≡ turns_by g.b entry (get_or g.a.weight q 0) x last (drop p trace)
      unfolding turns turns_by
      tested p d =
          let w : any (λ (n : ℕ). is_walking (graph.block_at (tabled t) n).marks) (cycle x trace) ≡ list_any (λ (n : ℕ). is_walking (get_or g.b.marks n 0)) (drop p trace) =
          ap (any (λ (n : ℕ). is_walking (graph.block_at (tabled t) n).marks)) d.from
          ∙ any_same _ _ (drop p trace) (λ n i. ap is_walking (marks_by f.runs n (all n (In-drop n p trace i))))
          ∙ any_is (λ (n : ℕ). is_walking (get_or g.b.marks n 0)) (drop p trace) in
          let e : names (graph.entry (tabled t)) x ≡ option_eq eqb entry (Some x) = ap (λ (o : Option ℕ). names o x) (sym n) ∙ names_is entry x in
          rw (to, heavy, d.has, e, weight_by f x x_block, w) refl

    pub turns_missing : mem x trace ≡ false → Turns g entry trace None
    unfolding turned_at turns
    turns_missing m = record {
      within = tt;
      parted = λ t f n all laid begun.
          let a = back f.runs all in by_rule f n all a.0 a.1 a.2 a.3 false (rw (a.2, m) refl) laid begun;
    }

    module _ (p : ℕ) (d : Found x trace p) (part : List ℕ) (is : part ≡ drop p trace) (b : Bool) (j : b ≡ turns_by g.b entry (get_or g.a.weight q 0) x last part) where
      judged : {t : Graph} (f : Flows t g) → entry ≡ graph.entry (tabled t) → (all : AllOf t trace) → turns (tabled t) last (back f.runs all).0 trace ≡ b
      judged f n all =
          let a = back f.runs all in tested f n all a.0 a.1 a.2 a.3 p d ∙ sym (j ∙ ap (turns_by g.b entry (get_or g.a.weight q 0) x last) is)

      pub turns_from : b ≡ true → Turns g entry trace (Some p)
      unfolding turned_at
      turns_from y =
          record {
            within = d.inside;
            parted = λ t f n all laid begun.
                let a = back f.runs all in
                by_rule f n all a.0 a.1 a.2 a.3 true (judged f n all ∙ y) laid begun
                ∙ ap₂ (λ (u v : List ℕ). u ++ turned (tabled t) (chosen laid begun) v) (ap (λ (i : ℕ). lead_in i trace) a.2 ∙ d.before) (ap (λ (i : ℕ). cycle i trace) a.2 ∙ d.from);
          }

      pub turns_not : b ≡ false → Turns g entry trace None
      unfolding turned_at
      turns_not y = record {
        within = tt;
        parted = λ t f n all laid begun.
            let a = back f.runs all in by_rule f n all a.0 a.1 a.2 a.3 false (judged f n all ∙ y) laid begun;
      }

-- ---- the ways out of a graph
ways_bare : (preferred inside : ℕ → Bool) (i : ℕ) (l : List Arm) → ways_at preferred inside i (map bare l) ≡ ways_at preferred inside i l
unfolding ways_at keep
ways_bare preferred inside i l = ap₂ (λ (n : ℕ) (k : List WayOut). cond (leb n 2) k []) (length-map l bare) (kept l)
  where
    way_by : Arm → WayOut
    way_by a = record { preferred = cond (preferred a.to) 1 0; weight = a.weight; index = i }

    outside : Arm → Bool
    outside a = not (inside a.to)

    kept : (l : List Arm) → map way_by (keep outside (map bare l)) ≡ map way_by (keep outside l)
    kept [] = refl
    kept (a ∷ l) = go (outside a) (kept l)
      where
        go : (b : Bool) → map way_by (keep outside (map bare l)) ≡ map way_by (keep outside l)
            → map way_by (cond b (bare a ∷ keep outside (map bare l)) (keep outside (map bare l))) ≡ map way_by (cond b (a ∷ keep outside l) (keep outside l))
        go true ih = ap (λ (k : List WayOut). way_by a ∷ k) ih
        go false ih = ih

module _ {t g : Graph} (r : Runs t g) where
  ways_are : (preferred : ℕ → Bool) (part : List ℕ) (i : ℕ) (k : List ℕ) → AllOf t k → ways_from g.a preferred (λ (m : ℕ). mem m part) i k ≡ ways_out (tabled t) preferred part i k
  unfolding ways_from ways_out block_at
  ways_are preferred part i [] all = refl
  ways_are preferred part i (n ∷ k) all =
      ap₂ (λ (x y : List WayOut). x ++ y) (here ∙ ap (λ (b : graph.Block). ways_at preferred (λ (m : ℕ). mem m part) i b.arms) (sym (block_is r.sound n (all n (inl refl)))))
      (ways_are preferred part (i + 1) k (λ m j. all m (inr j)))
    where
      here : ways_at preferred (λ (m : ℕ). mem m part) i (leaves g.a n) ≡ ways_at preferred (λ (m : ℕ). mem m part) i (leaves t.a n)
      here =
          sym (ways_bare preferred (λ (m : ℕ). mem m part) i (leaves g.a n)) ∙ ap (ways_at preferred (λ (m : ℕ). mem m part) i) (sym (leaves_bare r.arms n))
          ∙ ways_bare preferred (λ (m : ℕ). mem m part) i (leaves t.a n)

  outs_are : (seen starts inside laid begun part : List ℕ) → Marks seen laid → Marks starts begun → Marks inside part → AllOf t part
      → ways_from g.a (liked seen starts) (member inside) 0 part ≡ ways_out (tabled t) (chosen laid begun) part 0 part
  outs_are seen starts inside laid begun part ms mb mi all =
      let q : liked seen starts ≡ chosen laid begun = fun_ext (λ n. ap₂ (λ (x y : Bool). not x || y) (ms n) (mb n)) in
      ap₂ (λ (x y : ℕ → Bool). ways_from g.a x y 0 part) q (fun_ext mi) ∙ ways_are (chosen laid begun) part 0 part all

-- ---- the rotated trace
module _ (g : Graph) (seen starts : List ℕ) (entry : Option ℕ) (trace : List ℕ) where
  pub rotated_none : Turns g entry trace None → Rotated g seen starts entry trace trace
  unfolding turned_at
  rotated_none w t f n all laid begun ms mb = sym (w.parted t f n all laid begun)

  module _ (p : ℕ) (w : Turns g entry trace (Some p)) (part : List ℕ) (is : part ≡ drop p trace) (inside : List ℕ) (mi : Marks inside part) (r : Option Out)
      (h : option_map way_of r ≡ best worse None (ways_from g.a (liked seen starts) (member inside) 0 part)) where
    module _ {t : Graph} (f : Flows t g) (n : entry ≡ graph.entry (tabled t)) (all : AllOf t trace) (laid begun : List ℕ) (ms : Marks seen laid) (mb : Marks starts begun) where
      best_out : best worse None (ways_out (tabled t) (chosen laid begun) part 0 part) ≡ option_map way_of r
      best_out = sym (h ∙ ap (best worse None) (outs_are f.runs seen starts inside laid begun part ms mb mi (λ m i. all m (In-drop m p trace (subst (In m) is i)))))

      -- the trace, by what the part becomes
      by_part : (l : List ℕ) → turned (tabled t) (chosen laid begun) part ≡ l → rotate (tabled t) laid begun trace ≡ take p trace ++ l
      unfolding turned_at
      by_part l e = w.parted t f n all laid begun ∙ ap (λ (k : List ℕ). take p trace ++ turned (tabled t) (chosen laid begun) k) (sym is) ∙ ap (λ (k : List ℕ). take p trace ++ k) e

    pub put_part : (l : List ℕ) → put_mid p (length trace - p) trace l ≡ take p trace ++ l
    put_part l = ap (λ (k : List ℕ). take p trace ++ (l ++ k)) (drop_of_length-le (drop p trace) {i = length trace - p} (omega (arith, length-drop p trace))) ∙ ap (λ (k : List ℕ). take p trace ++ k) (append-nil l)

    pub rotated_stuck : r ≡ None → Rotated g seen starts entry trace (put_mid p (length trace - p) trace part)
    rotated_stuck q t f n all laid begun ms mb =
        put_part part ∙ sym (by_part f n all laid begun ms mb part (no_exit (tabled t) (chosen laid begun) part (best_out f n all laid begun ms mb ∙ ap (option_map way_of) q)))

    pub rotated_so : (o : Out) → r ≡ Some o → (l : List ℕ) → l ≡ drop (o.index + 1) part ++ take (o.index + 1) part → Rotated g seen starts entry trace (put_mid p (length trace - p) trace l)
    unfolding turned way_of
    rotated_so o q l e t f n all laid begun ms mb = put_part l ∙ sym (by_part f n all laid begun ms mb l (ap by (best_out f n all laid begun ms mb ∙ ap (option_map way_of) q) ∙ sym e))
      where
        by : Option WayOut → List ℕ
        by v = elim v as (λ (u : Option WayOut). List ℕ) [ None ↦ part | Some w ↦ drop (w.index + 1) part ++ take (w.index + 1) part ]

pub ruleset turn_steps = (turn_fits, length-between)
