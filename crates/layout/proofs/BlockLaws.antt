-- The passes, one after the other: each is given what the one before made. Assumes nothing.
use Prim.Native.Nat.{ℕ, suc, ◌+◌, ◌-◌, ◌≤◌, ◌<◌}
use native.Mathlib.Omega.{arith}
use mathlib.Core.Path.{◌≡◌, refl, sym, ap, ap₂, ◌∙◌, subst}
use mathlib.Core.Bool.{Bool, true, false}
use Rattle.std.specs.Prelude.{Option, Some, None, unwrap_or}
use mathlib.Core.List.{List, [], ◌∷◌, ◌++◌, map}
use lib.Dec.{T}
use lib.ListN.{length, get_or, take, length-append, length-take, length-map}
use lib.Seq.{take_at, drop_at, get_or-take}
use Rattle.limits.specs.Limits as most
use Rattle.lists.proofs.Choices.{split_bool}
use Rattle.rules.specs.declared.Leaving.{Leaving}
use Rattle.rules.specs.Lists.{any, pick}
use Rattle.rules.specs.Graph as graph
use Rattle.rules.specs.Graph.{numbers_of, cold_at, is_cold}
use Rattle.rules.specs.Within.{arm_total}
use Rattle.rules.specs.Spread.{warm_entry, spread}
use Rattle.rules.specs.Split.{splits, warm_part, cold_part, partition}
use Rattle.rules.specs.Laid.{ordered, readied}
use Rattle.rules.specs.Exits.{Place, edges, laid_block, bridge_of, new_after, next_in, lay_part, bridges, warm_places, lay, split_place, laid_graph}
use Rattle.rules.proofs.Membership.{In, In-map, and_r, any→, →keep, map_append}
use Rattle.rules.proofs.Counting.{count, Once, In→count, count→In}
use Rattle.rules.proofs.Wholeness.{Whole, block_in}
use Rattle.rules.proofs.Forwarded.{spread_whole}
use Rattle.rules.proofs.Bounds.{readied_total}
use Rattle.records.specs.declared.Blocks.{Blocks}
use Rattle.records.specs.declared.Graph.{Graph}
use Rattle.records.specs.declared.Order.{Order}
use Rattle.records.specs.Tables.{tabled, Back, Carries, Stands, Sound, Carried, in_order}
use Rattle.records.proofs.StandLaws.{once_apart, in_listed, in_tables, find_in, numbers_are, carries_of, sound_carried, carried_sound}
use Rattle.cold.specs.declared.Parts.{Parts}
use Rattle.cold.specs.Sides.{Divides, Parted}
use Rattle.cold.specs.Spreading.{SpreadTo, SpreadFrom}
use Rattle.cold.proofs.SpreadLaws.{spread_from}
use Rattle.exits.specs.declared.Laid.{Laid}
use Rattle.exits.specs.Lays.{lay_at, arms_to, split_number, Fits, Suits, Over, Layable, LaidOf, Lays}
use Rattle.exits.proofs.Finished.{suits_fits}
use Rattle.exits.proofs.Turns.{order_length, order_get}
use Rattle.layout.specs.Blocks.{split_at, Ready, Arrangeable, PlacedOf}
use Rattle.layout.proofs.OrderLaws.{ordered_once, get_in, once_places, partition_count, order_total}

-- tables stand for their own graph
pub stands_own : {n m : ℕ} {t : Graph} {g : graph.Graph} → Stands n m t g → Stands n m t (tabled t)
stands_own s =
    record {
      graph_is = refl;
      few = s.few;
      below = s.below;
      back = s.back;
      fits = s.fits;
      blocks_sized = s.blocks_sized;
      arms_sized = s.arms_sized;
    }

-- and tables that carry a graph carry their own
pub carries_own : {n m : ℕ} {t : Graph} {g : graph.Graph} → Carries n m t g → Carries n m t (tabled t)
carries_own c =
    record {
      graph_is = refl;
      few = c.few;
      below = c.below;
      once = c.once;
      fits = c.fits;
      blocks_sized = c.blocks_sized;
      arms_sized = c.arms_sized;
    }

-- a graph has its own tables, so its order can be laid by them, and is
module _ {g : Graph} {o : Order} {split : Option ℕ} (y : Suits g o split) where
  over_own : Over g g
  over_own = record { marks_is = refl; ends_is = refl; weight_is = refl; arms_are = refl }

  pub layable_own : Layable g o split
  layable_own = record { tables = g; over = over_own; fits = y }

  pub laid_own : {l : Laid} → Lays g o split l → LaidOf (tabled g) (in_order o) split l
  laid_own h = h g over_own y

-- ---- the parts
module _ (g : graph.Graph) (o : List ℕ) where
  lay_split : splits g ≡ true → lay g o ≡ lay_part g false most.numbers (warm_part g o) ++ lay_part g true (most.numbers + bridges (lay_part g false most.numbers (warm_part g o))) (cold_part g o)
  unfolding lay warm_places
  lay_split e = rw (e, lay)

module _ (g : graph.Graph) (o parts : List ℕ) where
  lay_warm : splits g ≡ true → parts ≡ warm_part g o ++ cold_part g o → lay_at g parts (Some (length (warm_part g o))) ≡ lay g o
  unfolding lay_at lay warm_places
  lay_warm e q =
      let at = length (warm_part g o) in
      rw (e, lay, q, take_at (warm_part g o) (cold_part g o) at refl, drop_at (warm_part g o) (cold_part g o) at refl)

  lay_plain : splits g ≡ false → parts ≡ o → lay_at g parts None ≡ lay g o
  unfolding lay_at lay
  lay_plain e q = rw (e, lay, q)

laid_append : (a b : List Place) → numbers_of (laid_graph (a ++ b)) ≡ numbers_of (laid_graph a) ++ numbers_of (laid_graph b)
unfolding numbers_of laid_graph
laid_append a b =
    ap (map (λ (x : graph.Block). x.number)) (map_append (λ (x : Place). x.block) a b)
    ∙ map_append (λ (x : graph.Block). x.number) (map (λ (x : Place). x.block) a) (map (λ (x : Place). x.block) b)

numbers_long : (a : List Place) → length (numbers_of (laid_graph a)) ≡ length a
unfolding numbers_of laid_graph
numbers_long a = length-map (map (λ (x : Place). x.block) a) (λ (x : graph.Block). x.number) ∙ length-map a (λ (x : Place). x.block)

get_at : (a r : List ℕ) (x : ℕ) → get_or (a ++ (x ∷ r)) (length a) 0 ≡ x
get_at [] r x = refl
get_at (y ∷ a) r x = get_at a r x

-- a member of a list that has one
some_of : (l : List ℕ) (x : ℕ) → In x l → (n : ℕ) × (r : List ℕ) × (l ≡ n ∷ r)
some_of [] x i = absurd i
some_of (n ∷ r) x i = (n, r, refl)

-- what a part that begins with block n is laid as begins with block n
part_first : (g : graph.Graph) (cold : Bool) (new n : ℕ) (r : List ℕ) → (graph.block_at g n).number ≡ n →
    (k : List ℕ) × (numbers_of (laid_graph (lay_part g cold new (n ∷ r))) ≡ n ∷ k)
unfolding lay_part numbers_of laid_graph laid_block graph.with_arms
part_first g cold new n r e = (
  _,
  ap (λ (m : ℕ). m ∷ map (λ (b : graph.Block). b.number) (map (λ (q : Place). q.block) (bridge_of new cold (graph.block_at g n) (v g n r) ++ lay_part g cold (new_after new (v g n r)) r))) e,
)
  where
    v : graph.Graph → ℕ → List ℕ → Leaving
    v g n r = edges (next_in r) (graph.block_at g n).end (graph.block_at g n).arms

module _ (t s : Graph) (stands : Carries most.numbers most.most_arms s (spread (tabled t))) (w : Whole (tabled t)) (total : arm_total (tabled t) ≤ most.most_arms) where
  pub whole : Whole (tabled s)
  whole = subst Whole (sym stands.graph_is) (spread_whole (tabled t) w)

  once : Once (numbers_of (tabled s))
  unfolding tabled
  once = once_apart s.b s.a s.blocks stands.once

  low : (n : ℕ) → In n (numbers_of (tabled s)) → n < most.numbers
  unfolding tabled
  low n i = let r = in_listed s.b s.a n s.blocks i in subst (λ (m : ℕ). m < most.numbers) r.2 (stands.below r.0 r.1)

  spread_total : arm_total (tabled s) ≤ most.most_arms
  unfolding readied
  spread_total = omega (arith, ap arm_total stands.graph_is, readied_total false (tabled t), total)

  module _ (reorder : Bool) (o : Order) (oe : in_order o ≡ ordered reorder (tabled s)) (ol : o.len ≡ s.blocks) where
    order_count : (m : ℕ) → count m (in_order o) ≡ count m (numbers_of (tabled s))
    order_count m = ap (count m) oe ∙ ordered_once reorder (tabled s) whole once m

    pub order_in : (n : ℕ) → In n (in_order o) → In n (numbers_of (tabled s))
    order_in n i = count→In n (numbers_of (tabled s)) (omega (arith, order_count n, In→count n (in_order o) i))

    module _ (p : Order) (cut : Option ℕ) (pe : in_order p ≡ partition (tabled s) (in_order o)) (pl : p.len ≡ o.len)
        (ce : cut ≡ pick (splits (tabled s)) (Some (length (warm_part (tabled s) (in_order o)))) None) (sized : length p.block ≡ most.blocks) where
      -- how many are warm
      abbrev at : ℕ
      at = length (warm_part (tabled s) (in_order o))

      parts_count : (m : ℕ) → count m (in_order p) ≡ count m (numbers_of (tabled s))
      parts_count m = ap (count m) pe ∙ partition_count (tabled s) (in_order o) m ∙ order_count m

      parts_in : (n : ℕ) → In n (in_order p) → In n (numbers_of (tabled s))
      parts_in n i = count→In n (numbers_of (tabled s)) (omega (arith, parts_count n, In→count n (in_order p) i))

      few : p.len ≤ most.numbers
      few = omega (arith, pl, ol, stands.few)

      long : length (in_order p) ≡ p.len
      long = order_length p sized (omega (arith, few))

      -- where there is a split, its place is the number of the warm
      warm : splits (tabled s) ≡ true → cut ≡ Some at
      unfolding pick
      warm e = ce ∙ ap (λ (b : Bool). pick b (Some at) None) e

      none : splits (tabled s) ≡ false → cut ≡ None
      unfolding pick
      none e = ce ∙ ap (λ (b : Bool). pick b (Some at) None) e

      parted : splits (tabled s) ≡ true → in_order p ≡ warm_part (tabled s) (in_order o) ++ cold_part (tabled s) (in_order o)
      unfolding partition
      parted e = pe ∙ rw (e, partition)

      whole_order : splits (tabled s) ≡ false → in_order p ≡ in_order o
      unfolding partition
      whole_order e = pe ∙ rw (e, partition)

      warm_few : splits (tabled s) ≡ true → at ≤ p.len
      warm_few e = omega (arith, long, ap length (parted e), length-append (warm_part (tabled s) (in_order o)) (cold_part (tabled s) (in_order o)))

      inside : (i : ℕ) → cut ≡ Some i → i ≤ p.len
      inside i h =
          split_bool (splits (tabled s))
          (λ e. let q : Some at ≡ Some i = sym (warm e) ∙ h in omega (arith, warm_few e, ap (λ (x : Option ℕ). unwrap_or x 0) q))
          (λ e. absurd (let q : ◌≡◌ {A = Option ℕ} None (Some i) = sym (none e) ∙ h in cc))

      all_arms : arms_to s.a.count (in_order p) (length (in_order p)) ≡ arm_total (tabled s)
      unfolding tabled
      all_arms = order_total s.b s.a s.blocks (in_order p) parts_count

      pub carried_layable : Suits s p cut
      carried_layable = record {
        stands = carries_own stands;
        few = few;
        orderly = record {
          few = omega (arith, long, few);
          low = λ i h. low _ (parts_in _ (get_in (in_order p) i h));
          once = once_places (in_order p) (λ n. omega (arith, parts_count n, once n));
          total = omega (arith, all_arms, spread_total);
        };
        listed = λ i h. subst (λ (m : ℕ). In m (numbers_of (tabled s))) (order_get p i h) (parts_in _ (get_in (in_order p) i (omega (arith, h, long))));
        inside = inside;
      }

      -- ---- laid
      module _ (l : Laid) (h : LaidOf (tabled s) (in_order p) cut l) where
        abbrev b : Blocks
        b = l.graph.b

        lay_is : lay_at (tabled s) (in_order p) cut ≡ lay (tabled s) (in_order o)
        lay_is =
            split_bool (splits (tabled s))
            (λ e. ap (lay_at (tabled s) (in_order p)) (warm e) ∙ lay_warm (tabled s) (in_order o) (in_order p) e (parted e))
            (λ e. ap (lay_at (tabled s) (in_order p)) (none e) ∙ lay_plain (tabled s) (in_order o) (in_order p) e (whole_order e))

        -- some block is cold, and in the order
        module _ (e : splits (tabled s) ≡ true) where
          some_cold : (n : ℕ) × (r : List ℕ) × (cold_part (tabled s) (in_order o) ≡ n ∷ r)
          unfolding splits cold_part cold_at tabled numbers_of
          some_cold =
              let y = any→ (λ (b : graph.Block). is_cold b.marks) (tabled s) (and_r (warm_entry (tabled s)) (any (λ (b : graph.Block). is_cold b.marks) (tabled s)) (subst T (sym e) tt)) in
              let i : In y.0.number (numbers_of (tabled s)) = In-map (λ (b : graph.Block). b.number) (tabled s) y.0 y.1 in
              let f : graph.block_at (tabled s) y.0.number ≡ y.0 = find_in s.b s.a s.blocks y.0.number i ∙ sym (in_tables s.b s.a s.blocks y.0 y.1) in
              some_of (cold_part (tabled s) (in_order o)) y.0.number
              (→keep (cold_at (tabled s)) (in_order o) y.0.number (count→In y.0.number (in_order o) (omega (arith, order_count y.0.number, In→count y.0.number (numbers_of (tabled s)) i)))
              (subst (λ (b : graph.Block). T (is_cold b.marks)) (sym f) y.2))

          whole_parts : in_order p ≡ warm_part (tabled s) (in_order o) ++ (some_cold.0 ∷ some_cold.1)
          whole_parts = parted e ∙ ap (λ (k : List ℕ). warm_part (tabled s) (in_order o) ++ k) some_cold.2

          within : at < p.len
          within = omega (arith, long, ap length whole_parts, length-append (warm_part (tabled s) (in_order o)) (some_cold.0 ∷ some_cold.1))

          first_is : get_or p.block at 0 ≡ some_cold.0
          first_is = sym (order_get p at within) ∙ ap₂ (λ (k : List ℕ) (i : ℕ). get_or k i 0) whole_parts refl ∙ get_at (warm_part (tabled s) (in_order o)) some_cold.1 some_cold.0

          first_in : In some_cold.0 (numbers_of (tabled s))
          first_in = subst (λ (m : ℕ). In m (numbers_of (tabled s))) (order_get p at within ∙ first_is) (parts_in _ (get_in (in_order p) at (omega (arith, within, long))))

          front : List Place
          front = lay_part (tabled s) false most.numbers (warm_part (tabled s) (in_order o))

          -- the numbers of the places: those of the front, and then the first cold block
          laid_numbers : (k : List ℕ) × (numbers_of (tabled l.graph) ≡ numbers_of (laid_graph front) ++ (some_cold.0 ∷ k))
          unfolding front
          laid_numbers =
              let q = part_first (tabled s) true (most.numbers + bridges front) some_cold.0 some_cold.1 (block_in (tabled s) some_cold.0 first_in).1 in (
                q.0,
                ap numbers_of (h.stands.graph_is ∙ ap laid_graph (lay_is ∙ lay_split (tabled s) (in_order o) e))
                    ∙ laid_append front (lay_part (tabled s) true (most.numbers + bridges front) (cold_part (tabled s) (in_order o)))
                    ∙ ap (λ (k : List ℕ). numbers_of (laid_graph front) ++ k) (ap (λ (k : List ℕ). numbers_of (laid_graph (lay_part (tabled s) true (most.numbers + bridges front) k))) some_cold.2 ∙ q.1),
              )

          front_long : length (numbers_of (laid_graph front)) ≡ length front
          front_long = numbers_long front

          listed_is : take l.graph.blocks b.listed ≡ numbers_of (laid_graph front) ++ (some_cold.0 ∷ laid_numbers.0)
          unfolding tabled
          listed_is = sym (numbers_are b l.graph.a l.graph.blocks (omega (arith, h.stands.few, h.stands.blocks_sized.listed))) ∙ laid_numbers.1

          in_front : length front < l.graph.blocks
          in_front = omega (arith, front_long, ap length listed_is, length-append (numbers_of (laid_graph front)) (some_cold.0 ∷ laid_numbers.0), length-take l.graph.blocks b.listed)

          at_front : get_or b.listed (length front) 0 ≡ some_cold.0
          at_front =
              sym (get_or-take l.graph.blocks b.listed (length front) 0 in_front)
              ∙ ap₂ (λ (k : List ℕ) (i : ℕ). get_or k i 0) listed_is (sym front_long) ∙ get_at (numbers_of (laid_graph front)) laid_numbers.0 some_cold.0

          placed : get_or b.place (get_or p.block at 0) 0 ≡ suc (length front)
          placed = ap (λ (m : ℕ). get_or b.place m 0) (first_is ∙ sym at_front) ∙ h.stands.back (length front) in_front

        pub split_found : (i : ℕ) → cut ≡ Some i → (i < most.blocks) × (0 < get_or b.place (get_or p.block i 0) 0)
        split_found i k =
            split_bool (splits (tabled s))
            (λ e.
            let q : Some at ≡ Some i = sym (warm e) ∙ k in
            subst (λ (x : ℕ). (x < most.blocks) × (0 < get_or b.place (get_or p.block x 0) 0)) (ap (λ (x : Option ℕ). unwrap_or x 0) q)
            (omega (arith, within e, few), omega (arith, placed e)))
            (λ e. absurd (let q : ◌≡◌ {A = Option ℕ} None (Some i) = sym (none e) ∙ k in cc))

        split_is : split_number (split_at b.place p.block cut) ≡ split_place (tabled s) (in_order o)
        unfolding split_at split_place split_number warm_places front
        split_is =
            split_bool (splits (tabled s))
            (λ e. rw (warm e, e, placed e) (omega arith))
            (λ e. rw (none e, e))

        split_low : (i : ℕ) → split_at b.place p.block cut ≡ Some i → i < most.no_split
        unfolding split_at
        split_low i k =
            split_bool (splits (tabled s))
            (λ e.
            let q : Some (get_or b.place (get_or p.block at 0) 0 - 1) ≡ Some i = sym (ap (split_at b.place p.block) (warm e)) ∙ k in
            omega (arith, ap (λ (x : Option ℕ). unwrap_or x 0) q, placed e, in_front e, h.stands.few))
            (λ e. absurd (let q : ◌≡◌ {A = Option ℕ} None (Some i) = sym (ap (split_at b.place p.block) (none e)) ∙ k in cc))

        -- THE LAW
        pub placed_of : PlacedOf reorder (tabled t) (record l { split = split_at b.place p.block cut })
        placed_of =
            let f : in_order o ≡ ordered reorder (spread (tabled t)) = oe ∙ ap (ordered reorder) stands.graph_is in
            let k : lay_at (tabled s) (in_order p) cut ≡ lay (spread (tabled t)) (ordered reorder (spread (tabled t))) = lay_is ∙ ap₂ lay stands.graph_is f in
            record {
              places = h.places ∙ k;
              stands = subst (λ (y : List Place). Stands most.blocks most.arms l.graph (laid_graph y)) k h.stands;
              bridged = h.bridged ∙ ap bridges k;
              total = h.total ∙ ap (λ (y : List Place). arm_total (laid_graph y)) k;
              few_arms = h.few_arms;
              split_is = split_is ∙ ap₂ split_place stands.graph_is f;
              split_low = split_low;
            }

-- ---- the passes, one after the other; s is what spreading leaves
module _ {t s : Graph} (r : Arrangeable t) (sp : SpreadFrom t s) where
  pub spread_carried : Carried s
  spread_carried = record { stands = carries_own sp.stands; whole = whole t s sp.stands r.sound.whole r.total }

  module _ (reorder : Bool) (o : Order) (os : (in_order o ≡ ordered reorder (tabled s)) × (o.len ≡ s.blocks)) where
    pub can_divide : Divides s o
    can_divide =
        record {
          roomy = record { few = omega (arith, sp.stands.few); sized = sp.stands.blocks_sized.listed };
          within = order_in t s sp.stands r.sound.whole r.total reorder o os.0 os.1;
          fits = omega (arith, os.1, sp.stands.few);
        }

    module _ (p : Parts) (ps : Parted s o p) (sized : length p.order.block ≡ most.blocks) where
      pub carried_can_lay : Suits s p.order p.split
      carried_can_lay = carried_layable t s sp.stands r.sound.whole r.total reorder o os.0 os.1 p.order p.split ps.parts ps.long ps.split sized

      module _ (l : Laid) (ls : LaidOf (tabled s) (in_order p.order) p.split l) where
        pub can_split : (i : ℕ) → p.split ≡ Some i → (i < most.blocks) × (0 < get_or l.graph.b.place (get_or p.order.block i 0) 0)
        can_split = split_found t s sp.stands r.sound.whole r.total reorder o os.0 os.1 p.order p.split ps.parts ps.long ps.split sized l ls

        pub all_placed : (x : Option ℕ) → x ≡ split_at l.graph.b.place p.order.block p.split → PlacedOf reorder (tabled t) (record l { split = x })
        all_placed x e =
            rw e (placed_of t s sp.stands r.sound.whole r.total reorder o os.0 os.1 p.order p.split ps.parts ps.long ps.split sized l ls)

-- ---- the same of tables that stand for their graph
module _ {t : Graph} where
  pub ready_arrangeable : Ready t → Arrangeable t
  ready_arrangeable r = record { sound = sound_carried r.sound; total = r.total }

  pub arrangeable_ready : Arrangeable t → Back t → Ready t
  arrangeable_ready r b = record { sound = carried_sound r.sound b; total = r.total }

module _ (t s : Graph) (stands : Stands most.numbers most.most_arms s (spread (tabled t))) (w : Whole (tabled t)) (total : arm_total (tabled t) ≤ most.most_arms) (reorder : Bool)
    (o : Order) (oe : in_order o ≡ ordered reorder (tabled s)) (ol : o.len ≡ s.blocks) (p : Order) (cut : Option ℕ) (pe : in_order p ≡ partition (tabled s) (in_order o)) (pl : p.len ≡ o.len)
    (ce : cut ≡ pick (splits (tabled s)) (Some (length (warm_part (tabled s) (in_order o)))) None) (sized : length p.block ≡ most.blocks) where
  pub layable : Fits s p cut
  layable = suits_fits stands.back (carried_layable t s (carries_of stands) w total reorder o oe ol p cut pe pl ce sized)

module _ {t s : Graph} (r : Ready t) (sp : SpreadTo t s) where
  pub spread_sound : Sound s
  spread_sound = carried_sound (spread_carried (ready_arrangeable r) (spread_from sp)) sp.stands.back

  module _ (reorder : Bool) (o : Order) (os : (in_order o ≡ ordered reorder (tabled s)) × (o.len ≡ s.blocks)) (p : Parts) (ps : Parted s o p) (sized : length p.order.block ≡ most.blocks) where
    pub can_lay : Fits s p.order p.split
    can_lay = suits_fits sp.stands.back (carried_can_lay (ready_arrangeable r) (spread_from sp) reorder o os p ps sized)
