-- The tables before the first block is laid, and after the last. Assumes nothing.
use Rattle.std.proofs.Common.{ℕ, zero, suc, ◌+◌, ◌≤◌, ◌<◌, ◌≡◌, Bool, List, [], ◌∷◌, ◌++◌, length, get_or, refl, sym, ap, ◌∙◌, subst, arith}
use lib.ListN.{replicate}
use Rattle.std.specs.Prelude.{Option}
use Rattle.limits.specs.Limits as most
use Rattle.lists.proofs.Tables.{within}
use Rattle.rules.specs.declared.Leaving.{Leaving}
use Rattle.rules.specs.declared.Leaving.TheVariants.{Nothing, Jump, Branch, Exchanged, Bridge}
use Rattle.rules.specs.Graph as graph
use Rattle.rules.specs.Graph.{with_arms}
use Rattle.rules.specs.Within.{arm_total}
use Rattle.rules.specs.Exits.{Place, laid_block, bridge_for, bridge_of, new_after, bridges, laid_graph}
use Rattle.rules.proofs.Membership.{In, map_append}
use Rattle.records.specs.declared.Blocks.{Blocks}
use Rattle.records.specs.declared.Arms.{Arms}
use Rattle.records.specs.declared.Graph.{Graph}
use Rattle.records.specs.declared.Order.{Order}
use Rattle.records.specs.Tables as tables
use Rattle.records.specs.Tables.{block_at, leaves, up_to, tabled, Back, in_order}
use Rattle.records.proofs.TableLaws.{leaves_count}
use Rattle.records.proofs.StandLaws.{find_in, carries_of, stands_of}
use Rattle.exits.specs.declared.Laid.{Laid}
use Rattle.exits.specs.Lays.{empty, Unlaid, lay_at, place_at, places_to, places_of, cold_at, arms_to, Fits, Suits, Over, LaidOf}
use Rattle.exits.proofs.Steps.{leave_at, new_to, laid_at, laid_to, at, Laying}
use Rattle.exits.proofs.LeftArms.{left_length}
use Rattle.exits.proofs.Parts.{new_bridges, laid_is}
use Rattle.exits.proofs.Turns.{order_length, order_get}

-- ---- before
none_at : (k n : ℕ) → get_or {A = ℕ} (replicate k 0) n 0 ≡ 0
none_at zero n = refl
none_at (suc k) zero = refl
none_at (suc k) (suc n) = none_at k n

pub empty_unlaid : Unlaid empty
unfolding empty tables.empty tables.no_blocks tables.no_arms
empty_unlaid = record {
  blocks_sized = record { place = refl; listed = refl; marks = refl; ends = refl; weight = refl };
  arms_sized = record { first = refl; count = refl; to = refl; args = refl; weight = refl };
  exits_sized = refl;
  unplaced = none_at most.blocks;
  armless = λ n. rw (none_at most.blocks n) (omega arith);
}

-- nothing counted, and the tables with the graph's marks, ends and weights
module _ (g : Graph) (o : List ℕ) (split : Option ℕ) (ms : length g.b.marks ≡ most.blocks) (es : length g.b.ends ≡ most.blocks) (ws : length g.b.weight ≡ most.blocks) (l : Laid) (u : Unlaid l) where
  abbrev filled : Laid
  filled = record l { graph = record l.graph { blocks = 0; arms = 0; b = record l.graph.b { marks = g.b.marks; ends = g.b.ends; weight = g.b.weight } }; bridges = 0 }

  pub laying_start : Laying g o split filled 0
  unfolding places_to laid_to new_to arms_to
  laying_start = record {
    sized = record { blocks = record { place = u.blocks_sized.place; listed = u.blocks_sized.listed; marks = ms; ends = es; weight = ws }; arms = u.arms_sized; exits = u.exits_sized };
    placed = record { back = λ x h. absurd (omega (arith, h)); within = λ n. omega (arith, u.armless n) };
    places = refl;
    p_is = omega arith;
    few = omega arith;
    new_is = omega arith;
    q_is = omega arith;
    unlaid = λ j h k. u.unplaced (get_or o j 0);
    spare = λ m h. u.unplaced m;
    marks = λ m h. refl;
    ends = λ m h. refl;
    weight = λ m h. refl;
  }

-- ---- after
pub places_graph : (b : Blocks) (a : Arms) (e : List ℕ) (p : ℕ) → laid_graph (places_to b a e p) ≡ up_to b a p
unfolding laid_graph places_to up_to place_at
places_graph b a e zero = refl
places_graph b a e (suc p) =
    map_append (λ (x : Place). x.block) (places_to b a e p) (place_at b a e (get_or b.listed p 0) ∷ [])
    ∙ ap (λ (l : graph.Graph). l ++ (block_at b a (get_or b.listed p 0) ∷ [])) (places_graph b a e p)

total_append : (g h : graph.Graph) → arm_total (g ++ h) ≡ arm_total g + arm_total h
unfolding arm_total
total_append [] h = omega arith
total_append (b ∷ g) h = omega (arith, total_append g h)

module _ (g : Graph) (o : List ℕ) (split : Option ℕ) where
  total_at : (new n : ℕ) (cold : Bool) (v : Leaving) → new + arm_total (laid_graph (laid_block new (at g n) v ∷ bridge_of new cold (at g n) v)) ≡ get_or g.a.count n 0 + new_after new v
  unfolding arm_total laid_graph laid_block with_arms bridge_of bridge_for new_after block_at
  total_at new n cold Nothing = omega (arith, left_length new (leaves g.a n) Nothing, leaves_count g.a n)
  total_at new n cold Jump = omega (arith, left_length new (leaves g.a n) Jump, leaves_count g.a n)
  total_at new n cold Branch = omega (arith, left_length new (leaves g.a n) Branch, leaves_count g.a n)
  total_at new n cold Exchanged = omega (arith, left_length new (leaves g.a n) Exchanged, leaves_count g.a n)
  total_at new n cold (Bridge i) = omega (arith, left_length new (leaves g.a n) (Bridge i), leaves_count g.a n)

  total_is : (i : ℕ) → most.numbers + arm_total (laid_graph (laid_to (at g) o split i)) ≡ arms_to g.a.count o i + new_to (at g) o split i
  unfolding laid_to laid_at arms_to new_to arm_total laid_graph
  total_is zero = refl
  total_is (suc i) =
      let m = map_append (λ (x : Place). x.block) (laid_to (at g) o split i) (laid_at (at g) o split i) in
      omega (
        arith,
        ap arm_total m,
        total_append (laid_graph (laid_to (at g) o split i)) (laid_graph (laid_at (at g) o split i)),
        total_is i,
        total_at (new_to (at g) o split i) (get_or o i 0) (cold_at split i) (leave_at (at g) o split i),
      )

-- an order can be laid of tables that stand for a graph exactly when they carry it and `place` is the way back
module _ {t : Graph} {o : Order} {split : Option ℕ} where
  pub fits_suits : Fits t o split → Suits t o split
  fits_suits y = record { stands = carries_of y.stands; few = y.few; orderly = y.orderly; listed = y.listed; inside = y.inside }

  pub suits_fits : Back t → Suits t o split → Fits t o split
  suits_fits b y = record { stands = stands_of y.stands b; few = y.few; orderly = y.orderly; listed = y.listed; inside = y.inside }

-- t is any graph that has the tables of g that are read, and the order is one of t's
module _ {g : Graph} {o : Order} {split : Option ℕ} (sized : length o.block ≡ most.blocks) {r : Laid} (l : Laying g (in_order o) split r o.len) (t : Graph) (v : Over t g) (y : Suits t o split) where
  long : length (in_order o) ≡ o.len
  long = order_length o sized (omega (arith, y.few))

  -- its blocks are those of g
  same_at : (n : ℕ) → at g n ≡ at t n
  unfolding block_at leaves
  same_at n = rw (v.marks_is, v.ends_is, v.weight_is, v.arms_are) refl

  own : (i : ℕ) → i < length (in_order o) → at g (get_or (in_order o) i 0) ≡ graph.block_at (tabled t) (get_or (in_order o) i 0)
  unfolding tabled
  own i h =
      let h' : i < o.len = omega (arith, h, long) in
      same_at (get_or (in_order o) i 0)
      ∙ sym (find_in t.b t.a t.blocks (get_or (in_order o) i 0) (subst (λ (m : ℕ). In m (graph.numbers_of (tabled t))) (sym (order_get o i h')) (y.listed i h')))

  all_laid : laid_to (at g) (in_order o) split o.len ≡ lay_at (tabled t) (in_order o) split
  all_laid = ap (laid_to (at g) (in_order o) split) (sym long) ∙ laid_is (at g) (tabled t) (in_order o) split own (λ s e. omega (arith, long, y.inside s e))

  laid_places : places_of r ≡ lay_at (tabled t) (in_order o) split
  laid_places = l.places ∙ all_laid

  few_arms : r.graph.arms ≤ most.arms
  few_arms = omega (arith, l.q_is, y.orderly.total, ap (λ (a : Arms). arms_to a.count (in_order o) (length (in_order o))) v.arms_are, ap (arms_to g.a.count (in_order o)) (sym long), l.few, y.few)

  -- THE LAW
  pub laid_of : LaidOf (tabled t) (in_order o) split r
  unfolding tabled
  laid_of = record {
    places = laid_places;
    stands = record {
      graph_is = sym (places_graph r.graph.b r.graph.a r.exits r.graph.blocks) ∙ ap laid_graph laid_places;
      few = omega (arith, l.p_is, l.few, y.few);
      below = λ i h. let z = within r.graph.b.place (get_or r.graph.b.listed i 0) (omega (arith, l.placed.back i h)) in omega (arith, z, l.sized.blocks.place);
      back = l.placed.back;
      fits = λ n. omega (arith, l.placed.within n, few_arms);
      blocks_sized = l.sized.blocks;
      arms_sized = l.sized.arms;
    };
    bridged = omega (arith, l.new_is, new_bridges (at g) (tabled t) (in_order o) split o.len, ap bridges all_laid);
    total = omega (arith, l.q_is, l.new_is, total_is g (in_order o) split o.len, ap (λ (x : List Place). arm_total (laid_graph x)) all_laid);
    few_arms = few_arms;
  }
