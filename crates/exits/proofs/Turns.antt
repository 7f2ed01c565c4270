-- What one turn of `lay` asks of its calls, and does to the tables. Assumes nothing.
use Rattle.std.proofs.Common.{ℕ, ◌+◌, ◌≤◌, ◌<◌, ◌≡◌, length, get_or, sym, subst, arith, length-take}
use Rattle.std.specs.Prelude.{Option}
use lib.Seq.{get_or-take}
use Rattle.limits.specs.Limits as most
use Rattle.rules.specs.declared.Leaving.{Leaving}
use Rattle.rules.specs.declared.Leaving.TheVariants.{Bridge}
use Rattle.rules.specs.Exits.{edges, exit_of}
use Rattle.records.specs.declared.Arms.{Arms}
use Rattle.records.specs.declared.Graph.{Graph}
use Rattle.records.specs.declared.Order.{Order}
use Rattle.records.specs.Tables.{leaves, block_at, ArmsWithin, in_order}
use Rattle.exits.specs.declared.Laid.{Laid}
use Rattle.exits.specs.Lays.{BridgeWithin, Left, next_at, cold_at, with_place, with_bridge, Orderly, Layable}
use Rattle.exits.proofs.Steps.{leave_at, at, Laying}
use Rattle.exits.proofs.Decisions.{Bridgeless}
use Rattle.exits.proofs.Laying as laying
use Rattle.exits.proofs.Laying.{Room}

pub order_length : (o : Order) → length o.block ≡ most.blocks → o.len ≤ most.blocks → length (in_order o) ≡ o.len
unfolding in_order
order_length o s h = rw (length-take o.len o.block) (omega (arith, s, h))

pub order_get : (o : Order) (i : ℕ) → i < o.len → get_or (in_order o) i 0 ≡ get_or o.block i 0
unfolding in_order
order_get o i h = get_or-take o.len o.block i 0 h

-- what holds of g's own arms, since they are those of a graph whose order can be laid
module _ {g : Graph} {o : Order} {split : Option ℕ} (y : Layable g o split) where
  fitting : ArmsWithin g.a most.most_arms
  fitting = subst (λ (a : Arms). ArmsWithin a most.most_arms) y.over.arms_are y.fits.stands.fits

  orderly : Orderly g.a.count (in_order o)
  orderly = subst (λ (a : Arms). Orderly a.count (in_order o)) y.over.arms_are y.fits.orderly

module _ {g : Graph} {o : Order} {split : Option ℕ} (y : Layable g o split) (sized : length o.block ≡ most.blocks) {l : Laid} {i : ℕ} (t : Laying g (in_order o) split l i) (h : i < o.len) where
  abbrev n : ℕ
  n = get_or o.block i 0

  inside : i < length (in_order o)
  inside = omega (arith, h, order_length o sized (omega (arith, y.fits.few)))

  pub room : Room l (get_or g.a.count (get_or o.block i 0) 0) (get_or o.block i 0)
  room = laying.room g (in_order o) split l i t (orderly y) inside n (order_get o i h)

  module _ {how : Leaving} {next : Option ℕ} (en : next ≡ next_at (in_order o) split i) (eh : how ≡ edges next (get_or g.b.ends (get_or o.block i 0) 0) (leaves g.a (get_or o.block i 0))) where
    -- the decision is the rule's
    how_is : leave_at (at g) (in_order o) split i ≡ how
    unfolding leave_at block_at
    how_is = rw (order_get o i h, ← en) (sym eh)

    pub within : BridgeWithin (get_or g.a.count (get_or o.block i 0) 0) how
    within = laying.bridge_within g (in_order o) split l i t (orderly y) inside n (order_get o i h) how how_is

    module _ {a : Arms} (e : Left g.a (get_or o.block i 0) how (most.numbers + l.bridges) l.graph.a l.graph.arms a) where
      abbrev placed : Laid
      placed = with_place (record l { graph = record l.graph { a = a } }) n (get_or g.a.count n 0) (exit_of (get_or g.b.ends n 0) how)

      pub bridge_room : (j : ℕ) → how ≡ Bridge j →
          (get_or g.a.first (get_or o.block i 0) 0 + j < most.arms) × (most.numbers + placed.bridges < most.blocks) × (placed.graph.blocks < most.blocks) × (placed.graph.arms < most.arms)
      unfolding with_place
      bridge_room j z = (omega (arith, within j z, fitting y n), omega (arith, room.new_low), omega (arith, room.place), omega (arith, room.arm))

      pub plain_turn : Bridgeless how → Laying g (in_order o) split placed (i + 1)
      plain_turn = laying.plain_step g (in_order o) split l i t (orderly y) inside n (order_get o i h) how how_is a e

      pub bridge_turn : (j : ℕ) → how ≡ Bridge j → Laying g (in_order o) split (with_bridge g.a (get_or g.a.first n 0 + j) (cold_at split i) placed) (i + 1)
      bridge_turn = laying.bridge_step g (in_order o) split l i t (orderly y) inside n (order_get o i h) how how_is a e
