-- Two sides, one behind the other, are the partition. Assumes nothing.
use Prim.Native.Nat.{ℕ, ◌+◌}
use native.Mathlib.Omega.{arith}
use mathlib.Core.Path.{◌≡◌, refl, sym, ap, ◌∙◌}
use mathlib.Core.Bool.{Bool, true, false}
use mathlib.Core.List.{[]}
use Rattle.std.specs.Prelude.{Option, None, Some, is_some}
use lib.ListN.{length}
use lib.Seq.{length-take-le}
use Rattle.limits.specs.Limits.{blocks}
use Rattle.rules.specs.Lists.{pick}
use Rattle.rules.specs.Graph.{entry, cold_at}
use Rattle.rules.specs.Graph as graph
use Rattle.rules.specs.Spread.{warm_entry}
use Rattle.rules.specs.Split.{splits, warm_part, partition}
use Rattle.records.specs.declared.Graph.{Graph}
use Rattle.records.specs.declared.Order.{Order}
use Rattle.records.specs.Tables.{tabled, in_order}
use Rattle.cold.specs.Sides.{on_side, Gathered, Divides, Parted}
use Rattle.cold.proofs.SideLaws.{warm_side, cold_side, sides_long}

-- ---- whether there is a split
module _ (g : graph.Graph) where
  -- only with an entry
  split_entry : (o : Option ℕ) → entry g ≡ o → splits g ≡ true → (e : ℕ) × (o ≡ Some e)
  unfolding splits warm_entry
  split_entry None q h = absurd (let z : false ≡ true = rw (q, warm_entry) at h in cc)
  split_entry (Some e) q h = (e, refl)

  module _ (o : Option ℕ) (found : o ≡ pick (splits g) (entry g) None) where
    pub split_some : (e : ℕ) → o ≡ Some e → (splits g ≡ true) × (entry g ≡ Some e)
    unfolding pick
    split_some e q = go (splits g) refl
      where
        go : (b : Bool) → splits g ≡ b → (splits g ≡ true) × (entry g ≡ Some e)
        go true h = (h, sym (rw h at found) ∙ q)
        go false h = absurd (let z : ◌≡◌ {A = Option ℕ} (Some e) None = sym q ∙ (rw h at found) in cc)

    pub split_is : is_some o ≡ splits g
    unfolding pick
    split_is = go (splits g) refl
      where
        go : (b : Bool) → splits g ≡ b → is_some o ≡ b
        go true h = let r = split_entry (entry g) refl h in rw (rw h at found, r.1) refl
        go false h = rw (rw h at found) refl

-- ---- the parts
module _ (t : Graph) (o : Order) (d : Divides t o) (sized : length o.block ≡ blocks) where
  -- both sides have room
  pub sides_fit : length (on_side t.b.marks false (in_order o)) + length (on_side t.b.marks true (in_order o)) ≡ o.len
  unfolding in_order
  sides_fit = sides_long t.b.marks (in_order o) ∙ length-take-le o.len o.block (omega (arith, d.fits, sized))

  pub parted : splits (tabled t) ≡ true → (none warm both : Order) → in_order none ≡ [] → none.len ≡ 0
      → Gathered (on_side t.b.marks false (in_order o)) none warm → Gathered (on_side t.b.marks true (in_order o)) warm both
      → Parted t o (record { order = both; split = Some warm.len })
  unfolding partition pick
  parted h none warm both n z w c =
      record {
        parts = c.behind ∙ rw (w.behind, n, h, partition, warm_side t o d.within, cold_side t o d.within) refl;
        long = omega (arith, c.ends, w.ends, z, sides_fit);
        split = let e : warm.len ≡ length (warm_part (tabled t) (in_order o)) = omega (arith, w.ends, z, ap length (warm_side t o d.within)) in rw h (ap (λ (k : ℕ). Some k) e);
      }

  pub unparted : splits (tabled t) ≡ false → Parted t o (record { order = o; split = None })
  unfolding partition pick
  unparted h = record { parts = rw (h, partition) refl; long = refl; split = rw h refl }
