-- All traces found, and joined. Assumes nothing.
use Prim.Native.Nat.{ℕ}
use native.Mathlib.Omega.{arith}
use mathlib.Core.Path.{◌≡◌, sym, ap, ◌∙◌}
use lib.ListN.{length, length-map}
use Rattle.rules.specs.Graph as graph
use Rattle.rules.specs.Graph.{numbers_of}
use Rattle.rules.specs.Traces.{traces}
use Rattle.rules.specs.Join.{connect}
use Rattle.rules.proofs.Counting.{count, no_longer}
use Rattle.rules.proofs.TracesOnce.{traces_once}
use Rattle.records.specs.declared.Graph.{Graph}
use Rattle.records.specs.declared.Order.{Order}
use Rattle.records.specs.Tables.{tabled, in_order, Carried}
use Rattle.records.proofs.TableLaws.{up_to_length}
use Rattle.flow.proofs.SoundLaws.{runs_self}
use Rattle.connect.specs.Joined.{JoinedBy}
use Rattle.traces.specs.declared.Growth.{Growth}
use Rattle.traces.specs.Held.{Held}
use Rattle.traces.specs.Rounds.{all_traced}
use Rattle.traces.proofs.HeldLaws.{once_listed, laid_own}

module _ (t : Graph) (l : Carried t) (w : Growth) (h : Held t (all_traced (tabled t)) w) where
  -- no block is left out
  all_count : (k : ℕ) → count k (all_traced (tabled t)).laid ≡ count k (numbers_of (tabled t))
  unfolding traces
  all_count k = sym ((h.good l.whole (once_listed l)).even k) ∙ traces_once (tabled t) l.whole (once_listed l) k

  all_long : length (all_traced (tabled t)).laid ≡ t.blocks
  unfolding numbers_of tabled
  all_long = omega (
    arith,
    no_longer (all_traced (tabled t)).laid (numbers_of (tabled t)) (λ k. omega (arith, all_count k)),
    no_longer (numbers_of (tabled t)) (all_traced (tabled t)).laid (λ k. omega (arith, all_count k)),
    length-map (tabled t) (λ (b : graph.Block). b.number),
    up_to_length t.b t.a t.blocks,
  )

  pub joined : (r : Order) → JoinedBy t w.made r → (in_order r ≡ connect (tabled t) (traces (tabled t))) × (r.len ≡ t.blocks)
  unfolding traces
  joined r j =
      let y = j t (runs_self l) (laid_own l (all_traced (tabled t)) w h) in
      (y.0 ∙ ap (connect (tabled t)) h.found_is, y.1 ∙ h.long ∙ all_long)
