-- Blocks, arms and the scan together: the tables hold the graph of the file. Assumes nothing.
use Prim.Native.Nat.{ℕ, zero, suc, ◌-◌, ◌*◌, ◌/◌, ◌≤◌, ◌<◌}
use native.Mathlib.Omega.{arith}
use mathlib.Core.Path.{◌≡◌, refl, sym, ap, ap₂, ◌∙◌}
use mathlib.Core.List.{List, [], ◌∷◌, ◌++◌}
use lib.ListN.{length, get_or}
use Rattle.std.specs.Prelude.{None, Some}
use Rattle.limits.specs.Limits.{size, numbers}
use Rattle.lists.proofs.Tables.{marked_most}
use Rattle.std.specs.declared.result.Result.TheVariants.{Ok, Err}
use Rattle.rules.specs.declared.Fault.{Fault}
use Rattle.rules.specs.declared.Fault.TheVariants.{TooManyForEnd}
use Rattle.rules.specs.Graph as graph
use Rattle.rules.specs.Records.{before, records, arms_of, listing, blocks_of, graph_of}
use Rattle.rules.specs.Refusals.{panic_checks, first, verdict}
use Rattle.rules.proofs.Verdicts.{first_clear, before_length, past_records}
use Rattle.rules.proofs.Listed.{place_most, unlisted_arms}
use Rattle.rules.proofs.Grouped.{written_length}
use Rattle.records.specs.declared.Graph.{Graph}
use Rattle.records.specs.Tables.{leaves, block_at, up_to, tabled, Holds}
use Rattle.records.proofs.TableLaws.{some_arms}
use Rattle.reader.specs.Reads.{InRecords, BlocksDone, ArmsHeld, PanicOf, Reads}
use Rattle.reader.proofs.RefusedLaws.{told}
use Rattle.reader.proofs.PanicLaws.{panic_first, panic_none}

-- what is refused says nothing of the tables
pub refuses : (s : List ℕ) (g : Graph) (f : Fault) (place : ℕ) → verdict s ≡ told place (Some f) → Reads {T = Unit} s g (Err (record { fault = f; place = place }))
refuses s g f place e = record { verdict_is = sym e; held = tt }

module _ (s : List ℕ) (g : Graph) (d : BlocksDone s g.blocks g.b) where
  -- a number is listed at one place
  listed_one : (j m : ℕ) → j < g.blocks → m < g.blocks → get_or g.b.listed j 0 ≡ get_or g.b.listed m 0 → j ≡ m
  listed_one j m x y e = omega (arith, sym (d.held.back j x) ∙ ap (λ (n : ℕ). get_or g.b.place n 0) e ∙ d.held.back m y)

  -- the tables' blocks are the records', with the same arms
  up_to_is : (f : ℕ → List graph.Arm) → ((n : ℕ) → leaves g.a n ≡ f n) → (j : ℕ) → j ≤ g.blocks → up_to g.b g.a j ≡ blocks_of f (before s j)
  unfolding up_to before blocks_of listing block_at
  up_to_is f e zero l = refl
  up_to_is f e (suc j) l =
      let m = get_or g.b.listed j 0 in
      rw (d.held.says j (omega (arith, l)))
      (ap₂ (λ (x : graph.Graph) (y : List graph.Arm). x ++ (record { number = m; marks = get_or g.b.marks m 0; end = get_or g.b.ends m 0; weight = get_or g.b.weight m 0; arms = y } ∷ []))
      (up_to_is f e j (omega (arith, l))) (e m))

  module _ (k : ArmsHeld g.b.place (before s g.blocks) (records s) (length s / size - g.blocks) g.a) where
    graph_is : tabled g ≡ graph_of (records s)
    unfolding graph_of tabled
    graph_is = up_to_is (λ m. arms_of m (records s)) k.each g.blocks (omega arith) ∙ sym (k.same (λ m. arms_of m (records s)))

    holds : g.arms ≡ length s / size - g.blocks → Holds g (graph_of (records s))
    unfolding records
    holds q =
        record {
          graph_is = graph_is;
          few = omega (arith, d.held.full, marked_most g.b.place numbers);
          few_arms = omega (arith, q, k.few);
          total =
              written_length (records s) k.clear
              ∙ ap (λ (m : ℕ). size * m) (before_length s (length s / size) ∙ omega (arith, d.within, q));
          back = d.held.back;
          placed = λ m. omega (arith, d.held.place m, place_most m (before s g.blocks), before_length s g.blocks);
          blank = λ m z. (d.held.blank m z, some_arms g.a m (k.each m ∙ unlisted_arms m (records s) k.clear (sym (k.place_is m) ∙ z)));
          fits = λ n. omega (arith, q, k.fits n);
          blocks_sized = d.held.sized;
          arms_sized = k.sized;
          apart = λ j m x y z. k.apart (get_or g.b.listed j 0) (get_or g.b.listed m 0) (λ e. z (listed_one j m x y e));
        }

    module _ (file : InRecords s) where
      -- none refused: what is left are the lines of 9
      by_panics : verdict s ≡ first (panic_checks 0 (tabled g))
      by_panics = past_records s file.short file.whole k.clear ∙ ap (λ (x : graph.Graph). first (panic_checks 0 x)) (sym graph_is)

      pub panics : (r : ℕ) → PanicOf g (Some r) → Reads {T = Unit} s g (Err (record { fault = TooManyForEnd; place = r }))
      panics r p = refuses s g TooManyForEnd r (by_panics ∙ panic_first g r p)

      pub none_panics : g.arms ≡ length s / size - g.blocks → PanicOf g None → Reads {T = Unit} s g (Ok tt)
      none_panics q p =
          record { verdict_is = sym (by_panics ∙ first_clear (panic_checks 0 (tabled g)) (panic_none g p)); held = holds q }
