-- Writing back, by what the reader says: refused, short of room, or written. Assumes nothing.
use Prim.Native.Nat.{ℕ, ◌+◌, ◌*◌, ◌≤◌, ◌<◌}
use native.Mathlib.Omega.{arith}
use mathlib.Core.Path.{◌≡◌, refl, sym, ap, ◌∙◌, subst}
use mathlib.Core.List.{List, ◌++◌}
use lib.ListN.{length, drop}
use borrow.Author.Tests.{lt-ltb, le-ltb, eq-eqb, ne_eqb}
use Rattle.std.specs.Prelude.{OnOk}
use Rattle.std.specs.declared.result.Result.{Result}
use Rattle.std.specs.declared.result.Result.TheVariants.{Ok, Err}
use Rattle.limits.specs.Limits.{size}
use Rattle.rules.specs.declared.Refusal.{Refusal}
use Rattle.rules.specs.Graph as graph
use Rattle.rules.specs.Records.{records, graph_of, written}
use Rattle.rules.specs.Refusals.{Verdict, fine, verdict}
use Rattle.rules.specs.Faults.{number_of, said, verdict_of}
use Rattle.rules.specs.Outcome.{refusal, refused, written_back, back_of, write_back}
use Rattle.rules.proofs.FaultNumbers.{numbered}
use Rattle.records.specs.declared.Graph.{Graph}
use Rattle.records.specs.Tables.{tabled, Holds, no_blocks, no_arms, empty}
use Rattle.records.proofs.TableLaws.{up_to_length}
use Rattle.reader.specs.Reads.{Reads}
use Rattle.writer.specs.Files.{Writable}

-- nothing is in the tables of an empty graph
pub none_read : {g : Graph} → g ≡ empty → (g.b ≡ no_blocks) × (g.a ≡ no_arms)
unfolding empty
none_read e = (ap (λ (x : Graph). x.b) e, ap (λ (x : Graph). x.a) e)

-- what the reader answers, and what it then says of the file
module _ {A : Type 0} (s : List ℕ) (g : Graph) (r : Result A Refusal) (h : Reads s g r) where
  pub refused_by : (x : Refusal) → r ≡ Err x → (said x ≡ verdict s) × ((verdict s).number ≡ 0 → ⊥)
  refused_by x e =
      let v : said x ≡ verdict s = sym (ap verdict_of e) ∙ h.verdict_is in
      (v, λ z. numbered x.fault (ap (λ (y : Verdict). y.number) v ∙ z))

  module _ (a : A) (e : r ≡ Ok a) where
    pub accepted : (verdict s).number ≡ 0
    unfolding fine
    accepted = sym (ap (λ (y : Verdict). y.number) (sym (ap verdict_of e) ∙ h.verdict_is))

    pub held : Holds g (graph_of (records s))
    held = subst (λ (x : Result A Refusal). OnOk x (Holds g (graph_of (records s)))) e h.held

    pub can_write : (room : ℕ) → size * (g.blocks + g.arms) ≤ room → Writable g room
    can_write room l =
        record { few = omega (arith, held.few); fits = λ n. omega (arith, held.fits n, held.few_arms); room_is = omega (arith, ap (λ (x : graph.Graph). length (written x)) held.graph_is, held.total, l) }

module _ {A : Type 0} (s d : List ℕ) (g : Graph) (r : Result A Refusal) (h : Reads s g r) where
  pub back_refused : (x : Refusal) → r ≡ Err x → (refusal (number_of x.fault) x.place 0 ≡ (write_back s d).answer) × (d ≡ (write_back s d).lent)
  unfolding write_back refused
  back_refused x e =
      let q = refused_by s g r h x e in
      (ap (λ (v : Verdict). refusal v.number v.place 0) q.0 ∙ simp (ne_eqb _ _ q.1), simp (ne_eqb _ _ q.1))

  module _ (a : A) (e : r ≡ Ok a) where
    k : Holds g (graph_of (records s))
    k = held s g r h a e

    by_graph : write_back s d ≡ back_of (graph_of (records s)) d
    unfolding write_back
    by_graph = simp (eq-eqb _ _ (accepted s g r h a e))

    count : length (graph_of (records s)) ≡ g.blocks
    unfolding tabled
    count = ap length (sym k.graph_is) ∙ up_to_length g.b g.a g.blocks

    pub back_short : length d < size * (g.blocks + g.arms)
        → (refusal 10 0 (size * (g.blocks + g.arms)) ≡ (write_back s d).answer) × (d ≡ (write_back s d).lent)
    unfolding back_of refused
    back_short l = rw (by_graph, k.total, lt-ltb (length d) (size * (g.blocks + g.arms)) l) (refl, refl)

    pub back_room : size * (g.blocks + g.arms) ≤ length d → (o : List ℕ) → o ≡ written (tabled g) ++ drop (length (written (tabled g))) d
        → (written_back (size * (g.blocks + g.arms)) g.blocks ≡ (write_back s d).answer) × (o ≡ (write_back s d).lent)
    unfolding back_of
    back_room l o w =
        rw (by_graph, k.total, le-ltb (length d) (size * (g.blocks + g.arms)) l, count)
        (refl, w ∙ ap (λ (x : graph.Graph). written x ++ drop (length (written x)) d) k.graph_is ∙ rw k.total)
