-- A layout, by what the reader says and what is made of the tables: refused, or what is asked for laid. Assumes nothing.
use Prim.Native.Nat.{ℕ, ◌≤◌, ◌<◌}
use native.Mathlib.Omega.{arith}
use mathlib.Core.Path.{◌≡◌, refl, sym, ap, ap₂, ◌∙◌, subst}
use mathlib.Core.Bool.{Bool, true, false, cond}
use mathlib.Core.List.{List}
use lib.ListN.{length}
use borrow.Author.Tests.{eq-eqb, ne_eqb}
use Rattle.std.specs.declared.result.Result.{Result}
use Rattle.std.specs.declared.result.Result.TheVariants.{Ok, Err}
use Rattle.limits.specs.Limits as most
use Rattle.rules.specs.declared.Answer.{Answer}
use Rattle.rules.specs.declared.Refusal.{Refusal}
use Rattle.rules.specs.Graph as graph
use Rattle.rules.specs.Records.{records, graph_of, written}
use Rattle.rules.specs.Refusals.{Verdict, verdict}
use Rattle.rules.specs.Faults.{number_of}
use Rattle.rules.specs.Within.{arm_total}
use Rattle.rules.specs.Forward.{moves}
use Rattle.rules.specs.Exits.{Place, laid_graph}
use Rattle.rules.specs.Laid.{ordered, readied, layout, split_of}
use Rattle.rules.specs.Outcome.{Outcome, refusal, refused, laid, layout_of, layout_blocks}
use Rattle.rules.proofs.Membership.{In}
use Rattle.rules.proofs.Wholeness.{Whole}
use Rattle.rules.proofs.AcceptedGraph as file
use Rattle.rules.proofs.AcceptedGraph.{accepted_sound}
use Rattle.rules.proofs.Accepts.{file_bytes}
use Rattle.rules.proofs.Forwarded.{forward_whole}
use Rattle.rules.proofs.BridgeAfter.{laid_whole}
use Rattle.rules.proofs.Bounds.{MarksLow, forward_total, accepted_marks, readied_marks, lay_marks}
use Rattle.rules.proofs.Demands.{asked}
use Rattle.records.specs.declared.Graph.{Graph}
use Rattle.records.specs.Tables.{tabled, Stands, Holds, Back, Sound, Apart}
use Rattle.records.proofs.TableLaws.{up_to_length}
use Rattle.records.proofs.StandLaws.{listed_in, carries_of, stands_of}
use Rattle.reader.specs.Reads.{Reads}
use Rattle.layout.specs.Blocks.{places_by, split_by, Ready}
use Rattle.layout.specs.Outcomes.{ForwardsIf, ForwardedIf, laid_out, outcome_by, Fit, Makes}
use Rattle.layout.proofs.BlockLaws.{carries_own}
use Rattle.layout.proofs.BackLaws.{refused_by, accepted, held}

laid_places : (b reorder : Bool) (g : graph.Graph) → places_by reorder (asked b g) ≡ layout b reorder g
unfolding layout readied
laid_places true reorder g = refl
laid_places false reorder g = refl

laid_split : (b reorder : Bool) (g : graph.Graph) → split_by reorder (asked b g) ≡ split_of b reorder g
unfolding split_of readied
laid_split true reorder g = refl
laid_split false reorder g = refl

laid_marks : (b reorder : Bool) (g : graph.Graph) → MarksLow g → (p : Place) → In p (layout b reorder g) → p.block.marks < most.marks_below
unfolding layout
laid_marks b reorder g l p i = lay_marks (readied b g) (readied_marks b g l) (ordered reorder (readied b g)) p i

-- what is asked of a graph, laid
asked_laid : (b reorder : Bool) (g : graph.Graph) (d : List ℕ) → length (asked b g) ≡ length g → outcome_by reorder (asked b g) (cond b (moves g) 0) d ≡ layout_of b reorder g d
unfolding outcome_by layout_of laid_out laid layout split_of readied
asked_laid true reorder g d e = rw e
asked_laid false reorder g d e = refl

-- tables that stand for what is asked carry it, and those that carry it stand for it where `place` was the way back
module _ {on : Bool} {t u : Graph} {moved : ℕ} where
  pub forwards_forwarded : ForwardsIf on t u moved → ForwardedIf on t u moved
  forwards_forwarded f = record { stands = carries_of f.stands; back = λ b. f.stands.back; kept = f.kept; moved_is = f.moved_is }

  pub forwarded_forwards : Back t → ForwardedIf on t u moved → ForwardsIf on t u moved
  forwarded_forwards b f = record { stands = stands_of f.stands (f.back b); kept = f.kept; moved_is = f.moved_is }

module _ {A : Type 0} (s d : List ℕ) (on reorder : Bool) (t : Graph) (r : Result A Refusal) (h : Reads s t r) where
  pub layout_refused : (x : Refusal) → r ≡ Err x
      → (refusal (number_of x.fault) x.place 0 ≡ (layout_blocks on reorder s d).answer) × (d ≡ (layout_blocks on reorder s d).lent)
  unfolding layout_blocks refused
  layout_refused x e =
      let q = refused_by s t r h x e in
      (ap (λ (v : Verdict). refusal v.number v.place 0) q.0 ∙ simp (ne_eqb _ _ q.1), simp (ne_eqb _ _ q.1))

  module _ (a : A) (e : r ≡ Ok a) where
    G : graph.Graph
    G = graph_of (records s)

    fine : (verdict s).number ≡ 0
    fine = accepted s t r h a e

    k : Holds t G
    unfolding G
    k = held s t r h a e

    is : tabled t ≡ G
    is = k.graph_is

    sound_file : file.Sound G
    unfolding G
    sound_file = accepted_sound s fine

    sound_graph : file.Sound (tabled t)
    sound_graph = subst file.Sound (sym is) sound_file

    count : length (tabled t) ≡ t.blocks
    unfolding tabled
    count = up_to_length t.b t.a t.blocks

    total : arm_total (tabled t) ≤ most.most_arms
    total = omega (arith, file_bytes (tabled t), ap length (ap written is), k.total, k.few_arms, count)

    stands : Stands most.numbers most.most_arms t (tabled t)
    unfolding tabled
    stands = record {
      graph_is = refl;
      few = k.few;
      below = λ i l. sound_graph.low _ (listed_in t.b t.a i t.blocks l);
      back = k.back;
      fits = λ n. omega (arith, k.fits n, k.few_arms);
      blocks_sized = k.blocks_sized;
      arms_sized = k.arms_sized;
    }

    -- the tables as read can be forwarded
    pub can_forward : Sound t × Apart t
    can_forward = (record { stands = stands; whole = sound_graph.whole }, k.apart)

    module _ (u : Graph) (moved : ℕ) (f : ForwardedIf on t u moved) where
      asked_whole : (x : Bool) → Whole (asked x (tabled t))
      asked_whole true = forward_whole (tabled t) sound_graph.whole
      asked_whole false = sound_graph.whole

      asked_total : (x : Bool) → arm_total (asked x (tabled t)) ≤ most.most_arms
      asked_total true = omega (arith, forward_total (tabled t), total)
      asked_total false = total

      -- the tables as forwarded can be laid
      pub ready : Ready u
      ready =
          record {
            sound = record { stands = stands_of (carries_own f.stands) (f.back k.back); whole = subst Whole (sym f.stands.graph_is) (asked_whole on) };
            total = omega (arith, ap arm_total f.stands.graph_is, asked_total on);
          }

      from_is : tabled u ≡ asked on G
      from_is = f.stands.graph_is ∙ ap (asked on) is

      places_are : places_by reorder (tabled u) ≡ layout on reorder G
      places_are = ap (places_by reorder) from_is ∙ laid_places on reorder G

      pub fit : Fit reorder (tabled u)
      unfolding G
      fit =
          record {
            whole = subst (λ (x : List Place). Whole (laid_graph x)) (sym places_are) (laid_whole G sound_file on reorder);
            low = λ p i. laid_marks on reorder G (accepted_marks s) p (subst (In p) places_are i);
          }

      -- where they are laid is what is asked of the file
      pub laid_as : places_by reorder (tabled u) ≡ layout on reorder (graph_of (records s))
      unfolding G
      laid_as = places_are

      pub split_as : split_by reorder (tabled u) ≡ split_of on reorder (graph_of (records s))
      unfolding G
      split_as = ap (split_by reorder) from_is ∙ laid_split on reorder G

      pub count_made : length (tabled u) ≡ t.blocks
      unfolding tabled
      count_made = up_to_length u.b u.a u.blocks ∙ ap (λ (x : Graph). x.blocks) f.kept

      long : length (asked on G) ≡ length G
      long = ap length (sym from_is) ∙ count_made ∙ sym count ∙ ap length is

      outcome : outcome_by reorder (tabled u) moved d ≡ layout_blocks on reorder s d
      unfolding layout_blocks G
      outcome =
          ap₂ (λ (x : graph.Graph) (m : ℕ). outcome_by reorder x m d) from_is (f.moved_is ∙ ap (λ (x : graph.Graph). cond on (moves x) 0) is)
          ∙ asked_laid on reorder G d long
          ∙ simp (eq-eqb _ _ fine)

      pub file_laid : (after : List ℕ) (answer : Answer) → Makes reorder (tabled u) moved d after answer
          → (answer ≡ (layout_blocks on reorder s d).answer) × (after ≡ (layout_blocks on reorder s d).lent)
      file_laid after answer m = (m.0 ∙ ap (λ (x : Outcome). x.answer) outcome, m.1 ∙ ap (λ (x : Outcome). x.lent) outcome)
