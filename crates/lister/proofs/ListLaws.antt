-- What is laid of a graph, listed; and a file's listing. Assumes nothing.
use Prim.Native.Nat.{ℕ}
use mathlib.Core.Path.{◌≡◌, ap, ap₂, ◌∙◌, subst}
use mathlib.Core.Bool.{Bool, true}
use mathlib.Core.List.{List, ◌++◌}
use borrow.Author.Tests.{eq-eqb, ne_eqb}
use Rattle.std.specs.declared.result.Result.{Result}
use Rattle.std.specs.declared.result.Result.TheVariants.{Ok, Err}
use Rattle.rules.specs.declared.Refusal.{Refusal}
use Rattle.rules.specs.Graph as graph
use Rattle.rules.specs.Records.{records, graph_of}
use Rattle.rules.specs.Faults.{said}
use Rattle.rules.specs.Exits.{laid_graph}
use Rattle.rules.specs.Listing.{refusal_line, place_lines, split_line, listing_of, blocklist}
use Rattle.records.specs.declared.Graph.{Graph}
use Rattle.records.specs.Tables.{tabled}
use Rattle.cycles.specs.Pieces.{PiecesOf}
use Rattle.heads.specs.Heading.{HeadsOf}
use Rattle.reader.specs.Reads.{Reads}
use Rattle.exits.specs.declared.Laid.{Laid}
use Rattle.layout.specs.Blocks.{places_by, PlacedOf}
use Rattle.layout.specs.Outcomes.{ForwardedIf}
use Rattle.layout.proofs.WriteLaws.{own, laid_few}
use Rattle.layout.proofs.BackLaws.{refused_by, accepted}
use Rattle.layout.proofs.FileLaws.{laid_as, split_as}
use Rattle.listing.specs.Lines.{Printable, listing, Printed, Prints}
use Rattle.listing.specs.Loops.{LoopsOf}
use Rattle.listing.proofs.LineLaws.{last_line_is}

module _ {reorder : Bool} {g : graph.Graph} {l : Laid} (h : PlacedOf reorder g l) where
  pub can_print : Printable l.graph
  can_print = record { few = (laid_few h).0; low = (own h).below }

  pub printed : (piece heads loops : List ℕ) → PiecesOf (tabled l.graph) piece → LoopsOf l.graph piece loops → HeadsOf l.graph heads → (before after : List ℕ) (long : ℕ)
      → Prints l heads loops before after long → Printed (listing (places_by reorder g) l.split) before after long
  printed piece heads loops pieces loops_of heads_of before after long says =
      subst (λ (x : List ℕ). Printed x before after long) (ap (λ p. listing p l.split) h.places) (says (record { heads_are = heads_of; loops_are = loops_of pieces }))

-- ---- a file
module _ {A : Type 0} (s : List ℕ) (t : Graph) (r : Result A Refusal) (h : Reads s t r) where
  pub list_refused : (x : Refusal) → r ≡ Err x → (before after : List ℕ) (long : ℕ) → Printed (refusal_line (said x)) before after long → Printed (blocklist s) before after long
  unfolding blocklist
  list_refused x e before after long p =
      let q = refused_by s t r h x e in
      subst (λ (l : List ℕ). Printed l before after long) (ap refusal_line q.0 ∙ simp (ne_eqb _ _ q.1)) p

  module _ (a : A) (e : r ≡ Ok a) (u : Graph) (moved : ℕ) (f : ForwardedIf true t u moved) (l : Laid) (p : PlacedOf true (tabled u) l) where
    listed : listing (places_by true (tabled u)) l.split ≡ listing_of (graph_of (records s))
    unfolding listing listing_of
    listed =
        ap₂ (λ x y. place_lines (laid_graph x) 0 x ++ y) (laid_as s s true true t r h a e u moved f)
        (last_line_is l.split p.split_low ∙ ap split_line (p.split_is ∙ split_as s s true true t r h a e u moved f))

    pub list_laid : (before after : List ℕ) (long : ℕ) → Printed (listing (places_by true (tabled u)) l.split) before after long → Printed (blocklist s) before after long
    unfolding blocklist
    list_laid before after long says =
        subst (λ (x : List ℕ). Printed x before after long) (listed ∙ simp (eq-eqb _ _ (accepted s t r h a e))) says
