-- What is laid in the tables, with its heads, and written: short of room, or all of it. Assumes nothing.
use Prim.Native.Nat.{ℕ, zero, suc, ◌+◌, ◌*◌, ◌≤◌, ◌<◌}
use native.Mathlib.Omega.{arith}
use mathlib.Core.Path.{◌≡◌, refl, sym, ap, ap₂, ◌∙◌, subst}
use mathlib.Core.Logic.{inl}
use mathlib.Core.Bool.{Bool}
use mathlib.Core.List.{List, ◌++◌}
use lib.ListN.{length, get_or, drop, length-map}
use borrow.Author.Tests.{lt-ltb, le-ltb}
use Rattle.limits.specs.Limits as most
use Rattle.lists.proofs.Choices.{split_lt}
use Rattle.rules.specs.Graph as graph
use Rattle.rules.specs.Within.{arm_total}
use Rattle.rules.specs.Exits.{Place, laid_graph}
use Rattle.rules.specs.Laid.{laid_bytes}
use Rattle.rules.specs.Outcome.{refusal, refused}
use Rattle.rules.proofs.Membership.{In, In-left, In-right, map-In}
use Rattle.rules.proofs.Wholeness.{Whole}
use Rattle.rules.proofs.LaidLength.{laid_length}
use Rattle.records.specs.declared.Blocks.{Blocks}
use Rattle.records.specs.declared.Arms.{Arms}
use Rattle.records.specs.Tables.{block_at, tabled, up_to, Stands}
use Rattle.records.proofs.TableLaws.{up_to_length}
use Rattle.cycles.specs.Pieces.{Linkable}
use Rattle.exits.specs.declared.Laid.{Laid}
use Rattle.exits.specs.Lays.{places_of, split_number}
use Rattle.laid.specs.Written as file
use Rattle.layout.specs.Blocks.{places_by, split_by, PlacedOf}
use Rattle.layout.specs.Outcomes.{laid_out, outcome_by, Fit}
use Rattle.layout.proofs.BlockLaws.{stands_own}

tables_in : (b : Blocks) (a : Arms) (i n : ℕ) → i < n → In (block_at b a (get_or b.listed i 0)) (up_to b a n)
unfolding up_to
tables_in b a i zero h = absurd (omega (arith, h))
tables_in b a i (suc n) h =
    split_lt i n (λ k. In-left _ (up_to b a n) _ (tables_in b a i n k))
    (λ k. let e : i ≡ n = omega (arith, h, k) in In-right _ (up_to b a n) _ (inl (ap (λ (j : ℕ). block_at b a (get_or b.listed j 0)) e)))

small_block : (b : Blocks) (a : Arms) (n : ℕ) (p : Place) → block_at b a n ≡ p.block → p.block.marks < most.marks_below → get_or b.marks n 0 < most.marks_below
unfolding block_at
small_block b a n p e h = subst (λ (x : graph.Block). x.marks < most.marks_below) (sym e) h

module _ {reorder : Bool} {g : graph.Graph} {l : Laid} (h : PlacedOf reorder g l) where
  -- how long the file is
  abbrev bytes : ℕ
  bytes = most.size * (l.graph.blocks + l.graph.arms)

  pub own : Stands most.blocks most.arms l.graph (tabled l.graph)
  own = stands_own h.stands

  pub total : l.graph.arms ≡ arm_total (tabled l.graph)
  total = h.total ∙ ap arm_total (sym h.stands.graph_is)

  places_long : length (places_by reorder g) ≡ l.graph.blocks
  unfolding tabled laid_graph
  places_long = sym (length-map (places_by reorder g) (λ (x : Place). x.block)) ∙ ap length (sym h.stands.graph_is) ∙ up_to_length l.graph.b l.graph.a l.graph.blocks

  needed_is : length (laid_bytes (split_by reorder g) (places_by reorder g)) ≡ bytes
  needed_is = omega (arith, laid_length (split_by reorder g) (places_by reorder g), places_long, h.total)

  pub laid_few : (l.graph.blocks ≤ most.blocks) × (l.graph.arms ≤ most.arms)
  laid_few = (h.stands.few, h.few_arms)

  pub laid_short : (moved : ℕ) (d : List ℕ) → length d < most.size * (l.graph.blocks + l.graph.arms)
      → (refusal 10 0 (most.size * (l.graph.blocks + l.graph.arms)) ≡ (outcome_by reorder g moved d).answer) × (d ≡ (outcome_by reorder g moved d).lent)
  unfolding outcome_by refused
  laid_short moved d k = rw (needed_is, lt-ltb (length d) bytes k) (refl, refl)

  pub laid_room : (moved : ℕ) (d o : List ℕ) (n : ℕ) → length g ≡ n → most.size * (l.graph.blocks + l.graph.arms) ≤ length d
      → o ≡ laid_bytes (split_number l.split) (places_of l) ++ drop (length (laid_bytes (split_number l.split) (places_of l))) d
      → (laid_out (most.size * (l.graph.blocks + l.graph.arms)) n l.bridges moved (split_number l.split) ≡ (outcome_by reorder g moved d).answer)
      × (o ≡ (outcome_by reorder g moved d).lent)
  unfolding outcome_by
  laid_room moved d o n q k e =
      let w : laid_bytes (split_number l.split) (places_of l) ≡ laid_bytes (split_by reorder g) (places_by reorder g) = ap₂ laid_bytes h.split_is h.places in
      rw (needed_is, le-ltb (length d) bytes k)
      (rw (q, h.bridged, h.split_is), e ∙ ap (λ (x : List ℕ). x ++ drop (length x) d) w ∙ rw needed_is)

  module _ (f : Fit reorder g) where
    pub whole : Whole (tabled l.graph)
    whole = subst Whole (sym h.stands.graph_is) f.whole

    -- the marks leave room for the heads'
    pub small : (i : ℕ) → i < l.graph.blocks → get_or l.graph.b.marks (get_or l.graph.b.listed i 0) 0 < most.marks_below
    unfolding tabled laid_graph
    small i k =
        let n = get_or l.graph.b.listed i 0 in
        let x = tables_in l.graph.b l.graph.a i l.graph.blocks k in
        let y = map-In (λ (q : Place). q.block) (places_by reorder g) (block_at l.graph.b l.graph.a n) (subst (λ (z : graph.Graph). In (block_at l.graph.b l.graph.a n) z) h.stands.graph_is x) in
        small_block l.graph.b l.graph.a n y.0 y.2 (f.low y.0 y.1)

    -- pieces can be looked for, and heads too, `place` being the way back
    pub can_head : Linkable l.graph
    can_head = record { fitting = record { stands = own; whole = whole }; few_arms = omega (arith, total, h.few_arms) }

    pub can_write : (room : ℕ) → most.size * (l.graph.blocks + l.graph.arms) ≤ room → file.Writable l room
    can_write room k = record { few = own.few; within = own.fits; small = small; fits = omega (arith, k, total) }
