-- The lines of the places are those of the rule. Assumes nothing.
use Prim.Native.Nat.{ℕ, zero, suc, ◌+◌, ◌≤◌, ◌<◌}
use native.Mathlib.Nat.{add-zero}
use native.Mathlib.Omega.{arith}
use mathlib.Core.Path.{◌≡◌, refl, sym, ap, ap₂, ◌∙◌}
use mathlib.Core.Bool.{Bool}
use mathlib.Core.List.{List, [], ◌∷◌, ◌++◌, append_assoc, append-nil}
use lib.ListN.{length, get_or, length-append}
use Rattle.rules.specs.Graph as graph
use Rattle.rules.specs.Exits.{Place, laid_graph}
use Rattle.rules.specs.Heads.{head_at, looped}
use Rattle.rules.specs.Listing.{line, letter, place_line, place_lines}
use Rattle.records.specs.declared.Blocks.{Blocks}
use Rattle.records.specs.declared.Arms.{Arms}
use Rattle.records.specs.Tables.{block_at, tabled}
use Rattle.exits.specs.Lays.{place_at, places_to, places_of}
use Rattle.exits.specs.declared.Laid.{Laid}
use Rattle.exits.proofs.Finished.{places_graph}
use Rattle.listing.specs.Lines.{words, front_of, back_of, line_at, lines_to, last_line, Shows, listing}

lines_append : (g : graph.Graph) (i : ℕ) (s t : List Place) → place_lines g i (s ++ t) ≡ place_lines g i s ++ place_lines g (i + length s) t
unfolding place_lines
lines_append g i [] t = rw add-zero
lines_append g i (p ∷ s) t =
    let e : suc i + length s ≡ i + suc (length s) = omega arith in
    ap (λ (l : List ℕ). place_line g i p ++ l) (lines_append g (suc i) s t)
    ∙ sym (append_assoc (place_line g i p) (place_lines g (suc i) s) (place_lines g (suc i + length s) t))
    ∙ ap (λ (n : ℕ). (place_line g i p ++ place_lines g (suc i) s) ++ place_lines g n t) e

places_long : (b : Blocks) (a : Arms) (exits : List ℕ) (p : ℕ) → length (places_to b a exits p) ≡ p
unfolding places_to
places_long b a exits zero = refl
places_long b a exits (suc p) = length-append (places_to b a exits p) (place_at b a exits (get_or b.listed p 0) ∷ []) ∙ omega (arith, places_long b a exits p)

-- a line has its front and its back
line_parts : (g : graph.Graph) (b : Blocks) (a : Arms) (exits : List ℕ) (i k : ℕ) →
    place_line g i (place_at b a exits k) ≡ front_of i k (get_or b.weight k 0) ++ back_of (get_or b.marks k 0) (head_at g i) (looped g k) (get_or exits k 0)
unfolding place_line front_of back_of words line letter place_at block_at
line_parts g b a exits i k = simp append_assoc

module _ (l : Laid) (heads loops : List ℕ) (w : Shows l.graph heads loops) where
  place_line_lem : (i : ℕ) → i < l.graph.blocks → place_line (tabled l.graph) i (place_at l.graph.b l.graph.a l.exits (get_or l.graph.b.listed i 0)) ≡ line_at l heads loops i
  unfolding line_at
  place_line_lem i h =
      let n = get_or l.graph.b.listed i 0 in
      line_parts (tabled l.graph) l.graph.b l.graph.a l.exits i n
      ∙ ap₂ (λ (x y : Bool). front_of i n (get_or l.graph.b.weight n 0) ++ back_of (get_or l.graph.b.marks n 0) x y (get_or l.exits n 0)) (sym (w.heads_are i h)) (sym (w.loops_are i h))

  place_lines_lem : (k : ℕ) → k ≤ l.graph.blocks → place_lines (tabled l.graph) 0 (places_to l.graph.b l.graph.a l.exits k) ≡ lines_to l heads loops k
  unfolding places_to place_lines lines_to
  place_lines_lem zero h = refl
  place_lines_lem (suc k) h =
      let s = places_to l.graph.b l.graph.a l.exits k in
      let p = place_at l.graph.b l.graph.a l.exits (get_or l.graph.b.listed k 0) in
      lines_append (tabled l.graph) 0 s (p ∷ [])
      ∙ ap (λ (i : ℕ). place_lines (tabled l.graph) 0 s ++ (place_line (tabled l.graph) i p ++ [])) (zero_plus (length s) ∙ places_long l.graph.b l.graph.a l.exits k)
      ∙ ap (λ (x : List ℕ). x ++ (place_line (tabled l.graph) k p ++ [])) (place_lines_lem k (omega (arith, h)))
      ∙ ap (λ (x : List ℕ). lines_to l heads loops k ++ x) (append-nil (place_line (tabled l.graph) k p) ∙ place_line_lem k (omega (arith, h)))
    where
      zero_plus : (j : ℕ) → 0 + j ≡ j
      zero_plus j = omega arith

  laid_graph_lem : laid_graph (places_of l) ≡ tabled l.graph
  unfolding tabled
  laid_graph_lem = places_graph l.graph.b l.graph.a l.exits l.graph.blocks

  -- THE LAW
  pub listing_is : lines_to l heads loops l.graph.blocks ++ last_line l.split ≡ listing (places_of l) l.split
  unfolding listing
  listing_is =
      ap (λ (x : List ℕ). x ++ last_line l.split)
      (sym (place_lines_lem l.graph.blocks (omega arith)) ∙ ap (λ (g : graph.Graph). place_lines g 0 (places_of l)) (sym laid_graph_lem))
