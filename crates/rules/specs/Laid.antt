-- Document 01, "Laid records": the layout of a graph, and its bytes.
use Rattle.std.specs.Prelude.{ℕ, suc, ◌+◌, ◌%◌, Bool, true, false, cond, List, [], ◌∷◌, ◌++◌, eqb}
use Rattle.limits.specs.Limits.{marks_below}
use Rattle.rules.specs.Graph.{Graph}
use Rattle.rules.specs.Records.{fields, arms_bytes}
use Rattle.rules.specs.Forward.{forward}
use Rattle.rules.specs.Spread.{spread}
use Rattle.rules.specs.PlainOrder.{order}
use Rattle.rules.specs.Traces.{traces}
use Rattle.rules.specs.Join.{connect}
use Rattle.rules.specs.Exits.{Place, lay, split_place, laid_graph}
use Rattle.rules.specs.Heads.{head_at}

-- ---- the layout

-- "With reordering off this order is laid in place of traces"
unfoldable pub ordered : Bool → Graph → List ℕ
unfolding connect traces order
ordered reorder g = elim reorder [ true ↦ connect g (traces g) | false ↦ order g ]

-- "two yes/no choices (forward, reorder)": the graph that is laid
unfoldable pub readied : Bool → Graph → Graph
unfolding forward spread
readied forwarding g = spread (elim forwarding [ true ↦ forward g | false ↦ g ])

-- "spread, split, exits and heads follow all the same"
unfoldable pub layout : Bool → Bool → Graph → List Place
unfolding readied ordered lay
layout forwarding reorder g = let s = readied forwarding g in lay s (ordered reorder s)

-- "split place (256 for none)"
unfoldable pub split_of : Bool → Bool → Graph → ℕ
unfolding readied ordered split_place
split_of forwarding reorder g = let s = readied forwarding g in split_place s (ordered reorder s)

-- ---- its bytes

-- "As above, kind 3 for a bridge (end 0); mark bit 7 for a head; byte 4 = 1 on the cold part's first block; byte 5 exit"
unfoldable pub place_bytes : Graph → ℕ → ℕ → Place → List ℕ
unfolding fields head_at
place_bytes g split i p =
    let b = p.block in
    fields (cond p.is_bridge 3 1) (b.number % 256) (b.marks + cond (head_at g i) marks_below 0) b.end (cond (eqb i split) 1 0) p.exit b.weight

-- the places from place i on
unfoldable pub places_bytes : Graph → ℕ → ℕ → List Place → List ℕ
unfolding place_bytes
places_bytes g split i [] = []
places_bytes g split i (p ∷ l) = place_bytes g split i p ++ places_bytes g split (suc i) l

-- "Arms follow in laid order."
unfoldable pub laid_bytes : ℕ → List Place → List ℕ
unfolding laid_graph places_bytes arms_bytes
laid_bytes split l = let g = laid_graph l in places_bytes g split 0 l ++ arms_bytes g
