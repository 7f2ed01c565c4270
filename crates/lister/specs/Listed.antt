-- What is listed of what is laid.
use Rattle.std.specs.Prelude.{ℕ, Bool, List}
use Rattle.rules.specs.Graph as graph
use Rattle.exits.specs.declared.Laid.{Laid}
use Rattle.layout.specs.Blocks.{places_by, PlacedOf}
use Rattle.layout.specs.Outcomes.{Fit}
use Rattle.listing.specs.Lines.{listing, Printed}

-- of every graph whose places l has, and that can be written, the listing is printed
abbrev pub Lists : Laid → List ℕ → List ℕ → ℕ → Type 0
Lists l before after long = (reorder : Bool) (g : graph.Graph) → PlacedOf reorder g l → Fit reorder g → Printed (listing (places_by reorder g) l.split) before after long
