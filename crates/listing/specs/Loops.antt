-- The blocks in loops, by their pieces.
use Rattle.std.specs.Prelude.{ℕ, ◌<◌, ◌≡◌, Bool, not, ◌&&◌, List, eqb, get_or, take}
use Rattle.std.specs.List.{list_any}
use Rattle.marks.specs.Sets.{member}
use Rattle.rules.specs.Heads.{looped}
use Rattle.records.specs.declared.Graph.{Graph}
use Rattle.records.specs.Tables.{tabled}
use Rattle.cycles.specs.Pieces.{PiecesOf}

-- one of the blocks is another block of block m's piece
abbrev pub mate : Graph → List ℕ → ℕ → Bool
mate t piece m = list_any (λ (k : ℕ). not (eqb k m) && eqb (get_or piece k 0) (get_or piece m 0)) (take t.blocks t.b.listed)

-- if these are the pieces of the graph, the set has its blocks in loops
abbrev pub LoopsOf : Graph → List ℕ → List ℕ → Type 0
LoopsOf t piece set =
    PiecesOf (tabled t) piece → (i : ℕ) → i < t.blocks → member set (get_or t.b.listed i 0) ≡ looped (tabled t) (get_or t.b.listed i 0)
