-- The arm by which a trace goes on: chosen among a block's arms by the tables, and what it is in every graph that has them.
use Rattle.std.specs.Prelude.{ℕ, ◌≡◌, Bool, not, cond, ◌&&◌, List, leb, ltb, get_or, Option, None, Some}
use Rattle.std.specs.Bool.{beq}
use Rattle.rules.specs.Graph as graph
use Rattle.rules.specs.Graph.{is_cold}
use Rattle.rules.specs.Weights.{share}
use Rattle.rules.specs.Traces.{along}
use Rattle.records.specs.declared.Graph.{Graph}
use Rattle.records.specs.Tables.{tabled}
use Rattle.marks.specs.Sets.{member}
use Rattle.flow.specs.Lent.{Flows, Of, Marks, arm_of}

-- arm q fits for block n
unfoldable pub fits_by : Graph → List ℕ → ℕ → ℕ → ℕ → ℕ → Bool
fits_by g seen likely low n q =
    let to = get_or g.a.to q 0 in
    let w = get_or g.a.weight q 0 in
    not (member seen to) && beq (is_cold (get_or g.b.marks n 0)) (is_cold (get_or g.b.marks to 0)) && leb low w && leb likely (share w (get_or g.b.weight n 0))

-- the heavier of the best arm so far and arm q, the former on ties
unfoldable pub heavier : List ℕ → Option ℕ → ℕ → Option ℕ
heavier weight None q = Some q
heavier weight (Some x) q = cond (ltb (get_or weight x 0) (get_or weight q 0)) (Some q) (Some x)

-- in every graph that has these tables and block n, the marked blocks being laid: the arm that the rules choose
abbrev pub GoesOn : Graph → List ℕ → ℕ → ℕ → ℕ → Option ℕ → Type 0
GoesOn g seen likely low n r =
    (t : Graph) → Flows t g → Of t n → (laid : List ℕ) → Marks seen laid → arm_of t.a r ≡ along (tabled t) laid likely low (graph.block_at (tabled t) n)
