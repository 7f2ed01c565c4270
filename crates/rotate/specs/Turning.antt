-- A trace, the part of it that turns, and the ways out of that part.
use Rattle.std.specs.Prelude.{ℕ, ◌+◌, ◌<◌, ◌≡◌, Bool, not, cond, ◌&&◌, ◌||◌, List, [], ◌∷◌, ◌++◌, map, eqb, leb, length, get_or, take, drop, Option, None, Some}
use Rattle.std.specs.List.{list_any}
use Rattle.std.specs.Option.{IfSome, option_eq}
use Rattle.limits.specs.Limits.{blocks}
use Rattle.rules.specs.Lists.{keep, mem}
use Rattle.rules.specs.Graph as graph
use Rattle.rules.specs.Graph.{Arm, is_walking}
use Rattle.rules.specs.Weights.{over_four_fifths}
use Rattle.rules.specs.Rotate.{WayOut, turned, rotate}
use Rattle.rules.proofs.Membership.{In}
use Rattle.records.specs.declared.Arms.{Arms}
use Rattle.records.specs.declared.Blocks.{Blocks}
use Rattle.records.specs.declared.Graph.{Graph}
use Rattle.records.specs.Tables.{leaves, tabled}
use Rattle.marks.specs.Sets.{member}
use Rattle.flow.specs.Lent.{Flows, Of, Marks}
use Rattle.rotate.specs.declared.Out.{Out}

-- what stands in the trace are numbers of blocks
abbrev pub Below : List ℕ → Type 0
Below trace = (i : ℕ) → get_or trace i 0 < blocks

-- the part that begins with block x turns: what is asked besides that x is in the trace
unfoldable pub turns_by : Blocks → Option ℕ → ℕ → ℕ → ℕ → List ℕ → Bool
turns_by b entry arm x last part =
    not (eqb x last) && not (option_eq eqb entry (Some x)) && over_four_fifths arm (get_or b.weight x 0)
    && not (list_any (λ (n : ℕ). is_walking (get_or b.marks n 0)) part)

-- ---- the ways out
unfoldable pub way_of : Out → WayOut
way_of o = record { preferred = cond o.preferred 1 0; weight = o.weight; index = o.index }

-- block n is not laid or starts an earlier trace
abbrev pub liked : List ℕ → List ℕ → ℕ → Bool
liked seen starts n = not (member seen n) || member starts n

-- the ways out of a block with these arms that stands at place i of the part
unfoldable pub ways_at : (ℕ → Bool) → (ℕ → Bool) → ℕ → List Arm → List WayOut
unfolding keep
ways_at preferred inside i l =
    cond (leb (length l) 2)
    (map (λ (a : Arm). record { preferred = cond (preferred a.to) 1 0; weight = a.weight; index = i }) (keep (λ (a : Arm). not (inside a.to)) l))
    []

-- those of blocks that stand at place i of the part and behind, by the tables of arms
unfoldable pub ways_from : Arms → (ℕ → Bool) → (ℕ → Bool) → ℕ → List ℕ → List WayOut
unfolding ways_at leaves
ways_from a preferred inside i [] = []
ways_from a preferred inside i (n ∷ l) = ways_at preferred inside i (leaves a n) ++ ways_from a preferred inside (i + 1) l

-- ---- the trace as it ends
-- all of the trace are blocks of t
abbrev pub AllOf : Graph → List ℕ → Type 0
AllOf t trace = (n : ℕ) → In n trace → Of t n

-- what is preferred, by what is laid and what starts an earlier trace
abbrev pub chosen : List ℕ → List ℕ → ℕ → Bool
chosen laid begun n = not (mem n laid) || mem n begun

-- the trace with what follows a place turned
unfoldable pub turned_at : graph.Graph → (ℕ → Bool) → List ℕ → Option ℕ → List ℕ
turned_at g preferred trace (Some p) = take p trace ++ turned g preferred (drop p trace)
turned_at g preferred trace None = trace

-- the part that turns starts at the place r
pub record Turns (g : Graph) (entry : Option ℕ) (trace : List ℕ) (r : Option ℕ) : Type 0 where
  pub within : IfSome r (λ (p : ℕ). p < length trace)
  pub parted : (t : Graph) → Flows t g → entry ≡ graph.entry (tabled t) → AllOf t trace → (laid begun : List ℕ) → rotate (tabled t) laid begun trace ≡ turned_at (tabled t) (chosen laid begun) trace r

-- in every graph that has these tables the trace is rotated; `seen` is what is laid, `starts` what begins an earlier trace
abbrev pub Rotated : Graph → List ℕ → List ℕ → Option ℕ → List ℕ → List ℕ → Type 0
Rotated g seen starts entry before after =
    (t : Graph) → Flows t g → entry ≡ graph.entry (tabled t) → AllOf t before → (laid begun : List ℕ) → Marks seen laid → Marks starts begun → after ≡ rotate (tabled t) laid begun before
