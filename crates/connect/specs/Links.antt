-- The trace that follows by the tables, and what it is in every graph that has them.
use Rattle.std.specs.Prelude.{ℕ, ◌-◌, ◌≡◌, Bool, false, not, cond, ◌&&◌, List, get_or, Option, None, Some}
use Rattle.std.specs.Bool.{beq}
use Rattle.std.specs.Option.{option_map}
use Rattle.rules.specs.Lists.{best}
use Rattle.rules.specs.Graph as graph
use Rattle.rules.specs.Graph.{is_cold, cold_at}
use Rattle.rules.specs.Join as join
use Rattle.rules.specs.Join.{looser, starting_at, links}
use Rattle.records.specs.declared.Graph.{Graph}
use Rattle.records.specs.Tables.{tabled}
use Rattle.marks.specs.Sets.{member}
use Rattle.flow.specs.Lent.{Runs, Of, Marks}
use Rattle.connect.specs.declared.Link.{Link}
use Rattle.connect.specs.Joined.{begin_of, end_of, Stretch}

-- a link as the rules have it
unfoldable pub link_in : Link → join.Link
link_in k = record { weight = k.weight; long = k.long; index = k.index }

-- the better of the best link so far and one that comes later, the former on ties
unfoldable pub tighter : Option join.Link → Option join.Link → Option join.Link
tighter b None = b
tighter None (Some x) = Some x
tighter (Some b) (Some x) = cond (looser b x) (Some x) (Some b)

-- the trace that the table has, by an arm of this weight to its first block
unfoldable pub trace_by : List ℕ → List ℕ → Bool → ℕ → Option ℕ → Option join.Link
trace_by ends used same heavy None = None
trace_by ends used same heavy (Some k) =
    cond (not (member used k) && same) (Some (record { weight = heavy; long = end_of ends k - begin_of ends k; index = k })) None

-- the trace that arm q leads to, from a block that is cold or not: unused, and its first block on the same side
unfoldable pub leads_by : Graph → List ℕ → List (Option ℕ) → List ℕ → Bool → ℕ → Option join.Link
leads_by g ends head used cold q =
    let n = get_or g.a.to q 0 in trace_by ends used (beq cold (is_cold (get_or g.b.marks n 0))) (get_or g.a.weight q 0) (get_or head n None)

-- what the table has, by block number, are traces
abbrev pub Headed : List ℕ → List (Option ℕ) → Type 0
Headed ends head = (n k : ℕ) → get_or head n None ≡ Some k → Stretch ends k

-- the trace that the table has, as one that starts at a block
unfoldable pub start_by : List ℕ → Option ℕ → Option join.Link
start_by ends None = None
start_by ends (Some k) = Some (record { weight = 0; long = end_of ends k - begin_of ends k; index = k })

-- the trace that starts at a block is the one that the table has for it
abbrev pub Starts : List (List ℕ) → List ℕ → List (Option ℕ) → Type 0
Starts ts ends head = (n : ℕ) → starting_at n 0 ts ≡ start_by ends (get_or head n None)

-- a trace that follows is one that the table has, and unused
abbrev pub Unused : List (Option ℕ) → List ℕ → Option join.Link → Type 0
Unused head used (Some k) = (member used k.index ≡ false) × ((n : ℕ) × (get_or head n None ≡ Some k.index))
Unused head used None = Unit {0}

-- in every graph that has these tables and block n, the marked traces being used: the best link from n
abbrev pub BestBy : Graph → List ℕ → List (Option ℕ) → List ℕ → ℕ → Option Link → Type 0
BestBy g ends head used n r =
    (t : Graph) → Runs t g → Of t n → (ts : List (List ℕ)) → Starts ts ends head → (l : List ℕ) → Marks used l →
    option_map link_in r ≡ best looser None (links (tabled t) ts l (cold_at (tabled t) n) (graph.block_at (tabled t) n).arms)
