-- The records of the places in the tables, one more at a time.
use Rattle.std.specs.Prelude.{ℕ, zero, suc, ◌+◌, ◌*◌, ◌%◌, ◌≤◌, ◌<◌, ◌≡◌, cond, List, [], ◌++◌, eqb, leb, get_or}
use Rattle.limits.specs.Limits.{size, numbers, marks_below, blocks, arms}
use Rattle.marks.specs.Sets.{member}
use Rattle.rules.specs.Records.{fields}
use Rattle.rules.specs.Within.{arm_total}
use Rattle.rules.specs.Heads.{head_at}
use Rattle.rules.specs.Laid.{laid_bytes}
use Rattle.records.specs.Tables.{tabled, ArmsWithin}
use Rattle.exits.specs.declared.Laid.{Laid}
use Rattle.exits.specs.Lays.{split_number, places_of}

-- the record of place i
unfoldable pub record_of : Laid → List ℕ → ℕ → List ℕ
record_of l heads i =
    let b = l.graph.b in
    let n = get_or b.listed i 0 in
    fields (cond (leb numbers n) 3 1) (n % 256) (get_or b.marks n 0 + cond (member heads n) marks_below 0) (get_or b.ends n 0) (cond (eqb i (split_number l.split)) 1 0) (get_or l.exits n 0) (get_or b.weight n 0)

-- the records of the first n places
unfoldable pub records_to : Laid → List ℕ → ℕ → List ℕ
unfolding record_of
records_to l heads zero = []
records_to l heads (suc i) = records_to l heads i ++ record_of l heads i

-- the file of what is laid
abbrev pub laid_file : Laid → List ℕ
laid_file l = laid_bytes (split_number l.split) (places_of l)

-- the set has the heads of the blocks that are laid
abbrev pub HeadsOf : Laid → List ℕ → Type 0
HeadsOf l heads = (i : ℕ) → i < l.graph.blocks → member heads (get_or l.graph.b.listed i 0) ≡ head_at (tabled l.graph) i

-- it can be written: no more places and arms than the tables have room for, bit 7 of the marks free, and room for the file
pub record Writable (l : Laid) (room : ℕ) : Type 0 where
  pub few : l.graph.blocks ≤ blocks
  pub within : ArmsWithin l.graph.a arms
  pub small : (i : ℕ) → i < l.graph.blocks → get_or l.graph.b.marks (get_or l.graph.b.listed i 0) 0 < marks_below
  pub fits : size * (l.graph.blocks + arm_total (tabled l.graph)) ≤ room
