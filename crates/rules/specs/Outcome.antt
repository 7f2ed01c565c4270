-- What each public call answers and what the lent bytes hold at its end: total functions of all its inputs.
use Rattle.std.specs.Prelude.{ℕ, Bool, cond, List, ◌++◌, eqb, ltb, length, drop}
use Rattle.limits.specs.Limits.{no_split}
use Rattle.rules.specs.declared.Answer.{Answer}
use Rattle.rules.specs.Graph.{Graph}
use Rattle.rules.specs.Records.{records, graph_of, written}
use Rattle.rules.specs.Refusals.{verdict}
use Rattle.rules.specs.Forward.{moves}
use Rattle.rules.specs.Exits.{Place, bridges}
use Rattle.rules.specs.Laid.{layout, split_of, laid_bytes}

-- the answer, and the lent bytes when the call ends
pub record Outcome : Type 0 where
  pub answer : Answer
  pub lent : List ℕ

-- "A refusal gives its number, the record's index (0 for 1, 2 and 10), the bytes needed for 10 only, zero elsewhere,
-- and no lent byte changes."
unfoldable pub refusal : ℕ → ℕ → ℕ → Answer
refusal number place needed =
    record { refusal = number; place = place; needed = needed; written = 0; blocks = 0; bridges = 0; moved = 0; split = 0 }

-- a refusal, with the lent bytes as they were
unfoldable pub refused : ℕ → ℕ → ℕ → List ℕ → Outcome
refused number place needed lent = record { answer = refusal number place needed; lent = lent }

-- "Writing back counts the blocks it wrote, no bridges, no moves, split 256."
unfoldable pub written_back : ℕ → ℕ → Answer
written_back bytes blocks =
    record { refusal = 0; place = 0; needed = 0; written = bytes; blocks = blocks; bridges = 0; moved = 0; split = no_split }

-- "10: lent output shorter than the result". "Success gives place 0 and needed 0, writes the first bytes and keeps the rest."
unfoldable pub back_of : Graph → List ℕ → Outcome
back_of g lent =
    let n = length (written g) in
    cond (ltb (length lent) n) (refused 10 0 n lent) (record { answer = written_back n (length g); lent = written g ++ drop n lent })

-- reading and writing back
unfoldable pub write_back : List ℕ → List ℕ → Outcome
write_back s lent =
    cond (eqb (verdict s).number 0) (back_of (graph_of (records s)) lent) (refused (verdict s).number (verdict s).place 0 lent)

-- ---- laying the blocks

-- "refusal (0 if none), place, bytes needed, bytes written, blocks (without bridges), bridges, arms moved, split place"
unfoldable pub laid : Bool → Bool → Graph → List Place → ℕ → Answer
laid forwarding reorder g l bytes =
    record {
      refusal = 0;
      place = 0;
      needed = 0;
      written = bytes;
      blocks = length g;
      bridges = bridges l;
      moved = cond forwarding (moves g) 0;
      split = split_of forwarding reorder g;
    }

-- "10: lent output shorter than the result". "Success [..] writes the first bytes and keeps the rest."
unfoldable pub layout_of : Bool → Bool → Graph → List ℕ → Outcome
layout_of forwarding reorder g lent =
    let l = layout forwarding reorder g in
    let out = laid_bytes (split_of forwarding reorder g) l in
    let n = length out in
    cond (ltb (length lent) n) (refused 10 0 n lent) (record { answer = laid forwarding reorder g l n; lent = out ++ drop n lent })

-- "Public calls take bytes and two yes/no choices (forward, reorder)"
unfoldable pub layout_blocks : Bool → Bool → List ℕ → List ℕ → Outcome
layout_blocks forwarding reorder s lent =
    cond (eqb (verdict s).number 0)
    (layout_of forwarding reorder (graph_of (records s)) lent)
    (refused (verdict s).number (verdict s).place 0 lent)
