-- THEOREM points: document 01's "Both sides of each line", P1 to P10, and its worked example, as one table about the definitions.
-- Assumes nothing.
use Prim.Native.Nat.{ℕ}
use mathlib.Core.Path.{◌≡◌, refl}
use mathlib.Core.Bool.{true, false}
use mathlib.Core.List.{List, [], ◌∷◌, ◌++◌}
use Rattle.std.specs.Prelude.{None}
use lib.ListN.{drop}
use Rattle.limits.specs.Limits.{numbers, no_split}
use Rattle.rules.specs.Lists.{pick}
use Rattle.rules.specs.Graph.{Arm, Block, Graph, is_entry}
use Rattle.rules.specs.Records.{gap_zero, block_of, arm_of, record_of, fields, block_bytes, arm_bytes, record_at, before, records, leaving, arms_of, listing, blocks_of, graph_of, blocks_bytes, leaving_bytes, arms_bytes, written}
use Rattle.rules.specs.Refusals.{place_of, entry_of, arm_count, last_of, listed, record_checks, all_checks, too_many, panic_checks, checks, fine, first, verdict}
use Rattle.rules.specs.Forward.{goal, moved_all, forward, moves}
use Rattle.rules.specs.Spread.{cold_set}
use Rattle.rules.specs.Weights.{share, largest}
use Rattle.rules.specs.Traces.{round_one, floor_of, traces}
use Rattle.rules.specs.Exits.{Place, bridges}
use Rattle.rules.specs.Heads.{heads}
use Rattle.rules.specs.Laid.{layout, split_of, laid_bytes}
use Rattle.rules.specs.Outcome.{refusal, refused, laid, layout_of, layout_blocks}
use Rattle.rules.specs.Listing.{blocklist}

abbrev arm : ℕ → ℕ → Arm
arm to weight = record { to = to; args = 0; weight = weight }

abbrev block : ℕ → ℕ → ℕ → ℕ → List Arm → Block
block number marks end weight arms = record { number = number; marks = marks; end = end; weight = weight; arms = arms }

-- the worked example, its back arm of this weight
abbrev example : ℕ → Graph
example back =
    block 0 1 1 10000 (arm 1 10000 ∷ [])
    ∷ block 1 0 2 100000 (arm 2 90000 ∷ arm 3 10000 ∷ [])
    ∷ block 2 0 1 90000 (arm 1 back ∷ [])
    ∷ block 3 0 1 10000 []
    ∷ []

-- an entry of this weight, alone
abbrev alone : ℕ → Graph
alone weight = block 0 1 1 weight [] ∷ []

-- a block of weight 0 that goes to itself, behind one of this weight
abbrev behind : ℕ → Graph
behind weight = block 0 1 1 weight (arm 1 0 ∷ []) ∷ block 1 0 1 0 (arm 1 0 ∷ []) ∷ []

-- "entry 0 to 1 to 2, end 1 on 0, 1 a way through, 2 without arms"
abbrev passed : Graph
passed = block 0 1 1 5 (arm 1 5 ∷ []) ∷ block 1 0 0 5 (arm 2 5 ∷ []) ∷ block 2 0 1 5 [] ∷ []

-- "branch 0 to 1 and 2, 1 a way through to 2"
abbrev doubled : Graph
doubled = block 0 1 2 5 (arm 1 5 ∷ arm 2 5 ∷ []) ∷ block 1 0 0 5 (arm 2 5 ∷ []) ∷ block 2 0 1 5 [] ∷ []

-- "ways through 1 and 2 facing each other"
abbrev facing : Graph
facing = block 0 1 1 5 (arm 1 5 ∷ []) ∷ block 1 0 0 5 (arm 2 5 ∷ []) ∷ block 2 0 0 5 (arm 1 5 ∷ []) ∷ []

-- block 2 is "entered from a cold block and itself"
abbrev self_fed : Graph
self_fed =
    block 0 1 2 5 (arm 1 5 ∷ arm 3 5 ∷ []) ∷ block 1 2 1 5 (arm 2 5 ∷ []) ∷ block 2 0 2 5 (arm 2 5 ∷ arm 3 3 ∷ []) ∷ block 3 0 1 3 [] ∷ []

-- "warm entry branching to two cold blocks"
abbrev cold_arms : Graph
cold_arms = block 0 1 2 5 (arm 1 5 ∷ arm 2 5 ∷ []) ∷ block 1 2 1 5 [] ∷ block 2 2 1 5 [] ∷ []

-- "both arms to the next block"
abbrev both_next : Graph
both_next = block 0 1 2 5 (arm 1 5 ∷ arm 1 5 ∷ []) ∷ block 1 0 1 5 [] ∷ []

-- a block with this end whose first arm goes to the next block and whose second does not
abbrev first_next : ℕ → Graph
first_next end = block 0 1 end 5 (arm 1 5 ∷ arm 2 5 ∷ []) ∷ block 1 0 1 5 [] ∷ block 2 0 1 5 [] ∷ []

-- what a reader sees of laid blocks: number and exit
unfoldable pub seen : List Place → List (ℕ × ℕ)
seen [] = []
seen (p ∷ l) = (p.block.number, p.exit) ∷ seen l

-- the worked example's input
unfoldable pub input : List ℕ
unfolding written
input = written (example 90000)

pub record Points : Type 0 where
  pub p1_no_turn : traces (example 80000) ≡ (0 ∷ 1 ∷ 2 ∷ []) ∷ (3 ∷ []) ∷ []
  pub p1_turn : traces (example 80001) ≡ (0 ∷ 2 ∷ 1 ∷ []) ∷ (3 ∷ []) ∷ []
  pub p2 : share 3999 9998 ∷ share 4 10 ∷ share 5 0 ∷ [] ≡ 3999 ∷ 4000 ∷ 0 ∷ []
  pub p3 : floor_of (alone 3) round_one.often ∷ floor_of (alone largest) round_one.often ∷ [] ≡ 1 ∷ 9223372036854775807 ∷ []
  pub p4_head : heads (behind 99) ≡ 1 ∷ []
  pub p4_not : heads (behind 199) ≡ []
  pub p5_move : moves passed ≡ 1
  pub p5_cleared : forward passed ≡ block 0 1 1 5 (arm 2 5 ∷ []) ∷ block 1 4 0 0 [] ∷ block 2 0 1 5 [] ∷ []
  pub p6 : moved_all doubled ≡ doubled
  pub p6_none : moves doubled ≡ 0
  pub p7 : goal facing 1 ≡ None
  pub p8 : cold_set self_fed ≡ 1 ∷ []
  pub p9_bridge : seen (layout true true cold_arms) ≡ (0, 2) ∷ (numbers, 1) ∷ (1, 0) ∷ (2, 0) ∷ []
  pub p9_split : split_of true true cold_arms ≡ 2
  pub p9_answer : (n : ℕ) → laid true true cold_arms (layout true true cold_arms) n
      ≡ record { refusal = 0; place = 0; needed = 0; written = n; blocks = 3; bridges = 1; moved = 0; split = 2 }
  pub p10 : seen (layout true true both_next) ≡ (0, 2) ∷ (1, 0) ∷ []
  -- "Its exit byte is 2 when kept or bridged, 3 when exchanged; ends 5 and 6 with two or more arms have exit 0."
  pub exchanged : seen (layout false false (first_next 2)) ≡ (0, 3) ∷ (1, 0) ∷ (2, 0) ∷ []
  pub already_written : seen (layout false false (first_next 6)) ≡ (0, 0) ∷ (numbers, 1) ∷ (1, 0) ∷ (2, 0) ∷ []
  -- "0 B 0 10000 W - - 1", "1 B 2 90000 W H L 0", "2 B 1 100000 W - L 2", "3 B 3 10000 W - - 0", "split none"
  pub printed : blocklist input
      ≡ 48 ∷ 32 ∷ 66 ∷ 32 ∷ 48 ∷ 32 ∷ 49 ∷ 48 ∷ 48 ∷ 48 ∷ 48 ∷ 32 ∷ 87 ∷ 32 ∷ 45 ∷ 32 ∷ 45 ∷ 32 ∷ 49 ∷ 10
      ∷ 49 ∷ 32 ∷ 66 ∷ 32 ∷ 50 ∷ 32 ∷ 57 ∷ 48 ∷ 48 ∷ 48 ∷ 48 ∷ 32 ∷ 87 ∷ 32 ∷ 72 ∷ 32 ∷ 76 ∷ 32 ∷ 48 ∷ 10
      ∷ 50 ∷ 32 ∷ 66 ∷ 32 ∷ 49 ∷ 32 ∷ 49 ∷ 48 ∷ 48 ∷ 48 ∷ 48 ∷ 48 ∷ 32 ∷ 87 ∷ 32 ∷ 45 ∷ 32 ∷ 76 ∷ 32 ∷ 50 ∷ 10
      ∷ 51 ∷ 32 ∷ 66 ∷ 32 ∷ 51 ∷ 32 ∷ 49 ∷ 48 ∷ 48 ∷ 48 ∷ 48 ∷ 32 ∷ 87 ∷ 32 ∷ 45 ∷ 32 ∷ 45 ∷ 32 ∷ 48 ∷ 10
      ∷ 115 ∷ 112 ∷ 108 ∷ 105 ∷ 116 ∷ 32 ∷ 110 ∷ 111 ∷ 110 ∷ 101 ∷ 10 ∷ []
  -- and what the call answers of its 128 bytes, with room to spare and a byte short
  pub answered : (layout_blocks true true input (input ++ (7 ∷ 7 ∷ []))).answer
      ≡ record { refusal = 0; place = 0; needed = 0; written = 128; blocks = 4; bridges = 0; moved = 0; split = no_split }
  pub short : (layout_blocks true true input (drop 1 input)).answer
      ≡ record { refusal = 10; place = 0; needed = 128; written = 0; blocks = 0; bridges = 0; moved = 0; split = 0 }

pub points : Points
unfolding pick traces share floor_of heads moves forward moved_all goal cold_set layout seen split_of blocklist input laid_bytes refusal refused laid layout_of layout_blocks bridges
    gap_zero block_of arm_of record_of fields block_bytes arm_bytes record_at before records leaving arms_of listing blocks_of graph_of blocks_bytes leaving_bytes arms_bytes written
    place_of entry_of arm_count last_of listed record_checks all_checks too_many panic_checks checks fine first verdict is_entry
points =
    record {
      p1_no_turn = refl;
      p1_turn = refl;
      p2 = refl;
      p3 = refl;
      p4_head = refl;
      p4_not = refl;
      p5_move = refl;
      p5_cleared = refl;
      p6 = refl;
      p6_none = refl;
      p7 = refl;
      p8 = refl;
      p9_bridge = refl;
      p9_split = refl;
      p9_answer = λ n. refl;
      p10 = refl;
      exchanged = refl;
      already_written = refl;
      printed = refl;
      answered = refl;
      short = refl;
    }
