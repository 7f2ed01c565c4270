-- What each part of the reader says of a file s; `before s i` are its first i records, the last of them first.
use Rattle.std.specs.Prelude.{ℕ, suc, ◌+◌, ◌-◌, ◌*◌, ◌/◌, ◌%◌, ◌≤◌, ◌<◌, ◌≡◌, Bool, true, false, List, length, get_or, set, drop, Option, None, Some, OnOk}
use Rattle.std.specs.declared.result.Result.{Result}
use Rattle.std.specs.declared.result.Result.TheVariants.{Ok, Err}
use Rattle.limits.specs.Limits.{size, numbers, most_bytes, most_arms}
use Rattle.lists.specs.Marked.{marked}
use Rattle.rules.specs.Graph as graph
use Rattle.rules.specs.declared.Record.{Record}
use Rattle.rules.specs.declared.Record.TheVariants.{Block, Arm, Outside}
use Rattle.rules.specs.declared.Refusal.{Refusal}
use Rattle.rules.specs.Records.{record_at, before, records, graph_of, arms_of, blocks_of}
use Rattle.rules.specs.Refusals.{place_of, arm_count, last_of, too_many, all_checks, Clear, verdict}
use Rattle.rules.specs.Faults.{said, verdict_of}
use Rattle.records.specs.declared.Blocks.{Blocks}
use Rattle.records.specs.declared.Arms.{Arms}
use Rattle.records.specs.declared.Graph.{Graph}
use Rattle.records.specs.Faults.{first_next}
use Rattle.records.specs.Tables.{leaves, BlocksSized, ArmsSized, Blank, ArmsWithin, Has, Holds}

-- the tables with one block more
abbrev pub listed : Blocks → ℕ → ℕ → ℕ → ℕ → ℕ → Blocks
listed b i number marks end weight =
    record {
      place = set b.place number (i + 1);
      listed = set b.listed i number;
      marks = set b.marks number marks;
      ends = set b.ends number end;
      weight = set b.weight number weight;
    }

-- and with one arm more
abbrev pub added : Arms → ℕ → ℕ → ℕ → ℕ → ℕ → Arms
added a j from to args weight =
    record {
      first = set a.first from (first_next (get_or a.first from 0) (get_or a.count from 0) j);
      count = set a.count from (get_or a.count from 0 + 1);
      to = set a.to j to;
      args = set a.args j args;
      weight = set a.weight j weight;
    }

-- 1 and 2 do not refuse it
pub record InRecords (s : List ℕ) : Type 0 where
  pub short : length s ≤ most_bytes
  pub whole : length s % size ≡ 0

-- ---- the blocks

-- a record is a block
abbrev pub IsBlock : Record → Type 0
IsBlock (Block number marks end weight) = Unit
IsBlock (Arm from to args weight) = ⊥
IsBlock Outside = ⊥

-- record j of s is what the tables say of the block listed at j
abbrev pub says_block : Blocks → ℕ → Record
says_block b n = Block n (get_or b.marks n 0) (get_or b.ends n 0) (get_or b.weight n 0)

-- i records, all blocks, none refused, and the tables say what they say
pub record BlocksHeld (s : List ℕ) (i : ℕ) (b : Blocks) : Type 0 where
  pub clear : Clear (all_checks (before s i))
  pub armless : arm_count (before s i) ≡ 0
  pub place : (n : ℕ) → get_or b.place n 0 ≡ place_of n (before s i)
  pub says : (j : ℕ) → j < i → record_at s j ≡ says_block b (get_or b.listed j 0)
  pub back : (j : ℕ) → j < i → get_or b.place (get_or b.listed j 0) 0 ≡ suc j
  pub full : marked b.place numbers ≡ i
  pub blank : (n : ℕ) → get_or b.place n 0 ≡ 0 → Blank b n
  -- a call that changes the tables says nothing of their length
  pub sized : BlocksSized b

-- and the next record, where there is one, is no block
pub record BlocksDone (s : List ℕ) (i : ℕ) (b : Blocks) : Type 0 where
  pub within : i ≤ length s / size
  pub held : BlocksHeld s i b
  pub ended : i < length s / size → IsBlock (record_at s i) → ⊥

abbrev pub BlocksRead : List ℕ → Blocks → Result ℕ Refusal → Type 0
BlocksRead s b (Ok i) = BlocksDone s i b
BlocksRead s b (Err r) = verdict s ≡ said r

-- ---- the arms

-- t is what the file s has behind its first i records, which are the blocks of b, and no block follows
pub record Behind (s t : List ℕ) (i : ℕ) (b : Blocks) : Type 0 where
  pub file : InRecords s
  pub done : BlocksDone s i b
  pub rest : t ≡ drop (size * i) s

-- after the records l₀, which are blocks, j arms, which makes l; none refused, and the tables say what they say
pub record ArmsHeld (place : List ℕ) (l₀ l : List Record) (j : ℕ) (a : Arms) : Type 0 where
  pub clear : Clear (all_checks l)
  pub count : arm_count l ≡ j
  pub few : j ≤ most_arms
  pub place_is : (n : ℕ) → get_or place n 0 ≡ place_of n l
  pub each : (n : ℕ) → leaves a n ≡ arms_of n l
  pub next : (n : ℕ) → 0 < place_of n l → place_of n l ≡ last_of l → get_or a.first n 0 + get_or a.count n 0 ≡ j
  pub apart : (n m : ℕ) → (n ≡ m → ⊥) → (q : ℕ) → Has a n q → Has a m q → ⊥
  pub fits : ArmsWithin a j
  pub sized : ArmsSized a
  pub same : (arms : ℕ → List graph.Arm) → blocks_of arms l ≡ blocks_of arms l₀

abbrev pub ArmsRead : {T : Type 0} → List ℕ → ℕ → Blocks → Arms → Result T Refusal → Type 0
ArmsRead s i b a (Ok _) = ArmsHeld b.place (before s i) (records s) (length s / size - i) a
ArmsRead s i b a (Err r) = verdict s ≡ said r

-- ---- 9

-- the block listed at i has too many arms
abbrev pub panics_at : Graph → ℕ → Bool
panics_at g i = too_many (get_or g.b.ends (get_or g.b.listed i 0) 0) (get_or g.a.count (get_or g.b.listed i 0) 0)

abbrev pub PanicOf : Graph → Option ℕ → Type 0
PanicOf g None = (i : ℕ) → i < g.blocks → panics_at g i ≡ false
PanicOf g (Some r) = (r < g.blocks) × ((i : ℕ) → i < r → panics_at g i ≡ false) × (panics_at g r ≡ true)

-- ---- the whole file: what is answered is its verdict, and where nothing is refused the tables hold its graph
pub record Reads {T : Type 0} (s : List ℕ) (g : Graph) (r : Result T Refusal) : Type 0 where
  pub verdict_is : verdict_of r ≡ verdict s
  pub held : OnOk r (Holds g (graph_of (records s)))
