-- Document 01, "Forward": arms to blocks that only pass control on go where those lead.
use Rattle.std.specs.Prelude.{ℕ, zero, suc, ◌+◌, Bool, true, false, not, cond, ◌&&◌, ◌||◌, List, [], ◌∷◌, ◌++◌, map, eqb, length, Option, None, Some}
use Rattle.rules.specs.Lists.{any}
use Rattle.rules.specs.Graph.{Arm, Block, Graph, is_entry, is_dead, has_parameters, is_named, is_addressed, block_at, with_arms}
use Rattle.rules.specs.Ours.{ours}

-- "one arm without arguments": where it goes
unfoldable pub only_target : List Arm → Option ℕ
only_target [] = None
only_target (a ∷ []) = elim (eqb a.args 0) [ true ↦ Some a.to | false ↦ None ]
only_target (a ∷ b ∷ l) = None

-- "A way through has end 0, one arm without arguments, marks 2, 3, 4 clear, and is not the entry": where it leads
unfoldable pub through : Block → Option ℕ
unfolding only_target is_entry is_dead has_parameters is_named
through b =
    elim (eqb b.end 0 && not (is_entry b.marks) && not (is_dead b.marks) && not (has_parameters b.marks) && not (is_named b.marks))
    [ true ↦ only_target b.arms | false ↦ None ]

-- the first block that is no way through, from block n on along at most k arms
unfoldable pub leaves_at : Graph → ℕ → ℕ → Option ℕ
unfolding through block_at
leaves_at g zero n = None
leaves_at g (suc k) n = elim (through (block_at g n)) [ None ↦ Some n | Some m ↦ leaves_at g k m ]

-- "Its goal is the first block on its chain that is no way through; none if the chain never leaves."
-- A chain that leaves does so after fewer arms than there are blocks.
unfoldable pub goal : Graph → ℕ → Option ℕ
unfolding through block_at leaves_at
goal g n = elim (through (block_at g n)) [ None ↦ None | Some m ↦ leaves_at g (length g) m ]

-- "each arm in turn whose target has a goal moves there, unless an arm of that block already goes to it": `done` are those passed
unfoldable pub moved_arms : (ℕ → Option ℕ) → List Arm → List Arm → List Arm
unfolding any
moved_arms goals done [] = []
moved_arms goals done (a ∷ l) =
    let b : Arm = elim (goals a.to) [
      | None ↦ a
      | Some m ↦
          elim (any (λ (x : Arm). eqb x.to m) (done ++ (a ∷ l))) [ true ↦ a | false ↦ record { to = m; args = a.args; weight = a.weight } ]
    ] in
    b ∷ moved_arms goals (done ++ (b ∷ [])) l

-- "over listed blocks that are ours"
unfoldable pub moved_block : (ℕ → Option ℕ) → Block → Block
unfolding moved_arms ours with_arms
moved_block goals b = elim (ours b) [ false ↦ b | true ↦ with_arms b (moved_arms goals [] b.arms) ]

-- "Goals are fixed first. Then, over listed blocks that are ours [..]"
unfoldable pub moved_all : Graph → Graph
unfolding moved_block goal
moved_all g = map (moved_block (goal g)) g

-- a block has an arm in
unfoldable pub entered : Graph → ℕ → Bool
unfolding any
entered g n = any (λ (b : Block). any (λ (a : Arm). eqb a.to n) b.arms) g

-- "each block with a goal, no arm in (all counted before the first is cleared) and mark 5 clear loses its arms, becomes a dead
-- end and weighs 0"
unfoldable pub cleared_block : (ℕ → Option ℕ) → Graph → Block → Block
unfolding entered is_addressed is_dead
cleared_block goals g b = elim (goals b.number) [
  | None ↦ b
  | Some m ↦
      elim (entered g b.number || is_addressed b.marks) [
        | true ↦ b
        | false ↦
            record { number = b.number; marks = cond (is_dead b.marks) b.marks (b.marks + 4); end = b.end; weight = 0; arms = [] }
      ]
]

-- the moves, then "Last," the clearing
unfoldable pub forward : Graph → Graph
unfolding cleared_block goal moved_all
forward g = let m = moved_all g in map (cleared_block (goal g) m) m

-- how many of these arms go elsewhere than those
unfoldable pub elsewhere : List Arm → List Arm → ℕ
elsewhere [] l = 0
elsewhere (a ∷ k) [] = 0
elsewhere (a ∷ k) (b ∷ l) = cond (eqb a.to b.to) 0 1 + elsewhere k l

-- the arms that go elsewhere, over all blocks
unfoldable pub moves_between : Graph → Graph → ℕ
unfolding elsewhere
moves_between [] h = 0
moves_between (b ∷ g) [] = 0
moves_between (b ∷ g) (c ∷ h) = elsewhere b.arms c.arms + moves_between g h

-- "Moves are counted before that."
unfoldable pub moves : Graph → ℕ
unfolding moves_between moved_all
moves g = moves_between g (moved_all g)
