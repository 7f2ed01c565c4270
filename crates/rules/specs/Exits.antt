-- Document 01, "Exits": how each block of an order is left, and the bridges this takes.
use Rattle.std.specs.Prelude.{ℕ, zero, suc, ◌+◌, Bool, true, false, cond, ◌&&◌, ◌||◌, List, [], ◌∷◌, ◌++◌, map, eqb, leb, length, get_or, Option, None, Some}
use Rattle.limits.specs.Limits.{numbers, blocks, no_split}
use Rattle.rules.specs.declared.Leaving.{Leaving}
use Rattle.rules.specs.declared.Leaving.TheVariants.{Nothing, Jump, Branch, Exchanged, Bridge}
use Rattle.rules.specs.Lists.{pick}
use Rattle.rules.specs.Graph.{Arm, Block, Graph, block_at, names, with_arms}
use Rattle.rules.specs.Split.{splits, warm_part, cold_part}

-- ---- the decision

-- "Ends 3, 4"
unfoldable pub indirect : ℕ → Bool
indirect end = leb 3 end && leb end 4

-- how a block with this end and these arms is left where `next` is laid next; with two arms or more, ends 0 and 1 are refused
unfoldable pub edges : Option ℕ → ℕ → List Arm → Leaving
unfolding indirect names
edges next end [] = Nothing
-- "One arm: jump unless next."
edges next end (x ∷ []) = pick (indirect end || names next x.to) Nothing Jump
edges next end (x ∷ y ∷ l) =
    -- "Ends 3, 4: none."
    pick (indirect end) Nothing (
    -- "End 5 with two or more arms: bridge arm 0 unless next."
    pick (eqb end 5) (pick (names next x.to) Nothing (Bridge 0)) (
    -- "End 6, two arms: bridge arm 1 unless next."
    pick (eqb end 6) (pick (names next y.to) Nothing (Bridge 1)) (
    -- "End 2, two arms: if arm 1 is next, keep; else if arm 0 is next, exchange; else bridge arm 1."
    pick (names next y.to) Branch (pick (names next x.to) Exchanged (Bridge 1)))))

-- "0 nothing, 1 jump to arm 0, 2 branch taken on true, 3 exchanged"; "Its exit byte is 2 when kept or bridged, 3 when exchanged; ends
-- 5 and 6 with two or more arms have exit 0."
unfoldable pub exit_of : ℕ → Leaving → ℕ
exit_of end Nothing = 0
exit_of end Jump = 1
exit_of end Branch = 2
exit_of end Exchanged = 3
exit_of end (Bridge i) = cond (eqb end 2) 2 0

-- ---- a block as it is laid

-- a place of the listing: a block or a bridge, with its exit byte
pub record Place : Type 0 where
  pub block : Block
  pub is_bridge : Bool
  pub exit : ℕ

-- what is found past the last arm
unfoldable pub no_arm : Arm
no_arm = record { to = blocks; args = 0; weight = 0 }

-- arm i replaced
unfoldable pub set_arm : ℕ → Arm → List Arm → List Arm
set_arm i a [] = []
set_arm zero a (x ∷ l) = a ∷ l
set_arm (suc i) a (x ∷ l) = x ∷ set_arm i a l

-- "exchange": the first two arms change places
unfoldable pub swapped : List Arm → List Arm
swapped [] = []
swapped (x ∷ []) = x ∷ []
swapped (x ∷ y ∷ l) = y ∷ x ∷ l

-- "the block's arm becomes a plain one to it of the same weight": the arms, where a bridge would be numbered `new`
unfoldable pub arms_left : ℕ → List Arm → Leaving → List Arm
unfolding set_arm swapped no_arm
arms_left new arms Nothing = arms
arms_left new arms Jump = arms
arms_left new arms Branch = arms
arms_left new arms Exchanged = swapped arms
arms_left new arms (Bridge i) = set_arm i (record { to = new; args = 0; weight = (get_or arms i no_arm).weight }) arms

-- a block as it is laid, left in this way
unfoldable pub laid_block : ℕ → Block → Leaving → Place
unfolding arms_left with_arms exit_of
laid_block new b v = record { block = with_arms b (arms_left new b.arms v); is_bridge = false; exit = exit_of b.end v }

-- "A bridge takes the arm with its arguments and weight, and weighs as much itself"; "A bridge's own exit is always 1."; bridges "are
-- cold only in the cold part"
unfoldable pub bridge_for : ℕ → Bool → Arm → Place
bridge_for new cold a =
    record { block = record { number = new; marks = cond cold 2 0; end = 0; weight = a.weight; arms = a ∷ [] }; is_bridge = true; exit = 1 }

-- the bridge that this way of leaving makes, if any
unfoldable pub bridge_of : ℕ → Bool → Block → Leaving → List Place
unfolding bridge_for no_arm
bridge_of new cold b Nothing = []
bridge_of new cold b Jump = []
bridge_of new cold b Branch = []
bridge_of new cold b Exchanged = []
bridge_of new cold b (Bridge i) = bridge_for new cold (get_or b.arms i no_arm) ∷ []

-- "Bridges are numbered 128 up as made"
unfoldable pub new_after : ℕ → Leaving → ℕ
new_after new Nothing = new
new_after new Jump = new
new_after new Branch = new
new_after new Exchanged = new
new_after new (Bridge i) = suc new

-- ---- an order as it is laid

-- "A warm part's last block has no next."
unfoldable pub next_in : List ℕ → Option ℕ
next_in [] = None
next_in (n ∷ l) = Some n

-- one part of the order, its bridges numbered from `new` up
unfoldable pub lay_part : Graph → Bool → ℕ → List ℕ → List Place
unfolding edges block_at next_in laid_block bridge_of new_after
lay_part g cold new [] = []
lay_part g cold new (n ∷ l) =
    let b = block_at g n in
    let v = edges (next_in l) b.end b.arms in
    laid_block new b v ∷ (bridge_of new cold b v ++ lay_part g cold (new_after new v) l)

-- how many bridges stand in the places
unfoldable pub bridges : List Place → ℕ
bridges [] = 0
bridges (p ∷ l) = let r = bridges l in cond p.is_bridge (suc r) r

-- the places of the warm part, which come first where there is a split
unfoldable pub warm_places : Graph → List ℕ → List Place
unfolding lay_part warm_part
warm_places g o = lay_part g false numbers (warm_part g o)

-- "warm, then cold, each in order"; without a split one part that is not cold
unfoldable pub lay : Graph → List ℕ → List Place
unfolding splits warm_places lay_part cold_part bridges
lay g o = elim (splits g) [
  | false ↦ lay_part g false numbers o
  | true ↦
      let w = warm_places g o in
      w ++ lay_part g true (numbers + bridges w) (cold_part g o)
]

-- "split place (256 for none)": the place of the cold part's first block
unfoldable pub split_place : Graph → List ℕ → ℕ
unfolding splits warm_places
split_place g o = cond (splits g) (length (warm_places g o)) no_split

-- the laid graph: "with bridges"
unfoldable pub laid_graph : List Place → Graph
laid_graph l = map (λ (p : Place). p.block) l
