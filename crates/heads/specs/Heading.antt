-- Heads by tables: the blocks that are entered from behind, and what is marked in the end.
use Rattle.std.specs.Prelude.{ℕ, zero, suc, ◌+◌, ◌<◌, ◌≡◌, Bool, false, ◌&&◌, ◌||◌, List, eqb, leb, get_or}
use Rattle.rules.specs.Heads.{head_at}
use Rattle.records.specs.declared.Graph.{Graph}
use Rattle.records.specs.Tables.{tabled}
use Rattle.marks.specs.Sets.{member}

-- block t stands at place p or before it, counted from 1, and is of one piece with block c
unfoldable pub behind : List ℕ → List ℕ → ℕ → ℕ → ℕ → Bool
behind place piece c p t = leb (get_or place t 0) p && eqb (get_or piece t 0) (get_or piece c 0)

-- one of the first n arms of the block at place i, counted from 0, enters block m from behind
unfoldable pub arms_back : Graph → List ℕ → ℕ → ℕ → ℕ → Bool
unfolding behind
arms_back t piece i zero m = false
arms_back t piece i (suc n) m =
    let c = get_or t.b.listed i 0 in
    arms_back t piece i n m || (eqb m (get_or t.a.to (get_or t.a.first c 0 + n) 0) && behind t.b.place piece c (suc i) m)

-- an arm of the first i listed blocks does
unfoldable pub back_to : Graph → List ℕ → ℕ → ℕ → Bool
unfolding arms_back
back_to t piece zero m = false
back_to t piece (suc i) m = back_to t piece i m || arms_back t piece i (get_or t.a.count (get_or t.b.listed i 0) 0) m

-- a block is heavy enough, and entered from behind
unfoldable pub heads : List ℕ → List ℕ → ℕ → ℕ → Bool
heads weight back floor m = leb floor (get_or weight m 0) && member back m

-- block m is one of those at the places 1 to i, the first left out
unfoldable pub head_to : List ℕ → (ℕ → Bool) → ℕ → ℕ → Bool
head_to listed p zero m = false
head_to listed p (suc i) m = head_to listed p i m || (leb 1 i && eqb m (get_or listed i 0) && p m)

-- the set has the graph's heads, by place
abbrev pub HeadsOf : Graph → List ℕ → Type 0
HeadsOf t set = (i : ℕ) → i < t.blocks → member set (get_or t.b.listed i 0) ≡ head_at (tabled t) i
