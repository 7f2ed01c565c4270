-- Document 01, "Heads": where a loop is entered from behind, "over the laid graph with bridges". Here too is mutual reach, of which
-- the classes of `cycles` are made.
use Rattle.std.specs.Prelude.{ℕ, ◌/◌, max, Bool, not, ◌&&◌, List, [], ◌∷◌, eqb, leb, length, get_or, drop}
use Rattle.rules.specs.Lists.{keep, any, foldl, mem, range}
use Rattle.rules.specs.Graph.{Block, Graph, no_block, numbers_of, targets}
use Rattle.rules.specs.Spread.{least}

-- block b has an arm in from a block of the set
unfoldable pub reached_from : Graph → List ℕ → ℕ → Bool
unfolding any mem targets
reached_from g s b = any (λ (x : Block). mem x.number s && mem b (targets x)) g

-- the blocks that block a reaches by a chain of arms, itself among them
unfoldable pub reach : Graph → ℕ → List ℕ
unfolding reached_from least numbers_of
reach g a = least (numbers_of g) (reached_from g) (a ∷ [])

-- "whose weights count for the hottest"
unfoldable pub hottest : Graph → ℕ
unfolding foldl
hottest g = foldl (λ (m : ℕ) (b : Block). max m b.weight) 0 g

-- the least weight of a head: a hundredth of the hottest
unfoldable pub head_floor : Graph → ℕ
unfolding hottest
head_floor g = hottest g / 100

-- the block at place i is a head: past the first place, heavy enough, and entered from its own or a later place whose block it reaches
unfoldable pub head_at : Graph → ℕ → Bool
unfolding head_floor reach any mem targets no_block
head_at g i =
    let b = get_or g i no_block in
    leb 1 i && leb (head_floor g) b.weight && any (λ (c : Block). mem b.number (targets c) && mem c.number (reach g b.number)) (drop i g)

-- the places of the heads
unfoldable pub heads : Graph → List ℕ
unfolding head_at range keep
heads g = keep (head_at g) (range 0 (length g))

-- each of the two reaches the other: they are of one mutual-reach class
unfoldable pub together : Graph → ℕ → ℕ → Bool
unfolding reach mem
together g n m = mem m (reach g n) && mem n (reach g m)

-- "its mutual-reach class in the laid graph, bridges counted, has two or more blocks"
unfoldable pub looped : Graph → ℕ → Bool
unfolding any together
looped g n = any (λ (b : Block). not (eqb b.number n) && together g n b.number) g
