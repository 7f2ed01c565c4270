-- The set of block numbers that some bytes hold.
use Rattle.std.specs.Prelude.{ℕ, zero, suc, ◌+◌, Bool, not, List, eqb, get_or}
use Rattle.limits.specs.Limits.{blocks}
use Rattle.rules.proofs.Counting.{one}

-- how many bytes hold a set
abbrev pub room : ℕ
room = blocks

-- n is in the set
unfoldable pub member : List ℕ → ℕ → Bool
member s n = not (eqb (get_or s n 0) 0)

-- how many of the first n numbers pass the test
unfoldable pub below : (ℕ → Bool) → ℕ → ℕ
below p zero = 0
below p (suc n) = one (p n) + below p n

-- how many numbers of blocks are in the set
unfoldable pub size : List ℕ → ℕ
size s = below (member s) blocks
