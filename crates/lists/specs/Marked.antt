-- How many of the first n entries of a table are not zero.
use Rattle.std.specs.Prelude.{ℕ, zero, suc, ◌+◌, List, get_or}

unfoldable pub one : ℕ → ℕ
one zero = 0
one (suc x) = 1

unfoldable pub marked : List ℕ → ℕ → ℕ
unfolding one
marked l zero = 0
marked l (suc n) = one (get_or l n 0) + marked l n
