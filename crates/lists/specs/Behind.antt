-- A list in which some elements are exchanged.
use Rattle.std.specs.Prelude.{ℕ, ◌+◌, List, ◌++◌, length, take, drop}

-- d with ys in the place of what stood behind its first a elements, and all else kept
unfoldable pub behind : ℕ → List ℕ → List ℕ → List ℕ
behind a ys d = (take a d ++ ys) ++ drop (a + length ys) d
