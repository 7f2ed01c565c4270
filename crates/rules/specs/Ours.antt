-- Document 01, "Ours": the blocks whose arms may be moved.
use Rattle.std.specs.Prelude.{Bool, ◌&&◌, ◌||◌, eqb, leb, length}
use Rattle.rules.specs.Graph.{Block}

-- "Zero arms: no. One arm: ends 0, 1, 2. Two: end 2. Also end 3 with one or more arms."
unfoldable pub ours : Block → Bool
ours b =
    let n = length b.arms in
    (eqb n 1 && leb b.end 2) || (eqb n 2 && eqb b.end 2) || (leb 1 n && eqb b.end 3)
