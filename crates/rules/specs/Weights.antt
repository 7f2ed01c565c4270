-- Document 01's rulings on weights: "a weight is any u64; SCALE is 10,000; ONCE is 10,000".
use Rattle.std.specs.Prelude.{ℕ, zero, suc, ◌*◌, ◌/◌, min, Bool, ltb}

abbrev pub scale : ℕ
scale = 10000

abbrev pub once : ℕ
once = 10000

-- "the largest u64"
abbrev pub largest : ℕ
largest = 18446744073709551615

-- "`out_of` is w x 10,000 / whole rounded down, at most the largest u64, and 0 when whole is 0"
unfoldable pub share : ℕ → ℕ → ℕ
share w zero = 0
share w (suc n) = min (w * scale / suc n) largest

-- "Floor = entry weight [..] x often / 10,000 rounded down"
unfoldable pub floor : ℕ → ℕ → ℕ
floor entered often = entered * often / scale

-- "5 x arm > 4 x target weight"
unfoldable pub over_four_fifths : ℕ → ℕ → Bool
over_four_fifths arm target = ltb (4 * target) (5 * arm)
