-- Document 01, "The listing program": the lines of `blocklist`, as bytes.
use Rattle.std.specs.Prelude.{ℕ, zero, suc, ◌+◌, ◌/◌, ◌%◌, Bool, true, cond, List, [], ◌∷◌, ◌++◌, eqb, ltb}
use Rattle.limits.specs.Limits.{no_split}
use Rattle.rules.specs.Graph.{Graph, is_cold}
use Rattle.rules.specs.Records.{records, graph_of}
use Rattle.rules.specs.Refusals.{Verdict, verdict}
use Rattle.rules.specs.Exits.{Place, laid_graph}
use Rattle.rules.specs.Heads.{head_at, looped}
use Rattle.rules.specs.Laid.{layout, split_of}

-- ---- text

abbrev pub space : ℕ
space = 32

abbrev pub newline : ℕ
newline = 10

abbrev pub dash : ℕ
dash = 45

-- the decimal digits of a number, at most k
unfoldable pub digits : ℕ → ℕ → List ℕ
digits zero n = []
digits (suc k) n = cond (ltb n 10) ((48 + n) ∷ []) (digits k (n / 10) ++ ((48 + n % 10) ∷ []))

-- a weight has at most 20 digits
unfoldable pub decimal : ℕ → List ℕ
unfolding digits
decimal n = digits 20 n

-- words, with a space between them and a newline at the end
unfoldable pub line : List (List ℕ) → List ℕ
line [] = newline ∷ []
line (w ∷ []) = w ++ (newline ∷ [])
line (w ∷ v ∷ l) = w ++ (space ∷ line (v ∷ l))

-- one letter or another
unfoldable pub letter : Bool → ℕ → ℕ → List ℕ
letter c x y = cond c x y ∷ []

-- `split`, `none`, `refused` and `at`
abbrev pub split_word : List ℕ
split_word = 115 ∷ 112 ∷ 108 ∷ 105 ∷ 116 ∷ []

abbrev pub none_word : List ℕ
none_word = 110 ∷ 111 ∷ 110 ∷ 101 ∷ []

abbrev pub refused_word : List ℕ
refused_word = 114 ∷ 101 ∷ 102 ∷ 117 ∷ 115 ∷ 101 ∷ 100 ∷ []

abbrev pub at_word : List ℕ
at_word = 97 ∷ 116 ∷ []

-- ---- the lines

-- "per place: place, B or + (bridge), number, weight, W or C, H or -, L or - [..], exit"
unfoldable pub place_line : Graph → ℕ → Place → List ℕ
unfolding line decimal letter is_cold head_at looped
place_line g i p =
    let b = p.block in
    line (
    decimal i ∷ letter p.is_bridge 43 66 ∷ decimal b.number ∷ decimal b.weight ∷ letter (is_cold b.marks) 67 87
    ∷ letter (head_at g i) 72 dash ∷ letter (looped g b.number) 76 dash ∷ decimal p.exit ∷ [])

-- the places from place i on
unfoldable pub place_lines : Graph → ℕ → List Place → List ℕ
unfolding place_line
place_lines g i [] = []
place_lines g i (p ∷ l) = place_line g i p ++ place_lines g (suc i) l

-- "Last line: `split P` or `split none`."
unfoldable pub split_line : ℕ → List ℕ
unfolding line decimal
split_line split = line (split_word ∷ cond (eqb split no_split) none_word (decimal split) ∷ [])

-- "A refusal prints only `refused N at P`."
unfoldable pub refusal_line : Verdict → List ℕ
unfolding line decimal
refusal_line v = line (refused_word ∷ decimal v.number ∷ at_word ∷ decimal v.place ∷ [])

-- "blocklist [..] forwards, reorders, prints per place"; then the last line
unfoldable pub listing_of : Graph → List ℕ
unfolding layout laid_graph place_lines split_line split_of
listing_of g = let l = layout true true g in place_lines (laid_graph l) 0 l ++ split_line (split_of true true g)

-- "`blocklist` reads records from standard input, forwards, reorders, prints"
unfoldable pub blocklist : List ℕ → List ℕ
unfolding verdict records graph_of listing_of refusal_line
blocklist s = cond (eqb (verdict s).number 0) (listing_of (graph_of (records s))) (refusal_line (verdict s))
