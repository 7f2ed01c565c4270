-- The lines of the places that are laid, one more at a time, and the last line.
use Rattle.std.specs.Prelude.{ℕ, zero, suc, ◌≤◌, ◌<◌, ◌≡◌, Bool, List, [], ◌∷◌, ◌++◌, leb, length, get_or, drop, Option, None, Some}
use Rattle.limits.specs.Limits.{numbers, blocks}
use Rattle.marks.specs.Sets.{member}
use Rattle.rules.specs.Graph.{is_cold}
use Rattle.rules.specs.Exits.{Place, laid_graph}
use Rattle.rules.specs.Heads.{head_at, looped}
use Rattle.rules.specs.Listing.{line, decimal, letter, space, dash, split_word, none_word, place_lines}
use Rattle.records.specs.declared.Graph.{Graph}
use Rattle.records.specs.Tables.{tabled}
use Rattle.exits.specs.declared.Laid.{Laid}
use Rattle.exits.specs.Lays.{places_of}

-- ---- a line

-- words, with a space behind each
unfoldable pub words : List (List ℕ) → List ℕ
words [] = []
words (w ∷ l) = w ++ (space ∷ words l)

-- the front of a line: a place and its block
unfoldable pub front_of : ℕ → ℕ → ℕ → List ℕ
unfolding words decimal letter
front_of place number weight = words (decimal place ∷ letter (leb numbers number) 43 66 ∷ decimal number ∷ decimal weight ∷ [])

-- the back of it: how the block is laid
unfoldable pub back_of : ℕ → Bool → Bool → ℕ → List ℕ
unfolding line decimal letter is_cold
back_of marks head loops exit = line (letter (is_cold marks) 67 87 ∷ letter head 72 dash ∷ letter loops 76 dash ∷ decimal exit ∷ [])

-- the line of place i of what is laid, with the sets of its heads and of its blocks in loops
unfoldable pub line_at : Laid → List ℕ → List ℕ → ℕ → List ℕ
unfolding front_of back_of
line_at l heads loops i =
    let n = get_or l.graph.b.listed i 0 in
    front_of i n (get_or l.graph.b.weight n 0) ++ back_of (get_or l.graph.b.marks n 0) (member heads n) (member loops n) (get_or l.exits n 0)

-- the lines of the first i places
unfoldable pub lines_to : Laid → List ℕ → List ℕ → ℕ → List ℕ
unfolding line_at
lines_to l heads loops zero = []
lines_to l heads loops (suc i) = lines_to l heads loops i ++ line_at l heads loops i

-- the last line, of a split as an option: the rules number it
unfoldable pub last_line : Option ℕ → List ℕ
unfolding line decimal
last_line None = line (split_word ∷ none_word ∷ [])
last_line (Some split) = line (split_word ∷ decimal split ∷ [])

-- what printing asks for: numbers of blocks
pub record Printable (t : Graph) : Type 0 where
  pub few : t.blocks ≤ blocks
  pub low : (i : ℕ) → i < t.blocks → get_or t.b.listed i 0 < blocks

-- ---- the listing

-- the sets are those of the graph's heads and loops
pub record Shows (t : Graph) (heads loops : List ℕ) : Type 0 where
  pub heads_are : (i : ℕ) → i < t.blocks → member heads (get_or t.b.listed i 0) ≡ head_at (tabled t) i
  pub loops_are : (i : ℕ) → i < t.blocks → member loops (get_or t.b.listed i 0) ≡ looped (tabled t) (get_or t.b.listed i 0)

-- the listing of some places, with the cold part from place `split` on
unfoldable pub listing : List Place → Option ℕ → List ℕ
unfolding place_lines last_line laid_graph
listing l split = place_lines (laid_graph l) 0 l ++ last_line split

-- the text stands at the front of the bytes, the rest as it was, and `long` is how many bytes it has
pub record Printed (text before after : List ℕ) (long : ℕ) : Type 0 where
  pub bytes : after ≡ text ++ drop (length text) before
  pub ends : long ≡ length text

-- with its heads and loops, what is laid is printed
abbrev pub Prints : Laid → List ℕ → List ℕ → List ℕ → List ℕ → ℕ → Type 0
Prints l heads loops before after long = Shows l.graph heads loops → Printed (listing (places_of l) l.split) before after long
