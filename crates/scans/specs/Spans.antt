-- The plain order cut into spans, and what is known of each.
use Rattle.std.specs.Prelude.{ℕ, ◌+◌, ◌*◌, ◌/◌, ◌%◌, ◌<◌, min, ◌≡◌, List, get_or, replicate, Option, None, Some}
use Rattle.records.specs.declared.Order.{Order}
use Rattle.scans.specs.declared.spans.Spans.{Spans}

-- so many places are a span
abbrev pub width : ℕ
width = 16

-- how many spans there can be
abbrev pub spans : ℕ
spans = 16

-- the span that block n is in
abbrev pub span_of : Spans → ℕ → ℕ
span_of s n = get_or s.span n 0 % spans

-- how many spans there are of so many places
abbrev pub count_of : ℕ → ℕ
count_of len = (len + 15) / width

-- the spans, of which something else is known
abbrev pub with_known : Spans → List (Option (Option ℕ)) → Spans
with_known s known = record { span = s.span; left = s.left; upto = s.upto; known = known; count = s.count }

-- the first i of an order's places are cut: each block there has its span, and each span up to there its end
pub record CutTo (order : List ℕ) (i : ℕ) (span upto : List ℕ) : Type 0 where
  pub span_is : (j : ℕ) → j < i → get_or span (get_or order j 0) 0 ≡ j / width
  pub upto_is : (g : ℕ) → width * g < i → get_or upto g 0 ≡ min i (width * g + width)

-- an order cut into spans: all of it is left, and nothing known
pub record Cut (o : Order) (s : Spans) : Type 0 where
  pub cut_to : CutTo o.block o.len s.span s.upto
  pub left_is : s.left ≡ o.block
  pub known_is : s.known ≡ replicate spans None
  pub count_is : s.count ≡ count_of o.len

-- ---- as blocks are laid
-- o is known to be the best start of span g
abbrev pub Known : Spans → ℕ → Option ℕ → Type 0
Known s g o = get_or s.known g None ≡ Some o

-- what is known was known before, and the heaviest arms into the blocks of such a span are the same; all else is as it was
pub record Forgets (s : Spans) (reached : List ℕ) (s' : Spans) (reached' : List ℕ) : Type 0 where
  pub rest : s' ≡ with_known s s'.known
  pub same : (g : ℕ) (o : Option ℕ) → Known s' g o → Known s g o
  pub kept : (m : ℕ) (o : Option ℕ) → Known s' (span_of s' m) o → get_or reached' m 0 ≡ get_or reached m 0

-- nothing is known of the span of block n
abbrev pub Forgotten : Spans → ℕ → Type 0
Forgotten s n = get_or s.known (span_of s n) None ≡ None
