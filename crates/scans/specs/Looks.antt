-- A look at what is left of a span, and the search over all spans of an order.
use Rattle.std.specs.Prelude.{ℕ, ◌+◌, ◌*◌, ◌≤◌, ◌<◌, ◌≡◌, Bool, not, List, ◌⊎◌, length, get_or, filter, Option}
use Rattle.std.proofs.Math.Seq.{slice}
use Rattle.records.specs.declared.Blocks.{Blocks}
use Rattle.marks.specs.Sets.{member}
use Rattle.seeds.specs.Starts.{best_of, StartsAt}
use Rattle.scans.specs.declared.spans.Spans.{Spans}
use Rattle.scans.specs.Spans.{width, spans, Known}

-- block m is not laid
unfoldable pub free : List ℕ → ℕ → Bool
free seen m = not (member seen m)

-- the places from `from` up to `end` are looked at: those not laid now stand together, up to r, and no other place has changed
pub record Sifted (seen : List ℕ) (from end : ℕ) (left left' : List ℕ) (r : ℕ) : Type 0 where
  pub low : from ≤ r
  pub high : r ≤ end
  pub kept : slice from r left' ≡ filter (free seen) (slice from end left)
  pub other : (x : ℕ) → (x < from) ⊎ (end ≤ x) → get_or left' x 0 ≡ get_or left x 0

-- span g of an order, and what is left of it
unfoldable pub span_at : List ℕ → ℕ → List ℕ
span_at plain g = slice (width * g) (width * g + width) plain

unfoldable pub left_in : Spans → ℕ → List ℕ
left_in s g = slice (width * g) (get_or s.upto g 0) s.left

-- what is left of each span stands within it
pub record Spanned (s : Spans) : Type 0 where
  pub few : s.count ≤ spans
  pub from : (g : ℕ) → g < s.count → width * g ≤ get_or s.upto g 0
  pub to : (g : ℕ) → g < s.count → get_or s.upto g 0 ≤ width * g + width

-- of an order all blocks that are not laid are left, each span's in their order
pub record Left (seen : List ℕ) (s : Spans) (plain : List ℕ) : Type 0 where
  pub short : length plain ≤ width * s.count
  pub same : (g : ℕ) → g < s.count → filter (free seen) (left_in s g) ≡ filter (free seen) (span_at plain g)

-- what is known of the spans of an order is its best start in each
abbrev pub Knows : Blocks → List ℕ → List ℕ → ℕ → Spans → List ℕ → Type 0
Knows b seen reached low s plain = (g : ℕ) → g < s.count → (o : Option ℕ) → Known s g o → o ≡ best_of b seen reached low (span_at plain g)

-- ---- what is found, for every order of which this is left and known
-- of span g
abbrev pub Told : Blocks → List ℕ → List ℕ → ℕ → Spans → Spans → ℕ → Option ℕ → Type 0
Told b seen reached low s s' g r =
    (plain : List ℕ) → Left seen s plain → Knows b seen reached low s plain
    → Left seen s' plain × Knows b seen reached low s' plain × (r ≡ best_of b seen reached low (span_at plain g))

-- of all
abbrev pub Searched : Blocks → List ℕ → List ℕ → ℕ → Spans → Spans → Option ℕ → Type 0
Searched b seen reached low s s' r =
    (plain : List ℕ) → Left seen s plain → Knows b seen reached low s plain
    → Left seen s' plain × Knows b seen reached low s' plain × StartsAt b plain seen reached low r
