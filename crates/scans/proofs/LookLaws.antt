-- The best start of a list is that of what is not laid in it, and of two lists that of their bests; what a look at a span leaves, and the
-- search over all spans. Assumes nothing.
use Prim.Native.Nat.{ℕ, ◌+◌, ◌*◌, ◌-◌, ◌≤◌, ◌<◌, min}
use native.Mathlib.Omega.{arith}
use mathlib.Core.Path.{◌≡◌, refl, sym, ap, ◌∙◌}
use mathlib.Core.Bool.{Bool, true, false, not, cond, ◌&&◌, true≢false}
use mathlib.Core.Logic.{inl, inr}
use mathlib.Core.List.{List, [], ◌∷◌, ◌++◌}
use Rattle.std.specs.Prelude.{Option, None, Some, filter, fold}
use Rattle.std.proofs.lemmas.List.{drop-take}
use Rattle.std.proofs.lemmas.List.Elements.{filter-append}
use Rattle.std.proofs.lemmas.List.Sums.{fold-append}
use lib.Dec.{T, leb}
use lib.ListN.{length, get_or, take, drop, set, length-take, length-drop, take-append-drop}
use lib.Seq.{slice, ext_get_or, get_or-take, get_or-drop, take-take, take_all, get_or-set_same, get_or-set_other}
use Rattle.lists.proofs.Choices.{split_lt}
use Rattle.rules.specs.Traces.{Seed, below}
use Rattle.rules.proofs.ChoiceRules.{below_ranks}
use Rattle.records.specs.declared.Blocks.{Blocks}
use Rattle.marks.specs.Sets.{member}
use Rattle.seeds.specs.Starts.{seed_by, startable_by, ahead, best_of}
use Rattle.seeds.proofs.StartLaws.{best_starts}
use Rattle.scans.specs.declared.spans.Spans.{Spans}
use Rattle.scans.specs.Spans.{width, spans}
use Rattle.scans.specs.Looks.{free, Sifted, span_at, left_in, Spanned, Left, Knows, Told, Searched}
use Rattle.scans.proofs.SpanLaws.{split_same}

-- ---- two lists
is_true : (b : Bool) → T b → b ≡ true
is_true true t = refl
is_true false t = absurd t

up : (a b c : Seed) → below a b ≡ true → below b c ≡ true → below a c ≡ true
up a b c e f = is_true (below a c) (below_ranks.past a b c (rw e tt) (rw f tt))

flat : (a b c : Seed) → below a b ≡ false → below b c ≡ false → below a c ≡ false
flat a b c e f = go (below a c) refl
  where
    go : (t : Bool) → below a c ≡ t → t ≡ false
    go true q = absurd (true≢false (sym (is_true (below b c) (below_ranks.level a b c (rw e tt) (rw q tt))) ∙ f))
    go false q = refl

-- the better of two starts, the former on ties
abbrev pub met : (ℕ → Seed) → Option ℕ → Option ℕ → Option ℕ
met seed s None = s
met seed s (Some n) = ahead seed s n

module _ (seed : ℕ → Seed) where
  -- the first of the greatest is that of the greatest of two parts
  ahead_two : (s : Option ℕ) (x n : ℕ) → ahead seed (ahead seed s x) n ≡ met seed s (ahead seed (Some x) n)
  unfolding ahead
  ahead_two None x n = go (below (seed x) (seed n))
    where
      go : (t : Bool) → cond t (Some n) (Some x) ≡ met seed None (cond t (Some n) (Some x))
      go true = refl
      go false = refl
  ahead_two (Some b) x n = go (below (seed b) (seed x)) (below (seed x) (seed n)) refl refl
    where
      go : (t u : Bool) → below (seed b) (seed x) ≡ t → below (seed x) (seed n) ≡ u → ahead seed (cond t (Some x) (Some b)) n ≡ met seed (Some b) (cond u (Some n) (Some x))
      go true true e f = rw (f, up (seed b) (seed x) (seed n) e f) refl
      go true false e f = rw (f, e) refl
      go false true e f = refl
      go false false e f = rw (e, flat (seed b) (seed x) (seed n) e f) refl

  ahead_met : (s r : Option ℕ) (n : ℕ) → ahead seed (met seed s r) n ≡ met seed s (ahead seed r n)
  unfolding ahead
  ahead_met s None n = refl
  ahead_met s (Some x) n = ahead_two s x n

  met_fold : (s r : Option ℕ) (l : List ℕ) → fold (ahead seed) (met seed s r) l ≡ met seed s (fold (ahead seed) r l)
  met_fold s r [] = refl
  met_fold s r (n ∷ l) = ap (λ (x : Option ℕ). fold (ahead seed) x l) (ahead_met s r n) ∙ met_fold s (ahead seed r n) l

filter_filter : (p q : ℕ → Bool) (l : List ℕ) → ((n : ℕ) → q n ≡ false → p n ≡ false) → filter p (filter q l) ≡ filter p l
filter_filter p q [] imp = refl
filter_filter p q (x ∷ l) imp = go (q x) refl (filter_filter p q l imp)
  where
    go : (t : Bool) → q x ≡ t → filter p (filter q l) ≡ filter p l → filter p (cond t (x ∷ filter q l) (filter q l)) ≡ cond (p x) (x ∷ filter p l) (filter p l)
    go true e ih = ap (λ (r : List ℕ). cond (p x) (x ∷ r) r) ih
    go false e ih = rw (imp x e) ih

module _ (b : Blocks) (seen reached : List ℕ) (low : ℕ) where
  -- the best of two lists is the better of their bests
  pub best_two : (l k : List ℕ) → best_of b seen reached low (l ++ k) ≡ met (seed_by b reached) (best_of b seen reached low l) (best_of b seen reached low k)
  unfolding best_of
  best_two l k =
      let p = startable_by b seen low in
      let seed = seed_by b reached in
      rw (filter-append p l k, fold-append (ahead seed) None (filter p l) (filter p k)) (met_fold seed (fold (ahead seed) None (filter p l)) None (filter p k))

  pub best_none : best_of b seen reached low [] ≡ None
  unfolding best_of
  best_none = refl

  unfree : (n : ℕ) → free seen n ≡ false → startable_by b seen low n ≡ false
  unfolding free startable_by
  unfree n e = go (member seen n) e
    where
      go : (t : Bool) → not t ≡ false → not t && leb low (get_or b.weight n 0) ≡ false
      go true e = refl
      go false e = absurd (true≢false e)

  -- the best is that of those not laid
  pub best_free : (l k : List ℕ) → filter (free seen) l ≡ filter (free seen) k → best_of b seen reached low l ≡ best_of b seen reached low k
  unfolding best_of
  best_free l k e =
      let p = startable_by b seen low in
      ap (fold (ahead (seed_by b reached)) None) (sym (filter_filter p (free seen) l unfree) ∙ ap (filter p) e ∙ filter_filter p (free seen) k unfree)

-- ---- a span that is looked at, among the others
pub slice_mid : (a b : ℕ) (l : List ℕ) → a ≤ b → slice a b l ≡ take (b - a) (drop a l)
slice_mid a b l h = let e : a + (b - a) ≡ b = omega (arith, h) in ap (λ (x : ℕ). drop a (take x l)) (sym e) ∙ drop-take a (b - a) l

slice_same : (l k : List ℕ) (a b : ℕ) → length l ≡ length k → ((x : ℕ) → a ≤ x → x < b → get_or l x 0 ≡ get_or k x 0) → slice a b l ≡ slice a b k
slice_same l k a b z h = ext_get_or 0 (slice a b l) (slice a b k) long (λ i lt. at l i (inside i lt) ∙ h (a + i) (omega arith) (inside i lt) ∙ sym (at k i (inside i lt)))
  where
    long : length (slice a b l) ≡ length (slice a b k)
    long = length-drop a (take b l) ∙ ap (λ (n : ℕ). n - a) (length-take b l ∙ ap (min b) z ∙ sym (length-take b k)) ∙ sym (length-drop a (take b k))

    inside : (i : ℕ) → i < length (slice a b l) → a + i < b
    inside i lt = omega (arith, lt, length-drop a (take b l), length-take b l)

    at : (l : List ℕ) (i : ℕ) → a + i < b → get_or (slice a b l) i 0 ≡ get_or l (a + i) 0
    at l i lt = get_or-drop a (take b l) i 0 ∙ get_or-take b l (a + i) 0 lt

module _ (s : Spans) (sp : Spanned s) (g : ℕ) (lt : g < s.count) (upto_long : length s.upto ≡ spans) (known_long : length s.known ≡ spans)
    (seen left' : List ℕ) (same : length left' ≡ length s.left) (r : ℕ) (k : Sifted seen (width * g) (get_or s.upto g 0) s.left left' r) (o : Option ℕ) where
  -- the spans as they are then
  abbrev pub looked : Spans
  looked = record { span = s.span; left = left'; upto = set s.upto g r; known = set s.known g (Some o); count = s.count }

  ends_same : get_or (set s.upto g r) g 0 ≡ r
  ends_same = get_or-set_same s.upto g r 0 (omega (arith, sp.few))

  -- the places of another span are not looked at
  elsewhere : (h : ℕ) → (h ≡ g → ⊥) → h < s.count → (x : ℕ) → width * h ≤ x → x < get_or s.upto h 0 → get_or left' x 0 ≡ get_or s.left x 0
  elsewhere h ne lh x a b = k.other x (split_lt h g (λ c. inl (omega (arith, b, c, sp.to h lh))) (λ c. inr (omega (arith, a, c, ne, sp.to g lt))))

  pub left_looked : (plain : List ℕ) → Left seen s plain → Left seen looked plain
  unfolding left_in
  left_looked plain l = record {
    short = l.short;
    same = λ h lh. split_same h g
        (λ e. rw (e, ends_same) (ap (filter (free seen)) k.kept ∙ filter_filter (free seen) (free seen) (slice (width * g) (get_or s.upto g 0) s.left) (λ m f. f) ∙ l.same g lt))
        (λ ne. rw (get_or-set_other s.upto g h r 0 ne) (ap (filter (free seen)) (slice_same left' s.left (width * h) (get_or s.upto h 0) same (elsewhere h ne lh)) ∙ l.same h lh));
  }

  module _ (b : Blocks) (reached : List ℕ) (low : ℕ) (plain : List ℕ) (l : Left seen s plain) (best : o ≡ best_of b seen reached low (slice (width * g) r left')) where
    pub best_looked : o ≡ best_of b seen reached low (span_at plain g)
    unfolding left_in
    best_looked = best ∙ best_free b seen reached low (slice (width * g) r left') (span_at plain g)
        (ap (filter (free seen)) k.kept ∙ filter_filter (free seen) (free seen) (slice (width * g) (get_or s.upto g 0) s.left) (λ m f. f) ∙ l.same g lt)

    pub knows_looked : Knows b seen reached low s plain → Knows b seen reached low looked plain
    knows_looked q h lh x e = split_same h g
        (λ f. let z : get_or (set s.known g (Some o)) h None ≡ Some o = rw f (get_or-set_same s.known g (Some o) None (omega (arith, sp.few))) in let y : x ≡ o = cc in rw (y, f) best_looked)
        (λ f. q h lh x (sym (get_or-set_other s.known g h (Some o) None f) ∙ e))

-- ---- span by span
spans_more : (plain : List ℕ) (g : ℕ) → take (width * g) plain ++ span_at plain g ≡ take (width * (g + 1)) plain
unfolding span_at
spans_more plain g =
    let e : width * g + width ≡ width * (g + 1) = omega arith in
    ap (λ (l : List ℕ). l ++ drop (width * g) (take (width * g + width) plain)) (sym (take-take (width * g) (width * g + width) plain (omega arith)))
    ∙ take-append-drop (width * g) (take (width * g + width) plain) ∙ ap (λ (m : ℕ). take m plain) e

-- the first g spans have been searched
abbrev pub Searching : Blocks → List ℕ → List ℕ → ℕ → Spans → Spans → Option ℕ → ℕ → Type 0
Searching b seen reached low s s' best g =
    (plain : List ℕ) → Left seen s plain → Knows b seen reached low s plain
    → Left seen s' plain × Knows b seen reached low s' plain × (best ≡ best_of b seen reached low (take (width * g) plain))

module _ (b : Blocks) (seen reached : List ℕ) (low : ℕ) (s : Spans) where
  pub searching_none : Searching b seen reached low s s None 0
  searching_none plain l k = (l, k, sym (best_none b seen reached low))

  module _ (s' : Spans) (best : Option ℕ) (g : ℕ) (v : Searching b seen reached low s s' best g) where
    pub searching_more : (s'' : Spans) (r : Option ℕ) → Told b seen reached low s' s'' g r → Searching b seen reached low s s'' (met (seed_by b reached) best r) (g + 1)
    searching_more s'' r t plain l k =
        let w = v plain l k in
        let u = t plain w.0 w.1 in (
          u.0,
          u.1,
          rw (w.2, u.2) (sym (best_two b seen reached low (take (width * g) plain) (span_at plain g)) ∙ ap (best_of b seen reached low) (spans_more plain g)),
        )

    pub searching_last : s'.count ≤ g → Searched b seen reached low s s' best
    searching_last h plain l k =
        let w = v plain l k in
        (w.0, w.1, rw w.2 (rw (take_all (width * g) plain (omega (arith, h, w.0.short))) (best_starts b seen reached low plain)))
