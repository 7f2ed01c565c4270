-- THEOREM accepted_within: the graph of an accepted file is within the limits: numbers distinct and in range, one entry at most,
-- every arm to a listed block, no block with too many arms. Later theorems take this and nothing else of reading. Assumes nothing.
use Prim.Native.Nat.{ℕ, zero, suc, ◌+◌, ◌*◌, ◌/◌, ◌^◌, ◌≤◌, ◌<◌}
use native.Mathlib.Nat.{lt_of_not-le}
use native.Mathlib.Decide.{dec_le}
use native.Mathlib.Omega.{arith}
use mathlib.Core.Path.{◌≡◌, refl, sym, ap, subst, ◌∙◌}
use mathlib.Core.Bool.{Bool, true, false, cond, ◌&&◌, ◌||◌, true≢false}
use mathlib.Core.List.{List, [], ◌∷◌, ◌++◌, append-nil}
use lib.Dec.{eqb, ltb}
use lib.ListN.{length, get_or, take, drop, length-append}
use borrow.Author.Tests.{lt-ltb, eq-eqb, ne_eqb, eqb-false, ltb-true, leb-false}
use Rattle.limits.specs.Limits.{size, numbers, most_arms, marks_below, ends_below}
use Rattle.lists.proofs.Choices.{cond_elim, split_bool, or_false}
use Rattle.rules.specs.declared.Record.{Record}
use Rattle.rules.specs.declared.Record.TheVariants.{Block, Arm, Outside}
use Rattle.rules.specs.Graph as graph
use Rattle.rules.specs.Graph.{Graph, is_entry}
use Rattle.rules.specs.Records.{little, gap_zero, block_of, arm_of, record_of, fields, block_bytes, arm_bytes, record_at, before, records, leaving, arms_of, listing, blocks_of, graph_of, blocks_bytes, leaving_bytes, arms_bytes, written}
use Rattle.rules.specs.Refusals.{place_of, entry_of, arm_count, listed, record_checks, all_checks, too_many, panic_checks, Clear, verdict}
use Rattle.rules.specs.Within.{has, has_entry, arm_total, ArmsFit, BlockFits, BlocksFit, Within}
use Rattle.rules.proofs.Verdicts.{clear_parts}
use Rattle.rules.proofs.Listed.{arm_clear, outside_clear}
use Rattle.rules.proofs.Grouped.{written_length}
use Rattle.rules.proofs.RoundTrip.{take_small, drop_small, accepted}

-- ---- a record's fields are in range
bound : ℕ → ℕ
bound zero = 1
bound (suc k) = 256 * bound k

little_small : (r : List ℕ) (at k : ℕ) → ((i : ℕ) → get_or r i 0 < 256) → little r at k < bound k
unfolding bound
little_small r at zero h = omega arith
little_small r at (suc k) h = omega (arith, h at, little_small r (suc at) k h)

abbrev InRange : Record → Type 0
InRange (Block number marks end weight) = (number < numbers) × (marks < marks_below) × (end < ends_below) × (weight < 2 ^ 64)
InRange (Arm from to args weight) = (args < 2) × (weight < 2 ^ 64)
InRange Outside = Unit

module _ (r : List ℕ) (small : (i : ℕ) → get_or r i 0 < 256) where
  weight_range : little r 8 8 < 2 ^ 64
  unfolding bound
  weight_range = little_small r 8 8 small

  block_range : InRange (block_of r)
  unfolding block_of
  block_range =
      cond_elim InRange (ltb (get_or r 1 0) numbers) _ _
      (λ h. cond_elim InRange (ltb (get_or r 2 0) marks_below) _ _
      (λ k. cond_elim InRange (ltb (get_or r 3 0) ends_below) _ _
      (λ l. (ltb-true (get_or r 1 0) numbers h, ltb-true (get_or r 2 0) marks_below k, ltb-true (get_or r 3 0) ends_below l, weight_range))
      (λ l. tt))
      (λ k. tt))
      (λ h. tt)

  arm_range : InRange (arm_of r)
  unfolding arm_of
  arm_range = cond_elim InRange (ltb (get_or r 3 0) 2) _ _ (λ h. (ltb-true (get_or r 3 0) 2 h, weight_range)) (λ h. tt)

  record_range : InRange (record_of r)
  unfolding record_of
  record_range =
      cond_elim InRange (gap_zero r) _ _
      (λ g. cond_elim InRange (eqb (get_or r 0 0) 1) _ _ (λ h. block_range) (λ h. cond_elim InRange (eqb (get_or r 0 0) 2) _ _ (λ k. arm_range) (λ k. tt)))
      (λ g. tt)

abbrev AllInRange : List Record → Type 0
AllInRange [] = Unit
AllInRange (r ∷ l) = InRange r × AllInRange l

before_range : (s : List ℕ) → ((i : ℕ) → get_or s i 0 < 256) → (i : ℕ) → AllInRange (before s i)
unfolding before record_at
before_range s small zero = tt
before_range s small (suc i) =
    (record_range (take size (drop (size * i) s)) (take_small size (drop (size * i) s) (drop_small (size * i) s small)), before_range s small i)

-- ---- tests
or_none : (x : Bool) → x || false ≡ x
or_none true = refl
or_none false = refl

or_all : (x : Bool) → x || true ≡ true
or_all true = refl
or_all false = refl

or_assoc : (x y z : Bool) → x || (y || z) ≡ (x || y) || z
or_assoc true y z = refl
or_assoc false y z = refl

and_false : (x y : Bool) → x && y ≡ false → x ≡ true → y ≡ false
and_false true y e h = e
and_false false y e h = absurd (true≢false (sym h))

same_not : (n m : ℕ) → eqb n m ≡ false → eqb m n ≡ false
same_not n m e = ne_eqb m n (λ q. eqb-false n m e (sym q))

-- ---- one block more at the end of a graph
has_append : (n : ℕ) (g : Graph) (b : graph.Block) → has n (g ++ (b ∷ [])) ≡ has n g || eqb n b.number
unfolding has
has_append n [] b = or_none (eqb n b.number)
has_append n (c ∷ g) b = ap (λ (x : Bool). eqb n c.number || x) (has_append n g b) ∙ or_assoc (eqb n c.number) (has n g) (eqb n b.number)

entry_append : (g : Graph) (b : graph.Block) → has_entry (g ++ (b ∷ [])) ≡ has_entry g || is_entry b.marks
unfolding has_entry
entry_append [] b = or_none (is_entry b.marks)
entry_append (c ∷ g) b = ap (λ (x : Bool). is_entry c.marks || x) (entry_append g b) ∙ or_assoc (is_entry c.marks) (has_entry g) (is_entry b.marks)

fit_append : (w g : Graph) (b : graph.Block) → BlocksFit w g → BlockFits w b → has b.number g ≡ false → (is_entry b.marks ≡ true → has_entry g ≡ false)
    → BlocksFit w (g ++ (b ∷ []))
unfolding has has_entry
fit_append w [] b f h d e = ((h, refl, λ q. refl), tt)
fit_append w (c ∷ g) b f h d e =
    let k = or_false (eqb b.number c.number) (has b.number g) d in
    let other : has c.number (g ++ (b ∷ [])) ≡ false =
    has_append c.number g b ∙ rw (f.0.1, same_not b.number c.number k.0) in
    let one : is_entry c.marks ≡ true → has_entry (g ++ (b ∷ [])) ≡ false =
    λ q. entry_append g b
    ∙ rw (f.0.2 q)
    (split_bool (is_entry b.marks) (λ z. absurd (true≢false (sym q ∙ (or_false (is_entry c.marks) (has_entry g) (e z)).0))) (λ z. z)) in
    ((f.0.0, other, one), fit_append w g b f.1 h k.1 (λ q. (or_false (is_entry c.marks) (has_entry g) (e q)).1))

-- no block has too many arms
abbrev Calm : Graph → Type 0
Calm [] = Unit
Calm (b ∷ g) = (too_many b.end (length b.arms) ≡ false) × Calm g

calm_clear : (i : ℕ) (g : Graph) → Clear (panic_checks i g) → Calm g
unfolding panic_checks
calm_clear i [] c = tt
calm_clear i (b ∷ g) c = (c.0, calm_clear (suc i) g c.1)

calm_parts : (g : Graph) (b : graph.Block) → Calm (g ++ (b ∷ [])) → Calm g × (too_many b.end (length b.arms) ≡ false)
calm_parts [] b c = (tt, c.0)
calm_parts (x ∷ g) b c = let k = calm_parts g b c.1 in ((c.0, k.0), k.1)

-- ---- what is listed, in the graph and among the records
abbrev Arms : Type 0
Arms = ℕ → List graph.Arm

has_listed : (f : Arms) (n : ℕ) (l : List Record) → has n (blocks_of f l) ≡ ltb 0 (place_of n l)
unfolding blocks_of listing place_of has
has_listed f n [] = refl
has_listed f n (Block number marks end weight ∷ l) =
    has_append n (blocks_of f l) (record { number = number; marks = marks; end = end; weight = weight; arms = f number })
    ∙ go (has_listed f n l) (eqb n number)
  where
    go : has n (blocks_of f l) ≡ ltb 0 (place_of n l) → (b : Bool) → has n (blocks_of f l) || b ≡ ltb 0 (cond b (suc (length l)) (place_of n l))
    go rest true = or_all (has n (blocks_of f l)) ∙ sym (lt-ltb 0 (suc (length l)) (omega arith))
    go rest false = or_none (has n (blocks_of f l)) ∙ rest
has_listed f n (Arm from to args weight ∷ l) = ap (has n) (append-nil (blocks_of f l)) ∙ has_listed f n l
has_listed f n (Outside ∷ l) = ap (has n) (append-nil (blocks_of f l)) ∙ has_listed f n l

entry_listed : (f : Arms) (l : List Record) → has_entry (blocks_of f l) ≡ ltb 0 (entry_of l)
unfolding blocks_of listing entry_of has_entry
entry_listed f [] = refl
entry_listed f (Block number marks end weight ∷ l) =
    entry_append (blocks_of f l) (record { number = number; marks = marks; end = end; weight = weight; arms = f number })
    ∙ go (entry_listed f l) (is_entry marks)
  where
    go : has_entry (blocks_of f l) ≡ ltb 0 (entry_of l) → (b : Bool) → has_entry (blocks_of f l) || b ≡ ltb 0 (cond b (suc (length l)) (entry_of l))
    go rest true = or_all (has_entry (blocks_of f l)) ∙ sym (lt-ltb 0 (suc (length l)) (omega arith))
    go rest false = or_none (has_entry (blocks_of f l)) ∙ rest
entry_listed f (Arm from to args weight ∷ l) = ap has_entry (append-nil (blocks_of f l)) ∙ entry_listed f l
entry_listed f (Outside ∷ l) = ap has_entry (append-nil (blocks_of f l)) ∙ entry_listed f l

-- what is listed stays listed
place_more : (m : ℕ) (r : Record) (l : List Record) → 0 < place_of m l → 0 < place_of m (r ∷ l)
unfolding place_of
place_more m (Block number marks end weight) l h = cond_elim (λ (p : ℕ). 0 < p) (eqb m number) (suc (length l)) (place_of m l) (λ e. omega arith) (λ e. h)
place_more m (Arm from to args weight) l h = h
place_more m Outside l h = h

-- ---- every arm goes to a listed block
fit_arms : (w : Graph) (x y : List graph.Arm) → ArmsFit w x → ArmsFit w y → ArmsFit w (x ++ y)
fit_arms w [] y h k = k
fit_arms w (a ∷ x) y h k = (h.0, fit_arms w x y h.1 k)

arms_fit : (w : Graph) (n : ℕ) (l : List Record) → AllInRange l → Clear (all_checks l) → ((m : ℕ) → 0 < place_of m l → has m w ≡ true) → ArmsFit w (arms_of n l)
unfolding all_checks arms_of leaving
arms_fit w n [] r c h = tt
arms_fit w n (Block number marks end weight ∷ l) r c h =
    let k = clear_parts (all_checks l) (record_checks l (Block number marks end weight)) c in
    fit_arms w (arms_of n l) [] (arms_fit w n l r.1 k.0 (λ m p. h m (place_more m (Block number marks end weight) l p))) tt
arms_fit w n (Arm from to args weight ∷ l) r c h =
    let k = clear_parts (all_checks l) (record_checks l (Arm from to args weight)) c in
    let t = arm_clear l from to args weight k.1 in
    fit_arms w (arms_of n l) (cond (eqb n from) (record { to = to; args = args; weight = weight } ∷ []) [])
    (arms_fit w n l r.1 k.0 (λ m p. h m (place_more m (Arm from to args weight) l p)))
    (cond_elim (ArmsFit w) (eqb n from) (record { to = to; args = args; weight = weight } ∷ []) []
    (λ e. ((h to (place_more to (Arm from to args weight) l t.to_listed), r.0.0, r.0.1), tt))
    (λ e. tt))
arms_fit w n (Outside ∷ l) r c h = absurd (outside_clear l (clear_parts (all_checks l) (record_checks l Outside) c).1)

-- ---- every block fits
blocks_fit : (w : Graph) (f : Arms) (l : List Record) → AllInRange l → Clear (all_checks l) → ((n : ℕ) → ArmsFit w (f n)) → Calm (blocks_of f l) → BlocksFit w (blocks_of f l)
unfolding all_checks blocks_of listing record_checks listed
blocks_fit w f [] r c a q = tt
blocks_fit w f (Block number marks end weight ∷ l) r c a q =
    let b : graph.Block = record { number = number; marks = marks; end = end; weight = weight; arms = f number } in
    let k = clear_parts (all_checks l) (record_checks l (Block number marks end weight)) c in
    let p = calm_parts (blocks_of f l) b q in
    fit_append w (blocks_of f l) b (blocks_fit w f l r.1 k.0 a p.0)
    (record { number = r.0.0; marks = r.0.1; end = r.0.2; weight = r.0.3; arms = a number; calm = p.1 })
    (has_listed f number l ∙ k.1.1.0)
    (λ e. entry_listed f l ∙ and_false (is_entry marks) (ltb 0 (entry_of l)) k.1.1.1.0 e)
blocks_fit w f (Arm from to args weight ∷ l) r c a q =
    let k = clear_parts (all_checks l) (record_checks l (Arm from to args weight)) c in
    subst (BlocksFit w) (sym (append-nil (blocks_of f l))) (blocks_fit w f l r.1 k.0 a (subst Calm (append-nil (blocks_of f l)) q))
blocks_fit w f (Outside ∷ l) r c a q = absurd (outside_clear l (clear_parts (all_checks l) (record_checks l Outside) c).1)

-- ---- at most so many blocks: their numbers are distinct and below `numbers`
one_if : Bool → ℕ
one_if true = 1
one_if false = 0

-- how many numbers below k are blocks'
below : ℕ → Graph → ℕ
below zero g = 0
below (suc k) g = one_if (has k g) + below k g

one_most : (b : Bool) → one_if b ≤ 1
unfolding one_if
one_most true = omega arith
one_most false = omega arith

below_most : (k : ℕ) (g : Graph) → below k g ≤ k
unfolding below
below_most zero g = omega arith
below_most (suc k) g = omega (arith, one_most (has k g), below_most k g)

below_past : (k : ℕ) (b : graph.Block) (g : Graph) → k ≤ b.number → below k (b ∷ g) ≡ below k g
unfolding below has
below_past zero b g h = refl
below_past (suc k) b g h = rw (ne_eqb k b.number (λ e. omega (arith, h, e)), below_past k b g (omega (arith, h)))

below_more : (k : ℕ) (b : graph.Block) (g : Graph) → b.number < k → has b.number g ≡ false → below k (b ∷ g) ≡ suc (below k g)
unfolding below has one_if
below_more zero b g h d = absurd (omega (arith, h))
below_more (suc k) b g h d =
    elim (dec_le k b.number) [
      | yes z ↦
          (let e : k ≡ b.number = omega (arith, h) in
          let own : has k g ≡ false = ap (λ (m : ℕ). has m g) e ∙ d in
          rw (eq-eqb k b.number e, own, below_past k b g (omega (arith, e))) (omega arith))
      | no z ↦
          (let l : b.number < k = lt_of_not-le z in
          rw (ne_eqb k b.number (λ e. omega (arith, l, e)), below_more k b g l d) (omega arith))
    ]

below_none : (k : ℕ) → below k [] ≡ 0
unfolding below has one_if
below_none zero = refl
below_none (suc k) = rw (below_none k)

few_blocks : (w : Graph) (g : Graph) → BlocksFit w g → length g ≡ below numbers g
few_blocks w [] f = sym (below_none numbers)
few_blocks w (b ∷ g) f = ap suc (few_blocks w g f.1) ∙ sym (below_more numbers b g f.0.0.number f.0.1)

-- ---- at most so many arms: as many as there are arm records
blocks_bytes_lem : (g : Graph) → length (blocks_bytes g) ≡ size * length g
unfolding blocks_bytes block_bytes fields
blocks_bytes_lem [] = refl
blocks_bytes_lem (b ∷ g) = simp length-append (omega (arith, blocks_bytes_lem g))

leaving_bytes_lem : (n : ℕ) (l : List graph.Arm) → length (leaving_bytes n l) ≡ size * length l
unfolding leaving_bytes arm_bytes fields
leaving_bytes_lem n [] = refl
leaving_bytes_lem n (a ∷ l) = simp length-append (omega (arith, leaving_bytes_lem n l))

arms_bytes_lem : (g : Graph) → length (arms_bytes g) ≡ size * arm_total g
unfolding arms_bytes arm_total
arms_bytes_lem [] = refl
arms_bytes_lem (b ∷ g) = simp length-append (omega (arith, leaving_bytes_lem b.number b.arms, arms_bytes_lem g))

pub file_bytes : (g : Graph) → length (written g) ≡ size * length g + size * arm_total g
unfolding written
file_bytes g = simp length-append (omega (arith, blocks_bytes_lem g, arms_bytes_lem g))

-- a record is a block or an arm
both_kinds : (f : Arms) (l : List Record) → Clear (all_checks l) → length (blocks_of f l) + arm_count l ≡ length l
unfolding all_checks blocks_of listing arm_count
both_kinds f [] c = refl
both_kinds f (Block number marks end weight ∷ l) c =
    let k = clear_parts (all_checks l) (record_checks l (Block number marks end weight)) c in
    simp length-append (omega (arith, both_kinds f l k.0))
both_kinds f (Arm from to args weight ∷ l) c =
    let k = clear_parts (all_checks l) (record_checks l (Arm from to args weight)) c in
    simp length-append (omega (arith, both_kinds f l k.0))
both_kinds f (Outside ∷ l) c = absurd (outside_clear l (clear_parts (all_checks l) (record_checks l Outside) c).1)

few_records : (l : List Record) → Clear (all_checks l) → arm_count l ≤ most_arms
unfolding all_checks arm_count record_checks
few_records [] c = omega arith
few_records (Block number marks end weight ∷ l) c = few_records l (clear_parts (all_checks l) (record_checks l (Block number marks end weight)) c).0
few_records (Arm from to args weight ∷ l) c =
    let k = clear_parts (all_checks l) (record_checks l (Arm from to args weight)) c in
    omega (arith, leb-false most_arms (arm_count l) k.1.1.1.0)
few_records (Outside ∷ l) c = few_records l (clear_parts (all_checks l) (record_checks l Outside) c).0

-- ---- the whole
pub records_within : (l : List Record) → AllInRange l → Clear (all_checks l) → Clear (panic_checks 0 (graph_of l)) → Within (graph_of l)
unfolding graph_of
records_within l r c q =
    let w = graph_of l in
    let f : Arms = λ n. arms_of n l in
    let reach : (m : ℕ) → 0 < place_of m l → has m w ≡ true = λ m p. has_listed f m l ∙ lt-ltb 0 (place_of m l) p in
    let fit : BlocksFit w w = blocks_fit w f l r c (λ n. arms_fit w n l r c reach) (calm_clear 0 w q) in
    record {
      few = omega (arith, few_blocks w w fit, below_most numbers w);
      few_arms = omega (arith, file_bytes w, written_length l c, both_kinds f l c, few_records l c);
      each = fit;
    }

-- THE THEOREM
pub accepted_within : (s : List ℕ) → ((i : ℕ) → get_or s i 0 < 256) → (verdict s).number ≡ 0 → Within (graph_of (records s))
unfolding records
accepted_within s small e =
    let a = accepted s e in
    records_within (before s (length s / size)) (before_range s small (length s / size)) a.clear a.calm
