-- The records of a graph, one more at a time. Assumes nothing.
use Prim.Native.Nat.{ℕ, zero, suc, ◌+◌, ◌-◌, ◌*◌, ◌≤◌, ◌<◌}
use native.Mathlib.Nat.{add-zero, add-suc}
use native.Mathlib.Numerals.{add-one}
use native.Mathlib.Omega.{arith}
use mathlib.Core.Path.{◌≡◌, refl, sym, ap, subst, ◌∙◌}
use mathlib.Core.List.{List, [], ◌∷◌, ◌++◌, append_assoc, append-nil}
use lib.ListN.{length, get_or, take, drop, length-append, take-append-drop}
use lib.Seq.{length-take-le}
use Rattle.limits.specs.Limits.{size}
use Rattle.lists.specs.Behind.{behind}
use Rattle.lists.proofs.Parts.{fill_more, behind_front}
use Rattle.rules.specs.Records.{fields, block_bytes, arm_bytes, blocks_bytes, leaving_bytes, arms_bytes, written}
use Rattle.rules.proofs.Grouped.{blocks_append, leaving_append, arms_append}
use Rattle.records.specs.declared.Blocks.{Blocks}
use Rattle.records.specs.declared.Arms.{Arms}
use Rattle.records.specs.declared.Graph.{Graph}
use Rattle.records.specs.Tables.{arm_at, arms_from, leaves, block_at, up_to, tabled}
use Rattle.records.proofs.TableLaws.{arms_more}
use Rattle.writer.specs.Files.{Writable}

-- ---- blocks
module _ (b : Blocks) (a : Arms) where
  blocks_more : (i : ℕ) → blocks_bytes (up_to b a (suc i)) ≡ blocks_bytes (up_to b a i) ++ block_bytes (block_at b a (get_or b.listed i 0))
  unfolding up_to blocks_bytes
  blocks_more i =
      blocks_append (up_to b a i) (block_at b a (get_or b.listed i 0) ∷ [])
      ∙ ap (λ (l : List ℕ). blocks_bytes (up_to b a i) ++ l) (append-nil (block_bytes (block_at b a (get_or b.listed i 0))))

  pub blocks_length : (i : ℕ) → length (blocks_bytes (up_to b a i)) ≡ size * i
  unfolding up_to blocks_bytes block_bytes fields
  blocks_length zero = refl
  blocks_length (suc i) = ap length (blocks_more i) ∙ simp length-append (omega (arith, blocks_length i))

  pub blocks_turn : (d o ys : List ℕ) (i : ℕ) → o ≡ blocks_bytes (up_to b a i) ++ drop (size * i) d → ys ≡ block_bytes (block_at b a (get_or b.listed i 0))
      → take (size * i) o ++ (ys ++ drop (size * i + size - size * i) (drop (size * i) o)) ≡ blocks_bytes (up_to b a (i + 1)) ++ drop (size * (i + 1)) d
  blocks_turn d o ys i e y =
      let k : size * i + size ≡ size * (i + 1) = omega arith in
      let m : blocks_bytes (up_to b a i) ++ ys ≡ blocks_bytes (up_to b a (i + 1)) = ap (λ (l : List ℕ). blocks_bytes (up_to b a i) ++ l) y ∙ sym (blocks_more i) ∙ ap (λ (n : ℕ). blocks_bytes (up_to b a n)) (sym (add-one i)) in
      fill_more (blocks_bytes (up_to b a i)) ys d o (size * i) size (blocks_length i) e
      ∙ ap (λ (n : ℕ). (blocks_bytes (up_to b a i) ++ ys) ++ drop n d) k
      ∙ ap (λ (l : List ℕ). l ++ drop (size * (i + 1)) d) m

-- ---- the arms of one block
module _ (a : Arms) (from first : ℕ) where
  leaving_more : (j : ℕ) → leaving_bytes from (arms_from a first (suc j)) ≡ leaving_bytes from (arms_from a first j) ++ arm_bytes from (arm_at a (first + j))
  unfolding leaving_bytes
  leaving_more j =
      ap (leaving_bytes from) (arms_more a j first)
      ∙ leaving_append from (arms_from a first j) (arm_at a (first + j) ∷ [])
      ∙ ap (λ (l : List ℕ). leaving_bytes from (arms_from a first j) ++ l) (append-nil (arm_bytes from (arm_at a (first + j))))

  pub leaving_length : (j : ℕ) → length (leaving_bytes from (arms_from a first j)) ≡ size * j
  unfolding arms_from leaving_bytes arm_bytes fields
  leaving_length zero = refl
  leaving_length (suc j) = ap length (leaving_more j) ∙ simp length-append (omega (arith, leaving_length j))

  pub leaving_turn : (d o ys : List ℕ) (j : ℕ) → o ≡ leaving_bytes from (arms_from a first j) ++ drop (size * j) d → ys ≡ arm_bytes from (arm_at a (first + j))
      → take (size * j) o ++ (ys ++ drop (size * j + size - size * j) (drop (size * j) o)) ≡ leaving_bytes from (arms_from a first (j + 1)) ++ drop (size * (j + 1)) d
  leaving_turn d o ys j e y =
      let k : size * j + size ≡ size * (j + 1) = omega arith in
      let m : leaving_bytes from (arms_from a first j) ++ ys ≡ leaving_bytes from (arms_from a first (j + 1)) = ap (λ (l : List ℕ). leaving_bytes from (arms_from a first j) ++ l) y ∙ sym (leaving_more j) ∙ ap (λ (n : ℕ). leaving_bytes from (arms_from a first n)) (sym (add-one j)) in
      fill_more (leaving_bytes from (arms_from a first j)) ys d o (size * j) size (leaving_length j) e
      ∙ ap (λ (n : ℕ). (leaving_bytes from (arms_from a first j) ++ ys) ++ drop n d) k
      ∙ ap (λ (l : List ℕ). l ++ drop (size * (j + 1)) d) m

-- ---- the arms of all blocks
module _ (b : Blocks) (a : Arms) where
  arms_next : (i : ℕ) → arms_bytes (up_to b a (suc i)) ≡ arms_bytes (up_to b a i) ++ leaving_bytes (get_or b.listed i 0) (leaves a (get_or b.listed i 0))
  unfolding up_to arms_bytes block_at
  arms_next i =
      arms_append (up_to b a i) (block_at b a (get_or b.listed i 0) ∷ [])
      ∙ ap (λ (l : List ℕ). arms_bytes (up_to b a i) ++ l) (append-nil (leaving_bytes (get_or b.listed i 0) (leaves a (get_or b.listed i 0))))

  -- how long they are so far
  pub arms_long : ℕ → ℕ
  arms_long i = length (arms_bytes (up_to b a i))

  pub arms_none : arms_long 0 ≡ 0
  unfolding arms_long up_to arms_bytes
  arms_none = refl

  pub arms_step : (i : ℕ) → arms_long (suc i) ≡ arms_long i + size * get_or a.count (get_or b.listed i 0) 0
  unfolding arms_long leaves
  arms_step i =
      let k = get_or b.listed i 0 in
      ap length (arms_next i) ∙ simp length-append (omega (arith, leaving_length a k (get_or a.first k 0) (get_or a.count k 0)))

  pub arms_most : (i k : ℕ) → arms_long i ≤ arms_long (i + k)
  arms_most i zero = rw add-zero (omega arith)
  arms_most i (suc k) = rw add-suc (omega (arith, arms_most i k, arms_step (i + k)))

  arms_room : (i n : ℕ) → i < n → arms_long i + size * get_or a.count (get_or b.listed i 0) 0 ≤ arms_long n
  arms_room i n l =
      let e : suc i + (n - suc i) ≡ n = omega (arith, l) in
      subst (λ (m : ℕ). arms_long i + size * get_or a.count (get_or b.listed i 0) 0 ≤ arms_long m) e
      (omega (arith, arms_step i, arms_most (suc i) (n - suc i)))

  -- behind k bytes that are not touched
  pub arms_front : List ℕ → ℕ → ℕ → List ℕ
  arms_front d k i = take k d ++ arms_bytes (up_to b a i)

  pub front_length : (d : List ℕ) (k i : ℕ) → k ≤ length d → length (arms_front d k i) ≡ k + arms_long i
  unfolding arms_front arms_long
  front_length d k i h = simp length-append (omega (arith, length-take-le k d h))

  pub front_start : (d : List ℕ) (k : ℕ) → d ≡ arms_front d k 0 ++ drop k d
  unfolding arms_front up_to arms_bytes
  front_start d k = sym (ap (λ (l : List ℕ). l ++ drop k d) (append-nil (take k d)) ∙ take-append-drop k d)

  pub front_all : (d : List ℕ) (k n : ℕ) → arms_front d k n ++ drop (k + arms_long n) d ≡ behind k (arms_bytes (up_to b a n)) d
  unfolding arms_front arms_long behind
  front_all d k n = refl

  pub arms_turn : (d o ys : List ℕ) (k i at count : ℕ) → k ≤ length d → at ≡ k + arms_long i → o ≡ arms_front d k i ++ drop at d
      → ys ≡ leaving_bytes (get_or b.listed i 0) (leaves a (get_or b.listed i 0))
      → take at o ++ (ys ++ drop (at + size * count - at) (drop at o)) ≡ arms_front d k (i + 1) ++ drop (at + size * count) d
  unfolding arms_front
  arms_turn d o ys k i at count h z e y =
      let q : arms_bytes (up_to b a i) ++ ys ≡ arms_bytes (up_to b a (i + 1)) =
      ap (λ (l : List ℕ). arms_bytes (up_to b a i) ++ l) y
      ∙ sym (arms_next i) ∙ ap (λ (n : ℕ). arms_bytes (up_to b a n)) (sym (add-one i)) in
      fill_more (take k d ++ arms_bytes (up_to b a i)) ys d o at (size * count) (front_length d k i h ∙ sym z) e
      ∙ ap (λ (l : List ℕ). l ++ drop (at + size * count) d) (append_assoc (take k d) (arms_bytes (up_to b a i)) ys ∙ ap (λ (l : List ℕ). take k d ++ l) q)

-- ---- blocks and arms
module _ (b : Blocks) (a : Arms) (n : ℕ) where
  pub both_parts : (d o : List ℕ) → o ≡ blocks_bytes (up_to b a n) ++ drop (size * n) d
      → behind (size * n) (arms_bytes (up_to b a n)) o ≡ written (up_to b a n) ++ drop (length (written (up_to b a n))) d
  unfolding written
  both_parts d o e =
      ap (behind (size * n) (arms_bytes (up_to b a n))) e
      ∙ behind_front (blocks_bytes (up_to b a n)) (arms_bytes (up_to b a n)) d (size * n) (blocks_length b a n)

  pub written_parts : length (written (up_to b a n)) ≡ size * n + arms_long b a n
  unfolding written arms_long
  written_parts = rw length-append (ap (λ (m : ℕ). m + length (arms_bytes (up_to b a n))) (blocks_length b a n))

-- the arms of one block more have room
pub next_room : (g : Graph) (room i at : ℕ) → Writable g room → i < g.blocks → at ≡ size * g.blocks + arms_long g.b g.a i
    → at + size * get_or g.a.count (get_or g.b.listed i 0) 0 ≤ room
unfolding tabled
next_room g room i at w l e =
    omega (arith, e, arms_room g.b g.a i g.blocks l, written_parts g.b g.a g.blocks, w.room_is)
