-- THEOREM read_write: reading what was written gives that graph, for every graph within the limits. The records of a graph are
-- put together one by one; none is refused, and their graph is it. Assumes nothing.
use Prim.Native.Nat.{ℕ, zero, suc, ◌+◌, ◌*◌, ◌/◌, ◌%◌, ◌^◌, ◌≤◌, ◌<◌}
use native.Mathlib.Omega.{arith}
use mathlib.Core.Path.{◌≡◌, refl, sym, ap, ap₂, subst, ◌∙◌}
use mathlib.Core.Bool.{Bool, true, false, not, cond, ◌&&◌, ◌||◌, true≢false}
use mathlib.Core.List.{List, [], ◌∷◌, ◌++◌, append_assoc, append-nil}
use lib.Dec.{eqb, ltb}
use lib.ListN.{length, take, drop, length-append, length-drop}
use lib.Seq.{take_all, drop_at, take-append-le, drop-append-le}
use borrow.Author.Tests.{lt-ltb, le-ltb, lt-leb, eq-eqb, eqb-true, ltb-true}
use Rattle.limits.specs.Limits.{size, most_bytes, numbers, most_arms, marks_below, ends_below}
use Rattle.lists.proofs.Choices.{split_bool, or_false}
use Rattle.rules.specs.declared.Record.{Record}
use Rattle.rules.specs.declared.Record.TheVariants.{Block, Arm}
use Rattle.rules.specs.Graph as graph
use Rattle.rules.specs.Graph.{Graph, is_entry}
use Rattle.rules.specs.Records.{little, gap_zero, block_of, arm_of, record_of, fields, block_bytes, arm_bytes, record_at, before, records, leaving, arms_of, listing, blocks_of, graph_of, written}
use Rattle.rules.specs.Refusals.{place_of, entry_of, arm_count, last_of, listed, record_checks, all_checks, panic_checks, checks, Clear, fine, verdict}
use Rattle.rules.specs.Within.{has, has_entry, arm_total, ArmsFit, BlockFits, BlocksFit, Within}
use Rattle.rules.proofs.Verdicts.{clear_join, first_clear}
use Rattle.rules.proofs.Grouped.{record_bytes, recorded, grouped}

-- ---- the records of a graph, the last first
as_block : graph.Block → Record
as_block b = Block b.number b.marks b.end b.weight

as_arm : ℕ → graph.Arm → Record
as_arm n a = Arm n a.to a.args a.weight

with_blocks : List Record → Graph → List Record
with_blocks l [] = l
with_blocks l (b ∷ g) = with_blocks (as_block b ∷ l) g

with_leaving : List Record → ℕ → List graph.Arm → List Record
with_leaving l n [] = l
with_leaving l n (a ∷ m) = with_leaving (as_arm n a ∷ l) n m

with_arms : List Record → Graph → List Record
with_arms l [] = l
with_arms l (b ∷ g) = with_arms (with_leaving l b.number b.arms) g

-- ---- tests
and_false : (x y : Bool) → (x ≡ true → y ≡ false) → x && y ≡ false
and_false true y h = h refl
and_false false y h = refl

-- ---- blocks
place_other : (n : ℕ) (l : List Record) (g : Graph) → has n g ≡ false → place_of n (with_blocks l g) ≡ place_of n l
unfolding with_blocks as_block has place_of
place_other n l [] e = refl
place_other n l (b ∷ g) e =
    let k = or_false (eqb n b.number) (has n g) e in
    place_other n (as_block b ∷ l) g k.1 ∙ rw k.0

place_own : (l : List Record) (b : graph.Block) (g : Graph) → has b.number g ≡ false → place_of b.number (with_blocks l (b ∷ g)) ≡ suc (length l)
unfolding with_blocks as_block place_of
place_own l b g e = place_other b.number (as_block b ∷ l) g e ∙ rw (eq-eqb b.number b.number refl)

place_has : (n : ℕ) (l : List Record) (g : Graph) → has n g ≡ true → 0 < place_of n (with_blocks l g)
unfolding with_blocks as_block has place_of
place_has n l [] e = absurd (true≢false (sym e))
place_has n l (b ∷ g) e =
    split_bool (has n g)
    (λ h. place_has n (as_block b ∷ l) g h)
    (λ h.
    let q : eqb n b.number ≡ true = pick (eqb n b.number) (has n g) e h in
    subst (λ (p : ℕ). 0 < p) (sym (place_other n (as_block b ∷ l) g h)) (rw q (omega arith)))
  where
    pick : (x y : Bool) → x || y ≡ true → y ≡ false → x ≡ true
    pick true y e h = refl
    pick false true e h = absurd (true≢false h)
    pick false false e h = e

blocks_armless : (l : List Record) (g : Graph) → arm_count (with_blocks l g) ≡ arm_count l
unfolding with_blocks as_block arm_count
blocks_armless l [] = refl
blocks_armless l (b ∷ g) = blocks_armless (as_block b ∷ l) g

blocks_last : (l : List Record) (g : Graph) → last_of (with_blocks l g) ≡ last_of l
unfolding with_blocks as_block last_of
blocks_last l [] = refl
blocks_last l (b ∷ g) = blocks_last (as_block b ∷ l) g

blocks_long : (l : List Record) (g : Graph) → length (with_blocks l g) ≡ length l + length g
unfolding with_blocks
blocks_long l [] = omega arith
blocks_long l (b ∷ g) = omega (arith, blocks_long (as_block b ∷ l) g)

-- none of them is refused
blocks_clear : (w : Graph) (l : List Record) (g : Graph) → BlocksFit w g → Clear (all_checks l) → arm_count l ≡ 0
    → ((n : ℕ) → has n g ≡ true → place_of n l ≡ 0) → (0 < entry_of l → has_entry g ≡ false) → Clear (all_checks (with_blocks l g))
unfolding with_blocks as_block has has_entry all_checks record_checks arm_count place_of entry_of listed
blocks_clear w l [] f c z p e = c
blocks_clear w l (b ∷ g) f c z p e =
    let none : ltb 0 (arm_count l) ≡ false = rw z in
    let own : place_of b.number l ≡ 0 = p b.number (rw (eq-eqb b.number b.number refl)) in
    let fresh : ltb 0 (place_of b.number l) ≡ false = rw own in
    let one : is_entry b.marks && ltb 0 (entry_of l) ≡ false =
    and_false (is_entry b.marks) (ltb 0 (entry_of l))
    (λ q. split_bool (ltb 0 (entry_of l)) (λ h. absurd (true≢false (sym q ∙ (or_false (is_entry b.marks) (has_entry g) (e (ltb-true 0 (entry_of l) h))).0))) (λ h. h)) in
    blocks_clear w (as_block b ∷ l) g f.1
    (clear_join (all_checks l) (record_checks l (as_block b)) c (none, (fresh, (one, tt))))
    z
    (λ n h.
    let d : eqb n b.number ≡ false =
    split_bool (eqb n b.number) (λ q. absurd (true≢false (sym h ∙ ap (λ (m : ℕ). has m g) (eqb-true n b.number q) ∙ f.0.1))) (λ q. q) in
    rw d (p n (rw (d, h))))
    (λ h. next (is_entry b.marks) refl h)
  where
    next : (x : Bool) → is_entry b.marks ≡ x → 0 < cond x (suc (length l)) (entry_of l) → has_entry g ≡ false
    next true q h = f.0.2 q
    next false q h = (or_false (is_entry b.marks) (has_entry g) (e h)).1

-- each is listed where it stands, so later ones are listed later
abbrev Sorted : ℕ → List Record → Graph → Type 0
Sorted k l [] = Unit
Sorted k l (b ∷ g) = (k ≤ place_of b.number l) × Sorted (place_of b.number l) l g

blocks_sorted : (w : Graph) (l : List Record) (g : Graph) → BlocksFit w g → Sorted (length l) (with_blocks l g) g
unfolding with_blocks
blocks_sorted w l [] f = tt
blocks_sorted w l (b ∷ g) f =
    let e : place_of b.number (with_blocks l (b ∷ g)) ≡ suc (length l) = place_own l b g f.0.1 in
    (omega (arith, e), subst (λ (k : ℕ). Sorted k (with_blocks l (b ∷ g)) g) (sym e) (blocks_sorted w (as_block b ∷ l) g f.1))

-- ---- the arms of one block
leaving_place : (n : ℕ) (l : List Record) (m : ℕ) (as' : List graph.Arm) → place_of n (with_leaving l m as') ≡ place_of n l
unfolding with_leaving as_arm place_of
leaving_place n l m [] = refl
leaving_place n l m (a ∷ k) = leaving_place n (as_arm m a ∷ l) m k

leaving_count : (l : List Record) (m : ℕ) (k : List graph.Arm) → arm_count (with_leaving l m k) ≡ arm_count l + length k
unfolding with_leaving as_arm arm_count
leaving_count l m [] = omega arith
leaving_count l m (a ∷ k) = omega (arith, leaving_count (as_arm m a ∷ l) m k)

leaving_last : (l : List Record) (m : ℕ) (k : List graph.Arm) → last_of l ≤ place_of m l → last_of (with_leaving l m k) ≤ place_of m l
unfolding with_leaving as_arm last_of place_of
leaving_last l m [] h = h
leaving_last l m (a ∷ k) h = leaving_last (as_arm m a ∷ l) m k (omega arith)

leaving_clear : (w : Graph) (l : List Record) (m : ℕ) (k : List graph.Arm) → ArmsFit w k → Clear (all_checks l) → 0 < place_of m l → last_of l ≤ place_of m l
    → ((n : ℕ) → has n w ≡ true → 0 < place_of n l) → arm_count l + length k ≤ most_arms → Clear (all_checks (with_leaving l m k))
unfolding with_leaving as_arm all_checks record_checks arm_count place_of last_of listed
leaving_clear w l m [] f c p h t r = c
leaving_clear w l m (a ∷ k) f c p h t r =
    let both : not (ltb 0 (place_of m l) && ltb 0 (place_of a.to l)) ≡ false =
    rw (lt-ltb 0 (place_of m l) p, lt-ltb 0 (place_of a.to l) (t a.to f.0.0)) in
    leaving_clear w (as_arm m a ∷ l) m k f.1
    (clear_join (all_checks l) (record_checks l (as_arm m a)) c (both, (le-ltb (place_of m l) (last_of l) h, (lt-leb most_arms (arm_count l) (omega (arith, r)), tt))))
    p (omega arith) t (omega (arith, r))

-- ---- the arms of all blocks
arms_clear : (w : Graph) (l₁ : List Record) (j : ℕ) (l : List Record) (g : Graph) → BlocksFit w g → Clear (all_checks l) → last_of l ≤ j → Sorted j l₁ g
    → ((n : ℕ) → place_of n l ≡ place_of n l₁) → ((n : ℕ) → has n w ≡ true → 0 < place_of n l₁) → ((n : ℕ) → has n g ≡ true → has n w ≡ true)
    → arm_count l + arm_total g ≤ most_arms → Clear (all_checks (with_arms l g))
unfolding with_arms arm_total has
arms_clear w l₁ j l [] f c h o s t u r = c
arms_clear w l₁ j l (b ∷ g) f c h o s t u r =
    let n = b.number in
    let own : 0 < place_of n l₁ = t n (u n (rw (eq-eqb n n refl))) in
    let last : last_of l ≤ place_of n l = omega (arith, s n, o.0) in
    arms_clear w l₁ (place_of n l₁) (with_leaving l n b.arms) g f.1
    (leaving_clear w l n b.arms f.0.0.arms c (omega (arith, s n)) last (λ m q. omega (arith, s m, t m q)) (omega (arith, r)))
    (omega (arith, leaving_last l n b.arms last, s n))
    o.1
    (λ m. leaving_place m l n b.arms ∙ s m)
    t
    (λ m q. u m (or_right (eqb m n) (has m g) q))
    (omega (arith, r, leaving_count l n b.arms))
  where
    or_right : (x y : Bool) → y ≡ true → x || y ≡ true
    or_right true y e = refl
    or_right false y e = e

-- ---- their graph
relabel : (ℕ → List graph.Arm) → Graph → Graph
relabel f [] = []
relabel f (b ∷ g) = record { number = b.number; marks = b.marks; end = b.end; weight = b.weight; arms = f b.number } ∷ relabel f g

blocks_of_lem : (f : ℕ → List graph.Arm) (l : List Record) (g : Graph) → blocks_of f (with_blocks l g) ≡ blocks_of f l ++ relabel f g
unfolding with_blocks as_block blocks_of listing relabel
blocks_of_lem f l [] = sym (append-nil (blocks_of f l))
blocks_of_lem f l (b ∷ g) = blocks_of_lem f (as_block b ∷ l) g ∙ append_assoc (blocks_of f l) _ (relabel f g)

leaving_blocks : (f : ℕ → List graph.Arm) (l : List Record) (m : ℕ) (k : List graph.Arm) → blocks_of f (with_leaving l m k) ≡ blocks_of f l
unfolding with_leaving as_arm blocks_of listing
leaving_blocks f l m [] = refl
leaving_blocks f l m (a ∷ k) = leaving_blocks f (as_arm m a ∷ l) m k ∙ append-nil (blocks_of f l)

arms_blocks : (f : ℕ → List graph.Arm) (l : List Record) (g : Graph) → blocks_of f (with_arms l g) ≡ blocks_of f l
unfolding with_arms
arms_blocks f l [] = refl
arms_blocks f l (b ∷ g) = arms_blocks f (with_leaving l b.number b.arms) g ∙ leaving_blocks f l b.number b.arms

-- the arms of the blocks with number n
arms_at : ℕ → Graph → List graph.Arm
arms_at n [] = []
arms_at n (b ∷ g) = cond (eqb n b.number) b.arms [] ++ arms_at n g

blocks_arms : (n : ℕ) (l : List Record) (g : Graph) → arms_of n (with_blocks l g) ≡ arms_of n l
unfolding with_blocks as_block arms_of leaving
blocks_arms n l [] = refl
blocks_arms n l (b ∷ g) = blocks_arms n (as_block b ∷ l) g ∙ append-nil (arms_of n l)

leaving_arms : (n : ℕ) (l : List Record) (m : ℕ) (k : List graph.Arm) → arms_of n (with_leaving l m k) ≡ arms_of n l ++ cond (eqb n m) k []
unfolding with_leaving as_arm arms_of leaving
leaving_arms n l m [] = go (eqb n m)
  where
    go : (b : Bool) → arms_of n l ≡ arms_of n l ++ cond b [] []
    go true = sym (append-nil (arms_of n l))
    go false = sym (append-nil (arms_of n l))
leaving_arms n l m (a ∷ k) = leaving_arms n (as_arm m a ∷ l) m k ∙ go (eqb n m)
  where
    go : (b : Bool) → (arms_of n l ++ cond b (record { to = a.to; args = a.args; weight = a.weight } ∷ []) []) ++ cond b k [] ≡ arms_of n l ++ cond b (a ∷ k) []
    go true = append_assoc (arms_of n l) (a ∷ []) k
    go false = append-nil (arms_of n l ++ [])

arms_arms : (n : ℕ) (l : List Record) (g : Graph) → arms_of n (with_arms l g) ≡ arms_of n l ++ arms_at n g
unfolding with_arms arms_at
arms_arms n l [] = sym (append-nil (arms_of n l))
arms_arms n l (b ∷ g) =
    arms_arms n (with_leaving l b.number b.arms) g
    ∙ ap (λ (k : List graph.Arm). k ++ arms_at n g) (leaving_arms n l b.number b.arms)
    ∙ append_assoc (arms_of n l) (cond (eqb n b.number) b.arms []) (arms_at n g)

arms_none : (n : ℕ) (g : Graph) → has n g ≡ false → arms_at n g ≡ []
unfolding has arms_at
arms_none n [] e = refl
arms_none n (b ∷ g) e = let k = or_false (eqb n b.number) (has n g) e in rw k.0 (arms_none n g k.1)

-- a block's arms by its number are its own
relabel_own : (w : Graph) (f : ℕ → List graph.Arm) (g : Graph) → BlocksFit w g → ((n : ℕ) → has n g ≡ true → f n ≡ arms_at n g) → relabel f g ≡ g
unfolding relabel has arms_at
relabel_own w f [] h e = refl
relabel_own w f (b ∷ g) h e =
    let n = b.number in
    let own : f n ≡ b.arms =
    e n (rw (eq-eqb n n refl)) ∙ rw (eq-eqb n n refl) (ap (λ (k : List graph.Arm). b.arms ++ k) (arms_none n g h.0.1) ∙ append-nil b.arms) in
    ap₂ (λ (k : List graph.Arm) (r : Graph). record { number = n; marks = b.marks; end = b.end; weight = b.weight; arms = k } ∷ r) own
    (relabel_own w f g h.1
    (λ m q.
    let d : eqb m n ≡ false = split_bool (eqb m n) (λ z. absurd (true≢false (sym q ∙ ap (λ (k : ℕ). has k g) (eqb-true m n z) ∙ h.0.1))) (λ z. z) in
    e m (rw (d, q)) ∙ rw d))

-- ---- one record, written and read
folded : ℕ → ℕ → ℕ
folded zero v = 0
folded (suc k) v = v % 256 + 256 * folded k (v / 256)

abbrev Small : ℕ → ℕ → Type 0
Small zero v = v ≡ 0
Small (suc k) v = Small k (v / 256)

folded_is : (k v : ℕ) → Small k v → folded k v ≡ v
unfolding folded
folded_is zero v h = sym h
folded_is (suc k) v h = omega (arith, folded_is k (v / 256) h)

weight_back : (kind b1 b2 b3 w : ℕ) → w < 2 ^ 64 → little (fields kind b1 b2 b3 0 0 w) 8 8 ≡ w
unfolding fields folded
weight_back kind b1 b2 b3 w h = folded_is 8 w (omega (arith, h))

-- a record that is read back as it was written
pub record Rounds (r : Record) : Type 0 where
  pub again : record_of (record_bytes r) ≡ r
  pub sixteen : length (record_bytes r) ≡ size

block_rounds : (w : Graph) (b : graph.Block) → BlockFits w b → Rounds (as_block b)
unfolding as_block record_bytes block_bytes record_of gap_zero block_of fields
block_rounds w b h =
    let low : b.number % 256 ≡ b.number = omega (arith, h.number) in
    record {
      again =
          rw (
            low,
            lt-ltb b.number numbers h.number,
            lt-ltb b.marks marks_below h.marks,
            lt-ltb b.end ends_below h.end,
          ) (ap (Block b.number b.marks b.end) (weight_back 1 b.number b.marks b.end b.weight h.weight));
      sixteen = refl;
    }

arm_rounds : (n : ℕ) (a : graph.Arm) → n < 256 → a.to < 256 → a.args < 2 → a.weight < 2 ^ 64 → Rounds (as_arm n a)
unfolding as_arm record_bytes arm_bytes record_of gap_zero arm_of fields
arm_rounds n a p q r h =
    let low : n % 256 ≡ n = omega arith in
    let low' : a.to % 256 ≡ a.to = omega arith in
    record {
      again = rw (low, low', lt-ltb a.args 2 r) (ap (Arm n a.to a.args) (weight_back 2 n a.to a.args a.weight h));
      sixteen = refl;
    }

abbrev AllRound : List Record → Type 0
AllRound [] = Unit
AllRound (r ∷ l) = Rounds r × AllRound l

blocks_round : (w : Graph) (l : List Record) (g : Graph) → BlocksFit w g → AllRound l → AllRound (with_blocks l g)
unfolding with_blocks
blocks_round w l [] f h = h
blocks_round w l (b ∷ g) f h = blocks_round w (as_block b ∷ l) g f.1 (block_rounds w b f.0.0, h)

has_small : (w : Graph) (n : ℕ) (g : Graph) → BlocksFit w g → has n g ≡ true → n < numbers
unfolding has
has_small w n [] f e = absurd (true≢false (sym e))
has_small w n (b ∷ g) f e =
    split_bool (eqb n b.number)
    (λ q. omega (arith, eqb-true n b.number q, f.0.0.number))
    (λ q. has_small w n g f.1 (sym (rw q) ∙ e))

leaving_round : (w : Graph) → ((n : ℕ) → has n w ≡ true → n < numbers) → (l : List Record) (m : ℕ) (k : List graph.Arm) → m < numbers → ArmsFit w k
    → AllRound l → AllRound (with_leaving l m k)
unfolding with_leaving
leaving_round w s l m [] p f h = h
leaving_round w s l m (a ∷ k) p f h =
    leaving_round w s (as_arm m a ∷ l) m k p f.1 (arm_rounds m a (omega arith) (omega (arith, s a.to f.0.0)) f.0.1 f.0.2, h)

arms_round : (w : Graph) → ((n : ℕ) → has n w ≡ true → n < numbers) → (l : List Record) (g : Graph) → BlocksFit w g → AllRound l → AllRound (with_arms l g)
unfolding with_arms
arms_round w s l [] f h = h
arms_round w s l (b ∷ g) f h =
    arms_round w s (with_leaving l b.number b.arms) g f.1
    (leaving_round w s l b.number b.arms f.0.0.number f.0.0.arms h)

-- ---- all records, written and read
before_front : (x y : List ℕ) (i : ℕ) → size * i ≤ length x → before (x ++ y) i ≡ before x i
unfolding before record_at
before_front x y zero h = refl
before_front x y (suc i) h =
    ap₂ (λ (p : List ℕ) (l : List Record). record_of p ∷ l)
    (ap (take size) (drop-append-le (size * i) x y (omega (arith, h))) ∙ take-append-le size (drop (size * i) x) y (rw length-drop (omega (arith, h))))
    (before_front x y i (omega (arith, h)))

recorded_size : (l : List Record) → AllRound l → length (recorded l) ≡ size * length l
unfolding recorded
recorded_size [] h = refl
recorded_size (r ∷ l) h = simp length-append (omega (arith, recorded_size l h.1, h.0.sixteen))

reread : (l : List Record) → AllRound l → before (recorded l) (length l) ≡ l
unfolding before recorded record_at
reread [] h = refl
reread (r ∷ l) h =
    let n = recorded_size l h.1 in
    ap₂ (λ (p : Record) (k : List Record). p ∷ k)
    (ap (λ (p : List ℕ). record_of (take size p)) (drop_at (recorded l) (record_bytes r) (size * length l) n)
    ∙ ap record_of (take_all size (record_bytes r) (omega (arith, h.0.sixteen)))
    ∙ h.0.again)
    (before_front (recorded l) (record_bytes r) (length l) (omega (arith, n)) ∙ reread l h.1)

-- ---- the whole
panics_clear : (w : Graph) (i : ℕ) (g : Graph) → BlocksFit w g → Clear (panic_checks i g)
unfolding panic_checks
panics_clear w i [] f = tt
panics_clear w i (b ∷ g) f = (f.0.0.calm, panics_clear w (suc i) g f.1)

leaving_long : (l : List Record) (m : ℕ) (k : List graph.Arm) → length (with_leaving l m k) ≡ length l + length k
unfolding with_leaving
leaving_long l m [] = omega arith
leaving_long l m (a ∷ k) = omega (arith, leaving_long (as_arm m a ∷ l) m k)

arms_long : (l : List Record) (g : Graph) → length (with_arms l g) ≡ length l + arm_total g
unfolding with_arms arm_total
arms_long l [] = omega arith
arms_long l (b ∷ g) = omega (arith, arms_long (with_leaving l b.number b.arms) g, leaving_long l b.number b.arms)

module _ (g : Graph) (h : Within g) where
  all_blocks : List Record
  all_blocks = with_blocks [] g

  all : List Record
  all = with_arms all_blocks g

  all_clear : Clear (all_checks all)
  unfolding all all_blocks all_checks arm_count place_of entry_of last_of
  all_clear =
      arms_clear g (with_blocks [] g) 0 (with_blocks [] g) g h.each
      (blocks_clear g [] g h.each tt refl (λ n e. refl) (λ e. absurd (omega (arith, e))))
      (omega (arith, blocks_last [] g))
      (blocks_sorted g [] g h.each)
      (λ n. refl) (λ n e. place_has n [] g e) (λ n e. e)
      (omega (arith, h.few_arms, blocks_armless [] g))

  all_graph : graph_of all ≡ g
  unfolding all all_blocks graph_of blocks_of arms_of
  all_graph =
      arms_blocks (λ n. arms_of n (with_arms (with_blocks [] g) g)) (with_blocks [] g) g
      ∙ blocks_of_lem (λ n. arms_of n (with_arms (with_blocks [] g) g)) [] g
      ∙ relabel_own g (λ n. arms_of n (with_arms (with_blocks [] g) g)) g h.each
      (λ n e. arms_arms n (with_blocks [] g) g ∙ ap (λ (k : List graph.Arm). k ++ arms_at n g) (blocks_arms n [] g))

  all_round : AllRound all
  unfolding all all_blocks
  all_round = arms_round g (λ n e. has_small g n g h.each e) (with_blocks [] g) g h.each (blocks_round g [] g h.each tt)

  all_long : length all ≡ length g + arm_total g
  unfolding all all_blocks
  all_long = omega (arith, arms_long (with_blocks [] g) g, blocks_long [] g)

  file : written g ≡ recorded all
  file = ap written (sym all_graph) ∙ grouped all all_clear

  file_long : length (written g) ≡ size * length all
  file_long = ap length file ∙ recorded_size all all_round

  records_are : records (written g) ≡ all
  unfolding records
  records_are =
      let n : length (written g) / size ≡ length all = omega (arith, file_long) in
      ap (before (written g)) n ∙ ap (λ (s : List ℕ). before s (length all)) file ∙ reread all all_round

  -- THE THEOREM: nothing is refused, and the graph is the one that was written
  pub read_write : (verdict (written g) ≡ fine) × (graph_of (records (written g)) ≡ g)
  unfolding verdict checks
  read_write =
      let same : graph_of (records (written g)) ≡ g = ap graph_of records_are ∙ all_graph in
      let short : ltb most_bytes (length (written g)) ≡ false = le-ltb most_bytes (length (written g)) (omega (arith, file_long, all_long, h.few, h.few_arms)) in
      let whole : not (eqb (length (written g) % size) 0) ≡ false = rw (eq-eqb (length (written g) % size) 0 (omega (arith, file_long))) in
      let clear : Clear (all_checks (records (written g))) = rw records_are all_clear in
      let calm : Clear (panic_checks 0 (graph_of (records (written g)))) = rw same (panics_clear g 0 g h.each) in
      (first_clear (checks (written g)) (short, (whole, clear_join (all_checks (records (written g))) (panic_checks 0 (graph_of (records (written g)))) clear calm)), same)
