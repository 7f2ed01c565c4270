-- In records of which none is refused, the arms stand grouped by block as listed: the file of their graph is the records'
-- bytes, one after the other. Assumes nothing.
use Prim.Native.Nat.{ℕ, suc, ◌*◌, ◌<◌}
use native.Mathlib.Omega.{arith}
use mathlib.Core.Path.{◌≡◌, refl, sym, ap, ap₂, ◌∙◌}
use mathlib.Core.Bool.{Bool, true, false, cond}
use mathlib.Core.List.{List, [], ◌∷◌, ◌++◌, append_assoc, append-nil}
use lib.Dec.{eqb}
use lib.ListN.{length, length-append}
use borrow.Author.Tests.{eq-eqb, ne_eqb, eqb-true, eqb-false}
use Rattle.limits.specs.Limits.{size}
use Rattle.rules.specs.declared.Record.{Record}
use Rattle.rules.specs.declared.Record.TheVariants.{Block, Arm, Outside}
use Rattle.rules.specs.Graph as graph
use Rattle.rules.specs.Graph.{Graph}
use Rattle.rules.specs.Records.{fields, block_bytes, arm_bytes, leaving, arms_of, listing, blocks_of, graph_of, blocks_bytes, leaving_bytes, arms_bytes, written}
use Rattle.rules.specs.Refusals.{place_of, arm_count, record_checks, all_checks, Clear}
use Rattle.rules.proofs.Verdicts.{clear_parts}
use Rattle.rules.proofs.Listed.{place_most, none_arms, late_arms, block_clear, arm_clear, outside_clear}

abbrev arm : ℕ → ℕ → ℕ → graph.Arm
arm to args weight = record { to = to; args = args; weight = weight }

-- the bytes of a record
unfoldable pub record_bytes : Record → List ℕ
record_bytes (Block number marks end weight) = block_bytes (record { number = number; marks = marks; end = end; weight = weight; arms = [] })
record_bytes (Arm from to args weight) = arm_bytes from (arm to args weight)
record_bytes Outside = []

-- the bytes of some records, the last first, in file order
unfoldable pub recorded : List Record → List ℕ
recorded [] = []
recorded (r ∷ l) = recorded l ++ record_bytes r

-- ---- bytes of two graphs, one after the other
pub blocks_append : (g h : Graph) → blocks_bytes (g ++ h) ≡ blocks_bytes g ++ blocks_bytes h
unfolding blocks_bytes
blocks_append [] h = refl
blocks_append (b ∷ g) h = ap (λ (s : List ℕ). block_bytes b ++ s) (blocks_append g h) ∙ sym (append_assoc (block_bytes b) (blocks_bytes g) (blocks_bytes h))

pub leaving_append : (from : ℕ) (x y : List graph.Arm) → leaving_bytes from (x ++ y) ≡ leaving_bytes from x ++ leaving_bytes from y
unfolding leaving_bytes
leaving_append from [] y = refl
leaving_append from (a ∷ x) y = ap (λ (s : List ℕ). arm_bytes from a ++ s) (leaving_append from x y) ∙ sym (append_assoc (arm_bytes from a) (leaving_bytes from x) (leaving_bytes from y))

pub arms_append : (g h : Graph) → arms_bytes (g ++ h) ≡ arms_bytes g ++ arms_bytes h
unfolding arms_bytes
arms_append [] h = refl
arms_append (b ∷ g) h =
    ap (λ (s : List ℕ). leaving_bytes b.number b.arms ++ s) (arms_append g h)
    ∙ sym (append_assoc (leaving_bytes b.number b.arms) (arms_bytes g) (arms_bytes h))

-- ---- the same blocks with other arms
abbrev Arms : Type 0
Arms = ℕ → List graph.Arm

listing_same : (f g : Arms) (r : Record) → blocks_bytes (listing f r) ≡ blocks_bytes (listing g r)
unfolding listing blocks_bytes block_bytes
listing_same f g (Block number marks end weight) = refl
listing_same f g (Arm from to args weight) = refl
listing_same f g Outside = refl

blocks_same : (f g : Arms) (l : List Record) → blocks_bytes (blocks_of f l) ≡ blocks_bytes (blocks_of g l)
unfolding blocks_of
blocks_same f g [] = refl
blocks_same f g (r ∷ l) =
    blocks_append (blocks_of f l) (listing f r)
    ∙ ap₂ (λ (x y : List ℕ). x ++ y) (blocks_same f g l) (listing_same f g r)
    ∙ sym (blocks_append (blocks_of g l) (listing g r))

-- the arms of one block more
arms_block : (f : Arms) (l : List Record) (number marks end weight : ℕ)
    → arms_bytes (blocks_of f (Block number marks end weight ∷ l)) ≡ arms_bytes (blocks_of f l) ++ leaving_bytes number (f number)
unfolding blocks_of listing arms_bytes
arms_block f l number marks end weight =
    arms_append (blocks_of f l) (listing f (Block number marks end weight))
    ∙ ap (λ (s : List ℕ). arms_bytes (blocks_of f l) ++ s) (append-nil (leaving_bytes number (f number)))

none_bytes : (f : Arms) (l : List Record) → ((n : ℕ) → f n ≡ []) → arms_bytes (blocks_of f l) ≡ []
unfolding blocks_of listing arms_bytes leaving_bytes
none_bytes f [] h = refl
none_bytes f (Block number marks end weight ∷ l) h = arms_block f l number marks end weight ∙ rw (h number, none_bytes f l h)
none_bytes f (Arm from to args weight ∷ l) h = ap arms_bytes (append-nil (blocks_of f l)) ∙ none_bytes f l h
none_bytes f (Outside ∷ l) h = ap arms_bytes (append-nil (blocks_of f l)) ∙ none_bytes f l h

-- ---- one arm more, of block n, where all that is listed after n has none
module _ (f g : Arms) (n : ℕ) (a : graph.Arm) (more : g n ≡ f n ++ (a ∷ [])) (same : (m : ℕ) → (m ≡ n → ⊥) → g m ≡ f m) where
  -- where n is not listed nothing changes
  not_listed : (l : List Record) → place_of n l ≡ 0 → arms_bytes (blocks_of g l) ≡ arms_bytes (blocks_of f l)
  unfolding blocks_of listing place_of
  not_listed [] e = refl
  not_listed (Block number marks end weight ∷ l) e = go (not_listed l) (eqb n number) refl e
    where
      go : (place_of n l ≡ 0 → arms_bytes (blocks_of g l) ≡ arms_bytes (blocks_of f l)) → (b : Bool) → eqb n number ≡ b → cond b (suc (length l)) (place_of n l) ≡ 0
          → arms_bytes (blocks_of g (Block number marks end weight ∷ l)) ≡ arms_bytes (blocks_of f (Block number marks end weight ∷ l))
      go rest true q e = absurd (omega (arith, e))
      go rest false q e =
          arms_block g l number marks end weight
          ∙ ap₂ (λ (x y : List ℕ). x ++ y) (rest e) (ap (leaving_bytes number) (same number (λ k. eqb-false n number q (sym k))))
          ∙ sym (arms_block f l number marks end weight)
  not_listed (Arm from to args weight ∷ l) e = ap arms_bytes (append-nil (blocks_of g l)) ∙ not_listed l e ∙ sym (ap arms_bytes (append-nil (blocks_of f l)))
  not_listed (Outside ∷ l) e = ap arms_bytes (append-nil (blocks_of g l)) ∙ not_listed l e ∙ sym (ap arms_bytes (append-nil (blocks_of f l)))

  abbrev Later : List Record → Type 0
  Later l = (m : ℕ) → place_of n l < place_of m l → f m ≡ []

  -- where it is listed, its bytes come last
  one_more : (l : List Record) → Clear (all_checks l) → 0 < place_of n l → Later l → arms_bytes (blocks_of g l) ≡ arms_bytes (blocks_of f l) ++ arm_bytes n a
  unfolding all_checks blocks_of listing place_of leaving_bytes
  one_more [] c p h = absurd (omega (arith, p))
  one_more (Block number marks end weight ∷ l) c p h =
      go (one_more l (clear_parts (all_checks l) (record_checks l (Block number marks end weight)) c).0) (eqb n number) refl p h
    where
      fresh : place_of number l ≡ 0
      fresh = (block_clear l number marks end weight (clear_parts (all_checks l) (record_checks l (Block number marks end weight)) c).1).1

      go : (0 < place_of n l → Later l → arms_bytes (blocks_of g l) ≡ arms_bytes (blocks_of f l) ++ arm_bytes n a)
          → (b : Bool) → eqb n number ≡ b → 0 < cond b (suc (length l)) (place_of n l)
          → ((m : ℕ) → cond b (suc (length l)) (place_of n l) < cond (eqb m number) (suc (length l)) (place_of m l) → f m ≡ [])
          → arms_bytes (blocks_of g (Block number marks end weight ∷ l)) ≡ arms_bytes (blocks_of f (Block number marks end weight ∷ l)) ++ arm_bytes n a
      go rest true q p h =
          let k : n ≡ number = eqb-true n number q in
          let u : g number ≡ f number ++ (a ∷ []) = ap g (sym k) ∙ more ∙ ap (λ (m : ℕ). f m ++ (a ∷ [])) k in
          arms_block g l number marks end weight
          ∙ ap₂ (λ (x y : List ℕ). x ++ y) (not_listed l (ap (λ (m : ℕ). place_of m l) k ∙ fresh)) (ap (leaving_bytes number) u ∙ leaving_append number (f number) (a ∷ []))
          ∙ ap (λ (s : List ℕ). arms_bytes (blocks_of f l) ++ (leaving_bytes number (f number) ++ s)) (append-nil (arm_bytes number a))
          ∙ sym (append_assoc (arms_bytes (blocks_of f l)) (leaving_bytes number (f number)) (arm_bytes number a))
          ∙ ap₂ (λ (x : List ℕ) (m : ℕ). x ++ arm_bytes m a) (sym (arms_block f l number marks end weight)) (sym k)
      go rest false q p h =
          let d : number ≡ n → ⊥ = λ k. eqb-false n number q (sym k) in
          let e : f number ≡ [] = h number (rw (eq-eqb number number refl) (omega (arith, place_most n l))) in
          let later : Later l = λ m z. h m (go_later m z (eqb m number) refl) in
          arms_block g l number marks end weight
          ∙ ap₂ (λ (x y : List ℕ). x ++ y) (rest p later) (ap (leaving_bytes number) (same number d ∙ e))
          ∙ append-nil (arms_bytes (blocks_of f l) ++ arm_bytes n a)
          ∙ ap (λ (s : List ℕ). s ++ arm_bytes n a)
          (sym (append-nil (arms_bytes (blocks_of f l))) ∙ ap (λ (y : List graph.Arm). arms_bytes (blocks_of f l) ++ leaving_bytes number y) (sym e) ∙ sym (arms_block f l number marks end weight))
        where
          go_later : (m : ℕ) → place_of n l < place_of m l → (b : Bool) → eqb m number ≡ b → place_of n l < cond b (suc (length l)) (place_of m l)
          go_later m z true k = omega (arith, place_most n l)
          go_later m z false k = z
  one_more (Arm from to args weight ∷ l) c p h =
      ap arms_bytes (append-nil (blocks_of g l))
      ∙ one_more l (clear_parts (all_checks l) (record_checks l (Arm from to args weight)) c).0 p h
      ∙ ap (λ (x : Graph). arms_bytes x ++ arm_bytes n a) (sym (append-nil (blocks_of f l)))
  one_more (Outside ∷ l) c p h = absurd (outside_clear l (clear_parts (all_checks l) (record_checks l Outside) c).1)

-- ---- one record more
after_block : (l : List Record) (number marks end weight : ℕ) → arm_count l ≡ 0 → written (graph_of l) ≡ recorded l
    → written (graph_of (Block number marks end weight ∷ l)) ≡ recorded (Block number marks end weight ∷ l)
unfolding written graph_of recorded record_bytes blocks_of listing arms_of leaving blocks_bytes block_bytes
after_block l number marks end weight e rest =
    let f : Arms = λ n. arms_of n l in
    let g : Arms = λ n. arms_of n l ++ [] in
    let r = Block number marks end weight in
    let none : (n : ℕ) → f n ≡ [] = λ n. none_arms n l e in
    let none' : (n : ℕ) → g n ≡ [] = λ n. append-nil (f n) ∙ none n in
    let old : blocks_bytes (blocks_of f l) ≡ recorded l = sym (append-nil (blocks_bytes (blocks_of f l))) ∙ ap (λ (s : List ℕ). blocks_bytes (blocks_of f l) ++ s) (sym (none_bytes f l none)) ∙ rest in
    ap (λ (s : List ℕ). blocks_bytes (blocks_of g (r ∷ l)) ++ s) (none_bytes g (r ∷ l) none')
    ∙ append-nil (blocks_bytes (blocks_of g (r ∷ l)))
    ∙ blocks_append (blocks_of g l) (listing g r)
    ∙ ap₂ (λ (x y : List ℕ). x ++ y) (blocks_same g f l ∙ old) (append-nil (record_bytes r))

after_arm : (l : List Record) (from to args weight : ℕ) → Clear (all_checks l) → Clear (record_checks l (Arm from to args weight)) → written (graph_of l) ≡ recorded l
    → written (graph_of (Arm from to args weight ∷ l)) ≡ recorded (Arm from to args weight ∷ l)
unfolding written graph_of recorded record_bytes blocks_of listing arms_of leaving
after_arm l from to args weight c k rest =
    let f : Arms = λ n. arms_of n l in
    let r = Arm from to args weight in
    let a = arm to args weight in
    let g : Arms = λ n. arms_of n (r ∷ l) in
    let h = arm_clear l from to args weight k in
    let more : g from ≡ f from ++ (a ∷ []) = rw (eq-eqb from from refl) in
    let same : (m : ℕ) → (m ≡ from → ⊥) → g m ≡ f m = λ m d. rw (ne_eqb m from d) (append-nil (f m)) in
    let later : (m : ℕ) → place_of from l < place_of m l → f m ≡ [] = λ m z. late_arms m l c (omega (arith, h.not_back, z)) in
    ap (λ (x : Graph). blocks_bytes x ++ arms_bytes x) (append-nil (blocks_of g l))
    ∙ ap₂ (λ (x y : List ℕ). x ++ y) (blocks_same g f l) (one_more f g from a more same l c h.from_listed later)
    ∙ sym (append_assoc (blocks_bytes (blocks_of f l)) (arms_bytes (blocks_of f l)) (arm_bytes from a))
    ∙ ap (λ (s : List ℕ). s ++ arm_bytes from a) rest

-- ---- the whole
pub grouped : (l : List Record) → Clear (all_checks l) → written (graph_of l) ≡ recorded l
unfolding written graph_of recorded record_bytes all_checks blocks_bytes blocks_of arms_bytes
grouped [] c = refl
grouped (Block number marks end weight ∷ l) c =
    let k = clear_parts (all_checks l) (record_checks l (Block number marks end weight)) c in
    after_block l number marks end weight (block_clear l number marks end weight k.1).0 (grouped l k.0)
grouped (Arm from to args weight ∷ l) c =
    let k = clear_parts (all_checks l) (record_checks l (Arm from to args weight)) c in
    after_arm l from to args weight k.0 k.1 (grouped l k.0)
grouped (Outside ∷ l) c = absurd (outside_clear l (clear_parts (all_checks l) (record_checks l Outside) c).1)

-- every record has 16 bytes, and none of these is outside the layout
recorded_length : (l : List Record) → Clear (all_checks l) → length (recorded l) ≡ size * length l
unfolding recorded record_bytes all_checks block_bytes arm_bytes fields
recorded_length [] c = refl
recorded_length (Block number marks end weight ∷ l) c =
    let k = clear_parts (all_checks l) (record_checks l (Block number marks end weight)) c in
    simp length-append (omega (arith, recorded_length l k.0))
recorded_length (Arm from to args weight ∷ l) c =
    let k = clear_parts (all_checks l) (record_checks l (Arm from to args weight)) c in
    simp length-append (omega (arith, recorded_length l k.0))
recorded_length (Outside ∷ l) c = absurd (outside_clear l (clear_parts (all_checks l) (record_checks l Outside) c).1)

pub written_length : (l : List Record) → Clear (all_checks l) → length (written (graph_of l)) ≡ size * length l
written_length l c = ap length (grouped l c) ∙ recorded_length l c
