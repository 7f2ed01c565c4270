-- The split by tables is the graph's, and an order gathered by sides. Assumes nothing.
use Prim.Native.Nat.{ℕ, zero, suc, ◌+◌, ◌≤◌, ◌<◌, ◌/◌, ◌%◌}
use native.Mathlib.Numerals.{add-one}
use native.Mathlib.Omega.{arith}
use mathlib.Core.Path.{◌≡◌, refl, sym, ap, ◌∙◌}
use mathlib.Core.Bool.{Bool, true, false, not, ◌&&◌, ◌||◌, cond, beq}
use mathlib.Core.Logic.{inl, inr}
use mathlib.Core.List.{List, [], ◌∷◌, ◌++◌, append_assoc, append-nil}
use Rattle.std.specs.Prelude.{Option, None, Some}
use Rattle.std.specs.List.{list_any}
use Rattle.std.proofs.lemmas.List.Folds.{list_any_more}
use lib.Dec.{eqb}
use lib.ListN.{length, get_or, set, take, drop, length-append, take-append-drop}
use lib.Seq.{take-suc, take-suc-set}
use borrow.Author.Tests.{eq-eqb, eqb-false}
use Rattle.rules.specs.Lists.{pick, keep, any}
use Rattle.rules.specs.Graph as graph
use Rattle.rules.specs.Graph.{bit, is_cold, cold_at, numbers_of, entry}
use Rattle.rules.specs.Spread.{warm_entry}
use Rattle.rules.specs.Split.{splits, warm_part, cold_part}
use Rattle.rules.proofs.Membership.{In, keep_append}
use Rattle.rules.proofs.Wholeness.{entry_in}
use Rattle.records.specs.declared.Blocks.{Blocks}
use Rattle.records.specs.declared.Arms.{Arms}
use Rattle.records.specs.declared.Graph.{Graph}
use Rattle.records.specs.declared.Order.{Order}
use Rattle.records.specs.Tables.{block_at, up_to, tabled, in_order}
use Rattle.records.proofs.StandLaws.{find_in}
use Rattle.cold.specs.Sides.{any_cold, on_side, Gathered, Within}

-- ---- the mark
cold_bit : (m : ℕ) → eqb (m / 2 % 2) 1 ≡ is_cold m
unfolding is_cold bit
cold_bit m = refl

pub cold_is : (m : ℕ) → m / 2 % 2 ≡ 1 → is_cold m ≡ true
cold_is m e = sym (cold_bit m) ∙ eq-eqb (m / 2 % 2) 1 e

pub is_warm : (m : ℕ) → is_cold m ≡ false → m / 2 % 2 ≡ 0
is_warm m e = let d : m / 2 % 2 ≡ 1 → ⊥ = eqb-false (m / 2 % 2) 1 (cold_bit m ∙ e) in omega (arith, d)

-- ---- a split
any_append : {A : Type 0} (p : A → Bool) (s t : List A) → any p (s ++ t) ≡ any p s || any p t
unfolding any
any_append p [] t = refl
any_append p (x ∷ s) t = rw (any_append p s t) (go (p x) (any p s) (any p t))
  where
    go : (a b c : Bool) → a || (b || c) ≡ (a || b) || c
    go true b c = refl
    go false b c = refl

or_none : (b c : Bool) → b || (c || false) ≡ b || c
or_none true c = refl
or_none false true = refl
or_none false false = refl

module _ (b : Blocks) (a : Arms) where
  any_is : (n : ℕ) → n ≤ length b.listed → any (λ (x : graph.Block). is_cold x.marks) (up_to b a n) ≡ list_any (λ (k : ℕ). is_cold (get_or b.marks k 0)) (take n b.listed)
  unfolding any up_to block_at
  any_is zero h = refl
  any_is (suc n) h =
      any_append (λ (x : graph.Block). is_cold x.marks) (up_to b a n) (block_at b a (get_or b.listed n 0) ∷ [])
      ∙ rw (any_is n (omega (arith, h))) (or_none (list_any (λ (k : ℕ). is_cold (get_or b.marks k 0)) (take n b.listed)) (is_cold (get_or b.marks (get_or b.listed n 0) 0)))
      ∙ sym (ap (λ (i : ℕ). list_any (λ (k : ℕ). is_cold (get_or b.marks k 0)) (take i b.listed)) (sym (add-one n)) ∙ list_any_more (λ (k : ℕ). is_cold (get_or b.marks k 0)) b.listed n 0 (omega (arith, h)))

module _ (t : Graph) where
  -- a listed block is cold by its mark
  cold_at_lem : (k : ℕ) → In k (numbers_of (tabled t)) → cold_at (tabled t) k ≡ is_cold (get_or t.b.marks k 0)
  unfolding cold_at tabled block_at
  cold_at_lem k i = ap (λ (x : graph.Block). is_cold x.marks) (find_in t.b t.a t.blocks k i)

  any_cold_lem : t.blocks ≤ length t.b.listed → any (λ (x : graph.Block). is_cold x.marks) (tabled t) ≡ any_cold t
  unfolding tabled
  any_cold_lem few = any_is t.b t.a t.blocks few

  module _ (few : t.blocks ≤ length t.b.listed) where
    splits_lem : (o : Option ℕ) → entry (tabled t) ≡ o → splits (tabled t) ≡ elim o as (λ (x : Option ℕ). Bool) [ None ↦ false | Some e ↦ not (is_cold (get_or t.b.marks e 0)) && any_cold t ]
    unfolding splits warm_entry
    splits_lem None q = rw (q, warm_entry) refl
    splits_lem (Some e) q = rw (q, warm_entry) (rw (cold_at_lem e (entry_in (tabled t) e q), any_cold_lem few) refl)

    pub splits_are : (o : Option ℕ) → o ≡ entry (tabled t)
        → elim o as (λ (x : Option ℕ). Option ℕ) [ None ↦ None | Some e ↦ cond (not (is_cold (get_or t.b.marks e 0)) && any_cold t) (Some e) None ] ≡ pick (splits (tabled t)) (entry (tabled t)) None
    unfolding pick
    splits_are None q = rw (splits_lem None (sym q)) refl
    splits_are (Some e) q = rw (splits_lem (Some e) (sym q), ← q) refl

-- ---- the two sides
keep_same : (p q : ℕ → Bool) (l : List ℕ) → ((x : ℕ) → In x l → p x ≡ q x) → keep p l ≡ keep q l
unfolding keep
keep_same p q [] h = refl
keep_same p q (x ∷ l) h = rw (h x (inl refl), keep_same p q l (λ y i. h y (inr i))) refl

beq_true : (b : Bool) → b ≡ beq b true
beq_true true = refl
beq_true false = refl

beq_false : (b : Bool) → not b ≡ beq b false
beq_false true = refl
beq_false false = refl

module _ (t : Graph) (o : Order) (within : Within t o) where
  pub warm_side : warm_part (tabled t) (in_order o) ≡ on_side t.b.marks false (in_order o)
  unfolding warm_part on_side
  warm_side =
      keep_same (λ (k : ℕ). not (cold_at (tabled t) k)) (λ (k : ℕ). beq (is_cold (get_or t.b.marks k 0)) false) (in_order o)
      (λ k i. ap not (cold_at_lem t k (within k i)) ∙ beq_false (is_cold (get_or t.b.marks k 0)))

  pub cold_side : cold_part (tabled t) (in_order o) ≡ on_side t.b.marks true (in_order o)
  unfolding cold_part on_side
  cold_side =
      keep_same (cold_at (tabled t)) (λ (k : ℕ). beq (is_cold (get_or t.b.marks k 0)) true) (in_order o)
      (λ k i. cold_at_lem t k (within k i) ∙ beq_true (is_cold (get_or t.b.marks k 0)))

module _ (marks : List ℕ) where
  pub sides_long : (o : List ℕ) → length (on_side marks false o) + length (on_side marks true o) ≡ length o
  unfolding on_side keep
  sides_long [] = refl
  sides_long (x ∷ o) = go (sides_long o) (is_cold (get_or marks x 0))
    where
      go : length (on_side marks false o) + length (on_side marks true o) ≡ length o → (b : Bool)
          → length (cond (beq b false) (x ∷ on_side marks false o) (on_side marks false o)) + length (cond (beq b true) (x ∷ on_side marks true o) (on_side marks true o)) ≡ suc (length o)
      go ih true = omega (arith, ih)
      go ih false = omega (arith, ih)

  module _ (cold : Bool) (l : List ℕ) where
    side_append : (s t : List ℕ) → on_side marks cold (s ++ t) ≡ on_side marks cold s ++ on_side marks cold t
    unfolding on_side
    side_append s t = keep_append (λ (k : ℕ). beq (is_cold (get_or marks k 0)) cold) s t

    side_one : (x : ℕ) (b : Bool) → beq (is_cold (get_or marks x 0)) cold ≡ b → on_side marks cold (x ∷ []) ≡ cond b (x ∷ []) []
    unfolding on_side keep
    side_one x b e = rw e refl

    side_more : (i : ℕ) (b : Bool) → i < length l → beq (is_cold (get_or marks (get_or l i 0) 0)) cold ≡ b → on_side marks cold (take (i + 1) l) ≡ on_side marks cold (take i l) ++ cond b (get_or l i 0 ∷ []) []
    side_more i b h e =
        rw (add-one i) (ap (on_side marks cold) (take-suc l i 0 h) ∙ side_append (take i l) (get_or l i 0 ∷ []) ∙ ap (λ (s : List ℕ). on_side marks cold (take i l) ++ s) (side_one (get_or l i 0) b e))

    side_le : (i : ℕ) → length (on_side marks cold (take i l)) ≤ length (on_side marks cold l)
    side_le i =
        let e : on_side marks cold l ≡ on_side marks cold (take i l) ++ on_side marks cold (drop i l) = ap (on_side marks cold) (sym (take-append-drop i l)) ∙ side_append (take i l) (drop i l) in
        omega (arith, ap length e, length-append (on_side marks cold (take i l)) (on_side marks cold (drop i l)))

    pub gather_start : (before : Order) → Gathered (on_side marks cold (take 0 l)) before before
    unfolding on_side keep
    gather_start before = record { behind = sym (append-nil (in_order before)); ends = omega arith }

    module _ (before after : Order) (i : ℕ) (h : i < length l) (k : Gathered (on_side marks cold (take i l)) before after) (m : ℕ) (t : Bool) (here : m ≡ get_or marks (get_or l i 0) 0) (told : t ≡ is_cold m) where
      side_is : (b : Bool) → beq t cold ≡ b → beq (is_cold (get_or marks (get_or l i 0) 0)) cold ≡ b
      side_is b e = ap (λ (x : Bool). beq x cold) (sym (told ∙ ap is_cold here)) ∙ e

      pub gather_room : (n : ℕ) → beq t cold ≡ true → before.len + length (on_side marks cold l) ≤ n → after.len < n
      gather_room n e r =
          omega (arith, k.ends, ap length (side_more i true h (side_is true e)), length-append (on_side marks cold (take i l)) (get_or l i 0 ∷ []), side_le (i + 1), r)

      pub gather_yes : beq t cold ≡ true → after.len < length after.block
          → Gathered (on_side marks cold (take (i + 1) l)) before (record { block = set after.block after.len (get_or l i 0); len = after.len + 1 })
      unfolding in_order
      gather_yes e r =
          rw (side_more i true h (side_is true e))
          (record {
            behind =
                rw (add-one after.len)
                (take-suc-set after.block after.len (get_or l i 0) r ∙ ap (λ (s : List ℕ). s ++ (get_or l i 0 ∷ [])) k.behind ∙ append_assoc (in_order before) (on_side marks cold (take i l)) (get_or l i 0 ∷ []));
            ends = rw (length-append (on_side marks cold (take i l)) (get_or l i 0 ∷ [])) (omega (arith, k.ends));
          })

      pub gather_no : beq t cold ≡ false → Gathered (on_side marks cold (take (i + 1) l)) before after
      gather_no e = rw (side_more i false h (side_is false e), append-nil) k
