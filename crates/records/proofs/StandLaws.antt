-- Tables that stand for a graph: its numbers are those listed, and a number finds its block. Assumes nothing.
use Prim.Native.Nat.{ℕ, zero, suc, ◌+◌, ◌-◌, ◌≤◌, ◌<◌}
use native.Mathlib.Nat.{add-zero, add-suc}
use native.Mathlib.Omega.{arith}
use mathlib.Core.Path.{◌≡◌, refl, sym, ap, ◌∙◌, subst}
use mathlib.Core.Bool.{Bool, true, false, not}
use mathlib.Core.Logic.{◌⊎◌, inl, inr, ⊎_elim}
use mathlib.Core.List.{List, [], ◌∷◌, ◌++◌}
use Rattle.std.specs.Prelude.{Option, None, Some}
use lib.Dec.{T, eqb, ltb, eqb→eq, ltb→lt, nltb→le}
use lib.ListN.{length, get_or, take}
use lib.Seq.{take-suc}
use Rattle.lists.proofs.Choices.{split_eq}
use Rattle.rules.specs.Graph as graph
use Rattle.rules.specs.Graph.{numbers_of, entry, bit, is_entry}
use Rattle.rules.proofs.Membership.{In, In-left, In-right, append-In, map_append, test, T→≡, F→≡}
use Rattle.rules.proofs.Counting.{one, tally, tally_append, count, Once, count→In}
use Rattle.rules.proofs.Wholeness.{block_in}
use Rattle.records.specs.declared.Blocks.{Blocks}
use Rattle.records.specs.declared.Arms.{Arms}
use Rattle.records.specs.declared.Graph.{Graph}
use Rattle.records.specs.Tables.{block_at, up_to, Back, Carries, Stands, Sound, Carried}

module _ (b : Blocks) (a : Arms) where
  -- the numbers, one more at a time
  pub numbers_more : (i : ℕ) → numbers_of (up_to b a (suc i)) ≡ numbers_of (up_to b a i) ++ (get_or b.listed i 0 ∷ [])
  unfolding numbers_of up_to block_at
  numbers_more i = map_append (λ (x : graph.Block). x.number) (up_to b a i) (block_at b a (get_or b.listed i 0) ∷ [])

  pub numbers_are : (i : ℕ) → i ≤ length b.listed → numbers_of (up_to b a i) ≡ take i b.listed
  unfolding numbers_of up_to
  numbers_are zero h = refl
  numbers_are (suc i) h =
      numbers_more i ∙ ap (λ (l : List ℕ). l ++ (get_or b.listed i 0 ∷ [])) (numbers_are i (omega (arith, h))) ∙ sym (take-suc b.listed i 0 (omega (arith, h)))

  pub listed_in : (i n : ℕ) → i < n → In (get_or b.listed i 0) (numbers_of (up_to b a n))
  listed_in i zero h = absurd (omega (arith, h))
  listed_in i (suc n) h = rw (numbers_more n) (go (listed_in i n) (test (ltb i n)))
    where
      go : (i < n → In (get_or b.listed i 0) (numbers_of (up_to b a n))) → T (ltb i n) ⊎ T (not (ltb i n)) → In (get_or b.listed i 0) (numbers_of (up_to b a n) ++ (get_or b.listed n 0 ∷ []))
      go ih (inl t) = In-left _ (numbers_of (up_to b a n)) _ (ih (ltb→lt i n t))
      go ih (inr f) = let e : i ≡ n = omega (arith, h, nltb→le i n f) in rw e (In-right _ (numbers_of (up_to b a n)) _ (inl refl))

  pub in_listed : (k n : ℕ) → In k (numbers_of (up_to b a n)) → (i : ℕ) × (i < n) × (get_or b.listed i 0 ≡ k)
  unfolding numbers_of up_to
  in_listed k zero j = absurd j
  in_listed k (suc n) j =
      ⊎_elim (λ x. let r = in_listed k n x in (r.0, omega (arith, r.1), r.2)) (λ x. ⊎_elim (λ e. (n, omega arith, sym e)) (λ z. absurd z) x)
      (append-In k (numbers_of (up_to b a n)) (get_or b.listed n 0 ∷ []) (subst (In k) (numbers_more n) j))

  -- where no two places list the same number, none is listed twice
  pub once_apart : (n : ℕ) → ((i j : ℕ) → i < n → j < n → get_or b.listed i 0 ≡ get_or b.listed j 0 → i ≡ j) → Once (numbers_of (up_to b a n))
  unfolding numbers_of up_to count tally
  once_apart zero h k = omega arith
  once_apart (suc n) h k = rw (numbers_more n) (rw (tally_append (λ (x : ℕ). eqb x k) (numbers_of (up_to b a n)) (get_or b.listed n 0 ∷ [])) (go (once_apart n (λ i j l m. h i j (omega (arith, l)) (omega (arith, m))) k) (test (eqb (get_or b.listed n 0) k))))
    where
      go : count k (numbers_of (up_to b a n)) ≤ 1 → T (eqb (get_or b.listed n 0) k) ⊎ T (not (eqb (get_or b.listed n 0) k)) → tally (λ (x : ℕ). eqb x k) (numbers_of (up_to b a n)) + (one (eqb (get_or b.listed n 0) k) + 0) ≤ 1
      go ih (inl t) = omega (arith, ap one (T→≡ (eqb (get_or b.listed n 0) k) t), absent)
        where
          absent : count k (numbers_of (up_to b a n)) ≡ 0
          absent =
              split_eq (count k (numbers_of (up_to b a n))) (λ e. e)
              (λ f. let r = in_listed k n (count→In k (numbers_of (up_to b a n)) (omega (arith, f))) in
              absurd (let q : r.0 ≡ n = h r.0 n (omega (arith, r.1)) (omega arith) (r.2 ∙ sym (eqb→eq (get_or b.listed n 0) k t)) in omega (arith, r.1, q)))
      go ih (inr f) = omega (arith, ap one (F→≡ (eqb (get_or b.listed n 0) k) f), ih)

  -- nor where `place` is the way back
  pub once_listed : (n : ℕ) → ((i : ℕ) → i < n → get_or b.place (get_or b.listed i 0) 0 ≡ suc i) → Once (numbers_of (up_to b a n))
  once_listed n h = once_apart n (λ i j l m e. let q : suc i ≡ suc j = sym (h i l) ∙ ap (λ (k : ℕ). get_or b.place k 0) e ∙ h j m in omega (arith, q))

  -- a block of the graph is what the tables have for its number
  pub in_tables : (n : ℕ) (x : graph.Block) → In x (up_to b a n) → x ≡ block_at b a x.number
  unfolding up_to block_at
  in_tables zero x i = absurd i
  in_tables (suc n) x i =
      ⊎_elim (in_tables n x) (λ j. ⊎_elim (λ e. e ∙ ap (block_at b a) (ap (λ (y : graph.Block). y.number) (sym e))) (λ z. absurd z) j)
      (append-In x (up_to b a n) (block_at b a (get_or b.listed n 0) ∷ []) i)

  -- a listed number finds what the tables have for it
  pub find_in : (n k : ℕ) → In k (numbers_of (up_to b a n)) → graph.block_at (up_to b a n) k ≡ block_at b a k
  find_in n k i = let r = block_in (up_to b a n) k i in in_tables n (graph.block_at (up_to b a n) k) r.0 ∙ ap (block_at b a) r.1

  pub find_listed : (i n : ℕ) → i < n → graph.block_at (up_to b a n) (get_or b.listed i 0) ≡ block_at b a (get_or b.listed i 0)
  find_listed i n h = find_in n (get_or b.listed i 0) (listed_in i n h)

-- ---- the entry
abbrev or_else : Option ℕ → Option ℕ → Option ℕ
or_else None o = o
or_else (Some e) o = Some e

abbrev marked : Bool → ℕ → Option ℕ → Option ℕ
marked true n o = Some n
marked false n o = o

entry_cons : (x : graph.Block) (g : graph.Graph) → entry (x ∷ g) ≡ marked (is_entry x.marks) x.number (entry g)
unfolding entry
entry_cons x g = go (is_entry x.marks)
  where
    go : (t : Bool) → ◌≡◌ {A = Option ℕ} (elim t [ true ↦ Some x.number | false ↦ entry g ]) (marked t x.number (entry g))
    go true = refl
    go false = refl

entry_append : (g h : graph.Graph) → entry (g ++ h) ≡ or_else (entry g) (entry h)
unfolding entry
entry_append [] h = refl
entry_append (x ∷ g) h = entry_cons x (g ++ h) ∙ ap (marked (is_entry x.marks) x.number) (entry_append g h) ∙ go (is_entry x.marks) ∙ ap (λ (o : Option ℕ). or_else o (entry h)) (sym (entry_cons x g))
  where
    go : (t : Bool) → marked t x.number (or_else (entry g) (entry h)) ≡ or_else (marked t x.number (entry g)) (entry h)
    go true = refl
    go false = refl

-- it is found by the numbers listed and their marks alone
module _ (b c : Blocks) (a d : Arms) (same : b.listed ≡ c.listed) (marks : b.marks ≡ c.marks) where
  pub entry_same : (n : ℕ) → entry (up_to b a n) ≡ entry (up_to c d n)
  unfolding up_to entry block_at
  entry_same zero = refl
  entry_same (suc n) =
      entry_append (up_to b a n) (block_at b a (get_or b.listed n 0) ∷ [])
      ∙ rw (entry_same n, same, marks) (sym (entry_append (up_to c d n) (block_at c d (get_or c.listed n 0) ∷ [])))

module _ (b : Blocks) (a : Arms) where
  -- one block more
  entry_more : (n : ℕ) → entry (up_to b a (suc n)) ≡ or_else (entry (up_to b a n)) (marked (is_entry (get_or b.marks (get_or b.listed n 0) 0)) (get_or b.listed n 0) None)
  unfolding up_to block_at entry
  entry_more n =
      entry_append (up_to b a n) (block_at b a (get_or b.listed n 0) ∷ []) ∙ ap (or_else (entry (up_to b a n))) (entry_cons (block_at b a (get_or b.listed n 0)) [])

  pub entry_none : (n : ℕ) → entry (up_to b a n) ≡ None → is_entry (get_or b.marks (get_or b.listed n 0) 0) ≡ false → entry (up_to b a (suc n)) ≡ None
  entry_none n e f = entry_more n ∙ ap (λ (o : Option ℕ). or_else o (marked (is_entry (get_or b.marks (get_or b.listed n 0) 0)) (get_or b.listed n 0) None)) e ∙ ap (λ (t : Bool). marked t (get_or b.listed n 0) None) f

  pub entry_some : (n : ℕ) → entry (up_to b a n) ≡ None → is_entry (get_or b.marks (get_or b.listed n 0) 0) ≡ true → entry (up_to b a (suc n)) ≡ Some (get_or b.listed n 0)
  entry_some n e f = entry_more n ∙ ap (λ (o : Option ℕ). or_else o (marked (is_entry (get_or b.marks (get_or b.listed n 0) 0)) (get_or b.listed n 0) None)) e ∙ ap (λ (t : Bool). marked t (get_or b.listed n 0) None) f

  entry_on : (i k e : ℕ) → entry (up_to b a i) ≡ Some e → entry (up_to b a (i + k)) ≡ Some e
  unfolding up_to
  entry_on i zero e h = rw add-zero h
  entry_on i (suc k) e h = rw add-suc (entry_append (up_to b a (i + k)) (block_at b a (get_or b.listed (i + k) 0) ∷ []) ∙ rw (entry_on i k e h))

  pub entry_stays : (i n e : ℕ) → i ≤ n → entry (up_to b a i) ≡ Some e → entry (up_to b a n) ≡ Some e
  entry_stays i n e l h = let q : i + (n - i) ≡ n = omega (arith, l) in subst (λ (m : ℕ). entry (up_to b a m) ≡ Some e) q (entry_on i (n - i) e h)

-- ---- tables that stand for a graph carry it, and where `place` is the way back too, tables that carry a graph stand for it
module _ {n m : ℕ} {t : Graph} {g : graph.Graph} where
  pub carries_of : Stands n m t g → Carries n m t g
  carries_of s = record {
    graph_is = s.graph_is;
    few = s.few;
    below = s.below;
    once = λ i j l k e. let q : suc i ≡ suc j = sym (s.back i l) ∙ ap (λ (x : ℕ). get_or t.b.place x 0) e ∙ s.back j k in omega (arith, q);
    fits = s.fits;
    blocks_sized = s.blocks_sized;
    arms_sized = s.arms_sized;
  }

  pub stands_of : Carries n m t g → Back t → Stands n m t g
  stands_of c b = record { graph_is = c.graph_is; few = c.few; below = c.below; back = b; fits = c.fits; blocks_sized = c.blocks_sized; arms_sized = c.arms_sized }

-- so with a graph that is sound and one that is carried
module _ {t : Graph} where
  pub sound_carried : Sound t → Carried t
  sound_carried s = record { stands = carries_of s.stands; whole = s.whole }

  pub carried_sound : Carried t → Back t → Sound t
  carried_sound c b = record { stands = stands_of c.stands b; whole = c.whole }
