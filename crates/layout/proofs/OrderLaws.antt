-- An order that has each block once can be laid. Assumes nothing.
use Prim.Native.Nat.{ℕ, zero, suc, ◌+◌, ◌≤◌, ◌<◌}
use native.Mathlib.Omega.{arith}
use mathlib.Core.Path.{◌≡◌, refl, sym, ap, ◌∙◌, subst}
use mathlib.Core.Bool.{Bool, true, false}
use mathlib.Core.Logic.{inl, inr}
use mathlib.Core.List.{List, [], ◌∷◌, ◌++◌}
use lib.Dec.{eqb, eqb_refl}
use lib.ListN.{length, get_or, take}
use lib.Seq.{take-suc, take_all}
use Rattle.rules.specs.Graph.{Graph, numbers_of, cold_at}
use Rattle.rules.specs.Within.{arm_total}
use Rattle.rules.specs.Laid.{ordered}
use Rattle.rules.specs.Split.{splits, warm_part, cold_part, partition}
use Rattle.rules.proofs.Membership.{In, T→≡}
use Rattle.rules.proofs.Counting.{one, tally, tally_split, count, Once, In→count, sum_by, perm_sum}
use Rattle.rules.proofs.Wholeness.{Whole}
use Rattle.rules.proofs.PlainOnce.{plain_once}
use Rattle.rules.proofs.JoinOnce.{joined_once}
use Rattle.records.specs.declared.Blocks.{Blocks}
use Rattle.records.specs.declared.Arms.{Arms}
use Rattle.records.specs.Tables.{block_at, up_to}
use Rattle.records.proofs.TableLaws.{leaves_count}
use Rattle.records.proofs.StandLaws.{numbers_more}
use Rattle.exits.specs.Lays.{arms_to}

-- ---- lists with each number once
pub get_in : (l : List ℕ) (i : ℕ) → i < length l → In (get_or l i 0) l
get_in [] i h = absurd (omega (arith, h))
get_in (x ∷ l) zero h = inl refl
get_in (x ∷ l) (suc i) h = inr (get_in l i (omega (arith, h)))

pub once_places : (l : List ℕ) → Once l → (i j : ℕ) → i < length l → j < length l → get_or l i 0 ≡ get_or l j 0 → i ≡ j
unfolding count tally
once_places [] o i j h k e = absurd (omega (arith, h))
once_places (x ∷ l) o zero zero h k e = refl
once_places (x ∷ l) o zero (suc j) h k e = absurd (omega (arith, o x, ap one (T→≡ (eqb x x) (eqb_refl x)), In→count x l (subst (λ (y : ℕ). In y l) (sym e) (get_in l j (omega (arith, k))))))
once_places (x ∷ l) o (suc i) zero h k e = absurd (omega (arith, o x, ap one (T→≡ (eqb x x) (eqb_refl x)), In→count x l (subst (λ (y : ℕ). In y l) e (get_in l i (omega (arith, h))))))
once_places (x ∷ l) o (suc i) (suc j) h k e = ap suc (once_places l (λ n. omega (arith, o n)) i j (omega (arith, h)) (omega (arith, k)) e)

-- ---- reordered or not
pub ordered_once : (reorder : Bool) (g : Graph) → Whole g → Once (numbers_of g) → (m : ℕ) → count m (ordered reorder g) ≡ count m (numbers_of g)
unfolding ordered
ordered_once true g w d m = joined_once g w d m
ordered_once false g w d m = plain_once g w d m

-- ---- warm, then cold
pub partition_count : (g : Graph) (o : List ℕ) (m : ℕ) → count m (partition g o) ≡ count m o
unfolding partition warm_part cold_part count
partition_count g o m = go (splits g)
  where
    go : (t : Bool) → tally (λ (x : ℕ). eqb x m) (elim t as (λ (b : Bool). List ℕ) [ false ↦ o | true ↦ warm_part g o ++ cold_part g o ]) ≡ tally (λ (x : ℕ). eqb x m) o
    go false = refl
    go true = tally_split (λ (x : ℕ). eqb x m) (cold_at g) o

-- ---- the arms of an order
sum_append : (f : ℕ → ℕ) (s t : List ℕ) → sum_by f (s ++ t) ≡ sum_by f s + sum_by f t
unfolding sum_by
sum_append f [] t = omega arith
sum_append f (x ∷ s) t = omega (arith, sum_append f s t)

arms_sum : (count o : List ℕ) (i : ℕ) → i ≤ length o → arms_to count o i ≡ sum_by (λ (n : ℕ). get_or count n 0) (take i o)
unfolding arms_to sum_by
arms_sum count o zero h = refl
arms_sum count o (suc i) h =
    omega (
      arith,
      arms_sum count o i (omega (arith, h)),
      ap (sum_by (λ (n : ℕ). get_or count n 0)) (take-suc o i 0 (omega (arith, h))),
      sum_append (λ (n : ℕ). get_or count n 0) (take i o) (get_or o i 0 ∷ []),
    )

total_append : (g h : Graph) → arm_total (g ++ h) ≡ arm_total g + arm_total h
unfolding arm_total
total_append [] h = omega arith
total_append (b ∷ g) h = omega (arith, total_append g h)

total_sum : (b : Blocks) (a : Arms) (i : ℕ) → sum_by (λ (n : ℕ). get_or a.count n 0) (numbers_of (up_to b a i)) ≡ arm_total (up_to b a i)
unfolding up_to numbers_of sum_by arm_total block_at
total_sum b a zero = refl
total_sum b a (suc i) =
    omega (
      arith,
      total_sum b a i,
      ap (sum_by (λ (n : ℕ). get_or a.count n 0)) (numbers_more b a i),
      sum_append (λ (n : ℕ). get_or a.count n 0) (numbers_of (up_to b a i)) (get_or b.listed i 0 ∷ []),
      total_append (up_to b a i) (block_at b a (get_or b.listed i 0) ∷ []),
      leaves_count a (get_or b.listed i 0),
    )

-- an order of all blocks has the arms of all
pub order_total : (b : Blocks) (a : Arms) (n : ℕ) (o : List ℕ) → ((m : ℕ) → count m o ≡ count m (numbers_of (up_to b a n))) → arms_to a.count o (length o) ≡ arm_total (up_to b a n)
order_total b a n o h =
    arms_sum a.count o (length o) (omega arith) ∙ ap (sum_by (λ (m : ℕ). get_or a.count m 0)) (take_all (length o) o (omega arith))
    ∙ perm_sum (λ (m : ℕ). get_or a.count m 0) o (numbers_of (up_to b a n)) h ∙ total_sum b a n
