-- What the fields of a record inside the layout are below. Assumes nothing.
use Prim.Native.Nat.{ℕ, ◌*◌, ◌/◌, ◌%◌, ◌<◌}
use native.Mathlib.Omega.{arith}
use mathlib.Core.Path.{◌≡◌, ap, subst}
use mathlib.Core.List.{List}
use lib.Dec.{ltb, eqb}
use lib.ListN.{get_or, take, drop}
use borrow.Author.Tests.{ltb-true}
use Rattle.limits.specs.Limits.{size, numbers, marks_below, ends_below}
use Rattle.lists.proofs.Choices.{cond_elim}
use Rattle.rules.specs.declared.Record.{Record}
use Rattle.rules.specs.declared.Record.TheVariants.{Block, Arm, Outside}
use Rattle.rules.specs.Graph.{bit, is_entry}
use Rattle.rules.specs.Records.{gap_zero, block_of, arm_of, record_of, record_at}

pub entry_bit : (marks : ℕ) → eqb (marks % 2) 1 ≡ is_entry marks
unfolding is_entry bit
entry_bit marks =
    let e : marks ≡ marks / 1 = omega arith in
    ap (λ (m : ℕ). eqb (m % 2) 1) e

abbrev pub Inside : Record → Type 0
Inside (Block number marks end weight) = (number < numbers) × (marks < marks_below) × (end < ends_below)
Inside (Arm from to args weight) = args < 2
Inside Outside = Unit

block_inside : (r : List ℕ) → Inside (block_of r)
unfolding block_of
block_inside r =
    cond_elim Inside (ltb (get_or r 1 0) numbers) _ _
    (λ h. cond_elim Inside (ltb (get_or r 2 0) marks_below) _ _
    (λ k. cond_elim Inside (ltb (get_or r 3 0) ends_below) _ _
    (λ l. (ltb-true (get_or r 1 0) numbers h, ltb-true (get_or r 2 0) marks_below k, ltb-true (get_or r 3 0) ends_below l))
    (λ l. tt))
    (λ k. tt))
    (λ h. tt)

arm_inside : (r : List ℕ) → Inside (arm_of r)
unfolding arm_of
arm_inside r = cond_elim Inside (ltb (get_or r 3 0) 2) _ _ (λ h. ltb-true (get_or r 3 0) 2 h) (λ h. tt)

record_inside : (r : List ℕ) → Inside (record_of r)
unfolding record_of
record_inside r =
    cond_elim Inside (gap_zero r) _ _
    (λ g. cond_elim Inside (eqb (get_or r 0 0) 1) _ _ (λ h. block_inside r) (λ h. cond_elim Inside (eqb (get_or r 0 0) 2) _ _ (λ k. arm_inside r) (λ k. tt)))
    (λ g. tt)

pub at_inside : (s : List ℕ) (i : ℕ) → Inside (record_at s i)
unfolding record_at
at_inside s i = record_inside (take size (drop (size * i) s))

pub block_small : (s : List ℕ) (i number marks end weight : ℕ) → record_at s i ≡ Block number marks end weight → number < numbers
block_small s i number marks end weight e = let h : Inside (Block number marks end weight) = subst Inside e (at_inside s i) in h.0
