-- The faults that the reader's small tests give, by what they are told, and what it carries from record to record.
use Rattle.std.specs.Prelude.{ℕ, ◌+◌, cond, ◌&&◌, eqb, ltb, leb, Option, None, Some}
use Rattle.limits.specs.Limits.{most_arms}
use Rattle.rules.specs.Graph.{is_entry}
use Rattle.rules.specs.declared.Fault.{Fault}
use Rattle.rules.specs.declared.Fault.TheVariants.{OutOfOrder, ListedBefore, SecondEntry, NotListed, TooManyArms}

unfoldable pub block_fault : ℕ → ℕ → ℕ → Option Fault
block_fault place entry marks = cond (ltb 0 place) (Some ListedBefore) (cond (is_entry marks && ltb 0 entry) (Some SecondEntry) None)

unfoldable pub arm_fault : ℕ → ℕ → ℕ → ℕ → Option Fault
arm_fault from to last arms =
    cond (ltb 0 from && ltb 0 to) (cond (ltb from last) (Some OutOfOrder) (cond (leb most_arms arms) (Some TooManyArms) None)) (Some NotListed)

unfoldable pub entry_next : ℕ → ℕ → ℕ → ℕ
entry_next entry marks i = cond (is_entry marks) (i + 1) entry

unfoldable pub first_next : ℕ → ℕ → ℕ → ℕ
first_next first count j = cond (eqb count 0) j first
