-- The table of the heaviest arms in from laid blocks, and what laying a block adds to it.
use Rattle.std.specs.Prelude.{ℕ, ◌+◌, ◌≤◌, ◌<◌, ◌≡◌, max, cond, List, ◌∷◌, eqb, get_or}
use Rattle.limits.specs.Limits.{blocks, arms}
use Rattle.rules.specs.Graph as graph
use Rattle.rules.specs.Lists.{foldl}
use Rattle.rules.specs.Traces.{heaviest_in}
use Rattle.records.specs.declared.Arms.{Arms}
use Rattle.records.specs.declared.Graph.{Graph}
use Rattle.records.specs.Tables.{leaves, tabled, Has, Carried}
use Rattle.flow.specs.Lent.{HasArms, Of}

-- for every block of t the table has the heaviest arm in from a laid block
abbrev pub Reached : Graph → List ℕ → List ℕ → Type 0
Reached t laid reached = (m : ℕ) → Of t m → get_or reached m 0 ≡ heaviest_in (tabled t) laid m

-- block n's arms are in the tables, and go to blocks
pub record Notes (a : Arms) (n : ℕ) : Type 0 where
  pub fits : get_or a.first n 0 + get_or a.count n 0 ≤ arms
  pub goes : (q : ℕ) → Has a n q → get_or a.to q 0 < blocks

-- the heaviest of k and those of some arms that go to block m
unfoldable pub heaviest : ℕ → ℕ → List graph.Arm → ℕ
heaviest m k l = foldl (λ (j : ℕ) (a : graph.Arm). cond (eqb a.to m) (max j a.weight) j) k l

-- each entry counts block n's arms too
abbrev pub Entries : Arms → ℕ → List ℕ → List ℕ → Type 0
Entries a n before after = (m : ℕ) → get_or after m 0 ≡ heaviest m (get_or before m 0) (leaves a n)

-- in every graph with these arms and this block: what held of the blocks laid before holds with n laid too
abbrev pub Noted : Arms → ℕ → List ℕ → List ℕ → Type 0
Noted a n before after =
    (t : Graph) → HasArms t a → Carried t → Of t n → (laid : List ℕ) → Reached t laid before → Reached t (n ∷ laid) after
