-- Document 01, "Split": the cold blocks go last.
use Rattle.std.specs.Prelude.{ℕ, Bool, true, false, not, ◌&&◌, List, ◌++◌}
use Rattle.rules.specs.Lists.{keep, any}
use Rattle.rules.specs.Graph.{Block, Graph, is_cold, cold_at}
use Rattle.rules.specs.Spread.{warm_entry}

-- "With a warm entry and a cold block"
unfoldable pub splits : Graph → Bool
unfolding warm_entry any is_cold
splits g = warm_entry g && any (λ (b : Block). is_cold b.marks) g

-- the warm ones, "in order"
unfoldable pub warm_part : Graph → List ℕ → List ℕ
unfolding keep cold_at
warm_part g o = keep (λ (n : ℕ). not (cold_at g n)) o

-- the cold ones, "in order"
unfoldable pub cold_part : Graph → List ℕ → List ℕ
unfolding keep cold_at
cold_part g o = keep (cold_at g) o

-- "warm, then cold, each in order"
unfoldable pub partition : Graph → List ℕ → List ℕ
unfolding splits warm_part cold_part
partition g o = elim (splits g) [ false ↦ o | true ↦ warm_part g o ++ cold_part g o ]
