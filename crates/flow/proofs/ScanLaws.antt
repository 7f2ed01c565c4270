-- How many arms a block has, and the best so far of a list. Assumes nothing.
use Prim.Native.Nat.{ℕ, zero, suc}
use mathlib.Core.Path.{◌≡◌, refl, ap}
use mathlib.Core.Bool.{Bool, true, false}
use mathlib.Core.List.{List, [], ◌∷◌, ◌++◌}
use Rattle.std.specs.Prelude.{Option, None, Some}
use lib.ListN.{length}
use Rattle.rules.specs.Lists.{best}
use Rattle.records.specs.declared.Arms.{Arms}
use Rattle.records.specs.Tables.{arms_from}

pub best_append : {A : Type 0} (less : A → A → Bool) (o : Option A) (s t : List A) → best less o (s ++ t) ≡ best less (best less o s) t
unfolding best
best_append less o [] t = refl
best_append less None (x ∷ s) t = best_append less (Some x) s t
best_append less (Some b) (x ∷ s) t = best_append less (elim (less b x) [ true ↦ Some x | false ↦ Some b ]) s t

module _ (a : Arms) where
  pub arms_length : (f n : ℕ) → length (arms_from a f n) ≡ n
  unfolding arms_from
  arms_length f zero = refl
  arms_length f (suc n) = ap suc (arms_length (suc f) n)
