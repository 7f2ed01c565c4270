-- `cold::chill` meets its contract: a block that joins is marked, and its arms are counted.
use Rattle.std.proofs.Common.{◌∙◌, sym, refl, true≢false, arith}
use Rattle.cold.specs.Sweeps.{cooled}
use Rattle.cold.proofs.SideLaws.{is_warm}
use Rattle.cold.proofs.SweepLaws.{joins_are}
use Rattle.cold.proofs.chill.Goals as goal

pub overflow_add-g : goal.overflow_add-g
overflow_add-g c = omega (arith, is_warm _ (joins_are _ _ _ _ _ (sym c.if-turns.ensures)).warm)

pub add_arms-requires : goal.add_arms-requires
add_arms-requires c = c.requires.adds (joins_are _ _ _ _ _ (sym c.if-turns.ensures)).warm

pub returns-then-turns : goal.returns-then-turns
unfolding cooled
returns-then-turns c =
    record {
      told = c.joins-turns.ensures;
      graph = rw c.if-turns.true refl;
      ins = refl;
      cold = λ t. c.add_arms.ensures;
      still = λ f. absurd (true≢false (sym c.if-turns.true ∙ f));
    }
