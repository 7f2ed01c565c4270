-- `cold::splits` meets its contract: the entry, if it is warm and a block is cold.
use Rattle.std.proofs.Common.{arith, rules, ◌≡◌, ℕ, get_or, ◌∙◌, ◌&&◌, not, cond}
use Rattle.std.specs.Prelude.{Option, None, Some}
use Rattle.rules.specs.Graph.{is_cold}
use Rattle.cold.specs.Sides.{any_cold}
use Rattle.cold.proofs.SideLaws.{splits_are}
use Rattle.cold.proofs.splits.Goals as goal

pub returns : goal.returns
returns c =
    let g = c.args.g.now in
    let filtered : c.filter.result ≡ elim c.entry.result as (λ (o : Option ℕ). Option ℕ) [ None ↦ None | Some e ↦ cond (not (is_cold (get_or g.b.marks e 0)) && any_cold g) (Some e) None ] = search rules in
    filtered ∙ splits_are g (omega (arith, c.requires.few, c.requires.sized)) c.entry.result c.entry.ensures
