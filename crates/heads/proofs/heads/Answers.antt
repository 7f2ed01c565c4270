-- `heads::heads` meets its contract: the pieces, what is entered from behind, and of that the blocks that are heavy enough.
use Rattle.std.proofs.Common.{ℕ, ◌/◌, get_or, ap, ◌∙◌}
use Rattle.walks.proofs.GraphLaws.{fitting_walks}
use Rattle.cycles.proofs.StandingLaws.{linkable_gathers}
use Rattle.heads.proofs.HeadLaws.{head_exact}
use Rattle.heads.proofs.heads.Goals as goal

-- no callee asks that `place` is the way back
pub cycles-piece-requires : goal.cycles-piece-requires
cycles-piece-requires c = linkable_gathers c.requires

pub mark_back-back-requires : goal.mark_back-back-requires
mark_back-back-requires c = linkable_gathers c.requires

pub hottest-requires : goal.hottest-requires
hottest-requires c = fitting_walks c.requires.fitting

pub mark_heads-requires : goal.mark_heads-requires
mark_heads-requires c = fitting_walks c.requires.fitting

pub returns : goal.returns
returns c =
    let g = c.args.g.now in
    λ i h. c.mark_heads.ensures (get_or g.b.listed i 0) ∙ head_exact g c.requires.fitting c.cycles-piece.result c.cycles-piece.ensures c.mark_back-back.result _ c.mark_back-back.ensures (ap (λ (x : ℕ). x / 100) c.hottest.ensures) i h
