-- `connect::leads` meets its contract, test by test.
use native.Mathlib.Omega.{arith}
use mathlib.Core.Path.{refl, sym, ap, ◌∙◌}
use mathlib.Core.Path.{◌≡◌}
use Rattle.limits.specs.Limits.{blocks}
use lib.ListN.{length}
use lib.Seq.{length-slice}
use borrow.Author.Rules.{rules}
use Rattle.rules.specs.Graph.{is_cold}
use Rattle.connect.proofs.LinkLaws.{leads_on}
use Rattle.connect.proofs.leads.Goals as goal

pub trace-requires : goal.trace-requires
trace-requires c = c.requires.1 _ _ (sym c.in_ok-index.ensures)

pub returns : goal.returns
returns c =
    let a = c.args in
    let s = c.requires.1 _ _ (sym c.in_ok-index.ensures) in
    let long : length a.found.now.order ≡ blocks = search rules in
    leads_on a.g.now a.found.now.ends a.head.now a.used.now a.cold a.q _ (sym c.in_ok-index.ensures) (sym c.if-is_marked.ensures) _ (c.is_cold-there.ensures ∙ ap is_cold c.marks_of.ensures) c.if-across.false _ refl
    (ap length c.trace.ensures ∙ length-slice _ _ a.found.now.order (omega (arith, s.within, long))) refl
