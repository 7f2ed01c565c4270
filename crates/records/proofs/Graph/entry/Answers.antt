-- `Graph::entry` meets its contract: while it runs, no block before has the mark.
use Rattle.std.proofs.Common.{ℕ, suc, ◌≡◌, ◌<◌, sym, ap, ◌∙◌, subst, refl, arith, add-one, get_or, get_or-take, length-take-le, rules}
use Rattle.std.specs.Prelude.{None}
use Rattle.rules.specs.Graph.{entry, is_entry}
use Rattle.records.specs.Tables.{up_to, tabled}
use Rattle.records.proofs.StandLaws.{entry_none, entry_some, entry_stays}
use Rattle.records.proofs.Graph.entry.Goals as goal

pub loop-n-init : goal.loop-n-init
unfolding entry up_to
loop-n-init c = refl

pub returns-then-is_entry : goal.returns-then-is_entry
unfolding tabled
returns-then-is_entry c =
    let g = c.args.self.now in
    let i = c.loop-n.n-index in
    let inside : i < g.blocks = omega (arith, length-take-le g.blocks g.b.listed (search rules), c.loop-n-test.true) in
    let here = get_or-take g.blocks g.b.listed i 0 inside in
    let e = ap (λ (k : ℕ). is_entry (get_or g.b.marks k 0)) (sym here) ∙ sym (c.is_entry.ensures ∙ ap is_entry c.marks_of.ensures) ∙ c.if-is_entry.true in
    rw here (sym (entry_stays g.b g.a (suc i) g.blocks _ inside (entry_some g.b g.a i c.loop-n.invariant e)))

pub loop-n-preserved : goal.loop-n-preserved
loop-n-preserved c =
    let g = c.args.self.now in
    let i = c.loop-n.n-index in
    let inside : i < g.blocks = omega (arith, length-take-le g.blocks g.b.listed (search rules), c.loop-n-test.true) in
    let here = get_or-take g.blocks g.b.listed i 0 inside in
    let e = ap (λ (k : ℕ). is_entry (get_or g.b.marks k 0)) (sym here) ∙ sym (c.is_entry.ensures ∙ ap is_entry c.marks_of.ensures) ∙ c.if-is_entry.false in
    rw add-one (entry_none g.b g.a i c.loop-n.invariant e)

pub returns : goal.returns
unfolding tabled
returns c =
    let g = c.args.self.now in
    let long = length-take-le g.blocks g.b.listed (search rules) in
    sym (subst (λ (i : ℕ). entry (up_to g.b g.a i) ≡ None) (omega (arith, long, c.loop-n-test.false, c.loop-n.auto.n-index-end)) c.loop-n.invariant)
