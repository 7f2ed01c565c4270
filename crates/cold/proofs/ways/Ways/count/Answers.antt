-- `Ways::count` meets its contract: while it runs, the arms of the first i blocks are counted.
use Rattle.std.proofs.Common.{ℕ, ◌∙◌, sym, ap, subst, arith}
use Rattle.rules.specs.Graph.{is_cold}
use Rattle.cold.specs.Ways.{links_of, Counted}
use Rattle.cold.proofs.WayLaws.{counted_none, adds_adding, ins_adds, ins_more, cold_adds, cold_more, cold_none}
use Rattle.cold.proofs.ways.Ways.count.Goals as goal
use Rattle.cold.proofs.ways.Ways.count.Goals.{then-is_cold, else-is_cold}

pub loop-i-init : goal.loop-i-init
loop-i-init c = counted_none (links_of c.args.g.now) c.args.g.now.b.marks

pub add_arms-requires : goal.add_arms-requires
add_arms-requires c =
    let l = c.loop-i in
    adds_adding (ins_adds (links_of c.args.g.now) c.requires l.i c.loop-i-test.true l.ways.ins l.invariant.ins)

pub add_arms-requires-then-is_cold : goal.add_arms-requires-then-is_cold
add_arms-requires-then-is_cold c =
    let g = c.args.g.now in
    let l = c.loop-i in
    adds_adding (cold_adds (links_of g) c.requires l.i c.loop-i-test.true g.b.marks l.ways.cold l.invariant.cold (sym (c.is_cold.ensures ∙ ap is_cold c.marks_of.ensures) ∙ c.if-is_cold.true))

pub loop-i-preserved : goal.loop-i-preserved
loop-i-preserved c =
    let g = c.args.g.now in
    let l = c.loop-i in
    let ins = ins_more (links_of g) c.requires l.i c.loop-i-test.true l.ways.ins _ l.invariant.ins c.add_arms.ensures in
    let e = sym (c.is_cold.ensures ∙ ap is_cold c.marks_of.ensures) in
    elim c.if-is_cold.branch [
      | then-is_cold w ↦
          rw w.ways-is (record { ins = ins; cold = cold_more (links_of g) c.requires l.i c.loop-i-test.true g.b.marks l.ways.cold l.invariant.cold _ (e ∙ w.if-is_cold.true) w.add_arms-then-is_cold.ensures })
      | else-is_cold w ↦ rw w.ways-is (record { ins = ins; cold = cold_none (links_of g) c.requires l.i c.loop-i-test.true g.b.marks l.ways.cold l.invariant.cold (e ∙ w.if-is_cold.false) })
    ]

pub returns : goal.returns
returns c =
    let g = c.args.g.now in
    subst (λ (i : ℕ). Counted (links_of g) g.b.marks i c.loop-i.ways) (omega arith) c.loop-i.invariant
