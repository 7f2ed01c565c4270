-- `traces::add_trace` meets its contract.
use native.Mathlib.Omega.{arith}
use mathlib.Core.Path.{refl, ap, ap₂, ◌∙◌}
use Prim.Native.Nat.{ℕ, ◌+◌}
use mathlib.Core.Bool.{◌||◌}
use mathlib.Core.List.{List}
use lib.Dec.{eqb}
use lib.ListN.{set, get_or}
use Rattle.marks.specs.Sets.{member}
use Rattle.connect.specs.Joined.{begin_of}
use Rattle.traces.proofs.AddLaws.{adds_few, start_low, added}
use Rattle.traces.proofs.add_trace.Goals as goal

pub mark-requires : goal.mark-requires
mark-requires c = rw (c.begin.ensures ∙ ap₂ begin_of c.trace-end.ensures.kept.ends c.trace-end.ensures.kept.len) (start_low c.args.g.now c.requires.sound c.args.bar.likely c.args.bar.low c.args.from c.args.w.now _ _ c.trace-end.ensures.turned c.trace-end.ensures.kept c.requires.adds)

pub offset_bounds-w-k : goal.offset_bounds-w-k
offset_bounds-w-k c = omega (arith, adds_few c.args.g.now c.requires.sound c.args.bar.likely c.args.bar.low c.args.from c.args.w.now _ _ c.trace-end.ensures.turned c.trace-end.ensures.kept c.requires.adds, c.trace-end.ensures.kept.len)

pub bounds-w-k : goal.bounds-w-k
bounds-w-k c = omega (arith, adds_few c.args.g.now c.requires.sound c.args.bar.likely c.args.bar.low c.args.from c.args.w.now _ _ c.trace-end.ensures.turned c.trace-end.ensures.kept c.requires.adds, c.trace-end.ensures.kept.len)

pub overflow_add-w : goal.overflow_add-w
overflow_add-w c = omega (arith, adds_few c.args.g.now c.requires.sound c.args.bar.likely c.args.bar.low c.args.from c.args.w.now _ _ c.trace-end.ensures.turned c.trace-end.ensures.kept c.requires.adds, c.trace-end.ensures.kept.len)

pub returns-clause-added : goal.returns-clause-added
returns-clause-added c =
    let k = c.trace-end.ensures.kept in
    let v = c.trace-end.new.w in
    let e = c.begin.ensures ∙ ap₂ begin_of c.trace-end.ensures.kept.ends c.trace-end.ensures.kept.len in
    added c.args.g.now c.requires.sound c.args.bar.likely c.args.bar.low c.args.from c.args.w.now _ _ c.trace-end.ensures.turned c.trace-end.ensures.kept c.requires.adds _ k.entry refl refl refl (ap₂ (λ (l : List ℕ) (i : ℕ). set l i c.trace-end.result) k.ends k.len) (ap (λ (i : ℕ). i + 1) k.len)
    (λ m. c.mark.ensures m ∙ ap₂ (λ (i : ℕ) (l : List ℕ). eqb m (get_or v.made.order i 0) || member l m) (e) k.starts)
