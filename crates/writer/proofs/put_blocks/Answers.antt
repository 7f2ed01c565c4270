-- `writer::put_blocks` meets its contract: while it runs, the front of the room has the blocks so far.
use Rattle.std.proofs.Common.{ℕ, ◌≡◌, ◌*◌, ◌++◌, ◌∙◌, arith, drop, get_or, refl, subst}
use Rattle.limits.specs.Limits.{size}
use Rattle.rules.specs.Records.{fields, block_bytes, blocks_bytes}
use Rattle.records.specs.Tables.{block_at, up_to, tabled}
use Rattle.writer.proofs.WriteLaws.{blocks_turn, written_parts}
use Rattle.writer.proofs.put_blocks.Goals as goal

pub loop-place-init : goal.loop-place-init
unfolding up_to blocks_bytes
loop-place-init c = refl

pub slice_bounds-encode-end : goal.slice_bounds-encode-end
unfolding tabled
slice_bounds-encode-end c =
    let g = c.args.g.now in
    omega (arith, written_parts g.b g.a g.blocks, c.requires.room_is)

pub loop-place-preserved : goal.loop-place-preserved
unfolding block_bytes block_at fields
loop-place-preserved c =
    let l = c.loop-place in
    let g = c.args.g.now in
    let e : c.encode.new.o ≡ block_bytes (block_at g.b g.a (get_or g.b.listed l.place 0)) =
    c.encode.ensures ∙ rw (c.weight_of.ensures, c.end_of.ensures, c.marks_of.ensures) in
    blocks_turn g.b g.a c.args.out.now l.out c.encode.new.o l.place l.invariant e

pub returns : goal.returns
unfolding tabled
returns c =
    let l = c.loop-place in
    let g = c.args.g.now in
    let e : l.place ≡ g.blocks = omega arith in
    subst (λ (k : ℕ). l.out ≡ blocks_bytes (up_to g.b g.a k) ++ drop (size * k) c.args.out.now) e l.invariant
