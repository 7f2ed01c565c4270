-- `fields::encode` meets its contract: two halves, one after the other.
use Rattle.std.proofs.Common.{ℕ, ◌≡◌, ◌++◌, ◌-◌, ◌∙◌, ap, arith, List, length, drop, length-drop, append-nil, rules}
use Rattle.std.proofs.Math.Nat.{div-div-eq-div-mul}
use lib.ListN.{drop_of_length-le}
use lib.Seq.{take_at}
use Rattle.std.specs.Int.{to_le_bytes, w64}
use borrow.Rule.Slice.PartMut.{put_mid}
use Rattle.rules.specs.Records.{bytes_of}
use Rattle.records.proofs.fields.encode.Goals as goal

bytes_are : (v : ℕ) → to_le_bytes w64 v ≡ bytes_of 8 v
bytes_are v = simp div-div-eq-div-mul

two_parts : (l h w : List ℕ) (a : ℕ) → length h ≡ a → put_mid a (length (h ++ drop a l) - a) (h ++ drop a l) w ≡ h ++ w
two_parts l h w a n =
    rw (take_at h (drop a l) a n)
    (ap (λ (t : List ℕ). h ++ t) (ap (λ (t : List ℕ). w ++ t) (drop_of_length-le (drop a (h ++ drop a l)) {i = length (h ++ drop a l) - a} (simp length-drop (omega arith))) ∙ append-nil w))

pub returns : goal.returns
returns c =
    rw (c.copy_from_slice.ensures.after, c.copy_from_slice-2.ensures.after, c.to_le_bytes.ensures)
    (two_parts c.args.o.now c.args.head (to_le_bytes w64 c.args.weight) 8 (search rules) ∙ ap (λ (t : List ℕ). c.args.head ++ t) (bytes_are c.args.weight))
