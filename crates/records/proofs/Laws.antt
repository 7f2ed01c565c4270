-- Record i, as the part that the code takes. Assumes nothing.
use Rattle.std.proofs.Common.{ℕ, ◌≡◌, ◌∙◌, sym, ◌+◌, ◌-◌, ◌*◌, ap, List, take, drop}
use Rattle.limits.specs.Limits.{size}
use Rattle.lists.proofs.Parts.{part_is}
use Rattle.rules.specs.declared.Record.{Record}
use Rattle.rules.specs.Records.{record_of, record_at}

pub part_record : (s : List ℕ) (i : ℕ) → record_of (take (size * i + size - size * i) (drop (size * i) s)) ≡ record_at s i
unfolding record_at
part_record s i = ap record_of (part_is s (size * i) size)

pub record_is : (s : List ℕ) (i : ℕ) (r : Record) → r ≡ record_of (take (size * i + size - size * i) (drop (size * i) s)) → record_at s i ≡ r
record_is s i r e = sym (part_record s i) ∙ sym e
