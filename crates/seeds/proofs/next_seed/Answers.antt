-- `seeds::next_seed` meets its contract.
use Rattle.records.specs.Tables.{in_order}
use Rattle.seeds.proofs.StartLaws.{best_among, best_starts}
use Rattle.seeds.proofs.next_seed.Goals as goal

pub returns : goal.returns
unfolding in_order
returns c = rw c.best_of.ensures (record { among = best_among _ _ _ _ _; starts_at = best_starts _ _ _ _ _ })
