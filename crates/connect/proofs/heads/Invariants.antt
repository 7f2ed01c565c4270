-- `connect::heads` meets its contract: the table has the traces so far.
use Rattle.connect.proofs.HeadLaws.{Heading}
use Rattle.connect.proofs.heads.Given as goal

abbrev pub invariant-loop-k : goal.invariant-loop-k
invariant-loop-k l = Heading l.found l.k l.head
