-- `reader::read_arms` meets its contract: while it runs, the records so far are arms and the tables say what they say.
use Rattle.std.proofs.Common.{ℕ, List, ◌≡◌, ◌+◌}
use Rattle.rules.specs.Records.{before}
use Rattle.rules.specs.Refusals.{last_of}
use Rattle.reader.specs.Reads.{Behind, ArmsHeld}
use Rattle.reader.proofs.read_arms.Given as goal

abbrev pub invariant-loop-j : goal.invariant-loop-j
invariant-loop-j l =
    (s : List ℕ) → Behind s l.t l.blocks l.b → ArmsHeld l.b.place (before s l.blocks) (before s (l.blocks + l.j)) l.j l.a × (l.last ≡ last_of (before s (l.blocks + l.j)))
