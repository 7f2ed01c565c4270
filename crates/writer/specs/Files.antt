-- What the tables are asked for, so that they can be written.
use Rattle.std.specs.Prelude.{ℕ, ◌≤◌, length}
use Rattle.limits.specs.Limits.{blocks, arms}
use Rattle.rules.specs.Records.{written}
use Rattle.records.specs.declared.Graph.{Graph}
use Rattle.records.specs.Tables.{tabled, ArmsWithin}

-- no more blocks and arms than the tables have room for, and room for the file
pub record Writable (g : Graph) (room : ℕ) : Type 0 where
  pub few : g.blocks ≤ blocks
  pub fits : ArmsWithin g.a arms
  pub room_is : length (written (tabled g)) ≤ room
