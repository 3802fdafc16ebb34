-- A walker between two walks.
use Rattle.std.specs.Prelude.{◌≤◌, ◌+◌, ℕ, length}
use Rattle.reconstruction.specs.declared.walker.Walker.{Walker}
use Rattle.reconstruction.specs.Ranks.{AreRanksBefore}
use Rattle.reconstruction.specs.Way.{AreMarksBefore}

-- no mark or rank is of a later round
pub record IsWalker (walker : Walker) : Type 0 where
  pub marks : AreMarksBefore (walker.round + 1) walker.marks.items
  pub ranks : AreRanksBefore (walker.round + 1) walker.ranks.items

-- Nothing is marked or ranked in this round, and there are places for so many keys and variables.
pub record IsReady (keys vars : ℕ) (walker : Walker) : Type 0 where
  pub marks : AreMarksBefore walker.round walker.marks.items
  pub ranks : AreRanksBefore walker.round walker.ranks.items
  pub room : keys ≤ length walker.marks.items
  pub places : vars ≤ length walker.ranks.items
