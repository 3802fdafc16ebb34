-- What the loop of `rank_all` keeps.
use Rattle.std.proofs.Common.{◌≡◌, ◌-◌, length, take}
use Rattle.reconstruction.specs.Entries.{variables_of}
use Rattle.reconstruction.proofs.Ranked.{AreRanked}
use Rattle.reconstruction.proofs.ranks.rank_all.Given as goal

abbrev pub invariant-entries : goal.invariant-entries
invariant-entries l = record {
  places : length l.ranks.items ≡ length l.fn.ranks.items;
  are : AreRanked (length l.entries - l.place) l.ranks.items l.round (variables_of (take l.place l.entries)) l.differ;
}
