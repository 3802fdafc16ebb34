-- The identifiers so far stand before this place.
use Rattle.std.proofs.Common.{◌≡◌, true, take, map, nat_abs}
use Rattle.std.specs.List.{list_all}
use Rattle.lrat_text.specs.Numbers.{is_positive_hint}
use Rattle.lrat_text.proofs.build.put_front.Given as goal

abbrev pub invariant-loop-place : goal.invariant-loop-place
invariant-loop-place l = record {
  same : l.ids ≡ map nat_abs (take l.place l.numbers);
  all : list_all is_positive_hint (take l.place l.numbers) ≡ true;
}
