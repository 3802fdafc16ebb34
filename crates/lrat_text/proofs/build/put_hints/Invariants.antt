-- The hints and groups so far stand before this place, where none that is positive stands.
use Rattle.std.proofs.Common.{◌≡◌, ◌<◌, ◌≤◌, ◌-◌, true, false, pos, length, take, get_or}
use Rattle.std.specs.List.{list_all}
use Rattle.cnf_base.specs.ProofText.{is_hint, hints_before_group, groups_of}
use Rattle.lrat_text.specs.Numbers.{is_positive_hint}
use Rattle.lrat_text.proofs.build.put_hints.Given as goal

abbrev pub invariant-groups : goal.invariant-groups
invariant-groups l = record {
  within : l.end ≤ length l.numbers;
  all : list_all is_hint (take l.end l.numbers) ≡ true;
  hints : l.hints ≡ hints_before_group (take l.end l.numbers);
  groups : l.groups ≡ groups_of (take l.end l.numbers);
  stops : l.end < length l.numbers → is_positive_hint (get_or l.numbers l.end (pos 0)) ≡ false;
}

abbrev pub decreases-groups : goal.decreases-groups
decreases-groups l = length l.numbers - l.end
