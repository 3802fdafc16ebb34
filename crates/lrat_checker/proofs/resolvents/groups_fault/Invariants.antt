-- What the loops of `groups_fault` keep.
use Rattle.std.proofs.Common.{◌≡◌, ◌++◌, None, drop, take}
use Rattle.std.specs.Prelude.{map}
use Rattle.lrat_rules.specs.Addition.{groups_fault}
use Rattle.lrat_rules.specs.FalseLiterals.{set_of, before_of}
use Rattle.lrat_checker.specs.Cuts.{group_use}
use Rattle.lrat_checker.proofs.resolvents.groups_fault.Given as goal

-- what the rest gives is what the whole gives, and the counts are those of the groups so far
abbrev pub invariant-loop-group : goal.invariant-loop-group
invariant-loop-group l = record {
  rest : groups_fault l.live (set_of l.chain) l.pivot (drop l.group-index l.groups)
      ≡ groups_fault l.live (set_of l.fn.chain) l.pivot l.groups;
  same_set : set_of l.chain ≡ set_of l.fn.chain;
  no_group : before_of l.chain ≡ None;
  uses : l.uses ≡ record {
    hints = l.fn.uses.hints;
    groups = l.fn.uses.groups ++ map (group_use l.live (set_of l.fn.chain) l.pivot) (take l.group-index l.groups);
  };
}
