-- What the loops of `push_groups` keep.
use Rattle.std.proofs.Common.{◌≡◌, ◌++◌, drop}
use Rattle.std.specs.Prelude.{reverse}
use Rattle.std.specs.List.{flat_map}
use Rattle.lrat_checker.specs.Cuts.{groups_by}
use Rattle.proof_trim.specs.Packed.{group_codes}
use Rattle.proof_trim.proofs.packed.push_groups.Given as goal

-- with the rest on top it is what the whole gives
abbrev pub invariant-loop-i : goal.invariant-loop-i
invariant-loop-i l = reverse (flat_map group_codes (groups_by (drop l.i l.groups) (drop l.i l.counts))) ++ l.row
    ≡ reverse (flat_map group_codes (groups_by l.groups l.counts)) ++ l.fn.row
