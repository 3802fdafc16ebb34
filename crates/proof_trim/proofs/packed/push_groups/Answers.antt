-- What is left to show of `push_groups`.
use Rattle.std.proofs.Common.{◌+◌, ◌++◌, drop, get_or, refl, arith}
use Rattle.std.specs.Prelude.{reverse}
use Rattle.std.specs.List.{flat_map}
use Rattle.lrat_checker.specs.Cuts.{groups_by}
use Rattle.proof_trim.specs.Packed.{group_codes}
use Rattle.proof_trim.proofs.Pushed.{all_groups, one_group}
use Rattle.proof_trim.proofs.Taking.{turn_of}
use Rattle.proof_trim.proofs.packed.push_groups.Goals as goal

pub loop-i-preserved : goal.loop-i-preserved
loop-i-preserved c =
    let groups = c.args.groups.now in
    let counts = c.args.counts.now in
    let i = c.loop-i.i in
    let short = c.loop-i-test.true in
    one_group c.index-groups-i.result (drop i groups) (drop (i + 1) groups) (get_or counts i 0) (drop i counts) (drop (i + 1) counts)
    c.loop-i.row c.push_group.new.row (reverse (flat_map group_codes (groups_by groups counts)) ++ c.args.row.now) c.loop-i.invariant
    (turn_of groups i c.index-groups-i.result _ (omega (arith, c.min-shared.ensures, short)) c.index-groups-i.is)
    (turn_of counts i (get_or counts i 0) 0 (omega (arith, c.min-shared.ensures, short)) refl) c.in_ok-push_group.ensures

pub returns : goal.returns
returns c = all_groups c.args.groups.now c.args.counts.now c.loop-i.i c.loop-i.row
    (reverse (flat_map group_codes (groups_by c.args.groups.now c.args.counts.now)) ++ c.args.row.now) c.loop-i.invariant
    (λ short. omega (arith, short, c.min-shared.ensures, c.loop-i-test.false))
