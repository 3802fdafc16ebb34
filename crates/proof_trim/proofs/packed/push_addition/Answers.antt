-- What is left to show of `push_addition`.
use Rattle.std.proofs.Common.{ℕ, List, ◌∷◌, ◌++◌, ap, ◌∙◌}
use Rattle.std.specs.Prelude.{map, reverse, take}
use Rattle.std.specs.List.{flat_map}
use Rattle.lrat_checker.specs.Cuts.{groups_by}
use Rattle.proof_trim.specs.Packed.{addition_kind, group_codes, hint_code, literal_code}
use Rattle.proof_trim.proofs.Pushed.{addition_pushed}
use Rattle.proof_trim.proofs.packed.push_addition.Goals as goal

pub returns : goal.returns
returns c =
    addition_pushed (addition_kind c.args.clause.now) c.args.id (map literal_code c.args.clause.now)
    (map hint_code (take c.args.uses.now.hints c.args.hints.now))
    (flat_map group_codes (groups_by c.args.groups.now c.args.uses.now.groups)) c.args.row.now c.push.new.self c.push_literals.new.row
    c.push-2.new.self c.push_first_hints.new.row c.push_groups.new.row c.push_head.new.row c.in_ok-push.ensures
    c.in_ok-push_literals.ensures c.in_ok-push-2.ensures c.in_ok-push_first_hints.ensures
    (c.in_ok-push_groups.ensures ∙ ap (λ (l : List ℕ). reverse (flat_map group_codes (groups_by c.args.groups.now l))
    ++ c.push_first_hints.new.row) c.as_slice.ensures)
    (c.in_ok-push_head.ensures ∙ ap (λ n. n ∷ c.args.id ∷ c.push_groups.new.row) c.addition_kind.ensures)
