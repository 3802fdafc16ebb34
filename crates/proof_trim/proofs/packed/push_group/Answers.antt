-- What is left to show of `push_group`.
use Rattle.std.proofs.Common.{ℕ, List, true, ◌∷◌, ◌++◌, ap, ◌∙◌, take}
use Rattle.std.specs.Prelude.{map, reverse}
use Rattle.proof_trim.specs.Packed.{code_of, hint_code}
use Rattle.proof_trim.proofs.Pushed.{led_pushed}
use Rattle.proof_trim.proofs.packed.push_group.Goals as goal

pub returns : goal.returns
returns c =
    led_pushed (code_of c.args.group.now.id true) (map hint_code (take c.args.count c.args.group.now.hints)) c.args.row.now
    c.push_code.new.row c.push_first_hints.new.row
    (c.in_ok-push_code.ensures ∙ ap (λ (n : ℕ). code_of n true ∷ c.args.row.now) c.get.ensures)
    (c.in_ok-push_first_hints.ensures ∙ ap (λ (l : List ℕ). reverse (map hint_code (take c.args.count l)) ++ c.push_code.new.row)
    c.as_slice.ensures)
