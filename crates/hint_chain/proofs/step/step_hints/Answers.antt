-- The choice behind no hint.
use Rattle.std.proofs.Common.{◌≡◌, ◌++◌, ℕ, ℤ, List, Some, subst, sym}
use Rattle.std.specs.Option.{option_map}
use Rattle.lrat_rules.specs.Chain.{literals_of}
use Rattle.hint_chain.specs.Greedy.{greedy}
use Rattle.hint_chain.specs.Step.{Spells, parts_in}
use Rattle.hint_chain.proofs.StepHints.{none_before}
use Rattle.hint_chain.proofs.step.step_hints.Goals as goal

pub returns : goal.returns
returns c sides spells =
    let clause = c.args.clause.now in
    let own : c.from_slice-falses.result ≡ clause = c.from_slice-falses.ensures in
    let chosen = c.choose_all.ensures sides
    (subst (λ (l : List ℤ). Spells (literals_of l) c.args.parts.now sides) (sym own) spells) in
    let from_none = subst (λ (front : List ℕ). option_map (λ more. front ++ more) (greedy (literals_of c.from_slice-falses.result)
    (parts_in sides)) ≡ Some c.choose_all.new.hints) c.new-hints.ensures chosen in
    subst (λ (l : List ℤ). greedy (literals_of l) (parts_in sides) ≡ Some c.choose_all.new.hints) own
    (none_before (greedy (literals_of c.from_slice-falses.result) (parts_in sides)) c.choose_all.new.hints from_none)
