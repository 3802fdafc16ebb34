-- The choice behind a first hint, which makes x false.
use Rattle.std.proofs.Common.{◌≡◌, ◌∙◌, ◌++◌, ℕ, ℤ, List, [], ◌∷◌, Some, ap, subst, sym}
use Rattle.std.specs.Option.{option_map}
use Rattle.lrat_rules.specs.Chain.{FalseSet, literals_of, with_literal}
use Rattle.hint_chain.specs.Greedy.{greedy}
use Rattle.hint_chain.specs.Step.{Spells, parts_in}
use Rattle.hint_chain.proofs.Sets.{literals_of-push}
use Rattle.hint_chain.proofs.StepHints.{behind_first}
use Rattle.hint_chain.proofs.step.step_hints_behind.Goals as goal

pub returns : goal.returns
returns c sides spells =
    let clause = c.args.clause.now in
    let x = c.args.x in
    let n : FalseSet = with_literal x (literals_of clause) in
    let own : literals_of c.push-2.new.self ≡ n = ap literals_of c.push-2.ensures ∙ literals_of-push c.from_slice-falses.result x
    ∙ ap (λ (l : List ℤ). with_literal x (literals_of l)) c.from_slice-falses.ensures in
    let chosen = c.choose_all.ensures sides
    (subst (λ (m : FalseSet). Spells m c.args.parts.now sides) (sym own) spells) in
    let first : c.push.new.self ≡ c.args.first ∷ [] = c.push.ensures ∙ ap (λ (l : List ℕ). l ++ c.args.first ∷ []) c.new-hints.ensures in
    let behind = subst (λ (front : List ℕ). option_map (λ more. front ++ more) (greedy (literals_of c.push-2.new.self)
    (parts_in sides)) ≡ Some c.choose_all.new.hints) first chosen in
    behind_first c.args.first x clause (parts_in sides) c.requires.new c.requires.open
    ∙ subst (λ (m : FalseSet). option_map (λ (ids : List ℕ). c.args.first ∷ ids) (greedy m (parts_in sides)) ≡ Some c.choose_all.new.hints)
    own behind
