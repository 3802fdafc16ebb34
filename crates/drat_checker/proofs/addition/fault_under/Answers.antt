-- The candidates of the first literal decide.
use Rattle.std.proofs.Common.{◌≡◌, ℕ, List, [], sym, ◌∙◌, subst}
use Rattle.drat_checker.specs.Lines.{IsGoodLine}
use Rattle.drat_checker.proofs.Lifts.{if-ok}
use Rattle.drat_checker.proofs.Lined.{first-of}
use Rattle.drat_checker.proofs.addition.fault_under.Goals as goal

pub returns-in-len1-up-clause-line : goal.returns-in-len1-up-clause-line
returns-in-len1-up-clause-line c =
    let first = first-of c.args.clause.now c.pivot-item.result c.in-len1-up.len_at_least c.pivot-item.is in
    let none : c.candidates_fault.new.line.hints ≡ [] = c.candidates_fault.ensures.hints ∙ c.requires.hints in
    if-ok c.candidates_fault.result (λ fault h is wanted plain some.
    subst (λ (hs : List ℕ). IsGoodLine c.args.db.now c.args.clause.now hs c.candidates_fault.new.line.groups) (sym none)
    (h is wanted plain some first.0 first.1))
    c.candidates_fault.ensures.line
