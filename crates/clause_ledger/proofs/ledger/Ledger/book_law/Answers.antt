-- What is left to show of `Ledger::book_law`.
use Rattle.std.proofs.Common.{◌≡◌, ◌∷◌, ◌++◌, ℕ, List, [], true, false, subst}
use Rattle.cnf_base.specs.declared.step.Step.{Step}
use Rattle.lrat_rules.specs.State.{start}
use Rattle.lrat_rules.specs.Derivation.{IsCutProof, IsWritten}
use Rattle.clause_ledger.specs.Book.{Book, IsTextOf, after_steps}
use Rattle.clause_ledger.proofs.Cut.{cut_written, whole_written}
use Rattle.clause_ledger.proofs.ledger.Ledger.book_law.Goals as goal

pub returns-clause-written : goal.returns-clause-written
returns-clause-written g c =
    let story = c.self.inside.history.story in
    subst (λ (b : Book g.row.S.Denot). (bytes : List ℕ) → IsTextOf true b.steps bytes → IsWritten b.formula bytes b.state) c.self.view_is
    (λ bytes is. whole_written c.derivation_law.ensures.text story.formula story.steps story.state bytes c.self.invariant.3 is)

pub returns-clause-cut : goal.returns-clause-cut
returns-clause-cut g c =
    let story = c.self.inside.history.story in
    subst (λ (b : Book g.row.S.Denot). (bytes : List ℕ) (earlier : List Step) (last : Step) → IsTextOf false b.steps bytes → b.steps
    ≡ earlier ++ last ∷ [] → IsCutProof b.formula bytes (after_steps (start b.formula) earlier) b.state) c.self.view_is
    (λ bytes earlier last is parts. cut_written c.derivation_law.ensures.text story.formula story.steps story.state bytes c.self.invariant.3
    earlier last parts is)
