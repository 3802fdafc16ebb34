-- The term of some clauses, conjoined one by one.
use Rattle.std.specs.Prelude.{◌≡◌, ◌≢◌, ◌≤◌, ℕ, Bool, true, false, List, [], ◌∷◌, Option, None, Some, Result, Ok, Err, IfOk, IfSome}
use Rattle.std.specs.Prelude.{MatchOption, IsTrue, ⊤}
use Rattle.cnf_base.specs.Truth.{Assignment}
use Rattle.node_table.specs.declared.error.TableError.{TableError}
use Rattle.node_table.specs.declared.node.Node.TheVariants.{False}
use Rattle.node_table.specs.Progress.{Leaves, error_of}
use Rattle.node_table.specs.Table.{UnlessTorn}
use Rattle.parity_equations.specs.Sums.{all_hold}
use Rattle.bdd_terms.specs.declared.held.HeldTerm.{HeldTerm}
use Rattle.bdd_terms.specs.declared.runner.Runner.{Runner}
use Rattle.bdd_terms.specs.declared.term.Term.{Term}
use Rattle.bdd_terms.specs.Runner.{IsRunner, holds_in}
use Rattle.parity_terms.specs.Owned.{Owns}
use Rattle.parity_terms.specs.Steps.{Keeps, with_given}

-- numbers of clauses, from 1 up to this many
abbrev pub AreNumbers : ℕ → List ℕ → Type 0
AreNumbers most [] = ⊤
AreNumbers most (number ∷ more) = (1 ≤ number) × ((number ≤ most) × AreNumbers most more)

-- A term and a clause together: a term that holds where this does. It is False only where the empty clause came, which may have come as
-- the clause itself.
pub record Joins {S : Type 0} (terms : List HeldTerm) (holds : Assignment → Bool) (old new : Runner S) (result : Result Term TableError)
    : Type 0 where
  pub goes_on : UnlessTorn result (IsRunner new)
  pub value : IfOk result (λ term. (a : Assignment) → holds_in new term.held a ≡ holds a)
  pub owns : UnlessTorn result (Owns (with_given terms result) new.terms.out.items)
  pub refutes : IfOk result (λ term. term.held.node ≡ False → IsTrue new.refuted)
  pub keeps : UnlessTorn result (Keeps terms old new)
  pub leaves : Leaves old.terms.table new.terms.table (error_of result)

-- what is owned behind a call that may give a term
abbrev pub with_found : List HeldTerm → Result (Option Term) TableError → List HeldTerm
with_found terms (Ok None) = terms
with_found terms (Ok (Some term)) = term.held ∷ terms
with_found terms (Err error) = terms

-- The term that holds where the clauses of these numbers do; none where the empty clause came. However it ends, the terms that were out
-- stay.
pub record TakesClauses {S : Type 0} (terms : List HeldTerm) (numbers : List ℕ) (old new : Runner S)
    (result : Result (Option Term) TableError) : Type 0 where
  pub goes_on : UnlessTorn result (IsRunner new)
  pub owns : UnlessTorn result (Owns (with_found terms result) new.terms.out.items)
  pub keeps : UnlessTorn result (Keeps terms old new)
  pub refuted : IfOk result (λ found. MatchOption found (new.refuted ≡ true)
      (λ term. (new.refuted ≡ false) × (term.held.node ≢ False)))
  pub value : IfOk result (λ found. IfSome found (λ term. (a : Assignment) → holds_in new term.held a
      ≡ all_hold old.formula.now.clauses numbers a))
  pub leaves : Leaves old.terms.table new.terms.table (error_of result)
