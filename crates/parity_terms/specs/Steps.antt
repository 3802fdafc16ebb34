-- Steps of an elimination: calls of a runner, by the terms that are owned.
use Rattle.std.specs.Prelude.{◌≡◌, ◌≢◌, Bool, List, ◌∷◌, Contains, Result, Ok, Err, IfOk, IsTrue}
use Rattle.cnf_base.specs.Truth.{Assignment}
use Rattle.node_table.specs.declared.node.Node.TheVariants.{False}
use Rattle.node_table.specs.Diagram.{is_node}
use Rattle.node_table.specs.declared.error.TableError.{TableError}
use Rattle.node_table.specs.Progress.{Continues, Leaves, error_of}
use Rattle.bdd_terms.specs.declared.held.HeldTerm.{HeldTerm}
use Rattle.bdd_terms.specs.declared.runner.Runner.{Runner}
use Rattle.bdd_terms.specs.declared.term.Term.{Term}
use Rattle.bdd_terms.specs.Caches.{sizes}
use Rattle.bdd_terms.specs.Runner.{IsRunner, holds_in}
use Rattle.parity_terms.specs.Owned.{Owns}
use Rattle.node_table.specs.Table.{UnlessTorn}

-- The formula, the limits, the order and the sink stay, the empty clause does once it is there, and these terms stand with their values.
pub record Keeps {S : Type 0} (terms : List HeldTerm) (old new : Runner S) : Type 0 where
  pub formula : new.formula ≡ old.formula
  pub limits : new.limits ≡ old.limits
  pub sizes : sizes new.terms.caches ≡ sizes old.terms.caches
  pub order : new.terms.table.graph.order ≡ old.terms.table.graph.order
  pub origin : new.terms.table.book.origin ≡ old.terms.table.book.origin
  pub refuted : IsTrue old.refuted → IsTrue new.refuted
  pub stand : (held : HeldTerm) → Contains terms held → IsTrue (is_node new.terms.table.graph held.node)
  pub values : (held : HeldTerm) → Contains terms held → (a : Assignment) → holds_in new held a ≡ holds_in old held a

-- what is owned behind a step that gives a term
abbrev pub with_given : List HeldTerm → Result Term TableError → List HeldTerm
with_given terms (Ok term) = term.held ∷ terms
with_given terms (Err error) = terms

-- A step gives a term that holds where this does. However it ends, the terms that were out stay. It is False only where the empty clause
-- came, and this only where it is False.
pub record Takes {S : Type 0} (terms : List HeldTerm) (holds : Assignment → Bool) (old new : Runner S) (result : Result Term TableError)
    : Type 0 where
  pub goes_on : UnlessTorn result (IsRunner new)
  pub stands : IfOk result (λ term. IsTrue (is_node new.terms.table.graph term.held.node))
  pub value : IfOk result (λ term. (a : Assignment) → holds_in new term.held a ≡ holds a)
  pub owns : UnlessTorn result (Owns (with_given terms result) new.terms.out.items)
  pub refutes : IfOk result (λ term. term.held.node ≡ False → IsTrue new.refuted)
  pub unrefuted : UnlessTorn result (IfOk result (λ term. term.held.node ≢ False) → new.refuted ≡ old.refuted)
  pub keeps : UnlessTorn result (Keeps terms old new)
  pub leaves : Leaves old.terms.table new.terms.table (error_of result)

-- Between two steps: the runner goes on, and these terms are all that are out, as they were.
pub record Goes {S : Type 0} (terms : List HeldTerm) (old new : Runner S) : Type 0 where
  pub runner : IsRunner new
  pub owns : Owns terms new.terms.out.items
  pub refuted : new.refuted ≡ old.refuted
  pub keeps : Keeps terms old new
  pub continues : Continues old.terms.table new.terms.table
