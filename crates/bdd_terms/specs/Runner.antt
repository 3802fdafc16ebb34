-- A runner between two calls that give, take or release terms, and what such a call promises. After a failed write nothing is asked
-- of it but its sink.
use Rattle.std.specs.Prelude.{◌≡◌, ◌≢◌, ◌⊎◌, ◌<◌, ◌+◌, ◌*◌, ◌++◌, ℕ, ℤ, Bool, false, List, [], ◌∷◌, Contains, Some, Result, Err, IfOk}
use Rattle.std.specs.Prelude.{IsErr, IsTrue, map}
use Rattle.std.specs.Option.{option_to_list}
use Rattle.cnf_base.specs.Truth.{Assignment}
use Rattle.lrat_rules.specs.State.{Live, clause_at}
use Rattle.node_table.specs.declared.error.TableError.{TableError}
use Rattle.node_table.specs.declared.error.TableError.TheVariants.{NodeLimit}
use Rattle.node_table.specs.declared.node.Node.{Node}
use Rattle.node_table.specs.declared.node.Node.TheVariants.{False, True}
use Rattle.node_table.specs.declared.node.Justification.TheVariants.{Clause, Trivial}
use Rattle.node_table.specs.Diagram.{Graph, KeepsNodes, levels}
use Rattle.node_table.specs.Made.{LacksPart, MakesOnly}
use Rattle.node_table.specs.Progress.{Continues, Leaves, error_of}
use Rattle.node_table.specs.Table.{AddsAtMost, UnlessTorn}
use Rattle.node_table.specs.Tied.{IsUpTo}
use Rattle.node_table.specs.Value.{Levels, by_level, value_of}
use Rattle.operations.specs.Budget.{most_additions}
use Rattle.clause_terms.specs.Term.{IsTerm}
use Rattle.bdd_terms.specs.declared.held.HeldTerm.{HeldTerm}
use Rattle.bdd_terms.specs.declared.runner.Runner.{Runner}
use Rattle.bdd_terms.specs.declared.term.Term.{Term}
use Rattle.bdd_terms.specs.Caches.{HaveRoom, all_entries, sizes}
use Rattle.bdd_terms.specs.Finds.{AreFew, IsProved}
use Rattle.bdd_terms.specs.Units.{HasUnits}
use Rattle.bdd_terms.specs.OverFormula.{IsOver, IsWithinLimits}
use Rattle.bdd_terms.specs.Parts.{HasAtMost}

-- the term that owns no clause
abbrev pub true_term : HeldTerm
true_term = record { node = True; unit = Trivial }

-- the terms that own a clause: those that are out, and the one whose empty clause stays
abbrev pub owners : {S : Type 0} → Runner S → List HeldTerm
owners runner = runner.terms.out.items ++ option_to_list runner.kept

-- The clause of a cube that was refused, under its number, as what owns it: True, which needs none.
abbrev pub refusal_of : ℕ → HeldTerm
refusal_of id = record { node = True; unit = Clause id }

abbrev pub refusals_of : {S : Type 0} → Runner S → List HeldTerm
refusals_of runner = map refusal_of runner.refusals.items

-- the clause is live, and over the formula's variables alone
pub record IsRefusal (graph : Graph) (live : Live) (id : ℕ) : Type 0 where
  pub clause : List ℤ
  pub stands : clause_at live id ≡ Some clause
  pub over : IsUpTo (levels graph) clause

-- one of these terms is False
pub record HasFalse (terms : List HeldTerm) : Type 0 where
  pub held : HeldTerm
  pub among : Contains terms held
  pub is_false : held.node ≡ False

-- Between two calls: the table is over the formula, and within the limits; each term that owns a clause is proved, its clause is its own,
-- those of refused cubes stand, and no clause that was added is lost. The empty clause was added exactly where the runner says so, and
-- then one of these terms is False.
pub record OwnsTerms {S : Type 0} (runner : Runner S) (terms : List HeldTerm) : Type 0 where
  pub over : IsOver runner.formula.now runner.terms.table (all_entries runner.terms.caches)
  pub within : IsWithinLimits runner.formula.now runner.limits runner.terms.table runner.terms.caches
  pub proved : (held : HeldTerm) → Contains terms held → IsProved runner.terms.table.graph runner.terms.table.book.state.live held
  pub units : HasUnits runner.terms.table (all_entries runner.terms.caches) (terms ++ refusals_of runner)
  pub refusals : (id : ℕ) → Contains runner.refusals.items id → IsRefusal runner.terms.table.graph runner.terms.table.book.state.live id
  pub kept : (held : HeldTerm) → runner.kept ≡ Some held → held.node ≡ False
  pub refuted : IsTrue runner.refuted → HasFalse terms
  pub unrefuted : runner.refuted ≡ false → (id : ℕ) → runner.terms.table.inputs < id
      → clause_at runner.terms.table.book.state.live id ≢ Some []

abbrev pub IsRunner : {S : Type 0} → Runner S → Type 0
IsRunner runner = OwnsTerms runner (owners runner)

-- a term that a call may take: it is True, or out of this runner
abbrev pub IsGood : {S : Type 0} → Runner S → HeldTerm → Type 0
IsGood runner held = (held ≡ true_term) ⊎ Contains runner.terms.out.items held

-- the term came onto the list of those that are out, or it is True and the list is as it was
abbrev pub IsListed : List HeldTerm → List HeldTerm → HeldTerm → Type 0
IsListed before after held = ((held ≡ true_term) × (after ≡ before)) ⊎ ((held.node ≢ True) × (after ≡ before ++ held ∷ []))

-- whether a term of this runner holds
abbrev pub holds_in : {S : Type 0} → Runner S → HeldTerm → Assignment → Bool
holds_in runner held a = value_of runner.terms.table.graph (by_level runner.terms.table.graph.order a) held.node

-- only the terms that are out, and what was added, changed; no cube was refused; the proof goes to the same sink
pub record IsSameRun {S : Type 0} (old new : Runner S) : Type 0 where
  pub formula : new.formula ≡ old.formula
  pub limits : new.limits ≡ old.limits
  pub kept : new.kept ≡ old.kept
  pub refusals : new.refusals ≡ old.refusals
  pub sizes : sizes new.terms.caches ≡ sizes old.terms.caches
  pub origin : new.terms.table.book.origin ≡ old.terms.table.book.origin

-- A call that gives a term of this function, by levels and by assignments, from these operands. Unless a write failed, the runner
-- goes on with all the terms that were out; the new one is behind them, with a unit of its own, and it is False exactly where
-- the empty clause was added. However the call ends, nodes stay, those that it made are of parts of the function, and the clauses
-- beside them are so many at most, or two for each pair of parts where the caches have room for all. At the limit of nodes some
-- part is the function of none.
pub record Gives {S : Type 0} (function : Levels → Bool) (holds : Assignment → Bool) (operands : List HeldTerm) (old new : Runner S)
    (result : Result Term TableError) : Type 0 where
  pub goes_on : UnlessTorn result (IsRunner new)
  pub term : IfOk result (λ term. IsTerm new.terms.table.graph new.terms.table.book.state.live holds term.held.node term.held.unit)
  pub listed : IfOk result (λ term. IsListed old.terms.out.items new.terms.out.items term.held)
  pub refused : UnlessTorn result (IsErr result → new.terms.out.items ≡ old.terms.out.items)
  pub refutes : IfOk result (λ term. term.held.node ≡ False → IsTrue new.refuted)
  pub unrefuted : UnlessTorn result (IfOk result (λ term. term.held.node ≢ False) → new.refuted ≡ old.refuted)
  pub same : IsSameRun old new
  pub left : new.terms.left ≡ old.terms.left
  pub leaves : Leaves old.terms.table new.terms.table (error_of result)
  pub nodes : KeepsNodes old.terms.table.graph new.terms.table.graph
  pub adds : AddsAtMost (most_additions (levels old.terms.table.graph) + 1) old.terms.table new.terms.table
  pub pairs : (width : ℕ) → HaveRoom old.terms.caches width → AreFew old.terms.table.graph operands width → HasAtMost function width
      → AddsAtMost (2 * (width * width) + 1) old.terms.table new.terms.table
  pub made : MakesOnly old.terms.table.graph new.terms.table.graph function
  pub lacks : result ≡ Err NodeLimit → LacksPart new.terms.table.graph function

-- this list without a term of it
pub record IsWithout (held : HeldTerm) (before after : List HeldTerm) : Type 0 where
  pub front : List HeldTerm
  pub behind : List HeldTerm
  pub was : before ≡ front ++ held ∷ behind
  pub is : after ≡ front ++ behind

-- A term was released: it is out no more, and its clause is retired, unless it is the first empty one. All else is as it was.
pub record Releases {S : Type 0} (held : HeldTerm) (old new : Runner S) : Type 0 where
  pub goes_on : IsRunner new
  pub out : ((held ≡ true_term) × (new.terms.out.items ≡ old.terms.out.items))
      ⊎ ((held.node ≢ True) × IsWithout held old.terms.out.items new.terms.out.items)
  pub table : new.terms.table ≡ record old.terms.table { retired = new.terms.table.retired }
  pub caches : new.terms.caches ≡ old.terms.caches
  pub formula : new.formula ≡ old.formula
  pub limits : new.limits ≡ old.limits
  pub left : new.terms.left ≡ old.terms.left
  pub refuted : new.refuted ≡ old.refuted
  pub kept : held.node ≢ False → new.kept ≡ old.kept
  pub refusals : new.refusals ≡ old.refusals
  pub origin : new.terms.table.book.origin ≡ old.terms.table.book.origin
  pub continues : Continues old.terms.table new.terms.table

-- the nodes of these terms
abbrev pub nodes_of : List HeldTerm → List Node
nodes_of terms = map (λ held. held.node) terms
