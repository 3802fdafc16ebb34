-- A runner that was opened owns no clause.
use Rattle.std.proofs.Common.{◌≡◌, ℕ, ◌+◌, ◌++◌, ◌<◌, false, ℤ, List, [], length, Option, None, Some, refl, sym, ap, ◌∙◌, subst, arith}
use Rattle.std.proofs.Common.{true, map, Contains}
use Rattle.std.specs.Prelude.{IsTrue, slice_index_or}
use Rattle.cnf_base.specs.declared.step.Step.{Step}
use Rattle.cnf_base.specs.Truth.{AreClausesOf}
use Rattle.cnf_base.specs.Formula.{Formula}
use Rattle.lrat_rules.specs.State.{State, clause_at, start}
use Rattle.clause_ledger.specs.Book.{Book, after_steps}
use Rattle.node_table.specs.Table.{TableState, IsSound, opened}
use Rattle.node_table.specs.Progress.{AreStepsUpTo}
use Rattle.cnf_base.specs.Order.{IsOrder}
use Rattle.operations.specs.Entries.{Entry}
use Rattle.bdd_terms.specs.OverFormula.{IsOver}
use Rattle.std.specs.Option.{option_to_list}
use Rattle.lrat_rules.specs.Conservative.{are_conservative}
use Rattle.bdd_terms.specs.declared.held.HeldTerm.{HeldTerm}
use Rattle.bdd_terms.specs.declared.runner.Runner.{Runner}
use Rattle.bdd_terms.specs.Caches.{all_entries}
use Rattle.bdd_terms.specs.Units.{HasUnits}
use Rattle.bdd_terms.specs.Runner.{IsRunner, OwnsTerms, refusal_of}
use Rattle.bdd_terms.specs.Unused.{IsUnused}
use Rattle.bdd_terms.proofs.Giving.{units_none}

abbrev pub StartClauses : Type 0
StartClauses = (clauses : List (List ℤ)) (i : ℕ) → i < length clauses → clause_at (start clauses).live (i + 1)
    ≡ Some (slice_index_or clauses i [])

-- a table over the opened ledger is over the formula
pub over_at : {S : Type 0} → StartClauses → ((order : List ℕ) (clauses : List (List ℤ)) (book : Book S) (max_nodes : ℕ) → IsOrder order
    → AreClausesOf (length order) clauses → book.state ≡ start clauses → IsTrue book.in_step → IsSound (opened order book max_nodes))
    → (formula : Formula) (order : List ℕ) (book : Book S) (table : TableState S) (max_nodes : ℕ) → table ≡ opened order book max_nodes
    → book.state ≡ start formula.clauses → IsTrue book.in_step → IsOrder order → length order ≡ formula.vars
    → AreClausesOf formula.vars formula.clauses → IsOver formula table []
over_at {S} there opening formula order book table max_nodes is state in_step is_order vars literals =
    subst (λ (t : TableState S). IsOver formula t []) (sym is) (record {
      sound = opening order formula.clauses book max_nodes is_order
          (subst (λ (v : ℕ). AreClausesOf v formula.clauses) (sym vars) literals) state in_step;
      fits = record {
        each = λ entry has. absurd (omega (arith, has.1));
        own = λ id named. absurd (omega (arith, named.1.1));
        unretired = λ id named gone. omega (arith, named.1.1);
        apart = λ one other id has also names named. absurd (omega (arith, has.1));
      };
      inputs = λ i small. (λ k. clause_at (state k).live (i + 1)) ∙ there formula.clauses i small;
      counted = ap (λ (s : State). s.top) state;
      vars = vars;
    })

no_terms : (items : List HeldTerm) (kept : Option HeldTerm) → items ≡ [] → kept ≡ None → [] ≡ items ++ option_to_list kept
no_terms items kept empty none = sym (ap (λ (list : List HeldTerm). list ++ option_to_list kept) empty ∙ ap option_to_list none)

pub unused_runner : {S : Type 0} → StartClauses → ((clauses : List (List ℤ)) (id : ℕ) → length clauses < id → clause_at (start clauses).live id ≡ None)
    → ((order : List ℕ) (clauses : List (List ℤ)) (book : Book S) (max_nodes : ℕ) → IsOrder order
    → AreClausesOf (length order) clauses → book.state ≡ start clauses → IsTrue book.in_step → IsSound (opened order book max_nodes))
    → (runner : Runner S) → IsUnused runner → IsRunner runner
unused_runner there none_above opening runner unused =
    let formula = runner.formula.now in
    let table = runner.terms.table in
    let over : IsOver formula table (all_entries runner.terms.caches) =
    subst (λ (entries : List Entry). IsOver formula table entries) (sym unused.no_entries)
    (over_at there opening formula table.graph.order table.book table runner.limits.max_nodes unused.table unused.book.state
    unused.book.in_step unused.order unused.vars unused.book.literals) in
    let fresh : table.inputs ≡ table.book.state.top = ap (λ (t : TableState _). t.inputs) unused.table in
    subst (OwnsTerms runner) (no_terms runner.terms.out.items runner.kept unused.none_out unused.none_kept) (record {
      over = over;
      within = record {
        allowed = unused.limits;
        of_formula = unused.book.of_formula;
        max_ids = unused.book.limit;
        max_nodes = ap (λ (t : TableState _). t.max_nodes) unused.table;
        size = unused.size;
        numbers = omega (arith, ap (λ (s : State). s.top) unused.book.state);
        variables = subst (AreStepsUpTo (formula.vars + runner.limits.max_nodes)) (sym unused.book.steps) tt;
        leads = ap (after_steps (start formula.clauses)) unused.book.steps ∙ sym unused.book.state;
        conserves = subst (λ (steps : List Step). are_conservative formula.vars (start formula.clauses) steps ≡ true) (sym
            unused.book.steps)
            refl;
      };
      proved = λ held among. absurd (omega (arith, among.1));
      units = subst (λ (ids : List ℕ). HasUnits table (all_entries runner.terms.caches) (map refusal_of ids)) (sym unused.none_refused)
          (units_none table (all_entries runner.terms.caches) [] over.sound fresh refl);
      refusals = λ id there. absurd (omega (arith, (subst (λ (ids : List ℕ). Contains ids id) unused.none_refused there).1));
      kept = λ held is. absurd (let e : None ≡ Some held = sym unused.none_kept ∙ is in cc);
      refuted = λ is. absurd (let e : false ≡ true = sym unused.unrefuted ∙ is in cc);
      unrefuted = λ no id above empty. absurd (
          let gone : clause_at table.book.state.live id ≡ None =
          ap (λ (s : State). clause_at s.live id) unused.book.state ∙ none_above formula.clauses id (omega (arith, above, over.counted)) in
          let e : None ≡ Some [] = sym gone ∙ empty in cc);
    })
