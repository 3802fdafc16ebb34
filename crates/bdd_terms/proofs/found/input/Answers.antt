-- The term of a clause: that of an empty one is False.
use Rattle.std.proofs.Common.{◌≡◌, ◌∙◌, ◌+◌, ◌-◌, ℕ, suc, ℤ, List, [], ◌∷◌, Contains, length, None, Some, Err, refl, ap, inl, sym}
use Rattle.std.proofs.Common.{subst, arith, eqb-true}
use Rattle.std.specs.Prelude.{◌==◌, slice_index_or}
use Rattle.cnf_base.specs.Truth.{clause_holds}
use Rattle.node_table.specs.declared.error.TableError.TheVariants.{NodeLimit, WriteFault}
use Rattle.node_table.specs.declared.node.Node.TheVariants.{False}
use Rattle.node_table.specs.declared.node.Justification.{Justification}
use Rattle.node_table.specs.Defined.{atom_of}
use Rattle.node_table.specs.Diagram.{Graph, levels}
use Rattle.node_table.specs.HandedOn.{came_from, handed_on, if_handed, no_answer, no_error, same_error}
use Rattle.node_table.specs.Made.{MakesOnly, LacksPart}
use Rattle.operations.specs.Budget.{most_additions}
use Rattle.schedule_plan.specs.Plan.{input as input_term}
use Rattle.bdd_terms.specs.Caches.{all_entries}
use Rattle.bdd_terms.specs.Parts.{term_function}
use Rattle.bdd_terms.proofs.MadeParts.{only_of, lacks_one}
use Rattle.bdd_terms.proofs.Giving.{new_gives, none_added, units_behind}
use Rattle.bdd_terms.proofs.Inputs.{input_live, input_literals}
use Rattle.bdd_terms.proofs.Leaving.{refutes_handed, went_on, limit_left}
use Rattle.bdd_terms.proofs.Repeated.{follows_itself}
use Rattle.node_table.specs.declared.node.Node.{Node}
use Rattle.node_table.specs.Refused.{no_nodes_left}
use Rattle.clause_terms.specs.Term.{IsTerm, clause_function}
use Rattle.bdd_terms.proofs.Units.{not_both}
use Rattle.bdd_terms.proofs.found.input.Goals as goal

-- the clause is empty
nil : (clause other : List ℤ) → length clause ≡ 0 → clause ≡ other → other ≡ []
nil [] other none same = sym same
nil (x ∷ clause) other none same = absurd (let e : suc (length clause) ≡ 0 = none in cc)

pub add_unit-requires-clause-strict : goal.add_unit-requires-clause-strict
add_unit-requires-clause-strict g c clause is =
    let table = c.args.table.now in
    let formula = c.args.formula.now in
    let none = nil c.clause-clause.result.now _ (eqb-true _ _ (sym c.is_empty.ensures ∙ c.if-is_empty.true)) c.clause-clause.ensures in
    follows_itself table.book.state.live (atom_of table.graph False) c.args.number clause
    (input_live formula table c.requires.over.0 c.requires.over.1 c.args.number c.requires.from_one c.requires.to_len [] (sym none)) is

pub returns-then-is_empty-clause-finds : goal.returns-then-is_empty-clause-finds
returns-then-is_empty-clause-finds g c caches fits =
    let old = c.args.table.now in
    let new = c.add_unit.new.table in
    let formula = c.args.formula.now in
    let kept = all_entries caches in
    let unit = c.in_ok-unit.ensures.anew.proves in
    let sound = c.requires.over.1.sound in
    let most = most_additions (levels old.graph) in
    let function = term_function formula old.graph.order (input_term c.args.number) in
    let none : slice_index_or formula.clauses (c.args.number - 1) [] ≡ [] =
    nil c.clause-clause.result.now _ (eqb-true _ _ (sym c.is_empty.ensures ∙ c.if-is_empty.true)) c.clause-clause.ensures in
    record {
      term = record { stands = refl; value = λ a. sym (ap (clause_holds a) none); proved = unit.unit };
      gives = new_gives old new kept c.in_ok-unit.unit sound fits unit.steps.leaves.no_less unit.retired unit.alone
          c.in_ok-unit.ensures.anew.last c.in_ok-unit.ensures.anew.added;
      steps = c.steps_law.ensures.refute old old new most 1 None
          (c.steps_law.ensures.at_most old old 0 most None (omega arith) (c.steps_law.ensures.none old sound)) unit.steps;
      no_empty = λ whole some. absurd (some refl);
      fits = λ whole. c.entry_law.ensures.kept old new kept sound unit.steps.leaves.sound unit.steps.extends fits
          (λ id named gone. fits.unretired id named (subst (λ (list : List ℕ). Contains list id) unit.retired gone));
      again = λ limit. absurd (no_error limit);
      made = only_of _ _ _ (subst (λ (graph : Graph). MakesOnly old.graph graph function) (sym unit.nodes)
          (c.subfunction_law.ensures.none_made old.graph function));
      lacks = λ limit. absurd (no_error limit);
      pairs = λ width room few all. let one = unit.steps.adds in omega (arith, one);
      sizes = refl;
    }

pub returns-in_err-unit-clause-finds : goal.returns-in_err-unit-clause-finds
returns-in_err-unit-clause-finds g c caches fits =
    let old = c.args.table.now in
    let new = c.add_unit.new.table in
    let formula = c.args.formula.now in
    let kept = all_entries caches in
    let came = c.in_err-unit.field-0.0 in
    let given = c.from_residual.ensures.1 in
    let unit = c.in_err-unit.ensures.anew.proves in
    let sound = c.requires.over.1.sound in
    let most = most_additions (levels old.graph) in
    let function = term_function formula old.graph.order (input_term c.args.number) in
    record {
      term = no_answer _ came _ given;
      gives = no_answer _ came _ given;
      steps = refutes_handed old new (most + 1) _ came given (c.steps_law.ensures.refute old old new most 1 (Some came)
          (c.steps_law.ensures.at_most old old 0 most None (omega arith) (c.steps_law.ensures.none old sound)) unit.steps);
      no_empty = λ whole some. unit.refused (λ torn. whole (handed_on _ came WriteFault given torn));
      fits = λ whole.
          let more = (went_on {T = Justification} old new (Err came) unit.steps.leaves
          (λ torn. whole (handed_on _ came WriteFault given (same_error torn)))).sound in
          c.entry_law.ensures.kept old new kept sound more unit.steps.extends fits
          (λ id named gone. fits.unretired id named (subst (λ (list : List ℕ). Contains list id) unit.retired gone));
      again = λ limit. absurd (unit.no_node_limit (ap Err (came_from _ came NodeLimit given limit)));
      made = only_of _ _ _ (subst (λ (graph : Graph). MakesOnly old.graph graph function) (sym unit.nodes)
          (c.subfunction_law.ensures.none_made old.graph function));
      lacks = λ limit. absurd (unit.no_node_limit (ap Err (came_from _ came NodeLimit given limit)));
      pairs = λ width room few all. let one = unit.steps.adds in omega (arith, one);
      sizes = refl;
    }

pub returns-in_err-unit-clause-refused : goal.returns-in_err-unit-clause-refused
returns-in_err-unit-clause-refused g c =
    let old = c.args.table.now in
    let new = c.add_unit.new.table in
    let came = c.in_err-unit.field-0.0 in
    let unit = c.in_err-unit.ensures.anew.proves in
    let sound = c.requires.over.1.sound in
    if_handed _ came _ c.from_residual.ensures.1 (λ whole kept terms has.
    units_behind c.steps_law.ensures old new kept kept terms sound
    (went_on {T = Justification} old new (Err came) unit.steps.leaves (λ torn. whole (same_error torn))).sound
    unit.steps.extends has (record { each = λ id gone. inl (subst (λ (ids : List ℕ). Contains ids id) unit.retired gone) })
    (record { each = λ entry there. inl there }) (none_added old new kept sound unit.retired (unit.none_added whole)))

-- another one's
pub push_clause-requires-clause-sound : goal.push_clause-requires-clause-sound
push_clause-requires-clause-sound g c = c.requires.over.1.sound

pub push_clause-requires-clause-live : goal.push_clause-requires-clause-live
push_clause-requires-clause-live g c =
    input_live c.args.formula.now c.args.table.now c.requires.over.0 c.requires.over.1 c.args.number c.requires.from_one c.requires.to_len
    c.clause-clause.result.now c.clause-clause.ensures

pub push_clause-requires-clause-variables : goal.push_clause-requires-clause-variables
push_clause-requires-clause-variables g c =
    input_literals c.args.formula.now c.args.table.now c.requires.over.0 c.requires.over.1 c.args.number c.requires.from_one
    c.requires.to_len c.clause-clause.result.now c.clause-clause.ensures c.formula_law.ensures.literals

pub push_clause-requires-clause-some : goal.push_clause-requires-clause-some
push_clause-requires-clause-some g c empty =
    not_both c.is_empty.result (c.is_empty.ensures ∙ ap (λ (list : List ℤ). length list == 0) empty) c.if-is_empty.false

pub returns-clause-finds : goal.returns-clause-finds
returns-clause-finds g c caches fits =
    let old = c.args.table.now in
    let new = c.push_clause.new.table in
    let kept = all_entries caches in
    let found = c.in_ok-node.ensures in
    let steps = found.steps in
    let sound = c.requires.over.1.sound in
    record {
      term = subst (λ (clause : List ℤ). IsTerm new.graph new.book.state.live (λ a. clause_holds a clause) c.in_ok-node.node
          c.in_ok-node.unit)
          c.clause-clause.ensures found.term;
      gives = new_gives old new kept c.in_ok-node.unit sound fits steps.leaves.no_less found.retired found.alone found.last found.own;
      steps = c.steps_law.ensures.anyhow old new (most_additions (levels old.graph) + 1) _
          (c.steps_law.ensures.at_most old new 1 (most_additions (levels old.graph) + 1) _ (omega arith) steps);
      no_empty = λ whole some. steps.no_empty;
      fits = λ whole. c.entry_law.ensures.kept old new kept sound steps.leaves.sound steps.extends fits
          (λ id named gone. fits.unretired id named (subst (λ (list : List ℕ). Contains list id) found.retired gone));
      again = λ limit. absurd (no_error limit);
      made = only_of _ _ _ (subst (λ (clause : List ℤ). MakesOnly old.graph new.graph (clause_function old.graph.order clause))
          c.clause-clause.ensures
          found.made);
      lacks = λ limit. absurd (no_error limit);
      pairs = λ width room few all. let one = steps.adds in omega (arith, one);
      sizes = refl;
    }

pub returns-in_err-node-clause-finds : goal.returns-in_err-node-clause-finds
returns-in_err-node-clause-finds g c caches fits =
    let old = c.args.table.now in
    let new = c.push_clause.new.table in
    let kept = all_entries caches in
    let came = c.in_err-node.field-0.0 in
    let given = c.from_residual-in_err-node.ensures.1 in
    let found = c.in_err-node.ensures in
    let steps = found.steps in
    let sound = c.requires.over.1.sound in
    record {
      term = no_answer _ came _ given;
      gives = no_answer _ came _ given;
      steps = refutes_handed old new (most_additions (levels old.graph) + 1) _ came given
          (c.steps_law.ensures.anyhow old new (most_additions (levels old.graph) + 1) _
          (c.steps_law.ensures.at_most old new 1 (most_additions (levels old.graph) + 1) _ (omega arith) steps));
      no_empty = λ whole some. steps.no_empty;
      fits = λ whole.
          let more = (went_on {T = Node × Justification} old new (Err came) steps.leaves
          (λ torn. whole (handed_on _ came WriteFault given (same_error torn)))).sound in
          c.entry_law.ensures.kept old new kept sound more steps.extends fits
          (λ id named gone. fits.unretired id named (subst (λ (list : List ℕ). Contains list id) found.retired gone));
      again = λ limit stack has.
          let is = came_from _ came NodeLimit given limit in
          units_behind c.steps_law.ensures old new kept kept stack sound (limit_left old new came is steps.leaves).0.sound steps.extends has
          (record { each = λ id gone. inl (subst (λ (ids : List ℕ). Contains ids id) found.retired gone) })
          (record { each = λ entry there. inl there })
          (none_added old new kept sound found.retired (found.none_added (λ torn. no_nodes_left (sym is ∙ torn))));
      made = only_of _ _ _ (subst (λ (clause : List ℤ). MakesOnly old.graph new.graph (clause_function old.graph.order clause))
          c.clause-clause.ensures
          found.made);
      lacks = λ limit. lacks_one _ _ (subst (λ (clause : List ℤ). LacksPart new.graph (clause_function old.graph.order clause))
          c.clause-clause.ensures
          (found.lacks (ap Err (came_from _ came NodeLimit given limit))));
      pairs = λ width room few all. let one = steps.adds in omega (arith, one);
      sizes = refl;
    }

pub returns-clause-one : goal.returns-clause-one
returns-clause-one g c = c.in_ok-node.ensures.steps.adds

pub returns-in_err-node-clause-one : goal.returns-in_err-node-clause-one
returns-in_err-node-clause-one g c = c.in_err-node.ensures.steps.adds

pub returns-in_err-node-clause-refused : goal.returns-in_err-node-clause-refused
returns-in_err-node-clause-refused g c =
    let old = c.args.table.now in
    let new = c.push_clause.new.table in
    let came = c.in_err-node.field-0.0 in
    let found = c.in_err-node.ensures in
    let sound = c.requires.over.1.sound in
    if_handed _ came _ c.from_residual-in_err-node.ensures.1 (λ whole kept terms has.
    units_behind c.steps_law.ensures old new kept kept terms sound
    (went_on {T = Node × Justification} old new (Err came) found.steps.leaves (λ torn. whole (same_error torn))).sound
    found.steps.extends has (record { each = λ id gone. inl (subst (λ (ids : List ℕ). Contains ids id) found.retired gone) })
    (record { each = λ entry there. inl there }) (none_added old new kept sound found.retired (found.none_added whole)))
