-- What is left to show of `push_clause`.
use Rattle.std.proofs.Common.{◌≡◌, ◌∙◌, ℕ, ℤ, true, false, Option, None, Some, Err, is_some, refl, ap, List, [], ◌∷◌, inl, inr, sym, subst}
use Rattle.std.proofs.Common.{arith}
use Rattle.std.proofs.lemmas.Bool.{cases_lt}
use Rattle.lrat_rules.specs.State.{clause_at}
use Rattle.hint_chain.specs.declared.unit.UnitPart.{UnitPart}
use Rattle.node_table.specs.declared.error.TableError.TheVariants.{NodeLimit, OutOfMemory}
use Rattle.node_table.specs.declared.node.Justification.TheVariants.{Trivial, Clause}
use Rattle.node_table.specs.Defined.{atom_of}
use Rattle.node_table.specs.Diagram.{Graph}
use Rattle.node_table.specs.Justification.{IsJustified}
use Rattle.node_table.specs.Made.{MakesOnly}
use Rattle.node_table.specs.Table.{IsAddedTo}
use Rattle.cnf_base.specs.Truth.{clause_holds}
use Rattle.clause_terms.specs.Placed.{placed_function, AreInOrder}
use Rattle.clause_terms.specs.Term.{clause_function, IsTerm, HasUnitPath}
use Rattle.clause_terms.proofs.Ordered.{no_tautology, same_function}
use Rattle.clause_terms.proofs.MadeNodes.{by_values}
use Rattle.clause_terms.proofs.ClauseTerm.{still_in_order, unit_path, clause_term, true_term}
use Rattle.node_table.specs.HandedOn.{no_error, came_from, if_handed, no_answer, same_error}
use Rattle.clause_terms.proofs.LackedPart.{lacked_by_values}
use Rattle.node_table.specs.Refused.{memory_not_nodes, steps_handed_on}
use Rattle.clause_terms.proofs.term.push_clause.Goals as goal

same_clause : (id other : ℕ) → Clause id ≡ Clause other → id ≡ other
same_clause id other is = cc

some_clause : (o : Option (List ℤ)) → is_some o ≡ true → (clause : List ℤ) × (o ≡ Some clause)
some_clause None is = absurd (let e : false ≡ true = is in cc)
some_clause (Some clause) is = (clause, refl)

no_clause : (id : ℕ) → Trivial ≡ Clause id → ⊥
no_clause id is = cc

pub returns-then-has_opposites-clause-term : goal.returns-then-has_opposites-clause-term
returns-then-has_opposites-clause-term g c =
    let placed = c.as_slice.result.now in
    let in_order : AreInOrder c.args.table.now.graph c.args.clause.now placed = subst (AreInOrder c.args.table.now.graph c.args.clause.now)
    (sym c.as_slice.ensures.value) c.in_ok-placed.ensures in
    true_term c.args.table.now.graph c.table_law.ensures.ordered c.args.table.now.book.state.live c.args.clause.now placed in_order
    (c.has_opposites.ensures.holds c.if-has_opposites.true)

pub returns-in_err-node-clause-tautology : goal.returns-in_err-node-clause-tautology
returns-in_err-node-clause-tautology g c tautology =
    let placed = c.as_slice.result.now in
    let in_order : AreInOrder c.args.table.now.graph c.args.clause.now placed = subst (AreInOrder c.args.table.now.graph c.args.clause.now)
    (sym c.as_slice.ensures.value) c.in_ok-placed.ensures in
    absurd (no_tautology c.args.table.now.graph c.table_law.ensures.ordered c.args.clause.now placed in_order
    (c.has_opposites.ensures.none c.if-has_opposites.false) tautology)

pub add_unit-requires-clause-path : goal.add_unit-requires-clause-path
add_unit-requires-clause-path g c =
    let old = c.args.table.now in
    let mid = c.build.new.table in
    let placed = c.as_slice-2.result.now in
    let clause = c.args.clause.now in
    let in_order : AreInOrder old.graph clause placed = subst (AreInOrder old.graph clause)
    (sym c.as_slice-2.ensures.value) c.in_ok-placed.ensures in
    let steps = c.in_ok-node.ensures.steps in
    subst (λ (path : List UnitPart). HasUnitPath mid.graph mid.book.state.live c.in_ok-node.node path c.args.input)
    (sym c.as_slice-3.ensures.value)
    (unit_path c.unit_path_law.ensures.same_set mid.graph mid.book.state.live clause placed c.in_ok-node.node c.in_ok-node.path.items
    c.args.input
    (still_in_order old.graph mid.graph steps.extends.nodes.order clause placed in_order) c.requires.some c.in_ok-node.ensures.diagram
    (steps.extends.clauses c.args.input clause c.requires.live))

pub returns-in_err-node-clause-made : goal.returns-in_err-node-clause-made
returns-in_err-node-clause-made g c =
    let clause = c.args.clause.now in
    let placed = c.as_slice-2.result.now in
    let in_order : AreInOrder c.args.table.now.graph clause placed = subst (AreInOrder c.args.table.now.graph clause)
    (sym c.as_slice-2.ensures.value) c.in_ok-placed.ensures in
    by_values c.args.table.now.graph c.build.new.table.graph (placed_function placed) (clause_function c.args.table.now.graph.order clause)
    (λ a. sym (same_function c.args.table.now.graph c.table_law.ensures.ordered clause placed in_order a))
    c.in_err-node.ensures.made

pub returns-in_err-id-clause-made : goal.returns-in_err-id-clause-made
returns-in_err-id-clause-made g c =
    let old = c.args.table.now.graph in
    let clause = c.args.clause.now in
    let placed = c.as_slice-2.result.now in
    let in_order : AreInOrder old clause placed = subst (AreInOrder old clause) (sym c.as_slice-2.ensures.value) c.in_ok-placed.ensures in
    subst (λ (new : Graph). MakesOnly old new (clause_function old.order clause)) (sym c.in_err-id.ensures.nodes)
    (by_values old c.build.new.table.graph (placed_function placed) (clause_function old.order clause)
    (λ a. sym (same_function old c.table_law.ensures.ordered clause placed in_order a))
    c.in_ok-node.ensures.made)

pub returns-clause-made : goal.returns-clause-made
returns-clause-made g c =
    let old = c.args.table.now.graph in
    let clause = c.args.clause.now in
    let placed = c.as_slice-2.result.now in
    let in_order : AreInOrder old clause placed = subst (AreInOrder old clause) (sym c.as_slice-2.ensures.value) c.in_ok-placed.ensures in
    subst (λ (new : Graph). MakesOnly old new (clause_function old.order clause)) (sym c.in_ok-id.ensures.nodes)
    (by_values old c.build.new.table.graph (placed_function placed) (clause_function old.order clause)
    (λ a. sym (same_function old c.table_law.ensures.ordered clause placed in_order a))
    c.in_ok-node.ensures.made)

pub returns-in_err-id-clause-tautology : goal.returns-in_err-id-clause-tautology
returns-in_err-id-clause-tautology g c tautology =
    let placed = c.as_slice.result.now in
    let in_order : AreInOrder c.args.table.now.graph c.args.clause.now placed = subst (AreInOrder c.args.table.now.graph c.args.clause.now)
    (sym c.as_slice.ensures.value) c.in_ok-placed.ensures in
    absurd (no_tautology c.args.table.now.graph c.table_law.ensures.ordered c.args.clause.now placed in_order
    (c.has_opposites.ensures.none c.if-has_opposites.false) tautology)

pub returns-clause-term : goal.returns-clause-term
returns-clause-term g c =
    let old = c.args.table.now in
    let mid = c.build.new.table in
    let new = c.add_unit.new.table in
    let placed = c.as_slice-2.result.now in
    let clause = c.args.clause.now in
    let node = c.in_ok-node.node in
    let id = c.in_ok-id.id in
    let in_order : AreInOrder old.graph clause placed = subst (AreInOrder old.graph clause)
    (sym c.as_slice-2.ensures.value) c.in_ok-placed.ensures in
    let steps = c.in_ok-node.ensures.steps in
    let there = still_in_order old.graph mid.graph steps.extends.nodes.order clause placed in_order in
    let path : HasUnitPath mid.graph mid.book.state.live node c.in_ok-node.path.items c.args.input =
    unit_path c.unit_path_law.ensures.same_set mid.graph mid.book.state.live clause placed node c.in_ok-node.path.items c.args.input
    there c.requires.some c.in_ok-node.ensures.diagram (steps.extends.clauses c.args.input clause c.requires.live) in
    subst (λ (graph : Graph). IsTerm graph new.book.state.live (λ a. clause_holds a clause) node (Clause id)) (sym c.in_ok-id.ensures.nodes)
    (clause_term mid.graph steps.leaves.sound.tied.ordered mid.book.state.live new.book.state.live clause placed node
    c.in_ok-node.path.items there c.in_ok-node.ensures.diagram path.branch path.stands id
    (subst (λ (graph : Graph). IsJustified new.book.state.live (atom_of graph node
    ∷ []) (Clause id)) c.in_ok-id.ensures.nodes c.in_ok-id.ensures.proved))

pub returns-clause-tautology : goal.returns-clause-tautology
returns-clause-tautology g c tautology =
    let placed = c.as_slice.result.now in
    let in_order : AreInOrder c.args.table.now.graph c.args.clause.now placed = subst (AreInOrder c.args.table.now.graph c.args.clause.now)
    (sym c.as_slice.ensures.value) c.in_ok-placed.ensures in
    absurd (no_tautology c.args.table.now.graph c.table_law.ensures.ordered c.args.clause.now placed in_order
    (c.has_opposites.ensures.none c.if-has_opposites.false) tautology)

pub returns-in_err-node-clause-lacks : goal.returns-in_err-node-clause-lacks
returns-in_err-node-clause-lacks g c full =
    let old = c.args.table.now.graph in
    let clause = c.args.clause.now in
    let placed = c.as_slice-2.result.now in
    let in_order : AreInOrder old clause placed = subst (AreInOrder old clause) (sym c.as_slice-2.ensures.value) c.in_ok-placed.ensures in
    lacked_by_values c.build.new.table.graph (placed_function placed) (clause_function old.order clause)
    (λ a. sym (same_function old c.table_law.ensures.ordered clause placed in_order a))
    (c.in_err-node.ensures.lacks (ap Err (came_from _ c.in_err-node.field-0.0 NodeLimit c.from_residual-in_err-node.ensures.1 full)))

pub returns-clause-last : goal.returns-clause-last
returns-clause-last g c id is =
    let same = same_clause c.in_ok-id.id id is in
    (sym same ∙ c.in_ok-id.ensures.one.1, omega (arith, same, c.in_ok-id.ensures.one.0, c.in_ok-node.ensures.steps.leaves.no_less))

pub returns-in_err-node-clause-term : goal.returns-in_err-node-clause-term
returns-in_err-node-clause-term g c = no_answer _ c.in_err-node.field-0.0 _ c.from_residual-in_err-node.ensures.1

pub returns-in_err-node-clause-last : goal.returns-in_err-node-clause-last
returns-in_err-node-clause-last g c = no_answer _ c.in_err-node.field-0.0 _ c.from_residual-in_err-node.ensures.1

pub returns-in_err-id-clause-term : goal.returns-in_err-id-clause-term
returns-in_err-id-clause-term g c = no_answer _ c.in_err-id.field-0.0 _ c.from_residual-in_err-id.ensures.1

pub returns-in_err-id-clause-last : goal.returns-in_err-id-clause-last
returns-in_err-id-clause-last g c = no_answer _ c.in_err-id.field-0.0 _ c.from_residual-in_err-id.ensures.1

pub returns-in_err-id-clause-lacks : goal.returns-in_err-id-clause-lacks
returns-in_err-id-clause-lacks g c is = absurd (c.in_err-id.ensures.no_node_limit
    (ap Err (came_from _ c.in_err-id.field-0.0 NodeLimit c.from_residual-in_err-id.ensures.1 is)))

pub returns-then-has_opposites-clause-made : goal.returns-then-has_opposites-clause-made
returns-then-has_opposites-clause-made g c = c.subfunction_law.ensures.none_made c.args.table.now.graph
    (clause_function c.args.table.now.graph.order c.args.clause.now)

pub returns-then-has_opposites-clause-lacks : goal.returns-then-has_opposites-clause-lacks
returns-then-has_opposites-clause-lacks g c is = absurd (no_error is)

pub returns-clause-lacks : goal.returns-clause-lacks
returns-clause-lacks g c is = absurd (no_error is)

pub returns-in_err-placed-clause-term : goal.returns-in_err-placed-clause-term
returns-in_err-placed-clause-term g c = no_answer _ OutOfMemory _ c.from_residual.ensures.1

pub returns-in_err-placed-clause-last : goal.returns-in_err-placed-clause-last
returns-in_err-placed-clause-last g c = no_answer _ OutOfMemory _ c.from_residual.ensures.1

pub returns-in_err-placed-clause-made : goal.returns-in_err-placed-clause-made
returns-in_err-placed-clause-made g c = c.subfunction_law.ensures.none_made c.args.table.now.graph
    (clause_function c.args.table.now.graph.order c.args.clause.now)

pub returns-in_err-placed-clause-lacks : goal.returns-in_err-placed-clause-lacks
returns-in_err-placed-clause-lacks g c is = absurd (memory_not_nodes _ c.from_residual.ensures.1 is)

pub add_unit-requires-clause-sound : goal.add_unit-requires-clause-sound
add_unit-requires-clause-sound g c = c.in_ok-node.ensures.steps.leaves.sound

pub returns-in_err-placed-clause-steps : goal.returns-in_err-placed-clause-steps
returns-in_err-placed-clause-steps g c =
    let table = c.args.table.now in
    steps_handed_on _ OutOfMemory c.from_residual.ensures.1
    (c.steps_law.ensures.at_most table table 0 1 _ (omega arith) (c.steps_law.ensures.no_memory table c.requires.sound))

pub returns-then-has_opposites-clause-steps : goal.returns-then-has_opposites-clause-steps
returns-then-has_opposites-clause-steps g c =
    let table = c.args.table.now in
    c.steps_law.ensures.at_most table table 0 1 _ (omega arith) (c.steps_law.ensures.none table c.requires.sound)

pub returns-in_err-node-clause-steps : goal.returns-in_err-node-clause-steps
returns-in_err-node-clause-steps g c =
    steps_handed_on _ c.in_err-node.field-0.0 c.from_residual-in_err-node.ensures.1
    (c.steps_law.ensures.at_most _ _ 0 1 _ (omega arith) c.in_err-node.ensures.steps)

pub returns-in_err-id-clause-steps : goal.returns-in_err-id-clause-steps
returns-in_err-id-clause-steps g c =
    steps_handed_on _ c.in_err-id.field-0.0 c.from_residual-in_err-id.ensures.1
    (c.steps_law.ensures.further _ _ _ 0 1 _ c.in_ok-node.ensures.steps c.in_err-id.ensures.steps)

pub returns-clause-steps : goal.returns-clause-steps
returns-clause-steps g c = c.steps_law.ensures.further _ _ _ 0 1 _ c.in_ok-node.ensures.steps c.in_ok-id.ensures.steps

pub returns-in_err-id-clause-retired : goal.returns-in_err-id-clause-retired
returns-in_err-id-clause-retired g c = c.in_err-id.ensures.retired ∙ c.in_ok-node.ensures.retired

pub returns-clause-retired : goal.returns-clause-retired
returns-clause-retired g c = c.in_ok-id.ensures.retired ∙ c.in_ok-node.ensures.retired

pub returns-clause-own : goal.returns-clause-own
returns-clause-own g c id is = subst (IsAddedTo c.add_unit.new.table) (same_clause c.in_ok-id.id id is) c.in_ok-id.ensures.own

pub returns-clause-alone : goal.returns-clause-alone
returns-clause-alone g c id added =
    let mid = c.build.new.table in
    let new = c.add_unit.new.table in
    let one = c.in_ok-id.ensures.one in
    elim (cases_lt mid.book.state.top id) [
      | inl above ↦
          let clause = some_clause (clause_at new.book.state.live id) added.stands in
          let within = (c.in_ok-id.ensures.steps.leaves.sound.tied.numbers id clause.0 clause.1).1 in
          let is : c.in_ok-id.id ≡ id = omega (arith, above, within, one.0, one.1) in
          inr (ap Clause is)
      | inr within ↦ inl (c.in_ok-node.ensures.none_added no_error id
          (c.steps_law.ensures.was_added mid new c.in_ok-id.ensures.steps.extends id within added))
    ]

pub returns-then-has_opposites-clause-own : goal.returns-then-has_opposites-clause-own
returns-then-has_opposites-clause-own g c id is = absurd (no_clause id is)

pub returns-then-has_opposites-clause-alone : goal.returns-then-has_opposites-clause-alone
returns-then-has_opposites-clause-alone g c id added = inl added

pub returns-in_err-placed-clause-own : goal.returns-in_err-placed-clause-own
returns-in_err-placed-clause-own g c = no_answer _ OutOfMemory _ c.from_residual.ensures.1

pub returns-in_err-placed-clause-alone : goal.returns-in_err-placed-clause-alone
returns-in_err-placed-clause-alone g c = no_answer _ OutOfMemory _ c.from_residual.ensures.1

pub returns-in_err-placed-clause-none_added : goal.returns-in_err-placed-clause-none_added
returns-in_err-placed-clause-none_added g c = if_handed _ OutOfMemory _ c.from_residual.ensures.1 (λ whole id own. own)

pub returns-in_err-node-clause-own : goal.returns-in_err-node-clause-own
returns-in_err-node-clause-own g c = no_answer _ c.in_err-node.field-0.0 _ c.from_residual-in_err-node.ensures.1

pub returns-in_err-node-clause-alone : goal.returns-in_err-node-clause-alone
returns-in_err-node-clause-alone g c = no_answer _ c.in_err-node.field-0.0 _ c.from_residual-in_err-node.ensures.1

pub returns-in_err-node-clause-none_added : goal.returns-in_err-node-clause-none_added
returns-in_err-node-clause-none_added g c = if_handed _ c.in_err-node.field-0.0 _ c.from_residual-in_err-node.ensures.1
    (λ whole. c.in_err-node.ensures.none_added (λ torn. whole (same_error torn)))

pub returns-in_err-id-clause-own : goal.returns-in_err-id-clause-own
returns-in_err-id-clause-own g c = no_answer _ c.in_err-id.field-0.0 _ c.from_residual-in_err-id.ensures.1

pub returns-in_err-id-clause-alone : goal.returns-in_err-id-clause-alone
returns-in_err-id-clause-alone g c = no_answer _ c.in_err-id.field-0.0 _ c.from_residual-in_err-id.ensures.1

pub returns-in_err-id-clause-none_added : goal.returns-in_err-id-clause-none_added
returns-in_err-id-clause-none_added g c = if_handed _ c.in_err-id.field-0.0 _ c.from_residual-in_err-id.ensures.1
    (λ whole id own. c.in_ok-node.ensures.none_added no_error id (c.in_err-id.ensures.none_added whole id own))
