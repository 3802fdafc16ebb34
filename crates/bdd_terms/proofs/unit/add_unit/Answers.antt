-- The clause of a node alone is empty where the node is False, and not else.
use Rattle.std.proofs.Common.{◌≡◌, ◌≢◌, ◌∙◌, ℤ, List, [], ◌∷◌, Some, Err, Result, Ok, ap, refl, sym, subst}
use Rattle.std.specs.Prelude.{IsErrAnd, OnOk}
use Rattle.hint_chain.specs.Atoms.{clause_from_atoms}
use Rattle.node_table.specs.declared.node.Node.TheVariants.{False}
use Rattle.node_table.specs.Defined.{atom_of}
use Rattle.node_table.specs.HandedOn.{handed_on}
use Rattle.node_table.specs.Tied.{IsOverNodes}
use Rattle.bdd_terms.proofs.Proved.{anew_added, anew_refused, clause_is, has_one, over_its_node}
use Rattle.bdd_terms.proofs.unit.add_unit.Given.{Over}
use Rattle.bdd_terms.proofs.unit.add_unit.Goals as goal
use Rattle.bdd_terms.proofs.unit.add_unit.Goals.{After-as_clause}

module _ (g : Over) (c : After-as_clause g) where
  abbrev clause : List ℤ
  clause = c.as_clause.result.now

  is : clause_from_atoms (atom_of c.args.table.now.graph c.args.w ∷ []) ≡ Some clause
  is = clause_is c.args.table.now.graph c.args.w c.requires.stands c.requires.not_true c.literal-own.result (sym c.literal-own.ensures)
      ∙ ap Some (sym c.as_clause.ensures)

  opened : c.args.w ≢ False → clause ≢ []
  opened open_w empty = has_one c.args.table.now.graph c.args.w c.requires.stands c.requires.not_true c.literal-own.result
      (sym c.literal-own.ensures) open_w (sym c.as_clause.ensures ∙ empty)

pub justify-requires-clause-sound : goal.justify-requires-clause-sound
justify-requires-clause-sound g c = c.requires.sound

pub justify-requires-clause-strict : goal.justify-requires-clause-strict
justify-requires-clause-strict g c =
    let inside = (goal.at.justify-requires-clause-strict g c).After-as_clause in
    c.requires.strict c.as_clause.result.now (is g inside)

pub justify-requires-clause-over_nodes : goal.justify-requires-clause-over_nodes
justify-requires-clause-over_nodes g c =
    let graph = c.args.table.now.graph in
    subst (IsOverNodes graph) (sym c.as_clause.ensures)
    (over_its_node graph c.args.w c.literal-own.result (sym c.literal-own.ensures))

pub returns-in_err-id-clause-anew : goal.returns-in_err-id-clause-anew
returns-in_err-id-clause-anew g c =
    let inside = (goal.at.returns-in_err-id-clause-anew g c).After-as_clause in
    let came = c.in_err-id.field-0.0 in
    let own = c.in_err-id.ensures in
    anew_refused c.args.table.now c.justify.new.self c.args.w c.as_clause.result.now (is g inside) (opened g inside) own.nodes own.retired
    came own.steps own.no_empty own.refused (λ limit. own.no_node_limit (ap Err limit)) _
    (handed_on _ came came c.from_residual.ensures.1 refl)

pub returns-clause-anew : goal.returns-clause-anew
returns-clause-anew g c =
    let inside = (goal.at.returns-clause-anew g c).After-as_clause in
    let own = c.in_ok-id.ensures in
    anew_added c.args.table.now c.justify.new.self c.args.w c.as_clause.result.now (is g inside) (opened g inside) own.nodes own.retired
    c.requires.not_true c.in_ok-id.id own.steps own.no_empty own.added own.own

-- a refusal tells nothing
refused : {T E : Type 0} (r : Result T E) (came : E) (P : Type 0) → IsErrAnd r (λ e. e ≡ came) → OnOk r P
refused (Ok x) came P none = absurd none
refused (Err e) came P none = tt

pub returns-in_err-id-clause-told : goal.returns-in_err-id-clause-told
returns-in_err-id-clause-told g c = refused _ c.in_err-id.field-0.0 _ c.from_residual.ensures.1

pub returns-clause-told : goal.returns-clause-told
returns-clause-told g c = record {
  clause = c.as_clause.result.now;
  is = is g (goal.at.returns-clause-told g c).After-as_clause;
  told = c.in_ok-id.ensures.step;
}
