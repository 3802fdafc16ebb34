-- A clause is added, and its number put on the list.
use Rattle.std.proofs.Common.{◌∙◌, ◌++◌, ℕ, List, [], ◌∷◌, Err, refl, ap, subst}
use Rattle.cnf_base.specs.Cube.{forbidding}
use Rattle.node_table.specs.declared.error.TableError.TheVariants.{OutOfMemory}
use Rattle.node_table.specs.Diagram.{levels}
use Rattle.node_table.specs.HandedOn.{handed_on}
use Rattle.node_table.specs.Tied.{IsUpTo}
use Rattle.bdd_terms.proofs.Derived.{refused_before, refused_none, refused_one}
use Rattle.bdd_terms.proofs.Forbidding.{over_no_node, told_last}
use Rattle.bdd_terms.proofs.runner.Runner.keep.Goals as goal

pub returns-then-is_err : goal.returns-then-is_err
returns-then-is_err g c held cube is none =
    refused_before c.growth_law.ensures c.steps_law.ensures c.entry_law.ensures c.args.self.now c.requires.runner held cube
    (record c.args.self.now { refusals = c.reserve.new.self }) refl c.reserve.ensures.items (Err OutOfMemory) refl

pub justify-requires-clause-sound : goal.justify-requires-clause-sound
justify-requires-clause-sound g c = c.requires.runner.over.sound

pub justify-requires-clause-strict : goal.justify-requires-clause-strict
justify-requires-clause-strict g c = c.requires.strict

pub justify-requires-clause-over_nodes : goal.justify-requires-clause-over_nodes
justify-requires-clause-over_nodes g c = over_no_node c.args.self.now.terms.table.graph c.args.clause.now c.requires.variables

pub returns-in_err-id : goal.returns-in_err-id
returns-in_err-id g c held cube is none =
    let old = c.args.self.now in
    let came = c.in_err-id.field-0.0 in
    let own = c.in_err-id.ensures in
    refused_none c.growth_law.ensures c.steps_law.ensures c.entry_law.ensures old c.requires.runner came c.justify.new.self
    own.steps own.nodes (λ limit. own.no_node_limit (ap Err limit)) (λ limit. own.id_limit.0 (ap Err limit)) own.refused held cube
    (record old { terms = record old.terms { table = c.justify.new.self }; refusals = c.reserve.new.self }) refl
    c.reserve.ensures.items _ (handed_on _ came came c.from_residual.ensures.1 refl)

pub returns : goal.returns
returns g c held cube is none =
    let old = c.args.self.now in
    let own = c.in_ok-id.ensures in
    let clause = c.args.clause.now in
    refused_one c.growth_law.ensures c.steps_law.ensures c.entry_law.ensures old c.requires.runner c.in_ok-id.id clause
    c.justify.new.self own.steps (λ clean. (own.no_empty (c.requires.some clean)).no_empty)
    own.added own.own own.nodes own.retired held cube is
    (subst (IsUpTo (levels old.terms.table.graph)) is c.requires.variables) none
    (told_last old.terms.table.book c.justify.new.self.book clause (forbidding cube) c.args.hints.now is own.step)
    (record old { terms = record old.terms { table = c.justify.new.self }; refusals = c.push_reserved.new.self }) refl
    (c.push_reserved.ensures.items ∙ ap (λ (list : List ℕ). list ++ c.in_ok-id.id ∷ []) c.reserve.ensures.items) _
