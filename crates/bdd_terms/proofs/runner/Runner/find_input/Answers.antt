-- The term of a clause is found and put on the list.
use Rattle.std.proofs.Common.{Bool, List, [], refl, sym, subst}
use Rattle.cnf_base.specs.Truth.{Assignment}
use Rattle.node_table.specs.HandedOn.{handed_on}
use Rattle.node_table.specs.declared.error.TableError.TheVariants.{OutOfMemory}
use Rattle.schedule_plan.specs.Plan.{input as input_term, term_holds}
use Rattle.bdd_terms.specs.declared.held.HeldTerm.{HeldTerm}
use Rattle.bdd_terms.specs.Caches.{all_entries}
use Rattle.node_table.specs.Table.{AddsAtMost}
use Rattle.bdd_terms.specs.declared.runner.Runner.{Runner}
use Rattle.bdd_terms.specs.Runner.{IsListed}
use Rattle.bdd_terms.specs.Parts.{term_function}
use Rattle.bdd_terms.proofs.Given.{gives_none, gives_one, nothing_found, true_unit}
use Rattle.bdd_terms.proofs.runner.Runner.find_input.Goals as goal

pub input-requires-clause-over : goal.input-requires-clause-over
input-requires-clause-over g c = (all_entries c.args.self.now.terms.caches, c.requires.runner.over)

pub place-requires-clause-true_alone : goal.place-requires-clause-true_alone
place-requires-clause-true_alone g c is =
    let old = c.args.self.now in
    let found = c.in_ok-held.ensures.finds old.terms.caches c.requires.runner.over.fits in
    true_unit c.input.new.table c.in_ok-held.held.node c.in_ok-held.held.unit is found.term.proved

pub returns-then-is_err-clause-gives : goal.returns-then-is_err-clause-gives
returns-then-is_err-clause-gives g c =
    let old = c.args.self.now in
    let over = c.requires.runner.over in
    let function = term_function old.formula.now old.terms.table.graph.order (input_term c.args.number) in
    let holds : Assignment → Bool = λ a. term_holds old.formula.now a (input_term c.args.number) in
    gives_none c.growth_law.ensures c.steps_law.ensures function holds [] old c.requires.runner old.terms.table old.terms.caches OutOfMemory
    (nothing_found c.steps_law.ensures c.subfunction_law.ensures function holds [] old.terms.table old.terms.caches over.sound over.fits)
    (λ whole terms has. has) (record old { terms = record old.terms { out = c.reserve.new.self } }) refl c.reserve.ensures.items _ refl

pub returns-in_err-held-clause-gives : goal.returns-in_err-held-clause-gives
returns-in_err-held-clause-gives g c =
    let old = c.args.self.now in
    let came = c.in_err-held.field-0.0 in
    let mid = c.input.new.table in
    let function = term_function old.formula.now old.terms.table.graph.order (input_term c.args.number) in
    let holds : Assignment → Bool = λ a. term_holds old.formula.now a (input_term c.args.number) in
    gives_none c.growth_law.ensures c.steps_law.ensures function holds [] old c.requires.runner mid old.terms.caches came
    (c.in_err-held.ensures.finds old.terms.caches c.requires.runner.over.fits)
    (λ whole terms has. c.in_err-held.ensures.refused whole (all_entries old.terms.caches) terms has)
    (record old { terms = record old.terms { table = mid; out = c.reserve.new.self } }) refl c.reserve.ensures.items _
    (handed_on _ came came c.from_residual.ensures.1 refl)

pub returns-clause-gives : goal.returns-clause-gives
returns-clause-gives g c =
    let old = c.args.self.now in
    let found = c.in_ok-held.ensures.finds old.terms.caches c.requires.runner.over.fits in
    gives_one c.growth_law.ensures c.steps_law.ensures
    (term_function old.formula.now old.terms.table.graph.order (input_term c.args.number))
    (λ a. term_holds old.formula.now a (input_term c.args.number)) [] old c.requires.runner c.input.new.table old.terms.caches
    (record { held = c.in_ok-held.held }) found found.gives c.place.new.self c.place.ensures.same
    (subst (λ (items : List HeldTerm). IsListed items c.place.new.self.terms.out.items c.in_ok-held.held) c.reserve.ensures.items
    c.place.ensures.listed)
    c.place.ensures.refutes c.place.ensures.unrefuted

pub returns-clause-one : goal.returns-clause-one
returns-clause-one g c =
    subst (λ (r : Runner g.row.S.Denot). AddsAtMost 1 c.args.self.now.terms.table r.terms.table) (sym c.place.ensures.same)
    c.in_ok-held.ensures.one
