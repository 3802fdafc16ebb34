-- What is left to show of `refuse`.
use Rattle.std.proofs.Common.{◌≡◌, ◌∙◌, ◌+◌, ◌∷◌, [], ℕ, List, Ok, Err, true, length, ap, sym, subst, arith}
use Rattle.std.specs.List.{list_all}
use Rattle.cnf_base.specs.Cube.{cube_holds, forbidding}
use Rattle.cnf_base.specs.Truth.{Assignment, is_literal_of}
use Rattle.lrat_rules.specs.State.{clause_at}
use Rattle.lrat_rules.specs.Strict.{RefutesStrictly}
use Rattle.hint_chain.specs.Atoms.{clause_from_atoms}
use Rattle.node_table.specs.declared.node.Node.{Node}
use Rattle.node_table.specs.Defined.{atom_of}
use Rattle.node_table.specs.Diagram.{Graph, is_node}
use Rattle.node_table.specs.HandedOn.{no_answer, no_error}
use Rattle.node_table.specs.Table.{IsSound, live_nodes}
use Rattle.cube_models.specs.Denied.{AreSums}
use Rattle.cube_models.specs.Finder.{FindsNone}
use Rattle.bdd_terms.specs.declared.held.HeldTerm.{HeldTerm}
use Rattle.bdd_terms.specs.Runner.{IsGood, IsListed, IsRunner, holds_in}
use Rattle.cube_queries.specs.declared.answer.Answer.TheVariants.{Unsat}
use Rattle.cube_queries.specs.Steps.{formula_holds}
use Rattle.cube_queries.specs.Sums.{Adds}
use Rattle.cube_queries.proofs.Added.{adds_as, adds_failed, adds_further, adds_handed, adds_refused, once_behind, once_failed, replies_added}
use Rattle.cube_queries.proofs.Added.{stays_added, sums_kept}
use Rattle.cube_queries.proofs.Alone.{alone_good}
use Rattle.cube_queries.proofs.Refusing.{proved_good, some_literal, unit_at, unit_there}
use Rattle.cube_queries.proofs.refusal.refuse.Given.{Over}
use Rattle.cube_queries.proofs.refusal.refuse.Goals as goal
use Rattle.cube_queries.proofs.refusal.refuse.Goals.{In_ok-ready}

-- behind the sums the term may be taken yet
good : (g : Over) (c : In_ok-ready g) → IsGood c.ready.new.runner c.args.term.now.held
good g c = alone_good c.ready.new.runner c.args.term.now.held
    (subst (λ (l : List HeldTerm). IsListed [] l c.args.term.now.held) (sym c.in_ok-ready.ensures.adds.out) c.requires.alone)

still : (g : Over) (c : In_ok-ready g) → IsRunner c.ready.new.runner
still g c = c.in_ok-ready.ensures.adds.goes_on no_error

pub returns-in_err-ready-clause-replies : goal.returns-in_err-ready-clause-replies
returns-in_err-ready-clause-replies g c =
    let came = c.in_err-ready.field-0.0 in
    let n = live_nodes c.args.runner.now.terms.table.graph in
    replies_added c.args.runner.now c.ready.new.runner (n + 1) c.args.cube.now _
    (adds_handed c.args.runner.now c.ready.new.runner n (n + 1) (omega arith) came c.in_err-ready.ensures.adds _ c.from_residual.ensures.1)
    (no_answer _ came _ c.from_residual.ensures.1)

pub returns-in_err-hints-clause-replies : goal.returns-in_err-hints-clause-replies
returns-in_err-hints-clause-replies g c =
    let n = live_nodes c.args.runner.now.terms.table.graph in
    replies_added c.args.runner.now c.ready.new.runner (n + 1) c.args.cube.now _
    (adds_failed c.args.runner.now c.ready.new.runner n (n + 1) (omega arith) _ c.in_ok-ready.ensures.adds _
    c.from_residual-in_err-hints.ensures.1)
    (no_answer _ _ _ c.from_residual-in_err-hints.ensures.1)

pub returns-in_err-refuse-clause-replies : goal.returns-in_err-refuse-clause-replies
returns-in_err-refuse-clause-replies g c =
    let n = live_nodes c.args.runner.now.terms.table.graph in
    let came = c.in_err-refuse.field-0.0 in
    let own = c.in_err-refuse.ensures in
    let all : Adds {T = _} (n + 1) c.args.runner.now c.refuse.new.self (Err came) =
    adds_further c.steps_law.ensures c.args.runner.now c.ready.new.runner c.refuse.new.self n 1 (n + 1) (omega arith) _
    c.in_ok-ready.ensures.adds (Err came)
    (adds_refused c.ready.new.runner c.refuse.new.self c.args.term.now.held c.args.cube.now (Err came) own.refuses) in
    replies_added c.args.runner.now c.refuse.new.self (n + 1) c.args.cube.now _
    (adds_handed c.args.runner.now c.refuse.new.self (n + 1) (n + 1) (omega arith) came all _ c.from_residual-in_err-refuse.ensures.1)
    (no_answer _ came _ c.from_residual-in_err-refuse.ensures.1)

pub returns-in_err-refuse-clause-nodes : goal.returns-in_err-refuse-clause-nodes
returns-in_err-refuse-clause-nodes g c = c.in_err-refuse.ensures.refuses.goes_on.nodes ∙ c.in_ok-ready.ensures.adds.nodes

pub returns-clause-replies : goal.returns-clause-replies
returns-clause-replies g c =
    let n = live_nodes c.args.runner.now.terms.table.graph in
    let own = c.in_ok-refuse.ensures in
    let all : Adds (n + 1) c.args.runner.now c.refuse.new.self (Ok Unsat) =
    adds_further c.steps_law.ensures c.args.runner.now c.ready.new.runner c.refuse.new.self n 1 (n + 1) (omega arith) _
    c.in_ok-ready.ensures.adds (Ok Unsat)
    (adds_as c.ready.new.runner c.refuse.new.self 1 1 (omega arith) c.in_ok-refuse.field-0 Unsat
    (adds_refused c.ready.new.runner c.refuse.new.self c.args.term.now.held c.args.cube.now (Ok c.in_ok-refuse.field-0) own.refuses)) in
    replies_added c.args.runner.now c.refuse.new.self (n + 1) c.args.cube.now (Ok Unsat) all (
      λ a satisfied holds. c.requires.none a (sym (ap (λ f. formula_holds f.now a) all.goes.formula) ∙ satisfied) holds,
      λ is. (own.refuses.forbids.added, (own.refuses.forbids.id, own.refuses.forbids.stands)),
    )

pub returns-clause-nodes : goal.returns-clause-nodes
returns-clause-nodes g c = c.in_ok-refuse.ensures.refuses.goes_on.nodes ∙ c.in_ok-ready.ensures.adds.nodes

pub returns-clause-sums : goal.returns-clause-sums
returns-clause-sums g c =
    sums_kept c.ready.new.runner c.refuse.new.self c.in_ok-refuse.ensures.refuses.goes_on.nodes c.in_ok-refuse.ensures.refuses.goes_on.keeps
    c.ready.new.sums.items c.in_ok-ready.ensures.sums

-- the sums are added once
pub returns-in_err-ready-clause-once : goal.returns-in_err-ready-clause-once
returns-in_err-ready-clause-once g c =
    let own = c.in_err-ready.ensures in
    once_failed c.args.sums.now.items c.ready.new.sums.items c.args.runner.now c.ready.new.runner c.ready.new.runner own.adds.top own.there
    (omega arith) _ c.in_err-ready.field-0.0 c.from_residual.ensures.1

pub returns-in_err-hints-clause-once : goal.returns-in_err-hints-clause-once
returns-in_err-hints-clause-once g c =
    let own = c.in_ok-ready.ensures in
    once_failed c.args.sums.now.items c.ready.new.sums.items c.args.runner.now c.ready.new.runner c.ready.new.runner own.adds.top own.there
    (omega arith) _ _ c.from_residual-in_err-hints.ensures.1

pub returns-in_err-refuse-clause-once : goal.returns-in_err-refuse-clause-once
returns-in_err-refuse-clause-once g c =
    let own = c.in_ok-ready.ensures in
    once_failed c.args.sums.now.items c.ready.new.sums.items c.args.runner.now c.ready.new.runner c.refuse.new.self own.adds.top own.there
    c.in_err-refuse.ensures.refuses.goes_on.top _ c.in_err-refuse.field-0.0 c.from_residual-in_err-refuse.ensures.1

pub returns-clause-once : goal.returns-clause-once
returns-clause-once g c =
    let own = c.in_ok-ready.ensures in
    once_behind c.args.sums.now.items c.ready.new.sums.items c.args.runner.now c.ready.new.runner c.refuse.new.self own.adds.top own.there
    c.in_ok-refuse.ensures.refuses.goes_on.top (Ok Unsat) own.none

-- no assignment makes the term true and the cube
none_yet : (g : Over) (c : In_ok-ready g) → (a : Assignment) → holds_in c.ready.new.runner c.args.term.now.held a ≡ true
    → cube_holds a c.args.cube.now ≡ true → ⊥
none_yet g c a holds =
    let held = c.args.term.now.held in
    let stays = stays_added c.args.runner.now c.ready.new.runner _ _ c.in_ok-ready.ensures.adds in
    c.requires.none a
    (sym (c.requires.value a) ∙ sym (stays.keeps.values held (alone_good c.args.runner.now held c.requires.alone) a) ∙ holds)

pub unreachable-requires : goal.unreachable-requires
unreachable-requires g c =
    let mid = (goal.at.unreachable-requires g c).In_ok-ready in
    unit_there c.ready.new.runner (still g mid) c.args.term.now.held (good g mid) c.args.finder.now.dead.items c.requires.found.shut
    c.in_default.ensures

pub hints-requires-clause-node : goal.hints-requires-clause-node
hints-requires-clause-node g c =
    let mid = (goal.at.hints-requires-clause-node g c).In_ok-ready in
    subst (λ t. is_node t.graph c.node.result ≡ true) (sym c.table.ensures)
    (subst (λ (n : Node). is_node c.ready.new.runner.terms.table.graph n ≡ true) (sym c.node.ensures)
    (proved_good c.ready.new.runner (still g mid) c.args.term.now.held (good g mid)).stands)

pub hints-requires-clause-unit : goal.hints-requires-clause-unit
hints-requires-clause-unit g c =
    let mid = (goal.at.hints-requires-clause-unit g c).In_ok-ready in
    let id = c.in-Some.unit in
    subst (λ t. clause_at t.book.state.live id ≡ clause_from_atoms (atom_of t.graph c.node.result ∷ [])) (sym c.table.ensures)
    (subst (λ (n : Node). clause_at c.ready.new.runner.terms.table.book.state.live id
    ≡ clause_from_atoms (atom_of c.ready.new.runner.terms.table.graph n ∷ [])) (sym c.node.ensures)
    (unit_at c.ready.new.runner (still g mid) c.args.term.now.held (good g mid) id c.in-Some.ensures))

pub refuse-requires-clause-good : goal.refuse-requires-clause-good
refuse-requires-clause-good g c = good g (goal.at.refuse-requires-clause-good g c).In_ok-ready

pub refuse-requires-clause-some : goal.refuse-requires-clause-some
refuse-requires-clause-some g c =
    let mid = (goal.at.refuse-requires-clause-some g c).In_ok-ready in
    some_literal c.ready.new.runner (still g mid) c.args.term.now.held (good g mid) c.canonical_law.ensures c.counting_law.ensures
    c.args.cube.now (none_yet g mid)
