-- What is left to show of `take_literal`.
use Rattle.std.proofs.Common.{◌≡◌, ◌+◌, List, ◌∷◌, drop, reverse, false, sym, subst}
use Rattle.std.specs.Prelude.{IfOk, slice_index_or}
use Rattle.std.proofs.lemmas.List.{drop_more}
use Rattle.node_table.specs.Made.{LacksPart, MakesOnly}
use Rattle.clause_terms.specs.declared.placed.Placed.{Placed}
use Rattle.clause_terms.specs.Placed.{placed_function}
use Rattle.clause_terms.specs.ClauseDiagram.{IsDiagramOf}
use Rattle.clause_terms.proofs.Taken.{skipped, before_rest, level_within, below_first, never_true}
use Rattle.node_table.specs.HandedOn.{no_error}
use Rattle.clause_terms.proofs.step.take_literal.Goals as goal

abbrev no_placed : Placed
no_placed = record { level = 0; negative = false }

pub add_literal-requires-clause-below : goal.add_literal-requires-clause-below
add_literal-requires-clause-below g c =
    let placed = c.args.placed.now in
    let graph = c.args.table.now.graph in
    below_first graph c.args.table.now.book.state.live (slice_index_or placed c.args.i no_placed).level
    (level_within graph placed c.args.i no_placed c.requires.index c.requires.levels) (drop (c.args.i + 1) placed)
    (before_rest placed c.args.i no_placed c.requires.index c.requires.sorted
    (c.is_repeated.ensures.other c.if-is_repeated.false no_placed))
    c.args.below (reverse c.args.path.now.items) c.requires.diagram

pub add_literal-requires-clause-not_true : goal.add_literal-requires-clause-not_true
add_literal-requires-clause-not_true g c =
    never_true c.args.table.now.graph c.args.table.now.book.state.live (drop (c.args.i + 1) c.args.placed.now) c.args.below
    (reverse c.args.path.now.items) c.requires.diagram

pub returns-then-is_repeated-clause-diagram : goal.returns-then-is_repeated-clause-diagram
returns-then-is_repeated-clause-diagram g c =
    let same = c.is_repeated.ensures.same c.if-is_repeated.true no_placed in
    skipped c.unit_path_law.ensures.same_set c.args.table.now.graph c.args.table.now.book.state.live c.args.placed.now c.args.i no_placed
    same.0 c.requires.signs same.1
    c.args.below (reverse c.args.path.now.items) c.requires.diagram

pub returns-clause-made : goal.returns-clause-made
returns-clause-made g c =
    let placed = c.args.placed.now in
    let rest : drop c.args.i placed ≡ slice_index_or placed c.args.i no_placed
    ∷ drop (c.args.i + 1) placed = drop_more placed c.args.i no_placed c.requires.index in
    subst (λ (list : List Placed). MakesOnly c.args.table.now.graph c.add_literal.new.table.graph (placed_function list)) (sym rest)
    (c.add_literal.ensures.made (drop (c.args.i + 1) placed) c.requires.diagram.value)

pub returns-clause-lacks : goal.returns-clause-lacks
returns-clause-lacks g c full =
    let placed = c.args.placed.now in
    let rest : drop c.args.i placed ≡ slice_index_or placed c.args.i no_placed
    ∷ drop (c.args.i + 1) placed = drop_more placed c.args.i no_placed c.requires.index in
    subst (λ (list : List Placed). LacksPart c.add_literal.new.table.graph (placed_function list)) (sym rest)
    (c.add_literal.ensures.lacks (drop (c.args.i + 1) placed) c.requires.diagram.value full)

pub returns-clause-diagram : goal.returns-clause-diagram
returns-clause-diagram g c =
    let placed = c.args.placed.now in
    let rest : drop c.args.i placed ≡ slice_index_or placed c.args.i no_placed
    ∷ drop (c.args.i + 1) placed = drop_more placed c.args.i no_placed c.requires.index in
    let before = before_rest placed c.args.i no_placed c.requires.index c.requires.sorted
    (c.is_repeated.ensures.other c.if-is_repeated.false no_placed) in
    subst (λ (list : List Placed). IfOk c.add_literal.result (λ node.
    IsDiagramOf c.add_literal.new.table.graph c.add_literal.new.table.book.state.live list node (reverse c.add_literal.new.path.items)))
    (sym rest)
    (c.add_literal.ensures.diagram (drop (c.args.i + 1) placed) before c.requires.diagram)

pub returns-then-is_repeated-clause-made : goal.returns-then-is_repeated-clause-made
returns-then-is_repeated-clause-made g c = c.subfunction_law.ensures.none_made c.args.table.now.graph
    (placed_function (drop c.args.i c.args.placed.now))

pub returns-then-is_repeated-clause-steps : goal.returns-then-is_repeated-clause-steps
returns-then-is_repeated-clause-steps g c = c.steps_law.ensures.none c.args.table.now c.requires.sound

pub returns-then-is_repeated-clause-lacks : goal.returns-then-is_repeated-clause-lacks
returns-then-is_repeated-clause-lacks g c is = absurd (no_error is)

pub returns-clause-steps : goal.returns-clause-steps
returns-clause-steps g c = c.add_literal.ensures.steps

pub returns-then-is_repeated-clause-none_added : goal.returns-then-is_repeated-clause-none_added
returns-then-is_repeated-clause-none_added g c whole id own = own

pub returns-clause-none_added : goal.returns-clause-none_added
returns-clause-none_added g c = c.add_literal.ensures.none_added
