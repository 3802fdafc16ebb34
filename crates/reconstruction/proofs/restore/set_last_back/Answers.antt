-- What is left to show of `set_last_back`.
use Rattle.std.proofs.Common.{◌≡◌, ◌+◌, ◌-◌, ◌<◌, ◌≤◌, ℕ, Contains, List, drop, length, reverse, subst, sym, arith, take}
use Rattle.std.specs.Prelude.{slice_index_or}
use Rattle.std.proofs.lemmas.List.{length-drop, length-take-le}
use Rattle.std.proofs.lemmas.List.Elements.{Contains-get_or}
use Rattle.cnf_base.specs.Truth.{assignment_of}
use Rattle.clause_terms.specs.Walk.{AreAlike}
use Rattle.reconstruction.specs.declared.entries.Entry.{Entry}
use Rattle.reconstruction.specs.Cells.{cell_value}
use Rattle.reconstruction.specs.Entries.{no_entry, variables_of}
use Rattle.reconstruction.specs.SetBack.{set_cells_back}
use Rattle.reconstruction.specs.SetsBack.{one_back_by}
use Rattle.reconstruction.proofs.SetBackAlike.{entry_back, take_all}
use Rattle.reconstruction.proofs.SetEntries.{Contains-slice, cut}
use Rattle.reconstruction.proofs.restore.set_last_back.Goals as goal

last_there : (entries : List Entry) → 0 < length entries → Contains entries (slice_index_or entries (length entries - 1) no_entry)
last_there entries some = Contains-get_or entries (length entries - 1) no_entry (omega (arith, some))

pub set_whole_back-requires-clause-key : goal.set_whole_back-requires-clause-key
set_whole_back-requires-clause-key c = c.requires.within _ (last_there c.args.entries.now c.requires.some)

pub set_whole_back-requires-clause-variables : goal.set_whole_back-requires-clause-variables
set_whole_back-requires-clause-variables c entry there =
    c.requires.variables entry (Contains-slice c.args.entries.now c.before-first.result _ entry there)

pub returns-then-done-clause-set : goal.returns-then-done-clause-set
returns-then-done-clause-set c =
    let entries = c.args.entries.now in
    let first = c.before-first.result in
    let older = reverse (take first entries) in
    subst (λ (l : List Entry). AreAlike (set_cells_back c.args.cells.now (assignment_of c.set_whole_back.new.values) older)
    (set_cells_back c.args.cells.now (assignment_of c.args.values.now) l)) (cut entries first)
    (c.in_ok-done.ensures.done c.if-done.true older)

pub set_one_back-requires-clause-key : goal.set_one_back-requires-clause-key
set_one_back-requires-clause-key c = c.requires.within _ (last_there c.args.entries.now c.requires.some)

pub set_one_back-requires-clause-some : goal.set_one_back-requires-clause-some
set_one_back-requires-clause-some c = (c.requires.variables _ (last_there c.args.entries.now c.requires.some)).0

pub set_one_back-requires-clause-within : goal.set_one_back-requires-clause-within
set_one_back-requires-clause-within c =
    let it = c.requires.variables _ (last_there c.args.entries.now c.requires.some) in
    omega (arith, it.1, c.in_ok-done.ensures.one_each)

pub set_one_back-requires-clause-few : goal.set_one_back-requires-clause-few
set_one_back-requires-clause-few c =
    let entries = c.args.entries.now in
    let first = c.before-first.result in
    let place = length entries - 1 in
    let rest = drop first entries in
    let room : place - first ≤ length rest = omega (arith, length-drop first entries) in
    let long : length (take (place - first) rest) ≡ place - first = length-take-le (place - first) rest room in
    omega (arith, long, c.before-first.ensures.near)

pub set_one_back-requires-clause-variables : goal.set_one_back-requires-clause-variables
set_one_back-requires-clause-variables c entry there =
    let it = c.requires.variables entry (Contains-slice c.args.entries.now c.before-first.result _ entry there) in
    (it.0, omega (arith, it.1, c.in_ok-done.ensures.one_each))

pub returns-clause-set : goal.returns-clause-set
returns-clause-set c =
    let cells = c.args.cells.now in
    let entries = c.args.entries.now in
    let place = length entries - 1 in
    let inside : place < length entries = omega (arith, c.requires.some) in
    let it : Entry = slice_index_or entries place no_entry in
    let before = assignment_of c.set_whole_back.new.values in
    let after = assignment_of c.set_one_back.new.values in
    let end = set_cells_back cells (assignment_of c.args.values.now) (reverse entries) in
    let older = reverse (take c.before-first.result entries) in
    let whole : take (place + 1) entries ≡ entries = take_all entries (place + 1) (omega arith) in
    let rest : AreAlike (set_cells_back cells before (reverse entries)) end =
    subst (λ (l : List Entry). AreAlike (set_cells_back cells before l) (set_cells_back cells (assignment_of c.args.values.now) l))
    (cut entries c.before-first.result) (c.in_ok-done.ensures.same c.if-done.false older) in
    entry_back cells c.requires.ordered entries place no_entry inside before after end
    (subst (λ (first : ℕ). AreAlike after (one_back_by (λ a. cell_value cells a it.key) before it.variable
    (variables_of (take (place - first) (drop first entries))))) c.before-first.ensures.is c.in_ok-set_one_back.ensures.set)
    (subst (λ (l : List Entry). AreAlike (set_cells_back cells before (reverse l)) end) (sym whole) rest)
