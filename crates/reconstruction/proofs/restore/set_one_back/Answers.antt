-- What is left to show of `set_one_back`.
use Rattle.std.proofs.Common.{◌≡◌, ◌∙◌, ◌-◌, Bool, false, not, List, length, sym, ap, arith, subst}
use Rattle.std.specs.Prelude.{slice_set}
use Rattle.std.proofs.lemmas.List.{length-set}
use Rattle.cnf_base.specs.Truth.{Assignment, assignment_of}
use Rattle.clause_terms.specs.Walk.{AreAlike}
use Rattle.reconstruction.specs.Cells.{cell_value}
use Rattle.reconstruction.specs.Entries.{variables_of}
use Rattle.reconstruction.specs.SetsBack.{holds_by, one_back_by}
use Rattle.reconstruction.proofs.Alike.{value_alike}
use Rattle.reconstruction.proofs.SetBackAlike.{one_in_place}
use Rattle.reconstruction.proofs.restore.set_one_back.Goals as goal

pub can_be_true-requires-clause-variables : goal.can_be_true-requires-clause-variables
can_be_true-requires-clause-variables c entry there =
    let it = c.requires.variables entry there in
    let long : length c.as_slice.result.now ≡ length c.args.values.now = ap length (c.as_slice.ensures ∙ c.set.ensures)
    ∙ length-set c.args.values.now (c.args.entry.now.variable - 1) false in
    (it.0, omega (arith, it.1, long))

pub returns-clause-set : goal.returns-clause-set
returns-clause-set c =
    let cells = c.args.cells.now in
    let values = c.args.values.now in
    let x = c.args.entry.now.variable in
    let key = c.args.entry.now.key in
    let later = variables_of c.args.later.now in
    let can = c.in_ok-can.can in
    let f : Assignment → Bool = λ a. cell_value cells a key in
    let asked : can ≡ holds_by f later (assignment_of (slice_set values (x - 1) false)) =
    c.in_ok-can.ensures.can ∙ ap (λ (list : List Bool). holds_by f later (assignment_of list)) (c.as_slice.ensures ∙ c.set.ensures) in
    subst (λ (list : List Bool). AreAlike (assignment_of list) (one_back_by f (assignment_of values) x later))
    (sym (c.set-2.ensures ∙ ap (λ (list : List Bool). slice_set list (x - 1) (not can)) c.set.ensures))
    (one_in_place f (λ a b alike. value_alike cells c.requires.ordered a b alike key) values x later can c.requires.some
    c.requires.within asked)
