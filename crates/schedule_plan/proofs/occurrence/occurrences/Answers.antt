-- What is left to show of `occurrences`.
use Rattle.std.proofs.Common.{ℕ, List, length, subst, ap, ◌∙◌, IsPermutation}
use Rattle.schedule_plan.specs.declared.occurrence.Occurrence.{Occurrence}
use Rattle.schedule_plan.specs.Forest.{ArePlaces, occurrences_of}
use Rattle.schedule_plan.proofs.Occurrences.{all_occurrences}
use Rattle.schedule_plan.proofs.occurrence.occurrences.Goals as goal

pub returns : goal.returns
returns c =
    let formula = c.args.formula.now in
    let order = c.args.order.now in
    let places = c.in_ok-places.places.items in
    let all = c.in_ok-occurrences.ensures
    ∙ ap (λ (list : List ℕ). occurrences_of list formula (length formula.clauses)) c.as_slice-2.ensures.value in
    all_occurrences formula order places c.sort_by_place.new.occurrences.items c.as_slice.ensures.order
    (subst (λ (list : List ℕ). ArePlaces list places) c.as_slice.ensures.value c.in_ok-places.ensures)
    c.requires c.formula_law.ensures.literals
    (subst (λ (list : List Occurrence). IsPermutation list c.sort_by_place.new.occurrences.items) all c.sort_by_place.ensures.permutation)
    c.sort_by_place.ensures.sorted
