-- One more literal.
use Rattle.std.proofs.Common.{◌≡◌, ℕ, ℤ, nat_abs, List, [], ◌∷◌, ◌++◌, map, take, append_assoc, sym, ap, ◌∙◌}
use Rattle.std.specs.Prelude.{slice_index, slice_index_or}
use Rattle.std.proofs.lemmas.List.{take_more, map-append}
use Rattle.schedule_plan.specs.declared.occurrence.Occurrence.{Occurrence}
use Rattle.schedule_plan.specs.Forest.{occurrence_of}
use Rattle.schedule_plan.proofs.occurrence.add_clause.Goals as goal

pub literals-preserved : goal.literals-preserved
literals-preserved c =
    let f : ℤ → Occurrence = occurrence_of c.args.places.now c.args.clause in
    let literals = c.args.literals.now in
    let k = c.literals.literal-index in
    let literal = slice_index_or literals k c.literal-item.result in
    let one : Occurrence = record { place = slice_index c.args.places.now c.var.result; clause = c.args.clause } in
    let same : f literal ≡ one = ap (λ (n : ℕ). record { place = slice_index c.args.places.now n; clause = c.args.clause })
    (ap nat_abs (sym c.literal-item.is) ∙ sym c.var.ensures.value) in
    c.in_ok-push.ensures.items ∙ ap (λ (l : List Occurrence). l ++ one ∷ []) c.literals.invariant
    ∙ append_assoc c.args.occurrences.now.items (map f (take k literals)) (one ∷ [])
    ∙ ap (λ (l : List Occurrence). c.args.occurrences.now.items ++ l) (ap (λ (o : Occurrence). map f (take k literals) ++ o ∷ []) (sym same)
    ∙ sym (map-append f (take k literals) (literal ∷ [])) ∙ ap (map f) (sym (take_more literals k c.literal-item.result c.literals-test.true)))
