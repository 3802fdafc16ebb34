-- What is left to show of `each_once`.
use Rattle.std.proofs.Common.{◌≡◌, ◌-◌, ◌++◌, ◌<◌, ◌⊎◌, ℕ, List, [], ◌∷◌, Contains, length, take, sym, subst, arith, inl, inr}
use Rattle.std.specs.Prelude.{slice_index_or}
use Rattle.std.proofs.lemmas.List.{take_more}
use Rattle.bdd_terms.specs.Sets.{AreOnce}
use Rattle.bdd_terms.proofs.SetLevels.{below_next, in_take, once_again, once_more}
use Rattle.bdd_terms.proofs.sets.each_once.Goals as goal
use Rattle.bdd_terms.proofs.sets.each_once.Goals.{else-place-gt0-via-then-place-gt0+else-sorted-place, else-place-gt0-via-else-place-gt0}

pub places-preserved-then-sorted-place : goal.places-preserved-then-sorted-place
places-preserved-then-sorted-place c =
    let sorted = c.args.sorted.now in
    let place = c.places.place in
    let small : place < length sorted = omega (arith, c.places-test.true, c.places.auto.place-end) in
    let same : slice_index_or sorted (place - 1) 0 ≡ slice_index_or sorted place 0 = omega (arith, c.if-sorted-place.true) in
    let again = subst (Contains (take place sorted)) same
    (in_take sorted (place - 1) place (omega (arith, c.if-place-gt0.true)) (omega (arith, small))) in
    subst (λ (l : List ℕ). AreOnce l c.places.once.items) (sym (take_more sorted place 0 small))
    (once_again (take place sorted) c.places.once.items (slice_index_or sorted place 0) again c.places.invariant)

pub places-preserved : goal.places-preserved
places-preserved c =
    let sorted = c.args.sorted.now in
    let place = c.places.place in
    let small : place < length sorted = omega (arith, c.places-test.true, c.places.auto.place-end) in
    let differs : (place ≡ 0) ⊎ (slice_index_or sorted (place - 1) 0 ≡ slice_index_or sorted place 0 → ⊥) =
    elim c.else-place-gt0.branch [
      | else-place-gt0-via-then-place-gt0+else-sorted-place w ↦ inr (λ same. omega (arith, same, w.if-sorted-place.false))
      | else-place-gt0-via-else-place-gt0 w ↦ inl (omega (arith, w.if-place-gt0.false))
    ] in
    subst (λ (l : List ℕ). AreOnce l c.push.new.self.items) (sym (take_more sorted place 0 small))
    (subst (λ (l : List ℕ). AreOnce (take place sorted ++ slice_index_or sorted place 0 ∷ []) l) (sym c.in_ok-push.ensures.items)
    (once_more (take place sorted) c.places.once.items (slice_index_or sorted place 0)
    (below_next sorted place c.requires small differs) c.places.invariant))
