-- One place more, and the end.
use Rattle.std.proofs.Common.{ℕ, [], ◌∷◌, ◌++◌, List, get_or, refl, ap, ◌∙◌}
use Rattle.drat_checker.proofs.Placed.{one-empty}
use Rattle.drat_checker.proofs.literal_lists.reach.Goals as goal

pub places-init : goal.places-init
places-init c = record { same = λ k. refl }

pub places-preserved : goal.places-preserved
places-preserved c = record {
  same = λ k.
      ap (λ (l : List (List ℕ)). get_or l k []) c.in_ok-push.ensures.items
      ∙ ap (λ (l : List ℕ). get_or (c.places.near.items ++ l ∷ []) k []) c.new.ensures
      ∙ one-empty c.places.near.items k ∙ c.places.invariant.same k;
}
