-- Steps by the names ahead of a conversion, in parts.
use Rattle.std.proofs.Common.{◌≡◌, List, [], ◌∷◌, ◌++◌, refl, ap, ◌∙◌}
use Rattle.drat_text.specs.declared.step.DratStep.{DratStep}
use Rattle.drat_text.specs.DratText.{drat_text}
use Rattle.fresh_names.specs.Fresh.{names_after, named_step}
use Rattle.drat_proof.specs.Naming.{NamesAhead, own_names, new_names, named_by, behind, behind_all, step_by}
use Rattle.drat_proof.proofs.Added.{text-append}

pub no_steps : (names : NamesAhead) → named_by names [] ≡ []
no_steps own_names = refl
no_steps (new_names vars names) = refl

pub one_step : (names : NamesAhead) (step : DratStep) → named_by names (step ∷ []) ≡ step_by (behind names step) step ∷ []
one_step own_names step = refl
one_step (new_names vars names) step = refl

-- those of the second part by the names behind the first
pub named-append : (names : NamesAhead) (front rest : List DratStep)
    → named_by names (front ++ rest) ≡ named_by names front ++ named_by (behind_all names front) rest
named-append own_names [] rest = refl
named-append own_names (step ∷ front) rest = ap (λ (l : List DratStep). step ∷ l) (named-append own_names front rest)
named-append (new_names vars names) [] rest = refl
named-append (new_names vars names) (step ∷ front) rest =
    ap (λ (l : List DratStep). named_step (names_after vars names step).name step ∷ l)
    (named-append (new_names vars (names_after vars names step)) front rest)

pub behind-append : (names : NamesAhead) (front rest : List DratStep)
    → behind_all names (front ++ rest) ≡ behind_all (behind_all names front) rest
behind-append names [] rest = refl
behind-append names (step ∷ front) rest = behind-append (behind names step) front rest

pub named_text-append : (names : NamesAhead) (front rest : List DratStep)
    → drat_text (named_by names (front ++ rest)) ≡ drat_text (named_by names front) ++ drat_text (named_by (behind_all names front) rest)
named_text-append names front rest =
    ap drat_text (named-append names front rest) ∙ text-append (named_by names front) (named_by (behind_all names front) rest)
