-- Numbers in turn behind the tokens of a line.
use Rattle.std.proofs.Common.{◌≡◌, ℕ, ℤ, List, [], ◌∷◌, ◌++◌, Some, refl, sym, ◌∙◌, ap}
use Rattle.std.proofs.Common.{append_assoc, append-nil}
use Rattle.lrat_text.specs.Form.{with_numbers}
use Rattle.drat_text.specs.declared.line.DratKind.{DratKind}
use Rattle.drat_text.specs.declared.line.DratKind.TheVariants.{Empty, Adds, Deletes}
use Rattle.drat_text.specs.Draft.{all_numbers, draft_on, drat_form}

pub added : (numbers : List ℤ) (line : ℕ) (kind : DratKind) (own : List ℤ) → with_numbers drat_form (draft_on line kind (Some own)) numbers
    ≡ draft_on line kind (Some (own ++ numbers))
added [] line kind own = ap (λ l. draft_on line kind (Some l)) (sym (append-nil own))
added (number ∷ numbers) line kind own = added numbers line kind (own ++ number ∷ [])
    ∙ ap (λ l. draft_on line kind (Some l)) (append_assoc own (number ∷ []) numbers)

pub all_more : (kind : DratKind) (first : ℤ) (own more : List ℤ) → all_numbers kind first (own ++ more) ≡ all_numbers kind first own ++ more
all_more Empty first own more = refl
all_more Adds first own more = refl
all_more Deletes first own more = refl
