-- The draft of a DRAT line says what its tokens say.
use Rattle.std.proofs.Common.{◌≡◌, ℕ, ◌≤◌, Bool, true, false, ◌&&◌, ℤ, List, [], ◌∷◌, ◌++◌, map, take, Option, Some, None, option_map}
use Rattle.std.proofs.Common.{option_and_then, nat_abs, if◌then◌else◌, refl, ◌∙◌, ap}
use Rattle.std.specs.Prelude.{is_some}
use Rattle.std.specs.List.{list_all}
use Rattle.cnf_base.specs.Number.{signed_number}
use Rattle.cnf_base.specs.Truth.{is_literal_of}
use Rattle.cnf_base.specs.Text.{Word}
use Rattle.cnf_base.specs.ProofText.{max_literal, all_given, split_at, is_empty, is_zero, given_if, is_delete_word}
use Rattle.text_scan.specs.Items.{kept}
use Rattle.text_scan.specs.Capped.{cap, capped_ℤ}
use Rattle.lrat_text.specs.Form.{IsForm}
use Rattle.lrat_text.specs.Numbers.{both, signed_word}
use Rattle.lrat_text.specs.Draft.{with_given, keeps_number}
use Rattle.drat_text.specs.declared.line.DratKind.{DratKind}
use Rattle.drat_text.specs.declared.line.DratKind.TheVariants.{Empty, Adds, Deletes}
use Rattle.drat_text.specs.declared.step.DratStep.{DratStep}
use Rattle.drat_text.specs.declared.step.DratStep.TheVariants.{Add as adds, Delete as deletes}
use Rattle.drat_text.specs.DratText.{clause_with, clause_from, clause_of, drat_step_of}
use Rattle.drat_text.specs.Draft.{DratDraft, all_numbers, draft_on, drat_of_word, drat_of_number, drat_with, drat_judged, judged_in}
use Rattle.drat_text.specs.Draft.{is_begun_kind, drat_form}

-- the last number of a list is kept
pub keeps_last : (numbers : List ℤ) (number : ℤ) → keeps_number (Some (numbers ++ number ∷ [])) ≡ true
keeps_last [] number = refl
keeps_last (first ∷ numbers) number = refl

pub numbers_push : (kind : DratKind) (first : ℤ) (numbers : List ℤ) (number : ℤ) → all_numbers kind first (numbers ++ number ∷ [])
    ≡ all_numbers kind first numbers ++ number ∷ []
numbers_push Empty first numbers number = refl
numbers_push Adds first numbers number = refl
numbers_push Deletes first numbers number = refl

-- what is known of numbers that are cut, and of what is kept of a token
pub record IsCut : Type 0 where
  pub given : (words : List (List ℕ)) → all_given (map signed_word words) ≡ option_map (map capped_ℤ) (all_given (map signed_number words))
  pub split : (numbers : List ℤ) → split_at is_zero (map capped_ℤ numbers) ≡ option_map (both capped_ℤ) (split_at is_zero numbers)
  pub literals : (numbers : List ℤ) → list_all (is_literal_of max_literal) (map capped_ℤ numbers)
      ≡ list_all (is_literal_of max_literal) numbers
  pub same : (numbers : List ℤ) → list_all (is_literal_of max_literal) numbers ≡ true → map capped_ℤ numbers ≡ numbers
  pub small : (bytes : List ℕ) (number : ℤ) → signed_number bytes ≡ Some number → nat_abs number ≤ cap → signed_word bytes ≡ Some number
  pub no_deletion : (bytes : List ℕ) (number : ℤ) → signed_number bytes ≡ Some number → is_delete_word bytes ≡ false
  pub signed : (word : Word) → signed_number (kept word).bytes ≡ signed_number word.bytes
  pub deletion : (word : Word) → is_delete_word (kept word).bytes ≡ is_delete_word word.bytes

all_given-push : (f : List ℕ → Option ℤ) (words : List (List ℕ)) (word : List ℕ) → all_given (map f (words ++ word ∷ []))
    ≡ with_given (all_given (map f words)) (f word)
all_given-push f [] word = elim (f word) as (λ x. all_given (x ∷ []) ≡ with_given (Some []) x) [ None ↦ refl | Some x ↦ refl ]
all_given-push f (next ∷ words) word = elim (f next) as (λ x. all_given (x ∷ map f (words ++ word ∷ []))
    ≡ with_given (all_given (x ∷ map f words)) (f word)) [
      | None ↦ refl
      | Some x ↦ ap (option_map (λ xs. x ∷ xs)) (all_given-push f words word)
          ∙ elim (all_given (map f words)) as (λ (xs : Option (List ℤ)). option_map (λ ys. x ∷ ys) (with_given xs (f word))
          ≡ with_given (option_map (λ ys. x ∷ ys) xs) (f word)) [
            | None ↦ refl
            | Some xs ↦ elim (f word) as (λ y. option_map (λ ys. x ∷ ys) (with_given (Some xs) y)
                ≡ with_given (Some (x ∷ xs)) y) [ None ↦ refl | Some y ↦ refl ]
          ]
    ]

-- the draft of the tokens of a line
abbrev kind_of : Bool → DratKind
kind_of deleted = if deleted then Deletes else Adds

abbrev numbers_of : Bool → List ℕ → List (List ℕ) → Option (List ℤ)
numbers_of deleted first words = if deleted then all_given (map signed_word words) else all_given (map signed_word (first ∷ words))

abbrev draft_by : Bool → ℕ → List ℕ → List (List ℕ) → DratDraft
draft_by deleted line first words = draft_on line (kind_of deleted) (numbers_of deleted first words)

abbrev draft_of : ℕ → List ℕ → List (List ℕ) → DratDraft
draft_of line first words = draft_by (is_delete_word first) line first words

first_word : (line : ℕ) (first : List ℕ) → draft_of line first [] ≡ drat_of_word (record { bytes = first; line = line })
first_word line first = elim (is_delete_word first) as (λ b. draft_by b line first []
    ≡ (if b then draft_on line Deletes (Some []) else draft_on line Adds (with_given (Some []) (signed_word first)))) [
      | true ↦ refl
      | false ↦ ap (draft_on line Adds) (all_given-push signed_word [] first)
    ]

one_more : (line : ℕ) (first : List ℕ) (words : List (List ℕ)) (word : Word) → draft_of line first (words ++ word.bytes ∷ [])
    ≡ drat_with (draft_of line first words) (signed_word word.bytes)
one_more line first words word = elim (is_delete_word first) as (λ b. draft_by b line first (words ++ word.bytes ∷ [])
    ≡ drat_with (draft_by b line first words) (signed_word word.bytes)) [
      | true ↦ ap (draft_on line Deletes) (all_given-push signed_word words word.bytes)
      | false ↦ ap (draft_on line Adds) (all_given-push signed_word (first ∷ words) word.bytes)
    ]

begun : (line : ℕ) (first : List ℕ) (words : List (List ℕ)) → is_begun_kind (draft_of line first words).kind ≡ true
begun line first words = elim (is_delete_word first) as (λ b. is_begun_kind (kind_of b) ≡ true) [ true ↦ refl | false ↦ refl ]

three_same : {X : Type 0} (a b : Bool) (x y : X) → (a ≡ true → x ≡ y) → given_if (a && b) x ≡ given_if (a && b) y
three_same true b x y same = ap (given_if b) (same refl)
three_same false b x y same = refl

map_kept : {X : Type 0} (f : List ℕ → X) → ((word : Word) → f (kept word).bytes ≡ f word.bytes) → (words : List (List ℕ))
    → map f (map (take 65) words) ≡ map f words
map_kept f same [] = refl
map_kept f same (word ∷ words) = rw (same (record { bytes = word; line = 0 }), map_kept f same words) refl

is_empty-map : (f : ℤ → ℤ) (numbers : List ℤ) → is_empty (map f numbers) ≡ is_empty numbers
is_empty-map f [] = refl
is_empty-map f (number ∷ numbers) = refl

-- what spells a step has numbers
judged_numbers : (kind : DratKind) (numbers : Option (List ℤ)) → is_some (option_and_then (judged_in kind) numbers) ≡ true
    → is_some numbers ≡ true
judged_numbers kind None some = cc
judged_numbers kind (Some numbers) some = refl

module _ (cut : IsCut) where
  clause_with-cut : (literals rest : List ℤ) → clause_with (map capped_ℤ literals, map capped_ℤ rest) ≡ clause_with (literals, rest)
  clause_with-cut literals rest =
      rw (cut.literals literals, is_empty-map capped_ℤ rest)
      (three_same (list_all (is_literal_of max_literal) literals) (is_empty rest) (map capped_ℤ literals) literals (cut.same literals))

  clause_from-cut : (numbers : List ℤ) → clause_from (map capped_ℤ numbers) ≡ clause_from numbers
  clause_from-cut numbers = ap (option_and_then clause_with) (cut.split numbers)
      ∙ elim (split_at is_zero numbers) as (λ (p : Option (List ℤ × List ℤ)). option_and_then clause_with (option_map (both capped_ℤ) p)
      ≡ option_and_then clause_with p) [ None ↦ refl | Some (literals, rest) ↦ clause_with-cut literals rest ]

  clause_of-cut : (words : List (List ℕ)) → option_and_then clause_from (all_given (map signed_word words)) ≡ clause_of words
  clause_of-cut words = ap (option_and_then clause_from) (cut.given words)
      ∙ elim (all_given (map signed_number words)) as (λ (ns : Option (List ℤ)). option_and_then clause_from (option_map (map capped_ℤ) ns)
      ≡ option_and_then clause_from ns) [ None ↦ refl | Some numbers ↦ clause_from-cut numbers ]

  judged_then : (f : List ℤ → DratStep) (numbers : Option (List ℤ)) → option_and_then (λ ns. option_map f (clause_from ns)) numbers
      ≡ option_map f (option_and_then clause_from numbers)
  judged_then f None = refl
  judged_then f (Some numbers) = refl

  spelled : (line : ℕ) (first : List ℕ) (words : List (List ℕ)) → drat_judged (draft_of line first words) ≡ drat_step_of (first ∷ words)
  spelled line first words = elim (is_delete_word first) as (λ b. drat_judged (draft_by b line first words)
      ≡ (if b then option_map deletes (clause_of words) else option_map adds (clause_of (first ∷ words)))) [
        | true ↦ judged_then deletes (all_given (map signed_word words)) ∙ ap (option_map deletes) (clause_of-cut words)
        | false ↦ judged_then adds (all_given (map signed_word (first ∷ words))) ∙ ap (option_map adds) (clause_of-cut (first ∷ words))
      ]

  clause_of-kept : (words : List (List ℕ)) → clause_of (map (take 65) words) ≡ clause_of words
  clause_of-kept words = ap (λ ns. option_and_then clause_from (all_given ns)) (map_kept signed_number cut.signed words)

  step_of-kept : (words : List (List ℕ)) → drat_step_of (map (take 65) words) ≡ drat_step_of words
  step_of-kept [] = refl
  step_of-kept (word ∷ words) =
      let deletion : is_delete_word (take 65 word) ≡ is_delete_word word = cut.deletion (record { bytes = word; line = 0 }) in
      ap (λ b. if b then option_map deletes (clause_of (map (take 65) words)) else option_map adds (clause_of (map (take 65) (word ∷ words))))
      deletion
      ∙ ap (λ o. if is_delete_word word then option_map deletes o else option_map adds (clause_of (map (take 65) (word ∷ words))))
      (clause_of-kept words)
      ∙ ap (λ o. if is_delete_word word then option_map deletes (clause_of words) else option_map adds o) (clause_of-kept (word ∷ words))

  first_number_is : (word : Word) (number : ℤ) → signed_number word.bytes ≡ Some number → nat_abs number ≤ cap → drat_of_word word
      ≡ drat_of_number word.line number
  first_number_is word number is small = rw (cut.no_deletion word.bytes number is, cut.small word.bytes number is small) refl

  later_number_is : (draft : DratDraft) (word : Word) (number : ℤ) → signed_number word.bytes ≡ Some number → nat_abs number ≤ cap
      → drat_with draft (signed_word word.bytes) ≡ drat_with draft (Some number)
  later_number_is draft word number is small = ap (drat_with draft) (cut.small word.bytes number is small)

  pub drat_law : IsForm drat_form
  drat_law = record {
    draft_of = draft_of;
    first_word = first_word;
    one_more = one_more;
    begun = begun;
    on_line = λ line first words. refl;
    spelled = spelled;
    kept = step_of-kept;
    numbers = λ draft. judged_numbers draft.kind draft.numbers;
    none_begun = refl;
    first_number = first_number_is;
    later_number = later_number_is;
    stays_begun = λ draft number is. is;
    stays_on_line = λ draft number. refl;
  }
