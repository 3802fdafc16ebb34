-- The draft of a line says which step its tokens spell.
use Rattle.std.proofs.Common.{◌≡◌, ℕ, true, false, List, [], ◌∷◌, ◌++◌, map, ℤ, Option, Some, None, option_map, option_and_then, ◌==◌}
use Rattle.std.proofs.Common.{if◌then◌else◌, refl, ◌∙◌, ap}
use Rattle.cnf_base.specs.Number.{plain_number, signed_number}
use Rattle.cnf_base.specs.Text.{Word}
use Rattle.cnf_base.specs.ProofText.{all_given, split_at, is_zero, addition_from, deletion_of, is_delete_word, step_with, step_of}
use Rattle.lrat_text.specs.declared.draft.Kind.{Kind}
use Rattle.lrat_text.specs.declared.draft.Kind.TheVariants.{Empty, Begun, Adds, Deletes}
use Rattle.text_scan.specs.Capped.{capped, capped_ℤ}
use Rattle.lrat_text.specs.Numbers.{positive, signed_word, plain_word, deletion_from, addition_by}
use Rattle.lrat_text.specs.Draft.{DraftLine, behind, draft_from, with_given, draft_with, judged, judged_in, is_open, is_open_kind}
use Rattle.lrat_text.specs.Draft.{keeps_number}
use Rattle.lrat_text.proofs.Cut.{all_given-map, addition_by-capped, deletion_from-capped}

-- the draft of the tokens of a line
abbrev kind_of : List ℕ → Kind
kind_of word = if is_delete_word word then Deletes else Adds

abbrev numbers_of : List ℕ → List (List ℕ) → Option (List ℤ)
numbers_of word words = if is_delete_word word then all_given (map plain_word words) else all_given (map signed_word (word ∷ words))

abbrev as_draft : ℕ → Option ℕ → Kind → Option (List ℤ) → DraftLine
as_draft line id kind numbers = record { line = line; kind = kind; id = id; numbers = numbers }

abbrev pub draft_of : ℕ → List (List ℕ) → DraftLine
draft_of line [] = record { line = line; kind = Empty; id = None; numbers = Some [] }
draft_of line (word ∷ []) = draft_from line (option_map capped (plain_number word))
draft_of line (word ∷ next ∷ words) = as_draft line (option_map capped (plain_number word)) (kind_of next)
    (behind (option_map capped (plain_number word)) (numbers_of next words))

all_given-push : (f : List ℕ → Option ℤ) (words : List (List ℕ)) (word : List ℕ) → all_given (map f (words ++ word ∷ []))
    ≡ with_given (all_given (map f words)) (f word)
all_given-push f [] word = elim (f word) as (λ x. all_given (x ∷ []) ≡ with_given (Some []) x) [ None ↦ refl | Some x ↦ refl ]
all_given-push f (next ∷ words) word = elim (f next) as (λ x. all_given (x ∷ map f (words ++ word ∷ []))
    ≡ with_given (all_given (x ∷ map f words)) (f word)) [
      | None ↦ refl
      | Some x ↦ ap (option_map (λ xs. x ∷ xs)) (all_given-push f words word)
          ∙ elim (all_given (map f words)) as (λ (xs : Option (List ℤ)). option_map (λ ys. x ∷ ys) (with_given xs (f word))
          ≡ with_given (option_map (λ ys. x ∷ ys) xs) (f word)) [
            | None ↦ refl
            | Some xs ↦ elim (f word) as (λ y. option_map (λ ys. x ∷ ys) (with_given (Some xs) y)
                ≡ with_given (Some (x ∷ xs)) y) [ None ↦ refl | Some y ↦ refl ]
          ]
    ]

-- one more token
second_token : (line : ℕ) (id : Option ℕ) (word : Word) → as_draft line id (kind_of word.bytes) (behind id (numbers_of word.bytes []))
    ≡ draft_with (draft_from line id) word
second_token line None word = elim (is_delete_word word.bytes) as (λ b. as_draft line None (if b then Deletes else Adds) None
    ≡ (if b then as_draft line None Deletes None else as_draft line None Adds None)) [ true ↦ refl | false ↦ refl ]
second_token line (Some id) word =
    elim (is_delete_word word.bytes) as (λ b. as_draft line (Some id) (if b then Deletes else Adds)
    (if b then Some [] else all_given (signed_word word.bytes ∷ []))
    ≡ (if b then as_draft line (Some id) Deletes (Some []) else as_draft line (Some id) Adds
    (with_given (Some []) (signed_word word.bytes)))) [
      | true ↦ refl
      | false ↦ ap (as_draft line (Some id) Adds) (all_given-push signed_word [] word.bytes)
    ]

later_token : (line : ℕ) (id : Option ℕ) (next : List ℕ) (words : List (List ℕ)) (word : Word)
    → as_draft line id (kind_of next) (behind id (numbers_of next (words ++ word.bytes ∷ [])))
    ≡ draft_with (as_draft line id (kind_of next) (behind id (numbers_of next words))) word
later_token line None next words word =
    elim (is_delete_word next) as (λ b. as_draft line None (if b then Deletes else Adds) None
    ≡ draft_with (as_draft line None (if b then Deletes else Adds) None) word) [ true ↦ refl | false ↦ refl ]
later_token line (Some id) next words word =
    elim (is_delete_word next) as (λ b. as_draft line (Some id) (if b then Deletes else Adds)
    (if b then all_given (map plain_word (words ++ word.bytes ∷ [])) else all_given (map signed_word (next ∷ (words ++ word.bytes ∷ []))))
    ≡ draft_with (as_draft line (Some id) (if b then Deletes else Adds)
    (if b then all_given (map plain_word words) else all_given (map signed_word (next ∷ words)))) word) [
      | true ↦ ap (as_draft line (Some id) Deletes) (all_given-push plain_word words word.bytes)
      | false ↦ ap (as_draft line (Some id) Adds) (all_given-push signed_word (next ∷ words) word.bytes)
    ]

pub draft_of-push : (line : ℕ) (first : List ℕ) (words : List (List ℕ)) (word : Word) → draft_of line (first ∷ (words ++ word.bytes ∷ []))
    ≡ draft_with (draft_of line (first ∷ words)) word
draft_of-push line first [] word = second_token line (option_map capped (plain_number first)) word
draft_of-push line first (next ∷ words) word = later_token line (option_map capped (plain_number first)) next words word

pub draft_of-open : (line : ℕ) (first : List ℕ) (words : List (List ℕ)) → is_open (draft_of line (first ∷ words)) ≡ true
draft_of-open line first [] = refl
draft_of-open line first (next ∷ words) = elim (is_delete_word next) as (λ b. is_open_kind (if b then Deletes else Adds)
    ≡ true) [ true ↦ refl | false ↦ refl ]

pub draft_of-line : (line : ℕ) (first : List ℕ) (words : List (List ℕ)) → (draft_of line (first ∷ words)).line ≡ line
draft_of-line line first [] = refl
draft_of-line line first (next ∷ words) = refl

-- what the numbers behind an identifier spell
signed_part : (id : ℕ) (words : List (List ℕ)) → option_and_then (addition_by (capped id)) (all_given (map signed_word words))
    ≡ option_and_then (addition_by id) (all_given (map signed_number words))
signed_part id words =
    ap (option_and_then (addition_by (capped id))) (all_given-map capped_ℤ signed_number words)
    ∙ elim (all_given (map signed_number words)) as (λ (xs : Option (List ℤ)). option_and_then (addition_by (capped id))
    (option_map (map capped_ℤ) xs) ≡ option_and_then (addition_by id) xs) [
      | None ↦ refl
      | Some xs ↦ addition_by-capped id xs
    ]

plain_part : (id : ℕ) (words : List (List ℕ)) → option_and_then (deletion_from (capped id)) (all_given (map plain_word words))
    ≡ option_and_then (λ numbers. option_and_then (deletion_of id) (split_at (λ n. n == 0) numbers)) (all_given (map plain_number words))
plain_part id words =
    ap (option_and_then (deletion_from (capped id))) (all_given-map positive plain_number words)
    ∙ elim (all_given (map plain_number words)) as (λ (xs : Option (List ℕ)). option_and_then (deletion_from (capped id))
    (option_map (map positive) xs) ≡ option_and_then (λ numbers. option_and_then (deletion_of id) (split_at (λ n. n == 0) numbers)) xs) [
      | None ↦ refl
      | Some xs ↦ deletion_from-capped id xs
    ]

pub judged-is : (line : ℕ) (first : List ℕ) (words : List (List ℕ)) → judged (draft_of line (first ∷ words)) ≡ step_of (first ∷ words)
judged-is line first [] = elim (plain_number first) as (λ (n : Option ℕ). option_and_then
    (λ id. option_and_then (judged_in Begun id) (behind (option_map capped n) (Some []))) (option_map capped n)
    ≡ option_and_then (λ id. step_with id []) n) [ None ↦ refl | Some id ↦ refl ]
judged-is line first (next ∷ words) = elim (plain_number first) as
    (λ (n : Option ℕ). option_and_then (λ id. option_and_then (judged_in (kind_of next) id)
    (behind (option_map capped n) (numbers_of next words))) (option_map capped n) ≡ option_and_then (λ id. step_with id (next ∷ words)) n) [
      | None ↦ refl
      | Some id ↦ elim (is_delete_word next) as (λ b. option_and_then (judged_in (if b then Deletes else Adds) (capped id))
          (if b then all_given (map plain_word words) else all_given (map signed_word (next ∷ words)))
          ≡ (if b then option_and_then (λ numbers. option_and_then (deletion_of id) (split_at (λ n. n == 0) numbers))
          (all_given (map plain_number words))
          else option_and_then (λ numbers. option_and_then (addition_from id) (split_at is_zero numbers))
          (all_given (map signed_number (next ∷ words))))) [
            | true ↦ plain_part id words
            | false ↦ signed_part id (next ∷ words)
          ]
    ]

-- the last number of a list is kept
pub keeps_last : (numbers : List ℤ) (number : ℤ) → keeps_number (Some (numbers ++ number ∷ [])) ≡ true
keeps_last [] number = refl
keeps_last (first ∷ numbers) number = refl
