-- The parts of a line make the line of its step.
use Rattle.std.proofs.Common.{◌≡◌, ℕ, ℤ, Bool, true, false, List, [], ◌∷◌, ◌++◌, map, refl, sym, ◌∙◌, ap, append_assoc}
use Rattle.std.specs.Fmt.{signed_decimal}
use Rattle.std.specs.List.{flat_map, join_with_byte}
use Rattle.drat_text.specs.DratText.{step_on, clause_words, line_of_drat}
use Rattle.drat_text.specs.LineText.{literal_text, clause_text, step_text}

-- a word, and words behind it of which there is one
join-cons : (word : List ℕ) (words last : List (List ℕ)) (end : List ℕ) → last ≡ end ∷ [] → join_with_byte 32 (word ∷ (words ++ last))
    ≡ word ++ (32 ∷ join_with_byte 32 (words ++ last))
join-cons word [] last end is = rw is refl
join-cons word (next ∷ words) last end is = refl

-- literals with a space behind each, and a zero, are the words of a clause
literals-joined : (clause : List ℤ) → join_with_byte 32 (clause_words clause) ≡ flat_map literal_text clause ++ 48 ∷ []
literals-joined [] = refl
literals-joined (literal ∷ clause) =
    join-cons (signed_decimal literal) (map signed_decimal clause) ((48 ∷ []) ∷ []) (48 ∷ []) refl
    ∙ ap (λ (l : List ℕ). signed_decimal literal ++ (32 ∷ l)) (literals-joined clause)
    ∙ sym (append_assoc (signed_decimal literal) (32 ∷ []) (flat_map literal_text clause ++ 48 ∷ []))
    ∙ sym (append_assoc (literal_text literal) (flat_map literal_text clause) (48 ∷ []))

clause-joined : (clause : List ℤ) → join_with_byte 32 (clause_words clause) ++ 10 ∷ [] ≡ clause_text clause
clause-joined clause =
    ap (λ (l : List ℕ). l ++ 10 ∷ []) (literals-joined clause) ∙ append_assoc (flat_map literal_text clause) (48 ∷ []) (10 ∷ [])

pub step_text-line : (deleted : Bool) (clause : List ℤ) → step_text deleted clause ≡ line_of_drat (step_on deleted clause)
step_text-line true clause =
    sym (ap (λ (l : List ℕ). l ++ 10 ∷ []) (join-cons (100 ∷ []) (map signed_decimal clause) ((48 ∷ []) ∷ []) (48 ∷ []) refl)
    ∙ ap (λ (l : List ℕ). 100 ∷ 32 ∷ l) (clause-joined clause))
step_text-line false clause = sym (clause-joined clause)
