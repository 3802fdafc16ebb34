-- The line that is written for a step has the numbers of each line that spells it, so no more bytes.
use Rattle.std.proofs.Common.{◌≡◌, ℕ, zero, suc, ◌+◌, ◌≤◌, Bool, true, false, ◌==◌, ℤ, pos, negsuc, neg_ℤ, nat_abs, List, [], ◌∷◌}
use Rattle.std.proofs.Common.{◌++◌, length, map, Option, None, Some, option_map, option_and_then, decimal, refl, sym, ap, ◌∙◌, subst, arith}
use Rattle.std.proofs.Common.{eqb-true, if◌then◌else◌, append_assoc}
use Rattle.std.specs.Prelude.{◌&&◌, nat_le}
use Rattle.std.specs.Fmt.{signed_decimal}
use Rattle.std.specs.List.{list_all, flat_map}
use Rattle.std.proofs.lemmas.Bool.{and_parts}
use Rattle.std.proofs.lemmas.Fmt.{decimal_digit}
use Rattle.std.proofs.lemmas.List.{map-append}
use Rattle.cnf_base.specs.declared.list.Group.{Group}
use Rattle.cnf_base.specs.declared.step.Step.{Step}
use Rattle.cnf_base.specs.declared.step.Step.TheVariants.{Add, Delete}
use Rattle.cnf_base.specs.Truth.{is_literal_of}
use Rattle.cnf_base.specs.Number.{plain_number, signed_number}
use Rattle.cnf_base.specs.ProofText.{all_given, split_at, in_front, is_empty, is_zero, is_id, is_hint, given_if, hints_before_group, groups_of}
use Rattle.cnf_base.specs.ProofText.{addition_of, addition_from, deletion_of, is_delete_word, max_id, max_literal, step_with, step_of}
use Rattle.cnf_base.specs.ProofText.{group_numbers, step_words}
use Rattle.proof_trim.proofs.WordLengths.{bytes_in, all_shorter, plain-length, signed-length}

-- what an answer was made of
record IsMade {X Y : Type 0} (f : X → Option Y) (o : Option X) (y : Y) : Type 0 where
  pub of : X
  pub given : o ≡ Some of
  pub makes : f of ≡ Some y

made : {X Y : Type 0} (f : X → Option Y) (o : Option X) (y : Y) → option_and_then f o ≡ Some y → IsMade f o y
made f None y e = cc
made f (Some x) y e = record { of = x; given = refl; makes = e }

same_some : {X : Type 0} {x y : X} → Some x ≡ Some y → x ≡ y
same_some e = cc

given : {X : Type 0} (b : Bool) (x y : X) → given_if b x ≡ Some y → (b ≡ true) × (x ≡ y)
given true x y e = (refl, same_some e)
given false x y e = cc

-- a list that is split
record IsSplit {X : Type 0} (test : X → Bool) (xs : List X) (parts : List X × List X) : Type 0 where
  pub at : X
  pub passes : test at ≡ true
  pub whole : xs ≡ parts.0 ++ at ∷ parts.1

split : {X : Type 0} (test : X → Bool) (xs : List X) (parts : List X × List X) → split_at test xs ≡ Some parts → IsSplit test xs parts
split test [] parts e = cc
split test (x ∷ xs) parts e =
    elim (test x) as (λ b. test x ≡ b → (if b then Some ([], xs) else option_map (in_front x) (split_at test xs)) ≡ Some parts
    → IsSplit test (x ∷ xs) parts) [
      | true ↦ λ is d. subst (λ p. IsSplit test (x ∷ xs) p) (same_some d) (record { at = x; passes = is; whole = refl })
      | false ↦ λ _ d.
          elim (split_at test xs) as (λ o. split_at test xs ≡ o → option_map (in_front x) o ≡ Some parts → IsSplit test (x ∷ xs) parts) [
            | None ↦ λ _ c. cc
            | Some (before, after) ↦ λ more c.
                let rest = split test xs (before, after) more in
                subst (λ p. IsSplit test (x ∷ xs) p) (same_some c)
                (record { at = rest.at; passes = rest.passes; whole = ap (λ l. x ∷ l) rest.whole })
          ] refl d
    ] refl e

no_more : {X : Type 0} (xs : List X) → is_empty xs ≡ true → xs ≡ []
no_more [] e = refl
no_more (x ∷ xs) e = cc

zero_word : decimal 0 ≡ 48 ∷ []
zero_word = decimal_digit 0 (omega arith)

zero_is : (z : ℤ) → is_zero z ≡ true → z ≡ pos 0
zero_is (pos n) e = ap pos (eqb-true n 0 e)
zero_is (negsuc n) e = let none : suc n ≡ 0 = eqb-true (suc n) 0 e in absurd (omega arith)

-- the numbers of hints and groups, as they were read
hints_again : (hints : List ℤ) → map pos (hints_before_group hints) ++ flat_map group_numbers (groups_of hints) ≡ hints
hints_again [] = refl
hints_again (pos n ∷ hints) = ap (λ l. pos n ∷ l) (hints_again hints)
hints_again (negsuc n ∷ hints) = ap (λ l. negsuc n ∷ l) (hints_again hints)

-- a deletion
deleted_words : (id : ℕ) (numbers : List ℕ) (step : Step) → option_and_then (deletion_of id) (split_at (λ n. n == 0) numbers) ≡ Some step
    → step_words step ≡ decimal id ∷ (100 ∷ []) ∷ map decimal numbers
deleted_words id numbers step is =
    let one = made (deletion_of id) (split_at (λ n. n == 0) numbers) step is in
    let parts = split (λ n. n == 0) numbers one.of one.given in
    let fits = given (nat_le id max_id && list_all is_id one.of.0 && is_empty one.of.1) (Delete id one.of.0) step one.makes in
    let ends : one.of.1 ≡ [] = no_more one.of.1
    (and_parts (nat_le id max_id && list_all is_id one.of.0) (is_empty one.of.1) fits.0).1 in
    let all : numbers ≡ one.of.0 ++ 0 ∷ [] = parts.whole ∙ (λ i. one.of.0 ++ eqb-true parts.at 0 parts.passes i ∷ ends i) in
    ap step_words (sym fits.1)
    ∙ ap (λ l. decimal id ∷ (100 ∷ []) ∷ l) (ap (λ w. map decimal one.of.0 ++ w ∷ []) (sym zero_word)
    ∙ sym (map-append decimal one.of.0 (0 ∷ [])) ∙ ap (map decimal) (sym all))

-- an addition
whole : (numbers literals rest hints more : List ℤ) (z w : ℤ) → numbers ≡ literals ++ (z ∷ rest) → rest ≡ hints ++ (w ∷ more)
    → z ≡ pos 0 → w ≡ pos 0 → more ≡ [] → numbers ≡ literals ++ (pos 0 ∷ (hints ++ (pos 0 ∷ [])))
whole numbers literals rest hints more z w front behind first second ends =
    front ∙ (λ i. literals ++ (first i ∷ behind i)) ∙ (λ i. literals ++ (pos 0 ∷ (hints ++ (second i ∷ ends i))))

added_words : (id : ℕ) (numbers : List ℤ) (step : Step) → option_and_then (addition_from id) (split_at is_zero numbers) ≡ Some step
    → step_words step ≡ decimal id ∷ map signed_decimal numbers
added_words id numbers step is =
    let one = made (addition_from id) (split_at is_zero numbers) step is in
    let front = split is_zero numbers one.of one.given in
    let two = made (addition_of id one.of.0) (split_at is_zero one.of.1) step one.makes in
    let behind = split is_zero one.of.1 two.of two.given in
    let literals : List ℤ = one.of.0 in
    let hints : List ℤ = two.of.0 in
    let fits = given (is_id id && list_all (is_literal_of max_literal) literals && list_all is_hint hints && is_empty two.of.1)
    (Add id literals (hints_before_group hints) (groups_of hints)) step two.makes in
    let ends : two.of.1 ≡ [] = no_more two.of.1
    (and_parts (is_id id && list_all (is_literal_of max_literal) literals && list_all is_hint hints) (is_empty two.of.1) fits.0).1 in
    let all : numbers ≡ literals ++ (pos 0 ∷ (hints ++ (pos 0 ∷ []))) =
    whole numbers literals one.of.1 hints two.of.1 front.at behind.at front.whole behind.whole (zero_is front.at front.passes)
    (zero_is behind.at behind.passes) ends in
    ap step_words (sym fits.1)
    ∙ ap (λ (l : List ℤ). decimal id ∷ map signed_decimal literals ++ (48 ∷ []) ∷ map signed_decimal l ++ (48 ∷ []) ∷ []) (hints_again hints)
    ∙ append_assoc (decimal id ∷ map signed_decimal literals) ((48 ∷ []) ∷ map signed_decimal hints) ((48 ∷ []) ∷ [])
    ∙ ap (λ (w : List ℕ). decimal id ∷ (map signed_decimal literals ++ (w ∷ (map signed_decimal hints ++ (w ∷ []))))) (sym zero_word)
    ∙ ap (λ l. decimal id ∷ (map signed_decimal literals ++ (decimal 0 ∷ l))) (sym (map-append signed_decimal hints (pos 0 ∷ [])))
    ∙ ap (λ l. decimal id ∷ l) (sym (map-append signed_decimal literals (pos 0 ∷ (hints ++ (pos 0 ∷ []))))
    ∙ ap (map signed_decimal) (sym all))

-- both
with_words : (id : ℕ) (words : List (List ℕ)) (step : Step) → step_with id words ≡ Some step
    → bytes_in (step_words step) ≤ (length (decimal id) + 1) + bytes_in words
with_words id [] step is = cc
with_words id (word ∷ words) step is =
    elim (is_delete_word word) as (λ b. is_delete_word word ≡ b
    → (if b then option_and_then (λ numbers. option_and_then (deletion_of id) (split_at (λ n. n == 0) numbers))
    (all_given (map plain_number words))
    else option_and_then (λ numbers. option_and_then (addition_from id) (split_at is_zero numbers))
    (all_given (map signed_number (word ∷ words)))) ≡ Some step
    → bytes_in (step_words step) ≤ (length (decimal id) + 1) + bytes_in (word ∷ words)) [
      | true ↦ λ letter e.
          let one = made (λ numbers. option_and_then (deletion_of id) (split_at (λ n. n == 0) numbers)) (all_given (map plain_number words))
          step e in
          let short : bytes_in (map decimal one.of) ≤ bytes_in words = all_shorter plain_number decimal plain-length words one.of one.given in
          let some : 1 ≤ length word = not_empty word letter in
          subst (λ w. bytes_in w ≤ (length (decimal id) + 1) + bytes_in (word ∷ words)) (sym (deleted_words id one.of step one.makes))
          (omega (arith, short, some))
      | false ↦ λ _ e.
          let one = made (λ numbers. option_and_then (addition_from id) (split_at is_zero numbers))
          (all_given (map signed_number (word ∷ words))) step e in
          let short : bytes_in (map signed_decimal one.of) ≤ bytes_in (word ∷ words) =
          all_shorter signed_number signed_decimal signed-length (word ∷ words) one.of one.given in
          subst (λ w. bytes_in w ≤ (length (decimal id) + 1) + bytes_in (word ∷ words)) (sym (added_words id one.of step one.makes))
          (omega (arith, short))
    ] refl is
  where
    not_empty : (word : List ℕ) → is_delete_word word ≡ true → 1 ≤ length word
    not_empty [] e = cc
    not_empty (byte ∷ bytes) e = omega arith

pub step_shorter : (words : List (List ℕ)) (step : Step) → step_of words ≡ Some step → bytes_in (step_words step) ≤ bytes_in words
step_shorter [] step is = cc
step_shorter (word ∷ words) step is =
    let one = made (λ id. step_with id words) (plain_number word) step is in
    let own : length (decimal one.of) ≤ length word = plain-length word one.of one.given in
    omega (arith, own, with_words one.of words step one.makes)
