-- The draft of an LRAT line says what its tokens say.
use Rattle.std.proofs.Common.{◌≡◌, ℕ, zero, suc, ◌≤◌, true, false, ℤ, pos, negsuc, List, [], ◌∷◌, map, take, Option, Some, None}
use Rattle.std.proofs.Common.{◌==◌, if◌then◌else◌, refl, ◌∙◌, ap, arith}
use Rattle.std.specs.Prelude.{nat_abs, min, is_some}
use Rattle.std.specs.Option.{option_map, option_and_then}
use Rattle.std.proofs.lemmas.Bool.Decides.{nat_tests}
use Rattle.cnf_base.specs.Number.{plain_number, is_short, numeral_value, negative, signed_value, signed_number}
use Rattle.cnf_base.specs.ProofText.{all_given, split_at, is_zero, addition_from, deletion_of, is_delete_word, step_with, step_of}
use Rattle.cnf_base.specs.Text.{Word}
use Rattle.text_scan.specs.Items.{kept}
use Rattle.text_scan.specs.Capped.{cap, capped, capped_ℤ}
use Rattle.lrat_text.specs.declared.draft.Kind.{Kind}
use Rattle.lrat_text.specs.declared.draft.Kind.TheVariants.{Empty, Begun, Adds, Deletes}
use Rattle.lrat_text.specs.Form.{IsForm}
use Rattle.lrat_text.specs.Numbers.{positive, signed_word, plain_word}
use Rattle.lrat_text.specs.Draft.{DraftLine, draft_with_in, draft_with_number_in, draft_from, draft_of_number}
use Rattle.lrat_text.specs.Draft.{draft_of_word, first_number, unsigned, is_open_kind, judged_in, lrat_form}
use Rattle.lrat_text.proofs.DraftLemmas.{draft_of, draft_of-push, draft_of-open, draft_of-line, judged-is}

-- and isn't cut
capped_small : (number : ℤ) → nat_abs number ≤ cap → capped_ℤ number ≡ number
capped_small (pos n) small = let e : min n cap ≡ n = omega (arith, small) in ap pos e
capped_small (negsuc n) small = let e : min (suc n) cap ≡ suc n = omega (arith, small) in rw e refl

pub signed_word_is : (bytes : List ℕ) (number : ℤ) → signed_number bytes ≡ Some number → nat_abs number ≤ cap → signed_word bytes ≡ Some number
signed_word_is bytes number is small = rw is (ap Some (capped_small number small))

-- the same as a number without a sign
negative_pos : (value : Option ℕ) (n : ℕ) → option_and_then negative value ≡ Some (pos n) → ⊥
negative_pos None n h = cc
negative_pos (Some zero) n h = cc
negative_pos (Some (suc v)) n h = cc

pos_negative : (value : Option ℕ) (n : ℕ) → option_map pos value ≡ Some (negsuc n) → ⊥
pos_negative None n h = cc
pos_negative (Some v) n h = cc

plain_value : (bytes : List ℕ) (number : ℤ) → signed_value bytes ≡ Some number → option_map pos (numeral_value bytes) ≡ unsigned number
plain_value [] number is = cc
plain_value (byte ∷ bytes) (pos n) is = elim (byte == 45) as (λ b. (byte == 45) ≡ b
    → (if b then option_and_then negative (numeral_value bytes) else option_map pos (numeral_value (byte ∷ bytes))) ≡ Some (pos n)
    → option_map pos (numeral_value (byte ∷ bytes)) ≡ Some (pos n)) [
      | true ↦ λ minus h. absurd (negative_pos (numeral_value bytes) n h)
      | false ↦ λ other h. h
    ] refl is
plain_value (byte ∷ bytes) (negsuc n) is = elim (byte == 45) as (λ b. (byte == 45) ≡ b
    → (if b then option_and_then negative (numeral_value bytes) else option_map pos (numeral_value (byte ∷ bytes))) ≡ Some (negsuc n)
    → option_map pos (numeral_value (byte ∷ bytes)) ≡ None) [
      | true ↦ λ minus h. let e : byte ≡ 45 = grind (arith, nat_tests) in rw e refl
      | false ↦ λ other h. absurd (pos_negative (numeral_value (byte ∷ bytes)) n h)
    ] refl is

unsigned_small : (value : Option ℕ) (number : ℤ) → option_map pos value ≡ unsigned number → nat_abs number ≤ cap → option_map positive value
    ≡ unsigned number
unsigned_small None number is small = is
unsigned_small (Some v) (pos n) is small = let e : v ≡ n = cc in let f : min n cap ≡ n = omega (arith, small) in rw (e, f) refl
unsigned_small (Some v) (negsuc n) is small = cc

plain_word_is : (bytes : List ℕ) (number : ℤ) → signed_number bytes ≡ Some number → nat_abs number ≤ cap → plain_word bytes
    ≡ unsigned number
plain_word_is bytes number is small = elim (is_short bytes) as (λ b. is_short bytes ≡ b → (if b then signed_value bytes else None)
    ≡ Some number → option_map positive (if b then numeral_value bytes else None) ≡ unsigned number) [
      | true ↦ λ short h. unsigned_small (numeral_value bytes) number (plain_value bytes number h) small
      | false ↦ λ long h. cc
    ] refl is

-- the same at the front of a line
first_small : (value : Option ℕ) (number : ℤ) → option_map pos value ≡ unsigned number → nat_abs number ≤ cap → option_map capped value
    ≡ first_number number
first_small None (pos n) is small = cc
first_small None (negsuc n) is small = refl
first_small (Some v) (pos n) is small = let e : v ≡ n = cc in let f : min n cap ≡ n = omega (arith, small) in rw (e, f) refl
first_small (Some v) (negsuc n) is small = cc

first_word_is : (bytes : List ℕ) (number : ℤ) → signed_number bytes ≡ Some number → nat_abs number ≤ cap
    → option_map capped (plain_number bytes) ≡ first_number number
first_word_is bytes number is small = elim (is_short bytes) as (λ b. is_short bytes ≡ b → (if b then signed_value bytes else None)
    ≡ Some number → option_map capped (if b then numeral_value bytes else None) ≡ first_number number) [
      | true ↦ λ short h. first_small (numeral_value bytes) number (plain_value bytes number h) small
      | false ↦ λ long h. cc
    ] refl is

number_begins : (word : Word) (number : ℤ) → signed_number word.bytes ≡ Some number → nat_abs number ≤ cap → draft_of_word word
    ≡ draft_of_number word.line number
number_begins word number is small = ap (draft_from word.line) (first_word_is word.bytes number is small)

-- it is no `d`
pub no_deletion : (bytes : List ℕ) (number : ℤ) → signed_number bytes ≡ Some number → is_delete_word bytes ≡ false
no_deletion [] number is = refl
no_deletion (byte ∷ []) number is = elim (byte == 100) as (λ b. (byte == 100) ≡ b → b ≡ false) [
  | true ↦ λ letter. let e : byte ≡ 100 = grind (arith, nat_tests) in let none : signed_number (byte ∷ []) ≡ None = rw e refl in cc
  | false ↦ λ other. refl
] refl
no_deletion (byte ∷ more ∷ bytes) number is = refl

number_taken : (draft : DraftLine) (kind : Kind) (word : Word) (number : ℤ) → signed_number word.bytes ≡ Some number → nat_abs number ≤ cap
    → draft_with_in kind draft word ≡ draft_with_number_in kind draft number
number_taken draft Empty word number is small = refl
number_taken draft Begun word number is small = rw (no_deletion word.bytes number is, signed_word_is word.bytes number is small) refl
number_taken draft Adds word number is small = rw (signed_word_is word.bytes number is small) refl
number_taken draft Deletes word number is small = rw (plain_word_is word.bytes number is small) refl

still_open : (draft : DraftLine) (kind : Kind) (number : ℤ) → is_open_kind kind ≡ true
    → is_open_kind (draft_with_number_in kind draft number).kind ≡ true
still_open draft Empty number begun = cc
still_open draft Begun number begun = refl
still_open draft Adds number begun = refl
still_open draft Deletes number begun = refl

-- what spells a step has numbers
judged_numbers : (id : Option ℕ) (kind : Kind) (numbers : Option (List ℤ))
    → is_some (option_and_then (λ n. option_and_then (judged_in kind n) numbers) id) ≡ true → is_some numbers ≡ true
judged_numbers None kind numbers some = cc
judged_numbers (Some id) kind None some = cc
judged_numbers (Some id) kind (Some numbers) some = refl

-- what is kept of a token says the same as the token
pub record IsKept : Type 0 where
  pub plain : (word : Word) → plain_number (kept word).bytes ≡ plain_number word.bytes
  pub signed : (word : Word) → signed_number (kept word).bytes ≡ signed_number word.bytes
  pub deletion : (word : Word) → is_delete_word (kept word).bytes ≡ is_delete_word word.bytes

same_line : (draft : DraftLine) (kind : Kind) (number : ℤ) → (draft_with_number_in kind draft number).line ≡ draft.line
same_line draft Empty number = refl
same_line draft Begun number = refl
same_line draft Adds number = refl
same_line draft Deletes number = refl

abbrev word_at : ℕ → List ℕ → Word
word_at line bytes = record { bytes = bytes; line = line }

map_kept : {X : Type 0} (f : List ℕ → X) → ((word : Word) → f (kept word).bytes ≡ f word.bytes) → (words : List (List ℕ))
    → map f (map (take 65) words) ≡ map f words
map_kept f same [] = refl
map_kept f same (word ∷ words) = rw (same (word_at 0 word), map_kept f same words) refl

module _ (keeps : IsKept) where
  step_with-kept : (id : ℕ) (words : List (List ℕ)) → step_with id (map (take 65) words) ≡ step_with id words
  step_with-kept id [] = refl
  step_with-kept id (word ∷ words) =
      let signed : map signed_number (map (take 65) (word ∷ words))
      ≡ map signed_number (word ∷ words) = map_kept signed_number keeps.signed (word ∷ words) in
      let plain : map plain_number (map (take 65) words) ≡ map plain_number words = map_kept plain_number keeps.plain words in
      let deletion : is_delete_word (take 65 word) ≡ is_delete_word word = keeps.deletion (word_at 0 word) in
      ap (λ b. if b then option_and_then (λ numbers. option_and_then (deletion_of id) (split_at (λ n. n == 0) numbers))
      (all_given (map plain_number (map (take 65) words)))
      else option_and_then (λ numbers. option_and_then (addition_from id) (split_at is_zero numbers))
      (all_given (map signed_number (map (take 65) (word ∷ words))))) deletion
      ∙ ap (λ ns. if is_delete_word word then option_and_then (λ numbers. option_and_then (deletion_of id) (split_at (λ n. n == 0) numbers))
      (all_given ns)
      else option_and_then (λ numbers. option_and_then (addition_from id) (split_at is_zero numbers))
      (all_given (map signed_number (map (take 65) (word ∷ words))))) plain
      ∙ ap (λ ns. if is_delete_word word then option_and_then (λ numbers. option_and_then (deletion_of id) (split_at (λ n. n == 0) numbers))
      (all_given (map plain_number words))
      else option_and_then (λ numbers. option_and_then (addition_from id) (split_at is_zero numbers)) (all_given ns)) signed

  step_of-kept : (words : List (List ℕ)) → step_of (map (take 65) words) ≡ step_of words
  step_of-kept [] = refl
  step_of-kept (word ∷ words) =
      let plain : plain_number (take 65 word) ≡ plain_number word = keeps.plain (word_at 0 word) in
      ap (option_and_then (λ id. step_with id (map (take 65) words))) plain
      ∙ elim (plain_number word) as (λ (n : Option ℕ). option_and_then (λ id. step_with id (map (take 65) words)) n
      ≡ option_and_then (λ id. step_with id words) n) [ None ↦ refl | Some id ↦ step_with-kept id words ]

  pub lrat_law : IsForm lrat_form
  lrat_law = record {
    draft_of = λ line first words. draft_of line (first ∷ words);
    first_word = λ line first. refl;
    one_more = draft_of-push;
    begun = draft_of-open;
    on_line = draft_of-line;
    spelled = judged-is;
    kept = step_of-kept;
    numbers = λ draft. judged_numbers draft.id draft.kind draft.numbers;
    none_begun = refl;
    first_number = number_begins;
    later_number = λ draft. number_taken draft draft.kind;
    stays_begun = λ draft. still_open draft draft.kind;
    stays_on_line = λ draft. same_line draft draft.kind;
  }
