-- Numbers in turn behind the tokens of a line.
use Rattle.std.proofs.Common.{◌≡◌, ℕ, ◌+◌, ◌-◌, ◌<◌, ◌≤◌, true, false, ◌||◌, ℤ, take, drop, length-take, length-append, pos, negsuc, List, [], ◌∷◌, ◌++◌, length, Option, None, Some, refl, sym}
use Rattle.std.proofs.Common.{◌∙◌, ap, arith, append_assoc, append-nil, true≢false}
use Rattle.std.proofs.Common.{if◌then◌else◌}
use Rattle.std.proofs.lemmas.List.{take-append-le, take_all}
use Rattle.std.proofs.Math.Seq.{take-append-add, drop-append_seam}
use Rattle.std.proofs.lemmas.Bool.Decides.{nat_tests}
use Rattle.std.specs.Int.{is_negative}
use Rattle.std.specs.List.{list_any}
use Rattle.lrat_text.specs.declared.draft.Kind.{Kind}
use Rattle.lrat_text.specs.declared.draft.Kind.TheVariants.{Empty, Begun, Adds, Deletes}
use Rattle.lrat_text.specs.Form.{with_numbers}
use Rattle.lrat_text.specs.Draft.{DraftLine, lrat_form, is_adding}

abbrev pub line_with : ℕ → Kind → Option ℕ → Option (List ℤ) → DraftLine
line_with line kind id numbers = record { line = line; kind = kind; id = id; numbers = numbers }

-- of a line with a token that is no number nothing is kept
pub none_deleted : (numbers : List ℤ) (line : ℕ) (id : Option ℕ) → with_numbers lrat_form (line_with line Deletes id None) numbers
    ≡ line_with line Deletes id None
none_deleted [] line id = refl
none_deleted (number ∷ numbers) line id = none_deleted numbers line id

pub added : (numbers : List ℤ) (line : ℕ) (id : Option ℕ) (own : List ℤ)
    → with_numbers lrat_form (line_with line Adds id (Some own)) numbers
    ≡ line_with line Adds id (Some (own ++ numbers))
added [] line id own = ap (λ l. line_with line Adds id (Some l)) (sym (append-nil own))
added (number ∷ numbers) line id own = added numbers line id (own ++ number ∷ [])
    ∙ ap (λ l. line_with line Adds id (Some l)) (append_assoc own (number ∷ []) numbers)

not_negative : (n : ℕ) → is_negative (pos n) ≡ false
not_negative n = grind (arith, nat_tests)

others : (n : ℕ) (numbers : List ℤ) → list_any is_negative (pos n ∷ numbers) ≡ list_any is_negative numbers
others n numbers = ap (λ b. b || list_any is_negative numbers) (not_negative n)

pub deleted : (numbers : List ℤ) (line : ℕ) (id : Option ℕ) (own : List ℤ) → list_any is_negative numbers ≡ false
    → with_numbers lrat_form (line_with line Deletes id (Some own)) numbers ≡ line_with line Deletes id (Some (own ++ numbers))
deleted [] line id own none = ap (λ l. line_with line Deletes id (Some l)) (sym (append-nil own))
deleted (pos n ∷ numbers) line id own none = deleted numbers line id (own ++ pos n ∷ []) (sym (others n numbers) ∙ none)
    ∙ ap (λ l. line_with line Deletes id (Some l)) (append_assoc own (pos n ∷ []) numbers)
deleted (negsuc n ∷ numbers) line id own none = absurd (true≢false none)

pub deletion_broken : (numbers : List ℤ) (line : ℕ) (id : Option ℕ) (own : List ℤ) → list_any is_negative numbers ≡ true
    → with_numbers lrat_form (line_with line Deletes id (Some own)) numbers ≡ line_with line Deletes id None
deletion_broken [] line id own some = absurd (true≢false (sym some))
deletion_broken (pos n ∷ numbers) line id own some = deletion_broken numbers line id (own ++ pos n ∷ []) (sym (others n numbers) ∙ some)
deletion_broken (negsuc n ∷ numbers) line id own some = none_deleted numbers line id

-- the first number behind the first token makes it an addition
pub begun : (numbers : List ℤ) (line : ℕ) (id : Option ℕ) (own : Option (List ℤ)) → 0 < length numbers
    → with_numbers lrat_form (line_with line Begun id own) numbers ≡ with_numbers lrat_form (line_with line Adds id own) numbers
begun [] line id own some = absurd (omega (arith, some))
begun (number ∷ numbers) line id own some = refl

-- numbers behind those of a line that is an addition, or becomes one with them
pub adds_more : (kind : Kind) (line : ℕ) (id : Option ℕ) (own numbers : List ℤ) → is_adding kind ≡ true → 0 < length numbers
    → with_numbers lrat_form (line_with line kind id (Some own)) numbers ≡ line_with line Adds id (Some (own ++ numbers))
adds_more Empty line id own numbers adding some = absurd (true≢false (sym adding))
adds_more Begun line id own numbers adding some = begun numbers line id (Some own) some ∙ added numbers line id own
adds_more Adds line id own numbers adding some = added numbers line id own
adds_more Deletes line id own numbers adding some = absurd (true≢false (sym adding))

-- numbers behind those of a deletion
pub deletes_more : (numbers : List ℤ) (line : ℕ) (id : Option ℕ) (own : List ℤ)
    → with_numbers lrat_form (line_with line Deletes id (Some own)) numbers
    ≡ line_with line Deletes id (if list_any is_negative numbers then None else Some (own ++ numbers))
deletes_more numbers line id own =
    elim (list_any is_negative numbers) as (λ b. list_any is_negative numbers ≡ b
    → with_numbers lrat_form (line_with line Deletes id (Some own)) numbers
    ≡ line_with line Deletes id (if b then None else Some (own ++ numbers))) [
      | true ↦ λ some. deletion_broken numbers line id own some
      | false ↦ λ none. deleted numbers line id own none
    ] refl

-- what stands behind the numbers that there were
pub behind : (own numbers : List ℤ) → take (length (own ++ numbers) - length own) (drop (length own) (own ++ numbers)) ≡ numbers
behind own numbers =
    let size : length (own ++ numbers) - length own ≡ length numbers = omega (arith, length-append own numbers) in
    rw size (ap (take (length numbers)) (drop-append_seam own numbers) ∙ take_all (length numbers) numbers (omega arith))

-- numbers that are put into places behind some
pub put_behind : (count more : ℕ) (places put rest : List ℤ) → count ≤ length places → more ≤ length put
    → take (count + more) (take count places ++ (put ++ rest)) ≡ take count places ++ take more put
put_behind count more places put rest within fits =
    let size : length (take count places) ≡ count = length-take count places ∙ omega (arith, within) in
    ap (λ n. take (n + more) (take count places ++ (put ++ rest))) (sym size)
    ∙ take-append-add (take count places) (put ++ rest) more
    ∙ ap (λ l. take count places ++ l) (take-append-le more put rest fits)
