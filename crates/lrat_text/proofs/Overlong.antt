-- A text beyond the limit gives the first of its lines: those that end under the limit.
use Rattle.std.proofs.Common.{◌≡◌, ℕ, suc, ◌+◌, ◌<◌, ◌≤◌, Bool, true, false, cond, ◌||◌, List, [], ◌∷◌, ◌++◌, length, map, take, drop, refl}
use Rattle.std.proofs.Common.{sym, ap, ◌∙◌, inl, inr, arith, append_assoc, append-nil, ◌==◌}
use Rattle.std.specs.Prelude.{nat_le, nat_lt, if◌then◌else◌}
use Rattle.std.specs.List.{list_any, flat_map, filter}
use Rattle.std.proofs.lemmas.Bool.{cond-true, cond-false, cases_Bool, or_parts, or_left, or_right, lt-ltb}
use Rattle.std.proofs.lemmas.Bool.Decides.{nat_tests}
use Rattle.std.proofs.lemmas.List.{take-append-drop}
use Rattle.std.proofs.lemmas.List.Elements.{filter-append}
use Rattle.std.proofs.lemmas.List.Sums.{sum_by-cons}
use Rattle.cnf_base.specs.Text.{is_line_end, is_blank, begin_with, begins_with, pieces, Row, rows, rows_from, row_of, words_of, words_of_row}
use Rattle.cnf_base.specs.Text.{line_ends, end_line, tokens}
use Rattle.text_scan.specs.Items.{the_end, too_long, words_then, kept, ended_part}
use Rattle.lrat_text.specs.LineSteps.{Spelling, no_more as at_the_end, overlong, rows_then, steps_of, steps_by, is_before, rows_within}
use Rattle.lrat_text.specs.LineSteps.{AreFirst}
use Rattle.lrat_text.proofs.Lines.{at_end, at_limit, joined, lines_closed}

-- The lines of a text that end in it. Its tokens with a byte behind them are those of these lines and of one more.
record IsCut (text : List ℕ) : Type 0 where
  pub texts : List (List ℕ)
  pub tail : List ℕ
  pub count : length texts ≡ line_ends text
  pub ended : pieces is_line_end (ended_part text) ≡ texts ++ tail ∷ []
  pub longer : (more : List ℕ) → (rest : List (List ℕ)) × (pieces is_line_end (text ++ more) ≡ texts ++ rest)

ends_count : (byte : ℕ) (bytes : List ℕ) (is : Bool) → is_line_end byte ≡ is → line_ends (byte ∷ bytes) ≡ cond is 1 0 + line_ends bytes
ends_count byte bytes is e = sum_by-cons (λ x. cond (is_line_end x) 1 0) byte bytes ∙ ap (λ (b : Bool). cond b 1 0 + line_ends bytes) e

one_more : (byte : ℕ) (bytes : List ℕ) → is_line_end byte ≡ true → line_ends (byte ∷ bytes) ≡ 1 + line_ends bytes
one_more byte bytes e = ends_count byte bytes true e

no_more : (byte : ℕ) (bytes : List ℕ) → is_line_end byte ≡ false → line_ends (byte ∷ bytes) ≡ line_ends bytes
no_more byte bytes e = let count : line_ends (byte ∷ bytes) ≡ 0 + line_ends bytes = ends_count byte bytes false e in omega (arith, count)

blank_end : (byte : ℕ) → is_line_end byte ≡ true → is_blank byte ≡ true
blank_end byte e = or_right (byte == 32 || byte == 9 || byte == 13) (is_line_end byte) e

no_end : (byte : ℕ) → is_blank byte ≡ false → is_line_end byte ≡ false
no_end byte e = (or_parts (byte == 32 || byte == 9 || byte == 13) (is_line_end byte) e).1

no_line_ends : (bytes : List ℕ) → list_any is_blank bytes ≡ false → line_ends bytes ≡ 0
no_line_ends [] e = refl
no_line_ends (byte ∷ bytes) e =
    let parts = or_parts (is_blank byte) _ e in
    no_more byte bytes (no_end byte parts.0) ∙ no_line_ends bytes parts.1

ended_part-more : (byte : ℕ) (bytes : List ℕ) → list_any is_blank (byte ∷ bytes) ≡ true → ended_part (byte ∷ bytes) ≡ byte
    ∷ ended_part bytes
ended_part-more byte bytes e = cond-true (list_any is_blank (byte ∷ bytes)) _ _ e

ended_part-none : (byte : ℕ) (bytes : List ℕ) → list_any is_blank (byte ∷ bytes) ≡ false → ended_part (byte ∷ bytes) ≡ []
ended_part-none byte bytes e = cond-false (list_any is_blank (byte ∷ bytes)) _ _ e

pieces-end : (byte : ℕ) (bytes : List ℕ) → is_line_end byte ≡ true → pieces is_line_end (byte ∷ bytes) ≡ [] ∷ pieces is_line_end bytes
pieces-end byte bytes e = cond-true (is_line_end byte) _ _ e

pieces-other : (byte : ℕ) (bytes : List ℕ) → is_line_end byte ≡ false → pieces is_line_end (byte ∷ bytes)
    ≡ begin_with byte (pieces is_line_end bytes)
pieces-other byte bytes e = cond-false (is_line_end byte) _ _ e

-- a line end before a text
after_end : (byte : ℕ) (bytes : List ℕ) → is_line_end byte ≡ true → IsCut bytes → IsCut (byte ∷ bytes)
after_end byte bytes e c = record {
  texts = [] ∷ c.texts;
  tail = c.tail;
  count = omega (arith, c.count, one_more byte bytes e);
  ended = ap (pieces is_line_end) (ended_part-more byte bytes (or_left (is_blank byte) _ (blank_end byte e)))
      ∙ pieces-end byte (ended_part bytes) e ∙ ap (λ (l : List (List ℕ)). [] ∷ l) c.ended;
  longer = λ more. let later = c.longer more in (later.0, pieces-end byte (bytes ++ more) e ∙ ap (λ (l : List (List ℕ)). [] ∷ l) later.1);
}

-- another byte before it, with a blank behind it or at it
before_blank : (byte : ℕ) (bytes : List ℕ) → is_line_end byte ≡ false → list_any is_blank (byte ∷ bytes) ≡ true
    → (texts : List (List ℕ)) (tail : List ℕ) → length texts ≡ line_ends bytes
    → pieces is_line_end (ended_part bytes) ≡ texts ++ tail ∷ []
    → ((more : List ℕ) → (rest : List (List ℕ)) × (pieces is_line_end (bytes ++ more) ≡ texts ++ rest)) → IsCut (byte ∷ bytes)
before_blank byte bytes e blank [] tail count ended longer = record {
  texts = [];
  tail = byte ∷ tail;
  count = omega (arith, count, no_more byte bytes e);
  ended = ap (pieces is_line_end) (ended_part-more byte bytes blank) ∙ pieces-other byte (ended_part bytes) e ∙ ap (begin_with byte) ended;
  longer = λ more. let later = longer more in (begin_with byte later.0, pieces-other byte (bytes ++ more) e ∙ ap (begin_with byte) later.1);
}
before_blank byte bytes e blank (text ∷ texts) tail count ended longer = record {
  texts = (byte ∷ text) ∷ texts;
  tail = tail;
  count = omega (arith, count, no_more byte bytes e);
  ended = ap (pieces is_line_end) (ended_part-more byte bytes blank) ∙ pieces-other byte (ended_part bytes) e ∙ ap (begin_with byte) ended;
  longer = λ more. let later = longer more in (later.0, pieces-other byte (bytes ++ more) e ∙ ap (begin_with byte) later.1);
}

-- the begin of a token that the text doesn't end
in_token : (byte : ℕ) (bytes : List ℕ) → is_line_end byte ≡ false → list_any is_blank (byte ∷ bytes) ≡ false → (texts : List (List ℕ))
    → length texts ≡ line_ends bytes
    → ((more : List ℕ) → (rest : List (List ℕ)) × (pieces is_line_end (bytes ++ more) ≡ texts ++ rest)) → IsCut (byte ∷ bytes)
in_token byte bytes e unblank [] count longer = record {
  texts = [];
  tail = [];
  count = omega (arith, count, no_more byte bytes e);
  ended = ap (pieces is_line_end) (ended_part-none byte bytes unblank);
  longer = λ more. let later = longer more in (begin_with byte later.0, pieces-other byte (bytes ++ more) e ∙ ap (begin_with byte) later.1);
}
in_token byte bytes e unblank (text ∷ texts) count longer =
    let none : line_ends bytes ≡ 0 = no_line_ends bytes (or_parts (is_blank byte) _ unblank).1 in
    absurd (some_none (count ∙ none)) where
      some_none : suc (length texts) ≡ 0 → ⊥
      some_none e = cc

cut : (text : List ℕ) → IsCut text
cut [] = record { texts = []; tail = []; count = refl; ended = refl; longer = λ more. (pieces is_line_end more, refl) }
cut (byte ∷ bytes) =
    let c : IsCut bytes = cut bytes in
    elim (cases_Bool (is_line_end byte)) [
      | inl e ↦ after_end byte bytes e c
      | inr e ↦ elim (cases_Bool (list_any is_blank (byte ∷ bytes))) [
        | inl blank ↦ before_blank byte bytes e blank c.texts c.tail c.count c.ended c.longer
        | inr unblank ↦ in_token byte bytes e unblank c.texts c.count c.longer
      ]
    ]

rows_append : (line : ℕ) (texts more : List (List ℕ)) → rows_from 99 line (texts ++ more) ≡ rows_from 99 line texts
    ++ rows_from 99 (line + length texts) more
rows_append line [] more = ap (λ (n : ℕ). rows_from 99 n more) (omega arith)
rows_append line (text ∷ texts) more =
    ap (λ (l : List _). row_of 99 line (words_of text) ++ l) (rows_append (line + 1) texts more)
    ∙ ap (λ (n : ℕ). row_of 99 line (words_of text) ++ (rows_from 99 (line + 1) texts ++ rows_from 99 n more)) (omega arith)
    ∙ sym (append_assoc (row_of 99 line (words_of text)) (rows_from 99 (line + 1) texts) (rows_from 99 (line + length (text ∷ texts)) more))

-- Lines before the line `e`, and lines from it on.
module _ (e : ℕ) where
  abbrev row_at : ℕ → List (List ℕ) → Row
  row_at n words = record { line = n; words = words }

  abbrev rows_behind : ℕ → Bool → List (List ℕ) → List (List ℕ) → List Row
  rows_behind n comment words texts = (if comment then [] else row_at n words ∷ []) ++ rows_from 99 (n + 1) texts

  not_before : (n : ℕ) → e ≤ n → nat_lt n e ≡ false
  not_before n at = grind (arith, nat_tests)

  all_before : (n : ℕ) (texts : List (List ℕ)) → n + length texts ≤ e → filter (is_before e) (rows_from 99 n texts) ≡ rows_from 99 n texts
  all_before n [] at = refl
  all_before n (text ∷ texts) at =
      elim (words_of text) as (λ (words : List (List ℕ)). filter (is_before e) (row_of 99 n words ++ rows_from 99 (n + 1) texts)
      ≡ row_of 99 n words ++ rows_from 99 (n + 1) texts) [
        | [] ↦ all_before (n + 1) texts (omega (arith, at))
        | word ∷ words ↦ elim (begins_with 99 word) as (λ b. filter (is_before e) (rows_behind n b (word ∷ words) texts)
            ≡ rows_behind n b (word ∷ words) texts) [
              | true ↦ all_before (n + 1) texts (omega (arith, at))
              | false ↦ rw (lt-ltb n e (omega (arith, at))) (ap (λ (l : List Row). row_at n (word ∷ words) ∷ l)
                  (all_before (n + 1) texts (omega (arith, at))))
            ]
      ]

  none_before : (n : ℕ) (texts : List (List ℕ)) → e ≤ n → filter (is_before e) (rows_from 99 n texts) ≡ []
  none_before n [] at = refl
  none_before n (text ∷ texts) at =
      elim (words_of text) as (λ (words : List (List ℕ)). filter (is_before e) (row_of 99 n words ++ rows_from 99 (n + 1) texts) ≡ []) [
        | [] ↦ none_before (n + 1) texts (omega (arith, at))
        | word ∷ words ↦ elim (begins_with 99 word) as (λ b. filter (is_before e) (rows_behind n b (word ∷ words) texts) ≡ []) [
          | true ↦ none_before (n + 1) texts (omega (arith, at))
          | false ↦ rw (not_before n at) (none_before (n + 1) texts (omega (arith, at)))
        ]
      ]

module _ (limit : ℕ) (bytes : List ℕ) where
  abbrev text : List ℕ
  text = take limit bytes

  abbrev e : ℕ
  e = end_line text

  c : IsCut text
  c = cut text

  later : (rest : List (List ℕ)) × (pieces is_line_end (text ++ drop limit bytes) ≡ c.texts ++ rest)
  later = c.longer (drop limit bytes)

  at : 1 + length c.texts ≡ e
  at = omega (arith, c.count)

  abbrev before : List Row
  before = rows_from 99 1 c.texts

  abbrev behind : List Row
  behind = rows_from 99 (1 + length c.texts) later.0

  parts : rows 99 bytes ≡ before ++ behind
  parts =
      ap (λ (b : List ℕ). rows_from 99 1 (pieces is_line_end b)) (sym (take-append-drop limit bytes))
      ∙ ap (rows_from 99 1) later.1
      ∙ rows_append 1 c.texts later.0

  rows_are : rows_within limit bytes ≡ before
  rows_are =
      ap (filter (is_before e)) parts
      ∙ filter-append (is_before e) before behind
      ∙ ap (λ (l : List Row). l ++ filter (is_before e) behind) (all_before e 1 c.texts (omega (arith, at)))
      ∙ ap (λ (l : List Row). before ++ l) (none_before e (1 + length c.texts) later.0 (omega (arith, at)))
      ∙ append-nil before

  pub first : AreFirst (rows_within limit bytes) (rows 99 bytes)
  first = record { rest = behind; parts = parts ∙ ap (λ (l : List Row). l ++ behind) (sym rows_are) }

module _ {Step : Type 0} (step_of : Spelling Step) (keeps : (words : List (List ℕ)) → step_of (map (take 65) words) ≡ step_of words)
    (limit : ℕ) (bytes : List ℕ) where
  pub within : limit < length bytes → steps_by step_of limit bytes ≡ rows_then step_of (rows_within limit bytes) overlong
  within long =
      let beyond : nat_le (length bytes) limit ≡ false = grind (arith, nat_tests) in
      let cut_text : IsCut (take limit bytes) = c limit bytes in
      let last : ℕ = end_line (take limit bytes) in
      let on : 1 + length cut_text.texts ≡ last = omega (arith, cut_text.count) in
      ap (λ (b : Bool). steps_of step_of (if b then words_then (map kept (tokens 99 bytes)) (the_end (end_line bytes)) else words_then
      (map kept (tokens 99 (ended_part (take limit bytes)))) (too_long last))) beyond
      ∙ ap (λ (texts : List (List ℕ)). steps_of step_of (words_then (map kept (flat_map words_of_row (rows_from 99 1 texts))) (too_long last)))
      cut_text.ended
      ∙ ap (steps_of step_of) (joined last cut_text.texts (cut_text.tail ∷ []) 1 (too_long last) on)
      ∙ lines_closed step_of keeps last (words_then (map kept (flat_map words_of_row (rows_from 99 last (cut_text.tail ∷ []))))
      (too_long last)) overlong
      (at_limit step_of keeps last cut_text.tail) cut_text.texts 1 on
      ∙ ap (λ (l : List Row). rows_then step_of l overlong) (sym (rows_are limit bytes))

  pub whole : length bytes ≤ limit → steps_by step_of limit bytes ≡ rows_then step_of (rows 99 bytes) (at_the_end (end_line bytes))
  whole fits =
      let e : nat_le (length bytes) limit ≡ true = grind (arith, nat_tests) in
      rw e (lines_closed step_of keeps (1 + length (pieces is_line_end bytes)) (the_end (end_line bytes)) (at_the_end (end_line bytes))
      (at_end step_of keeps (1 + length (pieces is_line_end bytes)) (end_line bytes)) (pieces is_line_end bytes) 1 refl)
