-- The steps of a text are those of its lines, whatever ends them.
use Rattle.std.proofs.Common.{◌≡◌, ℕ, ◌+◌, ◌<◌, true, false, List, [], ◌∷◌, ◌++◌, map, take, length}
use Rattle.std.proofs.Common.{◌==◌, if◌then◌else◌, refl, sym, ◌∙◌, ap, arith, append_assoc, append-nil}
use Rattle.std.specs.Prelude.{nat_lt}
use Rattle.std.proofs.lemmas.Bool.{lt-ltb}
use Rattle.std.proofs.lemmas.Bool.Decides.{nat_tests}
use Rattle.std.specs.List.{flat_map}
use Rattle.cnf_base.specs.Text.{Word, Row, words_of, begins_with, row_of, rows_from, words_of_row}
use Rattle.text_scan.specs.Items.{Items, the_end, too_long, next_word, words_then, kept}
use Rattle.lrat_text.specs.LineSteps.{Spelling, StepsOf, no_more, overlong, step_then, row_then, rows_then, steps_after, steps_of}
use Rattle.lrat_text.proofs.Settled.{same_choice}

abbrev word_at : ℕ → List ℕ → Word
word_at line bytes = record { bytes = bytes; line = line }

abbrev pub words_from : ℕ → List (List ℕ) → List Word
words_from n texts = flat_map words_of_row (rows_from 99 n texts)

-- What stands behind the lines under this one: a line that isn't ended before is given, and then these steps.
pub record IsEnding {Step : Type 0} (step_of : Spelling Step) (e : ℕ) (items : Items) (steps : StepsOf Step) : Type 0 where
  pub after_line : (line : ℕ) (first : List ℕ) (words : List (List ℕ)) → line < e
      → steps_after step_of items (record { line = line; words = first ∷ words })
      ≡ row_then step_of (record { line = line; words = first ∷ words }) steps
  pub alone : steps_of step_of items ≡ steps

module _ {Step : Type 0} (step_of : Spelling Step) (keeps : (words : List (List ℕ)) → step_of (map (take 65) words) ≡ step_of words) where
  same_line : (n : ℕ) → (n == n) ≡ true
  same_line n = grind (arith, nat_tests)

  other_line : (line n : ℕ) → line < n → (line == n) ≡ false
  other_line line n below = grind (arith, nat_tests)

  -- the tokens of a line are taken
  line_taken : (line : ℕ) (first : List ℕ) (before words : List (List ℕ)) (more : List Word) (last : Items) →
      steps_after step_of (words_then (map kept (map (word_at line) words ++ more)) last) (record { line = line; words = first ∷ before })
      ≡ steps_after step_of (words_then (map kept more) last) (record { line = line; words = first ∷ (before ++ map (take 65) words) })
  line_taken line first before [] more last = rw (append-nil before) refl
  line_taken line first before (word ∷ words) more last =
      rw (same_line line) (line_taken line first (before ++ take 65 word ∷ []) words more last
      ∙ ap (λ (l : List (List ℕ)). steps_after step_of (words_then (map kept more) last) (record { line = line; words = first ∷ l }))
      (append_assoc before (take 65 word ∷ []) (map (take 65) words)))

  abbrev lines_from : ℕ → List (List ℕ) → StepsOf Step → StepsOf Step
  lines_from n texts last = rows_then step_of (rows_from 99 n texts) last

  -- a line with tokens, then the lines behind it
  whole_line : (items : Items) (steps : StepsOf Step) (n : ℕ) (first : List ℕ) (words : List (List ℕ)) (texts : List (List ℕ))
      → (steps_after step_of (words_then (map kept (words_from (n + 1) texts)) items)
      (record { line = n; words = take 65 first ∷ map (take 65) words })
      ≡ row_then step_of (record { line = n; words = take 65 first ∷ map (take 65) words }) (lines_from (n + 1) texts steps))
      → steps_after step_of (words_then (map kept (map (word_at n) words ++ words_from (n + 1) texts)) items)
      (record { line = n; words = take 65 first ∷ [] })
      ≡ step_then (step_of (first ∷ words)) n (lines_from (n + 1) texts steps)
  whole_line items steps n first words texts behind =
      line_taken n (take 65 first) [] words (words_from (n + 1) texts) items
      ∙ behind
      ∙ ap (λ s. step_then s n (lines_from (n + 1) texts steps)) (keeps (first ∷ words))

  lines_open : (e : ℕ) (items : Items) (steps : StepsOf Step) → IsEnding step_of e items steps
      → (texts : List (List ℕ)) (line n : ℕ) (first : List ℕ) (words : List (List ℕ)) → n + length texts ≡ e → line < n →
      steps_after step_of (words_then (map kept (words_from n texts)) items) (record { line = line; words = first ∷ words })
      ≡ row_then step_of (record { line = line; words = first ∷ words }) (lines_from n texts steps)
  lines_open e items steps ending [] line n first words at below = ending.after_line line first words (omega (arith, at, below))
  lines_open e items steps ending (text ∷ texts) line n first words at below =
      elim (words_of text) as (λ (tokens : List (List ℕ)). steps_after step_of
      (words_then (map kept (flat_map words_of_row (row_of 99 n tokens ++ rows_from 99 (n + 1) texts))) items)
      (record { line = line; words = first ∷ words })
      ≡ step_then (step_of (first ∷ words)) line (rows_then step_of (row_of 99 n tokens ++ rows_from 99 (n + 1) texts) steps)) [
        | [] ↦ lines_open e items steps ending texts line (n + 1) first words (omega (arith, at)) (omega (arith, below))
        | token ∷ tokens ↦ elim (begins_with 99 token) as (λ b. steps_after step_of
            (words_then (map kept (flat_map words_of_row ((if b then [] else record { line = n; words = token ∷ tokens } ∷ [])
            ++ rows_from 99 (n + 1) texts))) items) (record { line = line; words = first ∷ words })
            ≡ step_then (step_of (first ∷ words)) line (rows_then step_of
            ((if b then [] else record { line = n; words = token ∷ tokens } ∷ []) ++ rows_from 99 (n + 1) texts) steps)) [
              | true ↦ lines_open e items steps ending texts line (n + 1) first words (omega (arith, at)) (omega (arith, below))
              | false ↦ rw (other_line line n below) (ap (step_then (step_of (first ∷ words)) line)
                  (whole_line items steps n token tokens texts (lines_open e items steps ending texts n (n
                  + 1) (take 65 token) (map (take 65) tokens) (omega (arith, at)) (omega arith))))
            ]
      ]

  pub lines_closed : (e : ℕ) (items : Items) (steps : StepsOf Step) → IsEnding step_of e items steps → (texts : List (List ℕ)) (n : ℕ) → n + length texts
      ≡ e
      → steps_of step_of (words_then (map kept (words_from n texts)) items) ≡ lines_from n texts steps
  lines_closed e items steps ending [] n at = ending.alone
  lines_closed e items steps ending (text ∷ texts) n at =
      elim (words_of text) as (λ (tokens : List (List ℕ)). steps_of step_of
      (words_then (map kept (flat_map words_of_row (row_of 99 n tokens ++ rows_from 99 (n + 1) texts))) items)
      ≡ rows_then step_of (row_of 99 n tokens ++ rows_from 99 (n + 1) texts) steps) [
        | [] ↦ lines_closed e items steps ending texts (n + 1) (omega (arith, at))
        | token ∷ tokens ↦ elim (begins_with 99 token) as (λ b. steps_of step_of
            (words_then (map kept (flat_map words_of_row ((if b then [] else record { line = n; words = token ∷ tokens } ∷ [])
            ++ rows_from 99 (n + 1) texts))) items)
            ≡ rows_then step_of ((if b then [] else record { line = n; words = token ∷ tokens } ∷ [])
            ++ rows_from 99 (n + 1) texts) steps) [
              | true ↦ lines_closed e items steps ending texts (n + 1) (omega (arith, at))
              | false ↦ whole_line items steps n token tokens texts
                  (lines_open e items steps ending texts n (n + 1) (take 65 token) (map (take 65) tokens) (omega (arith, at)) (omega arith))
            ]
      ]

  -- the end of a text gives the line before it
  pub at_end : (e end : ℕ) → IsEnding step_of e (the_end end) (no_more end)
  at_end e end = record { after_line = λ line first words below. refl; alone = refl }

  not_under : (n : ℕ) → nat_lt n n ≡ false
  not_under n = grind (arith, nat_tests)

  -- a line that is cut by the limit isn't given
  cut_line : (e : ℕ) (first : List ℕ) (words : List (List ℕ)) → steps_after step_of
      (words_then (map kept (map (word_at e) words ++ [])) (too_long e)) (record { line = e; words = take 65 first ∷ [] }) ≡ overlong
  cut_line e first words = line_taken e (take 65 first) [] words [] (too_long e) ∙ rw (not_under e) refl

  -- the limit gives the line before the one that it cuts
  pub at_limit : (e : ℕ) (tail : List ℕ) → IsEnding step_of e (words_then (map kept (words_from e (tail ∷ []))) (too_long e)) overlong
  at_limit e tail = record { after_line = before; alone = alone } where
    before : (line : ℕ) (first : List ℕ) (words : List (List ℕ)) → line < e
        → steps_after step_of (words_then (map kept (words_from e (tail ∷ []))) (too_long e)) (record { line = line; words = first ∷ words })
        ≡ step_then (step_of (first ∷ words)) line overlong
    before line first words below =
        elim (words_of tail) as (λ (tokens : List (List ℕ)). steps_after step_of
        (words_then (map kept (flat_map words_of_row (row_of 99 e tokens ++ []))) (too_long e))
        (record { line = line; words = first ∷ words }) ≡ step_then (step_of (first ∷ words)) line overlong) [
          | [] ↦ rw (lt-ltb line e below) refl
          | token ∷ tokens ↦ elim (begins_with 99 token) as (λ b. steps_after step_of
              (words_then (map kept (flat_map words_of_row ((if b then [] else record { line = e; words = token ∷ tokens } ∷ []) ++ [])))
              (too_long e)) (record { line = line; words = first ∷ words })
              ≡ step_then (step_of (first ∷ words)) line overlong) [
                | true ↦ rw (lt-ltb line e below) refl
                | false ↦ rw (other_line line e below) (ap (step_then (step_of (first ∷ words)) line) (cut_line e token tokens))
              ]
        ]

    alone : steps_of step_of (words_then (map kept (words_from e (tail ∷ []))) (too_long e)) ≡ overlong
    alone =
        elim (words_of tail) as (λ (tokens : List (List ℕ)). steps_of step_of
        (words_then (map kept (flat_map words_of_row (row_of 99 e tokens ++ []))) (too_long e)) ≡ overlong) [
          | [] ↦ same_choice (nat_lt 0 e) overlong
          | token ∷ tokens ↦ elim (begins_with 99 token) as (λ b. steps_of step_of
              (words_then (map kept (flat_map words_of_row ((if b then [] else record { line = e; words = token ∷ tokens } ∷ []) ++ [])))
              (too_long e)) ≡ overlong) [
                | true ↦ same_choice (nat_lt 0 e) overlong
                | false ↦ cut_line e token tokens
              ]
        ]

words_then-append : (ws vs : List Word) (last : Items) → words_then (map kept (ws ++ vs)) last
    ≡ words_then (map kept ws) (words_then (map kept vs) last)
words_then-append [] vs last = refl
words_then-append (w ∷ ws) vs last = ap (λ (i : Items). next_word (kept w) i) (words_then-append ws vs last)

-- what is the same behind some lines is the same with them
behind_rows : (rows more others : List Row) (last rest : Items) → words_then (map kept (flat_map words_of_row more)) last
    ≡ words_then (map kept (flat_map words_of_row others)) rest
    → words_then (map kept (flat_map words_of_row (rows ++ more))) last
    ≡ words_then (map kept (flat_map words_of_row (rows ++ others))) rest
behind_rows [] more others last rest same = same
behind_rows (row ∷ rows) more others last rest same =
    words_then-append (words_of_row row) (flat_map words_of_row (rows ++ more)) last
    ∙ ap (words_then (map kept (words_of_row row))) (behind_rows rows more others last rest same)
    ∙ sym (words_then-append (words_of_row row) (flat_map words_of_row (rows ++ others)) rest)

-- the tokens of lines, and then those of others
pub joined : (e : ℕ) (texts tail : List (List ℕ)) (n : ℕ) (last : Items) → n + length texts ≡ e
    → words_then (map kept (words_from n (texts ++ tail))) last
    ≡ words_then (map kept (words_from n texts)) (words_then (map kept (words_from e tail)) last)
joined e [] tail n last at = ap (λ (m : ℕ). words_then (map kept (words_from m tail)) last) (omega (arith, at))
joined e (text ∷ texts) tail n last at =
    behind_rows (row_of 99 n (words_of text)) (rows_from 99 (n + 1) (texts ++ tail)) (rows_from 99 (n + 1) texts) last
    (words_then (map kept (words_from e tail)) last) (joined e texts tail (n + 1) last (omega (arith, at)))
