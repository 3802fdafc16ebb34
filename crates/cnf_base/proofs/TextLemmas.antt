-- The pieces, lines and tokens of a text, and of a text that grows by a line.
use Rattle.std.proofs.Common.{◌≡◌, ℕ, suc, ◌+◌, ◌<◌, Bool, true, false, cond, not, ◌&&◌, ◌⊎◌, List, [], ◌∷◌, ◌++◌, length, filter, count_by}
use Rattle.std.proofs.Common.{refl, ap, sym, subst, ◌∙◌, inl, inr, ⊎_elim, append_assoc, append-nil, arith}
use Rattle.std.specs.List.{list_all, join_with_byte}
use Rattle.std.proofs.lemmas.Bool.{cond-true, cond-false, and_parts, and_from, not-true, eqb-true}
use Rattle.std.proofs.lemmas.Bool.Decides.{nat_tests}
use Rattle.std.proofs.lemmas.List.Folds.{list_all-append}
use Rattle.std.proofs.lemmas.List.Sums.{sum_by-cons, sum_by-append}
use Rattle.cnf_base.specs.Text.{is_line_end, is_blank, begin_with, pieces, has_bytes, words_of, row_of, rows_from, rows, line_ends}
use Rattle.cnf_base.specs.ProofText.{are_whole_lines}

-- none of the bytes passes the test
abbrev pub none_pass : (ℕ → Bool) → List ℕ → Bool
none_pass test bytes = list_all (λ byte. not (test byte)) bytes

begin_with-append : (byte : ℕ) (ps qs : List (List ℕ)) → 0 < length ps → begin_with byte (ps ++ qs) ≡ begin_with byte ps ++ qs
begin_with-append byte [] qs some = absurd (omega arith)
begin_with-append byte (p ∷ ps) qs some = refl

length-begin_with : (byte : ℕ) (ps : List (List ℕ)) → 0 < length ps → length (begin_with byte ps) ≡ length ps
length-begin_with byte [] some = absurd (omega arith)
length-begin_with byte (p ∷ ps) some = refl

module _ (test : ℕ → Bool) where
  -- one piece more than bytes that pass
  pub length-pieces : (bytes : List ℕ) → length (pieces test bytes) ≡ count_by test bytes + 1
  length-pieces [] = refl
  length-pieces (byte ∷ bytes) =
      let some : 0 < length (pieces test bytes) = omega (arith, length-pieces bytes) in
      let count : count_by test (byte ∷ bytes) ≡ cond (test byte) 1 0
      + count_by test bytes = sum_by-cons (λ x. cond (test x) 1 0) byte bytes in
      elim (test byte) as (λ b. count_by test (byte ∷ bytes) ≡ cond b 1 0 + count_by test bytes
      → length (cond b ([] ∷ pieces test bytes) (begin_with byte (pieces test bytes))) ≡ count_by test (byte ∷ bytes) + 1) [
        | true ↦ λ e. omega (arith, length-pieces bytes)
        | false ↦ λ e. omega (arith, length-pieces bytes, length-begin_with byte (pieces test bytes) some)
      ] count

  -- a byte that passes ends the pieces before it
  pub pieces-append : (xs : List ℕ) (byte : ℕ) (ys : List ℕ) → test byte ≡ true → pieces test (xs ++ byte ∷ ys) ≡ pieces test xs
      ++ pieces test ys
  pieces-append [] byte ys here = cond-true (test byte) _ _ here
  pieces-append (x ∷ xs) byte ys here =
      let some : 0 < length (pieces test xs) = omega (arith, length-pieces xs) in
      rw (pieces-append xs byte ys here)
      (elim (test x) as (λ b. cond b ([] ∷ (pieces test xs ++ pieces test ys)) (begin_with x (pieces test xs ++ pieces test ys))
      ≡ cond b ([] ∷ pieces test xs) (begin_with x (pieces test xs)) ++ pieces test ys) [
        | true ↦ refl
        | false ↦ begin_with-append x (pieces test xs) (pieces test ys) some
      ])

  -- where no byte passes, the text is the one piece
  pub pieces_none : (bytes : List ℕ) → none_pass test bytes ≡ true → pieces test bytes ≡ bytes ∷ []
  pieces_none [] none = refl
  pieces_none (byte ∷ bytes) none =
      let parts = and_parts (not (test byte)) (none_pass test bytes) none in
      cond-false (test byte) _ _ (not-true (test byte) parts.0) ∙ ap (begin_with byte) (pieces_none bytes parts.1)

-- Lines.
pub rows_from-append : (comment line : ℕ) (texts more : List (List ℕ)) → rows_from comment line (texts ++ more)
    ≡ rows_from comment line texts ++ rows_from comment (line + length texts) more
rows_from-append comment line [] more = ap (λ n. rows_from comment n more) (omega arith)
rows_from-append comment line (text ∷ texts) more =
    let next : line + 1 + length texts ≡ line + suc (length texts) = omega arith in
    rw (rows_from-append comment (line + 1) texts more, next) (sym
    (append_assoc (row_of comment line (words_of text)) (rows_from comment (line + 1) texts) _))

-- a text of whole lines is empty or ends by a line end
pub whole_lines_split : (bytes : List ℕ) → are_whole_lines bytes ≡ true → (bytes ≡ []) ⊎ ((front : List ℕ) × (bytes ≡ front ++ 10 ∷ []))
whole_lines_split [] whole = inl refl
whole_lines_split (byte ∷ []) whole = inr ([], ap (λ b. b ∷ []) (eqb-true byte 10 whole))
whole_lines_split (byte ∷ more ∷ bytes) whole =
    ⊎_elim (λ e. absurd (cc)) (λ h. inr (byte ∷ h.0, ap (λ bs. byte ∷ bs) h.1)) (whole_lines_split (more ∷ bytes) whole)

pub whole_lines-append : (front : List ℕ) → are_whole_lines (front ++ 10 ∷ []) ≡ true
whole_lines-append [] = refl
whole_lines-append (byte ∷ []) = refl
whole_lines-append (byte ∷ more ∷ front) = whole_lines-append (more ∷ front)

line_ends_push : (front : List ℕ) → line_ends (front ++ 10 ∷ []) ≡ line_ends front + 1
line_ends_push front = sum_by-append (λ x. cond (is_line_end x) 1 0) front (10 ∷ [])

pub line_ends_none : (bytes : List ℕ) → none_pass is_line_end bytes ≡ true → line_ends bytes ≡ 0
line_ends_none bytes none =
    let whole : length (pieces is_line_end bytes) ≡ 1 = ap length (pieces_none is_line_end bytes none) in
    omega (arith, length-pieces is_line_end bytes)

pub line_ends-line : (line : List ℕ) → none_pass is_line_end line ≡ true → (bytes : List ℕ) → line_ends (bytes ++ (line ++ 10 ∷ []))
    ≡ line_ends bytes + 1
line_ends-line line one bytes =
    omega (arith, sum_by-append (λ x. cond (is_line_end x) 1 0) bytes (line ++ 10 ∷ []), line_ends_push line, line_ends_none line one)

-- one more line on whole lines
module _ (comment : ℕ) (line : List ℕ) (one : none_pass is_line_end line ≡ true) where
  line_pieces : pieces is_line_end (line ++ 10 ∷ []) ≡ line ∷ [] ∷ []
  line_pieces = pieces-append is_line_end line 10 [] refl ∙ ap (λ ps. ps ++ [] ∷ []) (pieces_none is_line_end line one)

  rows_after : (front : List ℕ) → rows comment ((front ++ 10 ∷ []) ++ (line ++ 10 ∷ [])) ≡ rows comment (front ++ 10 ∷ [])
      ++ row_of comment (line_ends (front ++ 10 ∷ []) + 1) (words_of line)
  rows_after front =
      let texts = pieces is_line_end front in
      let number : 1 + length texts ≡ line_ends (front ++ 10 ∷ [])
      + 1 = omega (arith, length-pieces is_line_end front, line_ends_push front) in
      let cut : pieces is_line_end ((front ++ 10 ∷ []) ++ (line ++ 10 ∷ [])) ≡ texts ++ line ∷ [] ∷ [] =
      ap (pieces is_line_end) (append_assoc front (10 ∷ []) (line ++ 10 ∷ [])) ∙ pieces-append is_line_end front 10 (line ++ 10 ∷ []) refl
      ∙ ap (λ ps. texts ++ ps) line_pieces in
      let before : rows comment (front ++ 10 ∷ []) ≡ rows_from comment 1 texts =
      ap (rows_from comment 1) (pieces-append is_line_end front 10 [] refl) ∙ rows_from-append comment 1 texts ([] ∷ []) ∙ append-nil _ in
      ap (rows_from comment 1) cut ∙ rows_from-append comment 1 texts (line ∷ [] ∷ [])
      ∙ ap (λ rs. rows_from comment 1 texts ++ rs) (append-nil _ ∙ ap (λ n. row_of comment n (words_of line)) number)
      ∙ ap (λ rs. rs ++ row_of comment (line_ends (front ++ 10 ∷ []) + 1) (words_of line)) (sym before)

  pub rows-line : (bytes : List ℕ) → are_whole_lines bytes ≡ true → rows comment (bytes ++ (line ++ 10 ∷ [])) ≡ rows comment bytes
      ++ row_of comment (line_ends bytes + 1) (words_of line)
  rows-line bytes whole =
      let P : List ℕ → Type 0 = λ bs. rows comment (bs ++ (line ++ 10 ∷ [])) ≡ rows comment bs
      ++ row_of comment (line_ends bs + 1) (words_of line) in
      ⊎_elim
      (λ e. subst P (sym e) (ap (rows_from comment 1) line_pieces ∙ append-nil _))
      (λ h. subst P (sym h.1) (rows_after h.0))
      (whole_lines_split bytes whole)

-- Words.
abbrev pub is_word : List ℕ → Bool
is_word word = has_bytes word && none_pass is_blank word

filter-append : (xs ys : List (List ℕ)) → filter has_bytes (xs ++ ys) ≡ filter has_bytes xs ++ filter has_bytes ys
filter-append [] ys = refl
filter-append (x ∷ xs) ys =
    rw (filter-append xs ys) (elim (has_bytes x) as (λ b. cond b (x ∷ (filter has_bytes xs ++ filter has_bytes ys)) (filter has_bytes xs
    ++ filter has_bytes ys) ≡ cond b (x ∷ filter has_bytes xs) (filter has_bytes xs)
    ++ filter has_bytes ys) [ true ↦ refl | false ↦ refl ])

word_alone : (word : List ℕ) → is_word word ≡ true → words_of word ≡ word ∷ []
word_alone word good =
    let parts = and_parts (has_bytes word) (none_pass is_blank word) good in
    ap (filter has_bytes) (pieces_none is_blank word parts.1) ∙ cond-true (has_bytes word) _ _ parts.0

-- words that are joined by spaces are read again
pub words_of-join : (words : List (List ℕ)) → list_all is_word words ≡ true → words_of (join_with_byte 32 words) ≡ words
words_of-join [] good = refl
words_of-join (word ∷ []) good = word_alone word (and_parts (is_word word) true good).0
words_of-join (word ∷ next ∷ words) good =
    let parts = and_parts (is_word word) (list_all is_word (next ∷ words)) good in
    ap (filter has_bytes) (pieces-append is_blank word 32 (join_with_byte 32 (next ∷ words)) refl)
    ∙ filter-append (pieces is_blank word) (pieces is_blank (join_with_byte 32 (next ∷ words)))
    ∙ ap (λ ws. ws ++ words_of (join_with_byte 32 (next ∷ words))) (word_alone word parts.0)
    ∙ ap (λ ws. word ∷ ws) (words_of-join (next ∷ words) parts.1)

-- no line end stands in words that are joined by spaces
blank_line_end : (byte : ℕ) → not (is_blank byte) ≡ true → not (is_line_end byte) ≡ true
blank_line_end byte good = grind (arith, nat_tests)

line_bytes : (bytes : List ℕ) → none_pass is_blank bytes ≡ true → none_pass is_line_end bytes ≡ true
line_bytes [] good = refl
line_bytes (byte ∷ bytes) good =
    let parts = and_parts (not (is_blank byte)) (none_pass is_blank bytes) good in
    and_from _ _ (blank_line_end byte parts.0) (line_bytes bytes parts.1)

word_one_line : (word : List ℕ) → is_word word ≡ true → none_pass is_line_end word ≡ true
word_one_line word good = line_bytes word (and_parts (has_bytes word) (none_pass is_blank word) good).1

pub join_one_line : (words : List (List ℕ)) → list_all is_word words ≡ true → none_pass is_line_end (join_with_byte 32 words) ≡ true
join_one_line [] good = refl
join_one_line (word ∷ []) good = word_one_line word (and_parts (is_word word) true good).0
join_one_line (word ∷ next ∷ words) good =
    let parts = and_parts (is_word word) (list_all is_word (next ∷ words)) good in
    list_all-append (λ byte. not (is_line_end byte)) word (32 ∷ join_with_byte 32 (next ∷ words))
    ∙ and_from _ _ (word_one_line word parts.0) (join_one_line (next ∷ words) parts.1)
