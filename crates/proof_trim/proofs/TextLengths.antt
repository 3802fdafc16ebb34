-- The words of a text's lines, each with a byte behind it, take no more bytes than the text, but for one behind the last of them; where
-- the text ends by a line end, not even that.
use Rattle.std.proofs.Common.{◌≡◌, ℕ, ◌+◌, ◌≤◌, Bool, true, false, ◌==◌, cond, List, [], ◌∷◌, ◌++◌, length, filter, refl, sym, ap, ◌∙◌}
use Rattle.std.proofs.Common.{subst, arith, inl, inr, length-append, if◌then◌else◌}
use Rattle.cnf_base.specs.Text.{Row, begin_with, begins_with, has_bytes, is_blank, is_line_end, pieces, row_of, rows, rows_from, words_of}
use Rattle.cnf_base.specs.ProofText.{are_whole_lines}
use Rattle.proof_trim.proofs.WordLengths.{bytes_in, bytes_in-append}

-- the bytes of lines, likewise
abbrev pub bytes_in_rows : List Row → ℕ
bytes_in_rows [] = 0
bytes_in_rows (row ∷ rows) = bytes_in row.words + bytes_in_rows rows

bytes_in_rows-append : (rows more : List Row) → bytes_in_rows (rows ++ more) ≡ bytes_in_rows rows + bytes_in_rows more
bytes_in_rows-append [] more = omega arith
bytes_in_rows-append (row ∷ rows) more = omega (arith, bytes_in_rows-append rows more)

-- the pieces of a text
module _ (test : ℕ → Bool) where
  some_piece : (bytes : List ℕ) → (piece : List ℕ) × (more : List (List ℕ)) × (pieces test bytes ≡ piece ∷ more)
  some_piece [] = ([], [], refl)
  some_piece (byte ∷ bytes) =
      elim (test byte) as (λ b. (piece : List ℕ) × (more : List (List ℕ)) × ((if b then [] ∷ pieces test bytes
      else begin_with byte (pieces test bytes)) ≡ piece ∷ more)) [
        | true ↦ ([], pieces test bytes, refl)
        | false ↦ let rest = some_piece bytes in (byte ∷ rest.0, rest.1, ap (begin_with byte) rest.2)
      ]

  bytes_in-pieces : (bytes : List ℕ) → bytes_in (pieces test bytes) ≡ length bytes + 1
  bytes_in-pieces [] = omega arith
  bytes_in-pieces (byte ∷ bytes) =
      elim (test byte) as (λ b. bytes_in (if b then [] ∷ pieces test bytes else begin_with byte (pieces test bytes))
      ≡ length (byte ∷ bytes) + 1) [
        | true ↦ omega (arith, bytes_in-pieces bytes)
        | false ↦
            let rest = some_piece bytes in
            let whole : bytes_in (rest.0 ∷ rest.1) ≡ length bytes + 1 = ap bytes_in (sym rest.2) ∙ bytes_in-pieces bytes in
            let more : bytes_in ((byte ∷ rest.0) ∷ rest.1) ≡ length (byte ∷ bytes) + 1 = omega (arith, whole) in
            ap (λ (l : List (List ℕ)). bytes_in (begin_with byte l)) rest.2 ∙ more
      ]

-- those that aren't empty
bytes_in-filter : (test : List ℕ → Bool) (words : List (List ℕ)) → bytes_in (filter test words) ≤ bytes_in words
bytes_in-filter test [] = omega arith
bytes_in-filter test (word ∷ words) =
    elim (test word) as (λ b. bytes_in (cond b (word ∷ filter test words) (filter test words)) ≤ bytes_in (word ∷ words)) [
      | true ↦ omega (arith, bytes_in-filter test words)
      | false ↦ omega (arith, bytes_in-filter test words)
    ]

bytes_in-line : (line : List ℕ) → bytes_in (words_of line) ≤ length line + 1
bytes_in-line line = omega (arith, bytes_in-filter has_bytes (pieces is_blank line), bytes_in-pieces is_blank line)

bytes_in-row : (comment line : ℕ) (words : List (List ℕ)) → bytes_in_rows (row_of comment line words) ≤ bytes_in words
bytes_in-row comment line [] = omega arith
bytes_in-row comment line (word ∷ words) =
    elim (begins_with comment word)
    as (λ b. bytes_in_rows (if b then [] else record { line = line; words = word ∷ words } ∷ []) ≤ bytes_in (word ∷ words)) [
      | true ↦ omega arith
      | false ↦ omega arith
    ]

bytes_in-rows_from : (comment line : ℕ) (texts : List (List ℕ)) → bytes_in_rows (rows_from comment line texts) ≤ bytes_in texts
bytes_in-rows_from comment line [] = omega arith
bytes_in-rows_from comment line (text ∷ texts) =
    let both : bytes_in_rows (rows_from comment line (text ∷ texts)) ≡ bytes_in_rows (row_of comment line (words_of text))
    + bytes_in_rows (rows_from comment (line + 1) texts) =
    bytes_in_rows-append (row_of comment line (words_of text)) (rows_from comment (line + 1) texts) in
    omega (arith, both, bytes_in-row comment line (words_of text), bytes_in-line text, bytes_in-rows_from comment (line + 1) texts)

pub bytes_in-rows : (bytes : List ℕ) → bytes_in_rows (rows 99 bytes) ≤ length bytes + 1
bytes_in-rows bytes =
    omega (arith, bytes_in-rows_from 99 1 (pieces is_line_end bytes), bytes_in-pieces is_line_end bytes)

-- behind a last line end stands an empty piece
record EndsEmpty (bytes : List ℕ) : Type 0 where
  pub first : List ℕ
  pub more : List (List ℕ)
  pub parts : pieces is_line_end bytes ≡ first ∷ (more ++ ([] ∷ []))

ends_empty : (byte : ℕ) (bytes : List ℕ) → are_whole_lines (byte ∷ bytes) ≡ true → EndsEmpty (byte ∷ bytes)
ends_empty byte [] whole = record {
  first = [];
  more = [];
  parts = ap (λ (b : Bool). if b then [] ∷ [] ∷ [] else begin_with byte ([] ∷ [])) whole;
}
ends_empty byte (next ∷ bytes) whole =
    let rest = ends_empty next bytes whole in
    elim (is_line_end byte) as (λ b. is_line_end byte ≡ b → EndsEmpty (byte ∷ next ∷ bytes)) [
      | true ↦ λ is. record {
        first = [];
        more = rest.first ∷ rest.more;
        parts = (λ i. if is i then [] ∷ rest.parts i else begin_with byte (rest.parts i));
      }
      | false ↦ λ is. record {
        first = byte ∷ rest.first;
        more = rest.more;
        parts = (λ i. if is i then [] ∷ rest.parts i else begin_with byte (rest.parts i));
      }
    ] refl

none_behind : (comment line : ℕ) (texts : List (List ℕ)) → bytes_in_rows (rows_from comment line (texts ++ ([] ∷ []))) ≤ bytes_in texts
none_behind comment line [] = omega arith
none_behind comment line (text ∷ texts) =
    let both : bytes_in_rows (rows_from comment line (text ∷ (texts ++ ([] ∷ [])))) ≡ bytes_in_rows (row_of comment line (words_of text))
    + bytes_in_rows (rows_from comment (line + 1) (texts ++ ([] ∷ []))) =
    bytes_in_rows-append (row_of comment line (words_of text)) (rows_from comment (line + 1) (texts ++ ([] ∷ []))) in
    omega (arith, both, bytes_in-row comment line (words_of text), bytes_in-line text, none_behind comment (line + 1) texts)

pub bytes_in-whole : (bytes : List ℕ) → are_whole_lines bytes ≡ true → bytes_in_rows (rows 99 bytes) ≤ length bytes
bytes_in-whole [] whole = omega arith
bytes_in-whole (byte ∷ bytes) whole =
    let ends = ends_empty byte bytes whole in
    let texts : List (List ℕ) = ends.first ∷ ends.more in
    let some : bytes_in_rows (rows_from 99 1 (texts ++ ([] ∷ []))) ≤ bytes_in texts = none_behind 99 1 texts in
    let all : bytes_in (texts ++ ([] ∷ [])) ≡ bytes_in texts + bytes_in ([] ∷ []) = bytes_in-append texts ([] ∷ []) in
    let is : bytes_in (texts ++ ([] ∷ [])) ≡ length (byte ∷ bytes) + 1 =
    ap bytes_in (sym ends.parts) ∙ bytes_in-pieces is_line_end (byte ∷ bytes) in
    let most : bytes_in_rows (rows_from 99 1 (texts ++ ([] ∷ []))) ≤ length (byte ∷ bytes) = omega (arith, some, all, is) in
    subst (λ (l : List (List ℕ)). bytes_in_rows (rows_from 99 1 l) ≤ length (byte ∷ bytes)) (sym ends.parts) most
