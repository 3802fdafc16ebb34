-- A token that lies whole in what is unread is one step.
use Rattle.std.proofs.Common.{◌≡◌, ℕ, zero, suc, ◌+◌, ◌-◌, ◌<◌, ◌≤◌, min, Bool, true, false, List, [], ◌∷◌, ◌++◌, length, get_or, take}
use Rattle.std.proofs.Common.{drop, refl, sym, ◌∙◌, ap, arith, append_assoc, append-nil, drop-cons, length-take, length-drop, get_or-take}
use Rattle.std.proofs.Common.{get_or-drop}
use Rattle.std.proofs.lemmas.List.{drop-take, drop-drop, take-append-drop}
use Rattle.std.specs.Prelude.{◌&&◌, ◌||◌, not}
use Rattle.std.specs.List.{list_any}
use Rattle.cnf_base.specs.Text.{Word, is_blank, is_line_end, has_bytes}
use Rattle.text_scan.specs.declared.lexer.LexerMode.{LexerMode}
use Rattle.text_scan.specs.declared.lexer.LexerMode.TheVariants.{LineStart, Comment, Words}
use Rattle.text_scan.specs.Items.{next_word}
use Rattle.text_scan.specs.Lexer.{Lex, items_from, front_from, after, begins_word, is_words, mode_with}
use Rattle.text_scan.specs.Scan.{Scan}
use Rattle.text_scan.specs.Block.{IsWordAhead}
use Rattle.text_scan.proofs.Block.{take_take}
use Rattle.text_scan.proofs.Turn.{quiet_byte, ending_byte, quiet_front, ending_front}
use Rattle.text_scan.proofs.Bridge.{blank_end, word_with-take}

-- in a token of these bytes
abbrev pub in_word : ℕ → ℕ → List ℕ → Lex
in_word comment line word = record { comment = comment; mode = Words; line = line; word = take 65 word }

no_line_end : (byte : ℕ) → is_blank byte ≡ false → is_line_end byte ≡ false
no_line_end byte other = elim (is_line_end byte) as (λ b. is_line_end byte ≡ b → b ≡ false) [
  | true ↦ λ ends. let blank : is_blank byte ≡ true = blank_end byte ends in cc
  | false ↦ λ _. refl
] refl

letter_in_word : (comment line : ℕ) (word : List ℕ) (byte : ℕ) → is_blank byte ≡ false → after (in_word comment line word) byte
    ≡ in_word comment line (word ++ byte ∷ [])
letter_in_word comment line word byte other =
    rw (other, no_line_end byte other) (ap (λ (l : List ℕ). record { comment = comment; mode = Words; line = line; word = l })
    (word_with-take 65 word byte))

pub or_left : (a b : Bool) → (a || b) ≡ false → a ≡ false
or_left true b h = h
or_left false b h = refl

or_right : (a b : Bool) → (a || b) ≡ false → b ≡ false
or_right true b h = cc
or_right false b h = h

quiet : (byte : ℕ) (word : List ℕ) → is_blank byte ≡ false → (is_blank byte && has_bytes word) ≡ false
quiet byte word other = rw other refl

-- a run of letters
letters_run : (letters : List ℕ) (comment line room : ℕ) (word xs : List ℕ) → list_any is_blank letters ≡ false → length letters ≤ room →
    items_from (in_word comment line word) room (letters ++ xs) ≡ items_from (in_word comment line (word ++ letters))
    (room - length letters) xs
letters_run [] comment line room word xs none fits = let e : room - 0 ≡ room = omega arith in rw (e, append-nil word) refl
letters_run (byte ∷ letters) comment line room word xs none fits =
    let other : is_blank byte ≡ false = or_left (is_blank byte) (list_any is_blank letters) none in
    let rest : list_any is_blank letters ≡ false = or_right (is_blank byte) (list_any is_blank letters) none in
    let e : room - 1 - length letters ≡ room - length (byte ∷ letters) = omega arith in
    quiet_byte (in_word comment line word) room byte (letters ++ xs) (omega arith) (quiet byte (take 65 word) other)
    ∙ ap (λ lex. items_from lex (room - 1) (letters ++ xs)) (letter_in_word comment line word byte other)
    ∙ letters_run letters comment line (room - 1) (word ++ byte ∷ []) xs rest (omega arith)
    ∙ rw (e, append_assoc word (byte ∷ []) letters) refl

letters_front : (letters : List ℕ) (comment line : ℕ) (word xs : List ℕ) → list_any is_blank letters ≡ false →
    front_from (in_word comment line word) (letters ++ xs) ≡ front_from (in_word comment line (word ++ letters)) xs
letters_front [] comment line word xs none = rw (append-nil word) refl
letters_front (byte ∷ letters) comment line word xs none =
    let other : is_blank byte ≡ false = or_left (is_blank byte) (list_any is_blank letters) none in
    let rest : list_any is_blank letters ≡ false = or_right (is_blank byte) (list_any is_blank letters) none in
    quiet_front (in_word comment line word) byte (letters ++ xs) (quiet byte (take 65 word) other)
    ∙ ap (λ lex. front_from lex (letters ++ xs)) (letter_in_word comment line word byte other)
    ∙ letters_front letters comment line (word ++ byte ∷ []) xs rest
    ∙ rw (append_assoc word (byte ∷ []) letters) refl

no_word : (word : List ℕ) → has_bytes word ≡ false → word ≡ []
no_word [] none = refl
no_word (byte ∷ bytes) none = cc

words_mode : (mode : LexerMode) → is_words mode ≡ true → mode ≡ Words
words_mode LineStart is = cc
words_mode Comment is = cc
words_mode Words is = refl

both : (a b : Bool) → (a && b) ≡ true → (a ≡ true) × (b ≡ true)
both true b h = (refl, h)
both false b h = cc

not_true : (a : Bool) → not a ≡ true → a ≡ false
not_true true h = cc
not_true false h = refl

-- the first letter
first_letter : (lex : Lex) (byte : ℕ) → begins_word lex byte ≡ true → after lex byte ≡ in_word lex.comment lex.line (byte ∷ [])
first_letter lex byte begins =
    let front : (not (has_bytes lex.word) && not (is_blank byte))
    ≡ true = (both (not (has_bytes lex.word) && not (is_blank byte)) (is_words (mode_with lex.mode lex.comment byte)) begins).0 in
    let mode : mode_with lex.mode lex.comment byte ≡ Words = words_mode (mode_with lex.mode lex.comment byte)
    ((both (not (has_bytes lex.word) && not (is_blank byte)) (is_words (mode_with lex.mode lex.comment byte)) begins).1) in
    let empty : lex.word ≡ [] = no_word lex.word (not_true (has_bytes lex.word)
    ((both (not (has_bytes lex.word)) (not (is_blank byte)) front).0)) in
    let other : is_blank byte ≡ false = not_true (is_blank byte) ((both (not (has_bytes lex.word)) (not (is_blank byte)) front).1) in
    rw (other, no_line_end byte other, mode, empty) refl

begins_other : (lex : Lex) (byte : ℕ) → begins_word lex byte ≡ true → is_blank byte ≡ false
begins_other lex byte begins =
    let front : (not (has_bytes lex.word) && not (is_blank byte))
    ≡ true = (both (not (has_bytes lex.word) && not (is_blank byte)) (is_words (mode_with lex.mode lex.comment byte)) begins).0 in
    not_true (is_blank byte) ((both (not (has_bytes lex.word)) (not (is_blank byte)) front).1)

-- what a blank leaves doesn't depend on the token
after_blank : (comment line : ℕ) (mode : LexerMode) (word other : List ℕ) (byte : ℕ) → is_blank byte ≡ true →
    after (record { comment = comment; mode = mode; line = line; word = word }) byte
    ≡ after (record { comment = comment; mode = mode; line = line; word = other }) byte
after_blank comment line mode word other byte blank = elim (is_line_end byte) as (λ b. is_line_end byte ≡ b
    → after (record { comment = comment; mode = mode; line = line; word = word }) byte
    ≡ after (record { comment = comment; mode = mode; line = line; word = other }) byte) [
      | true ↦ λ ends. rw ends refl
      | false ↦ λ inside. rw (blank, inside) refl
    ] refl

-- a whole token and the blank behind it
pub token_run : (lex : Lex) (byte : ℕ) (letters : List ℕ) (blank room : ℕ) (xs : List ℕ) → begins_word lex byte ≡ true
    → list_any is_blank letters ≡ false → is_blank blank ≡ true → length letters + 1 < room →
    items_from lex room (byte ∷ (letters ++ blank ∷ xs))
    ≡ next_word (record { bytes = take 65 (byte ∷ letters); line = lex.line })
    (items_from (after (record { comment = lex.comment; mode = Words; line = lex.line; word = lex.word }) blank)
    (room - (length letters + 2)) xs)
token_run lex byte letters blank room xs begins none is_one fits =
    let e : room - 1 - length letters - 1 ≡ room - (length letters + 2) = omega arith in
    quiet_byte lex room byte (letters ++ blank ∷ xs) (omega arith) (quiet byte lex.word (begins_other lex byte begins))
    ∙ ap (λ l. items_from l (room - 1) (letters ++ blank ∷ xs)) (first_letter lex byte begins)
    ∙ letters_run letters lex.comment lex.line (room - 1) (byte ∷ []) (blank ∷ xs) none (omega arith)
    ∙ ending_byte (in_word lex.comment lex.line (byte ∷ letters)) (room - 1 - length letters) blank xs (omega arith) (rw is_one refl)
    ∙ rw (e, after_blank lex.comment lex.line Words (take 65 (byte ∷ letters)) lex.word blank is_one) refl

pub token_front : (lex : Lex) (byte : ℕ) (letters : List ℕ) (blank : ℕ) (xs : List ℕ) → begins_word lex byte ≡ true
    → list_any is_blank letters ≡ false → is_blank blank ≡ true →
    front_from lex (byte ∷ (letters ++ blank ∷ xs))
    ≡ next_word (record { bytes = take 65 (byte ∷ letters); line = lex.line })
    (front_from (after (record { comment = lex.comment; mode = Words; line = lex.line; word = lex.word }) blank) xs)
token_front lex byte letters blank xs begins none is_one =
    quiet_front lex byte (letters ++ blank ∷ xs) (quiet byte lex.word (begins_other lex byte begins))
    ∙ ap (λ l. front_from l (letters ++ blank ∷ xs)) (first_letter lex byte begins)
    ∙ letters_front letters lex.comment lex.line (byte ∷ []) (blank ∷ xs) none
    ∙ ending_front (in_word lex.comment lex.line (byte ∷ letters)) blank xs (rw is_one refl)
    ∙ rw (after_blank lex.comment lex.line Words (take 65 (byte ∷ letters)) lex.word blank is_one) refl

-- the token and the blank behind it stand at the front of what is unread
cut_at_blank : (len : ℕ) (bytes more : List ℕ) → len < length bytes → bytes ++ more ≡ take len bytes
    ++ (get_or bytes len 0 ∷ (drop (suc len) bytes ++ more))
cut_at_blank len bytes more within =
    let split : bytes ≡ take len bytes ++ (get_or bytes len 0 ∷ drop (suc len) bytes) = sym (take-append-drop len bytes)
    ∙ ap (λ (l : List ℕ). take len bytes ++ l) (drop-cons bytes len 0 within) in
    ap (λ (l : List ℕ). l ++ more) split ∙ append_assoc (take len bytes) (get_or bytes len 0 ∷ drop (suc len) bytes) more

-- the same of what is unread
pub unread_run : (lex : Lex) (room len : ℕ) (unread : List ℕ) → begins_word lex (get_or unread 0 0) ≡ true
    → list_any is_blank (take len unread)
    ≡ false → len < length unread → is_blank (get_or unread len 0) ≡ true → len < room → (more : List ℕ) →
    items_from lex room (unread ++ more)
    ≡ next_word (record { bytes = take 65 (take len unread); line = lex.line })
    (items_from (after (record { comment = lex.comment; mode = Words; line = lex.line; word = lex.word }) (get_or unread len 0))
    (room - (len + 1)) (drop (len + 1) unread ++ more))
unread_run lex room len [] begins none within is_one under more = absurd (omega arith)
unread_run lex room zero (byte ∷ bytes) begins none within is_one under more = let other : is_blank byte
    ≡ false = begins_other lex byte begins in cc
unread_run lex room (suc len) (byte ∷ bytes) begins none within is_one under more =
    let rest : list_any is_blank (take len bytes) ≡ false = or_right (is_blank byte) (list_any is_blank (take len bytes)) none in
    let count : length (take len bytes) ≡ len = length-take len bytes ∙ omega arith in
    let whole : bytes ++ more ≡ take len bytes ++ (get_or bytes len 0
    ∷ (drop (suc len) bytes ++ more)) = cut_at_blank len bytes more (omega arith) in
    let e : suc len + 1 ≡ suc (suc len) = omega arith in
    let f : room - (length (take len bytes) + 2) ≡ room - suc (suc len) = omega (arith, count) in
    ap (λ (l : List ℕ). items_from lex room (byte ∷ l)) whole
    ∙ token_run lex byte (take len bytes) (get_or bytes len 0) room (drop (suc len) bytes ++ more) begins rest is_one (omega (arith, count))
    ∙ rw (e, f) refl

pub unread_front : (lex : Lex) (len : ℕ) (unread : List ℕ) → begins_word lex (get_or unread 0 0) ≡ true
    → list_any is_blank (take len unread)
    ≡ false → len < length unread → is_blank (get_or unread len 0) ≡ true → (more : List ℕ) →
    front_from lex (unread ++ more)
    ≡ next_word (record { bytes = take 65 (take len unread); line = lex.line })
    (front_from (after (record { comment = lex.comment; mode = Words; line = lex.line; word = lex.word }) (get_or unread len 0))
    (drop (len + 1) unread ++ more))
unread_front lex len [] begins none within is_one more = absurd (omega arith)
unread_front lex zero (byte ∷ bytes) begins none within is_one more = let other : is_blank byte ≡ false = begins_other lex byte begins in cc
unread_front lex (suc len) (byte ∷ bytes) begins none within is_one more =
    let rest : list_any is_blank (take len bytes) ≡ false = or_right (is_blank byte) (list_any is_blank (take len bytes)) none in
    let whole : bytes ++ more ≡ take len bytes ++ (get_or bytes len 0
    ∷ (drop (suc len) bytes ++ more)) = cut_at_blank len bytes more (omega arith) in
    let e : suc len + 1 ≡ suc (suc len) = omega arith in
    ap (λ (l : List ℕ). front_from lex (byte ∷ l)) whole
    ∙ token_front lex byte (take len bytes) (get_or bytes len 0) (drop (suc len) bytes ++ more) begins rest is_one
    ∙ rw e refl

-- a whole token in a block is one step
pub block_run : (scan : Scan) (lex : Lex) (block : List ℕ) (at end room len : ℕ) (word : Word) (next : Lex) → IsWordAhead scan word len
    → scan.lex ≡ lex → scan.unread ≡ drop at (take end block) → scan.room ≡ room - at → end ≤ length block
    → next ≡ after (record { comment = lex.comment; mode = Words; line = lex.line; word = lex.word }) (get_or block (at + len) 0)
    → (more : List ℕ) →
    items_from scan.lex scan.room (scan.unread ++ more) ≡ next_word word
    (items_from next (room - (at + (len + 1))) (drop (at + (len + 1)) (take end block) ++ more))
block_run scan lex block at end room len word next is lex_is unread_is room_is fits next_is more =
    let size : length scan.unread ≡ min end (length block) - at = ap length unread_is ∙ length-drop at (take end block)
    ∙ ap (λ n. n - at) (length-take end block) in
    let within : at + len < end = omega (arith, is.within, size) in
    let same : get_or scan.unread len 0 ≡ get_or block (at + len) 0 = ap (λ (l : List ℕ). get_or l len 0) unread_is
    ∙ get_or-drop at (take end block) len 0 ∙ get_or-take end block (at + len) 0 within in
    let rest : drop (len + 1) scan.unread ≡ drop (at + (len + 1)) (take end block) = ap (drop (len + 1)) unread_is
    ∙ drop-drop (len + 1) at (take end block) in
    let left : scan.room - (len + 1) ≡ room - (at + (len + 1)) = omega arith in
    unread_run scan.lex scan.room len scan.unread is.begins is.letters is.within is.blank is.under more
    ∙ rw (is.word_is, next_is, same, rest, left, lex_is) refl

pub block_front : (scan : Scan) (lex : Lex) (block : List ℕ) (at end len : ℕ) (word : Word) (next : Lex) → IsWordAhead scan word len
    → scan.lex ≡ lex → scan.unread ≡ drop at (take end block) → end ≤ length block
    → next ≡ after (record { comment = lex.comment; mode = Words; line = lex.line; word = lex.word }) (get_or block (at + len) 0)
    → (more : List ℕ) →
    front_from scan.lex (scan.unread ++ more) ≡ next_word word (front_from next (drop (at + (len + 1)) (take end block) ++ more))
block_front scan lex block at end len word next is lex_is unread_is fits next_is more =
    let size : length scan.unread ≡ min end (length block) - at = ap length unread_is ∙ length-drop at (take end block)
    ∙ ap (λ n. n - at) (length-take end block) in
    let within : at + len < end = omega (arith, is.within, size) in
    let same : get_or scan.unread len 0 ≡ get_or block (at + len) 0 = ap (λ (l : List ℕ). get_or l len 0) unread_is
    ∙ get_or-drop at (take end block) len 0 ∙ get_or-take end block (at + len) 0 within in
    let rest : drop (len + 1) scan.unread ≡ drop (at + (len + 1)) (take end block) = ap (drop (len + 1)) unread_is
    ∙ drop-drop (len + 1) at (take end block) in
    unread_front scan.lex len scan.unread is.begins is.letters is.within is.blank more
    ∙ rw (is.word_is, next_is, same, rest, lex_is) refl

-- what is known of a window of the block is known of what is unread
module _ (block : List ℕ) (at stop end len : ℕ) (before : at ≤ stop) (inside : stop ≤ end) (fits : end ≤ length block) (within : len
    < length (take (stop - at) (drop at block))) where
  window_length : length (take (stop - at) (drop at block)) ≡ stop - at
  window_length = length-take (stop - at) (drop at block) ∙ omega (arith, length-drop at block)

  unread_is : drop at (take end block) ≡ take (end - at) (drop at block)
  unread_is = let e : end ≡ at + (end - at) = omega arith in ap (λ n. drop at (take n block)) e ∙ drop-take at (end - at) block

  pub unread_length : length (drop at (take end block)) ≡ end - at
  unread_length = ap length unread_is ∙ length-take (end - at) (drop at block) ∙ omega (arith, length-drop at block)

  pub window_front : take len (drop at (take end block)) ≡ take len (take (stop - at) (drop at block))
  window_front =
      let size = window_length in
      let a : min (end - at) len ≡ len = omega arith in
      let b : min (stop - at) len ≡ len = omega arith in
      ap (take len) unread_is ∙ sym (take_take len (end - at) (drop at block)) ∙ ap (λ n. take n (drop at block)) (a ∙ sym b)
      ∙ take_take len (stop - at) (drop at block)

  pub window_index : (k : ℕ) → k ≤ len → get_or (drop at (take end block)) k 0 ≡ get_or (take (stop - at) (drop at block)) k 0
  window_index k below =
      let size = window_length in
      ap (λ (l : List ℕ). get_or l k 0) unread_is ∙ get_or-take (end - at) (drop at block) k 0 (omega arith)
      ∙ sym (get_or-take (stop - at) (drop at block) k 0 (omega arith))

  pub in_window : at + len < stop
  in_window = let size = window_length in omega arith
