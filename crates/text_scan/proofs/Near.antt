-- No more tokens are ahead than there are bytes, with the one that has begun.
use Rattle.std.proofs.Common.{◌≡◌, ℕ, ◌+◌, ◌-◌, ◌≤◌, true, false, ◌==◌, if◌then◌else◌, List, [], ◌∷◌, ◌++◌, length, length-append, arith}
use Rattle.std.proofs.lemmas.Bool.Decides.{nat_tests}
use Rattle.cnf_base.specs.Text.{is_blank}
use Rattle.text_scan.specs.declared.scanner.ScanStatus.TheVariants.{Reading, Ended, Overlong, Faulted}
use Rattle.text_scan.specs.Items.{Items, the_end, too_long}
use Rattle.text_scan.specs.Lexer.{Lex, after, word_then, given_at, items_from}
use Rattle.text_scan.specs.Near.{words_in, is_near}
use Rattle.text_scan.specs.Scan.{Scan, block_size, ahead, ahead_in}

word_more : (word : List ℕ) (line : ℕ) (items : Items) → words_in (word_then word line items) ≤ words_in items + 1
word_more [] line items = omega arith
word_more (byte ∷ bytes) line items = omega arith

given_more : (lex : Lex) (byte : ℕ) (items : Items) → words_in (given_at lex byte items) ≤ words_in items + 1
given_more lex byte items = elim (is_blank byte) as (λ b. words_in (if b then word_then lex.word lex.line items else items)
    ≤ words_in items + 1) [ true ↦ word_more lex.word lex.line items | false ↦ omega arith ]

words_from : (bytes : List ℕ) (lex : Lex) (room : ℕ) → words_in (items_from lex room bytes) ≤ length bytes + 1
words_from [] lex room = word_more lex.word lex.line (the_end lex.line)
words_from (byte ∷ bytes) lex room =
    let rest : Items = items_from (after lex byte) (room - 1) bytes in
    let later : words_in rest ≤ length bytes + 1 = words_from bytes (after lex byte) (room - 1) in
    elim (room == 0) as (λ b. words_in (if b then too_long lex.line else given_at lex byte rest) ≤ length (byte ∷ bytes) + 1) [
      | true ↦ omega arith
      | false ↦ omega (arith, given_more lex byte rest, later)
    ]

words_ahead : (scan : Scan) (more : List ℕ) → words_in (ahead scan more) ≤ length (scan.unread ++ more) + 1
words_ahead scan more = elim scan.status as (λ s. words_in (ahead_in s scan more) ≤ length (scan.unread ++ more) + 1) [
  | Reading ↦ words_from (scan.unread ++ more) scan.lex scan.room
  | Ended ↦ omega arith
  | Overlong ↦ omega arith
  | Faulted ↦ words_from (scan.unread ++ more) scan.lex scan.room
]

-- so they are near where no more than a block isn't looked at
pub near_ahead : (scan : Scan) (more : List ℕ) → length scan.unread ≤ block_size → is_near (length more) (ahead scan more) ≡ true
near_ahead scan more small =
    let words : words_in (ahead scan more) ≤ length (scan.unread ++ more) + 1 = words_ahead scan more in
    let parts : length (scan.unread ++ more) ≡ length scan.unread + length more = length-append scan.unread more in
    let bound : words_in (ahead scan more) ≤ block_size + 1 + length more = omega (arith, words, parts, small) in
    grind (arith, nat_tests)
