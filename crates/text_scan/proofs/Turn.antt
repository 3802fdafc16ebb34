-- Bytes that ended no token were looked at.
use Rattle.std.proofs.Common.{◌≡◌, ℕ, ◌+◌, ◌-◌, ◌<◌, ◌≤◌, Bool, true, false, List, [], ◌∷◌, ◌++◌, length, get_or, take, drop, refl, ◌∙◌, ap}
use Rattle.std.proofs.Common.{arith}
use Rattle.std.specs.Prelude.{◌==◌, ◌&&◌, if◌then◌else◌}
use Rattle.cnf_base.specs.Text.{is_blank, is_line_end, has_bytes}
use Rattle.text_scan.specs.declared.lexer.LexerMode.TheVariants.{LineStart}
use Rattle.text_scan.specs.Items.{Items, too_long, next_word}
use Rattle.text_scan.specs.Lexer.{Lex, items_from, front_from, after, after_letter, ends_word, given_at, word_then}
use Rattle.text_scan.specs.Scan.{Scan}
use Rattle.text_scan.specs.Block.{IsBlock}
use Rattle.text_scan.proofs.Block.{drop-take_cons}

-- the items from here on are those from the old state on
pub record IsTurn (old : Scan) (lex : Lex) (room : ℕ) (unread : List ℕ) : Type 0 where
  pub same : (more : List ℕ) → items_from old.lex old.room (old.unread ++ more) ≡ items_from lex room (unread ++ more)
  pub front : (more : List ℕ) → front_from old.lex (old.unread ++ more) ≡ front_from lex (unread ++ more)
  pub count : room + length old.unread ≡ old.room + length unread
  pub shorter : length unread ≤ length old.unread

-- under the limit the next byte is looked at
under : (room : ℕ) (a b : Items) → 0 < room → (if room == 0 then a else b) ≡ b
under room a b some = let e : (room == 0) ≡ false = grind arith in rw e refl

quiet_given : (blank : Bool) (word : List ℕ) (line : ℕ) (items : Items) → (blank && has_bytes word) ≡ false
    → (if blank then word_then word line items else items) ≡ items
quiet_given false word line items quiet = refl
quiet_given true [] line items quiet = refl
quiet_given true (byte ∷ bytes) line items quiet = cc

ending_given : (blank : Bool) (word : List ℕ) (line : ℕ) (items : Items) → (blank && has_bytes word) ≡ true
    → (if blank then word_then word line items else items) ≡ next_word (record { bytes = word; line = line }) items
ending_given false word line items ends = cc
ending_given true [] line items ends = cc
ending_given true (byte ∷ bytes) line items ends = refl

-- a byte that ends no token
pub quiet_byte : (lex : Lex) (room byte : ℕ) (bytes : List ℕ) → 0 < room → ends_word lex byte ≡ false → items_from lex room (byte ∷ bytes)
    ≡ items_from (after lex byte) (room - 1) bytes
quiet_byte lex room byte bytes some quiet =
    under room (too_long lex.line) (given_at lex byte (items_from (after lex byte) (room - 1) bytes)) some
    ∙ quiet_given (is_blank byte) lex.word lex.line (items_from (after lex byte) (room - 1) bytes) quiet

-- a byte that ends one
pub ending_byte : (lex : Lex) (room byte : ℕ) (bytes : List ℕ) → 0 < room → ends_word lex byte ≡ true → items_from lex room (byte ∷ bytes)
    ≡ next_word (record { bytes = lex.word; line = lex.line }) (items_from (after lex byte) (room - 1) bytes)
ending_byte lex room byte bytes some ends =
    under room (too_long lex.line) (given_at lex byte (items_from (after lex byte) (room - 1) bytes)) some
    ∙ ending_given (is_blank byte) lex.word lex.line (items_from (after lex byte) (room - 1) bytes) ends

-- the same in the front of a longer text
pub quiet_front : (lex : Lex) (byte : ℕ) (bytes : List ℕ) → ends_word lex byte ≡ false → front_from lex (byte ∷ bytes)
    ≡ front_from (after lex byte) bytes
quiet_front lex byte bytes quiet = quiet_given (is_blank byte) lex.word lex.line (front_from (after lex byte) bytes) quiet

pub ending_front : (lex : Lex) (byte : ℕ) (bytes : List ℕ) → ends_word lex byte ≡ true → front_from lex (byte ∷ bytes)
    ≡ next_word (record { bytes = lex.word; line = lex.line }) (front_from (after lex byte) bytes)
ending_front lex byte bytes ends = ending_given (is_blank byte) lex.word lex.line (front_from (after lex byte) bytes) ends

-- a byte is at most one more line
pub line-after : (lex : Lex) (byte : ℕ) → (after lex byte).line ≤ lex.line + 1
line-after lex byte = elim (is_line_end byte) as (λ b. (if b then
    (record {
      comment = lex.comment;
      mode = LineStart;
      line = lex.line
          + 1;
      word = [];
    }) else if is_blank byte then record {
      comment = lex.comment;
      mode = lex.mode;
      line = lex.line;
      word = [];
    } else after_letter lex byte).line ≤ lex.line + 1) [
      | true ↦ omega arith
      | false ↦ elim (is_blank byte) as
          (λ b. (if b then (record { comment = lex.comment; mode = lex.mode; line = lex.line; word = [] }) else after_letter lex byte).line
          ≤ lex.line + 1) [
            | true ↦ omega arith
            | false ↦ omega arith
          ]
    ]

module _ (old : Scan) (lex : Lex) (block : List ℕ) (at stop end room : ℕ) (turn : IsTurn old lex (room - at) (drop at (take end block)))
    (stands : IsBlock block at stop end room lex.line) (below : at < stop) where
  cut : drop at (take end block) ≡ get_or block at 0 ∷ drop (at + 1) (take end block)
  cut = drop-take_cons block at end (omega (arith, stands.stop_is)) (omega (arith, stands.size, stands.in_block))

  room_left : room - at - 1 ≡ room - (at + 1)
  room_left = omega arith

  some_room : 0 < room - at
  some_room = omega (arith, stands.stop_is)

  counted : room - (at + 1) + length old.unread ≡ old.room + length (drop (at + 1) (take end block))
  counted =
      let was = turn.count in
      let longer = ap length cut in
      omega (arith, was, longer, some_room)

  -- one more byte that ended no token
  pub turn_goes_on : (next : Lex) → next ≡ after lex (get_or block at 0) → ends_word lex (get_or block at 0) ≡ false
      → IsTurn old next (room - (at + 1)) (drop (at + 1) (take end block))
  turn_goes_on next is quiet = record {
    same = λ more. turn.same more
        ∙ ap (λ bytes. items_from lex (room - at) (bytes ++ more)) cut
        ∙ quiet_byte lex (room - at) (get_or block at 0) (drop (at + 1) (take end block) ++ more) some_room quiet
        ∙ rw (room_left, is) refl;
    front = λ more. turn.front more
        ∙ ap (λ bytes. front_from lex (bytes ++ more)) cut
        ∙ quiet_front lex (get_or block at 0) (drop (at + 1) (take end block) ++ more) quiet
        ∙ rw is refl;
    count = counted;
    shorter = (let longer = ap length cut in omega (arith, longer, turn.shorter));
  }

  -- a byte that ended one
  pub turn_ends : (next : Lex) → next ≡ after lex (get_or block at 0) → ends_word lex (get_or block at 0) ≡ true → (more : List ℕ)
      → items_from old.lex old.room (old.unread ++ more)
      ≡ next_word (record { bytes = lex.word; line = lex.line })
      (items_from next (room - (at + 1)) (drop (at + 1) (take end block) ++ more))
  turn_ends next is ends more = turn.same more
      ∙ ap (λ bytes. items_from lex (room - at) (bytes ++ more)) cut
      ∙ ending_byte lex (room - at) (get_or block at 0) (drop (at + 1) (take end block) ++ more) some_room ends
      ∙ rw (room_left, is) refl

  pub turn_ends_front : (next : Lex) → next ≡ after lex (get_or block at 0) → ends_word lex (get_or block at 0) ≡ true → (more : List ℕ)
      → front_from old.lex (old.unread ++ more)
      ≡ next_word (record { bytes = lex.word; line = lex.line }) (front_from next (drop (at + 1) (take end block) ++ more))
  turn_ends_front next is ends more = turn.front more
      ∙ ap (λ bytes. front_from lex (bytes ++ more)) cut
      ∙ ending_front lex (get_or block at 0) (drop (at + 1) (take end block) ++ more) ends
      ∙ rw is refl

  pub less_room : room - (at + 1) < old.room
  less_room =
      let was = turn.count in
      let longer = ap length cut in
      omega (arith, was, longer, some_room, turn.shorter)

  pub block_goes_on : (next : Lex) → next ≡ after lex (get_or block at 0) → IsBlock block (at + 1) stop end room next.line
  block_goes_on next is =
      let line : next.line ≤ lex.line + 1 = rw is (line-after lex (get_or block at 0)) in
      record {
        size = stands.size;
        at_most_stop = omega arith;
        stop_is = stands.stop_is;
        in_block = stands.in_block;
        line_fits = omega (arith, line, stands.line_fits);
      }
