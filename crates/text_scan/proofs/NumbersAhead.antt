-- Numbers at the front of what is unread are the numbers of the tokens ahead.
use Rattle.std.proofs.Common.{◌≡◌, ℕ, zero, suc, ◌+◌, ◌-◌, ◌<◌, ◌≤◌, min, Bool, true, false, ℤ, List, [], ◌∷◌, ◌++◌, length, get_or, take}
use Rattle.std.proofs.Common.{drop}
use Rattle.std.proofs.Common.{None, Some, refl, sym, ◌∙◌, ap, subst, arith, length-take, length-drop, get_or-take, true≢false}
use Rattle.std.proofs.Common.{if◌then◌else◌}
use Rattle.std.proofs.lemmas.List.{drop-take, drop-drop}
use Rattle.std.specs.Prelude.{nat_lt}
use Rattle.std.proofs.lemmas.Bool.Decides.{nat_tests}
use Rattle.std.specs.List.{list_any}
use Rattle.cnf_base.specs.Number.{signed_number}
use Rattle.cnf_base.specs.Text.{is_blank, is_line_end}
use Rattle.text_scan.specs.declared.lexer.LexerMode.TheVariants.{LineStart, Words}
use Rattle.text_scan.specs.declared.scanner.ScanStatus.TheVariants.{Reading}
use Rattle.text_scan.specs.Block.{IsNumberAtFront, AreNumbersAtFront}
use Rattle.text_scan.specs.Lexer.{Lex, after, after_letter, begins_word}
use Rattle.text_scan.specs.Scan.{Scan, TookNumber, TookNumbers, passed}
use Rattle.text_scan.proofs.Block.{take_take}
use Rattle.text_scan.proofs.Kept.{signed_number-take}
use Rattle.text_scan.proofs.WordAhead.{or_left, unread_run, unread_front}

-- behind a token of a line, and behind its end
abbrev pub lex_of : ℕ → ℕ → Bool → Lex
lex_of comment line ended =
    if ended then record { comment = comment; mode = LineStart; line = line + 1; word = [] }
    else record { comment = comment; mode = Words; line = line; word = [] }

abbrev pub scan_of : ℕ → ℕ → ℕ → List ℕ → ℕ → Bool → Scan
scan_of comment line room unread given ended = record {
  lex = lex_of comment line ended;
  room = room;
  unread = unread;
  status = Reading;
  line = given;
}

abbrev pub line_of : List ℤ → ℕ → ℕ → ℕ
line_of [] line given = given
line_of (number ∷ numbers) line given = line

behind : (comment line blank : ℕ) → is_blank blank ≡ true → after (lex_of comment line false) blank
    ≡ lex_of comment line (is_line_end blank)
behind comment line blank is =
    elim (is_line_end blank) as (λ b. (if b then lex_of comment line true else if is_blank blank then lex_of comment line false
    else after_letter (lex_of comment line false) blank) ≡ lex_of comment line b) [
      | true ↦ refl
      | false ↦ ap (λ b. if b then lex_of comment line false else after_letter (lex_of comment line false) blank) is
    ]

-- a token that spells a number has a first byte, which is no blank
spelled : (token : List ℕ) (number : ℤ) → signed_number token ≡ Some number → token ≡ [] → ⊥
spelled token number is none = let no : None ≡ Some number = ap signed_number (sym none) ∙ is in cc

first_other : (size : ℕ) (bytes : List ℕ) → list_any is_blank (take size bytes) ≡ false → (take size bytes ≡ [] → ⊥)
    → is_blank (get_or bytes 0 0) ≡ false
first_other zero bytes letters some = absurd (some refl)
first_other (suc n) [] letters some = absurd (some refl)
first_other (suc n) (byte ∷ bytes) letters some = or_left (is_blank byte) (list_any is_blank (take n bytes)) letters

-- one number
module _ (comment line room : ℕ) (unread : List ℕ) (given window size : ℕ) (number : ℤ) (fits : window ≤ length unread)
    (under : window ≤ room)
    (is : IsNumberAtFront (take window unread) number size) where
  within : size < window
  within = let count = length-take window unread in omega (arith, is.within, count)

  front : take size unread ≡ take size (take window unread)
  front = let least : min window size ≡ size = omega (arith, within) in ap (λ n. take n unread) (sym least) ∙ take_take size window unread

  index : (k : ℕ) → k < window → get_or unread k 0 ≡ get_or (take window unread) k 0
  index k below = sym (get_or-take window unread k 0 below)

  letters : list_any is_blank (take size unread) ≡ false
  letters = ap (list_any is_blank) front ∙ is.letters

  blank : is_blank (get_or unread size 0) ≡ true
  blank = ap is_blank (index size within) ∙ is.blank

  next : after (lex_of comment line false) (get_or unread size 0) ≡ lex_of comment line (is_line_end (get_or unread size 0))
  next = behind comment line (get_or unread size 0) blank

  begins : begins_word (lex_of comment line false) (get_or unread 0 0) ≡ true
  begins =
      let other : is_blank (get_or unread 0 0) ≡ false = first_other size unread letters
      (λ none. spelled (take size (take window unread)) number is.number_is (sym front ∙ none)) in
      rw other refl

  pub one_number : TookNumber number line (scan_of comment line room unread given false)
      (scan_of comment line (room - (size + 1)) (drop (size + 1) unread) line (is_line_end (get_or unread size 0)))
  one_number = record {
    word = record { bytes = take 65 (take size unread); line = line };
    number_is = signed_number-take (take size unread) ∙ ap signed_number front ∙ is.number_is;
    small = is.small;
    line = refl;
    reading = refl;
    status = refl;
    gives = λ more. rw (← next) (unread_run (lex_of comment line false) room size unread begins letters (omega (arith, within, fits)) blank
        (omega (arith, within, under)) more);
    so_far = λ more. rw (← next) (unread_front (lex_of comment line false) size unread begins letters
        (omega (arith, within, fits)) blank more);
    gave = record { line = refl; less = omega (arith, within, under); sound = refl; fits = refl };
  }

same_line : (numbers : List ℤ) (line : ℕ) → line_of numbers line line ≡ line
same_line [] line = refl
same_line (number ∷ numbers) line = refl

-- no number comes behind the line end
none_behind : (numbers : List ℤ) (comment line room : ℕ) (unread bytes : List ℕ) (len : ℕ) (ended : Bool)
    → AreNumbersAtFront true numbers bytes len ended
    → TookNumbers numbers line (scan_of comment line room unread line true) (scan_of comment line (room - len) (drop len unread) line ended)
none_behind [] comment line room unread bytes len ended are =
    let none : room - 0 ≡ room = omega arith in
    rw (are.0, are.1, none) refl
none_behind (number ∷ numbers) comment line room unread bytes len ended are = absurd (true≢false are.0)

-- all of them
pub all_numbers : (numbers : List ℤ) (comment line room : ℕ) (unread : List ℕ) (given window len : ℕ) (ended : Bool)
    → window ≤ length unread
    → window ≤ room → AreNumbersAtFront false numbers (take window unread) len ended
    → TookNumbers numbers line (scan_of comment line room unread given false)
    (scan_of comment line (room - len) (drop len unread) (line_of numbers line given) ended)
all_numbers [] comment line room unread given window len ended fits under are =
    let none : room - 0 ≡ room = omega arith in
    rw (are.0, are.1, none) refl
all_numbers (number ∷ numbers) comment line room unread given window len ended fits under (start, size, is, rest, len_is, are) =
    let below = within comment line room unread given window size number fits under is in
    let index : get_or (take window unread) size 0 ≡ get_or unread size 0 = get_or-take window unread size 0 below in
    let size_is : size + 1 + rest ≡ len = sym len_is in
    let left : room - (size + 1) - rest ≡ room - len = omega (arith, len_is) in
    let gone : drop rest (drop (size + 1) unread) ≡ drop len unread = drop-drop rest (size + 1) unread ∙ ap (λ n. drop n unread) size_is in
    let whole : window ≡ size + 1 + (window - (size + 1)) = omega (arith, below) in
    let cut : drop (size + 1) (take window unread) ≡ take (window - (size + 1)) (drop (size + 1) unread) =
    ap (λ n. drop (size + 1) (take n unread)) whole ∙ drop-take (size + 1) (window - (size + 1)) unread in
    let later : AreNumbersAtFront (is_line_end (get_or unread size 0)) numbers (take (window - (size + 1)) (drop (size + 1) unread)) rest
    ended =
    subst (λ (l : List ℕ). AreNumbersAtFront (is_line_end (get_or unread size 0)) numbers l rest ended) cut
    (subst (λ (b : Bool). AreNumbersAtFront b numbers (drop (size + 1) (take window unread)) rest ended) (ap is_line_end index) are) in
    let others : (e : Bool) → AreNumbersAtFront e numbers (take (window - (size + 1)) (drop (size + 1) unread)) rest ended
    → TookNumbers numbers line (scan_of comment line (room - (size + 1)) (drop (size + 1) unread) line e)
    (scan_of comment line (room - (size + 1) - rest) (drop rest (drop (size + 1) unread)) line ended) =
    λ e. elim e as (λ e. AreNumbersAtFront e numbers (take (window - (size + 1)) (drop (size + 1) unread)) rest ended
    → TookNumbers numbers line (scan_of comment line (room - (size + 1)) (drop (size + 1) unread) line e)
    (scan_of comment line (room - (size + 1) - rest) (drop rest (drop (size + 1) unread)) line ended)) [
      | true ↦ λ behind. none_behind numbers comment line (room - (size + 1)) (drop (size + 1) unread)
          (take (window - (size + 1)) (drop (size + 1) unread)) rest ended behind
      | false ↦ λ behind. subst (λ (n : ℕ). TookNumbers numbers line
          (scan_of comment line (room - (size + 1)) (drop (size + 1) unread) line false)
          (scan_of comment line (room - (size + 1) - rest) (drop rest (drop (size + 1) unread)) n ended)) (same_line numbers line)
          (all_numbers numbers comment line (room - (size + 1)) (drop (size + 1) unread) line (window - (size + 1)) rest ended
          (omega (arith, length-drop (size + 1) unread, fits)) (omega (arith, under)) behind)
    ] in (
      scan_of comment line (room - (size + 1)) (drop (size + 1) unread) line (is_line_end (get_or unread size 0)),
      one_number comment line room unread given window size number fits under is,
      rw (← left, ← gone) (others (is_line_end (get_or unread size 0)) later),
    )

-- one more number at the end of those at the front
pub one_more_at_front : (before : Bool) (numbers : List ℤ) (number : ℤ) (bytes : List ℕ) (len size : ℕ)
    → AreNumbersAtFront before numbers bytes len false → IsNumberAtFront (drop len bytes) number size
    → AreNumbersAtFront before (numbers ++ number ∷ []) bytes (len + size + 1) (is_line_end (get_or (drop len bytes) size 0))
one_more_at_front before [] number bytes len size (none, still) is =
    let start : len ≡ 0 = none in
    let whole : 0 + size + 1 ≡ size + 1 + 0 = omega arith in
    rw start (sym still, size, rw start at is, 0, whole, (refl, refl))
one_more_at_front before (first ∷ numbers) number bytes len size (still, own, at_front, rest, len_is, are) is =
    let same : drop rest (drop (own + 1) bytes) ≡ drop len bytes = drop-drop rest (own + 1) bytes ∙ ap (λ n. drop n bytes) (sym len_is) in
    let total : len + size + 1 ≡ own + 1 + (rest + size + 1) = omega (arith, len_is) in (
      still,
      own,
      at_front,
      rest + size + 1,
      total,
      rw (← same) (one_more_at_front (is_line_end (get_or bytes own 0)) numbers number (drop (own + 1) bytes) rest size are
          (rw (← same) at is)),
    )

-- the numbers lie within the bytes
pub within_front : (before : Bool) (numbers : List ℤ) (bytes : List ℕ) (len : ℕ) (after : Bool)
    → AreNumbersAtFront before numbers bytes len after
    → len ≤ length bytes
within_front before [] bytes len after are = omega (arith, are.0)
within_front before (number ∷ numbers) bytes len after (start, size, is, rest, len_is, are) =
    omega (
      arith,
      is.within,
      len_is,
      within_front (is_line_end (get_or bytes size 0)) numbers (drop (size + 1) bytes) rest after are,
      length-drop (size + 1) bytes,
    )

-- a line end stands behind a number
pub ended_some : (numbers : List ℤ) (bytes : List ℕ) (len : ℕ) → AreNumbersAtFront false numbers bytes len true → 0 < len
ended_some [] bytes len are = absurd (true≢false are.1)
ended_some (number ∷ numbers) bytes len (start, size, is, rest, len_is, are) = omega (arith, len_is)

-- a scanner behind a token of a line, and what is passed from there
scan_is : (scan : Scan) → scan.status ≡ Reading → scan.lex.mode ≡ Words → scan.lex.word ≡ []
    → scan ≡ scan_of scan.lex.comment scan.lex.line scan.room scan.unread scan.line false
scan_is scan reading mode word = λ i. record {
  lex = record { comment = scan.lex.comment; mode = mode i; line = scan.lex.line; word = word i };
  room = scan.room;
  unread = scan.unread;
  status = reading i;
  line = scan.line;
}

line_is : (numbers : List ℤ) (line given : ℕ) → line_of numbers line given ≡ (if nat_lt 0 (length numbers) then line else given)
line_is [] line given = refl
line_is (number ∷ numbers) line given =
    let some : nat_lt 0 (length (number ∷ numbers)) ≡ true = grind (arith, nat_tests) in
    sym (ap (λ b. if b then line else given) some)

lex_is : (lex : Lex) (ended : Bool) → lex.mode ≡ Words → lex.word ≡ [] → lex_of lex.comment lex.line ended
    ≡ (if ended then record { comment = lex.comment; mode = LineStart; line = lex.line + 1; word = [] } else lex)
lex_is lex true mode word = refl
lex_is lex false mode word = λ i. record { comment = lex.comment; mode = sym mode i; line = lex.line; word = sym word i }

pub numbers_run : (scan : Scan) (numbers : List ℤ) (window len : ℕ) (ended : Bool) → scan.status ≡ Reading → scan.lex.mode ≡ Words
    → scan.lex.word ≡ [] → window ≤ length scan.unread → window ≤ scan.room
    → AreNumbersAtFront false numbers (take window scan.unread) len ended
    → TookNumbers numbers scan.lex.line scan (passed scan (nat_lt 0 (length numbers)) len ended)
numbers_run scan numbers window len ended reading mode word fits under are =
    let run = all_numbers numbers scan.lex.comment scan.lex.line scan.room scan.unread scan.line window len ended fits under are in
    let end : scan_of scan.lex.comment scan.lex.line (scan.room - len) (drop len scan.unread) (line_of numbers scan.lex.line scan.line)
    ended
    ≡ passed scan (nat_lt 0 (length numbers)) len ended = λ i. record {
      lex = lex_is scan.lex ended mode word i;
      room = scan.room - len;
      unread = drop len scan.unread;
      status = sym reading i;
      line = line_is numbers scan.lex.line scan.line i;
    } in
    subst (TookNumbers numbers scan.lex.line scan) end
    (subst (λ (s : Scan). TookNumbers numbers scan.lex.line s
    (scan_of scan.lex.comment scan.lex.line (scan.room - len) (drop len scan.unread) (line_of numbers scan.lex.line scan.line) ended))
    (sym (scan_is scan reading mode word)) run)

-- the window of a block is the front of what is unread
pub window_is : (block : List ℕ) (at stop end : ℕ) → at ≤ stop → stop ≤ end → end ≤ length block
    → take (stop - at) (drop at block) ≡ take (stop - at) (drop at (take end block))
window_is block at stop end before inside fits =
    let whole : end ≡ at + (end - at) = omega (arith, before, inside) in
    let least : min (end - at) (stop - at) ≡ stop - at = omega (arith, inside) in
    let unread_is : drop at (take end block) ≡ take (end - at) (drop at block) = ap (λ n. drop at (take n block)) whole
    ∙ drop-take at (end - at) block in
    ap (λ n. take n (drop at block)) (sym least) ∙ take_take (stop - at) (end - at) (drop at block) ∙ ap (take (stop - at)) (sym unread_is)

-- numbers at the front of a window of the block, seen from what is unread
module _ (scan : Scan) (block : List ℕ) (at stop end room : ℕ) (numbers : List ℤ) (len : ℕ) (ended : Bool)
    (unread_is : scan.unread ≡ drop at (take end block)) (room_is : scan.room ≡ room - at) (before : at ≤ stop) (stop_is : stop
    ≡ min end room)
    (fits : end ≤ length block) (are : AreNumbersAtFront false numbers (take (stop - at) (drop at block)) len ended) where
  size : length scan.unread ≡ end - at
  size = ap length unread_is ∙ length-drop at (take end block) ∙ omega (arith, length-take end block, fits)

  short : len ≤ stop - at
  short = omega (
    arith,
    within_front false numbers (take (stop - at) (drop at block)) len ended are,
    length-take (stop - at) (drop at block),
  )

  pub in_unread : len ≤ length scan.unread
  in_unread = omega (arith, size, short, stop_is)

  pub in_room : len ≤ scan.room
  in_room = omega (arith, room_is, short, stop_is)

  pub block_numbers : scan.status ≡ Reading → scan.lex.mode ≡ Words → scan.lex.word ≡ []
      → TookNumbers numbers scan.lex.line scan (passed scan (nat_lt 0 (length numbers)) len ended)
  block_numbers reading mode word =
      let inside : stop ≤ end = omega (arith, stop_is) in
      let same : take (stop - at) (drop at block) ≡ take (stop - at) scan.unread =
      window_is block at stop end before inside fits ∙ ap (take (stop - at)) (sym unread_is) in
      numbers_run scan numbers (stop - at) len ended reading mode word (omega (arith, size, stop_is)) (omega (arith, room_is, stop_is))
      (subst (λ (l : List ℕ). AreNumbersAtFront false numbers l len ended) same are)
