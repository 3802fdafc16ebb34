-- The numbers at the front of the window are those of the tokens ahead.
use Rattle.std.proofs.Common.{◌≡◌, ◌≤◌, ℤ, List, [], length, take, sym, ◌∙◌, ap, subst, arith, length-take}
use Rattle.std.specs.Prelude.{nat_lt}
use Rattle.text_scan.specs.declared.lexer.LexerMode.TheVariants.{Words}
use Rattle.text_scan.specs.Scan.{Scan, TookNumbers, passed}
use Rattle.text_scan.proofs.NumbersAhead.{in_unread, in_room, block_numbers}
use Rattle.text_scan.proofs.scanner.Scanner.numbers_on.Goals as goal

pub pass_numbers-requires-clause-unread : goal.pass_numbers-requires-clause-unread
pass_numbers-requires-clause-unread c = let s = c.self.inside in
    let fits : s.end ≤ length s.block = omega (arith, c.self.invariant.size, c.self.invariant.in_block) in
    in_unread c.args.self.now s.block s.at s.stop s.end s.room (take c.numbers_at_front-count.result.0 c.numbers_at_front-count.new.places)
    c.numbers_at_front-count.result.1 c.numbers_at_front-count.result.2
    (sym (ap (λ (scan : Scan). scan.unread) c.self.view_is)) (sym (ap (λ (scan : Scan). scan.room) c.self.view_is))
    c.self.invariant.at_most_stop c.self.invariant.stop_is fits c.numbers_at_front-count.ensures.front

pub pass_numbers-requires-clause-room : goal.pass_numbers-requires-clause-room
pass_numbers-requires-clause-room c = let s = c.self.inside in
    let fits : s.end ≤ length s.block = omega (arith, c.self.invariant.size, c.self.invariant.in_block) in
    in_room c.args.self.now s.block s.at s.stop s.end s.room (take c.numbers_at_front-count.result.0 c.numbers_at_front-count.new.places)
    c.numbers_at_front-count.result.1 c.numbers_at_front-count.result.2
    (sym (ap (λ (scan : Scan). scan.unread) c.self.view_is)) (sym (ap (λ (scan : Scan). scan.room) c.self.view_is))
    c.self.invariant.at_most_stop c.self.invariant.stop_is fits c.numbers_at_front-count.ensures.front

pub returns-clause-took : goal.returns-clause-took
returns-clause-took c = let s = c.self.inside in
    let fits : s.end ≤ length s.block = omega (arith, c.self.invariant.size, c.self.invariant.in_block) in
    let now : Scan = c.args.self.now in
    let numbers : List ℤ = take c.numbers_at_front-count.result.0 c.numbers_at_front-count.new.places in
    let len = c.numbers_at_front-count.result.1 in
    let ended = c.numbers_at_front-count.result.2 in
    let mode : now.lex.mode ≡ Words = sym (ap (λ (scan : Scan). scan.lex.mode) c.self.view_is)
    ∙ c.is_between_words.ensures.mode c.if-not-is_between_words.false in
    let word : now.lex.word ≡ [] = sym (ap (λ (scan : Scan). scan.lex.word) c.self.view_is)
    ∙ c.is_between_words.ensures.word c.if-not-is_between_words.false in
    let count : length numbers ≡ c.numbers_at_front-count.result.0 =
    length-take c.numbers_at_front-count.result.0 c.numbers_at_front-count.new.places
    ∙ omega (arith, c.numbers_at_front-count.ensures.within) in
    let run = block_numbers now s.block s.at s.stop s.end s.room numbers len ended
    (sym (ap (λ (scan : Scan). scan.unread) c.self.view_is)) (sym (ap (λ (scan : Scan). scan.room) c.self.view_is))
    c.self.invariant.at_most_stop c.self.invariant.stop_is fits c.numbers_at_front-count.ensures.front
    (c.is_on.ensures.reading c.if-not-is_on.false) mode word in
    let same : passed now (nat_lt 0 (length numbers)) len ended ≡ c.pass_numbers.new.self =
    ap (λ n. passed now (nat_lt 0 n) len ended) count ∙ sym c.pass_numbers.ensures in
    subst (λ line. TookNumbers numbers line now c.pass_numbers.new.self) (c.is_on.ensures.line c.if-not-is_on.false)
    (subst (TookNumbers numbers now.lex.line now) same run)
