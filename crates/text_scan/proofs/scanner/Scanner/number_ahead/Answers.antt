-- What is seen in the window is so in what is unread.
use Rattle.std.proofs.Common.{◌≤◌, take, drop, length, w64, arith, refl, sym, ◌∙◌, ap}
use Rattle.std.proofs.lemmas.Int.{to_z-of_z}
use Rattle.std.specs.List.{list_any}
use Rattle.cnf_base.specs.Number.{signed_number}
use Rattle.cnf_base.specs.Text.{is_blank}
use Rattle.text_scan.specs.Lexer.{begins_word}
use Rattle.text_scan.proofs.Kept.{signed_number-take}
use Rattle.text_scan.proofs.NumberAhead.{small_fits}
use Rattle.text_scan.proofs.WordAhead.{unread_length, window_front, window_index, in_window}
use Rattle.text_scan.proofs.scanner.Scanner.number_ahead.Goals as goal

pub returns : goal.returns
returns c = let s = c.self.inside in
    let len = c.in_ok-number.len in
    let is = c.in_ok-number.ensures.front in
    let before : s.at ≤ s.stop = c.self.invariant.at_most_stop in
    let inside : s.stop ≤ s.end = omega (arith, c.self.invariant.stop_is) in
    let fits : s.end ≤ length s.block = omega (arith, c.self.invariant.size, c.self.invariant.in_block) in
    let size = unread_length s.block s.at s.stop s.end len before inside fits is.within in
    let there = in_window s.block s.at s.stop s.end len before inside fits is.within in
    let front = window_front s.block s.at s.stop s.end len before inside fits is.within in
    let index = window_index s.block s.at s.stop s.end len before inside fits is.within in
    rw (← c.self.view_is, to_z-of_z w64 c.in_ok-number.number (small_fits c.in_ok-number.number is.small)) (record {
      ahead = record {
        begins = ap (begins_word s.lexer) (index 0 (omega arith)) ∙ sym c.begins_word.ensures ∙ c.if-not-begins_word.false;
        letters = ap (list_any is_blank) front ∙ is.letters;
        within = omega (arith, size, there, inside);
        blank = ap is_blank (index len (omega arith)) ∙ is.blank;
        under = omega (arith, there, c.self.invariant.stop_is);
        line_fits = omega (arith, there, c.self.invariant.stop_is, c.self.invariant.line_fits);
        word_is = refl;
      };
      number_is = signed_number-take (take len (drop s.at (take s.end s.block))) ∙ ap signed_number front ∙ is.number_is;
      small = is.small;
    })
