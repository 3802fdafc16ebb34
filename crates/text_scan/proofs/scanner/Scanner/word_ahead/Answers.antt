-- What is seen in the window is so in what is unread.
use Rattle.std.proofs.Common.{ℕ, ◌-◌, ◌≤◌, List, take, drop, length, arith, sym, ◌∙◌, ap}
use Rattle.std.specs.List.{list_any}
use Rattle.cnf_base.specs.Text.{is_blank}
use Rattle.text_scan.specs.Lexer.{begins_word}
use Rattle.text_scan.proofs.WordAhead.{unread_length, window_front, window_index, in_window}
use Rattle.text_scan.proofs.scanner.Scanner.word_ahead.Goals as goal

pub returns : goal.returns
returns c = let s = c.self.inside in
    let len = c.letters-len.result in
    let within = c.if-len-window.false in
    let before : s.at ≤ s.stop = c.self.invariant.at_most_stop in
    let inside : s.stop ≤ s.end = omega (arith, c.self.invariant.stop_is) in
    let fits : s.end ≤ length s.block = omega (arith, c.self.invariant.size, c.self.invariant.in_block) in
    let size = unread_length s.block s.at s.stop s.end len before inside fits within in
    let there = in_window s.block s.at s.stop s.end len before inside fits within in
    let front = window_front s.block s.at s.stop s.end len before inside fits within in
    let index = window_index s.block s.at s.stop s.end len before inside fits within in
    rw (← c.self.view_is) (record {
      begins = ap (begins_word s.lexer) (index 0 (omega arith)) ∙ sym c.begins_word.ensures ∙ c.if-not-begins_word.false;
      letters = ap (list_any is_blank) front ∙ c.letters-len.ensures.none;
      within = omega (arith, size, there, inside);
      blank = ap is_blank (index len (omega arith)) ∙ c.letters-len.ensures.blank within;
      under = omega (arith, there, c.self.invariant.stop_is);
      line_fits = omega (arith, there, c.self.invariant.stop_is, c.self.invariant.line_fits);
      word_is = c.put_front.ensures
          ∙ ap (λ n. record { bytes = take 65 (take len (take (s.stop - s.at) (drop s.at s.block))); line = n }) c.line.ensures
          ∙ ap (λ (l : List ℕ). record { bytes = take 65 l; line = s.lexer.line }) (sym front);
    })
