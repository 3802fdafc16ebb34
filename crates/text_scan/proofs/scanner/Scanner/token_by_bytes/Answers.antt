-- Each byte is one step of the lexer.
use Rattle.std.proofs.Common.{◌∙◌, sym}
use Rattle.text_scan.proofs.Turn.{turn_goes_on, turn_ends, turn_ends_front, less_room, block_goes_on}
use Rattle.text_scan.proofs.scanner.Scanner.token_by_bytes.Goals as goal

pub returns-then-ends_word-clause-found : goal.returns-then-ends_word-clause-found
returns-then-ends_word-clause-found c = let s = c.loop-self.self-inside in λ _ more.
    rw c.word.ensures (turn_ends _ s.lexer s.block s.at s.stop s.end s.room c.loop-self.invariant.turn c.loop-self.invariant.block
    c.loop-self-test.true
    c.take.new.self c.take.ensures (sym c.ends_word.ensures ∙ c.if-ends_word.true) more)

pub returns-then-ends_word-clause-found_so_far : goal.returns-then-ends_word-clause-found_so_far
returns-then-ends_word-clause-found_so_far c = let s = c.loop-self.self-inside in λ _ more.
    rw c.word.ensures (turn_ends_front _ s.lexer s.block s.at s.stop s.end s.room c.loop-self.invariant.turn c.loop-self.invariant.block
    c.loop-self-test.true
    c.take.new.self c.take.ensures (sym c.ends_word.ensures ∙ c.if-ends_word.true) more)

pub returns-then-ends_word-clause-progress : goal.returns-then-ends_word-clause-progress
returns-then-ends_word-clause-progress c = let s = c.loop-self.self-inside in λ _.
    less_room _ s.lexer s.block s.at s.stop s.end s.room c.loop-self.invariant.turn c.loop-self.invariant.block c.loop-self-test.true

pub loop-self-preserved : goal.loop-self-preserved
loop-self-preserved c = let s = c.loop-self.self-inside in record {
  block = block_goes_on _ s.lexer s.block s.at s.stop s.end s.room c.loop-self.invariant.turn c.loop-self.invariant.block
      c.loop-self-test.true
      c.take-in-loop-self.new.self c.take-in-loop-self.ensures;
  turn = turn_goes_on _ s.lexer s.block s.at s.stop s.end s.room c.loop-self.invariant.turn c.loop-self.invariant.block
      c.loop-self-test.true
      c.take-in-loop-self.new.self c.take-in-loop-self.ensures (sym c.ends_word.ensures ∙ c.if-ends_word.false);
  status = c.loop-self.invariant.status;
  line = c.loop-self.invariant.line;
}
