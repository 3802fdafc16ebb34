-- The token that lies ahead is one step.
use Rattle.std.proofs.Common.{◌≤◌, length, arith, sym, ap}
use Rattle.text_scan.specs.Scan.{Scan}
use Rattle.text_scan.proofs.WordAhead.{block_run, block_front}
use Rattle.text_scan.proofs.scanner.Scanner.whole_token.Goals as goal

pub returns-clause-found : goal.returns-clause-found
returns-clause-found c = let s = c.self.inside in
    let fits : s.end ≤ length s.block = omega (arith, c.self.invariant.size, c.self.invariant.in_block) in
    λ _. block_run c.args.self.now s.lexer s.block s.at s.end s.room c.in-Some.len c.word_ahead.new.token c.pass_word.new.self
    c.in-Some.ensures
    (sym (ap (λ (scan : Scan). scan.lex) c.self.view_is)) (sym (ap (λ (scan : Scan). scan.unread) c.self.view_is))
    (sym (ap (λ (scan : Scan). scan.room) c.self.view_is)) fits c.pass_word.ensures

pub returns-clause-found_so_far : goal.returns-clause-found_so_far
returns-clause-found_so_far c = let s = c.self.inside in
    let fits : s.end ≤ length s.block = omega (arith, c.self.invariant.size, c.self.invariant.in_block) in
    λ _. block_front c.args.self.now s.lexer s.block s.at s.end c.in-Some.len c.word_ahead.new.token c.pass_word.new.self c.in-Some.ensures
    (sym (ap (λ (scan : Scan). scan.lex) c.self.view_is)) (sym (ap (λ (scan : Scan). scan.unread) c.self.view_is)) fits c.pass_word.ensures
