-- So far no token ended, and the items from here on are those from the start on.
use Rattle.std.proofs.Common.{◌≡◌, ◌-◌, take, drop}
use Rattle.text_scan.specs.Block.{IsBlock}
use Rattle.text_scan.proofs.Turn.{IsTurn}
use Rattle.text_scan.proofs.scanner.Scanner.token_by_bytes.Given as goal

abbrev pub invariant-loop-self : goal.invariant-loop-self
invariant-loop-self l = record {
  block : IsBlock l.self-inside.block l.self-inside.at l.self-inside.stop l.self-inside.end l.self-inside.room l.self-inside.lexer.line;
  turn : IsTurn l.fn.self l.self-inside.lexer (l.self-inside.room - l.self-inside.at)
      (drop l.self-inside.at (take l.self-inside.end l.self-inside.block));
  status : l.self-inside.status ≡ l.fn.self.status;
  line : l.self-inside.line ≡ l.fn.self.line;
}

abbrev pub decreases-loop-self : goal.decreases-loop-self
decreases-loop-self l = l.self-inside.stop - l.self-inside.at
