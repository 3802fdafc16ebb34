-- The end isn't reached exactly where something is left.
use Rattle.std.proofs.Common.{arith}
use Rattle.text_scan.proofs.Block.{has_bytes-drop}
use Rattle.text_scan.proofs.scanner.Scanner.has_unread.Goals as goal

pub returns : goal.returns
returns c = rw (← c.self.view_is) (has_bytes-drop c.self.inside.block c.self.inside.at c.self.inside.end (omega arith))
