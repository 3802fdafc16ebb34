-- A new scanner stands at the start of the text.
use Rattle.std.proofs.Math.Nat.{sub-zero}
use Rattle.text_scan.proofs.Bridge.{items_from-start, front_from-start}
use Rattle.text_scan.proofs.scanner.Scanner.new.Goals as goal

pub returns-clause-items : goal.returns-clause-items
returns-clause-items c = λ bytes. rw (c.new.ensures, sub-zero c.args.limit) (items_from-start c.args.comment c.args.limit bytes)

pub returns-clause-front : goal.returns-clause-front
returns-clause-front c = λ bytes. rw c.new.ensures (front_from-start c.args.comment bytes)
