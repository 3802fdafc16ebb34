-- The token ahead stands on another line.
use Rattle.std.proofs.Common.{◌∙◌, ap}
use Rattle.text_scan.specs.Scan.{Scan}
use Rattle.text_scan.proofs.NumberAhead.{took_line, took_past}
use Rattle.text_scan.proofs.scanner.Scanner.number_past.Goals as goal

pub returns-clause-took : goal.returns-clause-took
returns-clause-took c = took_line c.take_number.result c.args.self.now c.take_number.new.self c.take_number.ensures.took

pub returns-clause-past : goal.returns-clause-past
returns-clause-past c =
    took_past c.take_number.result c.args.self.now c.take_number.new.self c.args.line
    (λ same. c.if-line.false (c.line.ensures ∙ ap (λ (scan : Scan). scan.lex.line) c.self.view_is ∙ same)) c.take_number.ensures.took
