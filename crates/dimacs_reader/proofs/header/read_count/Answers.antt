-- An error of the scanner is handed on.
use Rattle.std.proofs.Common.{◌≡◌, refl}
use Rattle.text_scan.specs.Decides.{gained, Decides-map}
use Rattle.text_scan.specs.Scan.{ahead}
use Rattle.dimacs_reader.specs.Answers.{error_of}
use Rattle.dimacs_reader.specs.Cnf.{after_vars}
use Rattle.dimacs_reader.specs.Header.{HasCount, Begins}
use Rattle.dimacs_reader.proofs.Judged.{error_is}
use Rattle.dimacs_reader.proofs.Began.{error_begins, error_so_far}
use Rattle.dimacs_reader.proofs.header.read_count.Goals as goal

pub returns-in_err-next-clause-decides : goal.returns-in_err-next-clause-decides
returns-in_err-next-clause-decides g c = λ told.
    let error = error_is c.from_residual.result (error_of c.in_err-next.field-0.0) c.from_residual.ensures.1 in
    Decides-map (λ bytes more. Begins c.from_residual.result (after_vars c.args.mode c.args.vars (ahead c.args.scanner.now bytes))
    (λ same count. (same ≡ c.args.vars) × HasCount (ahead c.args.scanner.now bytes) count (ahead c.next.new.self more)))
    (c.in_err-next.ensures.gives told)
    (λ bytes more q. error_begins (after_vars c.args.mode c.args.vars) (λ line. refl) c.from_residual.result
    (λ same count. (same ≡ c.args.vars) × HasCount (ahead c.args.scanner.now bytes) count (ahead c.next.new.self more))
    c.in_err-next.field-0.0 c.next.new.self.line (ahead c.args.scanner.now bytes) (ahead c.next.new.self more) error q)

pub returns-in_err-next-clause-so_far : goal.returns-in_err-next-clause-so_far
returns-in_err-next-clause-so_far g c = λ told.
    let error = error_is c.from_residual.result (error_of c.in_err-next.field-0.0) c.from_residual.ensures.1 in
    error_so_far (after_vars c.args.mode c.args.vars) (λ line. refl) c.from_residual.result c.in_err-next.field-0.0 c.args.scanner.now
    c.next.new.self
    (gained (g.S.Source.channel c.args.source.now) (g.S.Source.channel c.next.new.source)) error c.requires.sound
    c.in_err-next.ensures.stopped_answer (c.in_err-next.ensures.so_far told)
