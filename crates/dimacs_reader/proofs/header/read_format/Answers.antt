-- An error of the scanner is handed on, and behind the token the front of the text is what its rest is.
use Rattle.std.proofs.Common.{◌≡◌, List, ℕ, true, refl, sym, ◌∙◌, ap, subst}
use Rattle.std.specs.Prelude.{codes}
use Rattle.text_scan.specs.Decides.{gained, gained-then, Decides-map, Decides-then}
use Rattle.text_scan.specs.Scan.{ahead, so_far}
use Rattle.dimacs_reader.specs.Answers.{error_of}
use Rattle.dimacs_reader.specs.Cnf.{is_word, after_format, after_p}
use Rattle.dimacs_reader.specs.Header.{HasFormat, Begins}
use Rattle.dimacs_reader.proofs.Judged.{error_is}
use Rattle.dimacs_reader.proofs.Began.{error_begins, error_so_far, front_of_next, behind_so_far, begins_behind}
use Rattle.dimacs_reader.proofs.header.read_format.Goals as goal

pub returns-in_err-next-clause-decides : goal.returns-in_err-next-clause-decides
returns-in_err-next-clause-decides g c = λ told.
    let error = error_is c.from_residual.result (error_of c.in_err-next.field-0.0) c.from_residual.ensures.1 in
    Decides-map (λ bytes more. Begins c.from_residual.result (after_p c.args.mode (ahead c.args.scanner.now bytes))
    (λ vars count. HasFormat (ahead c.args.scanner.now bytes) vars count (ahead c.next.new.self more)))
    (c.in_err-next.ensures.gives told)
    (λ bytes more q. error_begins (after_p c.args.mode) (λ line. refl) c.from_residual.result
    (λ vars count. HasFormat (ahead c.args.scanner.now bytes) vars count (ahead c.next.new.self more))
    c.in_err-next.field-0.0 c.next.new.self.line (ahead c.args.scanner.now bytes) (ahead c.next.new.self more) error q)

pub returns-in_err-next-clause-so_far : goal.returns-in_err-next-clause-so_far
returns-in_err-next-clause-so_far g c = λ told.
    let error = error_is c.from_residual.result (error_of c.in_err-next.field-0.0) c.from_residual.ensures.1 in
    error_so_far (after_p c.args.mode) (λ line. refl) c.from_residual.result c.in_err-next.field-0.0 c.args.scanner.now c.next.new.self
    (gained (g.S.Source.channel c.args.source.now) (g.S.Source.channel c.next.new.source)) error c.requires
    c.in_err-next.ensures.stopped_answer (c.in_err-next.ensures.so_far told)

pub returns-then-is_word-clause-so_far : goal.returns-then-is_word-clause-so_far
returns-then-is_word-clause-so_far g c = λ told.
    let old = c.args.scanner.now in
    let mid = c.next.new.self in
    let first : List ℕ = gained (g.S.Source.channel c.args.source.now) (g.S.Source.channel c.next.new.source) in
    let is : is_word (codes "cnf") c.in-Some.token.bytes ≡ true = sym c.is_word.ensures ∙ c.if-is_word.true in
    let gives = rw c.in-Some.is at (c.in_ok-next.ensures.so_far told) in
    behind_so_far c.read_vars.result old mid c.read_vars.new.scanner (λ more. after_p c.args.mode (so_far old more))
    (λ more. after_format c.args.mode (so_far mid more))
    first (gained (g.S.Source.channel c.next.new.source) (g.S.Source.channel c.read_vars.new.source))
    (gained (g.S.Source.channel c.args.source.now) (g.S.Source.channel c.read_vars.new.source))
    (gained-then (c.in_ok-next.ensures.gives told) (c.read_vars.ensures.decides told))
    (front_of_next old mid c.in-Some.token first (after_p c.args.mode) (after_format c.args.mode)
    (λ items. rw is refl) c.next.ensures.stopped_scanner gives)
    (c.read_vars.ensures.so_far told)

pub returns-then-is_word-clause-decides : goal.returns-then-is_word-clause-decides
returns-then-is_word-clause-decides g c = λ told.
    let old = c.args.scanner.now in
    let last = c.read_vars.new.scanner in
    let is : is_word (codes "cnf") c.in-Some.token.bytes ≡ true = sym c.is_word.ensures ∙ c.if-is_word.true in
    Decides-then (λ bytes more. Begins c.read_vars.result (after_p c.args.mode (ahead old bytes))
    (λ vars count. HasFormat (ahead old bytes) vars count (ahead last more))) (rw c.in-Some.is at (c.in_ok-next.ensures.gives told))
    (c.read_vars.ensures.decides told)
    (λ bytes middle more p q. begins_behind c.read_vars.result _ _ _ _ (ap (after_p c.args.mode) p ∙ rw is refl)
    (λ vars count h. subst (λ items. HasFormat items vars count (ahead last more)) (sym p) (is, h)) q)
