-- An error of the scanner is handed on, and behind the token the front of the text is what its rest is.
use Rattle.std.proofs.Common.{◌≡◌, ℕ, List, Some, refl, sym, ◌∙◌, false, arith, ap, subst}
use Rattle.std.specs.Prelude.{nat_lt}
use Rattle.cnf_base.specs.Number.{plain_number}
use Rattle.text_scan.specs.Decides.{gained, gained-then, Decides-map, Decides-then}
use Rattle.text_scan.specs.Scan.{ahead, so_far}
use Rattle.dimacs_reader.specs.Answers.{error_of}
use Rattle.dimacs_reader.specs.Cnf.{max_vars, after_vars, after_format}
use Rattle.dimacs_reader.specs.Header.{HasVars, Begins}
use Rattle.dimacs_reader.proofs.Judged.{error_is}
use Rattle.dimacs_reader.proofs.Began.{error_begins, error_so_far, uncapped, front_of_next, behind_so_far, begins_behind}
use Rattle.dimacs_reader.proofs.header.read_vars.Goals as goal

pub returns-in_err-next-clause-decides : goal.returns-in_err-next-clause-decides
returns-in_err-next-clause-decides g c = λ told.
    let error = error_is c.from_residual.result (error_of c.in_err-next.field-0.0) c.from_residual.ensures.1 in
    Decides-map (λ bytes more. Begins c.from_residual.result (after_format c.args.mode (ahead c.args.scanner.now bytes))
    (λ vars count. HasVars (ahead c.args.scanner.now bytes) vars count (ahead c.next.new.self more))) (c.in_err-next.ensures.gives told)
    (λ bytes more q. error_begins (after_format c.args.mode) (λ line. refl) c.from_residual.result
    (λ vars count. HasVars (ahead c.args.scanner.now bytes) vars count (ahead c.next.new.self more))
    c.in_err-next.field-0.0 c.next.new.self.line (ahead c.args.scanner.now bytes) (ahead c.next.new.self more) error q)

pub returns-in_err-next-clause-so_far : goal.returns-in_err-next-clause-so_far
returns-in_err-next-clause-so_far g c = λ told.
    let error = error_is c.from_residual.result (error_of c.in_err-next.field-0.0) c.from_residual.ensures.1 in
    error_so_far (after_format c.args.mode) (λ line. refl) c.from_residual.result c.in_err-next.field-0.0 c.args.scanner.now c.next.new.self
    (gained (g.S.Source.channel c.args.source.now) (g.S.Source.channel c.next.new.source)) error c.requires
    c.in_err-next.ensures.stopped_answer (c.in_err-next.ensures.so_far told)

pub returns-else-vars-gt-MAX_VARS-clause-so_far : goal.returns-else-vars-gt-MAX_VARS-clause-so_far
returns-else-vars-gt-MAX_VARS-clause-so_far g c = λ told.
    let old = c.args.scanner.now in
    let mid = c.next.new.self in
    let vars = c.in-Some-plain_number.vars in
    let first : List ℕ = gained (g.S.Source.channel c.args.source.now) (g.S.Source.channel c.next.new.source) in
    let number : plain_number c.in-Some.token.bytes ≡ Some vars = uncapped (plain_number c.in-Some.token.bytes) vars
    (sym c.plain_number.ensures.value ∙ c.in-Some-plain_number.is) (omega arith) in
    let within : nat_lt max_vars vars ≡ false = grind arith in
    let gives = rw c.in-Some.is at (c.in_ok-next.ensures.so_far told) in
    behind_so_far c.read_count.result old mid c.read_count.new.scanner (λ more. after_format c.args.mode (so_far old more))
    (λ more. after_vars c.args.mode vars (so_far mid more))
    first (gained (g.S.Source.channel c.next.new.source) (g.S.Source.channel c.read_count.new.source))
    (gained (g.S.Source.channel c.args.source.now) (g.S.Source.channel c.read_count.new.source))
    (gained-then (c.in_ok-next.ensures.gives told) (c.read_count.ensures.decides told))
    (front_of_next old mid c.in-Some.token first (after_format c.args.mode) (after_vars c.args.mode vars)
    (λ items. rw (number, within) refl) c.next.ensures.stopped_scanner gives)
    (c.read_count.ensures.so_far told)

pub returns-else-vars-gt-MAX_VARS-clause-decides : goal.returns-else-vars-gt-MAX_VARS-clause-decides
returns-else-vars-gt-MAX_VARS-clause-decides g c = λ told.
    let old = c.args.scanner.now in
    let last = c.read_count.new.scanner in
    let vars = c.in-Some-plain_number.vars in
    let number : plain_number c.in-Some.token.bytes ≡ Some vars = uncapped (plain_number c.in-Some.token.bytes) vars
    (sym c.plain_number.ensures.value ∙ c.in-Some-plain_number.is) (omega arith) in
    let within : nat_lt max_vars vars ≡ false = grind arith in
    Decides-then (λ bytes more. Begins c.read_count.result (after_format c.args.mode (ahead old bytes))
    (λ vars count. HasVars (ahead old bytes) vars count (ahead last more))) (rw c.in-Some.is at (c.in_ok-next.ensures.gives told))
    (c.read_count.ensures.decides told)
    (λ bytes middle more p q. begins_behind c.read_count.result _ _ _ _ (ap (after_format c.args.mode) p ∙ rw (number, within) refl)
    (λ vars count h. subst (λ items. HasVars items vars count (ahead last more)) (sym p) (number ∙ ap Some (sym h.0), rw h.0 (omega arith), h.1)) q)
