-- What is ahead of a new scanner are the items of the text: the header decides, or the body behind it.
use Rattle.std.proofs.Common.{◌≡◌, length, Err, sym, ◌∙◌, ap, subst}
use Rattle.text_scan.specs.Items.{items}
use Rattle.text_scan.specs.Decides.{gained, Decides-map, Decides-then}
use Rattle.text_scan.specs.Scan.{ahead, so_far}
use Rattle.dimacs_reader.specs.declared.error.CnfError.TheVariants.{ReadFault, OutOfMemory}
use Rattle.dimacs_reader.specs.Header.{HasHeader}
use Rattle.dimacs_reader.specs.Answers.{Answers, WantsMemory}
use Rattle.dimacs_reader.specs.Cnf.{formula, max_bytes, body, cnf_of, cnf}
use Rattle.dimacs_reader.proofs.Judged.{error_is, undecided_behind}
use Rattle.dimacs_reader.proofs.Began.{began_body, began_wants, began_answers}
use Rattle.dimacs_reader.proofs.header.read_cnf.Goals as goal

pub returns-clause-decides : goal.returns-clause-decides
returns-clause-decides g c = λ told. Decides-then (λ bytes more. cnf c.args.mode bytes
    ≡ formula c.in_ok-cnf.cnf) (c.in_ok-body.ensures.decides told) (c.in_ok-cnf.ensures.decides told)
    (λ bytes middle more p q. sym (ap (cnf_of c.args.mode) (c.new-scanner.ensures.items bytes))
    ∙ began_body c.args.mode c.in_ok-body.body (cnf_of c.args.mode (ahead c.new-scanner.result bytes)) (ahead c.new-scanner.result bytes)
    (ahead c.read_header.new.scanner middle) p c.in_ok-body.ensures.sound.1 ∙ q)

pub returns-in_err-body-clause-decides : goal.returns-in_err-body-clause-decides
returns-in_err-body-clause-decides g c = λ told.
    let error = error_is c.from_residual.result c.in_err-body.field-0.0 c.from_residual.ensures.1 in
    Decides-map (λ bytes more. Answers c.from_residual.result (cnf c.args.mode bytes)) (c.in_err-body.ensures.decides told)
    (λ bytes more q. subst (λ text. Answers c.from_residual.result text) (ap (cnf_of c.args.mode) (c.new-scanner.ensures.items bytes))
    (began_answers c.from_residual.result c.in_err-body.field-0.0 (cnf_of c.args.mode (ahead c.new-scanner.result bytes))
    (λ vars count. HasHeader (ahead c.new-scanner.result bytes) vars count (ahead c.read_header.new.scanner more)) error q))

pub returns-in_err-cnf-clause-decides : goal.returns-in_err-cnf-clause-decides
returns-in_err-cnf-clause-decides g c = λ told.
    let error = error_is c.from_residual-in_err-cnf.result c.in_err-cnf.field-0.0 c.from_residual-in_err-cnf.ensures.1 in
    Decides-then (λ bytes more. Answers c.from_residual-in_err-cnf.result (cnf c.args.mode bytes)) (c.in_ok-body.ensures.decides told)
    (c.in_err-cnf.ensures.decides told)
    (λ bytes middle more p q. subst (λ text. Answers c.from_residual-in_err-cnf.result text)
    (sym (began_body c.args.mode c.in_ok-body.body (cnf_of c.args.mode (ahead c.new-scanner.result bytes))
    (ahead c.new-scanner.result bytes) (ahead c.read_header.new.scanner middle) p c.in_ok-body.ensures.sound.1)
    ∙ ap (cnf_of c.args.mode) (c.new-scanner.ensures.items bytes)) (rw error q))

pub returns-in_err-cnf-clause-undecided : goal.returns-in_err-cnf-clause-undecided
returns-in_err-cnf-clause-undecided g c = λ told failed.
    let error = error_is c.from_residual-in_err-cnf.result c.in_err-cnf.field-0.0 c.from_residual-in_err-cnf.ensures.1 in
    let fault : c.in_err-cnf.field-0.0 ≡ ReadFault = cc in
    let last = c.in_err-cnf.ensures.undecided told (ap Err fault) in
    let before = c.in_ok-body.ensures.so_far told last.0 in
    sym (ap (cnf_of c.args.mode) (c.new-scanner.ensures.front (gained (g.S.Source.channel c.args.source.now)
    (g.S.Source.channel c.read_body.new.source))))
    ∙ undecided_behind (λ l. cnf_of c.args.mode (so_far c.new-scanner.result l))
    (λ l. body c.in_ok-body.body.mode (so_far c.read_header.new.scanner l) c.in_ok-body.body.count c.in_ok-body.body.draft)
    (c.in_ok-body.ensures.decides told) (c.in_err-cnf.ensures.decides told) before.1 last.1

pub returns-in_err-cnf-clause-memory : goal.returns-in_err-cnf-clause-memory
returns-in_err-cnf-clause-memory g c = λ told wanted.
    let error = error_is c.from_residual-in_err-cnf.result c.in_err-cnf.field-0.0 c.from_residual-in_err-cnf.ensures.1 in
    let memory : c.in_err-cnf.field-0.0 ≡ OutOfMemory = cc in
    Decides-then (λ bytes more. WantsMemory c.args.mode (length more) (items 99 max_bytes bytes)) (c.in_ok-body.ensures.decides told)
    (c.in_err-cnf.ensures.memory told (ap Err memory))
    (λ bytes middle more p q. subst (WantsMemory c.args.mode (length more)) (c.new-scanner.ensures.items bytes)
    (began_wants c.args.mode c.in_ok-body.body (cnf_of c.args.mode (ahead c.new-scanner.result bytes)) (length more)
    (ahead c.new-scanner.result bytes)
    (ahead c.read_header.new.scanner middle) (ahead c.read_body.new.scanner more) p c.in_ok-body.ensures.sound.1 q))
