-- The line that is judged gives the first of the steps ahead.
use Rattle.std.proofs.Common.{◌≡◌, ℕ, ◌≤◌, ◌==◌, List, ◌++◌, length, true, false, Err, sym, ap, ◌∙◌, arith, refl, subst}
use Rattle.std.specs.Prelude.{⊤, IsTrue}
use Rattle.std.proofs.lemmas.Bool.Decides.{nat_tests}
use Rattle.text_scan.specs.declared.scanner.ScanError.TheVariants.{ReadFault as ScanFault}
use Rattle.text_scan.specs.Items.{next_word}
use Rattle.lrat_text.specs.declared.error.StepError.TheVariants.{ReadFault, OutOfMemory}
use Rattle.lrat_text.specs.declared.reader.ReaderStatus.TheVariants.{Reading}
use Rattle.text_scan.specs.Decides.{gained, Decides-none, Decides-map, Decides-then, OnlyReads-then, gained-then, front-then}
use Rattle.text_scan.specs.Near.{is_near as are_near}
use Rattle.text_scan.specs.Scan.{Scan, given as answer, ahead, so_far as scan_so_far, is_reading as is_scanning, fuel}
use Rattle.lrat_text.specs.LineSteps.{broken_off}
use Rattle.lrat_text.specs.LineReader.{ReaderOf, with_token, drafted, Gives, given, so_far, steps_ahead, open_count}
use Rattle.lrat_text.specs.LineWants.{wants_after, wants_ahead, may_want, Spends, Leads}
use Rattle.lrat_text.proofs.GoesOn.{Stands-on, Stands-same, number_gives, number_so_far, number_spends, read_back}
use Rattle.lrat_text.proofs.SoFar.{given_err, scanned, scanned_fault, off_overlong, before_so_far, stopped_so_far, settled_memory, last_memory}
use Rattle.lrat_text.proofs.Wanted.{Leads-then, Leads-by, near_ahead, token_leads, token_wants, before_spends, end_spends, limit_spends}
use Rattle.lrat_text.proofs.Wanted.{handed_gives, handed_spends, led, call_spends}
use Rattle.lrat_text.proofs.Settled.{before_gives, end_gives, limit_gives, call_gives, token_goes, open_small}
use Rattle.lrat_text.proofs.reader.LineReader.read_on.Goals as goal
use Rattle.lrat_text.proofs.reader.LineReader.read_on.Goals.{else-is_begun-via-then-is_begun+else-line, else-is_begun-via-else-is_begun}

pub returns-then-line-clause-gives : goal.returns-then-line-clause-gives
returns-then-line-clause-gives g c =
    let form = g.F.LineForm.form in
    let stands = Stands-same form (c.in-None.ensures.none refl)
    (Stands-on form c.tokens.invariant.stands c.take_numbers.ensures.goes_on c.take_numbers.ensures.leads) in λ told.
    let old : ReaderOf _ = record {
      scan = c.next_into.new.self;
      draft = c.self-in-tokens.inside.draft;
      status = c.self-in-tokens.inside.status;
      line = c.self-in-tokens.inside.line;
    } in
    let gives = rw c.in-Ok-true.field-0-test at (c.in-Ok-true.ensures.gives told) in
    let begun : form.is_begun c.self-in-tokens.inside.draft ≡ true = sym c.is_begun.ensures ∙ c.if-is_begun.true in
    let differs : (form.line c.self-in-tokens.inside.draft == c.next_into.new.token.line) ≡ false = grind (arith, nat_tests) in
    call_gives form (given c.give_before.new.step c.give_before.result) c.args.self.now c.number_of_another_line.new.self c.give_before.new.self
    c.requires (stands.same told) gives
    (λ middle more q. rw (← c.self-in-tokens.view_is, q)
    (before_gives form (given c.give_before.new.step c.give_before.result) c.next_into.new.token old c.give_before.new.self
    c.give_before.ensures begun differs more))

pub returns-in-Ok-false-clause-gives : goal.returns-in-Ok-false-clause-gives
returns-in-Ok-false-clause-gives g c =
    let form = g.F.LineForm.form in
    let stands = Stands-same form (c.in-None.ensures.none refl)
    (Stands-on form c.tokens.invariant.stands c.take_numbers.ensures.goes_on c.take_numbers.ensures.leads) in λ told.
    let old : ReaderOf _ = record {
      scan = c.next_into.new.self;
      draft = c.self-in-tokens.inside.draft;
      status = c.self-in-tokens.inside.status;
      line = c.self-in-tokens.inside.line;
    } in
    let gives = rw c.in-Ok-false.field-0-test at (c.in-Ok-false.ensures.gives told) in
    let end = c.give_at_end.ensures in
    call_gives form (given c.give_at_end.new.step c.give_at_end.result) c.args.self.now c.number_of_another_line.new.self c.give_at_end.new.self
    c.requires (stands.same told) gives
    (λ middle more q. rw (← c.self-in-tokens.view_is, q.0)
    (end_gives form c.form_law.ensures.none_begun (given c.give_at_end.new.step c.give_at_end.result) old c.give_at_end.new.self end.last
    (λ h. ap (given c.give_at_end.new.step) (end.ended h)) end.stopped more q.1))

pub returns-in-Err-TooLong-clause-gives : goal.returns-in-Err-TooLong-clause-gives
returns-in-Err-TooLong-clause-gives g c =
    let form = g.F.LineForm.form in
    let stands = Stands-same form (c.in-None.ensures.none refl)
    (Stands-on form c.tokens.invariant.stands c.take_numbers.ensures.goes_on c.take_numbers.ensures.leads) in λ told.
    let old : ReaderOf _ = record {
      scan = c.next_into.new.self;
      draft = c.self-in-tokens.inside.draft;
      status = c.self-in-tokens.inside.status;
      line = c.self-in-tokens.inside.line;
    } in
    let gives = rw c.in-Err-TooLong.field-0-is at (c.in-Err-TooLong.ensures.gives told) in
    let limit = c.give_at_limit.ensures in
    call_gives form (given c.give_at_limit.new.step c.give_at_limit.result) c.args.self.now c.number_of_another_line.new.self
    c.give_at_limit.new.self c.requires (stands.same told) gives
    (λ middle more q. rw (← c.self-in-tokens.view_is, q.0)
    (limit_gives form c.form_law.ensures.none_begun (given c.give_at_limit.new.step c.give_at_limit.result) old c.give_at_limit.new.self limit.last
    (λ h. ap (given c.give_at_limit.new.step) (limit.over h)) limit.stopped more q.1))

pub tokens-preserved : goal.tokens-preserved
tokens-preserved g c =
    let form = g.F.LineForm.form in
    let stands = Stands-same form (c.in-None.ensures.none refl)
    (Stands-on form c.tokens.invariant.stands c.take_numbers.ensures.goes_on c.take_numbers.ensures.leads) in
    let old : ReaderOf _ = record {
      scan = c.next_into.new.self;
      draft = c.self-in-tokens.inside.draft;
      status = c.self-in-tokens.inside.status;
      line = c.self-in-tokens.inside.line;
    } in
    let joined : c.else-is_begun.self ≡ old =
    elim c.else-is_begun.branch [ else-is_begun-via-then-is_begun+else-line w ↦ w.self-is | else-is_begun-via-else-is_begun w ↦ w.self-is ] in
    let same : form.is_begun c.self-in-tokens.inside.draft ≡ true → (form.line c.self-in-tokens.inside.draft == c.next_into.new.token.line) ≡ true =
    elim c.else-is_begun.branch [
      | else-is_begun-via-then-is_begun+else-line w ↦ λ h. grind (arith, nat_tests)
      | else-is_begun-via-else-is_begun w ↦ λ h. cc
    ] in
    let moves = rw c.in-Ok-true.field-0-test at c.in-Ok-true.ensures.moves in
    let taken : c.take.new.self ≡ record {
      scan = c.next_into.new.self;
      draft = with_token form c.self-in-tokens.inside.draft c.next_into.new.token;
      status = c.self-in-tokens.inside.status;
      line = c.self-in-tokens.inside.line;
    } =
    c.in_ok-take-in-Ok-true.ensures.ok
    ∙ ap (λ (r : ReaderOf _). record { scan = r.scan; draft = with_token form r.draft c.next_into.new.token; status = r.status; line = r.line })
    joined in
    let small : open_count form c.take.new.self.draft ≤ 1 = open_small form c.take.new.self.draft in
    let after : fuel c.take.new.self.scan ≡ fuel c.next_into.new.self = ap (λ (r : ReaderOf _). fuel r.scan) taken in
    let before : fuel c.self-in-tokens.inside.scanner ≡ fuel c.number_of_another_line.new.self.scan = ap
    (λ (r : ReaderOf _). fuel r.scan) c.self-in-tokens.view_is in
    let new_scanning : is_scanning c.take.new.self.scan.status ≡ true → is_scanning c.next_into.new.self.status ≡ true =
    λ reading. ap (λ (r : ReaderOf _). is_scanning r.scan.status) (sym taken) ∙ reading in
    let scanning : is_scanning c.take.new.self.scan.status ≡ true → is_scanning c.self-in-tokens.inside.scanner.status ≡ true =
    λ reading. scanned c.self-in-tokens.inside.scanner c.next_into.new.self c.in-Ok-true.ensures.stopped_scanner (new_scanning reading) in
    let old_scanning : is_scanning c.take.new.self.scan.status ≡ true → is_scanning c.number_of_another_line.new.self.scan.status ≡ true =
    λ reading. ap (λ (r : ReaderOf _). is_scanning r.scan.status) (sym c.self-in-tokens.view_is) ∙ scanning reading in
    record {
      stands = record {
        same = λ told.
            let gives = rw c.in-Ok-true.field-0-test at (c.in-Ok-true.ensures.gives told) in
            Decides-then (λ bytes more. drafted form (ahead c.args.self.now.scan bytes) c.args.self.now.draft
            ≡ drafted form (ahead c.take.new.self.scan more) c.take.new.self.draft)
            (stands.same told) gives
            (λ bytes middle more p q. p ∙ ap (λ (r : ReaderOf _). drafted form (ahead r.scan middle) r.draft) (sym c.self-in-tokens.view_is)
            ∙ ap (λ is. drafted form is c.self-in-tokens.inside.draft) q
            ∙ token_goes form c.self-in-tokens.inside.draft c.next_into.new.token (ahead c.next_into.new.self more) same
            ∙ ap (λ (r : ReaderOf _). drafted form (ahead r.scan more) r.draft) (sym taken));
        scanning = λ reading. stands.scanning (old_scanning reading);
        so_far = λ told reading.
            let token = rw c.in-Ok-true.field-0-test at (c.in-Ok-true.ensures.so_far told (scanning reading)) in
            let gives = c.in-Ok-true.ensures.gives told in
            front-then (so_far form c.args.self.now) (so_far form c.number_of_another_line.new.self) (so_far form c.take.new.self)
            (stands.same told) gives (stands.so_far told (old_scanning reading))
            (λ more. ap (λ (r : ReaderOf _). drafted form (broken_off (scan_so_far r.scan
            (gained (g.S.Source.channel c.tokens.source) (g.S.Source.channel c.next_into.new.source) ++ more))) r.draft)
            (sym c.self-in-tokens.view_is)
            ∙ ap (λ is. drafted form (broken_off is) c.self-in-tokens.inside.draft) (token (new_scanning reading) more)
            ∙ token_goes form c.self-in-tokens.inside.draft c.next_into.new.token (broken_off (scan_so_far c.next_into.new.self more)) same
            ∙ ap (λ (r : ReaderOf _). drafted form (broken_off (scan_so_far r.scan more)) r.draft) (sym taken));
        leads = λ told.
            let gives = rw c.in-Ok-true.field-0-test at (c.in-Ok-true.ensures.gives told) in
            Decides-then (λ bytes more. Leads (wants_ahead form c.args.self.now bytes) (wants_ahead form c.take.new.self more))
            (stands.leads told) gives
            (λ bytes middle more p q. Leads-then p (Leads-by
            (ap (λ (r : ReaderOf _). wants_ahead form r middle) (sym c.self-in-tokens.view_is)
            ∙ ap (λ is. wants_after form is c.self-in-tokens.inside.draft) q)
            (token_leads form c.self-in-tokens.inside.draft c.next_into.new.token (ahead c.next_into.new.self more) same)
            (ap (λ (r : ReaderOf _). wants_ahead form r more) (sym taken))));
        status = ap (λ (r : ReaderOf _). r.status) taken ∙ ap (λ (r : ReaderOf _). r.status) c.self-in-tokens.view_is ∙ stands.status;
        line = ap (λ (r : ReaderOf _). r.line) taken ∙ ap (λ (r : ReaderOf _). r.line) c.self-in-tokens.view_is ∙ stands.line;
        less = omega (arith, moves.less, stands.less);
      };
      reads = OnlyReads-then c.tokens.invariant.reads c.next_into.ensures.reads;
      unfailed = c.in-Ok-true.ensures.unfailed (λ e. cc) ∙ c.tokens.invariant.unfailed;
      beside = c.next_into.ensures.beside ∙ c.tokens.invariant.beside;
    }

pub returns-in-Err-ReadFault-clause-gives : goal.returns-in-Err-ReadFault-clause-gives
returns-in-Err-ReadFault-clause-gives g c =
    let form = g.F.LineForm.form in
    let stands = Stands-same form (c.in-None.ensures.none refl)
    (Stands-on form c.tokens.invariant.stands c.take_numbers.ensures.goes_on c.take_numbers.ensures.leads) in
    λ told. Decides-then (λ bytes more. ⊤) (stands.same told) (c.in-Err-ReadFault.ensures.gives told) (λ bytes middle more p q. tt)

pub returns-then-line-clause-so_far : goal.returns-then-line-clause-so_far
returns-then-line-clause-so_far g c =
    let form = g.F.LineForm.form in
    let stands = Stands-same form (c.in-None.ensures.none refl)
    (Stands-on form c.tokens.invariant.stands c.take_numbers.ensures.goes_on c.take_numbers.ensures.leads) in λ told.
    let old : ReaderOf _ = record {
      scan = c.next_into.new.self;
      draft = c.self-in-tokens.inside.draft;
      status = c.self-in-tokens.inside.status;
      line = c.self-in-tokens.inside.line;
    } in
    let begun : form.is_begun c.self-in-tokens.inside.draft ≡ true = sym c.is_begun.ensures ∙ c.if-is_begun.true in
    let differs : (form.line c.self-in-tokens.inside.draft == c.next_into.new.token.line) ≡ false = grind (arith, nat_tests) in
    let inside : is_scanning c.next_into.new.self.status ≡ true → is_scanning c.self-in-tokens.inside.scanner.status ≡ true =
    λ reading. scanned c.self-in-tokens.inside.scanner c.next_into.new.self c.in-Ok-true.ensures.stopped_scanner reading in
    let scanning : is_scanning c.next_into.new.self.status ≡ true → is_scanning c.number_of_another_line.new.self.scan.status ≡ true =
    λ reading. ap (λ (r : ReaderOf _). is_scanning r.scan.status) (sym c.self-in-tokens.view_is) ∙ inside reading in
    before_so_far form (given c.give_before.new.step c.give_before.result) c.next_into.new.token c.args.self.now old c.give_before.new.self
    (gained (g.S.Source.channel c.args.source.now) (g.S.Source.channel c.next_into.new.source))
    c.give_before.ensures begun differs (λ reading. stands.scanning (scanning reading)) (λ reading.
    let token = rw c.in-Ok-true.field-0-test at (c.in-Ok-true.ensures.so_far told (inside reading)) in
    front-then (so_far form c.args.self.now) (so_far form c.number_of_another_line.new.self)
    (λ more. drafted form (next_word c.next_into.new.token (broken_off (scan_so_far c.next_into.new.self more))) c.self-in-tokens.inside.draft)
    (stands.same told) (c.in-Ok-true.ensures.gives told) (stands.so_far told (scanning reading))
    (λ more. ap (λ (r : ReaderOf _). drafted form (broken_off (scan_so_far r.scan
    (gained (g.S.Source.channel c.tokens.source) (g.S.Source.channel c.next_into.new.source) ++ more))) r.draft)
    (sym c.self-in-tokens.view_is)
    ∙ ap (λ is. drafted form (broken_off is) c.self-in-tokens.inside.draft) (token reading more)))

pub returns-in-Ok-false-clause-so_far : goal.returns-in-Ok-false-clause-so_far
returns-in-Ok-false-clause-so_far g c =
    let form = g.F.LineForm.form in
    let stands = Stands-same form (c.in-None.ensures.none refl)
    (Stands-on form c.tokens.invariant.stands c.take_numbers.ensures.goes_on c.take_numbers.ensures.leads) in λ told.
    let moves = rw c.in-Ok-false.field-0-test at c.in-Ok-false.ensures.moves in
    let stopped : is_scanning c.give_at_end.new.self.scan.status
    ≡ false = ap (λ (s : Scan). is_scanning s.status) c.give_at_end.ensures.same_scan ∙ ap is_scanning moves in
    stopped_so_far form (given c.give_at_end.new.step c.give_at_end.result) c.args.self.now c.give_at_end.new.self _ stopped
    (λ e. c.give_at_end.ensures.unfailed (given_err c.give_at_end.new.step c.give_at_end.result ReadFault e))

pub returns-in-Err-TooLong-clause-so_far : goal.returns-in-Err-TooLong-clause-so_far
returns-in-Err-TooLong-clause-so_far g c =
    let form = g.F.LineForm.form in
    let stands = Stands-same form (c.in-None.ensures.none refl)
    (Stands-on form c.tokens.invariant.stands c.take_numbers.ensures.goes_on c.take_numbers.ensures.leads) in λ told.
    let moves = rw c.in-Err-TooLong.field-0-is at c.in-Err-TooLong.ensures.moves in
    let stopped : is_scanning c.give_at_limit.new.self.scan.status
    ≡ false = ap (λ (s : Scan). is_scanning s.status) c.give_at_limit.ensures.same_scan ∙ ap is_scanning moves in
    stopped_so_far form (given c.give_at_limit.new.step c.give_at_limit.result) c.args.self.now c.give_at_limit.new.self _ stopped
    (λ e. c.give_at_limit.ensures.unfailed (given_err c.give_at_limit.new.step c.give_at_limit.result ReadFault e))

pub returns-in-Err-ReadFault-clause-so_far : goal.returns-in-Err-ReadFault-clause-so_far
returns-in-Err-ReadFault-clause-so_far g c =
    let form = g.F.LineForm.form in
    let stands = Stands-same form (c.in-None.ensures.none refl)
    (Stands-on form c.tokens.invariant.stands c.take_numbers.ensures.goes_on c.take_numbers.ensures.leads) in λ told.
    let bytes : List ℕ = gained (g.S.Source.channel c.tokens.source) (g.S.Source.channel c.next_into.new.source) in
    let reading : c.self-in-tokens.inside.status ≡ Reading = ap (λ (r : ReaderOf _). r.status) c.self-in-tokens.view_is ∙ stands.status in
    let failed : answer c.next_into.new.token c.next_into.result
    ≡ Err ScanFault = ap (answer c.next_into.new.token) (c.in-Err-ReadFault.is ∙ ap Err c.in-Err-ReadFault.field-0-is) in
    let inside : is_scanning c.self-in-tokens.inside.scanner.status ≡ true =
    scanned_fault c.self-in-tokens.inside.scanner (c.self-in-tokens.invariant reading)
    (λ stopped. sym (c.next_into.ensures.stopped_answer stopped) ∙ failed) in
    let scanning : is_scanning c.number_of_another_line.new.self.scan.status
    ≡ true = ap (λ (r : ReaderOf _). is_scanning r.scan.status) (sym c.self-in-tokens.view_is) ∙ inside in
    let none = rw c.in-Err-ReadFault.field-0-is at (c.in-Err-ReadFault.ensures.so_far told inside) in (
      stands.scanning scanning,
      ap (so_far form c.args.self.now) (gained-then (stands.same told) (c.in-Err-ReadFault.ensures.gives told))
          ∙ stands.so_far told scanning bytes
          ∙ ap (λ (r : ReaderOf _). drafted form (broken_off (scan_so_far r.scan bytes)) r.draft) (sym c.self-in-tokens.view_is)
          ∙ ap (λ is. drafted form (broken_off is) c.self-in-tokens.inside.draft) none
          ∙ off_overlong form c.self-in-tokens.inside.draft c.next_into.new.self.lex.line,
    )

pub returns-in-Some-clause-gives : goal.returns-in-Some-clause-gives
returns-in-Some-clause-gives g c =
    let form = g.F.LineForm.form in
    λ told.
    let stands = Stands-on form c.tokens.invariant.stands c.take_numbers.ensures.goes_on c.take_numbers.ensures.leads in
    let begins = c.in-Some.ensures.some in
    let settles = rw (read_back c.in-Some.number begins.took.small) at c.give_before_number.ensures in
    let answered = given c.give_before_number.new.step c.give_before_number.result in
    call_gives form answered c.args.self.now c.take_numbers.new.self c.give_before_number.new.self c.requires (stands.same told)
    (Decides-none (g.S.Source.channel c.tokens.source) (λ bytes more. bytes ≡ more) (λ more. refl))
    (λ middle more q. subst (λ bytes. Gives answered c.give_before_number.new.self.line
    (drafted form (ahead c.take_numbers.new.self.scan bytes) c.take_numbers.new.self.draft) (steps_ahead form c.give_before_number.new.self more))
    (sym q)
    (number_gives form c.form_law.ensures c.in-Some.number c.take_numbers.new.self c.number_of_another_line.new.self c.give_before_number.new.self begins answered
    settles more))

pub returns-in-Some-clause-so_far : goal.returns-in-Some-clause-so_far
returns-in-Some-clause-so_far g c =
    let form = g.F.LineForm.form in
    λ told.
    let stands = Stands-on form c.tokens.invariant.stands c.take_numbers.ensures.goes_on c.take_numbers.ensures.leads in
    let begins = c.in-Some.ensures.some in
    let settles = rw (read_back c.in-Some.number begins.took.small) at c.give_before_number.ensures in
    number_so_far form c.form_law.ensures c.in-Some.number c.take_numbers.new.self c.number_of_another_line.new.self c.give_before_number.new.self begins
    (given c.give_before_number.new.step c.give_before_number.result) settles
    c.args.self.now (gained (g.S.Source.channel c.args.source.now) (g.S.Source.channel c.tokens.source)) stands.scanning
    (stands.so_far told)

pub returns-then-line-clause-spends : goal.returns-then-line-clause-spends
returns-then-line-clause-spends g c =
    let form = g.F.LineForm.form in
    let stands = Stands-same form (c.in-None.ensures.none refl)
    (Stands-on form c.tokens.invariant.stands c.take_numbers.ensures.goes_on c.take_numbers.ensures.leads) in λ told.
    let old : ReaderOf _ = record {
      scan = c.next_into.new.self;
      draft = c.self-in-tokens.inside.draft;
      status = c.self-in-tokens.inside.status;
      line = c.self-in-tokens.inside.line;
    } in
    let gives = rw c.in-Ok-true.field-0-test at (c.in-Ok-true.ensures.gives told) in
    let begun : form.is_begun c.self-in-tokens.inside.draft ≡ true = sym c.is_begun.ensures ∙ c.if-is_begun.true in
    let differs : (form.line c.self-in-tokens.inside.draft == c.next_into.new.token.line) ≡ false = grind (arith, nat_tests) in
    call_spends form (given c.give_before.new.step c.give_before.result) c.args.self.now c.number_of_another_line.new.self c.give_before.new.self
    (stands.leads told) gives
    (λ middle more q. rw (← c.self-in-tokens.view_is, q)
    (before_spends form (given c.give_before.new.step c.give_before.result) c.next_into.new.token old c.give_before.new.self
    c.give_before.ensures begun differs more (c.near_law-in-Ok-true.ensures more)))

pub returns-in-Ok-false-clause-spends : goal.returns-in-Ok-false-clause-spends
returns-in-Ok-false-clause-spends g c =
    let form = g.F.LineForm.form in
    let stands = Stands-same form (c.in-None.ensures.none refl)
    (Stands-on form c.tokens.invariant.stands c.take_numbers.ensures.goes_on c.take_numbers.ensures.leads) in λ told.
    let old : ReaderOf _ = record {
      scan = c.next_into.new.self;
      draft = c.self-in-tokens.inside.draft;
      status = c.self-in-tokens.inside.status;
      line = c.self-in-tokens.inside.line;
    } in
    let gives = rw c.in-Ok-false.field-0-test at (c.in-Ok-false.ensures.gives told) in
    let end = c.give_at_end.ensures in
    call_spends form (given c.give_at_end.new.step c.give_at_end.result) c.args.self.now c.number_of_another_line.new.self c.give_at_end.new.self
    (stands.leads told) gives
    (λ middle more q. rw (← c.self-in-tokens.view_is, q.0)
    (end_spends form c.form_law.ensures.none_begun (given c.give_at_end.new.step c.give_at_end.result) old c.give_at_end.new.self end.last
    (λ h. ap (given c.give_at_end.new.step) (end.ended h)) more q.1))

pub returns-in-Err-TooLong-clause-spends : goal.returns-in-Err-TooLong-clause-spends
returns-in-Err-TooLong-clause-spends g c =
    let form = g.F.LineForm.form in
    let stands = Stands-same form (c.in-None.ensures.none refl)
    (Stands-on form c.tokens.invariant.stands c.take_numbers.ensures.goes_on c.take_numbers.ensures.leads) in λ told.
    let old : ReaderOf _ = record {
      scan = c.next_into.new.self;
      draft = c.self-in-tokens.inside.draft;
      status = c.self-in-tokens.inside.status;
      line = c.self-in-tokens.inside.line;
    } in
    let gives = rw c.in-Err-TooLong.field-0-is at (c.in-Err-TooLong.ensures.gives told) in
    let limit = c.give_at_limit.ensures in
    call_spends form (given c.give_at_limit.new.step c.give_at_limit.result) c.args.self.now c.number_of_another_line.new.self
    c.give_at_limit.new.self (stands.leads told) gives
    (λ middle more q. rw (← c.self-in-tokens.view_is, q.0)
    (limit_spends form c.form_law.ensures.none_begun (given c.give_at_limit.new.step c.give_at_limit.result) old c.give_at_limit.new.self limit.last
    (λ h. ap (given c.give_at_limit.new.step) (limit.over h)) more q.1))

pub returns-in-Err-ReadFault-clause-spends : goal.returns-in-Err-ReadFault-clause-spends
returns-in-Err-ReadFault-clause-spends g c =
    let form = g.F.LineForm.form in
    let stands = Stands-same form (c.in-None.ensures.none refl)
    (Stands-on form c.tokens.invariant.stands c.take_numbers.ensures.goes_on c.take_numbers.ensures.leads) in
    λ told. Decides-then (λ bytes more. ⊤) (stands.same told) (c.in-Err-ReadFault.ensures.gives told) (λ bytes middle more p q. tt)

pub returns-in-Some-clause-spends : goal.returns-in-Some-clause-spends
returns-in-Some-clause-spends g c =
    let form = g.F.LineForm.form in
    λ told.
    let stands = Stands-on form c.tokens.invariant.stands c.take_numbers.ensures.goes_on c.take_numbers.ensures.leads in
    let begins = c.in-Some.ensures.some in
    let settles = rw (read_back c.in-Some.number begins.took.small) at c.give_before_number.ensures in
    let answered = given c.give_before_number.new.step c.give_before_number.result in
    Decides-map (λ bytes more. Spends answered (length more) (wants_ahead form c.args.self.now bytes)
    (wants_ahead form c.give_before_number.new.self more)) (stands.leads told)
    (λ bytes more p. led answered (length more) _ _ _ p
    (number_spends form c.form_law.ensures c.in-Some.number c.take_numbers.new.self c.number_of_another_line.new.self c.give_before_number.new.self begins answered
    settles more (subst (λ (r : ReaderOf _). are_near (length more) (ahead r.scan more) ≡ true) c.self.view_is (c.near_law.ensures more))))

-- memory was wanted for a number
pub returns-in_err-take-in-Ok-true-clause-gives : goal.returns-in_err-take-in-Ok-true-clause-gives
returns-in_err-take-in-Ok-true-clause-gives g c =
    let form = g.F.LineForm.form in
    let stands = Stands-same form (c.in-None.ensures.none refl)
    (Stands-on form c.tokens.invariant.stands c.take_numbers.ensures.goes_on c.take_numbers.ensures.leads) in
    let came = c.in_err-take-in-Ok-true.ensures.err in
    let memory : c.in_err-take-in-Ok-true.field-0.0 ≡ OutOfMemory = cc in
    λ told. Decides-then _ (stands.same told) (c.in-Ok-true.ensures.gives told)
    (λ bytes middle more p q. handed_gives c.tokens.step c.from_residual.result c.in_err-take-in-Ok-true.field-0.0 c.from_residual.ensures.1
    memory _ _ _)

pub returns-in_err-take-in-Ok-true-clause-spends : goal.returns-in_err-take-in-Ok-true-clause-spends
returns-in_err-take-in-Ok-true-clause-spends g c =
    let form = g.F.LineForm.form in
    let stands = Stands-same form (c.in-None.ensures.none refl)
    (Stands-on form c.tokens.invariant.stands c.take_numbers.ensures.goes_on c.take_numbers.ensures.leads) in
    let old : ReaderOf _ = record {
      scan = c.next_into.new.self;
      draft = c.self-in-tokens.inside.draft;
      status = c.self-in-tokens.inside.status;
      line = c.self-in-tokens.inside.line;
    } in
    let joined : c.else-is_begun.self ≡ old =
    elim c.else-is_begun.branch [ else-is_begun-via-then-is_begun+else-line w ↦ w.self-is | else-is_begun-via-else-is_begun w ↦ w.self-is ] in
    let same : form.is_begun c.self-in-tokens.inside.draft ≡ true → (form.line c.self-in-tokens.inside.draft == c.next_into.new.token.line) ≡ true =
    elim c.else-is_begun.branch [
      | else-is_begun-via-then-is_begun+else-line w ↦ λ h. grind (arith, nat_tests)
      | else-is_begun-via-else-is_begun w ↦ λ h. cc
    ] in
    let begun : form.is_begun c.self-in-tokens.inside.draft ≡ true = ap (λ (r : ReaderOf _). form.is_begun r.draft) (sym joined)
    ∙ c.in_err-take-in-Ok-true.ensures.begun in
    let keeps : form.keeps_number (form.with_word c.self-in-tokens.inside.draft c.next_into.new.token) ≡ true =
    ap (λ (r : ReaderOf _). form.keeps_number (form.with_word r.draft c.next_into.new.token)) (sym joined)
    ∙ c.in_err-take-in-Ok-true.ensures.memory in
    let came = c.in_err-take-in-Ok-true.ensures.err in
    let memory : c.in_err-take-in-Ok-true.field-0.0 ≡ OutOfMemory = cc in
    λ told.
    let gives = rw c.in-Ok-true.field-0-test at (c.in-Ok-true.ensures.gives told) in
    Decides-then _ (stands.leads told) gives
    (λ bytes middle more p q. handed_spends c.tokens.step c.from_residual.result c.in_err-take-in-Ok-true.field-0.0
    c.from_residual.ensures.1 memory (length more) _ _ (p.wants (length more)
    (subst (λ w. IsTrue (may_want (length more) w))
    (sym (ap (λ (r : ReaderOf _). wants_ahead form r middle) (sym c.self-in-tokens.view_is)
    ∙ ap (λ is. wants_after form is c.self-in-tokens.inside.draft) q))
    (token_wants form (length more) c.self-in-tokens.inside.draft c.next_into.new.token (ahead c.next_into.new.self more) begun (same begun)
    keeps (near_ahead form (ahead c.next_into.new.self more) (form.with_word c.self-in-tokens.inside.draft c.next_into.new.token)
    (length more) (c.near_law-in-Ok-true.ensures more))))))

-- memory was wanted for a step
pub returns-in-Some-clause-memory : goal.returns-in-Some-clause-memory
returns-in-Some-clause-memory g c = λ is.
    settled_memory g.F.LineForm.form c.form_law.ensures.numbers (given c.give_before_number.new.step c.give_before_number.result) _ _ _
    c.give_before_number.ensures (ap (given c.give_before_number.new.step) is)

pub returns-then-line-clause-memory : goal.returns-then-line-clause-memory
returns-then-line-clause-memory g c = λ is.
    settled_memory g.F.LineForm.form c.form_law.ensures.numbers (given c.give_before.new.step c.give_before.result) _ _ _
    c.give_before.ensures (ap (given c.give_before.new.step) is)

pub returns-in-Ok-false-clause-memory : goal.returns-in-Ok-false-clause-memory
returns-in-Ok-false-clause-memory g c = λ is.
    let end = c.give_at_end.ensures in
    last_memory g.F.LineForm.form c.form_law.ensures.numbers _ c.give_at_end.new.step c.give_at_end.result _ _ _ end.last
    (λ none same. (let ended = end.ended none in cc)) is

pub returns-in-Err-TooLong-clause-memory : goal.returns-in-Err-TooLong-clause-memory
returns-in-Err-TooLong-clause-memory g c = λ is.
    let limit = c.give_at_limit.ensures in
    last_memory g.F.LineForm.form c.form_law.ensures.numbers _ c.give_at_limit.new.step c.give_at_limit.result _ _ _ limit.last
    (λ none same. (let over = limit.over none in cc)) is
