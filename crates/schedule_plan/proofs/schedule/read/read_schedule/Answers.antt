-- A token goes on with the line or ends it. The end, the limit or a line that is refused decides.
use Rattle.std.proofs.Common.{◌≡◌, ℕ, [], length, Err, IsTrue, IfOk, inl, inr, refl, sym, ◌∙◌, ap, subst, arith}
use Rattle.text_scan.specs.Decides.{gained, gained-none, Decides-none, Decides-then, OnlyReads-then, front-then, gained-then}
use Rattle.text_scan.specs.Items.{Items, the_end, too_long, next_word, items, items_of_front}
use Rattle.text_scan.specs.Scan.{ahead, so_far}
use Rattle.host_io.specs.Channel.{Rose}
use Rattle.schedule_plan.specs.Plan.{IsAdmissible}
use Rattle.schedule_plan.specs.ScheduleText.{max_bytes, broken_off, schedule}
use Rattle.schedule_plan.specs.declared.schedule.error.PlanError.TheVariants.{OutOfMemory, ReadFault}
use Rattle.schedule_plan.specs.ScheduleState.{no_draft, drafted, Answers}
use Rattle.schedule_plan.specs.ScheduleMemory.{items_may_want_memory, may_want_memory}
use Rattle.schedule_plan.proofs.Drafted.{drafted_same}
use Rattle.schedule_plan.proofs.Exits.{whole, refused_answers, undecided_at, no_fault}
use Rattle.schedule_plan.proofs.TakesError.{was_reading, error_is}
use Rattle.schedule_plan.proofs.schedule.read.read_schedule.Goals as goal

pub tokens-init : goal.tokens-init
tokens-init g c =
    let formula = c.args.formula.now in
    let none = gained-none (g.S.Source.channel c.args.source.now) in
    record {
      same = λ told. Decides-none (g.S.Source.channel c.args.source.now)
          (λ bytes more. drafted formula (items 35 max_bytes bytes) no_draft []
          ≡ drafted formula (ahead c.new-scanner.result more) c.new-line.result c.in_ok-judge.judge.moves.items)
          (λ more. rw (c.new-line.ensures, c.in_ok-judge.ensures.moves, c.new-scanner.ensures.items more) refl);
      front = λ told reads more. rw (c.new-line.ensures, c.in_ok-judge.ensures.moves, none, c.new-scanner.ensures.front more) refl;
      memory = λ told. Decides-none (g.S.Source.channel c.args.source.now)
          (λ bytes more. (n : ℕ) → IsTrue (items_may_want_memory n formula (ahead c.new-scanner.result more) c.new-line.result
          c.in_ok-judge.judge.moves.items) → IsTrue (may_want_memory formula n bytes))
          (λ more n wants. rw (c.new-line.ensures, c.in_ok-judge.ensures.moves, c.new-scanner.ensures.items more) at wants);
      stands = c.in_ok-judge.ensures.stands;
      sound = rw (c.new-scanner.ensures.reading) refl;
      reads = record { written = refl; flushed = refl; name = refl; faults = omega arith };
      unfailed = refl;
      beside = refl;
    }

pub tokens-preserved : goal.tokens-preserved
tokens-preserved g c =
    let formula = c.args.formula.now in
    let moves = rw c.in-Ok-Some.field-0-is at c.in-Ok-Some.ensures.moves in
    record {
      same = λ told.
          let gives = rw c.in-Ok-Some.field-0-is at (c.in-Ok-Some.ensures.gives told) in
          Decides-then (λ bytes more. drafted formula (items 35 max_bytes bytes) no_draft []
          ≡ drafted formula (ahead c.next.new.self more) c.take_token.new.line c.take_token.new.judge.moves.items)
          (c.tokens.invariant.same told) gives
          (λ bytes middle more p q. p ∙ ap (λ is. drafted formula is c.tokens.line c.tokens.judge.moves.items) q
          ∙ c.in_ok-take_token-in-Ok-Some.ensures.goes (ahead c.next.new.self more));
      front = λ told reads.
          let before = was_reading c.tokens.scanner c.next.new.self c.next.ensures.stopped_scanner reads in
          let token = rw c.in-Ok-Some.field-0-is at (c.in-Ok-Some.ensures.so_far told before) in
          front-then (λ l. drafted formula (broken_off (items_of_front 35 l)) no_draft [])
          (λ l. drafted formula (broken_off (so_far c.tokens.scanner l)) c.tokens.line c.tokens.judge.moves.items)
          (λ l. drafted formula (broken_off (so_far c.next.new.self l)) c.take_token.new.line c.take_token.new.judge.moves.items)
          (c.tokens.invariant.same told) (c.in-Ok-Some.ensures.gives told) (c.tokens.invariant.front told before)
          (λ more. ap (λ is. drafted formula (broken_off is) c.tokens.line c.tokens.judge.moves.items) (token reads more)
          ∙ c.in_ok-take_token-in-Ok-Some.ensures.goes (broken_off (so_far c.next.new.self more)));
      memory = λ told.
          let gives = rw c.in-Ok-Some.field-0-is at (c.in-Ok-Some.ensures.gives told) in
          Decides-then (λ bytes more. (n : ℕ) → IsTrue (items_may_want_memory n formula (ahead c.next.new.self more) c.take_token.new.line
          c.take_token.new.judge.moves.items) → IsTrue (may_want_memory formula n bytes))
          (c.tokens.invariant.memory told) gives
          (λ bytes middle more p q n wants. p n (subst (λ (is : Items). IsTrue (items_may_want_memory n formula is c.tokens.line
          c.tokens.judge.moves.items)) (sym q) (c.in_ok-take_token-in-Ok-Some.ensures.later n (ahead c.next.new.self more) wants)));
      stands = c.in_ok-take_token-in-Ok-Some.ensures.stands;
      sound = moves.sound;
      reads = OnlyReads-then c.tokens.invariant.reads c.next.ensures.reads;
      unfailed = c.in-Ok-Some.ensures.unfailed (λ e. cc) ∙ c.tokens.invariant.unfailed;
      beside = c.next.ensures.beside ∙ c.tokens.invariant.beside;
    }

-- a failed read says nothing of the text
pub returns-in-Err-ReadFault-clause-decides : goal.returns-in-Err-ReadFault-clause-decides
returns-in-Err-ReadFault-clause-decides g c = λ told. Decides-then (λ bytes more. Unit {0}) (c.tokens.invariant.same told)
    (c.in-Err-ReadFault.ensures.gives told) (λ bytes middle more p q. tt)

pub returns-in_err-take_token-in-Ok-Some-clause-decides : goal.returns-in_err-take_token-in-Ok-Some-clause-decides
returns-in_err-take_token-in-Ok-Some-clause-decides g c = λ told.
    let formula = c.args.formula.now in
    let gives = rw c.in-Ok-Some.field-0-is at (c.in-Ok-Some.ensures.gives told) in
    let result = c.from_residual-in_err-take_token-in-Ok-Some.result in
    let error = error_is result c.in_err-take_token-in-Ok-Some.field-0.0 c.from_residual-in_err-take_token-in-Ok-Some.ensures.1 in
    Decides-then (λ bytes more. Answers result (schedule formula bytes)) (c.tokens.invariant.same told) gives
    (λ bytes middle more p q. refused_answers result c.in_err-take_token-in-Ok-Some.field-0.0 (schedule formula bytes)
    (drafted formula (next_word c.in-Ok-Some.token (ahead c.next.new.self more)) c.tokens.line c.tokens.judge.moves.items) _ error
    (whole formula c.formula_law.ensures bytes _ (p ∙ ap (λ is. drafted formula is c.tokens.line c.tokens.judge.moves.items) q))
    (c.in_err-take_token-in-Ok-Some.ensures.goes (ahead c.next.new.self more)))

pub returns-in-Ok-None-clause-decides : goal.returns-in-Ok-None-clause-decides
returns-in-Ok-None-clause-decides g c = λ told.
    let formula = c.args.formula.now in
    let gives = rw c.in-Ok-None.field-0-is at (c.in-Ok-None.ensures.gives told) in
    Decides-then (λ bytes more. Answers c.at_end.result (schedule formula bytes)) (c.tokens.invariant.same told) gives
    (λ bytes middle more p q. subst (λ t. Answers c.at_end.result t)
    (sym (whole formula c.formula_law.ensures bytes _ (p ∙ ap (λ is. drafted formula is c.tokens.line c.tokens.judge.moves.items) q.0
    ∙ ap (λ (n : ℕ). drafted formula (the_end n) c.tokens.line c.tokens.judge.moves.items) (sym c.line-in-Ok-None-2.ensures))))
    c.at_end.ensures.answers)

pub returns-in-Err-TooLong-clause-decides : goal.returns-in-Err-TooLong-clause-decides
returns-in-Err-TooLong-clause-decides g c = λ told.
    let formula = c.args.formula.now in
    let gives = rw c.in-Err-TooLong.field-0-is at (c.in-Err-TooLong.ensures.gives told) in
    Decides-then (λ bytes more. Answers (Err c.at_limit.result) (schedule formula bytes)) (c.tokens.invariant.same told) gives
    (λ bytes middle more p q. subst (λ t. Answers (Err c.at_limit.result) t)
    (sym (whole formula c.formula_law.ensures bytes _ (p ∙ ap (λ is. drafted formula is c.tokens.line c.tokens.judge.moves.items) q.0
    ∙ ap (λ (n : ℕ). drafted formula (too_long n) c.tokens.line c.tokens.judge.moves.items) (sym c.line-in-Err-TooLong.ensures))))
    c.at_limit.ensures.answers)

-- A failed read was met while the bytes taken gave no further token.
pub returns-in-Err-ReadFault-clause-undecided : goal.returns-in-Err-ReadFault-clause-undecided
returns-in-Err-ReadFault-clause-undecided g c = λ told failed.
    let formula = c.args.formula.now in
    let law = c.formula_law.ensures in
    let fault = rw c.in-Err-ReadFault.field-0-is at c.in-Err-ReadFault.ensures.stopped_answer in
    let none = rw c.in-Err-ReadFault.field-0-is at (c.in-Err-ReadFault.ensures.so_far told) in
    let last = undecided_at formula c.tokens.scanner c.next.new.self
    (gained (g.S.Source.channel c.tokens.source) (g.S.Source.channel c.next.new.source))
    c.tokens.line c.tokens.judge.moves.items c.tokens.invariant.sound fault none in
    sym (drafted_same formula law.count law.vars (broken_off (items_of_front 35
    (gained (g.S.Source.channel c.args.source.now) (g.S.Source.channel c.next.new.source)))))
    ∙ ap (λ l. drafted formula (broken_off (items_of_front 35 l)) no_draft [])
    (gained-then (c.tokens.invariant.same told) (c.in-Err-ReadFault.ensures.gives told))
    ∙ c.tokens.invariant.front told last.0 (gained (g.S.Source.channel c.tokens.source) (g.S.Source.channel c.next.new.source)) ∙ last.1

-- Memory was wanted for a token, or for a line that it ends.
pub returns-in_err-take_token-in-Ok-Some-clause-memory : goal.returns-in_err-take_token-in-Ok-Some-clause-memory
returns-in_err-take_token-in-Ok-Some-clause-memory g c = λ told wanted.
    let formula = c.args.formula.now in
    let gives = rw c.in-Ok-Some.field-0-is at (c.in-Ok-Some.ensures.gives told) in
    let error = error_is c.from_residual-in_err-take_token-in-Ok-Some.result c.in_err-take_token-in-Ok-Some.field-0.0
    c.from_residual-in_err-take_token-in-Ok-Some.ensures.1 in
    let memory : c.in_err-take_token-in-Ok-Some.field-0.0 ≡ OutOfMemory = cc in
    inr (Decides-then (λ bytes more. IsTrue (may_want_memory formula (length more) bytes)) (c.tokens.invariant.memory told) gives
    (λ bytes middle more p q. p (length more) (subst (λ (is : Items). IsTrue (items_may_want_memory (length more) formula is c.tokens.line
    c.tokens.judge.moves.items)) (sym q)
    (c.in_err-take_token-in-Ok-Some.ensures.memory (ap Err memory) (length more) (ahead c.next.new.self more) (c.near_law.ensures more)))))

-- or for the last line
pub returns-in-Ok-None-clause-memory : goal.returns-in-Ok-None-clause-memory
returns-in-Ok-None-clause-memory g c = λ told wanted.
    let formula = c.args.formula.now in
    let gives = rw c.in-Ok-None.field-0-is at (c.in-Ok-None.ensures.gives told) in
    inr (Decides-then (λ bytes more. IsTrue (may_want_memory formula (length more) bytes)) (c.tokens.invariant.memory told) gives
    (λ bytes middle more p q. p (length more) (subst (λ (is : Items). IsTrue (items_may_want_memory (length more) formula is c.tokens.line
    c.tokens.judge.moves.items)) (sym (q.0 ∙ ap the_end (sym c.line-in-Ok-None-2.ensures)))
    (c.at_end.ensures.memory wanted (length more)))))

pub returns-in-Err-TooLong-clause-memory : goal.returns-in-Err-TooLong-clause-memory
returns-in-Err-TooLong-clause-memory g c = λ told wanted.
    let formula = c.args.formula.now in
    let gives = rw c.in-Err-TooLong.field-0-is at (c.in-Err-TooLong.ensures.gives told) in
    let memory : c.at_limit.result ≡ OutOfMemory = cc in
    inr (Decides-then (λ bytes more. IsTrue (may_want_memory formula (length more) bytes)) (c.tokens.invariant.memory told) gives
    (λ bytes middle more p q. p (length more) (subst (λ (is : Items). IsTrue (items_may_want_memory (length more) formula is c.tokens.line
    c.tokens.judge.moves.items)) (sym (q.0 ∙ ap too_long (sym c.line-in-Err-TooLong.ensures)))
    (c.at_limit.ensures.memory memory (length more)))))

-- Memory was wanted for what is kept of the formula: no byte was taken.
pub returns-in_err-judge-clause-decides : goal.returns-in_err-judge-clause-decides
returns-in_err-judge-clause-decides g c = λ told. Decides-none (g.S.Source.channel c.args.source.now)
    (λ bytes more. Answers c.from_residual.result (schedule c.args.formula.now bytes))
    (λ more. subst (λ r. Answers r (schedule c.args.formula.now more))
    (sym (error_is c.from_residual.result OutOfMemory c.from_residual.ensures.1)) tt)

pub returns-in_err-judge-clause-fault : goal.returns-in_err-judge-clause-fault
returns-in_err-judge-clause-fault g c = λ failed. absurd (no_fault c.from_residual.result c.from_residual.ensures.1 failed)

pub returns-in_err-judge-clause-unfailed : goal.returns-in_err-judge-clause-unfailed
returns-in_err-judge-clause-unfailed g c = λ _. refl

pub returns-in_err-judge-clause-undecided : goal.returns-in_err-judge-clause-undecided
returns-in_err-judge-clause-undecided g c = λ told failed. absurd (no_fault c.from_residual.result c.from_residual.ensures.1 failed)

pub returns-in_err-judge-clause-memory : goal.returns-in_err-judge-clause-memory
returns-in_err-judge-clause-memory g c = λ told wanted. inl refl

pub returns-in_err-judge-clause-admissible : goal.returns-in_err-judge-clause-admissible
returns-in_err-judge-clause-admissible g c = subst (λ r. IfOk r (IsAdmissible c.args.formula.now))
    (sym (error_is c.from_residual.result OutOfMemory c.from_residual.ensures.1)) tt

pub returns-in_err-judge-clause-reads : goal.returns-in_err-judge-clause-reads
returns-in_err-judge-clause-reads g c = record { written = refl; flushed = refl; name = refl; faults = omega arith }

pub returns-in_err-judge-clause-beside : goal.returns-in_err-judge-clause-beside
returns-in_err-judge-clause-beside g c = refl

-- a token that isn't taken
pub returns-in_err-take_token-in-Ok-Some-clause-fault : goal.returns-in_err-take_token-in-Ok-Some-clause-fault
returns-in_err-take_token-in-Ok-Some-clause-fault g c = λ failed.
    let error = error_is c.from_residual-in_err-take_token-in-Ok-Some.result c.in_err-take_token-in-Ok-Some.field-0.0
    c.from_residual-in_err-take_token-in-Ok-Some.ensures.1 in
    let fault : c.in_err-take_token-in-Ok-Some.field-0.0 ≡ ReadFault = cc in
    absurd (c.in_err-take_token-in-Ok-Some.ensures.unfailed (ap Err fault))

pub returns-in_err-take_token-in-Ok-Some-clause-unfailed : goal.returns-in_err-take_token-in-Ok-Some-clause-unfailed
returns-in_err-take_token-in-Ok-Some-clause-unfailed g c = λ _.
    c.in-Ok-Some.ensures.unfailed (λ e. cc) ∙ c.tokens.invariant.unfailed

pub returns-in_err-take_token-in-Ok-Some-clause-undecided : goal.returns-in_err-take_token-in-Ok-Some-clause-undecided
returns-in_err-take_token-in-Ok-Some-clause-undecided g c = λ told failed.
    let error = error_is c.from_residual-in_err-take_token-in-Ok-Some.result c.in_err-take_token-in-Ok-Some.field-0.0
    c.from_residual-in_err-take_token-in-Ok-Some.ensures.1 in
    let fault : c.in_err-take_token-in-Ok-Some.field-0.0 ≡ ReadFault = cc in
    absurd (c.in_err-take_token-in-Ok-Some.ensures.unfailed (ap Err fault))

pub returns-in_err-take_token-in-Ok-Some-clause-admissible : goal.returns-in_err-take_token-in-Ok-Some-clause-admissible
returns-in_err-take_token-in-Ok-Some-clause-admissible g c = subst (λ r. IfOk r (IsAdmissible c.args.formula.now))
    (sym (error_is c.from_residual-in_err-take_token-in-Ok-Some.result c.in_err-take_token-in-Ok-Some.field-0.0
    c.from_residual-in_err-take_token-in-Ok-Some.ensures.1)) tt

pub returns-in_err-take_token-in-Ok-Some-clause-reads : goal.returns-in_err-take_token-in-Ok-Some-clause-reads
returns-in_err-take_token-in-Ok-Some-clause-reads g c = OnlyReads-then c.tokens.invariant.reads c.next.ensures.reads

pub returns-in_err-take_token-in-Ok-Some-clause-beside : goal.returns-in_err-take_token-in-Ok-Some-clause-beside
returns-in_err-take_token-in-Ok-Some-clause-beside g c = c.next.ensures.beside ∙ c.tokens.invariant.beside

-- the end of the text
pub returns-in-Ok-None-clause-fault : goal.returns-in-Ok-None-clause-fault
returns-in-Ok-None-clause-fault g c = λ failed. absurd (c.at_end.ensures.unfailed failed)

pub returns-in-Ok-None-clause-unfailed : goal.returns-in-Ok-None-clause-unfailed
returns-in-Ok-None-clause-unfailed g c = λ _. c.in-Ok-None.ensures.unfailed (λ e. cc) ∙ c.tokens.invariant.unfailed

pub returns-in-Ok-None-clause-undecided : goal.returns-in-Ok-None-clause-undecided
returns-in-Ok-None-clause-undecided g c = λ told failed. absurd (c.at_end.ensures.unfailed failed)

pub returns-in-Ok-None-clause-admissible : goal.returns-in-Ok-None-clause-admissible
returns-in-Ok-None-clause-admissible g c = c.at_end.ensures.admissible

pub returns-in-Ok-None-clause-reads : goal.returns-in-Ok-None-clause-reads
returns-in-Ok-None-clause-reads g c = OnlyReads-then c.tokens.invariant.reads c.next.ensures.reads

pub returns-in-Ok-None-clause-beside : goal.returns-in-Ok-None-clause-beside
returns-in-Ok-None-clause-beside g c = c.next.ensures.beside ∙ c.tokens.invariant.beside

-- its limit
pub returns-in-Err-TooLong-clause-fault : goal.returns-in-Err-TooLong-clause-fault
returns-in-Err-TooLong-clause-fault g c = λ failed. absurd (c.at_limit.ensures.unfailed cc)

pub returns-in-Err-TooLong-clause-unfailed : goal.returns-in-Err-TooLong-clause-unfailed
returns-in-Err-TooLong-clause-unfailed g c = λ _. c.in-Err-TooLong.ensures.unfailed (λ e. cc) ∙ c.tokens.invariant.unfailed

pub returns-in-Err-TooLong-clause-undecided : goal.returns-in-Err-TooLong-clause-undecided
returns-in-Err-TooLong-clause-undecided g c = λ told failed. absurd (c.at_limit.ensures.unfailed cc)

pub returns-in-Err-TooLong-clause-admissible : goal.returns-in-Err-TooLong-clause-admissible
returns-in-Err-TooLong-clause-admissible g c = tt

pub returns-in-Err-TooLong-clause-reads : goal.returns-in-Err-TooLong-clause-reads
returns-in-Err-TooLong-clause-reads g c = OnlyReads-then c.tokens.invariant.reads c.next.ensures.reads

pub returns-in-Err-TooLong-clause-beside : goal.returns-in-Err-TooLong-clause-beside
returns-in-Err-TooLong-clause-beside g c = c.next.ensures.beside ∙ c.tokens.invariant.beside

-- a failed read
pub returns-in-Err-ReadFault-clause-fault : goal.returns-in-Err-ReadFault-clause-fault
returns-in-Err-ReadFault-clause-fault g c = λ _.
    subst (λ (faults : ℕ). Rose faults (g.S.Source.channel c.next.new.source).faults) c.tokens.invariant.unfailed
    (c.in-Err-ReadFault.ensures.fault (cc) c.tokens.invariant.sound)

pub returns-in-Err-ReadFault-clause-unfailed : goal.returns-in-Err-ReadFault-clause-unfailed
returns-in-Err-ReadFault-clause-unfailed g c = λ differs. absurd (differs refl)

pub returns-in-Err-ReadFault-clause-memory : goal.returns-in-Err-ReadFault-clause-memory
returns-in-Err-ReadFault-clause-memory g c = λ told wanted. absurd cc

pub returns-in-Err-ReadFault-clause-admissible : goal.returns-in-Err-ReadFault-clause-admissible
returns-in-Err-ReadFault-clause-admissible g c = tt

pub returns-in-Err-ReadFault-clause-reads : goal.returns-in-Err-ReadFault-clause-reads
returns-in-Err-ReadFault-clause-reads g c = OnlyReads-then c.tokens.invariant.reads c.next.ensures.reads

pub returns-in-Err-ReadFault-clause-beside : goal.returns-in-Err-ReadFault-clause-beside
returns-in-Err-ReadFault-clause-beside g c = c.next.ensures.beside ∙ c.tokens.invariant.beside
