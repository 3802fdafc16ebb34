-- What is ahead of a new scanner are the items of the text. The end or a token that offends decides, and the text goes on
-- behind one that does not.
use Rattle.std.proofs.Common.{◌≡◌, ℕ, List, [], length, Err, IfOk, refl, sym, ◌∙◌, ap, subst, arith}
use Rattle.text_scan.specs.Decides.{gained, Decides-none, Decides-then, OnlyReads-then, gained-none, front-then}
use Rattle.text_scan.specs.Items.{items, items_of_front}
use Rattle.text_scan.specs.Scan.{ahead, so_far}
use Rattle.text_scan.specs.declared.scanner.ScanError.TheVariants.{ReadFault as ScanFault}
use Rattle.host_io.specs.Channel.{Rose}
use Rattle.cnf_base.specs.Order.{IsOrder}
use Rattle.schedule_plan.specs.declared.order_error.OrderError.TheVariants.{OutOfMemory, ReadFault}
use Rattle.schedule_plan.specs.OrderReader.{Answers, Passes, pass_none, pass_one, WantsMemory, error_of}
use Rattle.schedule_plan.specs.OrderText.{max_bytes, order_of, order_text}
use Rattle.schedule_plan.proofs.OrderJudged.{goes_on, error_is, end_answers, error_answers, take_answers, front_of_next, fault_so_far}
use Rattle.schedule_plan.proofs.OrderJudged.{undecided_behind, fault_of_scan, scan_wants_none, taken_no_fault, answer_no_fault, answer_wants_none}
use Rattle.schedule_plan.proofs.order.Order.read.Goals as goal

pub returns-in-None-clause-decides : goal.returns-in-None-clause-decides
returns-in-None-clause-decides g c = λ told.
    let gives = rw c.in-None.is at (c.in_ok-next.ensures.gives told) in
    let value = rw (c.line.ensures, c.tokens.invariant.vars) at c.finish.ensures.value in
    Decides-then (λ bytes more. Answers c.finish.result (order_text c.args.vars bytes)) (c.tokens.invariant.passed told) gives
    (λ bytes middle more p q. end_answers c.finish.result c.args.vars c.next.new.self.line (items 35 max_bytes bytes)
    (ahead c.tokens.scanner middle) c.tokens.front.numbers p q.0 value)

pub tokens-init : goal.tokens-init
tokens-init g c =
    let none = gained-none (g.S.Source.channel c.args.source.now) in
    record {
      passed = λ told. Decides-none (g.S.Source.channel c.args.source.now)
          (λ bytes more. Passes c.args.vars (items 35 max_bytes bytes) (ahead c.new-scanner.result more) c.new-front.result.numbers)
          (λ more. rw (c.new-front.ensures, c.new-scanner.ensures.items more) pass_none);
      so_far = λ told reads more. rw (c.new-front.ensures, none, c.new-scanner.ensures.front more) refl;
      vars = rw (c.new-front.ensures) refl;
      sound = rw (c.new-scanner.ensures.reading) refl;
      reads = record { written = refl; flushed = refl; name = refl; faults = omega arith };
      unfailed = refl;
      beside = refl;
    }

pub tokens-preserved : goal.tokens-preserved
tokens-preserved g c =
    let moves = rw c.in-Some.is at c.in_ok-next.ensures.moves in
    let takes = rw c.tokens.invariant.vars at c.in_ok-take-in-Some.ensures.takes in
    record {
      passed = λ told.
          let gives = rw c.in-Some.is at (c.in_ok-next.ensures.gives told) in
          Decides-then (λ bytes more. Passes c.args.vars (items 35 max_bytes bytes) (ahead c.next.new.self more) c.take.new.self.numbers)
          (c.tokens.invariant.passed told) gives
          (λ bytes middle more p q. rw takes.1 (pass_one (rw q at p) takes.0));
      so_far = λ told reads.
          let gives = rw c.in-Some.is at (c.in_ok-next.ensures.so_far told) in
          let step = front_of_next c.tokens.scanner c.next.new.self c.in-Some.token
          (gained (g.S.Source.channel c.tokens.source) (g.S.Source.channel c.next.new.source))
          (λ is. order_of is c.args.vars c.tokens.front.numbers) (λ is. order_of is c.args.vars c.take.new.self.numbers)
          (λ items. goes_on c.in-Some.token items c.args.vars c.tokens.front.numbers c.take.new.self.numbers takes.0 takes.1)
          c.next.ensures.stopped_scanner gives reads in
          front-then (λ l. order_of (items_of_front 35 l) c.args.vars [])
          (λ l. order_of (so_far c.tokens.scanner l) c.args.vars c.tokens.front.numbers)
          (λ l. order_of (so_far c.next.new.self l) c.args.vars c.take.new.self.numbers) (c.tokens.invariant.passed told)
          (c.in_ok-next.ensures.gives told)
          (c.tokens.invariant.so_far told step.0) step.1;
      vars = c.take.ensures.vars ∙ c.tokens.invariant.vars;
      sound = moves.sound;
      reads = OnlyReads-then c.tokens.invariant.reads c.next.ensures.reads;
      unfailed = c.in_ok-next.ensures.unfailed (λ e. cc) ∙ c.tokens.invariant.unfailed;
      beside = c.next.ensures.beside ∙ c.tokens.invariant.beside;
    }

pub returns-in_err-next-clause-decides : goal.returns-in_err-next-clause-decides
returns-in_err-next-clause-decides g c = λ told.
    let error = error_is c.from_residual.result (error_of c.in_err-next.field-0.0) c.from_residual.ensures.1 in
    Decides-then (λ bytes more. Answers c.from_residual.result (order_text c.args.vars bytes)) (c.tokens.invariant.passed told)
    (c.in_err-next.ensures.gives told)
    (λ bytes middle more p q. error_answers c.from_residual.result c.in_err-next.field-0.0 c.next.new.self.line c.args.vars
    (items 35 max_bytes bytes)
    (ahead c.tokens.scanner middle) (ahead c.next.new.self more) c.tokens.front.numbers error p q)

pub returns-in_err-take-in-Some-clause-decides : goal.returns-in_err-take-in-Some-clause-decides
returns-in_err-take-in-Some-clause-decides g c = λ told.
    let gives = rw c.in-Some.is at (c.in_ok-next.ensures.gives told) in
    let error = error_is c.from_residual-in_err-take-in-Some.result c.in_err-take-in-Some.field-0.0
    c.from_residual-in_err-take-in-Some.ensures.1 in
    let takes = rw c.tokens.invariant.vars at c.in_err-take-in-Some.ensures.takes in
    Decides-then (λ bytes more. Answers c.from_residual-in_err-take-in-Some.result (order_text c.args.vars bytes))
    (c.tokens.invariant.passed told) gives
    (λ bytes middle more p q. take_answers c.from_residual-in_err-take-in-Some.result c.in_err-take-in-Some.field-0.0 c.in-Some.token
    c.args.vars (items 35 max_bytes bytes)
    (ahead c.next.new.self more) c.tokens.front.numbers c.take.new.self.numbers error (rw q at p) takes)

-- A failed read was met while the bytes taken gave no further token.
pub returns-in_err-next-clause-undecided : goal.returns-in_err-next-clause-undecided
returns-in_err-next-clause-undecided g c = λ told failed.
    let error = error_is c.from_residual.result (error_of c.in_err-next.field-0.0) c.from_residual.ensures.1 in
    let last = fault_so_far c.from_residual.result c.in_err-next.field-0.0 c.tokens.scanner c.next.new.self
    (gained (g.S.Source.channel c.tokens.source) (g.S.Source.channel c.next.new.source))
    c.args.vars c.tokens.front.numbers error failed c.tokens.invariant.sound c.in_err-next.ensures.stopped_answer
    (c.in_err-next.ensures.so_far told) in
    undecided_behind (λ l. order_of (items_of_front 35 l) c.args.vars [])
    (λ l. order_of (so_far c.tokens.scanner l) c.args.vars c.tokens.front.numbers)
    (c.tokens.invariant.passed told) (c.in_err-next.ensures.gives told) (c.tokens.invariant.so_far told last.0) last.1

-- Memory was wanted for a token that does not offend, behind others.
pub returns-in_err-take-in-Some-clause-memory : goal.returns-in_err-take-in-Some-clause-memory
returns-in_err-take-in-Some-clause-memory g c = λ told wanted.
    let gives = rw c.in-Some.is at (c.in_ok-next.ensures.gives told) in
    let error = error_is c.from_residual-in_err-take-in-Some.result c.in_err-take-in-Some.field-0.0
    c.from_residual-in_err-take-in-Some.ensures.1 in
    let memory : c.in_err-take-in-Some.field-0.0 ≡ OutOfMemory = cc in
    let none = rw c.tokens.invariant.vars at (c.in_err-take-in-Some.ensures.memory (ap Err memory)) in
    Decides-then (λ bytes more. WantsMemory c.args.vars (length more) (items 35 max_bytes bytes)) (c.tokens.invariant.passed told) gives
    (λ bytes middle more p q. record {
      word = c.in-Some.token;
      after = ahead c.next.new.self more;
      before = c.tokens.front.numbers;
      passed = rw q at p;
      unoffending = none;
      near = c.near_law.ensures more;
    })

-- The scanner stopped by an error.
pub returns-in_err-next-clause-order : goal.returns-in_err-next-clause-order
returns-in_err-next-clause-order g c = subst (λ r. IfOk r (λ (variables : List ℕ). IsOrder variables × (length variables ≡ c.args.vars)))
    (sym (error_is c.from_residual.result (error_of c.in_err-next.field-0.0) c.from_residual.ensures.1)) tt

pub returns-in_err-next-clause-fault : goal.returns-in_err-next-clause-fault
returns-in_err-next-clause-fault g c = λ failed.
    let error = error_is c.from_residual.result (error_of c.in_err-next.field-0.0) c.from_residual.ensures.1 in
    let same : error_of c.in_err-next.field-0.0 ≡ ReadFault = cc in
    subst (λ (faults : ℕ). Rose faults (g.S.Source.channel c.next.new.source).faults) c.tokens.invariant.unfailed
    (c.in_err-next.ensures.fault (ap Err (fault_of_scan c.in_err-next.field-0.0 same)) c.tokens.invariant.sound)

pub returns-in_err-next-clause-unfailed : goal.returns-in_err-next-clause-unfailed
returns-in_err-next-clause-unfailed g c = λ differs.
    let error = error_is c.from_residual.result (error_of c.in_err-next.field-0.0) c.from_residual.ensures.1 in
    c.in_err-next.ensures.unfailed (λ failed. differs (let scan : c.in_err-next.field-0.0 ≡ ScanFault = cc in
    error ∙ ap (λ e. Err (error_of e)) scan)) ∙ c.tokens.invariant.unfailed

pub returns-in_err-next-clause-memory : goal.returns-in_err-next-clause-memory
returns-in_err-next-clause-memory g c = λ told wanted.
    let error = error_is c.from_residual.result (error_of c.in_err-next.field-0.0) c.from_residual.ensures.1 in
    let same : error_of c.in_err-next.field-0.0 ≡ OutOfMemory = cc in
    absurd (scan_wants_none c.in_err-next.field-0.0 same)

pub returns-in_err-next-clause-reads : goal.returns-in_err-next-clause-reads
returns-in_err-next-clause-reads g c = OnlyReads-then c.tokens.invariant.reads c.next.ensures.reads

pub returns-in_err-next-clause-beside : goal.returns-in_err-next-clause-beside
returns-in_err-next-clause-beside g c = c.next.ensures.beside ∙ c.tokens.invariant.beside

-- a token that offends, or want of memory
pub returns-in_err-take-in-Some-clause-order : goal.returns-in_err-take-in-Some-clause-order
returns-in_err-take-in-Some-clause-order g c = subst (λ r. IfOk r (λ (variables : List ℕ). IsOrder variables × (length variables ≡ c.args.vars)))
    (sym (error_is c.from_residual-in_err-take-in-Some.result c.in_err-take-in-Some.field-0.0
    c.from_residual-in_err-take-in-Some.ensures.1)) tt

pub returns-in_err-take-in-Some-clause-fault : goal.returns-in_err-take-in-Some-clause-fault
returns-in_err-take-in-Some-clause-fault g c = λ failed.
    let error = error_is c.from_residual-in_err-take-in-Some.result c.in_err-take-in-Some.field-0.0
    c.from_residual-in_err-take-in-Some.ensures.1 in
    let same : c.in_err-take-in-Some.field-0.0 ≡ ReadFault = cc in
    absurd (taken_no_fault c.in_err-take-in-Some.field-0.0 _ _ _ _ c.in_err-take-in-Some.ensures.takes same)

pub returns-in_err-take-in-Some-clause-undecided : goal.returns-in_err-take-in-Some-clause-undecided
returns-in_err-take-in-Some-clause-undecided g c = λ told failed.
    let error = error_is c.from_residual-in_err-take-in-Some.result c.in_err-take-in-Some.field-0.0
    c.from_residual-in_err-take-in-Some.ensures.1 in
    let same : c.in_err-take-in-Some.field-0.0 ≡ ReadFault = cc in
    absurd (taken_no_fault c.in_err-take-in-Some.field-0.0 _ _ _ _ c.in_err-take-in-Some.ensures.takes same)

pub returns-in_err-take-in-Some-clause-unfailed : goal.returns-in_err-take-in-Some-clause-unfailed
returns-in_err-take-in-Some-clause-unfailed g c = λ _. c.in_ok-next.ensures.unfailed (λ e. cc) ∙ c.tokens.invariant.unfailed

pub returns-in_err-take-in-Some-clause-reads : goal.returns-in_err-take-in-Some-clause-reads
returns-in_err-take-in-Some-clause-reads g c = OnlyReads-then c.tokens.invariant.reads c.next.ensures.reads

pub returns-in_err-take-in-Some-clause-beside : goal.returns-in_err-take-in-Some-clause-beside
returns-in_err-take-in-Some-clause-beside g c = c.next.ensures.beside ∙ c.tokens.invariant.beside

-- the end of the text
pub returns-in-None-clause-order : goal.returns-in-None-clause-order
returns-in-None-clause-order g c = rw c.tokens.invariant.vars at c.finish.ensures.order

pub returns-in-None-clause-fault : goal.returns-in-None-clause-fault
returns-in-None-clause-fault g c = λ failed. absurd (answer_no_fault _ (sym c.finish.ensures.value ∙ failed))

pub returns-in-None-clause-undecided : goal.returns-in-None-clause-undecided
returns-in-None-clause-undecided g c = λ told failed. absurd (answer_no_fault _ (sym c.finish.ensures.value ∙ failed))

pub returns-in-None-clause-memory : goal.returns-in-None-clause-memory
returns-in-None-clause-memory g c = λ told wanted. absurd (answer_wants_none _ (sym c.finish.ensures.value ∙ wanted))

pub returns-in-None-clause-unfailed : goal.returns-in-None-clause-unfailed
returns-in-None-clause-unfailed g c = λ _. c.in_ok-next.ensures.unfailed (λ e. cc) ∙ c.tokens.invariant.unfailed

pub returns-in-None-clause-reads : goal.returns-in-None-clause-reads
returns-in-None-clause-reads g c = OnlyReads-then c.tokens.invariant.reads c.next.ensures.reads

pub returns-in-None-clause-beside : goal.returns-in-None-clause-beside
returns-in-None-clause-beside g c = c.next.ensures.beside ∙ c.tokens.invariant.beside
