-- The end of the clauses decides the answer, and the body goes on behind a token that does not.
use Rattle.std.proofs.Common.{◌≡◌, ℕ, true, false, List, ◌++◌, length, Err, refl, sym, ◌∙◌, ap, subst, arith}
use Rattle.host_io.specs.Channel.{Rose}
use Rattle.std.specs.Prelude.{codes}
use Rattle.text_scan.specs.Decides.{gained, Decides-none, Decides-map, Decides-then, OnlyReads-then, gained-none, front-then}
use Rattle.text_scan.specs.Items.{the_end, next_word}
use Rattle.text_scan.specs.Scan.{ahead, so_far, is_overlong}
use Rattle.text_scan.specs.declared.scanner.ScanError.TheVariants.{ReadFault as ScanFault}
use Rattle.dimacs_reader.specs.declared.error.CnfError.TheVariants.{OutOfMemory, ReadFault}
use Rattle.dimacs_reader.specs.Answers.{error_of}
use Rattle.dimacs_reader.specs.Body.{IsGood, Passes, pass_none, pass_one, Wants, for_number, for_end}
use Rattle.dimacs_reader.specs.Cnf.{CnfText, is_word, body}
use Rattle.dimacs_reader.proofs.Judged.{then_answers, passes_same, undecided_behind, goes_on, error_is, error_answers, take_answers}
use Rattle.dimacs_reader.proofs.Judged.{fault_of_scan, scan_wants_none, taken_no_fault}
use Rattle.dimacs_reader.proofs.Began.{front_of_next, fault_so_far, end_near}
use Rattle.dimacs_reader.proofs.body.read_body.Goals as goal

pub returns-in-None-clause-decides : goal.returns-in-None-clause-decides
returns-in-None-clause-decides g c = λ told.
    let same = Decides-map (λ bytes more. body c.args.body.mode (ahead c.args.scanner.now bytes) c.args.body.count c.args.body.draft
    ≡ body c.args.body.mode (ahead c.tokens.scanner more) c.args.body.count c.tokens.body.draft)
    (c.tokens.invariant.passed told) (λ bytes more passed. passes_same passed) in
    let whole : List ℕ → CnfText = λ bytes. body c.args.body.mode (ahead c.args.scanner.now bytes) c.args.body.count c.args.body.draft in
    let rest : List ℕ → CnfText = λ more. body c.args.body.mode (ahead c.tokens.scanner more) c.args.body.count c.tokens.body.draft in
    let gives = rw c.in-None.is at (c.in_ok-next.ensures.gives told) in
    then_answers c.finish.result whole rest same gives
    (λ middle more q. rw q.0 (rw (c.line.ensures, c.tokens.invariant.count, c.tokens.invariant.mode) at c.finish.ensures.answers))

pub returns-then-is_word-clause-decides : goal.returns-then-is_word-clause-decides
returns-then-is_word-clause-decides g c = λ told.
    let same = Decides-map (λ bytes more. body c.args.body.mode (ahead c.args.scanner.now bytes) c.args.body.count c.args.body.draft
    ≡ body c.args.body.mode (ahead c.tokens.scanner more) c.args.body.count c.tokens.body.draft)
    (c.tokens.invariant.passed told) (λ bytes more passed. passes_same passed) in
    let whole : List ℕ → CnfText = λ bytes. body c.args.body.mode (ahead c.args.scanner.now bytes) c.args.body.count c.args.body.draft in
    let rest : List ℕ → CnfText = λ more. body c.args.body.mode (ahead c.tokens.scanner more) c.args.body.count c.tokens.body.draft in
    let gives = rw c.in-Some.is at (c.in_ok-next.ensures.gives told) in
    let percent : is_word (codes "%") c.in-Some.token.bytes ≡ true = sym c.is_word.ensures ∙ c.if-is_word.true in
    then_answers c.finish-then-is_word.result whole rest same gives
    (λ middle more q. rw (q, percent) (rw (
      c.line-then-is_word.ensures,
      c.tokens.invariant.count,
      c.tokens.invariant.mode,
    ) at c.finish-then-is_word.ensures.answers))

pub tokens-init : goal.tokens-init
tokens-init g c =
    let none = gained-none (g.S.Source.channel c.args.source.now) in
    record {
      passed = λ told. Decides-none (g.S.Source.channel c.args.source.now)
          (λ bytes more. Passes c.args.body.mode c.args.body.count (ahead c.args.scanner.now bytes) c.args.body.draft
          (ahead c.args.scanner.now more) c.args.body.draft) (λ more. pass_none);
      front = λ told reads. (
        reads,
        λ more. ap (λ (l : List ℕ). body c.args.body.mode
            (so_far c.args.scanner.now (l ++ more)) c.args.body.count c.args.body.draft) none,
      );
      count = refl;
      mode = refl;
      sound = c.requires;
      reads = record { written = refl; flushed = refl; name = refl; faults = omega arith };
      unfailed = refl;
      beside = refl;
    }

pub tokens-preserved : goal.tokens-preserved
tokens-preserved g c =
    let moves = rw c.in-Some.is at c.in_ok-next.ensures.moves in
    let percent : is_word (codes "%") c.in-Some.token.bytes ≡ false = sym c.is_word.ensures ∙ c.if-is_word.false in
    let takes = rw (c.tokens.invariant.count, c.tokens.invariant.mode) at c.in_ok-take-in-Some.ensures.takes in
    let good : IsGood c.args.body.mode c.in-Some.token c.args.body.count c.tokens.body.draft = record {
      goes_on = percent;
      unoffending = takes.0;
    } in
    record {
      passed = λ told.
          let gives = rw c.in-Some.is at (c.in_ok-next.ensures.gives told) in
          Decides-then (λ bytes more. Passes c.args.body.mode c.args.body.count (ahead c.args.scanner.now bytes) c.args.body.draft
          (ahead c.next.new.self more) c.take.new.self.draft)
          (c.tokens.invariant.passed told) gives
          (λ bytes middle more p q. rw takes.1 (pass_one (rw q at p) good));
      front = λ told reads.
          let gives = rw c.in-Some.is at (c.in_ok-next.ensures.so_far told) in
          let step = front_of_next c.tokens.scanner c.next.new.self c.in-Some.token
          (gained (g.S.Source.channel c.tokens.source) (g.S.Source.channel c.next.new.source))
          (λ is. body c.args.body.mode is c.args.body.count c.tokens.body.draft)
          (λ is. body c.args.body.mode is c.args.body.count c.take.new.self.draft)
          (λ items. goes_on c.args.body.mode c.args.body.mode c.in-Some.token items c.args.body.count c.args.body.count c.tokens.body.draft
          c.take.new.self.draft percent takes.0 takes.1 refl refl)
          c.next.ensures.stopped_scanner gives reads in
          let before = c.tokens.invariant.front told step.0 in (
            before.0,
            front-then (λ l. body c.args.body.mode (so_far c.args.scanner.now l) c.args.body.count c.args.body.draft)
                (λ l. body c.args.body.mode (so_far c.tokens.scanner l) c.args.body.count c.tokens.body.draft)
                (λ l. body c.args.body.mode (so_far c.next.new.self l) c.args.body.count c.take.new.self.draft)
                (c.tokens.invariant.passed told) (c.in_ok-next.ensures.gives told) before.1 step.1,
          );
      count = c.take.ensures.count ∙ c.tokens.invariant.count;
      mode = c.take.ensures.mode ∙ c.tokens.invariant.mode;
      sound = moves.sound;
      reads = OnlyReads-then c.tokens.invariant.reads c.next.ensures.reads;
      unfailed = c.in_ok-next.ensures.unfailed (λ e. cc) ∙ c.tokens.invariant.unfailed;
      beside = c.next.ensures.beside ∙ c.tokens.invariant.beside;
    }

pub returns-in_err-next-clause-decides : goal.returns-in_err-next-clause-decides
returns-in_err-next-clause-decides g c = λ told.
    let same = Decides-map (λ bytes more. body c.args.body.mode (ahead c.args.scanner.now bytes) c.args.body.count c.args.body.draft
    ≡ body c.args.body.mode (ahead c.tokens.scanner more) c.args.body.count c.tokens.body.draft)
    (c.tokens.invariant.passed told) (λ bytes more passed. passes_same passed) in
    let whole : List ℕ → CnfText = λ bytes. body c.args.body.mode (ahead c.args.scanner.now bytes) c.args.body.count c.args.body.draft in
    let rest : List ℕ → CnfText = λ more. body c.args.body.mode (ahead c.tokens.scanner more) c.args.body.count c.tokens.body.draft in
    let error = error_is c.from_residual.result (error_of c.in_err-next.field-0.0) c.from_residual.ensures.1 in
    then_answers c.from_residual.result whole rest same (c.in_err-next.ensures.gives told)
    (λ middle more q. error_answers c.args.body.mode c.from_residual.result c.in_err-next.field-0.0 c.next.new.self.line c.args.body.count
    c.tokens.body.draft (ahead c.tokens.scanner middle) (ahead c.next.new.self more) error q)

pub returns-in_err-take-in-Some-clause-decides : goal.returns-in_err-take-in-Some-clause-decides
returns-in_err-take-in-Some-clause-decides g c = λ told.
    let same = Decides-map (λ bytes more. body c.args.body.mode (ahead c.args.scanner.now bytes) c.args.body.count c.args.body.draft
    ≡ body c.args.body.mode (ahead c.tokens.scanner more) c.args.body.count c.tokens.body.draft)
    (c.tokens.invariant.passed told) (λ bytes more passed. passes_same passed) in
    let whole : List ℕ → CnfText = λ bytes. body c.args.body.mode (ahead c.args.scanner.now bytes) c.args.body.count c.args.body.draft in
    let rest : List ℕ → CnfText = λ more. body c.args.body.mode (ahead c.tokens.scanner more) c.args.body.count c.tokens.body.draft in
    let gives = rw c.in-Some.is at (c.in_ok-next.ensures.gives told) in
    let percent : is_word (codes "%") c.in-Some.token.bytes ≡ false = sym c.is_word.ensures ∙ c.if-is_word.false in
    let error = error_is c.from_residual-in_err-take-in-Some.result c.in_err-take-in-Some.field-0.0
    c.from_residual-in_err-take-in-Some.ensures.1 in
    then_answers c.from_residual-in_err-take-in-Some.result whole rest same gives
    (λ middle more q. rw q
    (take_answers c.args.body.mode c.from_residual-in_err-take-in-Some.result c.in_err-take-in-Some.field-0.0 c.in-Some.token
    (ahead c.next.new.self more)
    c.args.body.count c.tokens.body.draft c.take.new.self.draft error percent
    (rw (c.tokens.invariant.count, c.tokens.invariant.mode) at c.in_err-take-in-Some.ensures.takes)))

-- A failed read was met while the bytes taken gave no further token.
pub returns-in_err-next-clause-undecided : goal.returns-in_err-next-clause-undecided
returns-in_err-next-clause-undecided g c = λ told failed.
    let error = error_is c.from_residual.result (error_of c.in_err-next.field-0.0) c.from_residual.ensures.1 in
    let last = fault_so_far c.args.body.mode c.from_residual.result c.in_err-next.field-0.0 c.tokens.scanner c.next.new.self
    (gained (g.S.Source.channel c.tokens.source) (g.S.Source.channel c.next.new.source))
    c.args.body.count c.tokens.body.draft error failed c.tokens.invariant.sound c.in_err-next.ensures.stopped_answer
    (c.in_err-next.ensures.so_far told) in
    let before = c.tokens.invariant.front told last.0 in (
      before.0,
      undecided_behind (λ l. body c.args.body.mode (so_far c.args.scanner.now l) c.args.body.count c.args.body.draft)
          (λ l. body c.args.body.mode (so_far c.tokens.scanner l) c.args.body.count c.tokens.body.draft)
          (c.tokens.invariant.passed told) (c.in_err-next.ensures.gives told) before.1 last.1,
    )

-- Memory was wanted for a token that does not offend, behind others.
pub returns-in_err-take-in-Some-clause-memory : goal.returns-in_err-take-in-Some-clause-memory
returns-in_err-take-in-Some-clause-memory g c = λ told wanted.
    let percent : is_word (codes "%") c.in-Some.token.bytes ≡ false = sym c.is_word.ensures ∙ c.if-is_word.false in
    let gives = rw c.in-Some.is at (c.in_ok-next.ensures.gives told) in
    let error = error_is c.from_residual-in_err-take-in-Some.result c.in_err-take-in-Some.field-0.0
    c.from_residual-in_err-take-in-Some.ensures.1 in
    let memory : c.in_err-take-in-Some.field-0.0 ≡ OutOfMemory = cc in
    let none = rw (c.tokens.invariant.count, c.tokens.invariant.mode) at (c.in_err-take-in-Some.ensures.memory (ap Err memory)) in
    Decides-then (λ bytes more. Wants c.args.body.mode c.args.body.count (length more) (ahead c.args.scanner.now bytes) c.args.body.draft
    (ahead c.next.new.self more))
    (c.tokens.invariant.passed told) gives
    (λ bytes middle more p q. for_number (record {
      word = c.in-Some.token;
      draft = c.tokens.body.draft;
      passed = rw q at p;
      good = record { goes_on = percent; unoffending = none };
      near = c.near_law.ensures more;
    }))

-- or, at the end of the clauses, for one without its zero
pub returns-in-None-clause-memory : goal.returns-in-None-clause-memory
returns-in-None-clause-memory g c = λ told wanted.
    let gives = rw c.in-None.is at (c.in_ok-next.ensures.gives told) in
    let asked = c.finish.ensures.memory wanted in
    Decides-then (λ bytes more. Wants c.args.body.mode c.args.body.count (length more) (ahead c.args.scanner.now bytes) c.args.body.draft
    (ahead c.next.new.self more))
    (c.tokens.invariant.passed told) gives
    (λ bytes middle more p q. for_end (record {
      lax = sym c.tokens.invariant.mode
          ∙ asked.0;
      rest = the_end c.next.new.self.line;
      draft = c.tokens.body.draft;
      passed = rw q.0 at p;
      begun = asked.1;
      ends = q.1;
      near = rw q.1 (end_near (length more) c.next.new.self.line);
    }))

pub returns-then-is_word-clause-memory : goal.returns-then-is_word-clause-memory
returns-then-is_word-clause-memory g c = λ told wanted.
    let percent : is_word (codes "%") c.in-Some.token.bytes ≡ true = sym c.is_word.ensures ∙ c.if-is_word.true in
    let gives = rw c.in-Some.is at (c.in_ok-next.ensures.gives told) in
    let asked = c.finish-then-is_word.ensures.memory wanted in
    Decides-then (λ bytes more. Wants c.args.body.mode c.args.body.count (length more) (ahead c.args.scanner.now bytes) c.args.body.draft
    (ahead c.next.new.self more))
    (c.tokens.invariant.passed told) gives
    (λ bytes middle more p q. for_end (record {
      lax = sym c.tokens.invariant.mode
          ∙ asked.0;
      rest = next_word c.in-Some.token (ahead c.next.new.self more);
      draft = c.tokens.body.draft;
      passed = rw q at p;
      begun = asked.1;
      ends = (percent, refl);
      near = c.near_law.ensures more;
    }))

-- The scanner stopped by an error.
pub returns-in_err-next-clause-memory : goal.returns-in_err-next-clause-memory
returns-in_err-next-clause-memory g c = λ told wanted.
    let error = error_is c.from_residual.result (error_of c.in_err-next.field-0.0) c.from_residual.ensures.1 in
    let same : error_of c.in_err-next.field-0.0 ≡ OutOfMemory = cc in
    absurd (scan_wants_none c.in_err-next.field-0.0 same)

pub returns-in_err-next-clause-memory_within : goal.returns-in_err-next-clause-memory_within
returns-in_err-next-clause-memory_within g c = λ wanted.
    let error = error_is c.from_residual.result (error_of c.in_err-next.field-0.0) c.from_residual.ensures.1 in
    let same : error_of c.in_err-next.field-0.0 ≡ OutOfMemory = cc in
    absurd (scan_wants_none c.in_err-next.field-0.0 same)

pub returns-in_err-next-clause-fault : goal.returns-in_err-next-clause-fault
returns-in_err-next-clause-fault g c = λ failed.
    let error = error_is c.from_residual.result (error_of c.in_err-next.field-0.0) c.from_residual.ensures.1 in
    let same : error_of c.in_err-next.field-0.0 ≡ ReadFault = cc in
    subst (λ (faults : ℕ). Rose faults (g.S.Source.channel c.next.new.source).faults) c.tokens.invariant.unfailed
    (c.in_err-next.ensures.fault (ap Err (fault_of_scan c.in_err-next.field-0.0 same)) c.tokens.invariant.sound)

pub returns-in_err-next-clause-unfailed : goal.returns-in_err-next-clause-unfailed
returns-in_err-next-clause-unfailed g c = λ differs.
    let error = error_is c.from_residual.result (error_of c.in_err-next.field-0.0) c.from_residual.ensures.1 in
    c.in_err-next.ensures.unfailed (λ failed. differs (let scan : c.in_err-next.field-0.0 ≡ ScanFault = cc in
    error ∙ ap (λ e. Err (error_of e)) scan)) ∙ c.tokens.invariant.unfailed

pub returns-in_err-next-clause-reads : goal.returns-in_err-next-clause-reads
returns-in_err-next-clause-reads g c = OnlyReads-then c.tokens.invariant.reads c.next.ensures.reads

pub returns-in_err-next-clause-beside : goal.returns-in_err-next-clause-beside
returns-in_err-next-clause-beside g c = c.next.ensures.beside ∙ c.tokens.invariant.beside

-- a token that offends, or want of memory
pub returns-in_err-take-in-Some-clause-undecided : goal.returns-in_err-take-in-Some-clause-undecided
returns-in_err-take-in-Some-clause-undecided g c = λ told failed.
    let error = error_is c.from_residual-in_err-take-in-Some.result c.in_err-take-in-Some.field-0.0
    c.from_residual-in_err-take-in-Some.ensures.1 in
    let same : c.in_err-take-in-Some.field-0.0 ≡ ReadFault = cc in
    absurd (taken_no_fault c.in_err-take-in-Some.field-0.0 _ _ _ _ c.in_err-take-in-Some.ensures.takes same)

pub returns-in_err-take-in-Some-clause-fault : goal.returns-in_err-take-in-Some-clause-fault
returns-in_err-take-in-Some-clause-fault g c = λ failed.
    let error = error_is c.from_residual-in_err-take-in-Some.result c.in_err-take-in-Some.field-0.0
    c.from_residual-in_err-take-in-Some.ensures.1 in
    let same : c.in_err-take-in-Some.field-0.0 ≡ ReadFault = cc in
    absurd (taken_no_fault c.in_err-take-in-Some.field-0.0 _ _ _ _ c.in_err-take-in-Some.ensures.takes same)

pub returns-in_err-take-in-Some-clause-memory_within : goal.returns-in_err-take-in-Some-clause-memory_within
returns-in_err-take-in-Some-clause-memory_within g c = λ wanted. (rw c.in-Some.is at c.in_ok-next.ensures.moves).fits

pub returns-in_err-take-in-Some-clause-unfailed : goal.returns-in_err-take-in-Some-clause-unfailed
returns-in_err-take-in-Some-clause-unfailed g c = λ _. c.in_ok-next.ensures.unfailed (λ e. cc) ∙ c.tokens.invariant.unfailed

pub returns-in_err-take-in-Some-clause-reads : goal.returns-in_err-take-in-Some-clause-reads
returns-in_err-take-in-Some-clause-reads g c = OnlyReads-then c.tokens.invariant.reads c.next.ensures.reads

pub returns-in_err-take-in-Some-clause-beside : goal.returns-in_err-take-in-Some-clause-beside
returns-in_err-take-in-Some-clause-beside g c = c.next.ensures.beside ∙ c.tokens.invariant.beside

-- the end of the text
pub returns-in-None-clause-undecided : goal.returns-in-None-clause-undecided
returns-in-None-clause-undecided g c = λ told failed. absurd (c.finish.ensures.unfailed failed)

pub returns-in-None-clause-fault : goal.returns-in-None-clause-fault
returns-in-None-clause-fault g c = λ failed. absurd (c.finish.ensures.unfailed failed)

pub returns-in-None-clause-memory_within : goal.returns-in-None-clause-memory_within
returns-in-None-clause-memory_within g c = λ wanted. ap (λ status. is_overlong status) (rw c.in-None.is at c.in_ok-next.ensures.moves)

pub returns-in-None-clause-unfailed : goal.returns-in-None-clause-unfailed
returns-in-None-clause-unfailed g c = λ _. c.in_ok-next.ensures.unfailed (λ e. cc) ∙ c.tokens.invariant.unfailed

pub returns-in-None-clause-reads : goal.returns-in-None-clause-reads
returns-in-None-clause-reads g c = OnlyReads-then c.tokens.invariant.reads c.next.ensures.reads

pub returns-in-None-clause-beside : goal.returns-in-None-clause-beside
returns-in-None-clause-beside g c = c.next.ensures.beside ∙ c.tokens.invariant.beside

-- the word that ends the clauses
pub returns-then-is_word-clause-undecided : goal.returns-then-is_word-clause-undecided
returns-then-is_word-clause-undecided g c = λ told failed. absurd (c.finish-then-is_word.ensures.unfailed failed)

pub returns-then-is_word-clause-fault : goal.returns-then-is_word-clause-fault
returns-then-is_word-clause-fault g c = λ failed. absurd (c.finish-then-is_word.ensures.unfailed failed)

pub returns-then-is_word-clause-memory_within : goal.returns-then-is_word-clause-memory_within
returns-then-is_word-clause-memory_within g c = λ wanted. (rw c.in-Some.is at c.in_ok-next.ensures.moves).fits

pub returns-then-is_word-clause-unfailed : goal.returns-then-is_word-clause-unfailed
returns-then-is_word-clause-unfailed g c = λ _. c.in_ok-next.ensures.unfailed (λ e. cc) ∙ c.tokens.invariant.unfailed

pub returns-then-is_word-clause-reads : goal.returns-then-is_word-clause-reads
returns-then-is_word-clause-reads g c = OnlyReads-then c.tokens.invariant.reads c.next.ensures.reads

pub returns-then-is_word-clause-beside : goal.returns-then-is_word-clause-beside
returns-then-is_word-clause-beside g c = c.next.ensures.beside ∙ c.tokens.invariant.beside
