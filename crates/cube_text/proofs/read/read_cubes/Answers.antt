-- What is ahead of a new scanner are the items of the text. The end or a token that offends decides, and the text goes on
-- behind one that does not.
use Rattle.std.specs.Prelude.{IfOk}
use Rattle.std.proofs.Common.{◌≡◌, ℕ, length, Err, refl, ◌∙◌, ap, subst, arith}
use Rattle.text_scan.specs.Decides.{gained, Decides-none, Decides-then, OnlyReads-then, gained-none, front-then}
use Rattle.text_scan.specs.Items.{items, items_of_front}
use Rattle.text_scan.specs.Scan.{ahead, so_far}
use Rattle.cube_text.specs.declared.error.CubeError.TheVariants.{OutOfMemory}
use Rattle.cube_text.specs.CubeReader.{Answers, Passes, pass_none, pass_one, WantsMemory, error_of}
use Rattle.cube_text.specs.CubeText.{AreCubes, max_bytes, no_cubes, cubes_of, cube_text}
use Rattle.cube_text.proofs.CubesJudged.{goes_on, error_is, end_answers, error_answers, take_answers, front_of_next, fault_so_far}
use Rattle.cube_text.proofs.CubesJudged.{undecided_behind}
use Rattle.cube_text.proofs.Consistent.{same_vars}
use Rattle.cnf_base.specs.Number.{signed_number}
use Rattle.cube_text.proofs.read.read_cubes.Goals as goal

pub returns-in-None-clause-decides : goal.returns-in-None-clause-decides
returns-in-None-clause-decides g c = λ told.
    let gives = rw c.in-None.is at (c.in_ok-next.ensures.gives told) in
    let value = rw c.line.ensures at c.finish.ensures.value in
    Decides-then (λ bytes more. Answers c.finish.result (cube_text c.args.vars bytes)) (c.tokens.invariant.passed told) gives
    (λ bytes middle more p q. end_answers c.finish.result c.args.vars c.next.new.self.line (items 35 max_bytes bytes)
    (ahead c.tokens.scanner middle) c.tokens.front p q.0 value)

pub tokens-init : goal.tokens-init
tokens-init g c =
    let none = gained-none (g.S.Source.channel c.args.source.now) in
    record {
      passed = λ told. Decides-none (g.S.Source.channel c.args.source.now)
          (λ bytes more. Passes c.args.vars (items 35 max_bytes bytes) (ahead c.new-scanner.result more) c.new-front.result)
          (λ more. rw (c.new-front.ensures, c.new-scanner.ensures.items more) pass_none);
      so_far = λ told reads more. rw (c.new-front.ensures, none, c.new-scanner.ensures.front more) refl;
      vars = rw (c.new-front.ensures) refl;
      sound = rw (c.new-scanner.ensures.reading) refl;
      reads = record { written = refl; flushed = refl; name = refl; faults = omega arith };
      unfailed = refl;
      beside = refl;
    }

pub tokens-preserved : goal.tokens-preserved
tokens-preserved g c =
    let moves = rw c.in-Some.is at c.in_ok-next.ensures.moves in
    let takes = c.in_ok-take-in-Some.ensures.takes in
    record {
      passed = λ told.
          let gives = rw c.in-Some.is at (c.in_ok-next.ensures.gives told) in
          Decides-then (λ bytes more. Passes c.args.vars (items 35 max_bytes bytes) (ahead c.next.new.self more) c.take.new.self)
          (c.tokens.invariant.passed told) gives
          (λ bytes middle more p q. rw takes.1 (pass_one (rw q at p) takes.0));
      so_far = λ told reads.
          let gives = rw c.in-Some.is at (c.in_ok-next.ensures.so_far told) in
          let step = front_of_next c.tokens.scanner c.next.new.self c.in-Some.token
          (gained (g.S.Source.channel c.tokens.source) (g.S.Source.channel c.next.new.source))
          (λ is. cubes_of is c.tokens.front) (λ is. cubes_of is c.take.new.self)
          (λ items. goes_on c.in-Some.token items c.tokens.front c.take.new.self takes.0 takes.1)
          c.next.ensures.stopped_scanner gives reads in
          front-then (λ l. cubes_of (items_of_front 35 l) (no_cubes c.args.vars))
          (λ l. cubes_of (so_far c.tokens.scanner l) c.tokens.front)
          (λ l. cubes_of (so_far c.next.new.self l) c.take.new.self) (c.tokens.invariant.passed told)
          (c.in_ok-next.ensures.gives told)
          (c.tokens.invariant.so_far told step.0) step.1;
      vars = same_vars (signed_number c.in-Some.token.bytes) c.tokens.front c.take.new.self takes.1 ∙ c.tokens.invariant.vars;
      sound = moves.sound;
      reads = OnlyReads-then c.tokens.invariant.reads c.next.ensures.reads;
      unfailed = c.in_ok-next.ensures.unfailed (λ e. cc) ∙ c.tokens.invariant.unfailed;
      beside = c.next.ensures.beside ∙ c.tokens.invariant.beside;
    }

pub returns-in_err-next-clause-decides : goal.returns-in_err-next-clause-decides
returns-in_err-next-clause-decides g c = λ told.
    let error = error_is c.from_residual.result (error_of c.in_err-next.field-0.0) c.from_residual.ensures.1 in
    Decides-then (λ bytes more. Answers c.from_residual.result (cube_text c.args.vars bytes)) (c.tokens.invariant.passed told)
    (c.in_err-next.ensures.gives told)
    (λ bytes middle more p q. error_answers c.from_residual.result c.in_err-next.field-0.0 c.next.new.self.line c.args.vars
    (items 35 max_bytes bytes)
    (ahead c.tokens.scanner middle) (ahead c.next.new.self more) c.tokens.front error p q)

pub returns-in_err-take-in-Some-clause-decides : goal.returns-in_err-take-in-Some-clause-decides
returns-in_err-take-in-Some-clause-decides g c = λ told.
    let gives = rw c.in-Some.is at (c.in_ok-next.ensures.gives told) in
    let error = error_is c.from_residual-in_err-take-in-Some.result c.in_err-take-in-Some.field-0.0
    c.from_residual-in_err-take-in-Some.ensures.1 in
    let takes = c.in_err-take-in-Some.ensures.takes in
    Decides-then (λ bytes more. Answers c.from_residual-in_err-take-in-Some.result (cube_text c.args.vars bytes))
    (c.tokens.invariant.passed told) gives
    (λ bytes middle more p q. take_answers c.from_residual-in_err-take-in-Some.result c.in_err-take-in-Some.field-0.0 c.in-Some.token
    c.args.vars (items 35 max_bytes bytes)
    (ahead c.next.new.self more) c.tokens.front c.take.new.self error (rw q at p) takes)

-- A failed read was met while the bytes taken gave no further token.
pub returns-in_err-next-clause-undecided : goal.returns-in_err-next-clause-undecided
returns-in_err-next-clause-undecided g c = λ told failed.
    let error = error_is c.from_residual.result (error_of c.in_err-next.field-0.0) c.from_residual.ensures.1 in
    let last = fault_so_far c.from_residual.result c.in_err-next.field-0.0 c.tokens.scanner c.next.new.self
    (gained (g.S.Source.channel c.tokens.source) (g.S.Source.channel c.next.new.source))
    c.tokens.front error failed c.tokens.invariant.sound c.in_err-next.ensures.stopped_answer
    (c.in_err-next.ensures.so_far told) in
    undecided_behind (λ l. cubes_of (items_of_front 35 l) (no_cubes c.args.vars))
    (λ l. cubes_of (so_far c.tokens.scanner l) c.tokens.front)
    (c.tokens.invariant.passed told) (c.in_err-next.ensures.gives told) (c.tokens.invariant.so_far told last.0) last.1

-- Memory was wanted for a token that does not offend, behind others.
pub returns-in_err-take-in-Some-clause-memory : goal.returns-in_err-take-in-Some-clause-memory
returns-in_err-take-in-Some-clause-memory g c = λ told wanted.
    let gives = rw c.in-Some.is at (c.in_ok-next.ensures.gives told) in
    let error = error_is c.from_residual-in_err-take-in-Some.result c.in_err-take-in-Some.field-0.0
    c.from_residual-in_err-take-in-Some.ensures.1 in
    let memory : c.in_err-take-in-Some.field-0.0 ≡ OutOfMemory = cc in
    let none = c.in_err-take-in-Some.ensures.memory (ap Err memory) in
    Decides-then (λ bytes more. WantsMemory c.args.vars (length more) (items 35 max_bytes bytes)) (c.tokens.invariant.passed told) gives
    (λ bytes middle more p q. record {
      word = c.in-Some.token;
      after = ahead c.next.new.self more;
      draft = c.tokens.front;
      passed = rw q at p;
      unoffending = none;
      near = c.near_law.ensures more;
    })

-- The cubes are of the variables asked for.
pub returns-in-None-clause-cubes : goal.returns-in-None-clause-cubes
returns-in-None-clause-cubes g c = subst (λ (vars : ℕ). IfOk c.finish.result (AreCubes vars)) c.tokens.invariant.vars c.finish.ensures.cubes
