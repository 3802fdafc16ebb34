-- What is left to show of `move_hints`.
use Rattle.std.proofs.Common.{ℕ, ◌||◌, ◌∙◌, ap}
use Rattle.std.specs.Prelude.{nat_eq}
use Rattle.std.specs.List.{list_any}
use Rattle.proof_trim.specs.Numbers.{has}
use Rattle.proof_trim.specs.Packed.{codes_ahead}
use Rattle.proof_trim.proofs.Moved.{behind_on, behind_end, behind_none, moved_on, moved_end, moved_none, entered_on, entered_end}
use Rattle.proof_trim.proofs.Moved.{entered_none, is_code_of}
use Rattle.proof_trim.proofs.sweep.move_hints.Goals as goal

pub codes-preserved : goal.codes-preserved
codes-preserved c = record {
  behind = behind_on c.in-Some.code c.codes.invariant.behind c.in-Some.ensures.some c.if-code-eq0.false;
  moved = moved_on c.in-Some.code c.codes.invariant.moved c.in-Some.ensures.some c.if-code-eq0.false c.in_ok-push-in-Some.ensures;
  entered = entered_on c.in-Some.code (has c.codes.numbers) (has c.enter.new.self)
      (λ id. list_any (is_code_of id) (codes_ahead c.args.from.now) || has c.args.numbers.now id) c.codes.invariant.entered
      c.in-Some.ensures.some c.if-code-eq0.false
      (λ id. c.in_ok-enter-in-Some.ensures id ∙ ap (λ (n : ℕ). nat_eq id n || has c.codes.numbers id) c.number_of.ensures);
}

pub returns-then-code-eq0-clause-from : goal.returns-then-code-eq0-clause-from
returns-then-code-eq0-clause-from c = behind_end c.in-Some.code c.codes.invariant.behind c.in-Some.ensures.some c.if-code-eq0.true

pub returns-then-code-eq0-clause-to : goal.returns-then-code-eq0-clause-to
returns-then-code-eq0-clause-to c = moved_end c.in-Some.code c.codes.invariant.moved c.in-Some.ensures.some c.if-code-eq0.true

pub returns-in-None-clause-from : goal.returns-in-None-clause-from
returns-in-None-clause-from c = behind_none c.codes.invariant.behind c.in-None.ensures.none c.in-None.ensures.left

pub returns-in-None-clause-to : goal.returns-in-None-clause-to
returns-in-None-clause-to c = moved_none c.codes.invariant.moved c.in-None.ensures.none

pub returns-then-code-eq0-clause-numbers : goal.returns-then-code-eq0-clause-numbers
returns-then-code-eq0-clause-numbers c =
    entered_end c.in-Some.code (has c.codes.numbers) (λ id. list_any (is_code_of id) (codes_ahead c.args.from.now) || has
    c.args.numbers.now id)
    c.codes.invariant.entered c.in-Some.ensures.some c.if-code-eq0.true

pub returns-in-None-clause-numbers : goal.returns-in-None-clause-numbers
returns-in-None-clause-numbers c =
    entered_none (has c.codes.numbers) (λ id. list_any (is_code_of id) (codes_ahead c.args.from.now) || has c.args.numbers.now id)
    c.codes.invariant.entered c.in-None.ensures.none
