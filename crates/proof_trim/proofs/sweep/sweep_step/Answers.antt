-- What is left to show of `sweep_step`.
use Rattle.std.proofs.Common.{refl, sym, ◌∙◌, ap}
use Rattle.std.proofs.lemmas.Bool.{ne_eqb}
use Rattle.proof_trim.specs.Numbers.{has}
use Rattle.proof_trim.specs.Packed.{behind_codes}
use Rattle.proof_trim.proofs.Swept.{addition_looked, addition_passed, deletion_looked, shorter_once, shorter_twice}
use Rattle.proof_trim.proofs.sweep.sweep_step.Goals as goal

pub returns-then-kind-eq1-clause-looks : goal.returns-then-kind-eq1-clause-looks
returns-then-kind-eq1-clause-looks c =
    deletion_looked c.args.kind c.args.id c.args.cut.now c.keep_deletion.new.cut c.args.back.now c.keep_deletion.new.back
    (has c.args.numbers.now) (has c.args.numbers.now) c.if-kind-eq1.true c.in_ok-keep_deletion.ensures.cut c.in_ok-keep_deletion.ensures.row
    c.in_ok-keep_deletion.ensures.additions (λ x. refl)

pub returns-then-kind-eq1-clause-shorter : goal.returns-then-kind-eq1-clause-shorter
returns-then-kind-eq1-clause-shorter c = shorter_once c.args.cut.now c.keep_deletion.new.cut c.in_ok-keep_deletion.ensures.cut

pub returns-then-is_needed-clause-looks : goal.returns-then-is_needed-clause-looks
returns-then-is_needed-clause-looks c =
    addition_looked c.args.kind c.args.id c.args.cut.now c.keep_addition.new.cut c.args.back.now c.keep_addition.new.back
    (has c.args.numbers.now) (has c.keep_addition.new.numbers) (ne_eqb c.args.kind 1 c.if-kind-eq1.false)
    (sym c.is_needed.ensures ∙ c.if-is_needed.true) c.in_ok-keep_addition.ensures.cut c.in_ok-keep_addition.ensures.row
    c.in_ok-keep_addition.ensures.additions c.in_ok-keep_addition.ensures.numbers

pub returns-then-is_needed-clause-shorter : goal.returns-then-is_needed-clause-shorter
returns-then-is_needed-clause-shorter c = shorter_twice c.args.cut.now c.keep_addition.new.cut c.in_ok-keep_addition.ensures.cut

pub returns-clause-looks : goal.returns-clause-looks
returns-clause-looks c =
    addition_passed c.args.kind c.args.id c.args.cut.now c.skip_codes-2.new.row c.args.back.now c.args.back.now
    (has c.args.numbers.now) (has c.args.numbers.now) (ne_eqb c.args.kind 1 c.if-kind-eq1.false)
    (sym c.is_needed.ensures ∙ c.if-is_needed.false) (c.skip_codes-2.ensures ∙ ap behind_codes c.skip_codes.ensures) refl (λ x. refl)

pub returns-clause-shorter : goal.returns-clause-shorter
returns-clause-shorter c = shorter_twice c.args.cut.now c.skip_codes-2.new.row (c.skip_codes-2.ensures ∙ ap behind_codes
    c.skip_codes.ensures)
