-- What is left to show of `emit_row`.
use Rattle.std.proofs.Common.{◌≡◌, ℕ, List, [], ◌∷◌, ◌++◌, length, arith, ap, sym, ◌∙◌, refl}
use Rattle.std.specs.Prelude.{map, decimal}
use Rattle.std.specs.List.{flat_map, join_with_byte}
use Rattle.std.proofs.lemmas.List.{append-nil}
use Rattle.workload.specs.Texts.{spaced}
use Rattle.host_io.proofs.Emitting.{in_turn, fails_within, same_text, nothing}
use Rattle.workload.proofs.texts.emit_row.Goals as goal

-- numbers in a row with a space between two are the first, and each further one behind a space
spaced_row : (number : ℕ) (numbers : List ℕ) → join_with_byte 32 (map decimal (number ∷ numbers)) ≡ decimal number
    ++ flat_map spaced numbers
spaced_row number [] = sym (append-nil (decimal number))
spaced_row number (next ∷ numbers) = ap (λ (l : List ℕ). decimal number ++ (32 ∷ l)) (spaced_row next numbers)

none : (order : List ℕ) → length order ≡ 0 → order ≡ []
none [] is = refl
none (x ∷ more) is = absurd (omega (arith, is))

pub returns-in_err-emit_number-clause-emits : goal.returns-in_err-emit_number-clause-emits
returns-in_err-emit_number-clause-emits g c =
    let is : c.args.order.now ≡ c.in-Some.first.now ∷ c.in-Some.more.now = c.in-Some.ensures.cases.0 in
    let text = ap (λ (l : List ℕ). join_with_byte 32 (map decimal l)) is ∙ spaced_row c.in-Some.first.now c.in-Some.more.now in
    fails_within c.in_err-emit_number.ensures.emits refl c.from_residual.ensures.0 (join_with_byte 32 (map decimal c.args.order.now))
    (flat_map spaced c.in-Some.more.now) c.emit_number.new.held.items text

pub returns-in_ok-emit_number-clause-emits : goal.returns-in_ok-emit_number-clause-emits
returns-in_ok-emit_number-clause-emits g c =
    let is : c.args.order.now ≡ c.in-Some.first.now ∷ c.in-Some.more.now = c.in-Some.ensures.cases.0 in
    let text = ap (λ (l : List ℕ). join_with_byte 32 (map decimal l)) is ∙ spaced_row c.in-Some.first.now c.in-Some.more.now in
    same_text (in_turn c.in_ok-emit_number.ensures.emits refl c.emit_spaced.ensures.emits) (sym text)

pub returns-in_default-clause-emits : goal.returns-in_default-clause-emits
returns-in_default-clause-emits g c =
    same_text (nothing (g.S.Sink.channel c.args.sink.now) c.args.held.now.items)
    (ap (λ (l : List ℕ). join_with_byte 32 (map decimal l)) (sym (none c.args.order.now c.in_default.ensures.cases)))
