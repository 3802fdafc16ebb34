-- What is left to show of `write_word`.
use Rattle.std.proofs.Common.{◌+◌, ◌<◌, ◌≤◌, ℕ, List, [], ◌++◌, length, length-append, refl, sym, arith}
use Rattle.std.proofs.lemmas.List.{append-nil}
use Rattle.answer_text.specs.Model.{max_width, separator}
use Rattle.answer_text.proofs.Parts.{start, went_on, failed_within}
use Rattle.answer_text.proofs.Words.{space_before, line_before}
use Rattle.answer_text.proofs.model.write_word.Goals as goal

pub returns-in_err-write_all-clause-writes : goal.returns-in_err-write_all-clause-writes
returns-in_err-write_all-clause-writes g c =
    let word : List ℕ = c.args.sign.now ++ c.args.digits.now in
    let fits : c.args.width + 1 + length word ≤ max_width = omega
    (arith, length-append c.args.sign.now c.args.digits.now, c.if-behind-le-MAX_WIDTH.true) in
    failed_within (start (separator c.args.width word ++ word)) c.in_err-write_all.ensures.writes refl c.from_residual.ensures.0 word
    (space_before c.args.width word fits)

pub returns-in_err-write_sign_and_digits-clause-writes : goal.returns-in_err-write_sign_and_digits-clause-writes
returns-in_err-write_sign_and_digits-clause-writes g c =
    let word : List ℕ = c.args.sign.now ++ c.args.digits.now in
    let fits : c.args.width + 1 + length word ≤ max_width = omega
    (arith, length-append c.args.sign.now c.args.digits.now, c.if-behind-le-MAX_WIDTH.true) in
    failed_within (went_on (start (separator c.args.width word ++ word)) c.in_ok-write_all.ensures.writes refl word
    (space_before c.args.width word fits))
    c.in_err-write_sign_and_digits.ensures.writes refl c.from_residual-in_err-write_sign_and_digits.ensures.0 [] (sym (append-nil word))

pub returns-in_err-write_all-2-clause-writes : goal.returns-in_err-write_all-2-clause-writes
returns-in_err-write_all-2-clause-writes g c =
    let word : List ℕ = c.args.sign.now ++ c.args.digits.now in
    let long : max_width < c.args.width + 1 + length word = omega
    (arith, length-append c.args.sign.now c.args.digits.now, c.if-behind-le-MAX_WIDTH.false) in
    failed_within (start (separator c.args.width word ++ word)) c.in_err-write_all-2.ensures.writes refl
    c.from_residual-in_err-write_all-2.ensures.0 word (line_before c.args.width word long)

pub returns-in_err-write_sign_and_digits-2-clause-writes : goal.returns-in_err-write_sign_and_digits-2-clause-writes
returns-in_err-write_sign_and_digits-2-clause-writes g c =
    let word : List ℕ = c.args.sign.now ++ c.args.digits.now in
    let long : max_width < c.args.width + 1 + length word = omega
    (arith, length-append c.args.sign.now c.args.digits.now, c.if-behind-le-MAX_WIDTH.false) in
    failed_within (went_on (start (separator c.args.width word ++ word)) c.in_ok-write_all-2.ensures.writes refl word
    (line_before c.args.width word long))
    c.in_err-write_sign_and_digits-2.ensures.writes refl c.from_residual-in_err-write_sign_and_digits-2.ensures.0 [] (sym (append-nil word))
