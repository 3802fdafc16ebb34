-- The first number that is no literal ends the clause, or shows that there is none.
use Rattle.std.proofs.Common.{◌≡◌, ◌+◌, ℕ, List, ℤ, suc, drop, take, option_map, refl, sym, ◌∙◌, ap, arith, add-one}
use Rattle.cnf_base.specs.Truth.{is_literal_of}
use Rattle.cnf_base.specs.ProofText.{max_literal}
use Rattle.lrat_text.proofs.Ends.{ended_at, never_ended, literals_deny}
use Rattle.lrat_text.proofs.build.put_clause.Goals as goal

pub returns-then-not-is_within_at-clause-clause : goal.returns-then-not-is_within_at-clause-clause
returns-then-not-is_within_at-clause-clause c =
    let numbers : List ℤ = c.args.numbers.now in
    let place = c.loop-place.place in
    let f : ℕ → List ℤ × List ℤ = λ n. (c.loop-place.clause, drop (n + 1) numbers) in
    let parts : f place ≡ (take place numbers, drop (suc place) numbers) = rw (add-one place, c.loop-place.invariant.same) refl in
    ended_at (is_literal_of max_literal) literals_deny f numbers place c.loop-place.invariant.range c.loop-place-test.true
    (sym c.is_within_at.ensures ∙ c.if-not-is_within_at.true) parts ∙ ap (option_map f) (sym c.zero_at.ensures)

pub returns-clause-clause : goal.returns-clause-clause
returns-clause-clause c = never_ended (is_literal_of max_literal) literals_deny c.args.numbers.now c.loop-place.place
    c.loop-place.invariant.range (omega (arith, c.loop-place-test.false))
