-- The lists get the new number, also where memory is refused behind it, and lose none.
use Rattle.std.proofs.Common.{◌≡◌, true, ℕ, length, sym, subst}
use Rattle.drat_checker.specs.declared.number_lists.NumberLists.{NumberLists}
use Rattle.drat_checker.specs.Places.{Places}
use Rattle.drat_checker.specs.Numbers.{KeepsRising, has_number, numbers_of}
use Rattle.drat_checker.specs.Database.{IsHeld, IsIndexed, hash_of, is_short}
use Rattle.drat_checker.proofs.Indexed.{indexed-more, indexed-push}
use Rattle.drat_checker.proofs.Kept.{same-lists, same-numbers}
use Rattle.drat_checker.proofs.database.Database.push.Goals as goal

-- the number is the next one
rises-at : (number next : ℕ) (old new : NumberLists) → number ≡ next → KeepsRising number old new → KeepsRising next old new
rises-at number next old new is rises = subst (λ (n : ℕ). KeepsRising n old new) is rises

pub invariant_of-self : goal.invariant_of-self
invariant_of-self c =
    indexed-more c.self.invariant c.enter_literals.ensures.kept (rises-at c.in_ok-number.number (length c.self.inside.store)
    c.self.inside.by_literal c.enter_literals.new.by_literal c.in_ok-number.ensures c.enter_literals.ensures.rising) (same-lists c.self.inside.by_hash) (same-numbers c.self.inside.short)

pub invariant_of-self-in_err-enter : goal.invariant_of-self-in_err-enter
invariant_of-self-in_err-enter c =
    indexed-more c.self.invariant c.enter_literals.ensures.kept (rises-at c.in_ok-number.number (length c.self.inside.store)
    c.self.inside.by_literal c.enter_literals.new.by_literal c.in_ok-number.ensures c.enter_literals.ensures.rising) c.enter.ensures.kept (same-numbers c.self.inside.short)

pub invariant_of-self-in_err-enter_short : goal.invariant_of-self-in_err-enter_short
invariant_of-self-in_err-enter_short c =
    indexed-more c.self.invariant c.enter_literals.ensures.kept (rises-at c.in_ok-number.number (length c.self.inside.store)
    c.self.inside.by_literal c.enter_literals.new.by_literal c.in_ok-number.ensures c.enter_literals.ensures.rising) c.enter.ensures.kept c.enter_short.ensures.kept

pub invariant_of-self-in_err-push : goal.invariant_of-self-in_err-push
invariant_of-self-in_err-push c =
    subst (λ (ps : Places). IsIndexed c.enter_literals.new.by_literal c.enter.new.self c.enter_short.new.short ps)
    (sym c.in_err-push.ensures.err)
    (indexed-more c.self.invariant c.enter_literals.ensures.kept (rises-at c.in_ok-number.number (length c.self.inside.store)
    c.self.inside.by_literal c.enter_literals.new.by_literal c.in_ok-number.ensures c.enter_literals.ensures.rising) c.enter.ensures.kept c.enter_short.ensures.kept)

pub invariant_of-self-2 : goal.invariant_of-self-2
invariant_of-self-2 c =
    let places = c.self.inside.store in
    let next : c.in_ok-number.number ≡ length places = c.in_ok-number.ensures in
    let held : IsHeld c.enter_literals.new.by_literal (length places) c.args.clause.now =
    subst (λ (n : ℕ). IsHeld c.enter_literals.new.by_literal n c.args.clause.now) next c.in_ok-enter_literals.ensures.held in
    let hashed : has_number (length places) (numbers_of c.enter.new.self (hash_of c.args.clause.now)) ≡ true =
    subst (λ (n : ℕ). has_number n (numbers_of c.enter.new.self (hash_of c.args.clause.now)) ≡ true) next
    (subst (λ (h : ℕ). has_number c.in_ok-number.number (numbers_of c.enter.new.self h) ≡ true) c.hash_of.ensures
    c.in_ok-enter.ensures.entered) in
    let short : is_short c.args.clause.now ≡ true → has_number (length places) c.enter_short.new.short ≡ true = λ is.
    subst (λ (n : ℕ). has_number n c.enter_short.new.short ≡ true) next (c.in_ok-enter_short.ensures.entered is) in
    subst (λ (ps : Places). IsIndexed c.enter_literals.new.by_literal c.enter.new.self c.enter_short.new.short ps)
    (sym c.in_ok-push.ensures.ok)
    (indexed-push c.self.invariant c.args.clause.now c.enter_literals.ensures.kept (rises-at c.in_ok-number.number (length c.self.inside.store)
    c.self.inside.by_literal c.enter_literals.new.by_literal c.in_ok-number.ensures c.enter_literals.ensures.rising) c.enter.ensures.kept c.enter_short.ensures.kept
    held hashed short)
