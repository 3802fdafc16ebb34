-- What is left to show of `take_clause`.
use Rattle.std.proofs.Common.{◌≡◌, ◌∙◌, ◌<◌, ℕ, List, ap, length, map, nat_abs, refl, sym, subst}
use Rattle.std.specs.HashSet as bag
use Rattle.parity_equations.specs.Denied.{AreVariables}
use Rattle.parity_equations.specs.LiteralSet.{variables_of}
use Rattle.parity_equations.specs.Walk.{AreRisingUpTo, sets_of}
use Rattle.parity_equations.proofs.Walked.{are_variables, both_pushed, on_ok_both, rising_variables, seen_at, seen_more_at, some_variables, takes_new, takes_none, takes_seen, unseen_at}
use Rattle.parity_equations.proofs.equations.take_clause.Goals as goal

pub returns-in_default : goal.returns-in_default
returns-in_default c clauses is =
    takes_none clauses c.args.clause.now (sets_of c.args.seen.now) (sets_of c.args.seen.now) c.args.found.now.items c.args.found.now.items
    c.in_default.ensures refl refl

pub returns-then-not-is_new : goal.returns-then-not-is_new
returns-then-not-is_new c clauses is =
    let own : c.variables_of.result.items ≡ variables_of c.args.clause.now = c.variables_of.ensures
    ∙ ap (map nat_abs) c.in-Some.ensures.1 in
    takes_seen clauses c.args.clause.now (sets_of c.args.seen.now) (sets_of c.insert.new.self) c.args.found.now.items c.args.found.now.items
    c.in-Some.ensures.0
    (seen_at c.args.seen.now c.variables_of.result (variables_of c.args.clause.now) own
    (sym c.if-not-is_new.true ∙ c.in_ok-is_new.ensures.added))
    (ap (map (λ variables. variables.items)) (subst (bag.PutsKey c.args.seen.now c.insert.new.self c.variables_of.result)
    c.if-not-is_new.true
    c.in_ok-is_new.ensures.keys)) refl

pub push_equation-requires-clause-variables : goal.push_equation-requires-clause-variables
push_equation-requires-clause-variables c =
    subst AreVariables (sym (c.as_slice.ensures.value ∙ c.variables_of-variables.ensures ∙ ap (map nat_abs) c.in-Some.ensures.1))
    (are_variables c.args.clause.now c.requires)

pub push_equation-requires-2-clause-variables : goal.push_equation-requires-2-clause-variables
push_equation-requires-2-clause-variables c =
    subst AreVariables (sym (c.as_slice-2.ensures.value ∙ c.variables_of-variables.ensures ∙ ap (map nat_abs) c.in-Some.ensures.1))
    (are_variables c.args.clause.now c.requires)

pub returns : goal.returns
returns c =
    let clause = c.args.clause.now in
    let v = variables_of clause in
    let candidate = c.in-Some.ensures.0 in
    let own : c.variables_of.result.items ≡ v = c.variables_of.ensures ∙ ap (map nat_abs) c.in-Some.ensures.1 in
    let again : c.variables_of-variables.result.items ≡ v = c.variables_of-variables.ensures ∙ ap (map nat_abs) c.in-Some.ensures.1 in
    let first : c.as_slice.result.now ≡ v = c.as_slice.ensures.value ∙ again in
    let second : c.as_slice-2.result.now ≡ v = c.as_slice-2.ensures.value ∙ again in
    on_ok_both c.push_equation-2.result
    (λ gained each clauses is. takes_new clauses clause (sets_of c.args.seen.now) (sets_of c.insert.new.self) c.args.found.now.items
    c.push_equation-2.new.found.items candidate
    (unseen_at c.args.seen.now c.variables_of.result v own (sym c.if-not-is_new.false ∙ c.in_ok-is_new.ensures.added))
    (seen_more_at c.args.seen.now c.insert.new.self c.variables_of.result v own
    (subst (bag.PutsKey c.args.seen.now c.insert.new.self c.variables_of.result) c.if-not-is_new.false c.in_ok-is_new.ensures.keys))
    (both_pushed clauses c.as_slice.result.now c.as_slice-2.result.now v c.args.found.now.items c.push_equation.new.found.items
    c.push_equation-2.new.found.items first second (c.in_ok-push_equation.ensures.listed clauses is) (gained clauses is))
    (λ vars over all.
    let some = some_variables clause candidate in
    let rising = rising_variables vars clause c.requires candidate over in
    each vars clauses is (subst (λ (l : List ℕ). 0 < length l) (sym second) some) (subst (AreRisingUpTo vars 1) (sym second) rising)
    (c.in_ok-push_equation.ensures.each vars clauses is (subst (λ (l : List ℕ). 0 < length l) (sym first) some)
    (subst (AreRisingUpTo vars 1) (sym first) rising) all)))
    c.push_equation-2.ensures.listed c.push_equation-2.ensures.each
