-- The least number in the list of the hash is that of the first such clause, since each such clause has the hash.
use Rattle.std.proofs.Common.{◌≡◌, true, ℕ, ℤ, List, Some, IfSome, sym, ◌∙◌, ap, subst}
use Rattle.drat_rules.specs.declared.deletions.Deletions.{Deletions}
use Rattle.drat_rules.specs.Clauses.{equality_of}
use Rattle.drat_checker.specs.declared.number_lists.NumberLists.{NumberLists}
use Rattle.drat_checker.specs.Places.{IsFirst, IsNone, Places, place_at}
use Rattle.drat_checker.specs.Numbers.{has_number, numbers_of}
use Rattle.drat_checker.specs.Database.{IsIndexed, hash_of}
use Rattle.drat_checker.proofs.Hashes.{same-hash}
use Rattle.drat_checker.proofs.LeastNumbers.{first-of, none-of}
use Rattle.drat_checker.proofs.database.Database.find.Goals as goal

-- the number of each such clause is in the list of the hash
in-list : (by_literal by_hash : NumberLists) (shorts : List ℕ) (places : Places) (deletions : Deletions) (clause : List ℤ) (hash : ℕ)
    (numbers : List ℕ) → IsIndexed by_literal by_hash shorts places → hash ≡ hash_of clause → numbers ≡ numbers_of by_hash hash
    → (number : ℕ) (own : List ℤ) → place_at places number ≡ Some own → equality_of deletions clause own ≡ true
    → has_number number numbers ≡ true
in-list by_literal by_hash shorts places deletions clause hash numbers index is list number own stands twin =
    subst (λ (l : List ℕ). has_number number l ≡ true)
    (sym (list ∙ ap (numbers_of by_hash) (is ∙ same-hash deletions clause own twin))) (index.hashed number own stands)

pub returns-clause-found : goal.returns-clause-found
returns-clause-found c =
    let inside = c.self.inside in
    let clause = c.args.clause.now in
    let same = equality_of c.args.deletions in
    subst (λ (ps : Places). IfSome c.least_of.result (λ number. IsFirst same clause ps number)) c.self.view_is
    (first-of same clause inside.store c.numbers-numbers.result.now
    (in-list inside.by_literal inside.by_hash inside.short inside.store c.args.deletions clause c.hash_of.result
    c.numbers-numbers.result.now
    c.self.invariant c.hash_of.ensures c.numbers-numbers.ensures) c.least_of.result c.least_of.ensures.found c.least_of.ensures.least)

pub returns-clause-none : goal.returns-clause-none
returns-clause-none c = λ none.
    let inside = c.self.inside in
    let clause = c.args.clause.now in
    let same = equality_of c.args.deletions in
    subst (λ (ps : Places). IsNone same clause ps) c.self.view_is
    (none-of same clause inside.store c.numbers-numbers.result.now
    (in-list inside.by_literal inside.by_hash inside.short inside.store c.args.deletions clause c.hash_of.result
    c.numbers-numbers.result.now
    c.self.invariant c.hash_of.ensures c.numbers-numbers.ensures) c.least_of.result c.least_of.ensures.least none)
