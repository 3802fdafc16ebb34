-- The list of a literal has the number of each clause that holds it, and rises.
use Rattle.std.proofs.Common.{◌≡◌, true, ℕ, List, sym, ◌∙◌, ap, subst}
use Rattle.drat_checker.specs.Places.{Places, place_at}
use Rattle.drat_checker.specs.Numbers.{IsRising, has_number, numbers_of}
use Rattle.lrat_rules.specs.ByLiteral.{place_of}
use Rattle.drat_checker.proofs.database.Database.numbers.Goals as goal

pub returns-clause-rising : goal.returns-clause-rising
returns-clause-rising c =
    let lists = c.self.inside.by_literal in
    let list : c.numbers.result.now ≡ numbers_of lists (place_of c.args.literal) =
    c.numbers.ensures ∙ ap (numbers_of lists) c.key_of.ensures.key in
    subst (λ (l : List ℕ). IsRising l) (sym list) (c.self.invariant.rising (place_of c.args.literal)).rising

pub returns-clause-all : goal.returns-clause-all
returns-clause-all c = λ number clause stands held.
    let lists = c.self.inside.by_literal in
    let list : c.numbers.result.now ≡ numbers_of lists (place_of c.args.literal) =
    c.numbers.ensures ∙ ap (numbers_of lists) c.key_of.ensures.key in
    subst (λ (l : List ℕ). has_number number l ≡ true) (sym list)
    ((c.self.invariant.held number clause (ap (λ (ps : Places). place_at ps number) c.self.view_is ∙ stands)).held c.args.literal held)
