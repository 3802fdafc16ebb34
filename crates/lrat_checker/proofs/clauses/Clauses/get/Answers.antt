-- What is left to show of `Clauses::get`.
use Rattle.std.proofs.Common.{◌≡◌, None, Some, nat_eq, sym, ◌∙◌, ap}
use Rattle.std.specs.HashMap.{get}
use Rattle.lrat_rules.specs.State.{Live, clause_at}
use Rattle.lrat_checker.specs.Clauses.{Place, near_at, or_else, stands_at}
use Rattle.lrat_checker.proofs.Stored.{stands_live}
use Rattle.lrat_checker.proofs.clauses.Clauses.get.Goals as goal

pub returns-in-Some : goal.returns-in-Some
returns-in-Some c =
    let chunks = c.self.inside.chunks.items in
    let number = c.get-number.result in
    let here : near_at chunks number ≡ Some c.in-Some.clause.now = sym (c.in-Some.ensures
    ∙ ap (λ l. near_at l number) c.as_slice.ensures.value) in
    sym (ap (λ (live : Live). clause_at live c.args.id) (sym c.self.view_is)
    ∙ stands_live (stands_at (near_at chunks) (get nat_eq c.self.inside.far)) c.self.inside.top c.self.invariant.beyond c.args.id
    ∙ ap (stands_at (near_at chunks) (get nat_eq c.self.inside.far)) (sym c.get-number.ensures)
    ∙ ap (λ (o : Place). or_else o (get nat_eq c.self.inside.far number)) here)

pub returns-in-None-get : goal.returns-in-None-get
returns-in-None-get c =
    let chunks = c.self.inside.chunks.items in
    let number = c.get-number.result in
    let here : near_at chunks number ≡ None = sym (c.in-None.ensures ∙ ap (λ l. near_at l number) c.as_slice.ensures.value) in
    sym (ap (λ (live : Live). clause_at live c.args.id) (sym c.self.view_is)
    ∙ stands_live (stands_at (near_at chunks) (get nat_eq c.self.inside.far)) c.self.inside.top c.self.invariant.beyond c.args.id
    ∙ ap (stands_at (near_at chunks) (get nat_eq c.self.inside.far)) (sym c.get-number.ensures)
    ∙ ap (λ (o : Place). or_else o (get nat_eq c.self.inside.far number)) here
    ∙ sym c.in-None-get.ensures.value)

pub returns-in-Some-get : goal.returns-in-Some-get
returns-in-Some-get c =
    let chunks = c.self.inside.chunks.items in
    let number = c.get-number.result in
    let here : near_at chunks number ≡ None = sym (c.in-None.ensures ∙ ap (λ l. near_at l number) c.as_slice.ensures.value) in
    sym (ap (λ (live : Live). clause_at live c.args.id) (sym c.self.view_is)
    ∙ stands_live (stands_at (near_at chunks) (get nat_eq c.self.inside.far)) c.self.inside.top c.self.invariant.beyond c.args.id
    ∙ ap (stands_at (near_at chunks) (get nat_eq c.self.inside.far)) (sym c.get-number.ensures)
    ∙ ap (λ (o : Place). or_else o (get nat_eq c.self.inside.far number)) here
    ∙ sym c.in-Some-get.ensures.value ∙ ap Some (sym c.literals.ensures))
