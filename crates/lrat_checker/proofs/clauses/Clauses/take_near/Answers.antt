-- What is left to show of `Clauses::take_near`.
use Rattle.std.proofs.Common.{◌≡◌, ◌+◌, ℕ, None, nat_eq, refl, sym, ◌∙◌, ap, arith}
use Rattle.std.specs.Prelude.{if◌then◌else◌, ◌==◌}
use Rattle.std.specs.HashMap.{get}
use Rattle.std.specs.FinMap as finmap
use Rattle.lrat_rules.specs.State.{Live, clause_at}
use Rattle.lrat_checker.specs.Clauses.{near_at, clause_in, stands_at, live_below}
use Rattle.lrat_checker.proofs.Slots.{some_then}
use Rattle.lrat_checker.proofs.Stored.{stored_changed, live_removed, stands_live, near_first, absent}
use Rattle.lrat_checker.proofs.clauses.Clauses.take_near.Goals as goal

pub returns-clause-clause : goal.returns-clause-clause
returns-clause-clause c =
    let number = c.get.result in
    let near = near_at c.self.inside.chunks.items in
    let far = get nat_eq c.self.inside.far in
    let live = live_below (stands_at near far) (c.self.inside.top + 1) in
    some_then c.take.result (λ slot. clause_in slot ≡ near number) (λ slot. clause_in slot ≡ clause_at c.args.self.now c.args.id)
    c.take.ensures.clause
    (λ some slot is.
    let stands : clause_at live number ≡ near number = stands_live (stands_at near far) c.self.inside.top c.self.invariant.beyond number
    ∙ near_first (near number) (far number) (sym c.take.ensures.taken ∙ some) in
    is ∙ sym stands ∙ ap (λ (l : Live). clause_at l number) c.self.view_is ∙ ap (clause_at c.args.self.now) c.get.ensures)

pub returns-clause-gone : goal.returns-clause-gone
returns-clause-gone c =
    let number = c.get.result in
    let near = near_at c.self.inside.chunks.items in
    let far = get nat_eq c.self.inside.far in
    let near' = near_at c.take.new.chunks.items in
    let top = c.self.inside.top in
    some_then c.take.result (λ slot. clause_in slot ≡ near number) (λ slot. live_below (stands_at near' far) (top + 1)
    ≡ finmap.remove c.args.self.now c.args.id) c.take.ensures.clause
    (λ some slot is.
    let far_is : (n : ℕ) → far n ≡ (if n == number then None else far n) =
    absent far number (c.self.invariant.apart number (sym c.take.ensures.taken ∙ some)) in
    let after = stored_changed near far near' far number None None top top c.self.invariant c.take.ensures.places far_is (λ _. refl)
    (omega arith) (λ _. refl) in
    live_removed near far near' far number None None top top c.self.invariant c.take.ensures.places far_is after refl
    ∙ ap (λ (l : Live). finmap.remove l number) c.self.view_is ∙ ap (finmap.remove c.args.self.now) c.get.ensures)
