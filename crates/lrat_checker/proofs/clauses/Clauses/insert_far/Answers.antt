-- What is left to show of `Clauses::insert_far`.
use Rattle.std.proofs.Common.{◌≡◌, ℕ, None, Some, nat_eq, refl, ◌∙◌, ap, arith}
use Rattle.std.specs.Prelude.{if◌then◌else◌, ◌==◌}
use Rattle.std.specs.HashMap.{get}
use Rattle.lrat_rules.specs.State.{Live, with_clause}
use Rattle.lrat_checker.specs.Clauses.{near_at}
use Rattle.lrat_checker.proofs.Stored.{stored_changed, live_inserted, turned}
use Rattle.lrat_checker.proofs.clauses.Clauses.insert_far.Goals as goal

pub returns-clause-ok : goal.returns-clause-ok
returns-clause-ok c =
    let number = c.get-number.result in
    let clause = c.args.literals.now in
    let near = near_at c.self.inside.chunks.items in
    let far = get nat_eq c.self.inside.far in
    let near' = near_at c.take.new.chunks.items in
    let far' = get nat_eq c.insert.new.self in
    let top = c.self.inside.top in
    let top' = c.max-self-inside.result in
    let far_is : (n : ℕ) → far' n ≡ (if n == number then Some clause else far n) =
    λ n. c.in_ok-insert.ensures.updates.0 n ∙ turned number n _ (far n)
    ∙ ap (λ l. if n == number then Some l else far n) c.in_ok-clause.ensures in
    let after = stored_changed near far near' far' number None (Some clause) top top' c.self.invariant c.take.ensures.places far_is
    (λ no. cc) (omega (arith, c.max-self-inside.ensures))
    (λ lt. absurd (omega (arith, lt, c.max-self-inside.ensures))) in
    live_inserted near far near' far' number None (Some clause) top top' c.self.invariant c.take.ensures.places far_is after clause refl
    ∙ ap (λ (live : Live). with_clause live number clause) c.self.view_is
    ∙ ap (λ n. with_clause c.args.self.now n clause) c.get-number.ensures
