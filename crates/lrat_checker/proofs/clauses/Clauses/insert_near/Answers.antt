-- What is left to show of `Clauses::insert_near`.
use Rattle.std.proofs.Common.{◌≡◌, ◌+◌, ◌≤◌, ℕ, None, Some, nat_eq, refl, ◌∙◌, ap, arith}
use Rattle.std.specs.Prelude.{if◌then◌else◌, ◌==◌}
use Rattle.std.specs.HashMap.{get}
use Rattle.lrat_rules.specs.State.{Live, with_clause}
use Rattle.lrat_checker.specs.Clauses.{Place, near_at, stands_at, live_below}
use Rattle.lrat_checker.proofs.Stored.{stored_changed, live_inserted, turned, absent, far_beyond}
use Rattle.lrat_checker.proofs.clauses.Clauses.insert_near.Goals as goal
use Rattle.lrat_checker.proofs.clauses.Clauses.insert_near.Goals.{then-number-self+in-Some-1, then-number-self+in-None-1, else-number-self}

pub returns-clause-ok : goal.returns-clause-ok
returns-clause-ok c =
    let number = c.get-number.result in
    let clause = c.args.literals.now in
    let near = near_at c.self.inside.chunks.items in
    let far = get nat_eq c.self.inside.far in
    let near' = near_at c.put.new.chunks.items in
    let top = c.self.inside.top in
    let near_is : (n : ℕ) → near' n ≡ (if n == number then Some clause else near n) =
    λ n. c.put.ensures n ∙ ap (λ (o : Place). if n == number then o else near_at c.reach.new.chunks.items n) c.requires
    ∙ ap (λ (o : Place). if n == number then Some clause else o) (c.reach.ensures.same n) in
    let done : (far' : ℕ → Place) (top' : ℕ) → ((n : ℕ) → far' n ≡ (if n == number then None else far n)) → top ≤ top' → number ≤ top'
    → live_below (stands_at near' far') (top' + 1) ≡ with_clause c.args.self.now c.args.id clause =
    λ far' top' far_is le within.
    live_inserted near far near' far' number (Some clause) None top top' c.self.invariant near_is far_is
    (stored_changed near far near' far' number (Some clause) None top top' c.self.invariant near_is far_is (λ _. refl) le
    (λ lt. absurd (omega (arith, lt, within)))) clause refl
    ∙ ap (λ (live : Live). with_clause live number clause) c.self.view_is
    ∙ ap (λ n. with_clause c.args.self.now n clause) c.get-number.ensures in
    elim c.if-number-self.branch [
      | then-number-self+in-Some-1 w ↦
          rw w.self-inside-is (done (get nat_eq w.remove.new.self) top (λ n. w.remove.ensures.updates.0 n
          ∙ turned number n None (far n)) (omega arith) (omega (arith, w.if-number-self.true)))
      | then-number-self+in-None-1 w ↦
          rw w.self-inside-is (done (get nat_eq w.remove.new.self) top (λ n. w.remove.ensures.updates.0 n
          ∙ turned number n None (far n)) (omega arith) (omega (arith, w.if-number-self.true)))
      | else-number-self w ↦
          rw w.self-inside-is (done far number (absent far number
          (far_beyond near far top number c.self.invariant (omega (arith, w.if-number-self.false))))
          (omega (arith, w.if-number-self.false)) (omega arith))
    ]
