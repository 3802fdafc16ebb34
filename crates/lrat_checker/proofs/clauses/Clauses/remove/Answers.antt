-- What is left to show of `Clauses::remove`.
use Rattle.std.proofs.Common.{◌≡◌, ℕ, None, true, nat_eq, is_some, refl, sym, ◌∙◌, ap, arith}
use Rattle.std.specs.Prelude.{if◌then◌else◌, ◌==◌}
use Rattle.std.specs.HashMap.{get}
use Rattle.std.specs.FinMap as finmap
use Rattle.lrat_rules.specs.State.{Live}
use Rattle.lrat_checker.specs.Clauses.{near_at}
use Rattle.lrat_checker.proofs.Stored.{stored_changed, live_removed, turned, absent}
use Rattle.lrat_checker.proofs.clauses.Clauses.remove.Goals as goal
use Rattle.lrat_checker.proofs.clauses.Clauses.remove.Goals.{in-Some-1, in-None-1}

pub returns-then-is_none : goal.returns-then-is_none
returns-then-is_none c =
    let number = c.get-number.result in
    let near = near_at c.self.inside.chunks.items in
    let far = get nat_eq c.self.inside.far in
    let near' = near_at c.take.new.chunks.items in
    let far' = get nat_eq c.remove.new.self in
    let top = c.self.inside.top in
    let far_is : (n : ℕ) → far' n ≡ (if n == number then None else far n) = λ n. c.remove.ensures.updates.0 n
    ∙ turned number n None (far n) in
    let after = stored_changed near far near' far' number None None top top c.self.invariant c.take.ensures.places far_is (λ _. refl)
    (omega arith) (λ _. refl) in
    let removed = live_removed near far near' far' number None None top top c.self.invariant c.take.ensures.places far_is after refl in
    let is : c.match-remove.self ≡ _ =
    elim c.match-remove.branch [ in-Some-1 w ↦ w.self-is | in-None-1 w ↦ w.self-is ] in
    is ∙ removed ∙ ap (λ (live : Live). finmap.remove live number) c.self.view_is ∙ ap (finmap.remove c.args.self.now) c.get-number.ensures

pub returns-else-is_none : goal.returns-else-is_none
returns-else-is_none c =
    let number = c.get-number.result in
    let near = near_at c.self.inside.chunks.items in
    let far = get nat_eq c.self.inside.far in
    let near' = near_at c.take.new.chunks.items in
    let top = c.self.inside.top in
    let some : is_some (near number) ≡ true = sym c.take.ensures.taken ∙ c.if-is_none.ensures in
    let far_is : (n : ℕ) → far n ≡ (if n == number then None else far n) = absent far number (c.self.invariant.apart number some) in
    let after = stored_changed near far near' far number None None top top c.self.invariant c.take.ensures.places far_is (λ _. refl)
    (omega arith) (λ _. refl) in
    live_removed near far near' far number None None top top c.self.invariant c.take.ensures.places far_is after refl
    ∙ ap (λ (live : Live). finmap.remove live number) c.self.view_is ∙ ap (finmap.remove c.args.self.now) c.get-number.ensures
