-- The bucket plan is admissible.
use Rattle.std.proofs.Common.{◌≡◌, ℕ, ◌<◌, ◌≤◌, List, [], ◌∷◌, length, All, refl, arith, inl, inr}
use Rattle.std.proofs.lemmas.Bool.{cases_eq}
use Rattle.std.proofs.lemmas.List.Elements.{All-head, All-tail}
use Rattle.cnf_base.specs.Truth.{AreClausesOf}
use Rattle.cnf_base.specs.Formula.{Formula}
use Rattle.cnf_base.specs.Order.{IsOrder}
use Rattle.schedule_plan.specs.Plan.{Term, both, IsAdmissible, no_stage}
use Rattle.schedule_plan.specs.Bucket.{conjunction, items, moves_of_all, bucket}
use Rattle.schedule_plan.proofs.Terms.{times, counted, IsClosed, times-conjunction}
use Rattle.schedule_plan.proofs.Buckets.{last_once, items_are_closed}
use Rattle.schedule_plan.proofs.Making.{AreNew, IsSound, with_term, makes_term, inputs_within, is_pushed-standing, standing_after}

IsClosed-conjunction : (formula : Formula) (first : Term) (more : List Term) → IsClosed formula first → All (IsClosed formula) more
    → IsClosed formula (conjunction first more)
IsClosed-conjunction formula first [] closed all = closed
IsClosed-conjunction formula first (next ∷ more) closed all =
    IsClosed-conjunction formula (both first next) more (closed, All-head (IsClosed formula) next more all)
    (All-tail (IsClosed formula) next more all)

nothing_pushed : (formula : Formula) → IsSound formula no_stage
nothing_pushed formula = record { within = λ i there. absurd (omega (arith, there)); stacked = λ i. omega arith }

-- the plan of some closed terms that hold each clause once
admissible : (formula : Formula) (terms : List Term) → All (IsClosed formula) terms
    → ((i : ℕ) → 0 < i → i ≤ length formula.clauses → counted i terms ≡ 1) → IsAdmissible formula (moves_of_all terms)
admissible formula [] closed once = record {
  last = no_stage;
  possible = refl;
  all_pushed = λ i positive small. absurd (omega (arith, once i positive small));
  one_term = omega arith;
}
admissible formula (first ∷ more) closed once =
    let all_closed : IsClosed formula (conjunction first more) =
    IsClosed-conjunction formula first more (All-head (IsClosed formula) first more closed)
    (All-tail (IsClosed formula) first more closed) in
    let new : AreNew (conjunction first more) [] = λ i.
    elim (cases_eq (times i (conjunction first more)) 0) [
      | inl none ↦ omega (arith, none)
      | inr some ↦
          let small = inputs_within formula (conjunction first more) all_closed i (omega (arith, some)) in
          omega (arith, once i small.0 small.1, times-conjunction i first more)
    ] in
    record {
      last = with_term no_stage (conjunction first more);
      possible = makes_term formula no_stage (conjunction first more) (nothing_pushed formula) all_closed new;
      all_pushed = λ i positive small. is_pushed-standing i (with_term no_stage (conjunction first more)).pushed
          (omega (arith, once i positive small, times-conjunction i first more, standing_after i (conjunction first more) []));
      one_term = omega arith;
    }

pub bucket_is_admissible : (formula : Formula) (order : List ℕ) → IsOrder order → length order ≡ formula.vars
    → AreClausesOf formula.vars formula.clauses
    → IsAdmissible formula (bucket formula order)
bucket_is_admissible formula order sound order_is _ =
    admissible formula (items formula order (length order)) (items_are_closed formula order sound order_is (length order) (omega arith))
    (last_once formula order)
