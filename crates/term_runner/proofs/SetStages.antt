-- The stage behind a set of variables that are quantified at once.
use Rattle.std.proofs.Common.{◌≡◌, ◌∙◌, ◌++◌, ◌<◌, ℕ, List, [], ◌∷◌, None, Some, length, refl, sym, ap, arith}
use Rattle.cnf_base.specs.Formula.{Formula}
use Rattle.schedule_plan.specs.Plan.{Stage, Term, after_all, after_exists, some_value}
use Rattle.schedule_plan.specs.SetMove.{quantified_by, trail_by}
use Rattle.term_runner.proofs.Plans.{first_of_set, inside, quantified_of}

-- where no term is stacked none is quantified
pub none_quantified : (formula : Formula) (stage next : Stage) (xs : List ℕ) → stage.stack ≡ [] → after_all formula stage xs ≡ Some next
    → stage ≡ next
none_quantified formula stage next [] bare is = inside stage next is
none_quantified formula stage next (x ∷ xs) bare is =
    let first = first_of_set formula stage next x xs is in
    absurd (let e : None ≡ Some first.later = sym (ap (after_exists formula stage x) bare) ∙ first.taken in cc)

-- the trail of a set is put before what was there
pub trail_before : (xs : List ℕ) (term : Term) (one other : List (ℕ × Term))
    → trail_by xs term (one ++ other) ≡ trail_by xs term one ++ other
trail_before [] term one other = refl
trail_before (x ∷ xs) term one other = trail_before xs (some_value x term) ((x, term) ∷ one) other

pub record IsAfterSet (stage next : Stage) (xs : List ℕ) (top : Term) (rest : List Term) : Type 0 where
  pub fresh : List (ℕ × Term)
  pub is_fresh : fresh ≡ trail_by xs top []
  pub stack : next.stack ≡ quantified_by xs top ∷ rest
  pub pushed : next.pushed ≡ stage.pushed
  pub trail : next.trail ≡ fresh ++ stage.trail

after_each : (formula : Formula) (xs : List ℕ) (stage next : Stage) (top : Term) (rest : List Term) → stage.stack ≡ top ∷ rest
    → after_all formula stage xs ≡ Some next
    → (next.stack ≡ quantified_by xs top ∷ rest) × ((next.pushed ≡ stage.pushed) × (next.trail ≡ trail_by xs top stage.trail))
after_each formula [] stage next top rest stacked is =
    let same = inside stage next is in (
      sym (ap (λ (s : Stage). s.stack) same) ∙ stacked,
      (sym (ap (λ (s : Stage). s.pushed) same), sym (ap (λ (s : Stage). s.trail) same)),
    )
after_each formula (x ∷ xs) stage next top rest stacked is =
    let first = first_of_set formula stage next x xs is in
    let one = quantified_of formula stage first.later x stage.stack first.taken in
    let same : one.top ∷ one.rest ≡ top ∷ rest = sym one.stacked ∙ stacked in
    let own : one.top ≡ top = heads one.top top one.rest rest same in
    let others : one.rest ≡ rest = tails one.top top one.rest rest same in
    let further = after_each formula xs first.later next (some_value x top) rest
    (ap (λ (s : Stage). s.stack) one.after ∙ (λ k. some_value x (own k) ∷ others k)) first.rest in (
      further.0,
      (
        further.1.0 ∙ ap (λ (s : Stage). s.pushed) one.after,
        further.1.1 ∙ ap (trail_by xs (some_value x top)) (ap (λ (s : Stage). s.trail) one.after ∙ (λ k. (x, own k) ∷ stage.trail)),
      ),
    )
  where
    heads : (a b : Term) (one two : List Term) → a ∷ one ≡ b ∷ two → a ≡ b
    heads a b one two e = cc

    tails : (a b : Term) (one two : List Term) → a ∷ one ≡ b ∷ two → one ≡ two
    tails a b one two e = cc

pub after_set : (formula : Formula) (stage next : Stage) (xs : List ℕ) (top : Term) (rest : List Term) → stage.stack ≡ top ∷ rest
    → after_all formula stage xs ≡ Some next → IsAfterSet stage next xs top rest
after_set formula stage next xs top rest stacked is =
    let each = after_each formula xs stage next top rest stacked is in
    record {
      fresh = trail_by xs top [];
      is_fresh = refl;
      stack = each.0;
      pushed = each.1.0;
      trail = each.1.1 ∙ trail_before xs top [] stage.trail;
    }

-- where some variable is quantified a term is stacked
pub record IsStacked (stage : Stage) : Type 0 where
  pub top : Term
  pub rest : List Term
  pub stacked : stage.stack ≡ top ∷ rest

pub some_stacked : (formula : Formula) (stage next : Stage) (xs : List ℕ) → 0 < length xs → after_all formula stage xs ≡ Some next
    → IsStacked stage
some_stacked formula stage next [] some is = absurd (omega (arith, some))
some_stacked formula stage next (x ∷ xs) some is =
    let first = first_of_set formula stage next x xs is in
    let one = quantified_of formula stage first.later x stage.stack first.taken in
    record { top = one.top; rest = one.rest; stacked = one.stacked }
