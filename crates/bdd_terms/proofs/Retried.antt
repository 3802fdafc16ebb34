-- A call that is tried once more behind a reclamation, where it met the limit of nodes.
use Rattle.std.proofs.Common.{◌≡◌, ◌∙◌, ◌&&◌, ℕ, zero, suc, Bool, List, [], ◌∷◌, Ok, Err, Result, refl, sym, subst, arith}
use Rattle.std.specs.Prelude.{IsErrAnd}
use Rattle.cnf_base.specs.Truth.{Assignment}
use Rattle.node_table.specs.declared.error.TableError.{TableError}
use Rattle.node_table.specs.declared.error.TableError.TheVariants.{NodeLimit}
use Rattle.node_table.specs.Laws.{Canonical, Growth, StepByStep, Subfunctions}
use Rattle.node_table.specs.Progress.{error_of}
use Rattle.node_table.specs.Value.{Levels}
use Rattle.apply_and.specs.Conjunction.{conjunction_of}
use Rattle.clause_terms.specs.Term.{by_variable}
use Rattle.schedule_plan.specs.Plan.{input, term_holds}
use Rattle.bdd_terms.specs.declared.held.HeldTerm.{HeldTerm}
use Rattle.bdd_terms.specs.declared.runner.Runner.{Runner}
use Rattle.bdd_terms.specs.declared.term.Term.{Term}
use Rattle.bdd_terms.specs.Counting.{Counting}
use Rattle.bdd_terms.specs.Runner.{Gives, IsGood, IsRunner, holds_in}
use Rattle.bdd_terms.specs.Takes.{Costs, GivesBack, Takes, asked_in, functions_out}
use Rattle.bdd_terms.specs.Parts.{term_function}
use Rattle.bdd_terms.proofs.CallCosts.{AreGood, costs_again, costs_found, costs_handed, costs_unreclaimed, full_again, function_is}
use Rattle.bdd_terms.proofs.Counted.{counting as counting_of}
use Rattle.bdd_terms.proofs.Rests.{Rests, rests_at_limit, rests_back, rests_further, takes_behind, takes_found, takes_handed}
use Rattle.bdd_terms.proofs.Rests.{takes_unreclaimed}

-- no operands
pub none_good : {S : Type 0} (runner : Runner S) → AreGood runner []
none_good runner held there = absurd (let small = there.1 in omega (arith, small))

-- two of them
pub two_good : {S : Type 0} (runner : Runner S) (u v : HeldTerm) → IsGood runner u → IsGood runner v → AreGood runner (v ∷ u ∷ [])
two_good runner u v is_u is_v held (zero, small, at) = subst (IsGood runner) at is_v
two_good runner u v is_u is_v held (suc zero, small, at) = subst (IsGood runner) at is_u
two_good runner u v is_u is_v held (suc (suc k), small, at) = absurd (omega (arith, small))

-- the conjunction of two terms, by levels
pub conjunction_is : {S : Type 0} → Counting S → (runner : Runner S) → IsRunner runner → (u v : HeldTerm) → IsGood runner u → IsGood runner v
    → conjunction_of runner.terms.table.graph u.node v.node ≡ asked_in runner (λ a. holds_in runner u a && holds_in runner v a)
conjunction_is counting runner is u v is_u is_v =
    let one = function_is counting runner is u is_u (holds_in runner u) (λ a. refl) in
    let other = function_is counting runner is v is_v (holds_in runner v) (λ a. refl) in
    λ i a. one i a && other i a

-- The call for what is asked, tried once.
module _ {S : Type 0} (growth : Growth) (counting : Counting S) (old one : Runner S) (runner : IsRunner old) (function : Levels → Bool)
    (holds asked : Assignment → Bool) (operands : List HeldTerm) (found : Result Term TableError)
    (gives : Gives function holds operands old one found) (good : AreGood old operands) (of_asked : function ≡ asked_in old asked) where
  abbrev pub InHand : List (Levels → Bool)
  InHand = asked_in old asked ∷ functions_out old

  same_costs : {T : Type 0} (new : Runner S) (r : Result T TableError) → Costs (function ∷ functions_out old) old new (error_of r)
      → Costs InHand old new (error_of r)
  same_costs new r costs = subst (λ (f : Levels → Bool). Costs (f ∷ functions_out old) old new (error_of r)) of_asked costs

  pub once_takes : (found ≡ Err NodeLimit → ⊥) → Takes holds old one found
  once_takes within = takes_found growth old one runner function holds operands found (λ is. absurd (within is)) gives

  pub once_costs : (found ≡ Err NodeLimit → ⊥) → Costs InHand old one (error_of found)
  once_costs within = same_costs one found (costs_found counting old one runner function holds operands good found gives within)

  -- it met the limit of nodes
  module _ (steps : StepByStep S) (limit : found ≡ Err NodeLimit) (mid : Runner S) where
    pub rests_one : Rests old one
    rests_one = rests_at_limit growth old one runner function holds operands found limit gives

    -- the reclamation failed
    pub failed_takes : (came : TableError) → GivesBack one mid (Err came) → (r : Result Term TableError) → IsErrAnd r (λ e. e ≡ came)
        → Takes holds old mid r
    failed_takes came back r handed = takes_handed holds old mid came r handed (takes_unreclaimed steps old one mid rests_one holds came back)

    pub failed_costs : (came : TableError) → GivesBack one mid (Err came) → {T : Type 0} (r : Result T TableError)
        → IsErrAnd r (λ e. e ≡ came) → Costs InHand old mid (error_of r)
    failed_costs came back r handed = same_costs mid r (costs_handed (function ∷ functions_out old) old mid came r handed
        (costs_unreclaimed counting old one mid runner function holds operands good found gives came back))

    -- the second try
    module _ (count : ℕ) (back : GivesBack one mid (Ok count)) where
      pub rests_mid : Rests old mid
      rests_mid = rests_further steps old one mid rests_one (rests_back one mid count back)

      module _ (again : Levels → Bool) (after asked_again : Assignment → Bool) (others : List HeldTerm) (new : Runner S)
          (result : Result Term TableError) (more : Gives again after others mid new result) (good_others : AreGood mid others)
          (of_again : again ≡ asked_in mid asked_again) (same : asked_again ≡ asked) where
        same_function : again ≡ function
        same_function =
            of_again ∙ (λ i a. same i (by_variable (rests_mid.order i) a)) ∙ sym of_asked

        pub again_takes : ((a : Assignment) → after a ≡ holds a) → Takes holds old new result
        again_takes same_holds = takes_behind steps old mid new rests_mid holds after same_holds result
            (takes_found growth mid new rests_mid.runner again after others result
            (full_again counting old one mid runner function holds operands good found gives count back rests_one (rests_back one mid count back)
            again same_function after others good_others new result more) more)

        pub again_costs : Canonical → Costs InHand old new (error_of result)
        again_costs canonical = same_costs new result
            (costs_again counting old one mid runner function holds operands good found gives count back rests_one
            (rests_back one mid count back) again same_function after others good_others new result more growth canonical)

-- The conjunction of two terms.
module _ {S : Type 0} (growth : Growth) (canonical : Canonical) (law : Subfunctions) (old one : Runner S) (runner : IsRunner old)
    (u v : HeldTerm) (is_u : IsGood old u) (is_v : IsGood old v) (found : Result Term TableError)
    (gives : Gives (conjunction_of old.terms.table.graph u.node v.node) (λ a. holds_in old u a && holds_in old v a) (v ∷ u ∷ []) old one found)
  where
    abbrev counts : Counting S
    counts = counting_of canonical growth law

    abbrev both : Assignment → Bool
    both a = holds_in old u a && holds_in old v a

    both_is : conjunction_of old.terms.table.graph u.node v.node ≡ asked_in old both
    both_is = conjunction_is counts old runner u v is_u is_v

    pub meet_once : (found ≡ Err NodeLimit → ⊥)
        → Takes both old one found × Costs (asked_in old both ∷ functions_out old) old one (error_of found)
    meet_once within = (
      once_takes growth counts old one runner _ both both (v ∷ u ∷ []) found gives (two_good old u v is_u is_v) both_is within,
      once_costs growth counts old one runner _ both both (v ∷ u ∷ []) found gives (two_good old u v is_u is_v) both_is within,
    )

    module _ (steps : StepByStep S) (limit : found ≡ Err NodeLimit) (mid : Runner S) where
      pub meet_failed : (came : TableError) → GivesBack one mid (Err came) → (r : Result Term TableError) → IsErrAnd r (λ e. e ≡ came)
          → Takes both old mid r × Costs (asked_in old both ∷ functions_out old) old mid (error_of r)
      meet_failed came back r handed = (
        failed_takes growth counts old one runner _ both both (v ∷ u ∷ []) found gives (two_good old u v is_u is_v) both_is steps limit mid came
            back r handed,
        failed_costs growth counts old one runner _ both both (v ∷ u ∷ []) found gives (two_good old u v is_u is_v) both_is steps limit mid came
            back r handed,
      )

      module _ (count : ℕ) (back : GivesBack one mid (Ok count)) where
        pub meet_rests : Rests old mid
        meet_rests = rests_mid growth counts old one runner _ both both (v ∷ u ∷ []) found gives (two_good old u v is_u is_v) both_is steps limit
            mid count back

        pub meet_again : (new : Runner S) (result : Result Term TableError)
            → Gives (conjunction_of mid.terms.table.graph u.node v.node) (λ a. holds_in mid u a && holds_in mid v a) (v ∷ u ∷ []) mid new result
            → Takes both old new result × Costs (asked_in old both ∷ functions_out old) old new (error_of result)
        meet_again new result more =
            let good_u = meet_rests.keeps.good u is_u in
            let good_v = meet_rests.keeps.good v is_v in
            let after : Assignment → Bool = λ a. holds_in mid u a && holds_in mid v a in
            let same : after ≡ both = λ i a. meet_rests.keeps.values u is_u a i && meet_rests.keeps.values v is_v a i in
            let again = conjunction_is counts mid meet_rests.runner u v good_u good_v in (
              again_takes growth counts old one runner _ both both (v ∷ u ∷ []) found gives (two_good old u v is_u is_v) both_is steps limit mid
                  count back _ after after (v ∷ u ∷ []) new result more (two_good mid u v good_u good_v) again same (λ a i. same i a),
              again_costs growth counts old one runner _ both both (v ∷ u ∷ []) found gives (two_good old u v is_u is_v) both_is steps limit mid
                  count back _ after after (v ∷ u ∷ []) new result more (two_good mid u v good_u good_v) again same canonical,
            )

-- The term of a clause.
module _ {S : Type 0} (growth : Growth) (canonical : Canonical) (law : Subfunctions) (old one : Runner S) (runner : IsRunner old)
    (number : ℕ) (found : Result Term TableError)
    (gives : Gives (term_function old.formula.now old.terms.table.graph.order (input number))
    (λ a. term_holds old.formula.now a (input number)) [] old one found) where
  abbrev counts_too : Counting S
  counts_too = counting_of canonical growth law

  abbrev clause : Assignment → Bool
  clause a = term_holds old.formula.now a (input number)

  pub term_once : (found ≡ Err NodeLimit → ⊥)
      → Takes clause old one found × Costs (asked_in old clause ∷ functions_out old) old one (error_of found)
  term_once within = (
    once_takes growth counts_too old one runner _ clause clause [] found gives (none_good old) refl within,
    once_costs growth counts_too old one runner _ clause clause [] found gives (none_good old) refl within,
  )

  module _ (steps : StepByStep S) (limit : found ≡ Err NodeLimit) (mid : Runner S) where
    pub term_failed : (came : TableError) → GivesBack one mid (Err came) → (r : Result Term TableError) → IsErrAnd r (λ e. e ≡ came)
        → Takes clause old mid r × Costs (asked_in old clause ∷ functions_out old) old mid (error_of r)
    term_failed came back r handed = (
      failed_takes growth counts_too old one runner _ clause clause [] found gives (none_good old) refl steps limit mid came back r handed,
      failed_costs growth counts_too old one runner _ clause clause [] found gives (none_good old) refl steps limit mid came back r handed,
    )

    module _ (count : ℕ) (back : GivesBack one mid (Ok count)) where
      pub term_rests : Rests old mid
      term_rests = rests_mid growth counts_too old one runner _ clause clause [] found gives (none_good old) refl steps limit mid count back

      pub term_again : (new : Runner S) (result : Result Term TableError)
          → Gives (term_function mid.formula.now mid.terms.table.graph.order (input number)) (λ a. term_holds mid.formula.now a (input number)) []
          mid new result
          → Takes clause old new result × Costs (asked_in old clause ∷ functions_out old) old new (error_of result)
      term_again new result more =
          let after : Assignment → Bool = λ a. term_holds mid.formula.now a (input number) in
          let same : after ≡ clause = λ i a. term_holds (term_rests.same.formula i).now a (input number) in (
            again_takes growth counts_too old one runner _ clause clause [] found gives (none_good old) refl steps limit mid count back _ after
                after [] new result more (none_good mid) refl same (λ a i. same i a),
            again_costs growth counts_too old one runner _ clause clause [] found gives (none_good old) refl steps limit mid count back _ after
                after [] new result more (none_good mid) refl same canonical,
          )
