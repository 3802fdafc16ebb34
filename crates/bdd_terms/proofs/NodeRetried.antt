-- A node that is asked for, tried once more behind a reclamation where that met the limit of nodes.
use Rattle.std.proofs.Common.{◌≡◌, ◌∙◌, ◌≤◌, ◌+◌, ◌*◌, ℕ, Bool, true, [], Ok, Err, Result, refl, sym, ap, arith}
use Rattle.std.specs.Prelude.{IfOk, IsErrAnd}
use Rattle.cnf_base.specs.Truth.{Assignment}
use Rattle.node_table.specs.declared.error.TableError.{TableError}
use Rattle.node_table.specs.declared.error.TableError.TheVariants.{NodeLimit}
use Rattle.node_table.specs.declared.node.Node.{Node}
use Rattle.node_table.specs.Laws.{Canonical, Growth, StepByStep}
use Rattle.node_table.specs.Table.{AddsAtMost}
use Rattle.node_table.specs.Value.{Levels}
use Rattle.clause_terms.specs.Term.{by_variable}
use Rattle.bdd_terms.specs.declared.runner.Runner.{Runner}
use Rattle.bdd_terms.specs.Counting.{Counting}
use Rattle.bdd_terms.specs.Parity.{GivesNone, IsNodeOf, TakesNode, always, in_place}
use Rattle.bdd_terms.specs.Runner.{IsRunner}
use Rattle.bdd_terms.specs.Takes.{GivesBack, asked_in}
use Rattle.bdd_terms.specs.Parts.{HasAtMost}
use Rattle.bdd_terms.proofs.FunctionParts.{few_same}
use Rattle.bdd_terms.proofs.NodeTaken.{at_limit, few_numbers, node_costs, node_handed}
use Rattle.bdd_terms.proofs.Rests.{Rests}
use Rattle.bdd_terms.proofs.Retried.{again_costs, again_takes, failed_costs, failed_takes, none_good, once_costs, once_takes, rests_mid}

module _ {S : Type 0} (growth : Growth) (canonical : Canonical) (counting : Counting S) (old one : Runner S) (runner : IsRunner old)
    (function : Levels → Bool) (asked : Assignment → Bool) (of_asked : function ≡ asked_in old asked) (found : Result Node TableError)
    (gives : GivesNone function [] old one found) (adds : AddsAtMost 0 old.terms.table one.terms.table) where
  first_few : (width : ℕ) → HasAtMost (asked_in old asked) width
      → one.terms.table.book.state.top ≤ old.terms.table.book.state.top + (4 * width + 0)
  first_few width few =
      few_numbers growth canonical function (λ a. true) [] old one (in_place always found) gives.gives 0 adds width
      (few_same (asked_in old asked) function (λ a i. sym of_asked i a) width few)

  -- all that is done
  pub node_once : (found ≡ Err NodeLimit → ⊥) → IfOk found (IsNodeOf one.terms.table.graph asked) → TakesNode asked old one found
  node_once within node = record {
    node = node;
    takes = once_takes growth counting old one runner function (λ a. true) asked [] (in_place always found) gives.gives (none_good old) of_asked
        (λ is. within (at_limit found is));
    costs = node_costs _ old one found (once_costs growth counting old one runner function (λ a. true) asked [] (in_place always found) gives.gives
        (none_good old) of_asked (λ is. within (at_limit found is)));
    few = λ width few. let own = first_few width few in omega (arith, own);
  }

  module _ (steps : StepByStep S) (limit : found ≡ Err NodeLimit) (mid : Runner S) where
    met : in_place always found ≡ Err NodeLimit
    met = ap (in_place always) limit

    -- the reclamation failed
    pub node_failed : (came : TableError) → GivesBack one mid (Err came) → (result : Result Node TableError) → IsErrAnd result (λ e. e ≡ came)
        → TakesNode asked old mid result
    node_failed came back result handed = node_handed asked old mid came result handed (record {
      node = tt;
      takes = failed_takes growth counting old one runner function (λ a. true) asked [] (in_place always found) gives.gives (none_good old) of_asked
          steps met mid came back (Err came) refl;
      costs = failed_costs growth counting old one runner function (λ a. true) asked [] (in_place always found) gives.gives (none_good old) of_asked
          steps met mid came back {T = Node} (Err came) refl;
      few = λ width few. let own = first_few width few in let same = back.top in omega (arith, own, same);
    })

    -- the second try
    module _ (count : ℕ) (back : GivesBack one mid (Ok count)) where
      pub node_rests : Rests old mid
      node_rests = rests_mid growth counting old one runner function (λ a. true) asked [] (in_place always found) gives.gives (none_good old)
          of_asked steps met mid count back

      pub node_again : (again : Levels → Bool) → again ≡ asked_in mid asked → (new : Runner S) (result : Result Node TableError)
          → (more : GivesNone again [] mid new result) → AddsAtMost 0 mid.terms.table new.terms.table
          → IfOk result (IsNodeOf new.terms.table.graph asked) → TakesNode asked old new result
      node_again again of_again new result more adds_again node = record {
        node = node;
        takes = again_takes growth counting old one runner function (λ a. true) asked [] (in_place always found) gives.gives (none_good old)
            of_asked steps met mid count back again (λ a. true) asked [] new (in_place always result) more.gives (none_good mid) of_again refl
            (λ a. refl);
        costs = node_costs _ old new result (again_costs growth counting old one runner function (λ a. true) asked [] (in_place always found)
            gives.gives (none_good old) of_asked steps met mid count back again (λ a. true) asked [] new (in_place always result) more.gives
            (none_good mid) of_again refl canonical);
        few = λ width few.
            let first = first_few width few in
            let second = few_numbers growth canonical again (λ a. true) [] mid new (in_place always result) more.gives 0 adds_again width
            (few_same (asked_in old asked) again (λ a i. sym (of_again ∙ (λ j b. asked (by_variable (node_rests.order j) b))) i a) width few) in
            let same = back.top in
            omega (arith, first, second, same);
      }
