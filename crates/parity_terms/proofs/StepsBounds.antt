-- The bounds of steps one behind another, and of the clauses of an equation.
use Rattle.std.proofs.Common.{◌≡◌, ◌∙◌, ◌<◌, ◌≤◌, ◌+◌, ℕ, zero, suc, Bool, List, [], ◌∷◌, Contains, Err, Result, length}
use Rattle.std.proofs.Common.{take}
use Rattle.std.proofs.Common.{get_or, refl, sym, ap, subst, arith}
use Rattle.std.specs.Prelude.{IsTrue, slice_index_or, ℤ}
use Rattle.cnf_base.specs.Truth.{Assignment, clause_holds}
use Rattle.node_table.specs.declared.error.TableError.{TableError}
use Rattle.node_table.specs.declared.error.TableError.TheVariants.{NodeLimit}
use Rattle.node_table.specs.Diagram.{is_node}
use Rattle.node_table.specs.Laws.{Growth}
use Rattle.node_table.specs.Value.{Levels}
use Rattle.parity_equations.specs.Sums.{all_hold}
use Rattle.quantify.specs.SomeValues.{function_of}
use Rattle.bdd_terms.specs.declared.held.HeldTerm.{HeldTerm}
use Rattle.bdd_terms.specs.declared.runner.Runner.{Runner}
use Rattle.bdd_terms.specs.declared.term.Term.{Term}
use Rattle.bdd_terms.specs.Counting.{Counting, IsPartOfOne}
use Rattle.bdd_terms.specs.Price.{IsMovePrice}
use Rattle.bdd_terms.specs.Runner.{IsRunner, holds_in}
use Rattle.bdd_terms.specs.Parts.{HasAtMost}
use Rattle.parity_terms.specs.Limit.{AreBounded, AreClausesAmong, CostsMoves, IsBounded, IsClauseAmong, functions_of}
use Rattle.parity_terms.specs.Numbered.{AreNumbered, DependsOn}
use Rattle.parity_terms.specs.Owned.{Owns}
use Rattle.parity_terms.specs.Steps.{Keeps}
use Rattle.parity_terms.proofs.ClauseNeeds.{clause_few, clause_needs, clauses_depend}
use Rattle.parity_terms.proofs.InHand.{functions_keep, level_function}
use Rattle.parity_terms.proofs.Totals.{moves_fewer, moves_more, one_move}

-- more is allowed
pub bounded_more : {S T : Type 0} (more many moves most : ℕ) (least : ℕ) (terms : List HeldTerm) (old new : Runner S)
    (result : Result T TableError) → more ≤ many → moves ≤ most → AreBounded more moves least terms old new result
    → AreBounded many most least terms old new result
bounded_more more many moves most least terms old new result few fewer bounds = record {
  needs = λ count numbered limit. let own = bounds.needs count numbered limit in omega (arith, own, few);
  costs = λ size width price have is others enough.
      moves_fewer old.terms.table.book.state.top new.terms.table.book.state.top moves most price fewer
      (bounds.costs size width price have is others enough);
}

-- for a greater width, and another answer
pub bounded_wider : {S T U : Type 0} (more moves least greater : ℕ) (terms : List HeldTerm) (old mid new : Runner S)
    (result : Result T TableError) (other : Result U TableError) → least ≤ greater
    → new.terms.table.book.state.top ≡ mid.terms.table.book.state.top → (other ≡ Err NodeLimit → result ≡ Err NodeLimit)
    → AreBounded more moves least terms old mid result → AreBounded more moves greater terms old new other
bounded_wider more moves least greater terms old mid new result other less top from bounds = record {
  needs = λ count numbered limit. bounds.needs count numbered (from limit);
  costs = λ size width price have is others enough.
      let own = bounds.costs size width price have is others (omega (arith, less, enough)) in omega (arith, own, top);
}

module _ {S : Type 0} (counting : Counting S) (growth : Growth) (terms : List HeldTerm) (old mid : Runner S) (runner : IsRunner old)
    (owns : Owns terms old.terms.out.items) (goes_on : IsRunner mid) (keeps : Keeps terms old mid) where
  same_functions : functions_of mid.terms.table.graph terms ≡ functions_of old.terms.table.graph terms
  same_functions = functions_keep counting growth terms old mid runner owns goes_on keeps

  -- steps behind others
  module _ {T : Type 0} (first more moves least : ℕ) (new : Runner S) (result : Result T TableError)
      (before : CostsMoves first least terms old mid) (behind : AreBounded more moves least terms mid new result) where
    pub bounded_further : AreBounded more (first + moves) least terms old new result
    bounded_further = record {
      needs = λ count numbered limit.
          let own = behind.needs count
          (subst (λ (l : List (Levels → Bool)). AreNumbered (IsPartOfOne l) count) (sym same_functions) numbered) limit in
          let limits = ap (λ l. l.max_nodes) keeps.limits in
          omega (arith, own, limits);
      costs = λ size width price have is others enough.
          moves_more old.terms.table.book.state.top mid.terms.table.book.state.top new.terms.table.book.state.top first moves price
          (before size width price have is others enough)
          (behind.costs size width price (keeps.sizes ∙ have)
          (subst (λ n. IsMovePrice n size width price) (sym (ap length keeps.order)) is)
          (subst (λ (l : List (Levels → Bool)). (f : Levels → Bool) → Contains l f → HasAtMost f width) (sym same_functions) others)
          enough);
    }

-- the first one's term
pub first_clause : {S T : Type 0} (counting : Counting S) (old new : Runner S) → IsRunner old → (terms : List HeldTerm) (few : List ℕ)
    → length few ≤ 8 → (clause : List ℤ) → IsClauseAmong old.terms.table.graph.order few clause → (found : Result Term TableError)
    → IsBounded terms (λ a. clause_holds a clause) old new found → (result : Result T TableError)
    → (result ≡ Err NodeLimit → found ≡ Err NodeLimit) → AreBounded 518 1 255 terms old new result
first_clause counting old new runner terms few eight clause within found bounds result from = record {
  needs = λ count numbered limit.
      let need = clause_needs counting old runner few eight clause within terms old.limits.max_nodes count numbered
      (bounds.short (from limit)) in
      omega (arith, need);
  costs = λ size width price have is others least.
      one_move old.terms.table.book.state.top new.terms.table.book.state.top price
      (bounds.costs size width price have is (clause_few counting old runner few eight clause within terms width least others));
}

-- a term that holds where some clauses do is over their levels
pub term_depends : {S : Type 0} (counting : Counting S) (runner : Runner S) → IsRunner runner → (few : List ℕ) (clauses : List (List ℤ))
    (numbers : List ℕ) → AreClausesAmong runner.terms.table.graph.order few clauses numbers → (term : HeldTerm)
    → IsTrue (is_node runner.terms.table.graph term.node) → ((a : Assignment) → holds_in runner term a ≡ all_hold clauses numbers a)
    → DependsOn few (function_of runner.terms.table.graph term.node)
term_depends counting runner goes_on few clauses numbers within term stands value a b agree =
    level_function counting runner goes_on term stands (all_hold clauses numbers) value a
    ∙ clauses_depend runner.terms.table.graph.order few clauses numbers within a b agree
    ∙ sym (level_function counting runner goes_on term stands (all_hold clauses numbers) value b)

-- a front of a list
front_there : (list : List ℕ) (i n : ℕ) → Contains (take i list) n → Contains list n
front_there list zero n there = absurd (let small = there.1 in omega (arith, small))
front_there [] (suc i) n there = absurd (let small = there.1 in omega (arith, small))
front_there (first ∷ list) (suc i) n there = by_place (front_there list i n) there.0 there.1 there.2
  where
    by_place : (Contains (take i list) n → Contains list n) → (k : ℕ) → k < length (first ∷ take i list)
        → get_or (first ∷ take i list) k n ≡ n → Contains (first ∷ list) n
    by_place later zero small at = (zero, omega arith, at)
    by_place later (suc k) small at =
        let rest = later (k, omega (arith, small), at) in
        (suc rest.0, let less = rest.1 in omega (arith, less), rest.2)

-- some of the clauses
pub fewer_among : (order few : List ℕ) (clauses : List (List ℤ)) (numbers : List ℕ) (place : ℕ)
    → AreClausesAmong order few clauses numbers → AreClausesAmong order few clauses (take place numbers)
fewer_among order few clauses numbers place within number there = within number (front_there numbers place number there)

pub number_there : (numbers : List ℕ) (k d : ℕ) → k < length numbers → Contains numbers (slice_index_or numbers k d)
number_there [] k d small = absurd (omega (arith, small))
number_there (number ∷ numbers) zero d small = (zero, omega arith, refl)
number_there (number ∷ numbers) (suc k) d small =
    let rest = number_there numbers k d (omega (arith, small)) in
    (suc rest.0, let less = rest.1 in omega (arith, less), rest.2)
