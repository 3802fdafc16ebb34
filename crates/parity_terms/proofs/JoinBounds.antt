-- The bounds of a term and a clause joined, and of the clauses of an equation one after another.
use Rattle.std.proofs.Common.{◌≡◌, ◌∙◌, ◌<◌, ◌≤◌, ◌+◌, ◌*◌, ◌&&◌, ℕ, Bool, ℤ, List, [], ◌∷◌, Contains}
use Rattle.std.proofs.Common.{Err}
use Rattle.std.proofs.Common.{Result, length, refl, sym, ap, subst, arith}
use Rattle.std.specs.Prelude.{IsTrue}
use Rattle.cnf_base.specs.Truth.{Assignment, clause_holds}
use Rattle.node_table.specs.declared.error.TableError.{TableError}
use Rattle.node_table.specs.declared.error.TableError.TheVariants.{NodeLimit}
use Rattle.node_table.specs.Diagram.{is_node, levels}
use Rattle.node_table.specs.Laws.{Growth}
use Rattle.node_table.specs.Value.{Levels}
use Rattle.quantify.specs.SomeValues.{function_of}
use Rattle.bdd_terms.specs.declared.held.HeldTerm.{HeldTerm}
use Rattle.bdd_terms.specs.declared.runner.Runner.{Runner}
use Rattle.bdd_terms.specs.declared.term.Term.{Term}
use Rattle.bdd_terms.specs.Caches.{HaveSize}
use Rattle.bdd_terms.specs.Counting.{Counting, IsPartOfOne}
use Rattle.bdd_terms.specs.Price.{IsMovePrice}
use Rattle.bdd_terms.specs.Runner.{IsRunner, holds_in}
use Rattle.bdd_terms.specs.Parts.{HasAtMost}
use Rattle.parity_terms.specs.Limit.{AreBounded, IsBounded, IsClauseAmong, functions_of}
use Rattle.parity_terms.specs.Numbered.{AreNumbered, DependsOn}
use Rattle.parity_terms.specs.Owned.{Owns}
use Rattle.parity_terms.specs.Steps.{Keeps}
use Rattle.parity_terms.proofs.InHand.{functions_keep}
use Rattle.parity_terms.proofs.ClauseNeeds.{both_in_hand, clause_few, clause_needs, join_few, join_needs, with_term_few}
use Rattle.parity_terms.proofs.Totals.{moves_fewer, moves_more, one_move}

abbrev first_of : (Levels → Bool) → List (Levels → Bool) → Levels → Bool
first_of d [] = d
first_of d (f ∷ rest) = f

abbrev rest_of : List (Levels → Bool) → List (Levels → Bool)
rest_of [] = []
rest_of (f ∷ rest) = rest

module _ {S : Type 0} (counting : Counting S) (growth : Growth) (old mid : Runner S) (runner : IsRunner old) (terms : List HeldTerm)
    (term : HeldTerm) (owns : Owns (term ∷ terms) old.terms.out.items) (few : List ℕ) (eight : length few ≤ 8) (clause : List ℤ)
    (within : IsClauseAmong old.terms.table.graph.order few clause)
    (depends : DependsOn few (function_of old.terms.table.graph term.node)) where
  -- the clause's term
  module _ (found : Result Term TableError) (bounds : IsBounded (term ∷ terms) (λ a. clause_holds a clause) old mid found) where
    clause_number : (number count : ℕ) → AreNumbered (IsPartOfOne (functions_of old.terms.table.graph terms)) count → found ≡ Err NodeLimit
        → old.limits.max_nodes < count + 518
    clause_number number count numbered limit =
        let need = clause_needs counting old runner few eight clause within (term ∷ terms) old.limits.max_nodes (255 + count)
        (both_in_hand counting old runner few eight clause within term depends terms count numbered) (bounds.short limit) in
        omega (arith, need)

    clause_cost : (size width price : ℕ) → HaveSize old.terms.caches size → IsMovePrice (levels old.terms.table.graph) size width price
        → ((f : Levels → Bool) → Contains (functions_of old.terms.table.graph terms) f → HasAtMost f width) → 255 ≤ width
        → mid.terms.table.book.state.top ≤ old.terms.table.book.state.top + price
    clause_cost size width price have is others least =
        bounds.costs size width price have is
        (clause_few counting old runner few eight clause within (term ∷ terms) width least
        (with_term_few counting old runner few eight clause within term depends terms width least others))

    -- it wasn't found, and the term was released
    pub join_refused : (new : Runner S) → new.terms.table.book.state.top ≡ mid.terms.table.book.state.top →
        (result : Result Term TableError)
        → (result ≡ Err NodeLimit → found ≡ Err NodeLimit) → AreBounded 518 2 255 terms old new result
    join_refused new top result from = record {
      needs = λ count numbered limit. clause_number 0 count numbered (from limit);
      costs = λ size width price have is others least.
          let first = clause_cost size width price have is others least in
          moves_fewer old.terms.table.book.state.top new.terms.table.book.state.top 1 2 price (omega arith)
          (one_move old.terms.table.book.state.top new.terms.table.book.state.top price (omega (arith, first, top)));
    }

    -- it was, and both are joined
    module _ (goes_on : IsRunner mid) (keeps : Keeps (term ∷ terms) old mid) (held : HeldTerm)
        (stands : IsTrue (is_node mid.terms.table.graph held.node)) (value : (a : Assignment) → holds_in mid held a ≡ clause_holds a clause)
        (last : Runner S) (both : Result Term TableError)
        (bounds_both : IsBounded (held ∷ term ∷ terms) (λ a. holds_in mid term a && holds_in mid held a) mid last both) where
      here : Contains (term ∷ terms) term
      here = (0, omega arith, refl)

      same_functions : functions_of mid.terms.table.graph (term ∷ terms) ≡ functions_of old.terms.table.graph (term ∷ terms)
      same_functions = functions_keep counting growth (term ∷ terms) old mid runner owns goes_on keeps

      within_mid : IsClauseAmong mid.terms.table.graph.order few clause
      within_mid = subst (λ (order : List ℕ). IsClauseAmong order few clause) (sym keeps.order) within

      depends_mid : DependsOn few (function_of mid.terms.table.graph term.node)
      depends_mid = subst (λ (f : Levels → Bool). DependsOn few f)
          (sym (ap (first_of (function_of old.terms.table.graph term.node)) same_functions)) depends

      stands_term : IsTrue (is_node mid.terms.table.graph term.node)
      stands_term = keeps.stand term here

      same_rest : functions_of mid.terms.table.graph terms ≡ functions_of old.terms.table.graph terms
      same_rest = ap rest_of same_functions

      pub joined : (new : Runner S) → new.terms.table.book.state.top ≡ last.terms.table.book.state.top → (result : Result Term TableError)
          → (result ≡ Err NodeLimit → both ≡ Err NodeLimit) → AreBounded 518 2 255 terms old new result
      joined new top result from = record {
        needs = λ count numbered limit.
            let need = join_needs counting mid goes_on few eight clause within_mid term depends_mid terms held stands_term stands value
            mid.limits.max_nodes count
            (subst (λ (l : List (Levels → Bool)). AreNumbered (IsPartOfOne l) count) (sym same_rest) numbered)
            (bounds_both.short (from limit)) in
            let limits = ap (λ l. l.max_nodes) keeps.limits in
            omega (arith, need, limits);
        costs = λ size width price have is others least.
            let first = clause_cost size width price have is others least in
            let second = bounds_both.costs size width price (keeps.sizes ∙ have)
            (subst (λ n. IsMovePrice n size width price) (sym (ap length keeps.order)) is)
            (join_few counting mid goes_on few eight clause within_mid term depends_mid terms held stands_term stands value width least
            (subst (λ (l : List (Levels → Bool)). (f : Levels → Bool) → Contains l f → HasAtMost f width) (sym same_rest) others)) in
            let both_moves = moves_more old.terms.table.book.state.top mid.terms.table.book.state.top last.terms.table.book.state.top 1 1
            price
            (one_move old.terms.table.book.state.top mid.terms.table.book.state.top price first)
            (one_move mid.terms.table.book.state.top last.terms.table.book.state.top price second) in
            subst (λ n. n ≤ old.terms.table.book.state.top + 2 * price) (sym top) both_moves;
      }
