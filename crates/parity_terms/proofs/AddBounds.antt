-- The bounds of a row and the current equation added.
use Rattle.std.proofs.Common.{◌≡◌, ◌∙◌, ◌<◌, ◌≤◌, ◌+◌, ◌*◌, ◌&&◌, ℕ, Bool, List, ◌∷◌, Contains}
use Rattle.std.proofs.Common.{Err}
use Rattle.std.proofs.Common.{Result, length, map, refl, sym, ap, subst, arith}
use Rattle.std.specs.Prelude.{IsTrue}
use Rattle.std.proofs.lemmas.List.{length-map}
use Rattle.cnf_base.specs.Truth.{Assignment}
use Rattle.node_table.specs.declared.error.TableError.{TableError}
use Rattle.node_table.specs.declared.error.TableError.TheVariants.{NodeLimit}
use Rattle.node_table.specs.Diagram.{is_node, levels}
use Rattle.node_table.specs.Laws.{Growth}
use Rattle.node_table.specs.Value.{Levels}
use Rattle.parity_nodes.specs.Sums.{sum_is}
use Rattle.bdd_terms.specs.declared.held.HeldTerm.{HeldTerm}
use Rattle.bdd_terms.specs.declared.runner.Runner.{Runner}
use Rattle.bdd_terms.specs.declared.term.Term.{Term}
use Rattle.bdd_terms.specs.Caches.{HaveSize}
use Rattle.bdd_terms.specs.Counting.{Counting, IsPartOfOne}
use Rattle.bdd_terms.specs.Price.{IsMovePrice}
use Rattle.bdd_terms.specs.Runner.{IsRunner, holds_in}
use Rattle.bdd_terms.specs.Parts.{HasAtMost}
use Rattle.parity_terms.specs.declared.row.Row.{Row}
use Rattle.parity_terms.specs.Limit.{AreBounded, AreOf, IsBounded, functions_of, level_in}
use Rattle.parity_terms.specs.Numbered.{AreNumbered}
use Rattle.parity_terms.specs.Owned.{Owns}
use Rattle.parity_terms.specs.Rows.{IsRow, held_of}
use Rattle.parity_terms.specs.Steps.{Keeps}
use Rattle.parity_terms.proofs.RowVariables.{levels_of}
use Rattle.parity_terms.proofs.SumNeeds.{meet_few, meet_needs, sum_few, sum_needs}
use Rattle.parity_terms.proofs.Taken.{among_more, owned_stands}
use Rattle.parity_terms.proofs.Totals.{moves_fewer, moves_more, one_move}
use Rattle.parity_terms.proofs.InHand.{functions_kept}

both_values : (a b c d : Bool) → a ≡ c → b ≡ d → (a && b) ≡ (c && d)
both_values a b c d first second = (λ i. first i && second i)

module _ {S : Type 0} (counting : Counting S) (growth : Growth) (old mid : Runner S) (runner : IsRunner old) (places : List ℕ)
    (row current : Row) (is_row : IsRow old places row) (is_current : IsRow old places current) (terms : List HeldTerm)
    (owns : Owns (held_of current ∷ terms) old.terms.out.items) (all : List ℕ) (of : AreOf all row.variables.items)
    (of_current : AreOf all current.variables.items) where
  abbrev over : List ℕ → List ℕ
  over order = map (level_in order) all

  abbrev holds : Assignment → Bool
  holds a = holds_in old (held_of row) a && holds_in old (held_of current) a

  value : (a : Assignment) → holds a ≡ (sum_is row.bit row.variables.items a && sum_is current.bit current.variables.items a)
  value a = both_values _ _ _ _ (is_row.value a) (is_current.value a)

  as_many : (order : List ℕ) → length (over order) ≡ length all
  as_many order = length-map all (level_in order)

  stands : IsTrue (is_node old.terms.table.graph (held_of current).node)
  stands = owned_stands growth old old runner (held_of current ∷ terms) owns (held_of current) (0, omega arith, refl)

  -- their conjunction
  module _ (found : Result Term TableError) (bounds : IsBounded (held_of current ∷ terms) holds old mid found) where
    meet_number : (count : ℕ) → AreNumbered (IsPartOfOne (functions_of old.terms.table.graph terms)) count → found ≡ Err NodeLimit
        → old.limits.max_nodes < count + 6 * length all
    meet_number count numbered limit =
        let order = old.terms.table.graph.order in
        let need = meet_needs counting old runner (over order) row.variables.items current.variables.items row.bit current.bit
        (levels_of order all row.variables.items of) (levels_of order all current.variables.items of_current) (held_of current) stands
        is_current.value holds value terms old.limits.max_nodes count numbered (bounds.short limit) in
        omega (arith, need, as_many order)

    meet_cost : (size width price : ℕ) → HaveSize old.terms.caches size → IsMovePrice (levels old.terms.table.graph) size width price
        → ((f : Levels → Bool) → Contains (functions_of old.terms.table.graph terms) f → HasAtMost f width) → 4 * length all ≤ width
        → mid.terms.table.book.state.top ≤ old.terms.table.book.state.top + price
    meet_cost size width price have is others least =
        let order = old.terms.table.graph.order in
        bounds.costs size width price have is
        (meet_few counting old runner (over order) row.variables.items current.variables.items row.bit current.bit
        (levels_of order all row.variables.items of) (levels_of order all current.variables.items of_current) (held_of current) stands
        is_current.value holds value terms width (omega (arith, least, as_many order)) others)

    -- it ends here: it wasn't found, the empty clause came, or there is no memory
    pub add_ended : {T : Type 0} (new : Runner S) → new.terms.table.book.state.top ≡ mid.terms.table.book.state.top
        → (result : Result T TableError) → (result ≡ Err NodeLimit → found ≡ Err NodeLimit)
        → AreBounded (6 * length all) 2 (4 * length all) terms old new result
    add_ended new top result from = record {
      needs = λ count numbered limit. meet_number count numbered (from limit);
      costs = λ size width price have is others least.
          let first = meet_cost size width price have is others least in
          moves_fewer old.terms.table.book.state.top new.terms.table.book.state.top 1 2 price (omega arith)
          (one_move old.terms.table.book.state.top new.terms.table.book.state.top price (omega (arith, first, top)));
    }

    -- or the sum is found from it
    module _ (goes_on : IsRunner mid) (keeps : Keeps terms old mid) (both : HeldTerm)
        (stands_both : IsTrue (is_node mid.terms.table.graph both.node)) (own : (a : Assignment) → holds_in mid both a ≡ holds a)
        (bit : Bool) (variables : List ℕ) (of_sum : AreOf all variables) (new : Runner S) (sum : Result Term TableError)
        (bounds_sum : IsBounded (both ∷ terms) (sum_is bit variables) mid new sum) where
      same_rest : functions_of mid.terms.table.graph terms ≡ functions_of old.terms.table.graph terms
      same_rest =
          functions_kept counting old mid runner goes_on keeps.order terms
          (λ held there. owned_stands growth old mid runner (held_of current ∷ terms) owns held
          (among_more held (held_of current) terms there)) keeps.stand keeps.values

      pub added : {T : Type 0} (result : Result T TableError) → (result ≡ Err NodeLimit → sum ≡ Err NodeLimit)
          → AreBounded (6 * length all) 2 (4 * length all) terms old new result
      added result from = record {
        needs = λ count numbered limit.
            let order = mid.terms.table.graph.order in
            let need = sum_needs counting mid goes_on (over order) row.variables.items current.variables.items row.bit current.bit
            (levels_of order all row.variables.items of) (levels_of order all current.variables.items of_current) both stands_both holds own
            value bit variables (levels_of order all variables of_sum) terms mid.limits.max_nodes count
            (subst (λ (l : List (Levels → Bool)). AreNumbered (IsPartOfOne l) count) (sym same_rest) numbered)
            (bounds_sum.short (from limit)) in
            let limits = ap (λ l. l.max_nodes) keeps.limits in
            omega (arith, need, limits, as_many order);
        costs = λ size width price have is others least.
            let order = mid.terms.table.graph.order in
            let first = meet_cost size width price have is others least in
            let second = bounds_sum.costs size width price (keeps.sizes ∙ have)
            (subst (λ n. IsMovePrice n size width price) (sym (ap length keeps.order)) is)
            (sum_few counting mid goes_on (over order) row.variables.items current.variables.items row.bit current.bit
            (levels_of order all row.variables.items of) (levels_of order all current.variables.items of_current) both stands_both holds own
            value bit variables (levels_of order all variables of_sum) terms width (omega (arith, least, as_many order))
            (subst (λ (l : List (Levels → Bool)). (f : Levels → Bool) → Contains l f → HasAtMost f width) (sym same_rest) others)) in
            moves_more old.terms.table.book.state.top mid.terms.table.book.state.top new.terms.table.book.state.top 1 1 price
            (one_move old.terms.table.book.state.top mid.terms.table.book.state.top price first)
            (one_move mid.terms.table.book.state.top new.terms.table.book.state.top price second);
      }
