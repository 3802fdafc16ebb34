-- The bounds of an equation that is taken, and of all.
use Rattle.std.proofs.Common.{◌≡◌, ◌<◌, ◌≤◌, ◌+◌, ◌*◌, ℕ, zero, suc, Bool, List, [], ◌∷◌, All, Contains}
use Rattle.std.proofs.Common.{Ok, Err}
use Rattle.std.proofs.Common.{Result, length, map, get_or, refl, subst, arith}
use Rattle.std.specs.Prelude.{◌-◌, IsTrue, slice_index_or, ℤ}
use Rattle.std.proofs.lemmas.List.{length-map}
use Rattle.node_table.specs.declared.error.TableError.{TableError}
use Rattle.node_table.specs.declared.error.TableError.TheVariants.{NodeLimit}
use Rattle.node_table.specs.Diagram.{is_node}
use Rattle.node_table.specs.Laws.{Growth}
use Rattle.node_table.specs.Value.{Levels}
use Rattle.parity_equations.specs.declared.equations.Equation.{Equation}
use Rattle.parity_equations.specs.OwnClauses.{OwnClauses}
use Rattle.parity_equations.specs.Walk.{IsEquationOf}
use Rattle.parity_nodes.specs.Sums.{exclusive_or}
use Rattle.quantify.specs.SomeValues.{function_of}
use Rattle.bdd_terms.specs.declared.held.HeldTerm.{HeldTerm}
use Rattle.bdd_terms.specs.declared.runner.Runner.{Runner}
use Rattle.bdd_terms.specs.Counting.{Counting, IsPartOfOne}
use Rattle.bdd_terms.specs.Runner.{IsRunner}
use Rattle.bdd_terms.specs.Parts.{HasAtMost}
use Rattle.parity_terms.specs.declared.row.Row.{Row}
use Rattle.parity_terms.specs.Limit.{AreBounded, AreClausesAmong, AreOf, AreRowsOf, CostsMoves, functions_of, level_in, step_width}
use Rattle.parity_terms.specs.Numbered.{AreNumbered}
use Rattle.parity_terms.specs.Order.{AreInOrder, AreOrdered, HaveSameFirst}
use Rattle.parity_terms.specs.Owned.{Owns}
use Rattle.parity_terms.specs.Rows.{IsRow, held_of, vector_of}
use Rattle.parity_terms.specs.Steps.{Keeps}
use Rattle.parity_terms.proofs.Numbered.{numbered_few}
use Rattle.parity_terms.proofs.InHand.{rows_numbered, sum_term_numbered}
use Rattle.parity_terms.proofs.RowVariables.{BeginsBehind, begins_anywhere, begins_later, clause_levels_of, few_rounds, levels_of}
use Rattle.parity_terms.proofs.RowVariables.{ordered_of, sum_of_both}
use Rattle.parity_terms.proofs.SumNeeds.{all_few}
use Rattle.parity_terms.proofs.StepsBounds.{bounded_further, bounded_more, bounded_wider}
use Rattle.parity_terms.proofs.Taken.{owned_stands}

-- What is left of an equation is over these variables; so many sums were made, which cost two moves each, behind other moves.
pub record IsCounted {S : Type 0} (places all : List ℕ) (moves : ℕ) (rows : List Row) (old now : Runner S) (current : Row) : Type 0 where
  pub rounds : ℕ
  pub begins : BeginsBehind places all current.variables.items rounds
  pub of : AreOf all current.variables.items
  pub costs : CostsMoves (moves + 2 * rounds) (step_width (length all)) (map held_of rows) old now

module _ {S : Type 0} (counting : Counting S) (growth : Growth) (places all : List ℕ) (moves : ℕ) (rows : List Row) (old mid : Runner S)
    (runner : IsRunner old) (owns : Owns (map held_of rows) old.terms.out.items) (goes_on : IsRunner mid)
    (keeps : Keeps (map held_of rows) old mid) (current : Row) (counted : IsCounted places all moves rows old mid current) where
  -- a sum's bounds, behind those before
  module _ {T : Type 0} (new : Runner S) (result : Result T TableError)
      (bounds : AreBounded (6 * length all) 2 (4 * length all) (map held_of rows) mid new result) where
    sum_bounds : AreBounded (6 * length all + 518) 2 (step_width (length all)) (map held_of rows) mid new result
    sum_bounds = record {
      needs = λ count numbered limit. let own = bounds.needs count numbered limit in omega (arith, own);
      costs = λ size width price have is others enough. bounds.costs size width price have is others (omega (arith, enough));
    }

    behind : AreBounded (6 * length all + 518) (moves + 2 * counted.rounds + 2) (step_width (length all)) (map held_of rows) old new result
    behind =
        bounded_further counting growth (map held_of rows) old mid runner owns goes_on keeps (moves + 2 * counted.rounds)
        (6 * length all + 518) 2 (step_width (length all)) new result counted.costs sum_bounds

    -- the next one
    pub counted_next : (row next : Row) → AreInOrder places 0 row.variables.items → AreOf all row.variables.items
        → HaveSameFirst row.variables.items current.variables.items
        → ((place : ℕ) → vector_of next place ≡ exclusive_or (vector_of row place) (vector_of current place))
        → AreInOrder places 0 next.variables.items
        → ((first : ℕ) → AreInOrder places first row.variables.items → AreInOrder places first current.variables.items
        → AreInOrder places (first + 1) next.variables.items)
        → IsCounted places all moves rows old new next
    counted_next row next in_order of same sum next_order later = record {
      rounds = counted.rounds + 1;
      begins = begins_later places all row.variables.items current.variables.items next.variables.items counted.rounds counted.begins
          in_order same counted.of later;
      of = sum_of_both places all row.variables.items current.variables.items next.variables.items row.bit current.bit next.bit sum
          next_order
          of counted.of;
      costs = subst (λ n. CostsMoves n (step_width (length all)) (map held_of rows) old new) (omega arith) behind.costs;
    }

    -- it ends here, before all places are behind it
    pub counted_end : (row : Row) → AreInOrder places 0 row.variables.items → HaveSameFirst row.variables.items current.variables.items
        → (next : List ℕ)
        → ((first : ℕ) → AreInOrder places first row.variables.items → AreInOrder places first current.variables.items
        → AreInOrder places (first + 1) next)
        → AreBounded (6 * length all + 518) (moves + 2 * length all) (step_width (length all)) (map held_of rows) old new result
    counted_end row in_order same next later =
        let begins = begins_later places all row.variables.items current.variables.items next counted.rounds counted.begins in_order same
        counted.of later in
        let few = few_rounds places all next (counted.rounds + 1) begins in
        bounded_more (6 * length all + 518) (6 * length all + 518) (moves + 2 * counted.rounds + 2) (moves + 2 * length all)
        (step_width (length all)) (map held_of rows) old new result (omega arith) (omega (arith, few)) behind

  -- all sums together
  pub counted_all : CostsMoves (moves + 2 * length all) (step_width (length all)) (map held_of rows) old mid
  counted_all size width price have is others enough =
      let few = few_rounds places all current.variables.items counted.rounds counted.begins in
      let ended : AreBounded {T = ℕ} 0 (moves + 2 * counted.rounds) (step_width (length all)) (map held_of rows) old mid (Ok 0) = record {
        needs = λ count numbered limit. absurd (let e : ◌≡◌ {A = Result ℕ TableError} (Ok 0) (Err NodeLimit) = limit in cc);
        costs = counted.costs;
      } in
      (bounded_more 0 0 (moves + 2 * counted.rounds) (moves + 2 * length all) (step_width (length all)) (map held_of rows) old mid (Ok 0)
      (omega arith) (omega (arith, few)) ended).costs size width price have is others enough

-- The terms of rows in hand.
module _ {S : Type 0} (counting : Counting S) (growth : Growth) (places all : List ℕ) (rows : List Row) (runner : Runner S)
    (goes_on : IsRunner runner) (owns : Owns (map held_of rows) runner.terms.out.items) (each : All (IsRow runner places) rows)
    (of : AreRowsOf all rows) where
  abbrev over : List ℕ
  over = map (level_in runner.terms.table.graph.order) all

  as_many : length over ≡ length all
  as_many = length-map all (level_in runner.terms.table.graph.order)

  held_among : (list : List Row) (k : ℕ) (d : Row) → k < length list → Contains (map held_of list) (held_of (get_or list k d))
  held_among [] k d small = absurd (omega (arith, small))
  held_among (row ∷ list) zero d small = (0, omega arith, refl)
  held_among (row ∷ list) (suc k) d small =
      let rest = held_among list k d (omega (arith, small)) in
      (suc rest.0, let less = rest.1 in omega (arith, less), rest.2)

  stands : (k : ℕ) (d : Row) → k < length rows → IsTrue (is_node runner.terms.table.graph (held_of (get_or rows k d)).node)
  stands k d small = owned_stands growth runner runner goes_on (map held_of rows) owns (held_of (get_or rows k d))
      (held_among rows k d small)

  pub hand_numbered : AreNumbered (IsPartOfOne (functions_of runner.terms.table.graph (map held_of rows))) (length rows * (2 * length all))
  hand_numbered = subst (λ n. AreNumbered (IsPartOfOne (functions_of runner.terms.table.graph (map held_of rows))) (length rows * (2 * n)))
      as_many (rows_numbered counting runner goes_on over places rows each
      (λ k d small. (stands k d small, levels_of runner.terms.table.graph.order all (get_or rows k d).variables.items (of k d small))))

  pub hand_few : (width : ℕ) → 2 * length all ≤ width → (f : Levels → Bool)
      → Contains (functions_of runner.terms.table.graph (map held_of rows)) f → HasAtMost f width
  hand_few width enough = each_few rows stands each of
    where
      each_few : (list : List Row)
          → ((k : ℕ) (d : Row) → k < length list → IsTrue (is_node runner.terms.table.graph (held_of (get_or list k d)).node))
          → All (IsRow runner places) list → AreRowsOf all list → (f : Levels → Bool)
          → Contains (functions_of runner.terms.table.graph (map held_of list)) f → HasAtMost f width
      each_few [] stand rows_are rows_of = λ f there. absurd (let small = there.1 in omega (arith, small))
      each_few (row ∷ list) stand rows_are rows_of =
          all_few (function_of runner.terms.table.graph (held_of row).node) (functions_of runner.terms.table.graph (map held_of list)) width
          (numbered_few (function_of runner.terms.table.graph (held_of row).node) (2 * length over) width (omega (arith, enough, as_many))
          (sum_term_numbered counting runner goes_on over (held_of row) row.bit row.variables.items (stand 0 row (omega arith))
          (rows_are 0 row (omega arith)).value
          (levels_of runner.terms.table.graph.order all row.variables.items (rows_of 0 row (omega arith)))))
          (each_few list (λ k d small. stand (suc k) d (omega (arith, small))) (λ k d small. rows_are (suc k) d (omega (arith, small)))
          (λ k d small. rows_of (suc k) d (omega (arith, small))))

-- an equation's clauses are over its own levels, of which there are eight at most
pub clauses_among : OwnClauses → (vars : ℕ) (clauses : List (List ℤ)) (equation : Equation) → IsEquationOf vars clauses equation
    → (order : List ℕ) → AreClausesAmong order (map (level_in order) equation.variables.items) clauses equation.clauses.items
clauses_among own vars clauses equation is order number there =
    clause_levels_of order equation.variables.items (slice_index_or clauses (number - 1) [])
    (λ literal among. own.over vars clauses equation is number there literal among)

pub few_levels : OwnClauses → (vars : ℕ) (clauses : List (List ℤ)) (equation : Equation) → IsEquationOf vars clauses equation
    → (order : List ℕ) → length (map (level_in order) equation.variables.items) ≤ 8
few_levels own vars clauses equation is order =
    let few = own.few vars clauses equation is in omega (arith, few, length-map equation.variables.items (level_in order))

-- nothing was done
pub nothing_done : {S T : Type 0} (more moves least : ℕ) (terms : List HeldTerm) (runner : Runner S) (result : Result T TableError)
    → (result ≡ Err NodeLimit → ⊥) → AreBounded more moves least terms runner runner result
nothing_done more moves least terms runner result none = record {
  needs = λ count numbered limit. absurd (none limit);
  costs = λ size width price have is others enough. omega arith;
}

module _ {S : Type 0} (places all : List ℕ) (rows : List Row) (old new : Runner S) (own : ℕ) where
  -- the clauses alone were taken
  pub by_clauses : {T U : Type 0} (found : Result T TableError) (result : Result U TableError)
      → (result ≡ Err NodeLimit → found ≡ Err NodeLimit) → AreBounded 518 (2 * own) 255 (map held_of rows) old new found
      → AreBounded (6 * length all + 518) (2 * own + 2 * length all) (step_width (length all)) (map held_of rows) old new result
  by_clauses found result from bounds =
      bounded_more 518 (6 * length all + 518) (2 * own) (2 * own + 2 * length all) (step_width (length all)) (map held_of rows) old new
      result
      (omega arith) (omega arith)
      (bounded_wider 518 (2 * own) 255 (step_width (length all)) (map held_of rows) old new new found result (omega arith) refl from bounds)

  -- before any sum
  pub first_counted : {T : Type 0} (found : Result T TableError) → AreBounded 518 (2 * own) 255 (map held_of rows) old new found
      → (variables : List ℕ) (current : Row) → AreOrdered places variables current.variables.items → AreOf all variables
      → IsCounted places all (2 * own) rows old new current
  first_counted found bounds variables current ordered of = record {
    rounds = 0;
    begins = begins_anywhere places all current.variables.items ordered.in_order;
    of = ordered_of places all variables current.variables.items ordered of;
    costs = subst (λ n. CostsMoves n (step_width (length all)) (map held_of rows) old new) (omega arith)
        (bounded_wider 518 (2 * own) 255 (step_width (length all)) (map held_of rows) old new new found found (omega arith) refl (λ is. is)
        bounds).costs;
  }

  -- behind all sums
  pub sums_over : {U : Type 0} (last : Runner S) → last.terms.table.book.state.top ≡ new.terms.table.book.state.top
      → CostsMoves (2 * own + 2 * length all) (step_width (length all)) (map held_of rows) old new → (result : Result U TableError)
      → (result ≡ Err NodeLimit → ⊥)
      → AreBounded (6 * length all + 518) (2 * own + 2 * length all) (step_width (length all)) (map held_of rows) old last result
  sums_over last top costs result none = record {
    needs = λ count numbered limit. absurd (none limit);
    costs = λ size width price have is others enough. let own_cost = costs size width price have is others enough in omega
        (arith, own_cost, top);
  }
