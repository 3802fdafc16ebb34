-- The bounds of all equations together.
use Rattle.std.proofs.Common.{◌≡◌, ◌∙◌, ◌<◌, ◌≤◌, ◌+◌, ◌*◌, ◌++◌, ℕ, zero, suc, Bool, List, [], ◌∷◌, All, Err, Result}
use Rattle.std.proofs.Common.{length, map, take}
use Rattle.std.proofs.Common.{get_or, refl, sym, ap, subst, arith}
use Rattle.std.specs.List.{flat_map}
use Rattle.std.proofs.lemmas.List.{length-map}
use Rattle.node_table.specs.declared.error.TableError.{TableError}
use Rattle.node_table.specs.declared.error.TableError.TheVariants.{NodeLimit}
use Rattle.node_table.specs.Laws.{Growth}
use Rattle.parity_equations.specs.declared.equations.Equation.{Equation}
use Rattle.parity_equations.specs.Walk.{listed}
use Rattle.bdd_terms.specs.declared.runner.Runner.{Runner}
use Rattle.bdd_terms.specs.Counting.{Counting}
use Rattle.bdd_terms.specs.Price.{IsMovePrice}
use Rattle.bdd_terms.specs.Runner.{IsRunner}
use Rattle.parity_terms.specs.declared.row.Row.{Row}
use Rattle.parity_terms.specs.Limit.{AreBounded, AreOf, AreRowsOf, CostsElimination, all_variables, nodes_needed, step_width}
use Rattle.parity_terms.specs.Owned.{Owns}
use Rattle.parity_terms.specs.Rows.{IsRow, held_of}
use Rattle.parity_terms.specs.Steps.{Keeps}
use Rattle.parity_terms.proofs.EquationBounds.{hand_few, hand_numbered}
use Rattle.parity_terms.proofs.RowVariables.{equation_of_all}
use Rattle.parity_terms.proofs.Totals.{enough_nodes, joined_all, joined_more, moves_fewer, moves_more, moves_most, moves_with}

abbrev pub own_numbers : Equation → List ℕ
own_numbers equation = equation.clauses.items

abbrev pub joined_numbers : List Equation → ℕ
joined_numbers equations = length (flat_map own_numbers equations)

-- So many equations are taken, of which come no more rows, over their variables.
pub record AreCounted {S : Type 0} (equations : List Equation) (place : ℕ) (rows : List Row) (old now : Runner S) : Type 0 where
  pub few : length rows ≤ place
  pub of : AreRowsOf (all_variables (map listed equations)) rows
  pub costs : CostsElimination (joined_numbers (take place equations)) place (length (all_variables (map listed equations))) old now

pub none_counted : {S : Type 0} (equations : List Equation) (rows : List Row) (runner : Runner S) → rows ≡ []
    → AreCounted equations 0 rows runner runner
none_counted equations rows runner none = subst (λ (list : List Row). AreCounted equations 0 list runner runner) (sym none) (record {
  few = omega arith;
  of = λ k d small. absurd (omega (arith, small));
  costs = λ size width price have is enough. omega arith;
})

-- a listed equation is over the variables of all
pub listed_of : (equations : List Equation) (place : ℕ) (d : Equation) → place < length equations
    → AreOf (all_variables (map listed equations)) (get_or equations place d).variables.items
listed_of equations place d small = subst (λ (e : List ℕ × Bool). AreOf (all_variables (map listed equations)) e.0) (at equations place d)
    (equation_of_all (map listed equations) place (listed d) (omega (arith, small, length-map equations listed)))
  where
    at : (list : List Equation) (k : ℕ) (d : Equation) → get_or (map listed list) k (listed d) ≡ listed (get_or list k d)
    at [] k d = refl
    at (equation ∷ list) zero d = refl
    at (equation ∷ list) (suc k) d = at list k d

module _ {S : Type 0} (counting : Counting S) (growth : Growth) (places : List ℕ) (equations : List Equation) (place : ℕ) (d : Equation)
    (small : place < length equations) (rows : List Row) (old mid : Runner S) (keeps : Keeps [] old mid) (goes_on : IsRunner mid)
    (owns : Owns (map held_of rows) mid.terms.out.items) (each : All (IsRow mid places) rows)
    (counted : AreCounted equations place rows old mid) (new : Runner S) (result : Result Bool TableError)
    (bounds : AreBounded (6 * length (all_variables (map listed equations)) + 518)
    (2 * length (get_or equations place d).clauses.items + 2 * length (all_variables (map listed equations)))
    (step_width (length (all_variables (map listed equations)))) (map held_of rows) mid new result) where
  abbrev all : List ℕ
  all = all_variables (map listed equations)

  abbrev n : ℕ
  n = length (all_variables (map listed equations))

  -- the limit of nodes was met: it is too low
  pub too_few : result ≡ Err NodeLimit → old.limits.max_nodes < nodes_needed (map listed equations)
  too_few limit =
      let need = bounds.needs (length rows * (2 * n)) (hand_numbered counting growth places all rows mid goes_on owns each counted.of) limit
      in
      let limits = ap (λ l. l.max_nodes) keeps.limits in
      let rows_few = counted.few in
      enough_nodes (map listed equations) (length rows) old.limits.max_nodes
      (omega (arith, rows_few, small, length-map equations listed)) (omega (arith, need, limits))

  -- one more is taken
  pub costs_with : CostsElimination (joined_numbers (take (place + 1) equations)) (place + 1) n old new
  costs_with size width price have is enough =
      let before = counted.costs size width price have is enough in
      let own = bounds.costs size width price (keeps.sizes ∙ have) (subst (λ m. IsMovePrice m size width price)
      (sym (ap length keeps.order)) is)
      (hand_few counting growth places all rows mid goes_on owns each counted.of width (omega (arith, enough))) enough in
      let both = moves_more old.terms.table.book.state.top mid.terms.table.book.state.top new.terms.table.book.state.top
      (2 * joined_numbers (take place equations) + 2 * (place * n)) (2 * length (get_or equations place d).clauses.items + 2 * n) price
      before own in
      let joined = joined_more own_numbers equations place d small in
      let shape = moves_with (joined_numbers (take place equations)) (length (get_or equations place d).clauses.items) place n in
      subst (λ m. new.terms.table.book.state.top ≤ old.terms.table.book.state.top + m * price)
      (shape ∙ ap (λ k. 2 * k + 2 * ((place + 1) * n)) (sym joined)) both

  -- so the whole isn't dearer
  pub costs_all : CostsElimination (joined_numbers equations) (length equations) n old new
  costs_all size width price have is enough =
      moves_fewer old.terms.table.book.state.top new.terms.table.book.state.top
      (2 * joined_numbers (take (place + 1) equations) + 2 * ((place + 1) * n)) (2 * joined_numbers equations + 2 * (length equations * n))
      price
      (moves_most (joined_numbers (take (place + 1) equations)) (joined_numbers equations) (place + 1) (length equations) n
      (joined_all own_numbers equations (place + 1)) (omega (arith, small)))
      (costs_with size width price have is enough)

  pub counted_with : (after : List Row) → length after ≤ length rows + 1 → AreRowsOf all after
      → AreCounted equations (place + 1) after old new
  counted_with after few of = record {
    few = let before = counted.few in omega (arith, before, few);
    of = of;
    costs = costs_with;
  }

-- all are taken
pub costs_taken : {S : Type 0} (equations : List Equation) (place : ℕ) (rows : List Row) (old now : Runner S) → place ≤ length equations
    → AreCounted equations place rows old now
    → CostsElimination (joined_numbers equations) (length equations) (length (all_variables (map listed equations))) old now
costs_taken equations place rows old now within counted size width price have is enough =
    let n = length (all_variables (map listed equations)) in
    moves_fewer old.terms.table.book.state.top now.terms.table.book.state.top
    (2 * joined_numbers (take place equations) + 2 * (place * n)) (2 * joined_numbers equations + 2 * (length equations * n)) price
    (moves_most (joined_numbers (take place equations)) (joined_numbers equations) place (length equations) n
    (joined_all own_numbers equations place) within)
    (counted.costs size width price have is enough)

-- the clauses of the equations are some of the formula's
pub costs_clauses : {S : Type 0} (few many equations variables : ℕ) (old mid new : Runner S) → few ≤ many
    → new.terms.table.book.state.top ≡ mid.terms.table.book.state.top → CostsElimination few equations variables old mid
    → CostsElimination many equations variables old new
costs_clauses few many equations variables old mid new less top costs size width price have is enough =
    let own = moves_fewer old.terms.table.book.state.top mid.terms.table.book.state.top (2 * few + 2 * (equations * variables))
    (2 * many + 2 * (equations * variables)) price (omega (arith, less)) (costs size width price have is enough) in
    omega (arith, own, top)

-- more rows: the last one is over the variables, too
pub rows_with : (all : List ℕ) (rows : List Row) (row : Row) → AreRowsOf all rows → AreOf all row.variables.items
    → AreRowsOf all (rows ++ row ∷ [])
rows_with all [] row of own zero d small = own
rows_with all [] row of own (suc k) d small = absurd (omega (arith, small))
rows_with all (first ∷ rows) row of own zero d small = of zero d (omega arith)
rows_with all (first ∷ rows) row of own (suc k) d small =
    rows_with all rows row (λ i e less. of (suc i) e (omega (arith, less))) own k d (omega (arith, small))
