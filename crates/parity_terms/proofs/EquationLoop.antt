-- The bounds of an equation that is taken, at each of its ends.
use Rattle.std.proofs.Common.{◌≡◌, ◌≤◌, ◌+◌, ◌*◌, ℕ, Bool, List, [], ◌∷◌, Some, Ok, Err, Result, Option}
use Rattle.std.proofs.Common.{length, map}
use Rattle.std.proofs.Common.{refl, sym, subst, arith}
use Rattle.node_table.specs.declared.error.TableError.{TableError}
use Rattle.node_table.specs.declared.error.TableError.TheVariants.{NodeLimit}
use Rattle.node_table.specs.Laws.{Growth}
use Rattle.parity_equations.specs.declared.equations.Equation.{Equation}
use Rattle.parity_equations.specs.OwnClauses.{OwnClauses}
use Rattle.parity_equations.specs.Walk.{IsEquationOf, listed}
use Rattle.bdd_terms.specs.declared.held.HeldTerm.{HeldTerm}
use Rattle.bdd_terms.specs.declared.runner.Runner.{Runner}
use Rattle.bdd_terms.specs.declared.term.Term.{Term}
use Rattle.bdd_terms.specs.Counting.{Counting}
use Rattle.bdd_terms.specs.Runner.{IsRunner}
use Rattle.parity_terms.specs.declared.row.Row.{Row}
use Rattle.parity_terms.specs.Limit.{AreBounded, AreClausesAmong, AreOf, level_in, step_width}
use Rattle.parity_terms.specs.Order.{AreOrdered, HaveSameFirst}
use Rattle.parity_terms.specs.Owned.{Owns}
use Rattle.parity_terms.specs.Rows.{IsRow, Sums, held_of}
use Rattle.parity_terms.proofs.EquationBounds.{IsCounted, by_clauses, clauses_among, counted_all, counted_end, counted_next, few_levels}
use Rattle.parity_terms.proofs.EquationBounds.{first_counted, nothing_done, sums_over}
use Rattle.parity_terms.proofs.EquationTaken.{IsCurrent}
use Rattle.parity_terms.proofs.StepsBounds.{bounded_wider}

module _ {S : Type 0} (counting : Counting S) (growth : Growth) (own : OwnClauses) (places : List ℕ) (equation : Equation)
    (rows same : List Row) (are_same : same ≡ rows) (old : Runner S) (runner : IsRunner old)
    (owns : Owns (map held_of rows) old.terms.out.items)
    (is : IsEquationOf old.formula.now.vars old.formula.now.clauses equation) (all : List ℕ) where
  abbrev clauses : ℕ
  clauses = length equation.clauses.items

  -- what is shown of each end
  abbrev pub IsTakenWithin : {U : Type 0} → Runner S → Result U TableError → Type 0
  IsTakenWithin new result =
      AreBounded (6 * length all + 518) (2 * clauses + 2 * length all) (step_width (length all)) (map held_of rows) old new result

  same_within : {U : Type 0} (new : Runner S) (result : Result U TableError)
      → AreBounded (6 * length all + 518) (2 * clauses + 2 * length all) (step_width (length all)) (map held_of same) old new result
      → IsTakenWithin new result
  same_within new result bounds = subst (λ (l : List Row). AreBounded (6 * length all + 518) (2 * clauses + 2 * length all)
      (step_width (length all)) (map held_of l) old new result) are_same bounds

  owns_same : Owns (map held_of same) old.terms.out.items
  owns_same = subst (λ (l : List Row). Owns (map held_of l) old.terms.out.items) (sym are_same) owns

  -- for want of memory
  pub taken_nothing_within : (result : Result Bool TableError) → (result ≡ Err NodeLimit → ⊥) → IsTakenWithin old result
  taken_nothing_within result none =
      nothing_done (6 * length all + 518) (2 * clauses + 2 * length all) (step_width (length all)) (map held_of rows) old result none

  -- the clauses' term, by the numbers that the call has
  module _ (numbers : List ℕ) (are : numbers ≡ equation.clauses.items) (mid : Runner S) (found : Result (Option Term) TableError)
      (bounds : (terms : List HeldTerm) (few : List ℕ) → Owns terms old.terms.out.items → length few ≤ 8
      → AreClausesAmong old.terms.table.graph.order few old.formula.now.clauses numbers
      → AreBounded 518 (2 * length numbers) 255 terms old mid found) where
    abbrev few : List ℕ
    few = map (level_in old.terms.table.graph.order) equation.variables.items

    clause_bounds : AreBounded 518 (2 * clauses) 255 (map held_of rows) old mid found
    clause_bounds =
        subst (λ (l : List ℕ). AreBounded 518 (2 * length l) 255 (map held_of rows) old mid found) are
        (bounds (map held_of rows) few owns
        (few_levels own old.formula.now.vars old.formula.now.clauses equation is old.terms.table.graph.order)
        (subst (AreClausesAmong old.terms.table.graph.order few old.formula.now.clauses) (sym are)
        (clauses_among own old.formula.now.vars old.formula.now.clauses equation is old.terms.table.graph.order)))

    pub taken_clauses_within : (result : Result Bool TableError) → (result ≡ Err NodeLimit → found ≡ Err NodeLimit)
        → IsTakenWithin mid result
    taken_clauses_within result from = by_clauses places all rows old mid clauses found result from clause_bounds

    pub begun_within : (current : Row) → AreOrdered places equation.variables.items current.variables.items
        → AreOf all equation.variables.items → IsCounted places all (2 * clauses) same old mid current
    begun_within current ordered of =
        subst (λ (l : List Row). IsCounted places all (2 * clauses) l old mid current) (sym are_same)
        (first_counted places all rows old mid clauses found clause_bounds equation.variables.items current ordered of)

  -- a sum, and the end of all
  module _ (mid : Runner S) (current : Row) (now : IsCurrent places same (listed equation) old mid current)
      (counted : IsCounted places all (2 * clauses) same old mid current) where
    module _ (new : Runner S) (row : Row) (is_row : IsRow mid places row) (of_row : AreOf all row.variables.items)
        (first : HaveSameFirst row.variables.items current.variables.items) (found : Result (Option Row) TableError)
        (bounds : (terms : List HeldTerm) (variables : List ℕ) → Owns (held_of current ∷ terms) mid.terms.out.items
        → AreOf variables row.variables.items → AreOf variables current.variables.items
        → AreBounded (6 * length variables) 2 (4 * length variables) terms mid new found) where
      sum_bounds : AreBounded (6 * length all) 2 (4 * length all) (map held_of same) mid new found
      sum_bounds = bounds (map held_of same) all now.owns of_row counted.of

      -- it wasn't found, or the empty clause came
      pub taken_sum_within : (result : Result Bool TableError) → (result ≡ Err NodeLimit → found ≡ Err NodeLimit) → IsTakenWithin new result
      taken_sum_within result from =
          same_within new result
          (bounded_wider (6 * length all + 518) (2 * clauses + 2 * length all) (step_width (length all)) (step_width (length all))
          (map held_of same) old new new found result (omega arith) refl from
          (counted_end counting growth places all (2 * clauses) same old mid runner owns_same now.runner now.keeps current counted new found
          sum_bounds row is_row.in_order first [] (λ place one other. tt)))

      -- the next one
      pub next_within : (next : Row) → found ≡ Ok (Some next) → Sums (map held_of same) places row current mid new (Ok (Some next))
          → IsCounted places all (2 * clauses) same old new next
      next_within next was sums =
          counted_next counting growth places all (2 * clauses) same old mid runner owns_same now.runner now.keeps current counted new found
          sum_bounds row next is_row.in_order of_row first sums.sum sums.found.0.in_order sums.later

    -- no sum is left
    pub taken_all_within : (last : Runner S) → last.terms.table.book.state.top ≡ mid.terms.table.book.state.top
        → (result : Result Bool TableError) → (result ≡ Err NodeLimit → ⊥) → IsTakenWithin last result
    taken_all_within last top result none =
        same_within last result
        (sums_over places all same old mid clauses last top
        (counted_all counting growth places all (2 * clauses) same old mid runner owns_same now.runner now.keeps current counted) result
        none)
