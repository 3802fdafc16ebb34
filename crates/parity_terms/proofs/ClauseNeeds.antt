-- What the term of an equation's clauses needs of nodes: a clause of at most eight variables has eight parts, a conjunction 255.
use Rattle.std.proofs.Common.{◌≡◌, ◌∙◌, ◌<◌, ◌≤◌, ◌+◌, ◌-◌, ◌^◌, ◌&&◌, ℕ, zero, suc, Bool, ℤ, List, [], ◌∷◌}
use Rattle.std.proofs.Common.{Contains, length}
use Rattle.std.proofs.Common.{refl, sym, arith}
use Rattle.std.specs.Prelude.{IsTrue, slice_index_or}
use Rattle.std.proofs.Math.Nat.{pow-le-pow_right}
use Rattle.cnf_base.specs.Truth.{Assignment, clause_holds}
use Rattle.node_table.specs.Diagram.{Graph, is_node}
use Rattle.node_table.specs.Value.{IsSubfunction, Levels}
use Rattle.parity_equations.specs.Sums.{all_hold}
use Rattle.quantify.specs.SomeValues.{function_of}
use Rattle.bdd_terms.specs.declared.held.HeldTerm.{HeldTerm}
use Rattle.bdd_terms.specs.declared.runner.Runner.{Runner}
use Rattle.bdd_terms.specs.Counting.{Counting, IsPartOfOne}
use Rattle.bdd_terms.specs.Runner.{IsRunner, holds_in}
use Rattle.bdd_terms.specs.Parts.{AreMore, HasAtMost}
use Rattle.parity_terms.specs.Limit.{IsClauseAmong, by_levels, functions_of, level_in}
use Rattle.parity_terms.specs.Numbered.{AreNumbered, DependsOn}
use Rattle.parity_terms.proofs.ClausesNumbered.{any_numbered, clause_depends, clause_numbered}
use Rattle.parity_terms.proofs.InHand.{level_function}
use Rattle.parity_terms.proofs.Numbered.{at_most, numbered_few, numbered_same, one_more}
use Rattle.parity_terms.proofs.SumNeeds.{all_few, below_numbers}

few_powers : (count : ℕ) → count ≤ 8 → 2 ^ count - 1 ≤ 255
few_powers count few =
    let more : 2 ^ count ≤ 2 ^ 8 = pow-le-pow_right (omega arith) few in
    let last : 2 ^ 8 ≡ 256 = refl in
    omega (arith, more, last)

-- clauses of these levels hold by these levels' values
pub clauses_depend : (order levels : List ℕ) (clauses : List (List ℤ)) (numbers : List ℕ)
    → ((number : ℕ) → Contains numbers number → IsClauseAmong order levels (slice_index_or clauses (number - 1) []))
    → DependsOn levels (λ a. all_hold clauses numbers (λ variable. a (level_in order variable)))
clauses_depend order levels clauses [] within a b agree = refl
clauses_depend order levels clauses (number ∷ numbers) within a b agree =
    let first = clause_depends (level_in order) levels (slice_index_or clauses (number - 1) []) (within number (zero, omega arith, refl)) a
    b
    agree in
    let rest = clauses_depend order levels clauses numbers
    (λ other there. within other (suc there.0, let small = there.1 in omega (arith, small), there.2)) a b agree in
    (λ i. first i && rest i)

module _ {S : Type 0} (counting : Counting S) (runner : Runner S) (goes_on : IsRunner runner) (levels : List ℕ) (few : length levels ≤ 8)
    (clause : List ℤ) (within : IsClauseAmong runner.terms.table.graph.order levels clause) where
  abbrev graph : Graph
  graph = runner.terms.table.graph

  own_numbered : AreNumbered (IsSubfunction (by_levels graph (λ a. clause_holds a clause))) 8
  own_numbered =
      at_most (IsSubfunction (by_levels graph (λ a. clause_holds a clause))) (length levels) 8 few
      (clause_numbered (level_in graph.order) levels clause within)

  any_few : (f : Levels → Bool) → DependsOn levels f → AreNumbered (IsSubfunction f) 255
  any_few f depends =
      at_most (IsSubfunction f) (2 ^ length levels - 1) 255 (few_powers (length levels) few) (any_numbered levels f depends)

  -- a clause, with others in hand
  pub clause_needs : (terms : List HeldTerm) (number count : ℕ) → AreNumbered (IsPartOfOne (functions_of graph terms)) count
      → AreMore (IsPartOfOne (by_levels graph (λ a. clause_holds a clause) ∷ functions_of graph terms)) number → number < count + 8
  clause_needs terms number count numbered more =
      let most = below_numbers (by_levels graph (λ a. clause_holds a clause) ∷ functions_of graph terms) number (8 + count)
      (one_more (by_levels graph (λ a. clause_holds a clause)) (functions_of graph terms) 8 count own_numbered numbered) more in
      omega (arith, most)

  pub clause_few : (terms : List HeldTerm) (width : ℕ) → 255 ≤ width
      → ((f : Levels → Bool) → Contains (functions_of graph terms) f → HasAtMost f width)
      → (f : Levels → Bool) → Contains (by_levels graph (λ a. clause_holds a clause) ∷ functions_of graph terms) f → HasAtMost f width
  clause_few terms width least others =
      all_few (by_levels graph (λ a. clause_holds a clause)) (functions_of graph terms) width
      (numbered_few (by_levels graph (λ a. clause_holds a clause)) 8 width (omega (arith, least)) own_numbered) others

  -- with a term of these levels in hand, too
  module _ (term : HeldTerm) (depends : DependsOn levels (function_of graph term.node)) (terms : List HeldTerm) where
    pub both_in_hand : (count : ℕ) → AreNumbered (IsPartOfOne (functions_of graph terms)) count
        → AreNumbered (IsPartOfOne (functions_of graph (term ∷ terms))) (255 + count)
    both_in_hand count numbered =
        one_more (function_of graph term.node) (functions_of graph terms) 255 count (any_few (function_of graph term.node) depends) numbered

    pub with_term_few : (width : ℕ) → 255 ≤ width → ((f : Levels → Bool) → Contains (functions_of graph terms) f → HasAtMost f width)
        → (f : Levels → Bool) → Contains (functions_of graph (term ∷ terms)) f → HasAtMost f width
    with_term_few width least others =
        all_few (function_of graph term.node) (functions_of graph terms) width
        (numbered_few (function_of graph term.node) 255 width least (any_few (function_of graph term.node) depends)) others

    -- and their conjunction
    module _ (held : HeldTerm) (stands_term : IsTrue (is_node graph term.node)) (stands : IsTrue (is_node graph held.node))
        (value : (a : Assignment) → holds_in runner held a ≡ clause_holds a clause) where
      held_levels : (a : Levels) → function_of graph held.node a ≡ by_levels graph (λ b. clause_holds b clause) a
      held_levels a = level_function counting runner goes_on held stands (λ b. clause_holds b clause) value a

      held_numbered : AreNumbered (IsSubfunction (function_of graph held.node)) 8
      held_numbered =
          numbered_same (by_levels graph (λ a. clause_holds a clause)) (function_of graph held.node) 8 (λ a. sym (held_levels a))
          own_numbered

      abbrev both : Levels → Bool
      both = by_levels graph (λ a. holds_in runner term a && holds_in runner held a)

      both_depends : DependsOn levels both
      both_depends a b agree =
          let first = sym (level_function counting runner goes_on term stands_term (holds_in runner term) (λ c. refl) a)
          ∙ depends a b agree ∙ level_function counting runner goes_on term stands_term (holds_in runner term) (λ c. refl) b in
          let second = sym (level_function counting runner goes_on held stands (holds_in runner held) (λ c. refl) a)
          ∙ held_levels a ∙ clause_depends (level_in graph.order) levels clause within a b agree ∙ sym (held_levels b)
          ∙ level_function counting runner goes_on held stands (holds_in runner held) (λ c. refl) b in
          (λ i. first i && second i)

      pub join_needs : (number count : ℕ) → AreNumbered (IsPartOfOne (functions_of graph terms)) count
          → AreMore (IsPartOfOne (both ∷ functions_of graph (held ∷ term ∷ terms))) number → number < count + 518
      join_needs number count numbered more =
          let most = below_numbers (both ∷ functions_of graph (held ∷ term ∷ terms)) number (255 + (8 + (255 + count)))
          (one_more both (functions_of graph (held ∷ term ∷ terms)) 255 (8 + (255 + count)) (any_few both both_depends)
          (one_more (function_of graph held.node) (functions_of graph (term ∷ terms)) 8 (255 + count) held_numbered
          (both_in_hand count numbered))) more in
          omega (arith, most)

      pub join_few : (width : ℕ) → 255 ≤ width → ((f : Levels → Bool) → Contains (functions_of graph terms) f → HasAtMost f width)
          → (f : Levels → Bool) → Contains (both ∷ functions_of graph (held ∷ term ∷ terms)) f → HasAtMost f width
      join_few width least others =
          all_few both (functions_of graph (held ∷ term ∷ terms)) width (numbered_few both 255 width least (any_few both both_depends))
          (all_few (function_of graph held.node) (functions_of graph (term ∷ terms)) width
          (numbered_few (function_of graph held.node) 8 width (omega (arith, least)) held_numbered) (with_term_few width least others))
