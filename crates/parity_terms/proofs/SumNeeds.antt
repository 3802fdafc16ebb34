-- What the sum of two rows needs of nodes, and costs in numbers: their conjunction has four parts for each level, the sum and each row two.
use Rattle.std.proofs.Common.{◌≡◌, ◌<◌, ◌≤◌, ◌+◌, ◌*◌, ◌&&◌, ℕ, zero, suc, Bool, List, ◌∷◌, Contains, length}
use Rattle.std.proofs.Common.{get_or}
use Rattle.std.proofs.Common.{sym, subst, arith}
use Rattle.std.specs.Prelude.{IsTrue}
use Rattle.cnf_base.specs.Truth.{Assignment}
use Rattle.node_table.specs.Diagram.{Graph, is_node}
use Rattle.node_table.specs.Value.{IsSubfunction, Levels}
use Rattle.parity_nodes.specs.Sums.{sum_is}
use Rattle.quantify.specs.SomeValues.{function_of}
use Rattle.bdd_terms.specs.declared.held.HeldTerm.{HeldTerm}
use Rattle.bdd_terms.specs.declared.runner.Runner.{Runner}
use Rattle.bdd_terms.specs.Counting.{Counting, IsPartOfOne}
use Rattle.bdd_terms.specs.Runner.{IsRunner, holds_in}
use Rattle.bdd_terms.specs.Parts.{AreMore, HasAtMost}
use Rattle.parity_terms.specs.Limit.{AreAmong, by_levels, functions_of, level_in}
use Rattle.parity_terms.specs.Numbered.{AreNumbered}
use Rattle.parity_terms.proofs.InHand.{level_function, sum_term_numbered}
use Rattle.parity_terms.proofs.Numbered.{few_numbered, numbered_few, numbered_same, one_more}
use Rattle.parity_terms.proofs.SumsNumbered.{both_at, both_sums_numbered, sum_numbered}

-- a function at the head of others, or one of these
pub all_few : (first : Levels → Bool) (rest : List (Levels → Bool)) (width : ℕ) → HasAtMost first width
    → ((f : Levels → Bool) → Contains rest f → HasAtMost f width) → (f : Levels → Bool) → Contains (first ∷ rest) f → HasAtMost f width
all_few first rest width own others f there = by_place there.0 there.1 there.2
  where
    by_place : (k : ℕ) → k < length (first ∷ rest) → get_or (first ∷ rest) k f ≡ f → HasAtMost f width
    by_place zero small at = subst (λ (g : Levels → Bool). HasAtMost g width) at own
    by_place (suc k) small at = others f (k, omega (arith, small), at)

-- more parts than a number, and those of a list with numbers
pub below_numbers : (functions : List (Levels → Bool)) (number bound : ℕ) → AreNumbered (IsPartOfOne functions) bound
    → AreMore (IsPartOfOne functions) number → number < bound
below_numbers functions number bound numbered more = few_numbered (IsPartOfOne functions) bound number numbered more

-- Both rows are over these levels.
module _ {S : Type 0} (counting : Counting S) (runner : Runner S) (goes_on : IsRunner runner) (levels variables others : List ℕ)
    (bit bit_other : Bool) (within : AreAmong runner.terms.table.graph.order levels variables)
    (within_others : AreAmong runner.terms.table.graph.order levels others) where
  abbrev graph : Graph
  graph = runner.terms.table.graph

  -- the conjunction of both sums
  module _ (holds : Assignment → Bool) (value : (a : Assignment) → holds a ≡ (sum_is bit variables a && sum_is bit_other others a)) where
    pub both_numbered : AreNumbered (IsSubfunction (by_levels graph holds)) (4 * length levels)
    both_numbered =
        numbered_same (both_at (level_in graph.order) levels bit bit_other variables others within within_others) (by_levels graph holds)
        (4 * length levels) (λ a. sym (value _))
        (both_sums_numbered (level_in graph.order) levels bit bit_other variables others within within_others)

    pub both_term_numbered : (held : HeldTerm) → IsTrue (is_node graph held.node) → ((a : Assignment) → holds_in runner held a ≡ holds a)
        → AreNumbered (IsSubfunction (function_of graph held.node)) (4 * length levels)
    both_term_numbered held stands own =
        numbered_same (by_levels graph holds) (function_of graph held.node) (4 * length levels)
        (λ a. sym (level_function counting runner goes_on held stands holds own a)) both_numbered

  -- the conjunction of a row and the current one, with this in hand and others
  module _ (current : HeldTerm) (stands : IsTrue (is_node graph current.node))
      (value_current : (a : Assignment) → holds_in runner current a ≡ sum_is bit_other others a) (holds : Assignment → Bool)
      (value : (a : Assignment) → holds a ≡ (sum_is bit variables a && sum_is bit_other others a)) (terms : List HeldTerm) where
    current_numbered : AreNumbered (IsSubfunction (function_of graph current.node)) (2 * length levels)
    current_numbered = sum_term_numbered counting runner goes_on levels current bit_other others stands value_current within_others

    pub meet_needs : (number count : ℕ) → AreNumbered (IsPartOfOne (functions_of graph terms)) count
        → AreMore (IsPartOfOne (by_levels graph holds ∷ functions_of graph (current ∷ terms))) number → number < count + 6 * length levels
    meet_needs number count numbered more =
        let few = below_numbers (by_levels graph holds ∷ functions_of graph (current ∷ terms)) number
        (4 * length levels + (2 * length levels + count))
        (one_more (by_levels graph holds) (functions_of graph (current ∷ terms)) (4 * length levels) (2 * length levels + count)
        (both_numbered holds value)
        (one_more (function_of graph current.node) (functions_of graph terms) (2 * length levels) count current_numbered numbered)) more in
        omega (arith, few)

    pub meet_few : (width : ℕ) → 4 * length levels ≤ width
        → ((f : Levels → Bool) → Contains (functions_of graph terms) f → HasAtMost f width)
        → (f : Levels → Bool) → Contains (by_levels graph holds ∷ functions_of graph (current ∷ terms)) f → HasAtMost f width
    meet_few width least few =
        all_few (by_levels graph holds) (functions_of graph (current ∷ terms)) width
        (numbered_few (by_levels graph holds) (4 * length levels) width least (both_numbered holds value))
        (all_few (function_of graph current.node) (functions_of graph terms) width
        (numbered_few (function_of graph current.node) (2 * length levels) width (omega (arith, least)) current_numbered) few)

  -- the sum of both, with the conjunction in hand and others
  module _ (both : HeldTerm) (stands : IsTrue (is_node graph both.node)) (holds : Assignment → Bool)
      (own : (a : Assignment) → holds_in runner both a ≡ holds a)
      (value : (a : Assignment) → holds a ≡ (sum_is bit variables a && sum_is bit_other others a))
      (bit_sum : Bool) (sum : List ℕ) (within_sum : AreAmong graph.order levels sum) (terms : List HeldTerm) where
    pub sum_needs : (number count : ℕ) → AreNumbered (IsPartOfOne (functions_of graph terms)) count
        → AreMore (IsPartOfOne (by_levels graph (sum_is bit_sum sum) ∷ functions_of graph (both ∷ terms))) number
        → number < count + 6 * length levels
    sum_needs number count numbered more =
        let few = below_numbers (by_levels graph (sum_is bit_sum sum) ∷ functions_of graph (both ∷ terms)) number
        (2 * length levels + (4 * length levels + count))
        (one_more (by_levels graph (sum_is bit_sum sum)) (functions_of graph (both ∷ terms)) (2 * length levels) (4 * length levels + count)
        (sum_numbered (level_in graph.order) levels bit_sum sum within_sum)
        (one_more (function_of graph both.node) (functions_of graph terms) (4 * length levels) count
        (both_term_numbered holds value both stands own) numbered)) more in
        omega (arith, few)

    pub sum_few : (width : ℕ) → 4 * length levels ≤ width
        → ((f : Levels → Bool) → Contains (functions_of graph terms) f → HasAtMost f width)
        → (f : Levels → Bool) → Contains (by_levels graph (sum_is bit_sum sum) ∷ functions_of graph (both ∷ terms)) f → HasAtMost f width
    sum_few width least few =
        all_few (by_levels graph (sum_is bit_sum sum)) (functions_of graph (both ∷ terms)) width
        (numbered_few (by_levels graph (sum_is bit_sum sum)) (2 * length levels) width (omega (arith, least))
        (sum_numbered (level_in graph.order) levels bit_sum sum within_sum))
        (all_few (function_of graph both.node) (functions_of graph terms) width
        (numbered_few (function_of graph both.node) (4 * length levels) width least (both_term_numbered holds value both stands own)) few)
