-- The terms in hand at a step: their functions by levels, and the numbers of their parts.
use Rattle.std.proofs.Common.{◌≡◌, ◌∙◌, ◌<◌, ◌+◌, ◌*◌, ℕ, zero, suc, Bool, List, [], ◌∷◌, All, Contains}
use Rattle.std.proofs.Common.{length, map}
use Rattle.std.proofs.Common.{get_or, refl, sym, arith}
use Rattle.std.specs.Prelude.{IsTrue}
use Rattle.std.proofs.Math.Nat.{add-mul, one-mul}
use Rattle.cnf_base.specs.Truth.{Assignment}
use Rattle.node_table.specs.Diagram.{is_node}
use Rattle.node_table.specs.Laws.{Growth}
use Rattle.node_table.specs.Value.{IsSubfunction, Levels}
use Rattle.parity_nodes.specs.Sums.{sum_is}
use Rattle.clause_terms.specs.Term.{by_variable}
use Rattle.quantify.specs.SomeValues.{function_of}
use Rattle.bdd_terms.specs.declared.held.HeldTerm.{HeldTerm}
use Rattle.bdd_terms.specs.declared.runner.Runner.{Runner}
use Rattle.bdd_terms.specs.Counting.{Counting, IsPartOfOne}
use Rattle.bdd_terms.specs.Runner.{IsRunner, holds_in}
use Rattle.parity_terms.specs.declared.row.Row.{Row}
use Rattle.parity_terms.specs.Limit.{AreAmong, by_levels, functions_of, level_in}
use Rattle.parity_terms.specs.Numbered.{AreNumbered}
use Rattle.parity_terms.specs.Owned.{Owns}
use Rattle.parity_terms.specs.Rows.{IsRow, held_of}
use Rattle.parity_terms.specs.Steps.{Keeps}
use Rattle.parity_terms.proofs.Numbered.{at_most, none_numbered, numbered_same, one_more}
use Rattle.parity_terms.proofs.SumsNumbered.{sum_numbered}
use Rattle.parity_terms.proofs.Taken.{owned_stands}

module _ {S : Type 0} (counting : Counting S) (runner : Runner S) (goes_on : IsRunner runner) where
  -- a term's function by levels, where it is known by assignments
  pub level_function : (held : HeldTerm) → IsTrue (is_node runner.terms.table.graph held.node) → (holds : Assignment → Bool)
      → ((a : Assignment) → holds_in runner held a ≡ holds a) → (a : Levels)
      → function_of runner.terms.table.graph held.node a ≡ by_levels runner.terms.table.graph holds a
  level_function held stands holds value a =
      counting.by_levels runner.terms.table.graph goes_on.over.sound.tied.reduced goes_on.over.sound.tied.ordered held.node stands holds
      value a

  -- a sum's term has two parts for each level
  pub sum_term_numbered : (levels : List ℕ) (held : HeldTerm) (bit : Bool) (variables : List ℕ)
      → IsTrue (is_node runner.terms.table.graph held.node)
      → ((a : Assignment) → holds_in runner held a ≡ sum_is bit variables a) → AreAmong runner.terms.table.graph.order levels variables
      → AreNumbered (IsSubfunction (function_of runner.terms.table.graph held.node)) (2 * length levels)
  sum_term_numbered levels held bit variables stands value within =
      numbered_same (by_levels runner.terms.table.graph (sum_is bit variables)) (function_of runner.terms.table.graph held.node)
      (2 * length levels) (λ a. sym (level_function held stands (sum_is bit variables) value a))
      (sum_numbered (level_in runner.terms.table.graph.order) levels bit variables within)

  -- the terms of rows
  pub rows_numbered : (levels places : List ℕ) (rows : List Row) → All (IsRow runner places) rows
      → ((k : ℕ) (d : Row) → k < length rows → IsTrue (is_node runner.terms.table.graph (held_of (get_or rows k d)).node)
      × AreAmong runner.terms.table.graph.order levels (get_or rows k d).variables.items)
      → AreNumbered (IsPartOfOne (functions_of runner.terms.table.graph (map held_of rows))) (length rows * (2 * length levels))
  rows_numbered levels places [] each within =
      at_most (IsPartOfOne []) 0 (0 * (2 * length levels)) (omega arith) none_numbered
  rows_numbered levels places (row ∷ rows) each within =
      let more = rows_numbered levels places rows (λ k d small. each (suc k) d (omega (arith, small)))
      (λ k d small. within (suc k) d (omega (arith, small))) in
      let here = within 0 row (omega arith) in
      let own = each 0 row (omega arith) in
      at_most (IsPartOfOne (functions_of runner.terms.table.graph (map held_of (row ∷ rows))))
      (2 * length levels + length rows * (2 * length levels)) (length (row ∷ rows) * (2 * length levels))
      (omega (arith, add-mul (length rows) 1 (2 * length levels), one-mul (2 * length levels)))
      (one_more (function_of runner.terms.table.graph (held_of row).node) (functions_of runner.terms.table.graph (map held_of rows))
      (2 * length levels) (length rows * (2 * length levels))
      (sum_term_numbered levels (held_of row) row.bit row.variables.items here.0 own.value here.1) more)

-- Terms that keep their values by assignments have the same functions.
module _ {S : Type 0} (counting : Counting S) (old new : Runner S) (goes_on : IsRunner old) (goes_on_new : IsRunner new)
    (same_order : new.terms.table.graph.order ≡ old.terms.table.graph.order) where
  function_kept : (held : HeldTerm) → IsTrue (is_node old.terms.table.graph held.node) → IsTrue (is_node new.terms.table.graph held.node)
      → ((a : Assignment) → holds_in new held a ≡ holds_in old held a)
      → function_of new.terms.table.graph held.node ≡ function_of old.terms.table.graph held.node
  function_kept held stands stands_new value i a =
      (level_function counting new goes_on_new held stands_new (holds_in old held) value a
      ∙ (λ j. holds_in old held (by_variable (same_order j) a))
      ∙ sym (level_function counting old goes_on held stands (holds_in old held) (λ b. refl) a)) i

  pub functions_kept : (terms : List HeldTerm)
      → ((held : HeldTerm) → Contains terms held → IsTrue (is_node old.terms.table.graph held.node))
      → ((held : HeldTerm) → Contains terms held → IsTrue (is_node new.terms.table.graph held.node))
      → ((held : HeldTerm) → Contains terms held → (a : Assignment) → holds_in new held a ≡ holds_in old held a)
      → functions_of new.terms.table.graph terms ≡ functions_of old.terms.table.graph terms
  functions_kept [] stand stand_new values = refl
  functions_kept (held ∷ terms) stand stand_new values =
      let here : Contains (held ∷ terms) held = (zero, omega arith, refl) in
      let first = function_kept held (stand held here) (stand_new held here) (values held here) in
      let rest = functions_kept terms (λ other there. stand other (later terms held other there))
      (λ other there. stand_new other (later terms held other there))
      (λ other there. values other (later terms held other there)) in
      (λ i. first i ∷ rest i)
    where
      later : (terms : List HeldTerm) (held other : HeldTerm) → Contains terms other → Contains (held ∷ terms) other
      later terms held other there = (suc there.0, let small = there.1 in omega (arith, small), there.2)

-- where the terms in hand stay, so do their functions
module _ {S : Type 0} (counting : Counting S) (growth : Growth) (terms : List HeldTerm) (old new : Runner S) (runner : IsRunner old)
    (owns : Owns terms old.terms.out.items) where
  pub functions_keep : IsRunner new → Keeps terms old new
      → functions_of new.terms.table.graph terms ≡ functions_of old.terms.table.graph terms
  functions_keep goes_on keeps =
      functions_kept counting old new runner goes_on keeps.order terms (owned_stands growth old new runner terms owns)
      keeps.stand keeps.values
