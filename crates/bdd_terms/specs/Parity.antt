-- Calls of a runner that give a node for the sum of some variables, modulo 2, and that weaken a term to a node that it implies.
use Rattle.std.specs.Prelude.{◌≡◌, ◌≢◌, ◌<◌, ◌≤◌, ◌+◌, ◌*◌, ℕ, Bool, true, List, [], ◌∷◌, Contains, Option, None, Some, Result, Ok, Err, IfOk, IfSome, IsTrue, OnOk, ⊤}
use Rattle.cnf_base.specs.Truth.{Assignment}
use Rattle.node_table.specs.declared.error.TableError.{TableError}
use Rattle.node_table.specs.declared.error.TableError.TheVariants.{NodeLimit}
use Rattle.node_table.specs.declared.node.Node.{Node}
use Rattle.node_table.specs.Diagram.{Graph, is_node, levels}
use Rattle.node_table.specs.Progress.{error_of}
use Rattle.node_table.specs.Table.{UnlessTorn}
use Rattle.node_table.specs.Value.{Levels, by_level, value_of}
use Rattle.parity_nodes.specs.Sums.{sum_is}
use Rattle.clause_terms.specs.Term.{by_variable}
use Rattle.imply.specs.Implication.{IsRefuted}
use Rattle.bdd_terms.specs.declared.held.HeldTerm.{HeldTerm}
use Rattle.bdd_terms.specs.declared.runner.Runner.{Runner}
use Rattle.bdd_terms.specs.declared.term.Term.{Term}
use Rattle.bdd_terms.specs.Price.{IsMovePrice}
use Rattle.bdd_terms.specs.Runner.{Gives, true_term}
use Rattle.bdd_terms.specs.Takes.{Costs, IsTidied, Takes, asked_in, functions_out}
use Rattle.bdd_terms.specs.Parts.{HasAtMost}

-- different variables of the numbers 1 to vars
abbrev pub AreVariables : ℕ → List ℕ → Type 0
AreVariables vars [] = ⊤
AreVariables vars (variable ∷ more) = (0 < variable) × ((variable ≤ vars) × ((Contains more variable → ⊥) × AreVariables vars more))

-- that their sum is this bit, by levels
abbrev pub sum_function : List ℕ → List ℕ → Bool → Levels → Bool
sum_function order variables bit a = sum_is bit variables (by_variable order a)

-- a node that holds exactly where this function of the assignment does
pub record IsNodeOf (graph : Graph) (holds : Assignment → Bool) (node : Node) : Type 0 where
  pub stands : IsTrue (is_node graph node)
  pub value : (a : Assignment) → value_of graph (by_level graph.order a) node ≡ holds a

-- True, as a term of a runner
abbrev pub always : Term
always = record { held = true_term }

-- a call's result with another answer
abbrev pub in_place : {T U E : Type 0} → U → Result T E → Result U E
in_place x (Ok answer) = Ok x
in_place x (Err e) = Err e

-- A call that gives no term: all that are out stay. Else it leaves the runner as a call does that gives True.
pub record GivesNone {S T : Type 0} (function : Levels → Bool) (operands : List HeldTerm) (old new : Runner S)
    (result : Result T TableError) : Type 0 where
  pub gives : Gives function (λ a. true) operands old new (in_place always result)
  pub out : UnlessTorn result (new.terms.out.items ≡ old.terms.out.items)

-- A call that may give none: the other answer in place of none, and what holds then.
abbrev pub some_or : {T E : Type 0} → T → Result (Option T) E → Result T E
some_or x (Ok None) = Ok x
some_or x (Ok (Some answer)) = Ok answer
some_or x (Err e) = Err e

abbrev pub holds_or : {T E : Type 0} → Result (Option T) E → (Assignment → Bool) → Assignment → Bool
holds_or (Ok None) holds a = true
holds_or (Ok (Some answer)) holds a = holds a
holds_or (Err e) holds a = holds a

-- whether a node of a graph holds
abbrev pub node_holds : Graph → Node → Assignment → Bool
node_holds graph node a = value_of graph (by_level graph.order a) node

-- one node holds wherever another does
abbrev pub Implies : Graph → Node → Node → Type 0
Implies graph u w = (a : Levels) → value_of graph a u ≡ true → value_of graph a w ≡ true

-- The term of this node, where the operand implies it; or where some values make the operand true and the node false, none: then the call
-- is as one that gives True, and all terms that are out stay. No node is made.
pub record Weakens {S : Type 0} (operand : HeldTerm) (node : Node) (old new : Runner S) (result : Result (Option Term) TableError) : Type 0 where
  pub gives : Gives (λ a. value_of old.terms.table.graph a node) (holds_or result (node_holds old.terms.table.graph node)) (operand ∷ [])
      old new (some_or always result)
  pub node_is : IfOk result (λ found. IfSome found (λ term. term.held.node ≡ node))
  pub implied : IfOk result (λ found. IfSome found (λ term. Implies old.terms.table.graph operand.node node))
  pub none : result ≡ Ok None → IsRefuted old.terms.table.graph operand.node node × (new.terms.out.items ≡ old.terms.out.items)
  pub nodes : new.terms.table.graph ≡ old.terms.table.graph
  pub no_node_limit : result ≢ Err NodeLimit

-- A node that holds where this does, tried twice at most. It is no term. Else the runner is left as by a call that gives True. No more numbers
-- are given than the clauses that define its nodes have in two tries.
pub record TakesNode {S : Type 0} (holds : Assignment → Bool) (old new : Runner S) (result : Result Node TableError) : Type 0 where
  pub node : IfOk result (IsNodeOf new.terms.table.graph holds)
  pub takes : Takes (λ a. true) old new (in_place always result)
  pub costs : Costs (asked_in old holds ∷ functions_out old) old new (error_of result)
  pub few : (width : ℕ) → HasAtMost (asked_in old holds) width
      → new.terms.table.book.state.top ≤ old.terms.table.book.state.top + 8 * width

-- The term of this node, where the operand implies it, and few nodes beside those of the terms; or where some values make the operand true
-- and the node false, none: then the runner is left as by a call that gives True. Of a move's price so many numbers are left as its node may
-- have taken.
pub record TakesWeaker {S : Type 0} (operand : HeldTerm) (node : Node) (old new : Runner S) (result : Result (Option Term) TableError)
    : Type 0 where
  pub takes : Takes (holds_or result (node_holds old.terms.table.graph node)) old new (some_or always result)
  pub node_is : IfOk result (λ found. IfSome found (λ term. term.held.node ≡ node))
  pub implied : IfOk result (λ found. IfSome found (λ term. Implies old.terms.table.graph operand.node node))
  pub none : result ≡ Ok None → IsRefuted old.terms.table.graph operand.node node × (new.terms.out.items ≡ old.terms.out.items)
  pub costs : Costs (asked_in old (node_holds old.terms.table.graph node) ∷ functions_out old) old new (error_of result)
  pub spare : (width price : ℕ)
      → ((function : Levels → Bool) → Contains (asked_in old (node_holds old.terms.table.graph node) ∷ functions_out old) function
      → HasAtMost function width)
      → IsMovePrice (levels old.terms.table.graph) old.limits.cache width price
      → new.terms.table.book.state.top + 8 * width ≤ old.terms.table.book.state.top + price
  pub tidied : IfOk result (λ found. IfSome found (IsTidied new))
  pub settled : OnOk result (new.terms.table.retired ≡ [])
  pub no_node_limit : result ≢ Err NodeLimit
