-- The two additions of a step, and the first of them, the high clause, which is retired once the second one is there, or
-- where that is refused. (Bryant, Heule: Generating Extended Resolution Proofs with a BDD-Based SAT Solver, 2021, section
-- 4.2.)
use Rattle.std.specs.Prelude.{◌≡◌, ◌≢◌, ◌+◌, ◌<◌, ◌≤◌, ◌++◌, ℕ, ℤ, pos, neg_ℤ, nat_abs, true, List, [], ◌∷◌, Option, None, Some, Contains}
use Rattle.std.specs.Prelude.{IsTrue, length}
use Rattle.std.specs.Ordering.{int_eq}
use Rattle.std.specs.List.{list_any}
use Rattle.lrat_rules.specs.Chain.{literals_of, with_literal}
use Rattle.lrat_rules.specs.State.{State, Live, clause_at}
use Rattle.clause_ledger.specs.Book.{Book, AreTold, addition, with_next}
use Rattle.hint_chain.specs.declared.atom.Atom.{Atom}
use Rattle.hint_chain.specs.declared.atom.Atom.TheVariants.{Of}
use Rattle.hint_chain.specs.declared.part.Part.{Part}
use Rattle.hint_chain.specs.declared.step.StepParts.{StepParts}
use Rattle.hint_chain.specs.Atoms.{clause_from_atoms, is_literal, neg_atom}
use Rattle.hint_chain.specs.Closing.{are_apart}
use Rattle.hint_chain.specs.Greedy.{AreLiveParts, greedy}
use Rattle.hint_chain.specs.Step.{SideParts, Spells, parts_in}
use Rattle.node_table.specs.declared.error.TableError.{TableError}
use Rattle.node_table.specs.declared.error.TableError.TheVariants.{WriteFault}
use Rattle.node_table.specs.declared.node.Node.{Node}
use Rattle.node_table.specs.declared.node.Justification.TheVariants.{Trivial, Clause}
use Rattle.node_table.specs.Defined.{atom_of}
use Rattle.node_table.specs.Diagram.{Graph, IsReduced, IsOrder, levels, variable_at}
use Rattle.node_table.specs.Progress.{Steps}
use Rattle.node_table.specs.Table.{TableState, IsAddedTo, IsSame, IsSound}
use Rattle.node_table.specs.Tied.{IsOverNodes, IsOwned}
use Rattle.operations.specs.Operands.{IsInner}
use Rattle.operations.specs.Accounts.{GivesOne, RetiresNew}

-- A clause was added, and nothing else; it isn't retired.
pub record IsAdded {S : Type 0} (old new : TableState S) (id : ℕ) : Type 0 where
  pub steps : Steps old new 1 None
  pub number : id ≡ old.book.state.top + 1
  pub top : new.book.state.top ≡ id
  pub own : IsAddedTo new id
  pub retired : new.retired ≡ old.retired
  pub unretired : Contains new.retired id → ⊥

-- the high clause is retired
pub record RetiresHigh {S : Type 0} (old new : TableState S) (high : ℕ) : Type 0 where
  pub steps : Steps old new 0 None
  pub is : new ≡ record old { retired = old.retired ++ high ∷ [] }

-- the low clause was refused, and no write failed
pub record IsRefused {S : Type 0} (old new : TableState S) (error : TableError) : Type 0 where
  pub steps : Steps old new 1 (Some error)
  pub whole : error ≢ WriteFault
  pub same : IsSame old new

-- What the two additions leave, once the high clause is retired: of the clauses that were added, only the low one is given.
pub record HighClauses (S : Type 0) : Type 0 where
  pub none : (table : TableState S) → IsSound table → GivesOne table table Trivial
  pub added : (old new : State) (id : ℕ) (clause : List ℤ) → (id ≡ old.top + 1) × (new ≡ with_next old clause) → clause_at new.live id
      ≡ Some clause
  pub refused : (old new : TableState S) → IsSound old → IsSame old new → GivesOne old new Trivial
  pub served : (old one two new : TableState S) (high low : ℕ) → IsAdded old one high → IsAdded one two low
      → RetiresHigh two new high
      → Steps old new 2 None × RetiresNew old new × GivesOne old new (Clause low)
  pub left : (old one two new : TableState S) (high : ℕ) (error : TableError) → IsAdded old one high
      → IsRefused one two error → RetiresHigh two new high
      → Steps old new 2 (Some error) × RetiresNew old new × GivesOne old new Trivial

-- each literal of the clause is that of a node, or its negation
abbrev pub AreOwned : Graph → List ℤ → Type 0
AreOwned graph clause = (y : ℤ) → list_any (int_eq y) clause ≡ true → IsOwned graph (nat_abs y)

-- Two inner nodes that differ are literals of different variables.
pub record AreLiterals (graph : Graph) (u v : Node) : Type 0 where
  pub first : ℕ
  pub second : ℕ
  pub first_is : atom_of graph u ≡ Of (pos first)
  pub second_is : atom_of graph v ≡ Of (pos second)
  pub first_above : 0 < first
  pub second_above : 0 < second
  pub differ : first ≢ second

-- The literals of a clause: those of nodes are the nodes' own, and a variable of the formula before them is another one. A
-- clause over an inner node isn't empty.
pub record Literals : Type 0 where
  pub own : (graph : Graph) (node : Node) (y : ℤ) → IsTrue (is_literal y (atom_of graph node)) → IsOwned graph (nat_abs y)
  pub negated : (graph : Graph) (node : Node) (y : ℤ) → IsTrue (is_literal y (neg_atom (atom_of graph node))) → IsOwned graph (nat_abs y)
  pub some : (graph : Graph) (u : Node) (rest : List Atom) → IsInner graph u → clause_from_atoms (neg_atom (atom_of graph u) ∷ rest) ≢ Some []
  pub differ : (graph : Graph) → IsReduced graph → (u v : Node) → IsInner graph u → IsInner graph v → u ≢ v → AreLiterals graph u v
  pub behind : (graph : Graph) → IsReduced graph → IsOrder graph.order → (level : ℕ) → level < levels graph → (clause : List ℤ)
      → AreOwned graph clause → IsTrue (are_apart clause)
      → IsTrue (are_apart (neg_ℤ (pos (variable_at graph level)) ∷ clause))
      × IsOverNodes graph (neg_ℤ (pos (variable_at graph level)) ∷ clause)

-- the clause of the high side: behind the literal of a level's variable that is false there
abbrev pub high_of : Graph → ℕ → List ℤ → List ℤ
high_of graph level clause = neg_ℤ (pos (variable_at graph level)) ∷ clause

-- What the two additions of a clause stand on: its literals are those of nodes, of different variables, and there are some; the
-- parts of the high side close for the high clause, and those of the low side where the variable is false too. All parts are live.
pub record AreBoth (graph : Graph) (live : Live) (level : ℕ) (clause : List ℤ) (high low : StepParts) : Type 0 where
  pub highs : SideParts
  pub lows : SideParts
  pub within : level < levels graph
  pub some : clause ≢ []
  pub short : length clause ≤ 3
  pub apart : IsTrue (are_apart clause)
  pub owned : AreOwned graph clause
  pub on_high : Spells (literals_of (high_of graph level clause)) high highs
  pub on_low : Spells (with_literal (pos (variable_at graph level)) (literals_of clause)) low lows
  pub high_live : AreLiveParts live (parts_in highs)
  pub low_live : AreLiveParts live (parts_in lows)

-- The step that adds a clause is told, with the hints that the greedy choice takes from these parts in turn.
pub record AddsFrom {S : Type 0} (old new : Book S) (clause : List ℤ) (parts : List (Option Part)) : Type 0 where
  pub hints : List ℕ
  pub chosen : greedy (literals_of clause) parts ≡ Some hints
  pub told : AreTold true old new (addition old.state clause hints ∷ [])

-- Two steps are told: the high clause from the parts of its side, and the clause from the high one and then those of its own side.
pub record AddsBoth {S : Type 0} (old new : Book S) (long clause : List ℤ) (high low : SideParts) : Type 0 where
  pub between : Book S
  pub first : AddsFrom old between long (parts_in high)
  pub second : AddsFrom between new clause (Some (record { id = old.state.top + 1; clause = long }) ∷ parts_in low)
