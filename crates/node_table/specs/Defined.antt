-- The defining clauses of a node in the proof: its extension variable holds where the child that its variable chooses
-- does. (Bryant, Heule: Generating Extended Resolution Proofs with a BDD-Based SAT Solver, 2021, section 4.)
use Rattle.std.specs.Prelude.{◌≡◌, ◌≢◌, ◌<◌, ◌==◌, IsTrue, nat_abs, ℕ, ◌+◌, Bool, true, false, not, ◌||◌, ℤ, pos, List, [], ◌∷◌, ◌++◌}
use Rattle.std.specs.Prelude.{Option, None, Some, if◌then◌else◌}
use Rattle.std.specs.Option.{option_to_list}
use Rattle.std.specs.List.{list_any}
use Rattle.std.specs.Ordering.{int_eq}
use Rattle.cnf_base.specs.declared.step.Step.{Step}
use Rattle.cnf_base.specs.ProofText.{given_if}
use Rattle.lrat_rules.specs.State.{State, Live, clause_at}
use Rattle.clause_ledger.specs.Book.{AreTold, Book, definition, with_next}
use Rattle.hint_chain.specs.declared.atom.Atom.{Atom}
use Rattle.hint_chain.specs.declared.atom.Atom.TheVariants.{Always, Never, Of}
use Rattle.hint_chain.specs.Atoms.{clause_from_atoms, high_up, low_up, high_down, low_down}
use Rattle.node_table.specs.declared.node.Node.{Node}
use Rattle.node_table.specs.declared.node.Node.TheVariants.{False, True, Inner}
use Rattle.node_table.specs.declared.node.Branch.{Branch}
use Rattle.node_table.specs.declared.node.Defs.{Defs}
use Rattle.node_table.specs.Diagram.{Graph, branch_at, variable_at}

-- what a node puts into a clause
abbrev pub atom_in : Option Branch → Atom
atom_in None = Never
atom_in (Some branch) = Of (pos branch.variable)

abbrev pub literal_of_branch : Branch → ℤ
literal_of_branch branch = pos branch.variable

abbrev pub atom_of : Graph → Node → Atom
atom_of graph False = Never
atom_of graph True = Always
atom_of graph (Inner key) = atom_in (branch_at graph key.index)

-- Which of the four clauses there are: the literal of True makes a clause true, so those from False up and those down
-- to True are none.
abbrev pub is_false_node : Node → Bool
is_false_node False = true
is_false_node True = false
is_false_node (Inner key) = false

abbrev pub is_true_node : Node → Bool
is_true_node False = false
is_true_node True = true
is_true_node (Inner key) = false

abbrev pub one_if : Bool → ℕ
one_if b = if b then 1 else 0

-- the numbers of a node's clauses are consecutive, in the order HU, LU, HD, LD
abbrev pub lu_first : Node → ℕ → ℕ
lu_first high first = first + one_if (not (is_false_node high))

abbrev pub hd_first : Node → Node → ℕ → ℕ
hd_first high low first = lu_first high first + one_if (not (is_false_node low))

abbrev pub ld_first : Node → Node → ℕ → ℕ
ld_first high low first = hd_first high low first + one_if (not (is_true_node high))

abbrev pub defs_from : Node → Node → ℕ → Defs
defs_from high low first = record {
  hu = given_if (not (is_false_node high)) first;
  lu = given_if (not (is_false_node low)) (lu_first high first);
  hd = given_if (not (is_true_node high)) (hd_first high low first);
  ld = given_if (not (is_true_node low)) (ld_first high low first);
}

abbrev pub defs_of : Branch → Defs
defs_of branch = defs_from branch.high branch.low branch.first

-- the number is that of one of a node's clauses
abbrev pub is_given : Option ℕ → ℕ → Bool
is_given None id = false
is_given (Some own) id = own == id

abbrev pub is_defined_by : Defs → ℕ → Bool
is_defined_by defs id = is_given defs.hu id || is_given defs.lu id || is_given defs.hd id || is_given defs.ld id

-- how many there are
abbrev pub definition_count : Node → Node → ℕ
definition_count high low = one_if (not (is_false_node high)) + one_if (not (is_false_node low)) + one_if (not (is_true_node high))
    + one_if (not (is_true_node low))

-- the live clause of a number, where one is given
abbrev pub clause_named : Live → Option ℕ → Option (List ℤ)
clause_named live None = None
clause_named live (Some id) = clause_at live id

-- the node's clauses are live under its numbers
pub record IsDefined (live : Live) (graph : Graph) (branch : Branch) : Type 0 where
  pub hu : clause_named live (defs_of branch).hu
      ≡ clause_from_atoms (high_up (pos branch.variable) (pos (variable_at graph branch.level)) (atom_of graph branch.high))
  pub lu : clause_named live (defs_of branch).lu
      ≡ clause_from_atoms (low_up (pos branch.variable) (pos (variable_at graph branch.level)) (atom_of graph branch.low))
  pub hd : clause_named live (defs_of branch).hd
      ≡ clause_from_atoms (high_down (pos branch.variable) (pos (variable_at graph branch.level)) (atom_of graph branch.high))
  pub ld : clause_named live (defs_of branch).ld
      ≡ clause_from_atoms (low_down (pos branch.variable) (pos (variable_at graph branch.level)) (atom_of graph branch.low))

-- A clause to be written, if there is one, and its candidates.
pub record Definition : Type 0 where
  pub clause : Option (List ℤ)
  pub candidates : List ℕ

-- the atom of False, and of True
abbrev pub is_never : Atom → Bool
is_never Always = false
is_never Never = true
is_never (Of literal) = false

abbrev pub is_always : Atom → Bool
is_always Always = true
is_always Never = false
is_always (Of literal) = false

-- The clauses that define u as (x, high, low), to be written under the numbers from this one on. The candidates of
-- those from the node down are those that lead up to it.
abbrev pub ups_from : Atom → Atom → ℕ → List ℕ
ups_from high low first =
    option_to_list (given_if (not (is_never high)) first) ++ option_to_list
    (given_if (not (is_never low)) (first + one_if (not (is_never high))))

abbrev pub definitions : ℤ → ℤ → Atom → Atom → ℕ → List Definition
definitions u x high low first =
    record { clause = clause_from_atoms (high_up u x high); candidates = [] }
    ∷ record { clause = clause_from_atoms (low_up u x low); candidates = [] }
    ∷ record { clause = clause_from_atoms (high_down u x high); candidates = ups_from high low first }
    ∷ record { clause = clause_from_atoms (low_down u x low); candidates = ups_from high low first }
    ∷ []

-- how many of them there are
abbrev pub count_atoms : Atom → Atom → ℕ
count_atoms high low = one_if (not (is_never high)) + one_if (not (is_never low)) + one_if (not (is_always high))
    + one_if (not (is_always low))

-- a clause more, if there is one
abbrev pub with_some : State → Option (List ℤ) → State
with_some state None = state
with_some state (Some clause) = with_next state clause

abbrev pub step_of_some : State → Option (List ℤ) → List ℕ → List Step
step_of_some state None candidates = []
step_of_some state (Some clause) candidates = definition state clause candidates ∷ []

-- the state once they are written, and the steps that write them
abbrev pub with_definitions : State → List Definition → State
with_definitions state [] = state
with_definitions state (definition ∷ more) = with_definitions (with_some state definition.clause) more

abbrev pub definition_steps : State → List Definition → List Step
definition_steps state [] = []
definition_steps state (d ∷ more) = step_of_some state d.clause d.candidates ++ definition_steps (with_some state d.clause) more

-- These steps write some of the definitions, the last of which is a clause.
pub record IsDefinedInPart (old after : State) (all : List Definition) (steps : List Step) : Type 0 where
  pub earlier : List Definition
  pub last : Definition
  pub rest : List Definition
  pub parts : all ≡ earlier ++ last ∷ rest
  pub clause : List ℤ
  pub is : last.clause ≡ Some clause
  pub written : steps ≡ definition_steps old (earlier ++ last ∷ [])
  pub reached : after ≡ with_definitions old (earlier ++ last ∷ [])

-- a clause that there is was told, and a write failed
pub record IsTornStep {S : Type 0} (old new : Book S) (o : Option (List ℤ)) (candidates : List ℕ) : Type 0 where
  pub clause : List ℤ
  pub is : o ≡ Some clause
  pub told : AreTold false old new (step_of_some old.state o candidates)

-- no live clause holds the variable
abbrev pub IsUnused : Live → ℕ → Type 0
IsUnused live variable = (id : ℕ) (clause : List ℤ) → clause_at live id ≡ Some clause → (literal : ℤ)
    → IsTrue (list_any (int_eq literal) clause) → nat_abs literal ≢ variable

-- the atom isn't of this variable
abbrev pub is_apart_from : ℕ → Atom → Bool
is_apart_from variable Always = true
is_apart_from variable Never = true
is_apart_from variable (Of literal) = not (nat_abs literal == variable)

-- what the clauses of a new extension variable u are written over
pub record IsNewVariable (live : Live) (u x : ℤ) (high low : Atom) : Type 0 where
  pub positive : (0 < nat_abs u) × (u ≡ pos (nat_abs u))
  pub unused : IsUnused live (nat_abs u)
  pub apart : nat_abs x ≢ nat_abs u
  pub high_apart : IsTrue (is_apart_from (nat_abs u) high)
  pub low_apart : IsTrue (is_apart_from (nat_abs u) low)
