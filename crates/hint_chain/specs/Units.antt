-- The unit of a clause's diagram. The diagram of a clause has one node for each literal, from the top down: the
-- literal's child is True, the other child the next node, and the last one's other child is False. The unit of the
-- top node follows from the clause: with the top node false, each literal is false, and each next node. (Bryant, Heule:
-- Generating Extended Resolution Proofs with a BDD-Based SAT Solver, 2021, section 5.)
use Rattle.std.specs.Prelude.{◌≡◌, ℕ, ℤ, neg_ℤ, List, [], ◌∷◌, ◌++◌, map, Option, None, Some, IsTrue, if◌then◌else◌}
use Rattle.std.specs.Int.{is_negative}
use Rattle.std.specs.Option.{option_to_list}
use Rattle.lrat_rules.specs.State.{Live, clause_at}
use Rattle.lrat_rules.specs.Chain.{literals_of}
use Rattle.hint_chain.specs.declared.unit.UnitPart.{UnitPart}
use Rattle.hint_chain.specs.Closing.{are_apart}

-- the number of the clause to the constant True, and of that to the next node
abbrev pub literal_id : UnitPart → Option ℕ
literal_id part = if is_negative part.lit then part.lu else part.hu

abbrev pub next_id : UnitPart → Option ℕ
next_id part = if is_negative part.lit then part.hu else part.lu

-- the hints for the unit of the top node: those of each node from the top down, and then the clause itself
abbrev pub unit_list : List UnitPart → ℕ → List ℕ
unit_list [] input = input ∷ []
unit_list (part ∷ path) input = option_to_list (literal_id part) ++ option_to_list (next_id part) ++ unit_list path input

-- the clause from True up to the node, which makes the literal false where the node is
pub record FalsifiesLiteral (live : Live) (part : UnitPart) (node : ℤ) : Type 0 where
  pub id : ℕ
  pub named : literal_id part ≡ Some id
  pub stands : clause_at live id ≡ Some (node ∷ neg_ℤ part.lit ∷ [])

-- the clause from the next node up to the node, which makes the next node false where the node and the literal are
pub record FalsifiesNext (live : Live) (part : UnitPart) (node next : ℤ) : Type 0 where
  pub id : ℕ
  pub named : next_id part ≡ Some id
  pub stands : clause_at live id ≡ Some (node ∷ part.lit ∷ neg_ℤ next ∷ [])

-- each node of the path, by its literal, with the clauses to the constant and to the next node
abbrev pub IsNextLinked : Live → UnitPart → ℤ → List ℤ → Type 0
IsNextLinked live part node [] = next_id part ≡ None
IsNextLinked live part node (next ∷ nodes) = FalsifiesNext live part node next

abbrev pub IsLinked : Live → List UnitPart → List ℤ → Type 0
IsLinked live [] [] = Unit {0}
IsLinked live [] (node ∷ nodes) = ⊥
IsLinked live (part ∷ path) [] = ⊥
IsLinked live (part ∷ path) (node ∷ nodes) = FalsifiesLiteral live part node × IsNextLinked live part node nodes × IsLinked live path nodes

-- the literals of nodes and path, from the top down
abbrev pub path_literals : List UnitPart → List ℤ → List ℤ
path_literals [] nodes = nodes
path_literals (part ∷ path) [] = part.lit ∷ path_literals path []
path_literals (part ∷ path) (node ∷ nodes) = node ∷ part.lit ∷ path_literals path nodes

-- the diagram of a clause with these nodes, whose defining clauses are live
pub record IsUnitPath (live : Live) (path : List UnitPart) (nodes clause : List ℤ) : Type 0 where
  pub linked : IsLinked live path nodes
  pub apart : IsTrue (are_apart (path_literals path nodes))
  pub exact : (x : ℤ) → literals_of clause x ≡ literals_of (map (λ part. part.lit) path) x
