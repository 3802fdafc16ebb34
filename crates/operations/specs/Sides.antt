-- The two sides of a variable: where it is true, and where it is false.
use Rattle.std.specs.Prelude.{ℕ, ℤ, neg_ℤ, pos, List, Option, None, Some}
use Rattle.std.specs.Option.{option_map}
use Rattle.lrat_rules.specs.State.{Live}
use Rattle.hint_chain.specs.declared.atom.Atom.{Atom}
use Rattle.hint_chain.specs.declared.atom.Atom.TheVariants.{Always, Never, Of}
use Rattle.hint_chain.specs.declared.part.Part.{Part}
use Rattle.hint_chain.specs.declared.step.ChildPart.{ChildPart}
use Rattle.hint_chain.specs.Additions.{IsDownPart, IsUpPart, Justifies}
use Rattle.hint_chain.specs.Atoms.{neg_atom}
use Rattle.hint_chain.specs.Greedy.{IsLivePart}
use Rattle.hint_chain.specs.Step.{IsNamed, IsNumbered}
use Rattle.node_table.specs.declared.node.Node.{Node}
use Rattle.node_table.specs.declared.node.Defs.{Defs}
use Rattle.node_table.specs.Defined.{atom_of}
use Rattle.node_table.specs.Diagram.{Graph, high_at, low_at, variable_at}

-- Where the variable is true, and where it is false.
pub data Side : Type 0 where
  High : Side
  Low : Side

-- the literal of a level's variable that is false on this side
abbrev pub false_literal : Side → Graph → ℕ → ℤ
false_literal High graph level = neg_ℤ (pos (variable_at graph level))
false_literal Low graph level = pos (variable_at graph level)

abbrev pub cofactor_at : Side → Graph → ℕ → Node → Node
cofactor_at High graph level node = high_at graph level node
cofactor_at Low graph level node = low_at graph level node

-- the numbers of the clauses from the child on this side up to the node, and down to it
abbrev pub up_of : Side → Defs → Option ℕ
up_of High defs = defs.hu
up_of Low defs = defs.lu

abbrev pub down_of : Side → Defs → Option ℕ
down_of High defs = defs.hd
down_of Low defs = defs.ld

-- a clause under its number, where both are given
abbrev pub named_part : Option ℕ → Option (List ℤ) → Option Part
named_part None clause = None
named_part (Some id) clause = option_map (λ own. record { id = id; clause = own }) clause

-- What is kept of a defining clause: its number, and its child's atom. There is none with a child that always holds.
abbrev pub kept_part : Option ℕ → Atom → Option ChildPart
kept_part None child = None
kept_part (Some id) Always = None
kept_part (Some id) Never = Some (record { id = id; child = Never })
kept_part (Some id) (Of literal) = Some (record { id = id; child = Of literal })

-- On this side a clause leads from the node's child up to the node, where one is given, and this is kept of it.
pub record HasUpPart (side : Side) (graph : Graph) (live : Live) (level : ℕ) (node : Node) (own : Option ChildPart) : Type 0 where
  pub part : Option Part
  pub up : IsUpPart (false_literal side graph level) (atom_of graph node) (atom_of graph (cofactor_at side graph level node)) part
  pub stands : IsLivePart live part
  pub named : IsNamed own part (neg_atom (atom_of graph (cofactor_at side graph level node)))

-- The same of one that leads from the node down to its child.
pub record HasDownPart (side : Side) (graph : Graph) (live : Live) (level : ℕ) (node : Node) (own : Option ChildPart) : Type 0 where
  pub part : Option Part
  pub down : IsDownPart (false_literal side graph level) (atom_of graph node) (atom_of graph (cofactor_at side graph level node)) part
  pub stands : IsLivePart live part
  pub named : IsNamed own part (atom_of graph (cofactor_at side graph level node))

-- The clause that a justification of these atoms names, where one is named, has this number.
pub record HasJustPart (live : Live) (atoms : List Atom) (own : Option ℕ) : Type 0 where
  pub part : Option Part
  pub justifies : Justifies atoms part
  pub stands : IsLivePart live part
  pub numbered : IsNumbered own part
