-- The hints of an addition over one step of an operation, by what is kept of its parts: of a node's defining clause the number
-- and the child's atom, of the last part the number alone.
use Rattle.std.specs.Prelude.{◌≡◌, ◌++◌, ℕ, Bool, true, false, ℤ, neg_ℤ, List, [], ◌∷◌, Option, None, Some, IsTrue}
use Rattle.std.specs.Option.{option_map}
use Rattle.lrat_rules.specs.Chain.{FalseSet, literals_of, with_literal}
use Rattle.hint_chain.specs.declared.atom.Atom.{Atom}
use Rattle.hint_chain.specs.declared.atom.Atom.TheVariants.{Always, Never, Of}
use Rattle.hint_chain.specs.declared.part.Part.{Part}
use Rattle.hint_chain.specs.declared.step.ChildPart.{ChildPart}
use Rattle.hint_chain.specs.declared.step.StepParts.{StepParts}
use Rattle.hint_chain.specs.Atoms.{neg_atom}
use Rattle.hint_chain.specs.Additions.{IsDownPart, IsUpPart, Justifies, conjunction, implication}
use Rattle.hint_chain.specs.Closing.{are_false_but}
use Rattle.hint_chain.specs.Greedy.{PartsClose, greedy}

-- The parts of one side of a step, as clauses.
pub record SideParts : Type 0 where
  pub result : Option Part
  pub first : Option Part
  pub second : Option Part
  pub children : Option Part

-- in their turn
abbrev pub parts_in : SideParts → List (Option Part)
parts_in parts = parts.result ∷ parts.first ∷ parts.second ∷ parts.children ∷ []

-- The clause has the child's literal, where the child has one. There is none with a child that always holds.
abbrev pub has_child : Atom → List ℤ → Bool
has_child Always clause = false
has_child Never clause = true
has_child (Of literal) clause = literals_of clause literal

-- The clause of this number is false but for the child's literal, which it has.
pub record IsOfChild (n : FalseSet) (own : ChildPart) (part : Part) : Type 0 where
  pub number : part.id ≡ own.id
  pub leaves : IsTrue (are_false_but n (own.child ∷ []) part.clause)
  pub has : IsTrue (has_child own.child part.clause)

abbrev pub AreOfChild : FalseSet → Option ChildPart → Option Part → Type 0
AreOfChild n None None = Unit {0}
AreOfChild n None (Some part) = ⊥
AreOfChild n (Some own) None = ⊥
AreOfChild n (Some own) (Some part) = IsOfChild n own part

-- the part has this number
abbrev pub IsNumbered : Option ℕ → Option Part → Type 0
IsNumbered None None = Unit {0}
IsNumbered None (Some part) = ⊥
IsNumbered (Some id) None = ⊥
IsNumbered (Some id) (Some part) = part.id ≡ id

-- What is kept of the parts is of these clauses, and the greedy choice among them closes.
pub record Spells (n : FalseSet) (own : StepParts) (sides : SideParts) : Type 0 where
  pub closes : PartsClose n (parts_in sides)
  pub result : AreOfChild n own.result sides.result
  pub first : AreOfChild n own.first sides.first
  pub second : AreOfChild n own.second sides.second
  pub children : IsNumbered own.children sides.children

-- Behind the hints so far, a part that is a conflict is the last hint; else the rest is chosen from behind it.
abbrev pub GoesOn : Bool → List ℕ → List ℕ → FalseSet → FalseSet → Option Part → List (Option Part) → Type 0
GoesOn true before after n m part rest = option_map (λ more. before ++ more) (greedy n (part ∷ rest)) ≡ Some after
GoesOn false before after n m part rest = option_map (λ more. before ++ more) (greedy n (part ∷ rest))
    ≡ option_map (λ more. after ++ more) (greedy m rest)

-- The hints behind a clause that leaves one literal: that literal is false too, it is true, or it is forced.
abbrev pub hints_with : Bool → Bool → List ℕ → ℕ → List ℕ
hints_with true known hints id = hints ++ id ∷ []
hints_with false true hints id = hints
hints_with false false hints id = hints ++ id ∷ []

-- the literals that are false then
abbrev pub falses_with : Bool → Bool → ℤ → FalseSet → FalseSet
falses_with true known literal n = n
falses_with false true literal n = n
falses_with false false literal n = with_literal (neg_ℤ literal) n

-- what is kept of a part is its number, and the child's atom
abbrev pub IsNamed : Option ChildPart → Option Part → Atom → Type 0
IsNamed None None atom = Unit {0}
IsNamed None (Some part) atom = ⊥
IsNamed (Some own) None atom = ⊥
IsNamed (Some own) (Some part) atom = (part.id ≡ own.id) × (own.child ≡ atom)

-- One side of a conjunction w of u and v, with the children h, u1 and v1, and what is kept of its parts.
pub record IsConjunctionSide (side : ℤ) (u v w u1 v1 h : Atom) (own : StepParts) (sides : SideParts) : Type 0 where
  pub up : IsUpPart side w h sides.result
  pub first : IsDownPart side u u1 sides.first
  pub second : IsDownPart side v v1 sides.second
  pub children : Justifies (conjunction u1 v1 h) sides.children
  pub up_named : IsNamed own.result sides.result (neg_atom h)
  pub first_named : IsNamed own.first sides.first u1
  pub second_named : IsNamed own.second sides.second v1
  pub children_named : IsNumbered own.children sides.children

-- One side of an implication of v by u, with the children u1 and v1. It has no result.
pub record IsImplicationSide (side : ℤ) (u v u1 v1 : Atom) (own : StepParts) (sides : SideParts) : Type 0 where
  pub no_result : sides.result ≡ None
  pub none_kept : own.result ≡ None
  pub first : IsDownPart side u u1 sides.first
  pub second : IsUpPart side v v1 sides.second
  pub children : Justifies (implication u1 v1) sides.children
  pub first_named : IsNamed own.first sides.first u1
  pub second_named : IsNamed own.second sides.second (neg_atom v1)
  pub children_named : IsNumbered own.children sides.children
