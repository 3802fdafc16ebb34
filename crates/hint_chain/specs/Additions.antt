-- The two additions of a conjunction, and those of an implication, over a variable x. On the high side x is true, on
-- the low side it is false; the children are the nodes' cofactors there. (Bryant, Heule 2021, section 4.2.)
use Rattle.std.specs.Prelude.{◌≡◌, ◌⊎◌, Bool, ℤ, neg_ℤ, List, [], ◌∷◌, Option, None, Some, IsTrue}
use Rattle.std.specs.Option.{option_map}
use Rattle.hint_chain.specs.declared.atom.Atom.{Atom}
use Rattle.hint_chain.specs.declared.atom.Atom.TheVariants.{Of}
use Rattle.hint_chain.specs.declared.part.Part.{Part}
use Rattle.hint_chain.specs.Atoms.{neg_atom, clause_from_atoms, is_nonzero_atom, is_trivial, up_clause, down_clause}
use Rattle.hint_chain.specs.Closing.{are_among}

-- w holds where u and v do
abbrev pub conjunction : Atom → Atom → Atom → List Atom
conjunction u v w = neg_atom u ∷ neg_atom v ∷ w ∷ []

-- v holds where u does
abbrev pub implication : Atom → Atom → List Atom
implication u v = neg_atom u ∷ v ∷ []

-- the same where x is true
abbrev pub where_true : ℤ → List Atom → List Atom
where_true x atoms = Of (neg_ℤ x) ∷ atoms

-- the clause of a part, if it is there
abbrev pub part_clause : Option Part → Option (List ℤ)
part_clause part = option_map (λ own. own.clause) part

-- The part of a node's defining clause on one side: of a node at this level the clause, where it exists; a node below
-- this level has none, and is its own cofactor.
pub record IsUpPart (side : ℤ) (node child : Atom) (part : Option Part) : Type 0 where
  pub nonzero : IsTrue (is_nonzero_atom child)
  pub up : (part_clause part ≡ clause_from_atoms (up_clause node side child)) ⊎ ((part ≡ None) × (child ≡ node))

pub record IsDownPart (side : ℤ) (node child : Atom) (part : Option Part) : Type 0 where
  pub nonzero : IsTrue (is_nonzero_atom child)
  pub down : (part_clause part ≡ clause_from_atoms (down_clause node side child)) ⊎ ((part ≡ None) × (child ≡ node))

-- what a call on the children returned: a clause with no literal but these atoms', or none where they need none
abbrev pub is_justified : List Atom → Option Part → Bool
is_justified atoms None = is_trivial atoms
is_justified atoms (Some part) = are_among atoms part.clause

pub record Justifies (atoms : List Atom) (part : Option Part) : Type 0 where
  pub justified : IsTrue (is_justified atoms part)
