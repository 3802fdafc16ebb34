-- What a node puts into a clause: True always holds, False never does, and an inner node holds where the literal of
-- its extension variable does. Clauses over nodes are lists of atoms, so that no rule needs a case for constants.
-- (Bryant, Heule: Generating Extended Resolution Proofs with a BDD-Based SAT Solver, 2021, section 4.)
use Rattle.std.specs.Prelude.{Bool, true, false, ◌||◌, ℤ, neg_ℤ, List, [], ◌∷◌, Option, None, Some}
use Rattle.std.specs.List.{list_any}
use Rattle.std.specs.Option.{option_map}
use Rattle.std.specs.Ordering.{int_eq}
use Rattle.lrat_rules.specs.Chain.{FalseSet}
use Rattle.lrat_rules.specs.Soundness.{is_nonzero}
use Rattle.hint_chain.specs.declared.atom.Atom.{Atom}
use Rattle.hint_chain.specs.declared.atom.Atom.TheVariants.{Always, Never, Of}

-- the atom of the other truth value
abbrev pub neg_atom : Atom → Atom
neg_atom Always = Never
neg_atom Never = Always
neg_atom (Of literal) = Of (neg_ℤ literal)

-- the literals of a clause over atoms: one that never holds is dropped, one that always does makes the clause true,
-- and then there is no clause
abbrev pub clause_from_atoms : List Atom → Option (List ℤ)
clause_from_atoms [] = Some []
clause_from_atoms (Always ∷ atoms) = None
clause_from_atoms (Never ∷ atoms) = clause_from_atoms atoms
clause_from_atoms (Of literal ∷ atoms) = option_map (λ literals. literal ∷ literals) (clause_from_atoms atoms)

-- the atom is false where these literals are
abbrev pub is_false : FalseSet → Atom → Bool
is_false n Always = false
is_false n Never = true
is_false n (Of literal) = n literal

-- the atom is this literal
abbrev pub is_literal : ℤ → Atom → Bool
is_literal literal Always = false
is_literal literal Never = false
is_literal literal (Of own) = int_eq literal own

-- the atom's literal, if it has one, names a variable
abbrev pub is_nonzero_atom : Atom → Bool
is_nonzero_atom Always = true
is_nonzero_atom Never = true
is_nonzero_atom (Of literal) = is_nonzero literal

-- the clause is true by itself: an atom always holds, or two literals are opposite
abbrev pub is_trivial : List Atom → Bool
is_trivial [] = false
is_trivial (Always ∷ atoms) = true
is_trivial (Never ∷ atoms) = is_trivial atoms
is_trivial (Of literal ∷ atoms) = list_any (is_literal (neg_ℤ literal)) atoms || is_trivial atoms

-- A node holds where its child on one side does. `side` is the literal of the node's variable that is false on this
-- side. 'Up' goes from the child to the node, 'down' from the node to the child.
abbrev pub up_clause : Atom → ℤ → Atom → List Atom
up_clause node side child = node ∷ Of side ∷ neg_atom child ∷ []

abbrev pub down_clause : Atom → ℤ → Atom → List Atom
down_clause node side child = neg_atom node ∷ Of side ∷ child ∷ []

-- The four clauses that define the extension variable u of the node (x, high, low): HU, LU, HD and LD.
abbrev pub high_up : ℤ → ℤ → Atom → List Atom
high_up u x high = up_clause (Of u) (neg_ℤ x) high

abbrev pub low_up : ℤ → ℤ → Atom → List Atom
low_up u x low = up_clause (Of u) x low

abbrev pub high_down : ℤ → ℤ → Atom → List Atom
high_down u x high = down_clause (Of u) (neg_ℤ x) high

abbrev pub low_down : ℤ → ℤ → Atom → List Atom
low_down u x low = down_clause (Of u) x low
