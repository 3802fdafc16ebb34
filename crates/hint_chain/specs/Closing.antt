-- When the greedy choice among some parts closes. Each part but the last makes a child's atom false, or is a conflict;
-- then each literal of the last part is false.
use Rattle.std.specs.Prelude.{◌≡◌, Bool, true, false, not, ◌||◌, ◌&&◌, ℤ, neg_ℤ, nat_abs, List, [], ◌∷◌, Option, None, Some, IsTrue, ◌==◌}
use Rattle.std.specs.List.{list_any, list_all}
use Rattle.lrat_rules.specs.Chain.{FalseSet}
use Rattle.lrat_rules.specs.Soundness.{is_nonzero}
use Rattle.hint_chain.specs.declared.atom.Atom.{Atom}
use Rattle.hint_chain.specs.declared.part.Part.{Part}
use Rattle.hint_chain.specs.Atoms.{neg_atom, is_false, is_literal, is_nonzero_atom, is_trivial}

-- no literal is false beside its negation
pub record IsConsistent (n : FalseSet) : Type 0 where
  pub apart : (x : ℤ) → n x ≡ true → n (neg_ℤ x) ≡ false

-- the literals are of different variables
abbrev pub are_apart : List ℤ → Bool
are_apart [] = true
are_apart (x ∷ xs) = is_nonzero x && not (list_any (λ y. nat_abs x == nat_abs y) xs) && are_apart xs

-- each literal of the clause is one of these atoms'
abbrev pub are_among : List Atom → List ℤ → Bool
are_among atoms clause = list_all (λ x. list_any (is_literal x) atoms) clause

-- each literal of the clause is false, or is one of these atoms'
abbrev pub are_false_but : FalseSet → List Atom → List ℤ → Bool
are_false_but n atoms clause = list_all (λ x. n x || list_any (is_literal x) atoms) clause

-- The part leaves the child's atom alone that isn't false; where there is none, the atom's negation is false already.
abbrev pub leaves_child : FalseSet → Atom → Option Part → Bool
leaves_child n child None = is_false n (neg_atom child)
leaves_child n child (Some part) = are_false_but n (child ∷ []) part.clause

pub record IsChildPart (n : FalseSet) (child : Atom) (part : Option Part) : Type 0 where
  pub nonzero : IsTrue (is_nonzero_atom child)
  pub leaves : IsTrue (leaves_child n child part)

-- a part, and the atom that it leaves
pub record Child : Type 0 where
  pub part : Option Part
  pub atom : Atom

abbrev pub AreChildParts : FalseSet → List Child → Type 0
AreChildParts n [] = Unit {0}
AreChildParts n (child ∷ children) = IsChildPart n child.atom child.part × AreChildParts n children

-- the last part's literals are false but for these atoms; where there is none, the clause of the atoms is true by itself
abbrev pub leaves_atoms : FalseSet → List Atom → Option Part → Bool
leaves_atoms n atoms None = is_trivial atoms
leaves_atoms n atoms (Some part) = are_false_but n atoms part.clause

pub record IsLastPart (n : FalseSet) (atoms : List Atom) (part : Option Part) : Type 0 where
  pub leaves : IsTrue (leaves_atoms n atoms part)
