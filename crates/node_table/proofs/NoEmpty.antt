-- No clause that defines a node is empty, and one more clause that isn't leaves none.
use Rattle.std.proofs.Common.{◌≡◌, ◌≢◌, ℕ, ℤ, neg_ℤ, List, [], ◌∷◌, ◌++◌, Option, None, Some, sym, inl, inr}
use Rattle.std.specs.Option.{option_map}
use Rattle.lrat_rules.specs.State.{State, clause_at}
use Rattle.clause_ledger.specs.Book.{with_next}
use Rattle.hint_chain.specs.declared.atom.Atom.{Atom}
use Rattle.hint_chain.specs.declared.atom.Atom.TheVariants.{Of}
use Rattle.hint_chain.specs.Atoms.{clause_from_atoms, neg_atom}
use Rattle.node_table.specs.Defined.{Definition, definitions, with_some, with_definitions}
use Rattle.node_table.proofs.Stands.{next_cases}

-- a clause with a literal in front
some_literal : (literal : ℤ) (rest : Option (List ℤ)) → ◌≡◌ {A = Option (List ℤ)} (option_map (λ literals. literal ∷ literals) rest)
    (Some []) → ⊥
some_literal literal None is = cc
some_literal literal (Some literals) is = cc

pub some_first : (literal : ℤ) (rest : List Atom) → clause_from_atoms (Of literal ∷ rest) ≢ Some []
some_first literal rest is = some_literal literal (clause_from_atoms rest) is

-- definitions of which none is empty
abbrev pub AreSome : List Definition → Type 0
AreSome [] = Unit {0}
AreSome (definition ∷ more) = (definition.clause ≢ Some []) × AreSome more

pub definitions_some : (u x : ℤ) (high low : Atom) (first : ℕ) → AreSome (definitions u x high low first)
definitions_some u x high low first = (
  some_first u (Of (neg_ℤ x) ∷ neg_atom high ∷ []),
  (
    some_first u (Of x ∷ neg_atom low ∷ []),
    (some_first (neg_ℤ u) (Of (neg_ℤ x) ∷ high ∷ []), (some_first (neg_ℤ u) (Of x ∷ low ∷ []), tt)),
  ),
)

pub AreSome-front : (some more : List Definition) → AreSome (some ++ more) → AreSome some
AreSome-front [] more are = tt
AreSome-front (d ∷ some) more are = (are.0, AreSome-front some more are.1)

-- one clause more
pub next_empty : (state : State) (clause : List ℤ) → clause ≢ [] → (id : ℕ) → clause_at (with_next state clause).live id ≡ Some []
    → clause_at state.live id ≡ Some []
next_empty state clause some id is = elim (next_cases state clause id [] is) [
  | inl here ↦ absurd (some (sym here.1))
  | inr there ↦ there
]

some_empty : (state : State) (o : Option (List ℤ)) → o ≢ Some [] → (id : ℕ) → clause_at (with_some state o).live id ≡ Some []
    → clause_at state.live id ≡ Some []
some_empty state None some id is = is
some_empty state (Some clause) some id is = next_empty state clause (λ empty. some (λ i. Some (empty i))) id is

pub none_empty : (state : State) (all : List Definition) → AreSome all → (id : ℕ) → clause_at (with_definitions state all).live id
    ≡ Some []
    → clause_at state.live id ≡ Some []
none_empty state [] are id is = is
none_empty state (definition ∷ more) are id is = some_empty state definition.clause are.0 id
    (none_empty (with_some state definition.clause) more are.1 id is)
