-- The clause of an entry over marked nodes holds no extension variable of another node.
use Rattle.std.proofs.Common.{◌≡◌, ◌||◌, ◌&&◌, ◌∙◌, ℕ, ℤ, neg_ℤ, nat_abs, int_eq, Bool, true, false, List, [], ◌∷◌, Some, refl, sym, ap}
use Rattle.std.proofs.Common.{subst, inl, inr}
use Rattle.std.specs.List.{list_all, list_any}
use Rattle.std.proofs.lemmas.Bool.{and_parts, or_cases}
use Rattle.lrat_rules.specs.State.{Live, clause_at}
use Rattle.hint_chain.specs.declared.atom.Atom.{Atom}
use Rattle.hint_chain.specs.declared.atom.Atom.TheVariants.{Always, Never, Of}
use Rattle.hint_chain.specs.Atoms.{neg_atom, clause_from_atoms, is_literal}
use Rattle.hint_chain.specs.Closing.{are_among}
use Rattle.node_table.specs.declared.node.Node.{Node}
use Rattle.node_table.specs.declared.node.Justification.TheVariants.{Trivial, Clause}
use Rattle.node_table.specs.declared.node.Branch.{Branch}
use Rattle.node_table.specs.Defined.{atom_of}
use Rattle.node_table.specs.Deleted.{IsClear}
use Rattle.node_table.specs.Diagram.{Graph, IsReduced, branch_at}
use Rattle.node_table.specs.Justification.{IsJustified}
use Rattle.node_table.specs.Made.{inner}
use Rattle.node_table.specs.Marks.{is_marked}
use Rattle.operations.specs.Entries.{Entry, Conjunction, Implication, Disjunction, Quantification, FitsEntry, Names}
use Rattle.operations.specs.Purged.{are_marked}
use Rattle.operations.specs.Results.{conjunction_atoms, implication_atoms}
use Rattle.operations.proofs.Literals.{IsAt, abs_neg, literal_at, same_int}

-- no unmarked node's extension variable
abbrev IsClearOf : Graph → List Bool → ℤ → Type 0
IsClearOf graph marks y = (key : ℕ) (branch : Branch) → branch_at graph key ≡ Some branch → is_marked marks (inner key) ≡ false → nat_abs y
    ≡ branch.variable → ⊥

module _ (graph : Graph) (marks : List Bool) (reduced : IsReduced graph) where
  module _ (node : Node) (marked : is_marked marks node ≡ true) (y : ℤ) where
    own_variable : (at : IsAt graph node) → nat_abs y ≡ at.branch.variable → IsClearOf graph marks y
    own_variable at own key branch stands unmarked same =
        let index : at.key.index ≡ key = reduced.apart at.key.index key at.branch branch at.at stands (sym own ∙ same) in
        let both : true ≡ false = sym marked ∙ ap (is_marked marks) at.named ∙ ap (λ k. is_marked marks (inner k)) index ∙ unmarked in
        cc

    clear_in : (atom : Atom) → atom_of graph node ≡ atom → is_literal y atom ≡ true → IsClearOf graph marks y
    clear_in Always at is = absurd (let e : false ≡ true = is in cc)
    clear_in Never at is = absurd (let e : false ≡ true = is in cc)
    clear_in (Of l) at is = let own = literal_at graph node l at in own_variable own.0 (ap nat_abs (same_int y l is ∙ own.1))

    clear_negated : (atom : Atom) → atom_of graph node ≡ atom → is_literal y (neg_atom atom) ≡ true → IsClearOf graph marks y
    clear_negated Always at is = absurd (let e : false ≡ true = is in cc)
    clear_negated Never at is = absurd (let e : false ≡ true = is in cc)
    clear_negated (Of l) at is =
        let own = literal_at graph node l at in
        own_variable own.0 (ap nat_abs (same_int y (neg_ℤ l) is ∙ ap neg_ℤ own.1) ∙ abs_neg own.0.branch.variable)

  conjunction_clear : (u v w : Node) (y : ℤ) → is_marked marks u ≡ true → is_marked marks v ≡ true → is_marked marks w ≡ true
      → list_any (is_literal y) (conjunction_atoms graph u v w) ≡ true → IsClearOf graph marks y
  conjunction_clear u v w y first second third any =
      let one = is_literal y (neg_atom (atom_of graph u)) in
      let two = is_literal y (neg_atom (atom_of graph v)) in
      let three = is_literal y (atom_of graph w) in
      elim (or_cases one (two || (three || false)) any) [
        | inl is ↦ clear_negated u first y (atom_of graph u) refl is
        | inr rest ↦ elim (or_cases two (three || false) rest) [
          | inl is ↦ clear_negated v second y (atom_of graph v) refl is
          | inr last ↦ elim (or_cases three false last) [
            | inl is ↦ clear_in w third y (atom_of graph w) refl is
            | inr is ↦ absurd (let e : false ≡ true = is in cc)
          ]
        ]
      ]

  implication_clear : (u v : Node) (y : ℤ) → is_marked marks u ≡ true → is_marked marks v ≡ true
      → list_any (is_literal y) (implication_atoms graph u v) ≡ true → IsClearOf graph marks y
  implication_clear u v y first second any =
      let one = is_literal y (neg_atom (atom_of graph u)) in
      let two = is_literal y (atom_of graph v) in
      elim (or_cases one (two || false) any) [
        | inl is ↦ clear_negated u first y (atom_of graph u) refl is
        | inr last ↦ elim (or_cases two false last) [
          | inl is ↦ clear_in v second y (atom_of graph v) refl is
          | inr is ↦ absurd (let e : false ≡ true = is in cc)
        ]
      ]

-- what all literals of a clause pass, one of them does
passed_by : (test : ℤ → Bool) (y : ℤ) (clause : List ℤ) → list_all test clause ≡ true → list_any (int_eq y) clause ≡ true → test y ≡ true
passed_by test y [] all any = absurd (let e : false ≡ true = any in cc)
passed_by test y (x ∷ xs) all any =
    let parts = and_parts (test x) (list_all test xs) all in
    elim (or_cases (int_eq y x) (list_any (int_eq y) xs) any) [
      | inl here ↦ ap test (same_int y x here) ∙ parts.0
      | inr there ↦ passed_by test y xs parts.1 there
    ]

-- the literals of a clause are those of its atoms
abbrev pub AreAmong : Type 0
AreAmong = (atoms : List Atom) (clause : List ℤ) → clause_from_atoms atoms ≡ Some clause → are_among atoms clause ≡ true

pub entry_clear : AreAmong → (graph : Graph) (live : Live) (marks : List Bool) (entry : Entry) (id : ℕ) (clause : List ℤ) → IsReduced graph
    → FitsEntry graph live entry → Names entry id → are_marked marks entry ≡ true
    → clause_at live id ≡ Some clause → IsClear graph marks clause
entry_clear law graph live marks (Conjunction u v w just) id clause reduced fits names marked is literal holds =
    let atoms = conjunction_atoms graph u v w in
    let justified : IsJustified live atoms (Clause id) = subst (IsJustified live atoms) names fits.1.justified in
    let rest = and_parts (is_marked marks u && is_marked marks v) (is_marked marks w) marked in
    let both = and_parts (is_marked marks u) (is_marked marks v) rest.0 in
    conjunction_clear graph marks reduced u v w literal both.0 both.1 rest.1
    (passed_by (λ x. list_any (is_literal x) atoms) literal clause (law atoms clause (sym justified.1 ∙ is)) holds)
entry_clear law graph live marks (Implication u v just) id clause reduced fits names marked is literal holds =
    let atoms = implication_atoms graph u v in
    let justified : IsJustified live atoms (Clause id) = subst (IsJustified live atoms) names fits.1.justified in
    let both = and_parts (is_marked marks u) (is_marked marks v) marked in
    implication_clear graph marks reduced u v literal both.0 both.1
    (passed_by (λ x. list_any (is_literal x) atoms) literal clause (law atoms clause (sym justified.1 ∙ is)) holds)
entry_clear law graph live marks (Disjunction u v w) id clause reduced fits names marked is literal holds = absurd (let e : Trivial
    ≡ Clause id = names in cc)
entry_clear law graph live marks (Quantification u level w) id clause reduced fits names marked is literal holds = absurd (let e : Trivial
    ≡ Clause id = names in cc)
