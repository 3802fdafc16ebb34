-- The sum of a node follows from its clauses down to both children.
use Rattle.std.proofs.Common.{◌≡◌, ◌∙◌, ◌&&◌, ℕ, zero, suc, Bool, true, false, ℤ, pos, neg_ℤ, nat_abs, List, [], ◌∷◌, Option, None, Some}
use Rattle.std.proofs.Common.{int_eq, refl, sym, ap, subst, arith, inl, inr}
use Rattle.std.specs.Prelude.{⊤}
use Rattle.std.specs.List.{list_all, list_any}
use Rattle.std.specs.Option.{option_map}
use Rattle.std.proofs.lemmas.Bool.{and_parts, cases_Bool, or_cases, or_left, or_right}
use Rattle.std.proofs.lemmas.Bool.Decides.{Decides-int_eq}
use Rattle.cnf_base.specs.Order.{IsOrder}
use Rattle.lrat_rules.specs.Chain.{FalseSet, literals_of, with_literal}
use Rattle.lrat_rules.specs.State.{Live}
use Rattle.lrat_rules.specs.Strict.{is_strict}
use Rattle.hint_chain.specs.declared.atom.Atom.{Atom}
use Rattle.hint_chain.specs.declared.atom.Atom.TheVariants.{Always, Never, Of}
use Rattle.hint_chain.specs.Atoms.{clause_from_atoms, is_false}
use Rattle.node_table.specs.declared.node.Node.{Node}
use Rattle.node_table.specs.declared.node.Node.TheVariants.{False, True, Inner}
use Rattle.node_table.specs.declared.node.Branch.{Branch}
use Rattle.node_table.specs.Defined.{IsDefined, atom_in, atom_of, clause_named, defs_of}
use Rattle.node_table.specs.Diagram.{Graph, IsReduced, branch_at, is_node, variable_at}
use Rattle.node_table.specs.Tied.{IsOwned}
use Rattle.cube_models.specs.Denied.{sum_atoms}
use Rattle.cube_models.specs.Sum.{IsSum}
use Rattle.cube_models.proofs.Refuted.{conflicts, false_clause, forces_second, neg_twice}
use Rattle.cube_models.proofs.Searches.{found_branch}

size_of_negation : (n : ℕ) → nat_abs (neg_ℤ (pos n)) ≡ n
size_of_negation zero = refl
size_of_negation (suc n) = refl

two_literals : (y z : ℤ) (atoms : List Atom) (literals : List ℤ) → clause_from_atoms atoms ≡ Some literals
    → clause_from_atoms (Of y ∷ Of z ∷ atoms) ≡ Some (y ∷ z ∷ literals)
two_literals y z atoms literals is = rw is refl

-- A clause over atoms that begins with a literal, and the rest of it.
pub record Begins (x : ℤ) (atoms : List Atom) (clause : List ℤ) : Type 0 where
  pub rest : List ℤ
  pub is : clause ≡ x ∷ rest
  pub behind : clause_from_atoms atoms ≡ Some rest

begins : (x : ℤ) (atoms : List Atom) (clause : List ℤ) → clause_from_atoms (Of x ∷ atoms) ≡ Some clause → Begins x atoms clause
begins x atoms clause is = by (clause_from_atoms atoms) refl is where
  by : (o : Option (List ℤ)) → clause_from_atoms atoms ≡ o → option_map (λ literals. x ∷ literals) o ≡ Some clause → Begins x atoms clause
  by None own whole = absurd (let e : ◌≡◌ {A = Option (List ℤ)} None (Some clause) = whole in cc)
  by (Some rest) own whole =
      let same : ◌≡◌ {A = Option (List ℤ)} (Some (x ∷ rest)) (Some clause) = whole in
      record { rest = rest; is = (let e : clause ≡ x ∷ rest = cc in e); behind = own }

-- the atoms of a clause are false where its literals are
atoms_false : (n : FalseSet) (atoms : List Atom) (clause : List ℤ) → clause_from_atoms atoms ≡ Some clause
    → ((x : ℤ) → literals_of clause x ≡ true → n x ≡ true) → list_all (is_false n) atoms ≡ true
atoms_false n [] clause is all = refl
atoms_false n (Always ∷ atoms) clause is all = absurd (let e : ◌≡◌ {A = Option (List ℤ)} None (Some clause) = is in cc)
atoms_false n (Never ∷ atoms) clause is all = atoms_false n atoms clause is all
atoms_false n (Of x ∷ atoms) clause is all =
    let own = begins x atoms clause is in
    let first : n x ≡ true = all x (ap (λ (c : List ℤ). literals_of c x) own.is
    ∙ or_left (int_eq x x) (list_any (int_eq x) own.rest) ((Decides-int_eq x x).1 refl)) in
    let rest = atoms_false n atoms own.rest own.behind (λ y there. all y (ap (λ (c : List ℤ). literals_of c y) own.is
    ∙ or_right (int_eq y x) (list_any (int_eq y) own.rest) there)) in
    λ i. first i && rest i

-- an atom's literal is that of a node
abbrev IsOwnedAtom : Graph → Atom → Type 0
IsOwnedAtom graph Always = ⊤
IsOwnedAtom graph Never = ⊤
IsOwnedAtom graph (Of x) = IsOwned graph (nat_abs x)

abbrev AreOwned : Graph → List Atom → Type 0
AreOwned graph [] = ⊤
AreOwned graph (a ∷ atoms) = IsOwnedAtom graph a × AreOwned graph atoms

owned_atom : (graph : Graph) (node : Node) → is_node graph node ≡ true → IsOwnedAtom graph (atom_of graph node)
owned_atom graph False stands = tt
owned_atom graph True stands = tt
owned_atom graph (Inner key) stands =
    let found = found_branch graph key.index stands in
    subst (λ (o : Option Branch). IsOwnedAtom graph (atom_in o)) (sym found.1)
    (record { key = key.index; branch = found.0; stands = found.1; own = refl })

owned_literal : (graph : Graph) (atoms : List Atom) (clause : List ℤ) → clause_from_atoms atoms ≡ Some clause → AreOwned graph atoms
    → (x : ℤ) → literals_of clause x ≡ true → IsOwned graph (nat_abs x)
owned_literal graph [] clause is owned x there =
    let none : ◌≡◌ {A = Option (List ℤ)} (Some []) (Some clause) = is in
    let empty : clause ≡ [] = cc in
    absurd (let e : false ≡ true = ap (λ (c : List ℤ). literals_of c x) (sym empty) ∙ there in cc)
owned_literal graph (Always ∷ atoms) clause is owned x there = absurd (let e : ◌≡◌ {A = Option (List ℤ)} None (Some clause) = is in cc)
owned_literal graph (Never ∷ atoms) clause is owned x there = owned_literal graph atoms clause is owned.1 x there
owned_literal graph (Of y ∷ atoms) clause is owned x there =
    let own = begins y atoms clause is in
    elim (or_cases (int_eq x y) (list_any (int_eq x) own.rest) (ap (λ (c : List ℤ). literals_of c x) (sym own.is) ∙ there)) [
      | inl same ↦ subst (λ (z : ℤ). IsOwned graph (nat_abs z)) (sym ((Decides-int_eq x y).0 same)) owned.0
      | inr later ↦ owned_literal graph atoms own.rest own.behind owned.1 x later
    ]

more_false : (n : FalseSet) (w : ℤ) (a : Atom) → is_false n a ≡ true → is_false (with_literal w n) a ≡ true
more_false n w Always is = is
more_false n w Never is = is
more_false n w (Of x) is = or_right (int_eq x w) (n x) is

module _ (graph : Graph) (reduced : IsReduced graph) (ordered : IsOrder graph.order) (live : Live) (key : ℕ) (b : Branch)
    (at : branch_at graph key ≡ Some b) (defined : IsDefined live graph b) (clause : List ℤ)
    (is : clause_from_atoms (sum_atoms graph b) ≡ Some clause) (high low : ℕ) (is_high : (defs_of b).hd ≡ Some high)
    (is_low : (defs_of b).ld ≡ Some low) where
  abbrev u : ℤ
  u = neg_ℤ (pos b.variable)

  abbrev x : ℕ
  x = variable_at graph b.level

  abbrev n : FalseSet
  n = literals_of clause

  all_false : list_all (is_false n) (sum_atoms graph b) ≡ true
  all_false = atoms_false n (sum_atoms graph b) clause is (λ y there. there)

  owned : AreOwned graph (sum_atoms graph b)
  owned = (
    record { key = key; branch = b; stands = at; own = sym (size_of_negation b.variable) },
    (owned_atom graph b.high (reduced.high key b at).stands, (owned_atom graph b.low (reduced.low key b at).stands, tt)),
  )

  -- no literal of the formula's variables is in it
  open_yet : (y : ℤ) → nat_abs y ≡ x → n y ≡ false
  open_yet y size = elim (cases_Bool (n y)) [
    | inl there ↦
        let node = owned_literal graph (sum_atoms graph b) clause is owned y there in
        let above = reduced.above node.key node.branch node.stands in
        let within = (ordered.within b.level (reduced.level key b at)).1 in
        absurd (omega (arith, above, within, size, node.own))
    | inr none ↦ none
  ]

  first : n u ≡ true
  first = (and_parts (n u) _ all_false).0

  both : (is_false n (atom_of graph b.high) && (is_false n (atom_of graph b.low) && true)) ≡ true
  both = (and_parts (n u) _ all_false).1

  high_false : is_false n (atom_of graph b.high) ≡ true
  high_false = (and_parts (is_false n (atom_of graph b.high)) _ both).0

  low_false : is_false n (atom_of graph b.low) ≡ true
  low_false = (and_parts (is_false n (atom_of graph b.low)) true (and_parts (is_false n (atom_of graph b.high)) _ both).1).0

  one : {p : Bool} → p ≡ true → (p && true) ≡ true
  one p_is = λ i. p_is i && true

  -- the first hint forces the variable's negation
  forced : is_strict live n (high ∷ low ∷ []) ≡ is_strict live (with_literal (pos x) n) (low ∷ [])
  forced =
      let own = false_clause n (atom_of graph b.high ∷ []) (one high_false) in
      forces_second live n high u (neg_ℤ (pos x)) (pos x) own.literals (low ∷ [])
      (ap (clause_named live) (sym is_high) ∙ defined.hd ∙ two_literals u (neg_ℤ (pos x)) (atom_of graph b.high ∷ []) own.literals own.is)
      own.false_all first (open_yet (neg_ℤ (pos x)) (size_of_negation x)) (neg_twice (pos x)) (open_yet (pos x) refl)

  -- and the second one conflicts
  closed : is_strict live (with_literal (pos x) n) (low ∷ []) ≡ true
  closed =
      let m = with_literal (pos x) n in
      let own = false_clause m (atom_of graph b.low ∷ []) (one (more_false n (pos x) (atom_of graph b.low) low_false)) in
      let on_u : m u ≡ true = or_right (int_eq u (pos x)) (n u) first in
      let on_x : m (pos x) ≡ true = or_left (int_eq (pos x) (pos x)) (n (pos x)) ((Decides-int_eq (pos x) (pos x)).1 refl) in
      conflicts live m low (u ∷ pos x ∷ own.literals)
      (ap (clause_named live) (sym is_low) ∙ defined.ld ∙ two_literals u (pos x) (atom_of graph b.low ∷ []) own.literals own.is)
      (λ i. on_u i && (on_x i && own.false_all i))

  pub sum_is : IsSum graph live key clause high low
  sum_is = record {
    branch = b;
    stands = at;
    is = is;
    strict = record { strict = forced ∙ closed };
    over_nodes = λ y there above. owned_literal graph (sum_atoms graph b) clause is owned y there;
    some = λ empty.
        let own = begins u (atom_of graph b.high ∷ atom_of graph b.low ∷ []) clause is in
        let e : u ∷ own.rest ≡ [] = sym own.is ∙ empty in cc;
  }
