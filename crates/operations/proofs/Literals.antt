-- The literals of clauses over nodes: of which node each is, and one of the formula's before them.
use Rattle.std.proofs.Common.{◌≡◌, ◌≢◌, ◌<◌, ◌≤◌, ◌||◌, ◌&&◌, ℕ, zero, suc, ℤ, pos, neg_ℤ, nat_abs, int_eq, Bool, true, false, not, List}
use Rattle.std.proofs.Common.{[], ◌∷◌, Option, None, Some, refl, sym, ap, ◌∙◌, arith, inl, inr, ne_eqb}
use Rattle.std.specs.Prelude.{◌==◌}
use Rattle.std.specs.List.{list_any}
use Rattle.std.specs.Option.{option_map}
use Rattle.std.proofs.lemmas.Bool.{and_from, or_cases}
use Rattle.std.proofs.lemmas.Bool.Decides.{Decides-int_eq}
use Rattle.lrat_rules.specs.Soundness.{is_nonzero}
use Rattle.hint_chain.specs.declared.atom.Atom.{Atom}
use Rattle.hint_chain.specs.declared.atom.Atom.TheVariants.{Always, Never, Of}
use Rattle.hint_chain.specs.Atoms.{clause_from_atoms, neg_atom, is_literal}
use Rattle.hint_chain.specs.Closing.{are_apart}
use Rattle.node_table.specs.declared.node.Node.{Node}
use Rattle.node_table.specs.declared.node.Node.TheVariants.{False, True, Inner}
use Rattle.node_table.specs.declared.node.NodeKey.{NodeKey}
use Rattle.node_table.specs.declared.node.Branch.{Branch}
use Rattle.node_table.specs.Diagram.{Graph, IsReduced, branch_at, branch_of, levels, variable_at}
use Rattle.node_table.specs.Defined.{atom_of, atom_in}
use Rattle.node_table.specs.Tied.{IsOwned}
use Rattle.operations.specs.Operands.{IsInner}
use Rattle.operations.specs.Additions.{AreLiterals, Literals}

-- whole numbers and their signs
pub abs_neg : (n : ℕ) → nat_abs (neg_ℤ (pos n)) ≡ n
abs_neg zero = refl
abs_neg (suc n) = refl

pub same_int : (x y : ℤ) → int_eq x y ≡ true → x ≡ y
same_int x y is = (Decides-int_eq x y).0 is

-- a list of literals that are of different variables
apart_first : (x : ℤ) (xs : List ℤ) → 0 < nat_abs x → list_any (λ y. nat_abs x == nat_abs y) xs ≡ false → are_apart xs ≡ true
    → are_apart (x ∷ xs) ≡ true
apart_first x xs positive none rest =
    let nonzero : is_nonzero x ≡ true = grind (arith, positive) in
    and_from (is_nonzero x && not (list_any (λ y. nat_abs x == nat_abs y) xs)) (are_apart xs)
    (and_from (is_nonzero x) (not (list_any (λ y. nat_abs x == nat_abs y) xs)) nonzero (ap not none)) rest

none_alike : (n : ℕ) (xs : List ℤ) → ((y : ℤ) → list_any (int_eq y) xs ≡ true → n ≡ nat_abs y → ⊥) → list_any (λ y. n == nat_abs y) xs
    ≡ false
none_alike n [] h = refl
none_alike n (x ∷ xs) h =
    let here : (n == nat_abs x) ≡ false = ne_eqb n (nat_abs x) (h x (or_first (int_eq x x) (list_any (int_eq x) xs) (int_itself x))) in
    let rest : list_any (λ y. n == nat_abs y) xs ≡ false = none_alike n xs
    (λ y is. h y (or_second (int_eq y x) (list_any (int_eq y) xs) is)) in
    ap (λ b. b || list_any (λ y. n == nat_abs y) xs) here ∙ rest
  where
    or_first : (a b : Bool) → a ≡ true → (a || b) ≡ true
    or_first true b is = refl
    or_first false b is = cc

    or_second : (a b : Bool) → b ≡ true → (a || b) ≡ true
    or_second true b is = refl
    or_second false b is = is

    int_itself : (x : ℤ) → int_eq x x ≡ true
    int_itself x = (Decides-int_eq x x).1 refl

-- an inner node of the graph, by its key
pub record IsAt (graph : Graph) (node : Node) : Type 0 where
  pub key : NodeKey
  pub branch : Branch
  pub named : node ≡ Inner key
  pub at : branch_at graph key.index ≡ Some branch

IsAt-from : (graph : Graph) (node : Node) (branch : Branch) → branch_of graph node ≡ Some branch → IsAt graph node
IsAt-from graph False branch is = cc
IsAt-from graph True branch is = cc
IsAt-from graph (Inner key) branch is = record { key = key; branch = branch; named = refl; at = is }

-- a node that is literal l is an inner one of that variable
pub literal_at : (graph : Graph) (node : Node) (l : ℤ) → atom_of graph node ≡ Of l → (at : IsAt graph node) × (l ≡ pos at.branch.variable)
literal_at graph False l is = cc
literal_at graph True l is = cc
literal_at graph (Inner key) l is = literal_in graph key l (branch_at graph key.index) refl is
  where
    literal_in : (graph : Graph) (key : NodeKey) (l : ℤ) (o : Option Branch) → branch_at graph key.index ≡ o → atom_in o ≡ Of l
        → (at : IsAt graph (Inner key)) × (l ≡ pos at.branch.variable)
    literal_in graph key l None at is = cc
    literal_in graph key l (Some branch) at is = (record { key = key; branch = branch; named = refl; at = at }, cc)

-- each literal is that of a node
owned_atom : (graph : Graph) (node : Node) (y : ℤ) → is_literal y (atom_of graph node) ≡ true → IsOwned graph (nat_abs y)
owned_atom graph node y is = owned_by graph node y (atom_of graph node) refl is
  where
    owned_by : (graph : Graph) (node : Node) (y : ℤ) (atom : Atom) → atom_of graph node ≡ atom → is_literal y atom ≡ true
        → IsOwned graph (nat_abs y)
    owned_by graph node y Always at is = cc
    owned_by graph node y Never at is = cc
    owned_by graph node y (Of l) at is =
        let own = literal_at graph node l at in
        record { key = own.0.key.index; branch = own.0.branch; stands = own.0.at; own = sym (ap nat_abs (same_int y l is ∙ own.1)) }

owned_negated : (graph : Graph) (node : Node) (y : ℤ) → is_literal y (neg_atom (atom_of graph node)) ≡ true → IsOwned graph (nat_abs y)
owned_negated graph node y is = owned_by graph node y (atom_of graph node) refl is
  where
    owned_by : (graph : Graph) (node : Node) (y : ℤ) (atom : Atom) → atom_of graph node ≡ atom → is_literal y (neg_atom atom) ≡ true
        → IsOwned graph (nat_abs y)
    owned_by graph node y Always at is = cc
    owned_by graph node y Never at is = cc
    owned_by graph node y (Of l) at is =
        let own = literal_at graph node l at in
        record {
          key = own.0.key.index;
          branch = own.0.branch;
          stands = own.0.at;
          own = sym (ap nat_abs (same_int y (neg_ℤ l) is ∙ ap neg_ℤ own.1) ∙ abs_neg own.0.branch.variable);
        }

-- a variable of the formula before it
behind_apart : (graph : Graph) → IsReduced graph → (x : ℤ) (clause : List ℤ) → 0 < nat_abs x → nat_abs x ≤ levels graph
    → ((y : ℤ) → list_any (int_eq y) clause ≡ true → IsOwned graph (nat_abs y)) → are_apart clause ≡ true → are_apart (x ∷ clause) ≡ true
behind_apart graph reduced x clause positive small owned apart =
    apart_first x clause positive (none_alike (nat_abs x) clause (λ y is same.
    let own = owned y is in
    omega (arith, reduced.above own.key own.branch own.stands, own.own, same, small))) apart

behind_owned : (graph : Graph) (x : ℤ) (clause : List ℤ) → nat_abs x ≤ levels graph
    → ((y : ℤ) → list_any (int_eq y) clause ≡ true → IsOwned graph (nat_abs y))
    → (y : ℤ) → list_any (int_eq y) (x ∷ clause) ≡ true → levels graph < nat_abs y → IsOwned graph (nat_abs y)
behind_owned graph x clause small owned y is above =
    elim (or_cases (int_eq y x) (list_any (int_eq y) clause) is) [
      | inl here ↦ let same : nat_abs y ≡ nat_abs x = ap nat_abs (same_int y x here) in absurd (omega (arith, same, small, above))
      | inr there ↦ owned y there
    ]

atom_at : (graph : Graph) (node : Node) (at : IsAt graph node) → atom_of graph node ≡ Of (pos at.branch.variable)
atom_at graph node at = ap (atom_of graph) at.named ∙ ap atom_in at.at

same_key : (graph : Graph) → IsReduced graph → (one two : Node) (first : IsAt graph one) (second : IsAt graph two) → first.branch.variable
    ≡ second.branch.variable → one ≡ two
same_key graph reduced one two first second same =
    let index : first.key.index
    ≡ second.key.index = reduced.apart first.key.index second.key.index first.branch second.branch first.at second.at same in
    first.named ∙ ap (λ i. Inner (record { index = i })) index ∙ sym second.named

differing : (graph : Graph) → IsReduced graph → (u v : Node) → IsInner graph u → IsInner graph v → u ≢ v → AreLiterals graph u v
differing graph reduced u v first second differ =
    let one = IsAt-from graph u first.branch first.is in
    let two = IsAt-from graph v second.branch second.is in record {
      first = one.branch.variable;
      second = two.branch.variable;
      first_is = atom_at graph u one;
      second_is = atom_at graph v two;
      first_above = omega (arith, reduced.above one.key.index one.branch one.at);
      second_above = omega (arith, reduced.above two.key.index two.branch two.at);
      differ = λ same. differ (same_key graph reduced u v one two same);
    }

-- a clause with the negation of an inner node's literal in front isn't empty
some_behind : (literal : ℤ) (rest : Option (List ℤ)) → ◌≡◌ {A = Option (List ℤ)} (option_map (λ literals. literal ∷ literals) rest)
    (Some []) → ⊥
some_behind literal None is = cc
some_behind literal (Some literals) is = cc

some_inner : (graph : Graph) (u : Node) (rest : List Atom) → IsInner graph u → clause_from_atoms (neg_atom (atom_of graph u) ∷ rest) ≢ Some []
some_inner graph u rest inner is =
    let at = IsAt-from graph u inner.branch inner.is in
    some_behind (neg_ℤ (pos at.branch.variable)) (clause_from_atoms rest)
    (sym (ap (λ (a : Atom). clause_from_atoms (neg_atom a ∷ rest)) (atom_at graph u at)) ∙ is)

pub literals : Literals
literals = record {
  own = owned_atom;
  negated = owned_negated;
  some = some_inner;
  differ = differing;
  behind = λ graph reduced ordered level small clause owned apart.
      let within = ordered.within level small in
      let size = abs_neg (variable_at graph level) in
      let x = neg_ℤ (pos (variable_at graph level)) in (
        behind_apart graph reduced x clause (omega (arith, size, within.0)) (omega (arith, size, within.1)) owned apart,
        behind_owned graph x clause (omega (arith, size, within.1)) owned,
      );
}
