-- A node's variable and its literal are of none of the variables below them.
use Rattle.std.proofs.Common.{◌≡◌, ◌≢◌, ℕ, ◌<◌, ◌≤◌, true, false, ◌||◌, ℤ, List, [], ◌∷◌, Some, nat_abs, int_eq, length, refl, sym, ap, ◌∙◌}
use Rattle.std.proofs.Common.{subst, arith, inl, inr, ne_eqb}
use Rattle.std.specs.Prelude.{IsTrue, ◌==◌, slice_index_or}
use Rattle.std.specs.List.{list_any}
use Rattle.std.proofs.lemmas.Bool.{or_right, or_left}
use Rattle.std.proofs.lemmas.Bool.Decides.{Decides-int_eq}
use Rattle.node_table.specs.declared.node.Branch.{Branch}
use Rattle.node_table.specs.Diagram.{Graph, IsOrder, IsReduced, KeepsNodes, branch_at, levels, variable_at}
use Rattle.clause_terms.specs.ClauseDiagram.{LiesFrom}

-- each of these literals lies at this level or below
abbrev pub AllLieFrom : Graph → ℕ → List ℤ → Type 0
AllLieFrom graph level literals = (literal : ℤ) → IsTrue (list_any (int_eq literal) literals) → LiesFrom graph level literal

pub int_eq-own : (x : ℤ) → int_eq x x ≡ true
int_eq-own x = (Decides-int_eq x x).1 refl

-- a variable that none of the literals has
pub none_alike : (x : ℤ) (literals : List ℤ) → ((y : ℤ) → IsTrue (list_any (int_eq y) literals) → nat_abs x ≢ nat_abs y)
    → list_any (λ y. nat_abs x == nat_abs y) literals ≡ false
none_alike x [] other = refl
none_alike x (y ∷ literals) other =
    (λ i. ne_eqb (nat_abs x) (nat_abs y) (other y (or_left (int_eq y y) (list_any (int_eq y) literals) (int_eq-own y))) i
    || none_alike x literals (λ z among. other z (or_right (int_eq z y) (list_any (int_eq z) literals) among)) i)

-- what lies below a level is neither the variable of a node of the level nor that of the level itself
pub node_apart : (graph : Graph) → IsReduced graph → IsOrder graph.order → (key : ℕ) (b : Branch) → branch_at graph key ≡ Some b
    → (level : ℕ) → b.level < level
    → (literal : ℤ) → LiesFrom graph level literal → b.variable ≢ nat_abs literal
node_apart graph reduced ordered key b at level above literal lies same = elim lies [
  | inl place ↦
      let range = ordered.within place.0 place.2 in
      let own = reduced.above key b at in
      omega (arith, same, place.3, range.1, own)
  | inr node ↦
      let one : b.variable ≡ node.1.variable = same ∙ sym node.4 in
      let key_is : key ≡ node.0 = reduced.apart key node.0 b node.1 at node.2 one in
      let here : Some b ≡ Some node.1 = sym at ∙ (ap (branch_at graph) key_is ∙ node.2) in
      let branch_is : b ≡ node.1 = cc in
      let level_is : b.level ≡ node.1.level = ap (λ x. x.level) branch_is in
      omega (arith, level_is, node.3, above)
]

pub literal_apart : (graph : Graph) → IsReduced graph → IsOrder graph.order → (place level : ℕ) → place < levels graph → place < level
    → (literal : ℤ) → LiesFrom graph level literal → variable_at graph place ≢ nat_abs literal
literal_apart graph reduced ordered place level small above literal lies same = elim lies [
  | inl other ↦
      let at : place ≡ other.0 = ordered.apart place other.0 small other.2 (same ∙ sym other.3) in
      omega (arith, at, other.1, above)
  | inr node ↦
      let range = ordered.within place small in
      let own = reduced.above node.0 node.1 node.2 in
      omega (arith, same, node.4, range.1, own)
]

-- it still lies there in a graph that grew, and from an earlier level on
pub lies_kept : (old new : Graph) → KeepsNodes old new → (level lower : ℕ) → level ≤ lower → (literal : ℤ) → LiesFrom old lower literal
    → LiesFrom new level literal
lies_kept old new keeps level lower less literal lies = elim lies [
  | inl place ↦ inl (
    place.0,
    omega (arith, less, place.1),
    subst (λ (order : List ℕ). place.0 < length order) (sym keeps.order) place.2,
    subst (λ (order : List ℕ). slice_index_or order place.0 0 ≡ nat_abs literal) (sym keeps.order) place.3,
  )
  | inr node ↦ inr (node.0, node.1, keeps.nodes node.0 node.1 node.2, omega (arith, less, node.3), node.4)
]
