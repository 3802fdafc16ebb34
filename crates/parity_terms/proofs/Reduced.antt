-- The rows behind one equation more.
use Rattle.std.proofs.Common.{◌≡◌, ◌⊎◌, ◌∙◌, ◌<◌, ◌++◌, ◌||◌, ℕ, zero, suc, Bool, true, false, List, [], ◌∷◌, All, Contains}
use Rattle.std.proofs.Common.{length, map}
use Rattle.std.proofs.Common.{refl, sym, ap, subst, arith, inl, inr}
use Rattle.std.specs.Prelude.{◌==◌, IsTrue, slice_index_or}
use Rattle.std.specs.List.{list_any}
use Rattle.std.proofs.lemmas.Bool.{or_cases}
use Rattle.std.proofs.lemmas.Bool.Decides.{Decides-eqb}
use Rattle.std.proofs.lemmas.List.Elements.{All-push}
use Rattle.cnf_base.specs.Order.{IsOrder}
use Rattle.node_table.specs.declared.node.Node.TheVariants.{False}
use Rattle.node_table.specs.Diagram.{is_node}
use Rattle.node_table.specs.Laws.{Canonical, Cofactors}
use Rattle.node_table.specs.Value.{Levels, value_of}
use Rattle.parity_equations.specs.Conflict.{AreRows, AreSpanned, Vector, vector}
use Rattle.parity_nodes.specs.Sums.{sum_is}
use Rattle.clause_terms.specs.Term.{by_variable}
use Rattle.bdd_terms.specs.declared.held.HeldTerm.{HeldTerm}
use Rattle.bdd_terms.specs.declared.runner.Runner.{Runner}
use Rattle.bdd_terms.specs.Runner.{IsRunner}
use Rattle.parity_terms.specs.declared.row.Row.{Row}
use Rattle.parity_terms.specs.Order.{AreInOrder, ArePlaces, HaveSameFirst, place_of}
use Rattle.parity_terms.specs.Owned.{Owns}
use Rattle.parity_terms.specs.Rows.{AreReduced, IsRow, NoneHasFirst, held_of, place_in, vector_of}
use Rattle.parity_terms.specs.Steps.{Keeps}
use Rattle.parity_terms.proofs.ByAssignment.{by_assignment}
use Rattle.parity_terms.proofs.InOrder.{begins_before, begins_nowhere, begins_only, begins_true}
use Rattle.parity_terms.proofs.Owned.{owned_good}
use Rattle.parity_terms.proofs.Placing.{places_apart}
use Rattle.parity_terms.proofs.Spanned.{LeavesOf, are_spanned_more, are_spanned_with, spanned_last, spanned_whole}

pub map_with : {A B : Type 0} (f : A → B) (front : List A) (last : A) → map f (front ++ last ∷ []) ≡ map f front ++ f last ∷ []
map_with f [] last = refl
map_with f (first ∷ more) last = ap (λ (l : List _). f first ∷ l) (map_with f more last)

-- the term of a row is there
held_there : (rows : List Row) (k : ℕ) (d : Row) → k < length rows → Contains (map held_of rows) (held_of (slice_index_or rows k d))
held_there [] k d small = absurd (omega (arith, small))
held_there (first ∷ more) zero d small = (0, omega arith, refl)
held_there (first ∷ more) (suc k) d small =
    let rest = held_there more k d (omega (arith, small)) in (suc rest.0, omega (arith, rest.1), rest.2)

-- rows stay rows, where their terms are owned yet
pub rows_kept : {S : Type 0} (old new : Runner S) (places : List ℕ) (rows : List Row) → All (IsRow old places) rows
    → Keeps (map held_of rows) old new → (terms : List HeldTerm) → Owns terms new.terms.out.items
    → ((held : HeldTerm) → Contains (map held_of rows) held → Contains terms held) → All (IsRow new places) rows
rows_kept old new places rows each keeps terms owns owned k d small =
    let there = held_there rows k d small in
    let row = each k d small in
    record {
      in_order = row.in_order;
      good = owned_good (held_of (slice_index_or rows k d)) terms new.terms.out.items owns
          (owned (held_of (slice_index_or rows k d)) there);
      not_false = row.not_false;
      value = λ a. keeps.values (held_of (slice_index_or rows k d)) there a ∙ row.value a;
    }

-- with the rows as they are kept
pub reduced_kept : {S : Type 0} (old new : Runner S) (places : List ℕ) (rows : List Row) (equations : List (List ℕ × Bool))
    → AreReduced old places rows equations → All (IsRow new places) rows
    → new.terms.table.graph.order ≡ old.terms.table.graph.order → AreReduced new places rows equations
reduced_kept old new places rows equations reduced each same = record {
  each = each;
  firsts = reduced.firsts;
  echelon = subst (λ (order : List ℕ). AreRows (place_in order) (map vector_of rows) reduced.firsts) (sym same) reduced.echelon;
  spanned = reduced.spanned;
}

-- nothing is left of an equation: 0 = 0, since its term isn't False
pub nothing_left : {S : Type 0} → Canonical → Cofactors → (runner : Runner S) → IsRunner runner → (places : List ℕ) (current : Row)
    → IsRow runner places current → current.variables.items ≡ []
    → IsTrue (is_node runner.terms.table.graph current.term.held.node) → (place : ℕ) → vector_of current place ≡ false
nothing_left canonical cofactors runner is places current row none stands zero = go current.bit refl
  where
    value : (a : Levels) → current.bit ≡ true → value_of runner.terms.table.graph a current.term.held.node ≡ false
    value a bit =
        sym (by_assignment cofactors runner.terms.table.graph is.over.sound.tied.reduced is.over.sound.tied.ordered a
        current.term.held.node stands)
        ∙ row.value (by_variable runner.terms.table.graph.order a)
        ∙ (λ i. sum_is (bit i) (none i) (by_variable runner.terms.table.graph.order a))

    go : (bit : Bool) → current.bit ≡ bit → current.bit ≡ false
    go false at = at
    go true at = absurd (row.not_false
        (canonical runner.terms.table.graph is.over.sound.tied.reduced current.term.held.node False stands refl (λ a. value a at)))
nothing_left canonical cofactors runner is places current row none stands (suc n) =
    ap (λ (l : List ℕ). list_any (λ v. v == suc n) l) none

-- one equation more, which is a sum of rows
pub reduced_nothing : {S : Type 0} (runner : Runner S) (places : List ℕ) (rows : List Row) (equations : List (List ℕ × Bool))
    → AreReduced runner places rows equations → (equation : List ℕ × Bool) (current : Row)
    → LeavesOf (map vector_of rows) (vector equation) (vector_of current) → ((place : ℕ) → vector_of current place ≡ false)
    → AreReduced runner places rows (equations ++ equation ∷ [])
reduced_nothing runner places rows equations reduced equation current leaves nothing = record {
  each = reduced.each;
  firsts = reduced.firsts;
  echelon = reduced.echelon;
  spanned = subst (AreSpanned (map vector_of rows)) (sym (map_with vector equations equation))
      (are_spanned_with (map vector_of rows) (map vector equations) (vector equation) reduced.spanned
      (spanned_whole (map vector_of rows) (vector equation) (vector_of current) leaves nothing));
}

-- no row begins at a place
none_begins : (order : List ℕ) (rows : List Row) (levels : List ℕ) (d : Row) (level : ℕ)
    → AreRows (place_in order) (map vector_of rows) levels
    → ((k : ℕ) → k < length rows → vector_of (slice_index_or rows k d) (place_in order level) ≡ true
    → ((l : ℕ) → l < level → vector_of (slice_index_or rows k d) (place_in order l) ≡ false) → ⊥)
    → list_any (λ other. other == level) levels ≡ true → ⊥
none_begins order [] [] d level are none some = let e : false ≡ true = some in cc
none_begins order [] (first ∷ levels) d level are none some = absurd are
none_begins order (row ∷ rows) [] d level are none some = absurd are
none_begins order (row ∷ rows) (first ∷ levels) d level are none some =
    elim (or_cases (first == level) (list_any (λ other. other == level) levels) some) [
      | inl same ↦
          let is = (Decides-eqb first level).0 same in
          none 0 (omega arith) (subst (λ l. vector_of row (place_in order l) ≡ true) is are.0)
          (λ l less. are.1.0 l (omega (arith, less, is)))
      | inr more ↦ none_begins order rows levels d level are.1.1.1 (λ k small. none (suc k) (omega (arith, small))) more
    ]

-- one row more, at a place of its own
rows_with : (place_at : ℕ → ℕ) (rows : List Vector) (levels : List ℕ) (row : Vector) (level : ℕ) → AreRows place_at rows levels
    → row (place_at level) ≡ true → ((l : ℕ) → l < level → row (place_at l) ≡ false)
    → (list_any (λ other. other == level) levels ≡ true → ⊥) → AreRows place_at (rows ++ row ∷ []) (levels ++ level ∷ [])
rows_with place_at [] [] row level are is before none = (is, (before, ((λ some. let e : false ≡ true = some in cc), tt)))
rows_with place_at [] (first ∷ levels) row level are is before none = absurd are
rows_with place_at (one ∷ rows) [] row level are is before none = absurd are
rows_with place_at (one ∷ rows) (first ∷ levels) row level are is before none = (
  are.0,
  (
    are.1.0,
    (
      (λ some. apart first levels are.1.1.0 none some),
      rows_with place_at rows levels row level are.1.1.1 is before (λ some. none (or_true (first == level) some)),
    ),
  ),
)
  where
    or_true : (b : Bool) {c : Bool} → c ≡ true → (b || c) ≡ true
    or_true true is = refl
    or_true false is = is

    last_or_before : (first : ℕ) (levels : List ℕ) → list_any (λ other. other == first) (levels ++ level ∷ []) ≡ true
        → (list_any (λ other. other == first) levels ≡ true) ⊎ (level ≡ first)
    last_or_before first [] some = elim (or_cases (level == first) false some) [
      | inl same ↦ inr ((Decides-eqb level first).0 same)
      | inr more ↦ absurd (let e : false ≡ true = more in cc)
    ]
    last_or_before first (x ∷ levels) some =
        elim (or_cases (x == first) (list_any (λ other. other == first) (levels ++ level ∷ [])) some) [
          | inl same ↦ inl (ap (λ b. b || list_any (λ other. other == first) levels) same)
          | inr more ↦ elim (last_or_before first levels more) [
            | inl there ↦ inl (or_true (x == first) there)
            | inr last ↦ inr last
          ]
        ]

    apart : (first : ℕ) (levels : List ℕ) → (list_any (λ other. other == first) levels ≡ true → ⊥)
        → (list_any (λ other. other == level) (first ∷ levels) ≡ true → ⊥)
        → list_any (λ other. other == first) (levels ++ level ∷ []) ≡ true → ⊥
    apart first levels own none some = elim (last_or_before first levels some) [
      | inl there ↦ own there
      | inr last ↦ none (ap (λ b. b || list_any (λ other. other == level) levels) ((Decides-eqb first level).1 (sym last)))
    ]

-- what is left is a row
module _ {S : Type 0} (runner : Runner S) (places : List ℕ) (rows : List Row) (equations : List (List ℕ × Bool))
    (reduced : AreReduced runner places rows equations) (equation : List ℕ × Bool) (current : Row)
    (leaves : LeavesOf (map vector_of rows) (vector equation) (vector_of current)) (ordered : IsOrder runner.terms.table.graph.order)
    (inverse : ArePlaces runner.terms.table.graph.order places) (row : IsRow runner places current) (none : NoneHasFirst rows current)
    (variable : ℕ) (more : List ℕ) (shape : current.variables.items ≡ variable ∷ more) where
  abbrev order : List ℕ
  order = runner.terms.table.graph.order

  in_order : AreInOrder places 0 (variable ∷ more)
  in_order = subst (AreInOrder places 0) shape row.in_order

  same_first : (variables : List ℕ) (other : ℕ) (others : List ℕ) → variables ≡ other ∷ others → other ≡ variable
      → HaveSameFirst variables current.variables.items
  same_first variables other others at same =
      subst (λ (l : List ℕ). HaveSameFirst l current.variables.items) (sym at)
      (subst (λ (l : List ℕ). HaveSameFirst (other ∷ others) l) (sym shape) same)

  abbrev row_at : ℕ → Row
  row_at k = slice_index_or rows k current

  begins_later : (k : ℕ) → k < length rows → vector_of (row_at k) (place_in order (place_of places variable)) ≡ true
      → ((l : ℕ) → l < place_of places variable → vector_of (row_at k) (place_in order l) ≡ false) → ⊥
  begins_later k small is before = go (row_at k).variables.items refl
    where
      go : (variables : List ℕ) → (row_at k).variables.items ≡ variables → ⊥
      go [] at = begins_nowhere order places ordered inverse (row_at k).bit (place_of places variable)
          (ap (λ (l : List ℕ). vector (l, (row_at k).bit) (place_in order (place_of places variable))) (sym at) ∙ is)
      go (other ∷ others) at =
          let own : AreInOrder places 0 (other ∷ others) = subst (AreInOrder places 0) at (reduced.each k current small).in_order in
          let level : place_of places variable ≡ place_of places other =
          begins_only order places ordered inverse (row_at k).bit other others own (place_of places variable)
          (ap (λ (l : List ℕ). vector (l, (row_at k).bit) (place_in order (place_of places variable))) (sym at) ∙ is)
          (λ l less. ap (λ (v : List ℕ). vector (v, (row_at k).bit) (place_in order l)) (sym at) ∙ before l less) in
          none k small (same_first (row_at k).variables.items other others at
          (places_apart order places ordered inverse other variable own.0 own.1.0 in_order.0 in_order.1.0 (sym level)))

  own_true : vector_of current (place_in order (place_of places variable)) ≡ true
  own_true =
      ap (λ (l : List ℕ). vector (l, current.bit) (place_in order (place_of places variable))) shape
      ∙ begins_true order places ordered inverse current.bit variable more in_order

  own_before : (l : ℕ) → l < place_of places variable → vector_of current (place_in order l) ≡ false
  own_before l less =
      ap (λ (v : List ℕ). vector (v, current.bit) (place_in order l)) shape
      ∙ begins_before order places ordered inverse current.bit variable more in_order l less

  pub reduced_row : AreReduced runner places (rows ++ current ∷ []) (equations ++ equation ∷ [])
  reduced_row = record {
    each = All-push (IsRow runner places) rows current reduced.each row;
    firsts = reduced.firsts ++ place_of places variable ∷ [];
    echelon = subst (λ (vectors : List Vector). AreRows (place_in order) vectors (reduced.firsts ++ place_of places variable ∷ []))
        (sym (map_with vector_of rows current))
        (rows_with (place_in order) (map vector_of rows) reduced.firsts (vector_of current) (place_of places variable) reduced.echelon
        own_true own_before
        (none_begins order rows reduced.firsts current (place_of places variable) reduced.echelon begins_later));
    spanned = subst (λ (vectors : List Vector). AreSpanned vectors (map vector (equations ++ equation ∷ [])))
        (sym (map_with vector_of rows current))
        (subst (AreSpanned (map vector_of rows ++ vector_of current ∷ [])) (sym (map_with vector equations equation))
        (are_spanned_with (map vector_of rows ++ vector_of current ∷ []) (map vector equations) (vector equation)
        (are_spanned_more (map vector_of rows) (vector_of current) (map vector equations) reduced.spanned)
        (spanned_last (map vector_of rows) (vector equation) (vector_of current) leaves)));
  }
