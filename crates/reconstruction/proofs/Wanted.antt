-- The nodes that are to be copied: gathered by their keys, and then sorted by level.
use Rattle.std.proofs.Common.{◌≡◌, ◌+◌, ◌<◌, ◌≤◌, ℕ, Bool, true, false, not, ◌&&◌, List, [], ◌∷◌, ◌++◌, Option, None, Some, Result, Ok, Err, Contains}
use Rattle.std.proofs.Common.{is_some, length, refl, sym, ap, subst, arith, inl, inr}
use Rattle.std.specs.Prelude.{IsPermutation, OnOk}
use Rattle.std.specs.List.Sorted.{IsNonDecreasingBy}
use Rattle.std.proofs.lemmas.Bool.{and_parts, cases_eq}
use Rattle.std.proofs.lemmas.List.Elements.{Contains-append_left, Contains-push, Contains-push_cases}
use Rattle.std.proofs.lemmas.List.Sorted.{Contains-permutation, IsPermutation-sym}
use Rattle.node_table.specs.declared.node.Node.{Node}
use Rattle.node_table.specs.declared.node.Branch.{Branch}
use Rattle.node_table.specs.Diagram.{Graph, branch_at, is_node, level_of}
use Rattle.node_table.specs.Made.{inner}
use Rattle.node_table.specs.Marks.{AreMarks, is_marked}
use Rattle.reconstruction.specs.declared.copying.Uncopied.{Uncopied}
use Rattle.reconstruction.specs.Copies.{has_copy}
use Rattle.reconstruction.specs.Copying.{AreAllMarked, AreMarked, AreUncopied, IsKnown}

-- they are all that have no copy, of the keys below an end
pub record AreMarkedBelow (graph : Graph) (marks : List Bool) (copies : List ℕ) (uncopied : List Uncopied) (end : ℕ) : Type 0 where
  pub are : AreMarked graph marks uncopied
  pub bare : (entry : Uncopied) → Contains uncopied entry → has_copy copies (inner entry.key) ≡ false
  pub all : (key : ℕ) → key < end → is_marked marks (inner key) ≡ true → IsKnown copies uncopied (inner key)

pub none_below : (graph : Graph) (marks : List Bool) (copies : List ℕ) (uncopied : List Uncopied) → uncopied ≡ []
    → AreMarkedBelow graph marks copies uncopied 0
none_below graph marks copies uncopied none = subst (λ (list : List Uncopied). AreMarkedBelow graph marks copies list 0) (sym none) (record {
  are = record { marked = λ entry there. absurd (omega (arith, there.1)); level = λ entry there. absurd (omega (arith, there.1)) };
  bare = λ entry there. absurd (omega (arith, there.1));
  all = λ key less. absurd (omega (arith, less));
})

known_more : (copies : List ℕ) (uncopied : List Uncopied) (entry : Uncopied) (node : Node) → IsKnown copies uncopied node
    → IsKnown copies (uncopied ++ entry ∷ []) node
known_more copies uncopied entry node (inl has) = inl has
known_more copies uncopied entry node (inr among) = inr (record {
  entry = among.entry;
  there = Contains-append_left uncopied (entry ∷ []) among.entry among.there;
  is = among.is;
})

not_true : (b : Bool) → not b ≡ true → b ≡ false
not_true true is = absurd (let e : false ≡ true = is in cc)
not_true false is = refl

module _ (graph : Graph) (marks : List Bool) (copies : List ℕ) (uncopied : List Uncopied) (key : ℕ)
    (before : AreMarkedBelow graph marks copies uncopied key) where
  -- the next key is taken
  pub taken : (level : ℕ) → level ≡ level_of graph (inner key) → (is_marked marks (inner key) && not (has_copy copies (inner key))) ≡ true
      → AreMarkedBelow graph marks copies (uncopied ++ record { level = level; key = key } ∷ []) (key + 1)
  taken level is wanted =
      let last : Uncopied = record { level = level; key = key } in
      record {
        are = record {
          marked = λ entry there. elim (Contains-push_cases uncopied last entry there) [
            | inl earlier ↦ before.are.marked entry earlier
            | inr same ↦ subst (λ (e : Uncopied). is_marked marks (inner e.key) ≡ true) same
                (and_parts (is_marked marks (inner key)) _ wanted).0
          ];
          level = λ entry there. elim (Contains-push_cases uncopied last entry there) [
            | inl earlier ↦ before.are.level entry earlier
            | inr same ↦ subst (λ (e : Uncopied). e.level ≡ level_of graph (inner e.key)) same is
          ];
        };
        bare = λ entry there. elim (Contains-push_cases uncopied last entry there) [
          | inl earlier ↦ before.bare entry earlier
          | inr same ↦ subst (λ (e : Uncopied). has_copy copies (inner e.key) ≡ false) same
              (not_true (has_copy copies (inner key)) (and_parts (is_marked marks (inner key)) _ wanted).1)
        ];
        all = λ other less marked. elim (cases_eq other key) [
          | inl same ↦ inr (record { entry = last; there = Contains-push uncopied last; is = ap inner same })
          | inr differ ↦ known_more copies uncopied last (inner other) (before.all other (omega (arith, less, differ)) marked)
        ];
      }

branch_of_node : (o : Option Branch) → is_some o ≡ true → (branch : Branch) × (o ≡ Some branch)
branch_of_node None stands = absurd (let e : false ≡ true = stands in cc)
branch_of_node (Some branch) stands = (branch, refl)

pub stored_at : (graph : Graph) (key : ℕ) → is_node graph (inner key) ≡ true → (branch : Branch) × (branch_at graph key ≡ Some branch)
stored_at graph key stands = branch_of_node (branch_at graph key) stands

-- sorted
module _ (graph : Graph) (marks : List Bool) (copies : List ℕ) (before after : List Uncopied) (are : AreMarks graph marks)
    (all : AreAllMarked graph marks copies before) (moved : IsPermutation before after)
    (sorted : IsNonDecreasingBy (λ (entry : Uncopied). entry.level) after) where
  was : (entry : Uncopied) → Contains after entry → Contains before entry
  was entry there = Contains-permutation after before entry (IsPermutation-sym before after moved) there

  pub known_still : (node : Node) → is_marked marks node ≡ true → IsKnown copies after node
  known_still node marked = moved_too (all.all node marked)
    where
      moved_too : IsKnown copies before node → IsKnown copies after node
      moved_too (inl has) = inl has
      moved_too (inr among) = inr (record {
        entry = among.entry;
        there = Contains-permutation before after among.entry moved among.there;
        is = among.is;
      })

  pub uncopied_sorted : AreUncopied graph copies after
  uncopied_sorted = record {
    sorted = sorted;
    stand = λ entry there. are.stand entry.key (all.are.marked entry (was entry there));
    bare = λ entry there. all.bare entry (was entry there);
    level = λ entry there. all.are.level entry (was entry there);
    high = λ entry branch there at. known_still branch.high (are.high entry.key branch (all.are.marked entry (was entry there)) at);
    low = λ entry branch there at. known_still branch.low (are.low entry.key branch (all.are.marked entry (was entry there)) at);
  }

-- each has a place
pub has_place : (graph : Graph) (copies places : List ℕ) (uncopied : List Uncopied) (end : ℕ) → AreUncopied graph copies uncopied
    → ((key : ℕ) (branch : Branch) → branch_at graph key ≡ Some branch → key < end) → end ≤ length places
    → (entry : Uncopied) → Contains uncopied entry → entry.key < length places
has_place graph copies places uncopied end are keys room entry there =
    let it = stored_at graph entry.key (are.stand entry there) in
    omega (arith, keys entry.key it.0 it.1, room)

pub on_ok : {E : Type 0} {P Q : Type 0} (r : Result (Unit {0}) E) → (P → Q) → OnOk r P → OnOk r Q
on_ok {E} {P} {Q} (Ok x) further p = further p
on_ok {E} {P} {Q} (Err e) further p = tt
