-- Nodes copied one after another, from the last level up: the children of each have copies by then.
use Rattle.std.proofs.Common.{◌≡◌, ◌∙◌, ◌+◌, ◌<◌, ◌≤◌, ℕ, true, false, List, length, Some, Contains, refl, sym, ap, subst, arith, inl, inr}
use Rattle.std.specs.Prelude.{slice_index_or}
use Rattle.std.proofs.lemmas.Bool.{cases_lt}
use Rattle.std.proofs.lemmas.List.{get_or_default}
use Rattle.std.proofs.lemmas.List.Elements.{Contains-get_or}
use Rattle.node_table.specs.declared.node.Node.{Node}
use Rattle.node_table.specs.declared.node.Branch.{Branch}
use Rattle.node_table.specs.Diagram.{Graph, IsReduced, branch_at, level_in, level_of, levels}
use Rattle.node_table.specs.Made.{inner}
use Rattle.reconstruction.specs.declared.cells.Cell.{Cell}
use Rattle.reconstruction.specs.declared.copying.Uncopied.{Uncopied}
use Rattle.reconstruction.specs.Copies.{AreCopies, AreSound, Copies, KeepsCopies, copy_of, has_copy}
use Rattle.reconstruction.specs.Copying.{AreUncopied, IsKnown}
use Rattle.reconstruction.proofs.Copied.{copied_further, none_copied}

-- Those from a place on were copied.
pub record AreDone (graph : Graph) (before : List Cell) (held : List ℕ) (uncopied : List Uncopied) (place : ℕ) (cells : List Cell)
    (now : List ℕ) : Type 0 where
  pub copies : Copies graph before held cells now
  pub done : (j : ℕ) (d : Uncopied) → place ≤ j → j < length uncopied → has_copy now (inner (slice_index_or uncopied j d).key) ≡ true
  pub room : length now ≡ length held
  pub kept : KeepsCopies held now

module _ (graph : Graph) (reduced : IsReduced graph) (before : List Cell) (held : List ℕ) (uncopied : List Uncopied)
    (are : AreUncopied graph held uncopied) (place : ℕ) (inside : place < length uncopied) (d : Uncopied) (cells : List Cell) (now : List ℕ)
    (done : AreDone graph before held uncopied (place + 1) cells now) where
  -- what is known and stands below the next one has a copy
  known_below : (node : Node) → IsKnown held uncopied node → (slice_index_or uncopied place d).level < level_of graph node
      → has_copy now node ≡ true
  known_below node (inl has) below = done.copies.still node has
  known_below node (inr among) below = elim (cases_lt place among.there.0) [
    | inl late ↦
        subst (λ (n : Node). has_copy now n ≡ true) (sym among.is)
        (subst (λ (e : Uncopied). has_copy now (inner e.key) ≡ true) among.there.2
        (done.done among.there.0 among.entry (omega (arith, late)) among.there.1))
    | inr early ↦
        let level : among.entry.level ≡ level_of graph node = are.level among.entry among.there ∙ ap (level_of graph) (sym among.is) in
        let at : (slice_index_or uncopied among.there.0 d).level ≡ among.entry.level =
        ap (λ (e : Uncopied). e.level) (get_or_default uncopied among.there.0 d among.entry among.there.1 ∙ among.there.2) in
        absurd (omega (arith, are.sorted among.there.0 place d early inside, level, at, below))
  ]

  pub there : Contains uncopied (slice_index_or uncopied place d)
  there = Contains-get_or uncopied place d inside

  pub children : (b : Branch) → branch_at graph (slice_index_or uncopied place d).key ≡ Some b
      → (has_copy now b.high ≡ true) × (has_copy now b.low ≡ true)
  children b at =
      let level : (slice_index_or uncopied place d).level ≡ b.level = are.level (slice_index_or uncopied place d) there
      ∙ ap (level_in (levels graph)) at in
      let key = (slice_index_or uncopied place d).key in (
        known_below b.high (are.high (slice_index_or uncopied place d) b there at) (omega (arith, level, (reduced.high key b at).below)),
        known_below b.low (are.low (slice_index_or uncopied place d) b there at) (omega (arith, level, (reduced.low key b at).below)),
      )

  -- and the next one was copied
  pub done_more : (after : List Cell) (later : List ℕ) → length later ≡ length now
      → ((node : Node) → (node ≡ inner (slice_index_or uncopied place d).key → ⊥) → copy_of later node ≡ copy_of now node)
      → Copies graph cells now after later × (has_copy later (inner (slice_index_or uncopied place d).key) ≡ true)
      → AreDone graph before held uncopied place after later
  done_more after later long others copied = record {
    copies = copied_further graph before cells after held now later done.copies copied.0;
    done = λ j e from small. elim (cases_lt place j) [
      | inl above ↦ copied.0.still (inner (slice_index_or uncopied j e).key) (done.done j e (omega (arith, above)) small)
      | inr at ↦
          let same : j ≡ place = omega (arith, at, from) in
          subst (λ (u : Uncopied). has_copy later (inner u.key) ≡ true)
          (get_or_default uncopied place d e inside ∙ ap (λ n. slice_index_or uncopied n e) (sym same)) copied.1
    ];
    room = long ∙ done.room;
    kept = λ node has. others node (had node has) ∙ done.kept node has;
  }
    where
      -- it had none before
      had : (node : Node) → has_copy held node ≡ true → node ≡ inner (slice_index_or uncopied place d).key → ⊥
      had node has is =
          let e : false ≡ true = sym (are.bare (slice_index_or uncopied place d) there) ∙ ap (has_copy held) (sym is) ∙ has in cc

-- in the end all have copies
pub all_done : (graph : Graph) (before : List Cell) (held : List ℕ) (uncopied : List Uncopied) (cells : List Cell) (now : List ℕ)
    → AreDone graph before held uncopied 0 cells now → (node : Node) → IsKnown held uncopied node → has_copy now node ≡ true
all_done graph before held uncopied cells now done node (inl has) = done.copies.still node has
all_done graph before held uncopied cells now done node (inr among) =
    subst (λ (n : Node). has_copy now n ≡ true) (sym among.is)
    (subst (λ (e : Uncopied). has_copy now (inner e.key) ≡ true) among.there.2
    (done.done among.there.0 among.entry (omega arith) among.there.1))

-- at first none are
pub none_done : (graph : Graph) (before : List Cell) (held : List ℕ) (uncopied : List Uncopied) (place : ℕ) → length uncopied ≤ place
    → AreSound before held → AreCopies graph before held → AreDone graph before held uncopied place before held
none_done graph before held uncopied place behind sound are = record {
  copies = none_copied graph before held held sound are (λ key. refl) sound.places;
  done = λ j d from small. absurd (omega (arith, from, small, behind));
  room = refl;
  kept = λ node has. refl;
}
