-- A reclamation step by step: the caches are purged, what they gave up is deleted with all that was retired, and then the
-- nodes go that no root reaches.
use Rattle.std.proofs.Common.{◌≡◌, ◌≤◌, ◌∙◌, ℕ, ℤ, Bool, true, false, List, [], ◌++◌, Option, None, Some, Contains, is_some, refl}
use Rattle.std.proofs.Common.{sym, ap, subst, arith, inl, inr}
use Rattle.std.specs.Prelude.{if◌then◌else◌}
use Rattle.std.proofs.lemmas.Bool.{cases_Bool}
use Rattle.std.proofs.lemmas.List.Elements.{Contains-append_cases}
use Rattle.lrat_rules.specs.State.{Live, clause_at}
use Rattle.node_table.specs.declared.node.Node.{Node}
use Rattle.node_table.specs.declared.node.Branch.{Branch}
use Rattle.node_table.specs.Deleted.{AreClear, DefinesUnmarked, IsClear}
use Rattle.node_table.specs.Diagram.{Graph, branch_at}
use Rattle.node_table.specs.Made.{inner}
use Rattle.node_table.specs.Marks.{AreMarks, AreReached, is_marked}
use Rattle.node_table.specs.Swept.{IsSwept}
use Rattle.node_table.specs.Table.{TableState, AddsNone, IsAddedTo, IsSound}
use Rattle.operations.specs.Entries.{Entry, FitsEntry, Fits, Fitting, IsAccounted}
use Rattle.operations.specs.Purged.{IsPurged, Purging}
use Rattle.reclaim.specs.Reclaimed.{MayReclaim, Reclaims}

-- the retired clauses were deleted
pub record IsSettled {S : Type 0} (old new : TableState S) : Type 0 where
  pub sound : IsSound new
  pub graph : new.graph ≡ old.graph
  pub retired : new.retired ≡ []
  pub inputs : new.inputs ≡ old.inputs
  pub top : new.book.state.top ≡ old.book.state.top
  pub gone : (id : ℕ) → Contains old.retired id → clause_at new.book.state.live id ≡ None
  pub stay : (id : ℕ) → (Contains old.retired id → ⊥) → clause_at new.book.state.live id ≡ clause_at old.book.state.live id

-- the nodes that aren't marked were swept away
pub record SweepsAway {S : Type 0} (old new : TableState S) (marks : List Bool) : Type 0 where
  pub swept : IsSwept old.graph new.graph marks
  pub gone : (id : ℕ) → DefinesUnmarked old.graph marks id → clause_at new.book.state.live id ≡ None
  pub stay : (id : ℕ) → (DefinesUnmarked old.graph marks id → ⊥) → clause_at new.book.state.live id ≡ clause_at old.book.state.live id
  pub formula : (id : ℕ) → id ≤ old.inputs → clause_at new.book.state.live id ≡ clause_at old.book.state.live id
  pub none_added : AddsNone old new
  pub retired : new.retired ≡ old.retired
  pub inputs : new.inputs ≡ old.inputs
  pub top : new.book.state.top ≡ old.book.state.top

none_some : {A : Type 0} {o : Option A} {x : A} → o ≡ None → o ≡ Some x → ⊥
none_some {A} {o} {x} none some = let e : None ≡ Some x = sym none ∙ some in cc

live_of : (live : Live) (id : ℕ) → is_some (clause_at live id) ≡ true → (clause : List ℤ) × (clause_at live id ≡ Some clause)
live_of live id stands = found (clause_at live id) stands
  where
    found : (o : Option (List ℤ)) → is_some o ≡ true → (clause : List ℤ) × (o ≡ Some clause)
    found None stands = cc
    found (Some clause) stands = (clause, refl)

module _ {S : Type 0} (fitting : Fitting S) (law : Purging S) (old one two : TableState S) (roots : List Node) (marks : List Bool)
    (before after : List Entry)
    (sound : IsSound old) (fits : Fits old before) (reached : AreReached old.graph roots marks) (are : AreMarks old.graph marks)
    (purged : IsPurged old one marks before after) (settled : IsSettled one two) where
  graph_one : one.graph ≡ old.graph
  graph_one = ap (λ (t : TableState S). t.graph) purged.table

  live_one : one.book.state.live ≡ old.book.state.live
  live_one = ap (λ (t : TableState S). t.book.state.live) purged.table

  pub graph_two : two.graph ≡ old.graph
  graph_two = settled.graph ∙ graph_one

  inputs_two : two.inputs ≡ old.inputs
  inputs_two = settled.inputs ∙ ap (λ (t : TableState S). t.inputs) purged.table

  fits_one : Fits one after
  fits_one = law.fits old one marks before after sound fits purged

  live_two : (id : ℕ) → (Contains one.retired id → ⊥) → clause_at two.book.state.live id ≡ clause_at old.book.state.live id
  live_two id unretired = settled.stay id unretired ∙ ap (λ (live : Live). clause_at live id) live_one

  -- what is live still wasn't retired
  unretired_two : (id : ℕ) (clause : List ℤ) → clause_at two.book.state.live id ≡ Some clause → Contains one.retired id → ⊥
  unretired_two id clause is gone = none_some (settled.gone id gone) is

  was_live : (id : ℕ) (clause : List ℤ) → clause_at two.book.state.live id ≡ Some clause → clause_at old.book.state.live id ≡ Some clause
  was_live id clause is = sym (live_two id (unretired_two id clause is)) ∙ is

  -- an added clause was one before
  added_two : (id : ℕ) → IsAddedTo two id → IsAddedTo old id
  added_two id own =
      let clause = live_of two.book.state.live id own.stands in
      let graph = graph_two in
      record {
        stands = ap is_some (was_live id clause.0 clause.1);
        above = omega (arith, own.above, inputs_two);
        defines_none = λ key branch at. own.defines_none key branch (ap (λ (g : Graph). branch_at g key) graph ∙ at);
      }

  -- an added clause stays that wasn't retired or named
  clear_old : MayReclaim old before roots → (id : ℕ) (clause : List ℤ) → clause_at two.book.state.live id ≡ Some clause
      → IsAddedTo two id → IsClear old.graph marks clause
  clear_old may id clause is own literal holds key branch at unmarked same =
      let was = was_live id clause is in
      elim (may id clause was (added_two id own)) [
        | inl known ↦ elim (law.accounted old one marks before after id purged known) [
          | inl gone ↦ unretired_two id clause is gone
          | inr by ↦
              let right : FitsEntry old.graph old.book.state.live by.0 = subst
              (λ (t : TableState S). FitsEntry t.graph t.book.state.live by.0) purged.table (fits_one.each by.0 by.1) in
              law.clear old.graph old.book.state.live marks by.0 id clause sound.tied.reduced right by.2
              (law.marked old one marks before after by.0 purged by.1) was literal holds key branch at unmarked same
        ]
        | inr over ↦ let e : true ≡ false = sym ((reached key).1 (ap is_some at, over literal holds key branch at same)) ∙ unmarked in cc
      ]

  pub clear_two : MayReclaim old before roots → AreClear two.graph marks two.book.state.live two.inputs
  clear_two may id clause is own = subst (λ (g : Graph). IsClear g marks clause) (sym graph_two) (clear_old may id clause is own)

  pub marks_two : AreMarks two.graph marks
  marks_two = subst (λ (g : Graph). AreMarks g marks) (sym graph_two) are

  module _ (new : TableState S) (swept : SweepsAway two new marks) where
    -- a node that is left was marked
    left_marked : (key : ℕ) (branch : Branch) → branch_at new.graph key ≡ Some branch → (is_marked marks (inner key) ≡ true)
        × (branch_at old.graph key ≡ Some branch)
    left_marked key branch at = elim (cases_Bool (is_marked marks (inner key))) [
      | inl marked ↦ (
        marked,
        ap (λ (g : Graph). branch_at g key) (sym graph_two) ∙ sym (swept.swept.nodes key
            ∙ ap (λ b. if b then branch_at two.graph key else None) marked) ∙ at,
      )
      | inr unmarked ↦ absurd (none_some (swept.swept.nodes key ∙ ap (λ b. if b then branch_at two.graph key else None) unmarked) at)
    ]

    marked_stays : (key : ℕ) → is_marked marks (inner key) ≡ true → branch_at new.graph key ≡ branch_at old.graph key
    marked_stays key marked = swept.swept.nodes key ∙ ap (λ b. if b then branch_at two.graph key else None) marked
        ∙ ap (λ (g : Graph). branch_at g key) graph_two

    live_new : (id : ℕ) (clause : List ℤ) → clause_at new.book.state.live id ≡ Some clause → clause_at two.book.state.live id ≡ Some clause
    live_new id clause is = sym (swept.stay id (λ d. none_some (swept.gone id d) is)) ∙ is

    -- an added clause defines no node
    added_stays : (id : ℕ) → IsAddedTo two id → clause_at new.book.state.live id ≡ clause_at two.book.state.live id
    added_stays id own = swept.stay id (λ d. let e : true ≡ false = sym d.defines ∙ own.defines_none d.key d.branch d.stands in cc)

    added_still : (id : ℕ) → IsAddedTo old id → (Contains one.retired id → ⊥) → IsAddedTo two id
    added_still id own unretired = record {
      stands = ap is_some (live_two id unretired) ∙ own.stands;
      above = omega (arith, own.above, inputs_two);
      defines_none = λ key branch at. own.defines_none key branch (ap (λ (g : Graph). branch_at g key) (sym graph_two) ∙ at);
    }

    -- a clause that was retired by now was retired before, or an entry named it
    retired_known : (id : ℕ) → Contains one.retired id → IsAccounted old before id
    retired_known id gone =
        let retired : one.retired ≡ old.retired ++ purged.more = ap (λ (t : TableState S). t.retired) purged.table in
        elim (Contains-append_cases old.retired purged.more id (subst (λ (ids : List ℕ). Contains ids id) retired gone)) [
          | inl was ↦ inl was
          | inr now ↦ let by = purged.named id now in inr (by.0, by.1, by.3)
        ]

    fits_two : Fits two after
    fits_two = fitting.settled one two after settled.graph settled.inputs settled.retired settled.stay fits_one

    fits_new : Fits new after
    fits_new =
        law.swept two new marks after settled.sound marks_two swept.swept
        (λ entry there. law.marked old one marks before after entry purged there) fits_two
        (λ id by. added_stays id (fits_two.own id by)) swept.inputs swept.retired

    -- no clause of the formula is retired
    formula_stays : (id : ℕ) → id ≤ old.inputs → clause_at new.book.state.live id ≡ clause_at old.book.state.live id
    formula_stays id few =
        let one_sound = law.sound old one marks before after sound fits purged in
        let same : one.inputs ≡ old.inputs = ap (λ (t : TableState S). t.inputs) purged.table in
        swept.formula id (omega (arith, few, inputs_two)) ∙ live_two id (λ gone. let above = (one_sound.retired.each id gone).above in
        omega (arith, above, few, same))

    pub reclaims : Reclaims old new roots before after
    reclaims = record {
      order = swept.swept.order ∙ ap (λ (g : Graph). g.order) graph_two;
      nodes = λ key branch by at. marked_stays key ((reached key).1 (ap is_some at, by)) ∙ at;
      only = λ key branch at. let was = left_marked key branch at in (was.1, ((reached key).0 was.0).1);
      fits = fits_new;
      fewer = λ entry there. law.fewer old one marks before after entry purged there;
      clauses = λ id clause is. was_live id clause (live_new id clause is);
      formula = formula_stays;
      kept = λ id own unknown. let unretired = λ (gone : Contains one.retired id). unknown (retired_known id gone) in
          added_stays id (added_still id own unretired) ∙ live_two id unretired;
      added = λ id own.
          let was = swept.none_added id own in
          let clause = live_of two.book.state.live id was.stands in (
            added_two id was,
            λ known. elim (law.accounted old one marks before after id purged known) [
              | inl gone ↦ absurd (unretired_two id clause.0 clause.1 gone)
              | inr by ↦ by
            ],
          );
      retired = swept.retired ∙ settled.retired;
      inputs = swept.inputs ∙ inputs_two;
      top = swept.top ∙ settled.top ∙ ap (λ (t : TableState S). t.book.state.top) purged.table;
    }
