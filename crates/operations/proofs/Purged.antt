-- Purging caches: what is left of their entries and of the table, and that entries over marked nodes fit a swept table.
use Rattle.std.proofs.Common.{◌≡◌, ◌≤◌, ◌++◌, ◌⊎◌, ◌&&◌, ℕ, Bool, true, false, List, [], ◌∷◌, None, Some, Contains, is_some, refl, sym, ap}
use Rattle.std.proofs.Common.{◌∙◌, subst, arith, inl, inr}
use Rattle.std.specs.Prelude.{IsTrue, if◌then◌else◌}
use Rattle.std.specs.List.{filter}
use Rattle.std.proofs.lemmas.Bool.{and_parts, cases_Bool}
use Rattle.std.proofs.lemmas.List.{append-nil, append_assoc}
use Rattle.std.proofs.lemmas.List.Elements.{Contains-append_left, Contains-append_right, Contains-append_cases, filter-append}
use Rattle.lrat_rules.specs.State.{Live, clause_at}
use Rattle.node_table.specs.declared.node.Node.{Node}
use Rattle.node_table.specs.declared.node.Node.TheVariants.{False, True, Inner}
use Rattle.node_table.specs.declared.node.Justification.TheVariants.{Trivial, Clause}
use Rattle.node_table.specs.declared.node.Branch.{Branch}
use Rattle.node_table.specs.Diagram.{Graph, IsReduced, branch_at, branch_of, is_node}
use Rattle.node_table.specs.Laws.{Kept}
use Rattle.node_table.specs.Made.{KeepsFrom, child_of, end_of, inner}
use Rattle.node_table.specs.Marks.{AreMarks, is_marked}
use Rattle.node_table.specs.Swept.{IsSwept}
use Rattle.node_table.specs.Table.{TableState, Extends, IsAddedTo, IsSound, last_variable}
use Rattle.node_table.specs.Tied.{AreUpTo, HoldFormula, IsTied}
use Rattle.operations.specs.Entries.{Entry, Conjunction, Implication, Disjunction, Quantification, AreApart, FitsEntry, Fits, Fitting}
use Rattle.operations.specs.Entries.{IsAccounted, IsNamed, NamesOnly, RetiresOwn, just_of}
use Rattle.operations.specs.Purged.{IsPurged, Purging, are_marked}
use Rattle.operations.proofs.Cleared.{AreAmong, entry_clear}
use Rattle.operations.proofs.Elements.{there_none, filter_there, filter_passed, filter_kept}
use Rattle.operations.proofs.SameNodes.{IsSameNode, AreSameNodes, entry_same, entry_settled}

-- One cache, or several as one list.
module _ {S : Type 0} (old new : TableState S) (marks : List Bool) (before after : List Entry)
    (purged : IsPurged old new marks before after) where
  was_there : (entry : Entry) → Contains after entry → Contains before entry
  was_there entry there = filter_there (are_marked marks) before entry
      (subst (λ (list : List Entry). Contains list entry) purged.stays there)

  marked_after : (entry : Entry) → Contains after entry → are_marked marks entry ≡ true
  marked_after entry there = filter_passed (are_marked marks) before entry
      (subst (λ (list : List Entry). Contains list entry) purged.stays there)

  still_there : (entry : Entry) → Contains before entry → are_marked marks entry ≡ true → Contains after entry
  still_there entry there marked = subst (λ (list : List Entry). Contains list entry) (sym purged.stays)
      (filter_kept (are_marked marks) before entry there marked)

  retired_now : new.retired ≡ old.retired ++ purged.more
  retired_now = ap (λ (t : TableState S). t.retired) purged.table

  pub retired_cases : (id : ℕ) → Contains new.retired id → Contains old.retired id ⊎ Contains purged.more id
  retired_cases id there = Contains-append_cases old.retired purged.more id (subst (λ (list : List ℕ). Contains list id) retired_now there)

  pub named_before : (id : ℕ) → Contains purged.more id → IsNamed before id
  named_before id there = let by = purged.named id there in (by.0, by.1, by.3)

  accounted : (id : ℕ) → IsAccounted old before id → IsAccounted new after id
  accounted id (inl was) = inl (subst (λ (list : List ℕ). Contains list id) (sym retired_now)
      (Contains-append_left old.retired purged.more id was))
  accounted id (inr by) = elim (cases_Bool (are_marked marks by.0)) [
    | inl marked ↦ inr (by.0, still_there by.0 by.1 marked, by.2)
    | inr unmarked ↦
        inl (subst (λ (list : List ℕ). Contains list id) (sym retired_now)
        (Contains-append_right old.retired purged.more id (purged.each by.0 id by.1 unmarked by.2)))
  ]

  extends : Extends old new
  extends = subst (Extends old) (sym purged.table) (record {
    inputs = refl;
    nodes = record { order = refl; nodes = λ key branch at. at };
    clauses = λ id clause at. at;
    numbers = record {
      no_less = omega arith;
      next = λ id stands. inl stands;
      each = λ id above within. absurd (omega (arith, above, within));
    };
    more = purged.more;
    retired = refl;
  })

  retires : RetiresOwn old new before
  retires = record { each = λ id there. elim (retired_cases id there) [ inl was ↦ inl was | inr now ↦ inr (inr (named_before id now)) ] }

  names : NamesOnly before after old.book.state new.book.state
  names = record { each = λ entry there. inl (was_there entry there) }

  module _ (sound : IsSound old) (fits : Fits old before) where
    still_sound : IsSound new
    still_sound = record {
      in_step = subst (λ (t : TableState S). IsTrue t.book.in_step) (sym purged.table) sound.in_step;
      tied = subst (λ (t : TableState S). IsTied t.graph t.book.state) (sym purged.table) sound.tied;
      variables = subst (λ (t : TableState S). AreUpTo (last_variable t) t.graph) (sym purged.table) sound.variables;
      inputs = subst (λ (t : TableState S). t.inputs ≤ t.book.state.top) (sym purged.table) sound.inputs;
      formula = subst (λ (t : TableState S). HoldFormula t.graph t.book.state.live t.inputs) (sym purged.table) sound.formula;
      retired = record {
        each = λ id there. subst (λ (t : TableState S). IsAddedTo t id) (sym purged.table) (elim (retired_cases id there) [
          | inl was ↦ sound.retired.each id was
          | inr now ↦ fits.own id (named_before id now)
        ]);
        once = purged.once sound.retired.once;
      };
    }

    -- a clause that is retired now was named by an entry that went, and by no other one
    unretired : (id : ℕ) → IsNamed after id → Contains new.retired id → ⊥
    unretired id by gone = elim (retired_cases id gone) [
      | inl was ↦ fits.unretired id (by.0, was_there by.0 by.1, by.2) was
      | inr now ↦
          let other = purged.named id now in
          let same : by.0 ≡ other.0 = fits.apart by.0 other.0 id (was_there by.0 by.1) other.1 by.2 other.3 in
          let both : true ≡ false = sym (marked_after by.0 by.1) ∙ ap (are_marked marks) same ∙ other.2 in
          cc
    ]

    still_fits : Fitting S → Fits new after
    still_fits law = law.kept old new after sound still_sound extends (law.fewer old after before was_there fits) unretired

  beside : Fitting S → (others : List Entry) → IsSound old → Fits old (before ++ others) → AreApart before others
      → Fits new (after ++ others) × AreApart after others
  beside law others sound all apart =
      let fits : Fits old before = law.fewer old before (before ++ others) (Contains-append_left before others) all in
      law.beside old new before after others sound (still_sound sound fits) extends retires names all apart (still_fits sound fits law)

joined : {S : Type 0} (old middle new : TableState S) (marks : List Bool) (one one_after other other_after : List Entry)
    → IsPurged old middle marks one one_after
    → IsPurged middle new marks other other_after → IsPurged old new marks (one ++ other) (one_after ++ other_after)
joined {S} old middle new marks one one_after other other_after first second = record {
  stays = (λ i. first.stays i ++ second.stays i) ∙ sym (filter-append (are_marked marks) one other);
  more = first.more ++ second.more;
  table = second.table
      ∙ ap (λ (t : TableState S). record t { retired = t.retired ++ second.more }) first.table
      ∙ ap (λ (list : List ℕ). record old { retired = list }) (append_assoc old.retired first.more second.more);
  named = λ id there. elim (Contains-append_cases first.more second.more id there) [
    | inl early ↦ let by = first.named id early in (by.0, Contains-append_left one other by.0 by.1, by.2, by.3)
    | inr late ↦ let by = second.named id late in (by.0, Contains-append_right one other by.0 by.1, by.2, by.3)
  ];
  each = λ entry id there unmarked names. elim (Contains-append_cases one other entry there) [
    | inl early ↦ Contains-append_left first.more second.more id (first.each entry id early unmarked names)
    | inr late ↦ Contains-append_right first.more second.more id (second.each entry id late unmarked names)
  ];
  once = λ distinct. second.once (first.once distinct);
}

plain : {S : Type 0} (table : TableState S) (marks : List Bool) (entries : List Entry)
    → ((entry : Entry) → Contains entries entry → just_of entry ≡ Trivial)
    → IsPurged table table marks entries (filter (are_marked marks) entries)
plain table marks entries none = record {
  stays = refl;
  more = [];
  table = ap (λ (list : List ℕ). record table { retired = list }) (sym (append-nil table.retired));
  named = λ id there. absurd (there_none id there);
  each = λ entry id there unmarked names. absurd (let e : Trivial ≡ Clause id = sym (none entry there) ∙ names in cc);
  once = λ distinct. distinct;
}

three_marked : (marks : List Bool) (u v w : Node) → (is_marked marks u && is_marked marks v && is_marked marks w) ≡ true
    → (is_marked marks u ≡ true) × (is_marked marks v ≡ true) × (is_marked marks w ≡ true)
three_marked marks u v w all = grind arith

-- What marked nodes reach is marked, and stays.
module _ (old new : Graph) (marks : List Bool) (are : AreMarks old marks) (swept : IsSwept old new marks) where
  child_marked : (to_high : Bool) (node : Node) → is_marked marks node ≡ true → is_marked marks (child_of to_high node (branch_of old node))
      ≡ true
  child_marked to_high False is = refl
  child_marked to_high True is = refl
  child_marked to_high (Inner key) is = elim (branch_at old key.index) as (λ o. branch_at old key.index ≡ o
      → is_marked marks (child_of to_high (Inner key) o) ≡ true) [
        | None ↦ λ _. is
        | Some b ↦ λ at. either to_high b.high b.low (are.high key.index b is at) (are.low key.index b is at)
      ] refl
    where
      either : (to_high : Bool) (high low : Node) → is_marked marks high ≡ true → is_marked marks low ≡ true
          → is_marked marks (if to_high then high else low) ≡ true
      either true high low first second = first
      either false high low first second = second

  end_marked : (node : Node) (path : List Bool) → is_marked marks node ≡ true → is_marked marks (end_of old node path) ≡ true
  end_marked node [] is = is
  end_marked node (to_high ∷ path) is = end_marked (child_of to_high node (branch_of old node)) path (child_marked to_high node is)

  keeps_reached : (root : Node) → is_marked marks root ≡ true → KeepsFrom old new root
  keeps_reached root is = record {
    order = swept.order;
    nodes = λ key b reached at.
        let marked : is_marked marks (inner key) ≡ true = subst (λ n. is_marked marks n
        ≡ true) reached.ends (end_marked root reached.path is) in
        swept.nodes key ∙ ap (λ t. if t then branch_at old key else None) marked ∙ at;
  }

  -- a node that is left was there
  was_node : (key : ℕ) (branch : Branch) → branch_at new key ≡ Some branch → branch_at old key ≡ Some branch
  was_node key branch at = elim (cases_Bool (is_marked marks (inner key))) [
    | inl marked ↦ sym (ap (λ t. if t then branch_at old key else None) marked) ∙ sym (swept.nodes key) ∙ at
    | inr unmarked ↦
        absurd (let none : Some branch ≡ None = sym at ∙ swept.nodes key ∙ ap (λ t. if t then branch_at old key else None) unmarked in cc)
  ]

  module _ (law : Kept) (reduced : IsReduced old) where
    same_node : (node : Node) → is_marked marks node ≡ true → IsTrue (is_node old node) → IsSameNode old new node
    same_node node is stands = let keeps = keeps_reached node is in record {
      stands = law.stands old new node keeps stands;
      level = law.level old new node keeps stands;
      value = λ a. law.value old new node reduced keeps a stands;
      atom = law.atom old new node keeps stands;
    }

    same_nodes : (live : Live) (entry : Entry) → are_marked marks entry ≡ true → FitsEntry old live entry → AreSameNodes old new entry
    same_nodes live (Conjunction u v w just) marked fits =
        let parts = three_marked marks u v w marked in (
          same_node u parts.0 fits.0.first,
          same_node v parts.1 fits.0.second,
          same_node w parts.2 fits.1.stands,
        )
    same_nodes live (Implication u v just) marked fits =
        let parts = and_parts (is_marked marks u) (is_marked marks v) marked in
        (same_node u parts.0 fits.0.first, same_node v parts.1 fits.0.second)
    same_nodes live (Disjunction u v w) marked fits =
        let parts = three_marked marks u v w marked in (
          same_node u parts.0 fits.0.first,
          same_node v parts.1 fits.0.second,
          same_node w parts.2 fits.1.stands,
        )
    same_nodes live (Quantification u level w) marked fits =
        let parts = and_parts (is_marked marks u) (is_marked marks w) marked in
        (same_node u parts.0 fits.0, same_node w parts.1 fits.1.stands)

-- Entries over marked nodes, where the clauses that they name are live still.
fits_swept : Kept → {S : Type 0} (old new : TableState S) (marks : List Bool) (entries : List Entry) → IsSound old
    → AreMarks old.graph marks → IsSwept old.graph new.graph marks
    → ((entry : Entry) → Contains entries entry → are_marked marks entry ≡ true) → Fits old entries
    → ((id : ℕ) → IsNamed entries id → clause_at new.book.state.live id ≡ clause_at old.book.state.live id) → new.inputs ≡ old.inputs
    → new.retired ≡ old.retired → Fits new entries
fits_swept law old new marks entries sound are swept marked fits live inputs retired = record {
  each = λ entry there.
      let right : FitsEntry old.graph old.book.state.live entry = fits.each entry there in
      entry_same old.graph new.graph new.book.state.live entry
      (same_nodes old.graph new.graph marks are swept law sound.tied.reduced old.book.state.live entry (marked entry there) right)
      (entry_settled old.graph old.book.state.live new.book.state.live entry (λ id names. live id (entry, there, names)) right);
  own = λ id by.
      let was = fits.own id by in
      record {
        stands = ap is_some (live id by) ∙ was.stands;
        above = omega (arith, inputs, was.above);
        defines_none = λ key branch at. was.defines_none key branch (was_node old.graph new.graph marks are swept key branch at);
      };
  unretired = λ id by gone. fits.unretired id by (subst (λ (list : List ℕ). Contains list id) retired gone);
  apart = fits.apart;
}

pub purging : {S : Type 0} → Fitting S → Kept → AreAmong → Purging S
purging law kept among = record {
  joined = joined;
  plain = plain;
  sound = λ old new marks before after sound fits purged. still_sound old new marks before after purged sound fits;
  fits = λ old new marks before after sound fits purged. still_fits old new marks before after purged sound fits law;
  beside = λ old new marks before after others sound fits apart purged.
      beside old new marks before after purged law others sound fits apart;
  fewer = λ old new marks before after entry purged. was_there old new marks before after purged entry;
  marked = λ old new marks before after entry purged. marked_after old new marks before after purged entry;
  clear = entry_clear among;
  accounted = λ old new marks before after id purged. accounted old new marks before after purged id;
  swept = fits_swept kept;
}
