-- The answers of a quantification by a set of levels: one that is known, and the node of both sides, which is kept.
use Rattle.std.proofs.Common.{◌≡◌, ◌∙◌, ℕ, Bool, true, false, List, [], Option, Ok, Err, Contains, refl, sym, subst, arith, inl, inr, drop}
use Rattle.std.specs.Prelude.{IfOk}
use Rattle.node_table.specs.declared.error.TableError.TheVariants.{OutOfMemory}
use Rattle.node_table.specs.declared.node.Node.{Node}
use Rattle.node_table.specs.Diagram.{Graph, is_node, level_of}
use Rattle.node_table.specs.HandedOn.{no_error}
use Rattle.node_table.specs.Laws.{Cofactors, Growth, StepByStep, Subfunctions}
use Rattle.node_table.specs.Table.{TableState, HasChildren}
use Rattle.node_table.specs.Value.{Levels, IsSubfunction, value_of}
use Rattle.operations.specs.declared.frames.Reply.TheVariants.{Give, Open}
use Rattle.operations.specs.Caches.{IsOneKept, Keeping}
use Rattle.operations.specs.Entries.{Entry, HaveSame, Quantification}
use Rattle.operations.specs.Machine.{IsAnswer}
use Rattle.operations.specs.Pairs.{Pair, same_pair}
use Rattle.operations.specs.Results.{Disjoined}
use Rattle.quantify.specs.declared.quantify_set.SetCaches.{SetCaches}
use Rattle.quantify.specs.declared.quantify_set.SetSides.{SetSides}
use Rattle.quantify.specs.Disjunction.{disjunction_of}
use Rattle.quantify.specs.ExistsCache.{ExistsCache, Question, quantifications}
use Rattle.quantify.specs.OrCache.{OrCache, RemembersDisjunctions, disjunction, disjunctions}
use Rattle.quantify.specs.Runs.{Joins, Runs}
use Rattle.quantify.specs.SetQuantification.{AreRight, AreSides, CanCloseSet, CanQuantifySet, QuantifiesSet, from_level, quantifying_set}
use Rattle.quantify.specs.SomeValues.{IsFromPlace, SetQuantified, by_none, function_of, some_values}
use Rattle.quantify.proofs.Joined.{ok_from}
use Rattle.quantify.proofs.Lists.{remembers_all}
use Rattle.quantify.proofs.OpenedSet.{ends_found, ends_later, set_opened, with_found}
use Rattle.quantify.proofs.Running.{Answer}
use Rattle.quantify.proofs.RunningFor.{for_function, for_further, for_refused}
use Rattle.quantify.proofs.SetQuantifications.{answers_disjoined, answers_joined, high_answer_below, low_answer_below, right_kept}
use Rattle.quantify.proofs.SetQuantifications.{set_disjoined, set_joined}
use Rattle.quantify.proofs.SomeValues.{part_whole}

-- nothing is kept yet
pub none_right : (graph : Graph) (set : List ℕ) (found : ExistsCache) → quantifications found ≡ [] → AreRight graph set found
none_right graph set found none u place w there =
    let in_none = subst (λ (all : List Entry). Contains all (Quantification u place w)) none there in absurd (omega (arith, in_none.1))

-- what was right is so in whatever order it stands, and with one result more
pub right_same : (graph : Graph) (set : List ℕ) (before after : ExistsCache) → HaveSame (quantifications before) (quantifications after)
    → AreRight graph set before → AreRight graph set after
right_same graph set before after same right u place w there = right u place w (same.back (Quantification u place w) there)

pub right_more : (graph : Graph) (set : List ℕ) (before after : ExistsCache) (u : Node) (place : ℕ) (w : Node) (given : Option ℕ)
    → IsOneKept (quantifications before) (quantifications after) (Quantification u place w) given → is_node graph u ≡ true
    → SetQuantified graph u (drop place set) w → AreRight graph set before → AreRight graph set after
right_more graph set before after u place w given kept stands found right x at y there =
    elim (kept.only (Quantification x at y) there) [
      | inr was ↦ right x at y was
      | inl is ↦
          let node : u ≡ x = cc in
          let number : place ≡ at = cc in
          let answer : w ≡ y = cc in (
            subst (λ (n : Node). is_node graph n ≡ true) node stands,
            subst (λ (t : Node × (ℕ × Node)). SetQuantified graph t.0 (drop t.1.0 set) t.1.1)
                (λ i. (node i, (number i, answer i))) found,
          )
    ]

module _ {S : Type 0} (law : StepByStep S) (laws : Cofactors) (growth : Growth) (old : TableState S) (before : SetCaches)
    (question : Question) (can : CanQuantifySet old before question.0) (own at : ℕ) (is : own ≡ level_of old.graph question.0)
    (later : drop at before.set.now ≡ from_level own (drop question.1 before.set.now)) where
  -- no level of the set stands at the node or behind it
  pub answered_itself : drop at before.set.now ≡ [] → IsAnswer quantifying_set old before question old before (Ok (Give question.0))
  answered_itself none =
      ends_later laws growth old can.sound.tied.reduced before question.0 can.stands own question.1 at is before.set.now later old before (Ok question.0)
      (ends_found law old before question.0 can at question.0
      (subst (λ (s : List ℕ). SetQuantified old.graph question.0 s question.0) (sym none) (by_none old.graph question.0 can.stands))
      before.found.now can.right)

  -- the result is kept
  pub answered_found : (found : ExistsCache) (w : Node) → HaveSame (quantifications before.found.now) (quantifications found)
      → Contains (quantifications found) (Quantification question.0 at w)
      → IsAnswer quantifying_set old before question old (with_found before found) (Ok (Give w))
  answered_found found w same there =
      let right = right_same old.graph before.set.now before.found.now found same can.right in
      ends_later laws growth old can.sound.tied.reduced before question.0 can.stands own question.1 at is before.set.now later old
      (with_found before found) (Ok w)
      (ends_found law old before question.0 can at w (right question.0 at w there).1 found right)

  -- or the node is split
  pub answered_open : Subfunctions → Keeping Pair Node same_pair → (found : ExistsCache) → found ≡ before.found.now → (p : SetSides)
      → AreSides old.graph before.set.now p → (p.node ≡ question.0) × (p.place ≡ at)
      → IsAnswer quantifying_set old before question old (with_found before found) (Ok (Open p))
  answered_open parts keeping found missed p sides asked =
      let can_node : CanQuantifySet old before p.node = subst (CanQuantifySet old before) (sym asked.0) can in
      let place : drop p.place before.set.now ≡ from_level own (drop question.1 before.set.now) =
      (λ i. drop (asked.1 i) before.set.now) ∙ later in
      let level : own ≡ level_of old.graph p.node = is ∙ (λ i. level_of old.graph (sym asked.0 i)) in
      subst (λ (c : ExistsCache). IsAnswer quantifying_set old before question old (with_found before c) (Ok (Open p))) (sym missed) (
        omega (arith, is, level, sides.own),
        set_opened law laws growth parts keeping old before p can_node sides
            (QuantifiesSet before.set.now old before question.0 question.1)
            (λ new after result ends. subst (λ (n : Node). QuantifiesSet before.set.now old before n question.1 new after result) asked.0
            (ends_later laws growth old can.sound.tied.reduced before p.node can_node.stands own question.1 p.place level before.set.now place new after result
            ends)),
      )

ok_both : (result : Answer) (P Q R : Node → Type 0) → ((w : Node) → P w → Q w → R w) → IfOk result P → IfOk result Q → IfOk result R
ok_both (Ok w) P Q R from first second = from w first second
ok_both (Err error) P Q R from first second = tt

module _ {S : Type 0} (laws : Cofactors) (growth : Growth) (old : TableState S) (before : SetCaches) (p : SetSides)
    (high low : Node) (can : CanCloseSet old before p high low) (new : TableState S) (result : Answer) where
  -- a part of the whole is one of some place
  part_of : (part : Levels → Bool)
      → IsSubfunction (some_values (drop p.place before.set.now) (function_of old.graph p.node)) part
      → IsFromPlace (function_of old.graph p.node) (drop p.place before.set.now) part
  part_of part is = part_whole (drop p.place before.set.now) can.sides.some (function_of old.graph p.node) part is

  -- at a level of the set: the disjunction of both sides
  pub combined_disjoined : p.chosen ≡ true → (ors : OrCache)
      → Runs old (disjunctions before.ors.now) (disjunction_of old.graph high low) new (disjunctions ors) result
      → RemembersDisjunctions before.ors.now ors → IfOk result (λ w. Disjoined new.graph high low w)
      → QuantifiesSet before.set.now old before p.node p.place new (record before { ors = record before.ors { now = ors } }) result
  combined_disjoined chosen ors runs remembers disjoined =
      let set = before.set.now in
      let reduced = can.can.sound.tied.reduced in
      let keeps = runs.steps.extends.nodes in
      let same = answers_disjoined laws old.graph reduced set p can.sides high low can.on_high can.on_low chosen in record {
        runs = for_function old (disjunctions before.ors.now)
            (IsFromPlace (function_of old.graph p.node) (drop p.place set)) new (disjunctions ors) result
            (some_values (drop p.place set) (function_of old.graph p.node)) part_of
            (subst (λ (f : Levels → Bool). Runs old (disjunctions before.ors.now) f new (disjunctions ors) result) same runs);
        remembers = remembers;
        right = λ whole. right_kept growth old.graph new.graph reduced keeps set before.found.now can.can.right;
        quantified = ok_from result (λ w. Disjoined new.graph high low w) (λ w. SetQuantified new.graph p.node (drop p.place set) w)
            (λ w found. set_disjoined growth old.graph new.graph reduced keeps set p can.sides high low w
            (high_answer_below laws old.graph reduced set p can.sides high low can.on_high can.on_low)
            (low_answer_below laws old.graph reduced set p can.sides high low can.on_high can.on_low) same found)
            disjoined;
        lent = record { set = refl; found = refl; ors = refl };
      }

  -- at another level: the node of both
  pub combined_joined : p.chosen ≡ false → Joins old p.own high low new result
      → QuantifiesSet before.set.now old before p.node p.place new before result
  combined_joined chosen joins =
      let set = before.set.now in
      let reduced = can.can.sound.tied.reduced in
      let function = some_values (drop p.place set) (function_of old.graph p.node) in
      let sides = answers_joined laws old.graph reduced set p can.sides high low can.on_high can.on_low chosen in
      let runs = joins.runs (disjunctions before.ors.now) function can.can.fits sides in
      let keeps = runs.steps.extends.nodes in record {
        runs = for_function old (disjunctions before.ors.now)
            (IsFromPlace (function_of old.graph p.node) (drop p.place set)) new (disjunctions before.ors.now) result function part_of runs;
        remembers = remembers_all disjunction before.ors.now.results;
        right = λ whole. right_kept growth old.graph new.graph reduced keeps set before.found.now can.can.right;
        quantified = ok_both result (λ w. HasChildren new.graph p.own high low w) (λ w. (a : Levels) → value_of new.graph a w ≡ function a)
            (λ w. SetQuantified new.graph p.node (drop p.place set) w)
            (λ w children value. set_joined growth old.graph new.graph reduced keeps set p can.sides high low w children value)
            joins.children (joins.value function sides);
        lent = record { set = refl; found = refl; ors = refl };
      }

module _ {S : Type 0} (set : List ℕ) (old : TableState S) (before : SetCaches) (u : Node) (place : ℕ) (new : TableState S)
    (after : SetCaches) (w : Node) (ends : QuantifiesSet set old before u place new after (Ok w)) where
  -- what was found is kept,
  pub closed_kept : Growth → is_node old.graph u ≡ true → (found : ExistsCache) (given : Option ℕ)
      → IsOneKept (quantifications after.found.now) (quantifications found) (Quantification u place w) given
      → QuantifiesSet set old before u place new (with_found after found) (Ok w)
  closed_kept growth stands found given kept = record {
    runs = ends.runs;
    remembers = ends.remembers;
    right = λ whole. right_more new.graph set after.found.now found u place w given kept
        (growth.stands old.graph new.graph ends.runs.steps.extends.nodes u stands) ends.quantified (ends.right no_error);
    quantified = ends.quantified;
    lent = record { set = ends.lent.set; found = ends.lent.found; ors = ends.lent.ors };
  }

  -- or there is no memory for it
  pub closed_refused : StepByStep S → Growth → (found : ExistsCache) → found ≡ after.found.now
      → QuantifiesSet set old before u place new (with_found after found) (Err OutOfMemory)
  closed_refused law growth found same = record {
    runs = for_further law old (disjunctions before.ors.now) (IsFromPlace (function_of old.graph u) (drop place set)) new
        (disjunctions after.ors.now) (Err OutOfMemory) growth new (disjunctions after.ors.now) w ends.runs
        (for_refused law new (disjunctions after.ors.now) (IsFromPlace (function_of old.graph u) (drop place set))
        ends.runs.steps.leaves.sound (disjunctions after.ors.now) (ends.runs.fits no_error));
    remembers = ends.remembers;
    right = λ whole. subst (AreRight new.graph set) (sym same) (ends.right no_error);
    quantified = tt;
    lent = record { set = ends.lent.set; found = ends.lent.found; ors = ends.lent.ors };
  }
