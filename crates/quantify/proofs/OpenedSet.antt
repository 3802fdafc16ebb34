-- A quantification by a set of levels: a call that is answered, and one that is split, whose sides may be called and closed, and
-- however they end, the call has ended.
use Rattle.std.proofs.Common.{◌≡◌, ◌∙◌, ◌<◌, ◌^◌, ℕ, Bool, true, List, Ok, Err, refl, sym, subst, ap, arith, drop, length}
use Rattle.std.specs.Prelude.{IfOk}
use Rattle.node_table.specs.declared.error.TableError.{TableError}
use Rattle.node_table.specs.declared.error.TableError.TheVariants.{OutOfMemory}
use Rattle.node_table.specs.declared.node.Node.{Node}
use Rattle.node_table.specs.Diagram.{IsReduced, KeepsNodes, is_node, level_of, levels}
use Rattle.node_table.specs.HandedOn.{no_error}
use Rattle.node_table.specs.Laws.{Cofactors, Growth, StepByStep, Subfunctions}
use Rattle.node_table.specs.Table.{TableState, IsSound, UnlessTorn}
use Rattle.node_table.specs.Value.{Levels}
use Rattle.operations.specs.Caches.{Keeping}
use Rattle.operations.specs.Machine.{AwaitsLow, HighCame, IsOpened, LowCame, Outcome}
use Rattle.operations.specs.Pairs.{Pair, same_pair}
use Rattle.quantify.specs.declared.quantify_set.SetCaches.{SetCaches}
use Rattle.quantify.specs.declared.quantify_set.SetSides.{SetSides}
use Rattle.quantify.specs.ExistsCache.{ExistsCache}
use Rattle.quantify.specs.OrCache.{RemembersDisjunctions, disjunction, disjunctions}
use Rattle.quantify.specs.RunsFor.{Kind, RunsFor}
use Rattle.quantify.specs.SetQuantification.{AreLent, AreRight, AreSides, CanQuantifySet, QuantifiesSet, from_level, quantifying_set}
use Rattle.quantify.specs.SomeValues.{AreLevels, AreRising, IsFromPlace, SetQuantified, function_of}
use Rattle.quantify.proofs.Lists.{remembers_all}
use Rattle.quantify.proofs.Running.{Answer}
use Rattle.quantify.proofs.RunningFor.{for_further, for_kind, for_none, for_refused, function_kept}
use Rattle.quantify.proofs.SetQuantifications.{function_from, high_places, high_side_below, low_places, low_side_below, quantified_later, set_kept}
use Rattle.quantify.proofs.SetQuantifications.{sides_kept}
use Rattle.quantify.proofs.SomeValues.{part_later}

pub lent_on : (one two three : SetCaches) → AreLent one two → AreLent two three → AreLent one three
lent_on one two three first second = record {
  set = second.set ∙ first.set;
  found = second.found ∙ first.found;
  ors = second.ors ∙ first.ors;
}

pub lent_still : (caches : SetCaches) → AreLent caches caches
lent_still caches = record { set = refl; found = refl; ors = refl }

-- with these results kept in place of those that were
abbrev pub with_found : SetCaches → ExistsCache → SetCaches
with_found caches found = record caches { found = record caches.found { now = found } }

same_set : (before after : SetCaches) → AreLent before after → after.set.now ≡ before.set.now
same_set before after lent = λ i. (lent.set i).now

module _ {S : Type 0} where
  -- a call for the levels from that of its node on is one for those from an earlier place on
  pub ends_later : Cofactors → Growth → (old : TableState S) → IsReduced old.graph → (before : SetCaches) (u : Node) → is_node old.graph u ≡ true
      → (own place at : ℕ) → own ≡ level_of old.graph u → (set : List ℕ) → drop at set ≡ from_level own (drop place set)
      → (new : TableState S) (after : SetCaches) (result : Answer)
      → QuantifiesSet set old before u at new after result → QuantifiesSet set old before u place new after result
  ends_later laws growth old reduced before u stands own place at is set later new after result ends = record {
    runs = for_kind old (disjunctions before.ors.now) (IsFromPlace (function_of old.graph u) (drop place set)) new
        (disjunctions after.ors.now) result (IsFromPlace (function_of old.graph u) (drop at set))
        (λ part one. part_later own (drop place set) (function_of old.graph u) part
        (function_from laws old.graph reduced own u stands (omega (arith, is)))
        (subst (λ (s : List ℕ). IsFromPlace (function_of old.graph u) s part) later one)) ends.runs;
    remembers = ends.remembers;
    right = ends.right;
    quantified = found result ends;
    lent = ends.lent;
  }
    where
      found : (by : Answer) → QuantifiesSet set old before u at new after by → IfOk by (λ w. SetQuantified new.graph u (drop place set) w)
      found (Err came) ends = tt
      found (Ok w) ends =
          let keeps = ends.runs.steps.extends.nodes in
          let level : level_of new.graph u ≡ level_of old.graph u = growth.level old.graph new.graph keeps u stands in
          quantified_later laws new.graph ends.runs.steps.leaves.sound.tied.reduced own u
          (growth.stands old.graph new.graph keeps u stands) (omega (arith, is, level)) (drop place set) w
          (subst (λ (s : List ℕ). SetQuantified new.graph u s w) later ends.quantified)

  -- nothing changes but the order of the results that are kept
  pub ends_found : StepByStep S → (old : TableState S) (before : SetCaches) (u : Node) → CanQuantifySet old before u
      → (place : ℕ) (w : Node) → SetQuantified old.graph u (drop place before.set.now) w → (found : ExistsCache)
      → AreRight old.graph before.set.now found
      → QuantifiesSet before.set.now old before u place old (with_found before found) (Ok w)
  ends_found law old before u can place w is found right = record {
    runs = for_none law old (disjunctions before.ors.now) (IsFromPlace (function_of old.graph u) (drop place before.set.now)) can.sound
        (disjunctions before.ors.now) can.fits w;
    remembers = remembers_all disjunction before.ors.now.results;
    right = λ whole. right;
    quantified = is;
    lent = record { set = refl; found = refl; ors = refl };
  }

  -- what a further call may begin with
  can_after : Growth → (old : TableState S) (before : SetCaches) (u : Node) → CanQuantifySet old before u
      → (kind : Kind) (new : TableState S) (after : SetCaches) (w : Node)
      → RunsFor old (disjunctions before.ors.now) kind new (disjunctions after.ors.now) (Ok w) → AreLent before after
      → AreRight new.graph before.set.now after.found.now → (v : Node) → is_node new.graph v ≡ true → CanQuantifySet new after v
  can_after growth old before u can kind new after w runs lent right v stands =
      let set : before.set.now ≡ after.set.now = sym (same_set before after lent) in
      let order : levels old.graph ≡ levels new.graph = sym (ap length runs.steps.extends.nodes.order) in record {
        sound = runs.steps.leaves.sound;
        stands = stands;
        set = subst (λ (s : List ℕ). AreLevels new.graph s) set (subst (λ (n : ℕ). AreRising 0 n before.set.now) order can.set);
        short = subst (λ (s : List ℕ). length s < 2 ^ 32) set can.short;
        fits = runs.fits no_error;
        right = subst (λ (s : List ℕ). AreRight new.graph s after.found.now) set right;
      }

module _ {S : Type 0} (law : StepByStep S) (laws : Cofactors) (growth : Growth) (parts : Subfunctions)
    (keeping : Keeping Pair Node same_pair) (old : TableState S) (before : SetCaches) (p : SetSides)
    (can : CanQuantifySet old before p.node) (sides : AreSides old.graph before.set.now p) (rest : Outcome S SetCaches Node)
    (from : (new : TableState S) (after : SetCaches) (result : Answer)
    → QuantifiesSet before.set.now old before p.node p.place new after result → rest new after result) where
  abbrev set : List ℕ
  set = before.set.now

  abbrev kind : Kind
  kind = IsFromPlace (function_of old.graph p.node) (drop p.place set)

  abbrev RunsTo : TableState S → SetCaches → Answer → Type 0
  RunsTo new after result = RunsFor old (disjunctions before.ors.now) kind new (disjunctions after.ors.now) result

  -- the call failed
  failed : (new : TableState S) (after : SetCaches) (came : TableError) → RunsTo new after (Err came)
      → RemembersDisjunctions before.ors.now after.ors.now → UnlessTorn {T = Node} (Err came) (AreRight new.graph set after.found.now)
      → AreLent before after → rest new after (Err came)
  failed new after came runs remembers right lent = from new after (Err came)
      (record { runs = runs; remembers = remembers; right = right; quantified = tt; lent = lent })

  high_runs : (one : TableState S) (caches_one : SetCaches) (result : Answer)
      → QuantifiesSet set old before p.high p.next one caches_one result → RunsTo one caches_one result
  high_runs one caches_one result by_high =
      for_kind old (disjunctions before.ors.now) kind one (disjunctions caches_one.ors.now) result
      (IsFromPlace (function_of old.graph p.high) (drop p.next set))
      (high_places laws old.graph can.sound.tied.reduced set p sides parts) by_high.runs

  module _ (one : TableState S) (caches_one : SetCaches) (high : Node)
      (by_high : QuantifiesSet set old before p.high p.next one caches_one (Ok high)) where
    sound_one : IsSound one
    sound_one = by_high.runs.steps.leaves.sound

    keeps_one : KeepsNodes old.graph one.graph
    keeps_one = by_high.runs.steps.extends.nodes

    sides_one : AreSides one.graph set p
    sides_one = sides_kept growth old.graph one.graph can.sound.tied.reduced keeps_one set p sides

    can_one : (v : Node) → is_node one.graph v ≡ true → CanQuantifySet one caches_one v
    can_one = can_after growth old before p.node can kind one caches_one high (high_runs one caches_one (Ok high) by_high) by_high.lent
        (by_high.right no_error)

    set_one : caches_one.set.now ≡ set
    set_one = same_set before caches_one by_high.lent

    -- what the low side adds to the high one, however it ends
    low_runs : (two : TableState S) (caches_two : SetCaches) (result : Answer)
        → QuantifiesSet set one caches_one p.low p.next two caches_two result → RunsTo two caches_two result
    low_runs two caches_two result by_low =
        for_further law old (disjunctions before.ors.now) kind two (disjunctions caches_two.ors.now) result growth one
        (disjunctions caches_one.ors.now) high (high_runs one caches_one (Ok high) by_high)
        (for_kind one (disjunctions caches_one.ors.now) kind two (disjunctions caches_two.ors.now) result
        (IsFromPlace (function_of one.graph p.low) (drop p.next set))
        (λ part is. subst (λ (f : Levels → Bool). IsFromPlace f (drop p.place set) part)
        (function_kept growth old.graph one.graph can.sound.tied.reduced keeps_one p.node sides.stands)
        (low_places laws one.graph sound_one.tied.reduced set p sides_one parts part is)) by_low.runs)

    remembers_low : (caches_two : SetCaches) → RemembersDisjunctions caches_one.ors.now caches_two.ors.now
        → RemembersDisjunctions before.ors.now caches_two.ors.now
    remembers_low caches_two next = keeping.further disjunction before.ors.now.results caches_one.ors.now.results
        caches_two.ors.now.results by_high.remembers next

    module _ (two : TableState S) (caches_two : SetCaches) (low : Node)
        (by_low : QuantifiesSet set one caches_one p.low p.next two caches_two (Ok low)) where
      keeps_two : KeepsNodes one.graph two.graph
      keeps_two = by_low.runs.steps.extends.nodes

      lent_two : AreLent before caches_two
      lent_two = lent_on before caches_one caches_two by_high.lent by_low.lent

      -- the step that closes the call
      closed : (three : TableState S) (caches_three : SetCaches) (result : Answer)
          → QuantifiesSet caches_two.set.now two caches_two p.node p.place three caches_three result → rest three caches_three result
      closed three caches_three result closes =
          let by : QuantifiesSet set two caches_two p.node p.place three caches_three result =
          subst (λ (s : List ℕ). QuantifiesSet s two caches_two p.node p.place three caches_three result)
          (same_set before caches_two lent_two) closes in
          let function = function_kept growth one.graph two.graph sound_one.tied.reduced keeps_two p.node sides_one.stands
          ∙ function_kept growth old.graph one.graph can.sound.tied.reduced keeps_one p.node sides.stands in
          from three caches_three result (record {
            runs = for_further law old (disjunctions before.ors.now) kind three (disjunctions caches_three.ors.now) result growth two
                (disjunctions caches_two.ors.now) low (low_runs two caches_two (Ok low) by_low)
                (subst (λ (f : Levels → Bool). RunsFor two (disjunctions caches_two.ors.now) (IsFromPlace f (drop p.place set)) three
                (disjunctions caches_three.ors.now) result) function by.runs);
            remembers = keeping.further disjunction before.ors.now.results caches_two.ors.now.results caches_three.ors.now.results
                (remembers_low caches_two by_low.remembers) by.remembers;
            right = by.right;
            quantified = by.quantified;
            lent = lent_on before caches_two caches_three lent_two by.lent;
          })

      on_high : SetQuantified two.graph p.high (drop p.next set) high
      on_high = set_kept growth one.graph two.graph sound_one.tied.reduced keeps_two p.high (drop p.next set) high
          (high_side_below laws one.graph sound_one.tied.reduced set p sides_one).stands by_high.quantified

    low_came : (two : TableState S) (caches_two : SetCaches) (result : Answer)
        → QuantifiesSet caches_one.set.now one caches_one p.low p.next two caches_two result
        → LowCame quantifying_set rest p high two caches_two result
    low_came two caches_two (Err came) ends =
        let by_low : QuantifiesSet set one caches_one p.low p.next two caches_two (Err came) =
        subst (λ (s : List ℕ). QuantifiesSet s one caches_one p.low p.next two caches_two (Err came)) set_one ends in
        failed two caches_two came (low_runs two caches_two (Err came) by_low) (remembers_low caches_two by_low.remembers) by_low.right
        (lent_on before caches_one caches_two by_high.lent by_low.lent)
    low_came two caches_two (Ok low) ends =
        let by_low : QuantifiesSet set one caches_one p.low p.next two caches_two (Ok low) =
        subst (λ (s : List ℕ). QuantifiesSet s one caches_one p.low p.next two caches_two (Ok low)) set_one ends in
        let sides_two : AreSides two.graph set p = sides_kept growth one.graph two.graph sound_one.tied.reduced
        (keeps_two two caches_two low by_low) set p sides_one in
        let same : set ≡ caches_two.set.now = sym (same_set before caches_two (lent_two two caches_two low by_low)) in record {
          ready = record {
            can = can_after growth old before p.node can kind two caches_two low (low_runs two caches_two (Ok low) by_low)
                (lent_two two caches_two low by_low) (by_low.right no_error) p.node sides_two.stands;
            sides = subst (λ (s : List ℕ). AreSides two.graph s p) same sides_two;
            on_high = subst (λ (s : List ℕ). SetQuantified two.graph p.high (drop p.next s) high) same (on_high two caches_two low by_low);
            on_low = subst (λ (s : List ℕ). SetQuantified two.graph p.low (drop p.next s) low) same by_low.quantified;
          };
          closes = closed two caches_two low by_low;
        }

    awaits_low : AwaitsLow quantifying_set rest one caches_one p high (p.low, p.next)
    awaits_low =
        let child = low_side_below laws one.graph sound_one.tied.reduced set p sides_one in record {
          refused = failed one caches_one OutOfMemory
              (for_further law old (disjunctions before.ors.now) kind one (disjunctions caches_one.ors.now) (Err OutOfMemory) growth one
              (disjunctions caches_one.ors.now) high (high_runs one caches_one (Ok high) by_high)
              (for_refused law one (disjunctions caches_one.ors.now) kind sound_one (disjunctions caches_one.ors.now)
              (by_high.runs.fits no_error)))
              by_high.remembers (λ whole. by_high.right no_error) by_high.lent;
          ready = can_one p.low child.stands;
          later = child.below;
          low = low_came;
        }

  high_came : (one : TableState S) (caches_one : SetCaches) (result : Answer)
      → QuantifiesSet set old before p.high p.next one caches_one result → HighCame quantifying_set rest p one caches_one result
  high_came one caches_one (Err came) by_high = failed one caches_one came (high_runs one caches_one (Err came) by_high)
      by_high.remembers by_high.right by_high.lent
  high_came one caches_one (Ok high) by_high = awaits_low one caches_one high by_high

  pub set_opened : IsOpened quantifying_set rest old before p
  set_opened =
      let child = high_side_below laws old.graph can.sound.tied.reduced set p sides in record {
        refused = failed old before OutOfMemory (for_refused law old (disjunctions before.ors.now) kind can.sound
            (disjunctions before.ors.now) can.fits) (remembers_all disjunction before.ors.now.results) (λ whole. can.right)
            (lent_still before);
        level = sides.within;
        ready = record { sound = can.sound; stands = child.stands; set = can.set; short = can.short; fits = can.fits; right = can.right };
        later = child.below;
        high = high_came;
      }
