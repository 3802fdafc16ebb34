-- A quantification that is split: its sides may be called and closed, and however they end, the call has ended.
use Rattle.std.proofs.Common.{◌≡◌, ℕ, Bool, Result, Ok, Err, refl, ◌∙◌, arith, subst, sym}
use Rattle.std.specs.Prelude.{IfOk, IsErrAnd}
use Rattle.node_table.specs.declared.error.TableError.{TableError}
use Rattle.node_table.specs.declared.error.TableError.TheVariants.{OutOfMemory}
use Rattle.node_table.specs.declared.node.Node.{Node}
use Rattle.node_table.specs.HandedOn.{handed_on, no_error}
use Rattle.node_table.specs.Laws.{Cofactors, Growth, Reachability, StepByStep, Subfunctions}
use Rattle.node_table.specs.Made.{ReachesNew}
use Rattle.node_table.specs.Table.{TableState, IsSound}
use Rattle.node_table.specs.Value.{Levels, IsSubfunction}
use Rattle.operations.specs.declared.frames.Reply.{Reply}
use Rattle.operations.specs.declared.frames.Reply.TheVariants.{Open}
use Rattle.operations.specs.Results.{Quantified}
use Rattle.operations.specs.Ended.{reached_all}
use Rattle.operations.specs.Entries.{Fits, Fitting}
use Rattle.operations.specs.Machine.{AwaitsLow, HighCame, IsAnswer, IsOpened, LowCame}
use Rattle.quantify.specs.declared.quantify.Above.{Above}
use Rattle.quantify.specs.declared.quantify.BothCaches.{BothCaches}
use Rattle.operations.specs.Caches.{Keeping}
use Rattle.operations.specs.Pairs.{Pair, same_pair}
use Rattle.quantify.specs.ExistsCache.{Question, RemembersQuantifications, both_caches, quantification, same_question}
use Rattle.quantify.specs.OrCache.{RemembersDisjunctions, disjunction}
use Rattle.quantify.specs.Quantification.{AreLent, CanQuantify, Closes, IsAbove, IsMissed, Quantifies, quantification_of, quantifying}
use Rattle.quantify.specs.Runs.{Runs}
use Rattle.quantify.proofs.Lists.{remembers_all}
use Rattle.quantify.proofs.Quantifications.{above_kept, high_child_below, high_quantified_part, low_child_below, low_quantified_part}
use Rattle.quantify.proofs.Quantifications.{quantification_of-kept, quantified_kept}
use Rattle.quantify.proofs.Running.{Answer, runs_further, runs_part, runs_refused}

pub lent_further : (one two three : BothCaches) → AreLent one two → AreLent two three → AreLent one three
lent_further one two three first second = record { exists = second.exists ∙ first.exists; ors = second.ors ∙ first.ors }

pub lent_same : (caches : BothCaches) → AreLent caches caches
lent_same caches = record { exists = refl; ors = refl }

-- what both caches remember
record RemembersBoth (before after : BothCaches) : Type 0 where
  exists : RemembersQuantifications before.exists.now after.exists.now
  ors : RemembersDisjunctions before.ors.now after.ors.now
  lent : AreLent before after

both_further : Keeping Question Node same_question → Keeping Pair Node same_pair → (one two three : BothCaches) → RemembersBoth one two
    → RemembersBoth two three → RemembersBoth one three
both_further exists_keeping or_keeping one two three first second = record {
  exists = exists_keeping.further quantification one.exists.now.results two.exists.now.results three.exists.now.results first.exists
      second.exists;
  ors = or_keeping.further disjunction one.ors.now.results two.ors.now.results three.ors.now.results first.ors second.ors;
  lent = lent_further one two three first.lent second.lent;
}

both_same : (caches : BothCaches) → RemembersBoth caches caches
both_same caches = record {
  exists = remembers_all quantification caches.exists.now.results;
  ors = remembers_all disjunction caches.ors.now.results;
  lent = lent_same caches;
}

module _ {S : Type 0} where
  -- a whole call, as the machine sees it
  abbrev pub Ends : TableState S → BothCaches → Node → ℕ → TableState S → BothCaches → Answer → Type 0
  Ends old before u level new after result = Quantifies old before.exists.now before.ors.now u level new after.exists.now
      after.ors.now result × AreLent before after

  abbrev pub RunsWith : TableState S → BothCaches → (Levels → Bool) → TableState S → BothCaches → Answer → Type 0
  RunsWith old before function new after result = Runs old (both_caches before.exists.now before.ors.now) function new
      (both_caches after.exists.now after.ors.now) result

module _ {S : Type 0} where
  both_of : (old : TableState S) (before : BothCaches) (u : Node) (level : ℕ) (new : TableState S) (after : BothCaches) (result : Answer)
      → Ends old before u level new after result → RemembersBoth before after
  both_of old before u level new after result ends = record { exists = ends.0.remembers; ors = ends.0.remembers_ors; lent = ends.1 }

  module _ (law : StepByStep S) (exists_keeping : Keeping Question Node same_question)
      (or_keeping : Keeping Pair Node same_pair) (laws : Cofactors) (growth : Growth) (fitting : Fitting S) (parts : Subfunctions)
      (paths : Reachability)
      (old : TableState S) (before : BothCaches) (sound : IsSound old) (fits : Fits old (both_caches before.exists.now before.ors.now))
      (p : Above) (above : IsAbove old.graph p) (missed : IsMissed before.exists.now p.node p.level) where
    -- the call failed
    failed : (new : TableState S) (after : BothCaches) (came : TableError)
        → RunsWith old before (quantification_of old.graph p.node p.level) new after (Err came)
        → RemembersBoth before after
        → Ends old before p.node p.level new after (Err came)
    failed new after came runs both = (
      record {
        runs = runs;
        remembers = both.exists;
        remembers_ors = both.ors;
        quantified = tt;
        reachable = tt;
        kept = λ at. tt;
        known = λ w there. absurd (missed w there);
        plain = λ below. absurd (omega (arith, below, above.own, above.above));
      },
      both.lent,
    )

    module _ (one : TableState S) (caches_one : BothCaches) (high : Node)
        (by_high : Ends old before p.high p.level one caches_one (Ok high)) where
      sound_one : IsSound one
      sound_one = by_high.0.runs.steps.leaves.sound

      above_one : IsAbove one.graph p
      above_one = above_kept growth old.graph one.graph by_high.0.runs.steps.extends.nodes p above

      both_one : RemembersBoth before caches_one
      both_one = both_of old before p.high p.level one caches_one (Ok high) by_high

      runs_one : RunsWith old before (quantification_of old.graph p.node p.level) one caches_one (Ok high)
      runs_one =
          runs_part law parts old (both_caches before.exists.now before.ors.now) (quantification_of old.graph p.node p.level) one
          (both_caches caches_one.exists.now caches_one.ors.now) (Ok high)
          (quantification_of old.graph p.high p.level) (high_quantified_part laws old.graph sound.tied.reduced p above parts) by_high.0.runs

      low_is_part : IsSubfunction (quantification_of old.graph p.node p.level) (quantification_of one.graph p.low p.level)
      low_is_part =
          subst (λ (f : Levels → Bool). IsSubfunction f (quantification_of one.graph p.low p.level))
          (quantification_of-kept growth old.graph one.graph sound.tied.reduced by_high.0.runs.steps.extends.nodes p.node p.level
          above.stands)
          (low_quantified_part laws one.graph sound_one.tied.reduced p above_one parts)

      -- what the low side adds to the high one, however it ends
      runs_low : (two : TableState S) (caches_two : BothCaches) (by : Answer)
          → RunsWith one caches_one (quantification_of one.graph p.low p.level) two caches_two by
          → RunsWith old before (quantification_of old.graph p.node p.level) two caches_two by
      runs_low two caches_two by runs =
          runs_further law parts old (both_caches before.exists.now before.ors.now) (quantification_of old.graph p.node p.level) two
          (both_caches caches_two.exists.now caches_two.ors.now) by
          one (both_caches caches_one.exists.now caches_one.ors.now) high runs_one
          (runs_part law parts one (both_caches caches_one.exists.now caches_one.ors.now) (quantification_of old.graph p.node p.level) two
          (both_caches caches_two.exists.now caches_two.ors.now) by
          (quantification_of one.graph p.low p.level) low_is_part runs)

      low_failed : (two : TableState S) (caches_two : BothCaches) (came : TableError)
          → RunsWith one caches_one (quantification_of one.graph p.low p.level) two caches_two (Err came)
          → RemembersBoth caches_one caches_two
          → Ends old before p.node p.level two caches_two (Err came)
      low_failed two caches_two came runs both = failed two caches_two came (runs_low two caches_two (Err came) runs)
          (both_further exists_keeping or_keeping before caches_one caches_two both_one both)

      module _ (two : TableState S) (caches_two : BothCaches) (low : Node)
          (by_low : Ends one caches_one p.low p.level two caches_two (Ok low)) where
        on_high : Quantified two.graph p.high p.level high
        on_high =
            quantified_kept fitting one two sound_one by_low.0.runs.steps.extends p.high p.level high
            (high_child_below laws one.graph sound_one.tied.reduced p above_one).stands by_high.0.quantified

        asked_two : quantification_of two.graph p.node p.level ≡ quantification_of old.graph p.node p.level
        asked_two =
            quantification_of-kept growth one.graph two.graph sound_one.tied.reduced by_low.0.runs.steps.extends.nodes p.node p.level
            above_one.stands
            ∙ quantification_of-kept growth old.graph one.graph sound.tied.reduced by_high.0.runs.steps.extends.nodes p.node p.level
            above.stands

        both_two : RemembersBoth before caches_two
        both_two = both_further exists_keeping or_keeping before caches_one caches_two both_one
            (both_of one caches_one p.low p.level two caches_two (Ok low) by_low)

        -- the step that closes the call
        module _ (three : TableState S) (caches_three : BothCaches) where
          reached : (result : Answer)
              → Closes two caches_two.exists.now caches_two.ors.now p high low three caches_three.exists.now
              caches_three.ors.now result → IfOk result (λ w. ReachesNew old.graph three.graph w)
          reached (Err came) closes = tt
          reached (Ok w) closes =
              reached_all paths old.graph one.graph two.graph three.graph sound_one.tied.reduced
              by_low.0.runs.steps.leaves.sound.tied.reduced by_low.0.runs.steps.extends.nodes closes.runs.steps.extends.nodes
              p.own high low w by_high.0.quantified.stands by_low.0.quantified.stands by_high.0.reachable by_low.0.reachable
              closes.reachable closes.children

          closed : (result : Answer)
              → Closes two caches_two.exists.now caches_two.ors.now p high low three caches_three.exists.now
              caches_three.ors.now result × AreLent caches_two caches_three
              → Ends old before p.node p.level three caches_three result
          closed result (closes, same) = (
            record {
              runs = runs_further law parts old (both_caches before.exists.now before.ors.now)
                  (quantification_of old.graph p.node p.level) three (both_caches caches_three.exists.now caches_three.ors.now) result
                  two (both_caches caches_two.exists.now caches_two.ors.now) low (runs_low two caches_two (Ok low) by_low.0.runs)
                  (subst (λ (f : Levels → Bool). RunsWith two caches_two f three caches_three result) asked_two
                  closes.runs);
              remembers = exists_keeping.makes_room quantification before.exists.now.results caches_two.exists.now.results
                  caches_three.exists.now.results (p.node, p.level) missed both_two.exists closes.room;
              remembers_ors = subst (RemembersDisjunctions before.ors.now) (sym closes.same_ors) both_two.ors;
              quantified = closes.quantified;
              reachable = reached result closes;
              kept = λ at. closes.kept;
              known = λ w there. absurd (missed w there);
              plain = λ below. absurd (omega (arith, below, above.own, above.above));
            },
            lent_further before caches_two caches_three both_two.lent same,
          )

      low_came : (two : TableState S) (caches_two : BothCaches) (result : Answer)
          → Ends one caches_one p.low p.level two caches_two result
          → LowCame (quantifying) (Ends old before p.node p.level) p high two caches_two result
      low_came two caches_two (Err came) by_low = low_failed two caches_two came by_low.0.runs
          (both_of one caches_one p.low p.level two caches_two (Err came) by_low)
      low_came two caches_two (Ok low) by_low = record {
        ready = record {
          sound = by_low.0.runs.steps.leaves.sound;
          fits = by_low.0.runs.fits no_error;
          above = above_kept growth one.graph two.graph by_low.0.runs.steps.extends.nodes p above_one;
          on_high = on_high two caches_two low by_low;
          on_low = by_low.0.quantified;
        };
        closes = closed two caches_two low by_low;
      }

      awaits_low : AwaitsLow (quantifying) (Ends old before p.node p.level) one caches_one p high
          (p.low, p.level)
      awaits_low =
          let child = low_child_below laws one.graph sound_one.tied.reduced p above_one in record {
            refused = low_failed one caches_one OutOfMemory
                (runs_refused law parts one (both_caches caches_one.exists.now caches_one.ors.now)
                (quantification_of one.graph p.low p.level) sound_one (both_caches caches_one.exists.now caches_one.ors.now)
                (by_high.0.runs.fits no_error))
                (both_same caches_one);
            ready = record { sound = sound_one; stands = child.stands; within = above_one.level; fits = by_high.0.runs.fits no_error };
            later = child.below;
            low = low_came;
          }

    high_came : (one : TableState S) (caches_one : BothCaches) (result : Answer)
        → Ends old before p.high p.level one caches_one result
        → HighCame (quantifying) (Ends old before p.node p.level) p one caches_one result
    high_came one caches_one (Err came) by_high =
        failed one caches_one came
        (runs_part law parts old (both_caches before.exists.now before.ors.now) (quantification_of old.graph p.node p.level) one
        (both_caches caches_one.exists.now caches_one.ors.now) (Err came)
        (quantification_of old.graph p.high p.level) (high_quantified_part laws old.graph sound.tied.reduced p above parts) by_high.0.runs)
        (both_of old before p.high p.level one caches_one (Err came) by_high)
    high_came one caches_one (Ok high) by_high = awaits_low one caches_one high by_high

    pub opened : IsOpened (quantifying) (Ends old before p.node p.level) old before p
    opened =
        let child = high_child_below laws old.graph sound.tied.reduced p above in record {
          refused = failed old before OutOfMemory
              (runs_refused law parts old (both_caches before.exists.now before.ors.now) (quantification_of old.graph p.node p.level) sound
              (both_caches before.exists.now before.ors.now) fits) (both_same before);
          level = omega (arith, above.above, above.level);
          ready = record { sound = sound; stands = child.stands; within = above.level; fits = fits };
          later = child.below;
          high = high_came;
        }

module _ {S : Type 0} where
  -- a call that failed before it was split
  pub failed_answer : (old : TableState S) (before after : BothCaches) (question : Question) (new : TableState S)
      (result : Result (Reply Above Node) TableError) (came : TableError) → IsErrAnd result (λ e. e ≡ came)
      → Ends old before question.0 question.1 new after (Err came)
      → IsAnswer (quantifying) old before question new after result
  failed_answer old before after question new result came handed ends =
      subst (λ (r : Result (Reply Above Node) TableError). IsAnswer (quantifying) old before question new after r)
      (sym (handed_on result came came handed refl)) ends

  -- a call that is split, with nothing changed
  pub split_answered : StepByStep S → Keeping Question Node same_question → Keeping Pair Node same_pair → Cofactors → Growth
      → Fitting S → Subfunctions → Reachability → (old new : TableState S) → new ≡ old → (before after : BothCaches) → after ≡ before
      → (question : Question)
      → CanQuantify old before.exists.now before.ors.now question.0 question.1 → IsMissed before.exists.now question.0 question.1
      → (p : Above) → IsAbove new.graph p → (p.node ≡ question.0) × (p.level ≡ question.1)
      → IsAnswer (quantifying) old before question new after (Ok (Open p))
  split_answered law exists_keeping or_keeping laws growth fitting parts paths old new same before after same_caches question can missed p
      above asked =
      let above_old : IsAbove old.graph p = subst (λ (t : TableState S). IsAbove t.graph p) same above in
      let own : (p.node, p.level) ≡ question = λ i. (asked.0 i, asked.1 i) in
      let missed_own : IsMissed before.exists.now p.node p.level = subst (λ (q : Question). IsMissed before.exists.now q.0 q.1)
      (sym own) missed in
      let answer : IsAnswer (quantifying) old before (p.node, p.level) old before (Ok (Open p)) = (
        omega (arith, above_old.own),
        opened law exists_keeping or_keeping laws growth fitting parts paths old before can.sound can.fits p
            above_old missed_own,
      ) in
      subst (λ (t : TableState S). IsAnswer (quantifying) old before question t after (Ok (Open p))) (sym same)
      (subst (λ (c : BothCaches). IsAnswer (quantifying) old before question old c (Ok (Open p))) (sym same_caches)
      (subst (λ (q : Question). IsAnswer (quantifying) old before q old before (Ok (Open p))) own answer))
