-- A disjunction that is split: its sides may be called and closed, and however they end, the call has ended.
use Rattle.std.proofs.Common.{◌≡◌, Bool, List, Ok, Err, ◌∙◌, subst, sym}
use Rattle.std.specs.Prelude.{IfOk}
use Rattle.node_table.specs.declared.error.TableError.{TableError}
use Rattle.node_table.specs.declared.error.TableError.TheVariants.{OutOfMemory}
use Rattle.node_table.specs.declared.node.Node.{Node}
use Rattle.node_table.specs.Diagram.{level_of}
use Rattle.node_table.specs.HandedOn.{no_error}
use Rattle.node_table.specs.Laws.{Growth, Reachability, StepByStep, Subfunctions}
use Rattle.node_table.specs.Made.{ReachesNew}
use Rattle.node_table.specs.Table.{TableState, IsSound}
use Rattle.node_table.specs.Value.{Levels, IsSubfunction}
use Rattle.operations.specs.declared.operands.Operands.{Operands}
use Rattle.operations.specs.declared.frames.Reply.TheVariants.{Open}
use Rattle.operations.specs.Ended.{reached_all}
use Rattle.operations.specs.Operands.{both_later, no_later, AreSplit, Splitting}
use Rattle.operations.specs.Results.{Disjoined}
use Rattle.operations.specs.Entries.{Entry, Fits, Fitting}
use Rattle.operations.specs.Machine.{AwaitsLow, HighCame, IsAnswer, IsOpened, LowCame}
use Rattle.operations.specs.Caches.{Keeping}
use Rattle.operations.specs.Pairs.{Pair, same_pair}
use Rattle.quantify.specs.OrCache.{OrCache, RemembersDisjunctions, disjunction, disjunctions}
use Rattle.quantify.specs.Disjunction.{CanDisjoin, Closes, Disjoins, IsUnknown, disjoining, disjunction_of}
use Rattle.quantify.specs.Runs.{Runs}
use Rattle.quantify.proofs.Disjunctions.{disjoined_kept, disjunction_of-kept, high_part, low_part, not_plain}
use Rattle.quantify.proofs.Lists.{remembers_all}
use Rattle.quantify.proofs.Running.{Answer, runs_further, runs_part, runs_refused}

module _ {S : Type 0} (law : StepByStep S) (keeping : Keeping Pair Node same_pair) (splits : Splitting) (growth : Growth)
    (fitting : Fitting S) (parts : Subfunctions) (paths : Reachability)
    (old : TableState S) (before : OrCache) (sound : IsSound old) (fits : Fits old (disjunctions before)) (o : Operands)
    (split : AreSplit old.graph o) (unknown : IsUnknown old.graph before o.u o.v) where
  -- the call failed
  failed : (new : TableState S) (after : OrCache) (came : TableError)
      → Runs old (disjunctions before) (disjunction_of old.graph o.u o.v) new (disjunctions after) (Err came)
      → RemembersDisjunctions before after → Disjoins old before o.u o.v new after (Err came)
  failed new after came runs remembers = record {
    runs = runs;
    remembers = remembers;
    disjoined = tt;
    reachable = tt;
    kept = λ differ first second. tt;
    known = λ w there. absurd (unknown.none w there);
    plain = λ w plain. absurd (not_plain old.graph o.u o.v w unknown.differ unknown.first unknown.second plain);
  }

  module _ (one : TableState S) (cache_one : OrCache) (high : Node)
      (by_high : Disjoins old before o.u_high o.v_high one cache_one (Ok high)) where
    sound_one : IsSound one
    sound_one = by_high.runs.steps.leaves.sound

    split_one : AreSplit one.graph o
    split_one = splits.kept old.graph one.graph by_high.runs.steps.extends.nodes o split

    runs_one : Runs old (disjunctions before) (disjunction_of old.graph o.u o.v) one (disjunctions cache_one) (Ok high)
    runs_one =
        runs_part law parts old (disjunctions before) (disjunction_of old.graph o.u o.v) one (disjunctions cache_one) (Ok high)
        (disjunction_of old.graph o.u_high o.v_high) (high_part splits old.graph sound.tied.reduced o split parts) by_high.runs

    low_is_part : IsSubfunction (disjunction_of old.graph o.u o.v) (disjunction_of one.graph o.u_low o.v_low)
    low_is_part =
        subst (λ (f : Levels → Bool). IsSubfunction f (disjunction_of one.graph o.u_low o.v_low))
        (disjunction_of-kept growth old.graph one.graph sound.tied.reduced by_high.runs.steps.extends.nodes o.u o.v
        (splits.first old.graph o split) (splits.second old.graph o split))
        (low_part splits one.graph sound_one.tied.reduced o split_one parts)

    -- what the low side adds to the high one, however it ends
    runs_low : (two : TableState S) (listed : List Entry) (by : Answer)
        → Runs one (disjunctions cache_one) (disjunction_of one.graph o.u_low o.v_low) two listed by
        → Runs old (disjunctions before) (disjunction_of old.graph o.u o.v) two listed by
    runs_low two listed by runs =
        runs_further law parts old (disjunctions before) (disjunction_of old.graph o.u o.v) two listed by one
        (disjunctions cache_one) high runs_one
        (runs_part law parts one (disjunctions cache_one) (disjunction_of old.graph o.u o.v) two listed by
        (disjunction_of one.graph o.u_low o.v_low) low_is_part runs)

    remembers_low : (cache_two : OrCache) → RemembersDisjunctions cache_one cache_two
        → RemembersDisjunctions before cache_two
    remembers_low cache_two next =
        keeping.further disjunction before.results cache_one.results cache_two.results by_high.remembers next

    low_failed : (two : TableState S) (cache_two : OrCache) (came : TableError)
        → Runs one (disjunctions cache_one) (disjunction_of one.graph o.u_low o.v_low) two (disjunctions cache_two)
        (Err came)
        → RemembersDisjunctions cache_one cache_two → Disjoins old before o.u o.v two cache_two (Err came)
    low_failed two cache_two came runs remembers = failed two cache_two came (runs_low two (disjunctions cache_two) (Err came) runs)
        (remembers_low cache_two remembers)

    module _ (two : TableState S) (cache_two : OrCache) (low : Node)
        (by_low : Disjoins one cache_one o.u_low o.v_low two cache_two (Ok low)) where
      on_high : Disjoined two.graph o.u_high o.v_high high
      on_high =
          disjoined_kept fitting one two sound_one by_low.runs.steps.extends o.u_high o.v_high high
          (splits.u_high one.graph sound_one.tied.reduced o split_one).stands
          (splits.v_high one.graph sound_one.tied.reduced o split_one).stands
          by_high.disjoined

      asked_two : disjunction_of two.graph o.u o.v ≡ (disjunction_of old.graph o.u o.v)
      asked_two =
          disjunction_of-kept growth one.graph two.graph sound_one.tied.reduced by_low.runs.steps.extends.nodes o.u o.v
          (splits.first one.graph o split_one) (splits.second one.graph o split_one)
          ∙ disjunction_of-kept growth old.graph one.graph sound.tied.reduced by_high.runs.steps.extends.nodes o.u o.v
          (splits.first old.graph o split) (splits.second old.graph o split)

      reached : (three : TableState S) (cache_three : OrCache) (result : Answer)
          → Closes two cache_two o high low three cache_three result
          → IfOk result (λ w. ReachesNew old.graph three.graph w)
      reached three cache_three (Err came) closes = tt
      reached three cache_three (Ok w) closes =
          reached_all paths old.graph one.graph two.graph three.graph sound_one.tied.reduced by_low.runs.steps.leaves.sound.tied.reduced
          by_low.runs.steps.extends.nodes closes.runs.steps.extends.nodes
          o.level high low w by_high.disjoined.stands by_low.disjoined.stands by_high.reachable by_low.reachable closes.reachable
          closes.children

      closed : (three : TableState S) (cache_three : OrCache) (result : Answer)
          → Closes two cache_two o high low three cache_three result
          → Disjoins old before o.u o.v three cache_three result
      closed three cache_three result closes = record {
        runs = runs_further law parts old (disjunctions before) (disjunction_of old.graph o.u o.v) three
            (disjunctions cache_three) result two (disjunctions cache_two) low (runs_low two (disjunctions cache_two) (Ok low) by_low.runs)
            (subst (λ (f : Levels → Bool). Runs two (disjunctions cache_two) f three
            (disjunctions cache_three) result) asked_two closes.runs);
        remembers = keeping.makes_room disjunction before.results cache_two.results cache_three.results (o.u, o.v) unknown.none
            (remembers_low cache_two by_low.remembers) closes.room;
        disjoined = closes.disjoined;
        reachable = reached three cache_three result closes;
        kept = λ differ first second. closes.kept;
        known = λ w there. absurd (unknown.none w there);
        plain = λ w plain. absurd (not_plain old.graph o.u o.v w unknown.differ unknown.first unknown.second plain);
      }

    low_came : (two : TableState S) (cache_two : OrCache) (result : Answer)
        → Disjoins one cache_one o.u_low o.v_low two cache_two result
        → LowCame (disjoining) (Disjoins old before o.u o.v) o high two cache_two result
    low_came two cache_two (Err came) by_low = low_failed two cache_two came by_low.runs by_low.remembers
    low_came two cache_two (Ok low) by_low = record {
      ready = record {
        sound = by_low.runs.steps.leaves.sound;
        fits = by_low.runs.fits no_error;
        split = splits.kept one.graph two.graph by_low.runs.steps.extends.nodes o split_one;
        on_high = on_high two cache_two low by_low;
        on_low = by_low.disjoined;
      };
      closes = closed two cache_two low by_low;
    }

    awaits_low : AwaitsLow (disjoining) (Disjoins old before o.u o.v) one cache_one o high
        (o.u_low, o.v_low)
    awaits_low =
        let first = splits.u_low one.graph sound_one.tied.reduced o split_one in
        let second = splits.v_low one.graph sound_one.tied.reduced o split_one in record {
          refused = low_failed one cache_one OutOfMemory (runs_refused law parts one (disjunctions cache_one)
              (disjunction_of one.graph o.u_low o.v_low) sound_one (disjunctions cache_one) (by_high.runs.fits no_error))
              (remembers_all disjunction cache_one.results);
          ready = record { sound = sound_one; first = first.stands; second = second.stands; fits = by_high.runs.fits no_error };
          later = both_later o.level (level_of one.graph o.u_low) (level_of one.graph o.v_low) first.below second.below;
          low = low_came;
        }

  high_came : (one : TableState S) (cache_one : OrCache) (result : Answer)
      → Disjoins old before o.u_high o.v_high one cache_one result
      → HighCame (disjoining) (Disjoins old before o.u o.v) o one cache_one result
  high_came one cache_one (Err came) by_high =
      failed one cache_one came
      (runs_part law parts old (disjunctions before) (disjunction_of old.graph o.u o.v) one (disjunctions cache_one) (Err came)
      (disjunction_of old.graph o.u_high o.v_high) (high_part splits old.graph sound.tied.reduced o split parts) by_high.runs)
      by_high.remembers
  high_came one cache_one (Ok high) by_high = awaits_low one cache_one high by_high

  pub opened : IsOpened (disjoining) (Disjoins old before o.u o.v) old before o
  opened =
      let first = splits.u_high old.graph sound.tied.reduced o split in
      let second = splits.v_high old.graph sound.tied.reduced o split in record {
        refused = failed old before OutOfMemory (runs_refused law parts old (disjunctions before) (disjunction_of old.graph o.u o.v) sound
            (disjunctions before) fits) (remembers_all disjunction before.results);
        level = splits.level old.graph sound.tied.reduced o split;
        ready = record { sound = sound; first = first.stands; second = second.stands; fits = fits };
        later = both_later o.level (level_of old.graph o.u_high) (level_of old.graph o.v_high) first.below second.below;
        high = high_came;
      }

module _ {S : Type 0} where
  pub split_answered : StepByStep S → Keeping Pair Node same_pair → Splitting → Growth → Fitting S → Subfunctions → Reachability
      → (old : TableState S) (before after : OrCache) (u v : Node) → CanDisjoin old before u v
      → (o : Operands) → AreSplit old.graph o → (o.u ≡ u) × (o.v ≡ v) → (after ≡ before) × IsUnknown old.graph before u v
      → IsAnswer (disjoining) old before (u, v) old after (Ok (Open o))
  split_answered law keeping splits growth fitting parts paths old before after u v can o split same missed =
      let unknown : IsUnknown old.graph before o.u o.v = subst (λ (x : Node). IsUnknown old.graph before x o.v) (sym same.0)
      (subst (λ (y : Node). IsUnknown old.graph before u y) (sym same.1) missed.1) in
      let own : IsAnswer (disjoining) old before (o.u, o.v) old before (Ok (Open o)) =
      (no_later old.graph o split, opened law keeping splits growth fitting parts paths old before can.sound can.fits o split unknown) in
      subst (λ (c : OrCache). IsAnswer (disjoining) old before (u, v) old c (Ok (Open o))) (sym missed.0)
      (subst (λ (y : Node). IsAnswer (disjoining) old before (u, y) old before (Ok (Open o))) same.1
      (subst (λ (x : Node). IsAnswer (disjoining) old before (x, o.v) old before (Ok (Open o))) same.0 own))
