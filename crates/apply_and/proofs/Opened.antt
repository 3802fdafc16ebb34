-- A call that is split: its sides may be called and closed, and however they end, the call has ended.
use Rattle.std.proofs.Common.{◌≡◌, true, is_some, Option, None, Some, Ok, Err, refl, sym, subst}
use Rattle.node_table.specs.declared.error.TableError.TheVariants.{OutOfMemory}
use Rattle.node_table.specs.declared.node.Node.{Node}
use Rattle.node_table.specs.declared.node.Justification.{Justification}
use Rattle.node_table.specs.declared.node.Node.TheVariants.{False, True, Inner}
use Rattle.node_table.specs.declared.node.Branch.{Branch}
use Rattle.node_table.specs.Diagram.{Graph, branch_at, branch_of, is_node, level_of}
use Rattle.node_table.specs.Laws.{Growth, Reachability, StepByStep, Subfunctions}
use Rattle.node_table.specs.Table.{TableState, IsSound}
use Rattle.operations.specs.declared.operands.Operands.{Operands}
use Rattle.operations.specs.Operands.{both_later, no_later, AreSplit, IsInner, Splitting}
use Rattle.operations.specs.Accounts.{Accounting, none_whole}
use Rattle.operations.specs.Budget.{Budget}
use Rattle.operations.specs.Entries.{Fits, Fitting}
use Rattle.operations.specs.declared.frames.Reply.TheVariants.{Open}
use Rattle.operations.specs.Machine.{AwaitsLow, HighCame, IsAnswer, IsOpened, LowCame}
use Rattle.operations.specs.Caches.{Keeping}
use Rattle.apply_and.specs.Cache.{AndCache, Found, Pair, entries}
use Rattle.apply_and.specs.Calls.{Answers, CanConjoin, Conjoins, IsUnknown, conjunctions}
use Rattle.operations.specs.Price.{Pricing}
use Rattle.operations.specs.Pairs.{IsNoConstant, same_pair}
use Rattle.apply_and.proofs.Calls.{Answer, closed, high_failed, low_failed, ready, refused, split_high}
use Rattle.apply_and.proofs.Made.{not_plain}

-- a node that is no constant is an inner one
pub inner_of : (graph : Graph) (node : Node) → is_node graph node ≡ true → IsNoConstant node → IsInner graph node
inner_of graph False stands apart = absurd (apart.0 refl)
inner_of graph True stands apart = absurd (apart.1 refl)
inner_of graph (Inner key) stands apart = inner_by graph (Inner key) (branch_at graph key.index) refl stands
  where
    inner_by : (graph : Graph) (node : Node) (found : Option Branch) → branch_of graph node ≡ found → is_some found ≡ true
        → IsInner graph node
    inner_by graph node None is stands = cc
    inner_by graph node (Some branch) is stands = record { branch = branch; is = is }

module _ {S : Type 0} where
  -- a pair whose answer isn't known is neither kept nor plain
  answers_unknown : (old : TableState S) (before : AndCache) (u v : Node) → IsUnknown before u v
      → (new : TableState S) (after : AndCache) (result : Answer) → Conjoins old before u v new after result
      → Answers old before u v new after result
  answers_unknown old before u v unknown new after result call = record {
    call = call;
    known = λ w just there. absurd (unknown.none w just there);
    plain = λ w plain. absurd (not_plain u v w unknown.differ unknown.first unknown.second plain);
  }

  module _ (law : StepByStep S) (budget : Budget S) (splits : Splitting) (growth : Growth) (fitting : Fitting S)
      (accounts : Accounting S) (caches : Keeping Pair Found same_pair) (pricing : Pricing S Found) (parts : Subfunctions)
      (paths : Reachability)
      (old : TableState S) (before : AndCache) (sound : IsSound old) (fits : Fits old (entries before)) (o : Operands)
      (split : AreSplit old.graph o) (unknown : IsUnknown before o.u o.v) where
    ended : (new : TableState S) (after : AndCache) (result : Answer) → Conjoins old before o.u o.v new after result
        → Answers old before o.u o.v new after result
    ended = answers_unknown old before o.u o.v unknown

    module _ (one : TableState S) (cache_one : AndCache) (high : Node
        × Justification) (by_high : Conjoins old before o.u_high o.v_high one cache_one (Ok high)) where
      low_came : (two : TableState S) (cache_two : AndCache) (result : Answer)
          → Conjoins one cache_one o.u_low o.v_low two cache_two result
          → LowCame (conjunctions) (Answers old before o.u o.v) o high two cache_two result
      low_came two cache_two (Err came) by_low =
          ended two cache_two (Err came)
          (low_failed law budget splits growth fitting accounts caches pricing parts paths old before sound o split unknown one
          cache_one high by_high two cache_two came by_low)
      low_came two cache_two (Ok low) by_low =
          let sides = ready law budget splits growth fitting accounts caches pricing parts paths old before sound o split unknown one
          cache_one high by_high two cache_two low by_low in record {
            ready = record {
              sound = by_low.steps.leaves.sound;
              fits = by_low.accounts.fits none_whole;
              split = sides.split;
              on_high = sides.on_high;
              on_low = sides.on_low;
            };
            closes = λ three cache_three result closing.
                ended three cache_three result
                (closed law budget splits growth fitting accounts caches pricing parts paths old before sound o split unknown one
                cache_one high by_high two cache_two low by_low three cache_three result closing);
          }

      awaits_low : AwaitsLow (conjunctions) (Answers old before o.u o.v) one cache_one o high
          (o.u_low, o.v_low)
      awaits_low =
          let sound_one = by_high.steps.leaves.sound in
          let split_one = split_high law budget splits growth fitting accounts caches pricing parts paths old before sound o split unknown
          one cache_one high by_high in
          let first = splits.u_low one.graph sound_one.tied.reduced o split_one in
          let second = splits.v_low one.graph sound_one.tied.reduced o split_one in record {
            refused = low_came one cache_one (Err OutOfMemory) (refused law accounts pricing parts one cache_one sound_one
                (by_high.accounts.fits none_whole) o.u_low o.v_low);
            ready = record { sound = sound_one; first = first.stands; second = second.stands; fits = by_high.accounts.fits none_whole };
            later = both_later o.level (level_of one.graph o.u_low) (level_of one.graph o.v_low) first.below second.below;
            low = λ two cache_two result ends. low_came two cache_two result ends.call;
          }

    high_came : (one : TableState S) (cache_one : AndCache) (result : Answer)
        → Conjoins old before o.u_high o.v_high one cache_one result
        → HighCame (conjunctions) (Answers old before o.u o.v) o one cache_one result
    high_came one cache_one (Err came) by_high = ended one cache_one (Err came)
        (high_failed law budget splits growth fitting accounts caches pricing parts paths old before sound o split unknown one cache_one
        came by_high)
    high_came one cache_one (Ok high) by_high = awaits_low one cache_one high by_high

    opened : IsOpened (conjunctions) (Answers old before o.u o.v) old before o
    opened =
        let first = splits.u_high old.graph sound.tied.reduced o split in
        let second = splits.v_high old.graph sound.tied.reduced o split in record {
          refused = ended old before (Err OutOfMemory) (refused law accounts pricing parts old before sound fits o.u o.v);
          level = splits.level old.graph sound.tied.reduced o split;
          ready = record { sound = sound; first = first.stands; second = second.stands; fits = fits };
          later = both_later o.level (level_of old.graph o.u_high) (level_of old.graph o.v_high) first.below second.below;
          high = λ one cache_one result ends. high_came one cache_one result ends.call;
        }

  -- what a call is answered that was split
  pub split_answered : StepByStep S → Budget S → Splitting → Growth → Fitting S → Accounting S
      → Keeping Pair Found same_pair → Pricing S Found → Subfunctions → Reachability
      → (old : TableState S) (before after : AndCache) (u v : Node) → CanConjoin old before u v
      → (o : Operands) → AreSplit old.graph o → (o.u ≡ u) × (o.v ≡ v) → (after ≡ before) × IsUnknown before u v
      → IsAnswer (conjunctions) old before (u, v) old after (Ok (Open o))
  split_answered law budget splits growth fitting accounts caches pricing parts paths old before after u v can o split same missed =
      let unknown : IsUnknown before o.u o.v = subst (λ (x : Node). IsUnknown before x o.v) (sym same.0)
      (subst (λ (y : Node). IsUnknown before u y) (sym same.1) missed.1) in
      let own : IsAnswer (conjunctions) old before (o.u, o.v) old before (Ok (Open o)) = (
        no_later old.graph o split,
        opened law budget splits growth fitting accounts caches pricing parts paths old before can.sound can.fits
            o split unknown,
      ) in
      subst (λ (c : AndCache). IsAnswer (conjunctions) old before (u, v) old c (Ok (Open o))) (sym missed.0)
      (subst (λ (y : Node). IsAnswer (conjunctions) old before (u, y) old before (Ok (Open o))) same.1
      (subst (λ (x : Node). IsAnswer (conjunctions) old before (x, o.v) old before (Ok (Open o))) same.0 own))
