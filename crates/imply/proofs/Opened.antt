-- A call that is split: its sides may be called and closed, and however they end, the call has ended.
use Rattle.std.proofs.Common.{◌≡◌, ◌<◌, ◌≤◌, ◌⊎◌, ℕ, min, true, is_some, Option, None, Some, Ok, Err, refl, sym, subst, arith, inl}
use Rattle.std.proofs.Common.{inr}
use Rattle.node_table.specs.declared.error.TableError.TheVariants.{OutOfMemory}
use Rattle.node_table.specs.declared.node.Node.{Node}
use Rattle.node_table.specs.declared.node.Justification.{Justification}
use Rattle.node_table.specs.declared.node.Node.TheVariants.{False, True, Inner}
use Rattle.node_table.specs.declared.node.Branch.{Branch}
use Rattle.node_table.specs.Diagram.{Graph, branch_at, branch_of, is_node, level_of}
use Rattle.node_table.specs.Laws.{Cofactors, StepByStep}
use Rattle.node_table.specs.Table.{TableState, IsSound}
use Rattle.operations.specs.declared.operands.Operands.{Operands}
use Rattle.operations.specs.declared.frames.Reply.TheVariants.{Open}
use Rattle.operations.specs.Operands.{AreSplit, IsInner, Splitting}
use Rattle.operations.specs.Accounts.{Accounting, none_whole}
use Rattle.operations.specs.Budget.{Budget}
use Rattle.operations.specs.Caches.{Keeping}
use Rattle.operations.specs.Entries.{Fits, Fitting}
use Rattle.operations.specs.Machine.{AwaitsLow, HighCame, IsAnswer, IsOpened, LowCame}
use Rattle.operations.specs.Pairs.{IsNoConstant, Pair, same_pair}
use Rattle.operations.specs.Price.{Pricing}
use Rattle.imply.specs.Cache.{ImplyCache, entries}
use Rattle.imply.specs.Calls.{Answers, CanImply, Closes, Implies, IsUnknown, implications}
use Rattle.imply.proofs.Calls.{Answer, closed, failed_no_answer, high_only, high_still, low_last, none_no_answer, refused, split_high}
use Rattle.imply.proofs.Calls.{split_low}
use Rattle.imply.proofs.Refuted.{not_plain}

-- a node that is no constant is an inner one
pub inner_of : (graph : Graph) (node : Node) → is_node graph node ≡ true → IsNoConstant node → IsInner graph node
inner_of graph False stands apart = absurd (apart.0 refl)
inner_of graph True stands apart = absurd (apart.1 refl)
inner_of graph (Inner key) stands apart = inner_by graph (Inner key) (branch_at graph key.index) refl stands
  where
    inner_by : (graph : Graph) (node : Node) (found : Option Branch) → branch_of graph node ≡ found → is_some found ≡ true
        → IsInner graph node
    inner_by graph node None is stands = cc
    inner_by graph node (Some branch) is stands = record { branch = branch; is = is }

-- the earlier of two levels below one is below it
both_later : (level one two : ℕ) → level < one → level < two → level < min one two
both_later level one two first second = omega (arith, first, second)

-- the level of a split is the earlier one of its operands
no_later : (graph : Graph) (o : Operands) → AreSplit graph o → min (level_of graph o.u) (level_of graph o.v) ≤ o.level
no_later graph o split = lesser (level_of graph o.u) (level_of graph o.v) o.level split.earlier
  where
    lesser : (one two level : ℕ) → (one ≡ level) ⊎ (two ≡ level) → min one two ≤ level
    lesser one two level (inl is) = omega (arith, is)
    lesser one two level (inr is) = omega (arith, is)

module _ {S : Type 0} where
  module _ (law : StepByStep S) (splits : Splitting) (cofactors : Cofactors) (fitting : Fitting S) (accounts : Accounting S)
      (caches : Keeping Pair Justification same_pair) (pricing : Pricing S Justification) (budget : Budget S)
      (old : TableState S) (before : ImplyCache) (sound : IsSound old) (fits : Fits old (entries before)) (o : Operands)
      (split : AreSplit old.graph o) (unknown : IsUnknown before o.u o.v) where
    -- a pair whose answer isn't known is neither kept nor plain
    ended : (new : TableState S) (after : ImplyCache) (result : Answer) → Implies old before o.u o.v new after result
        → Answers old before o.u o.v new after result
    ended new after result call = record {
      call = call;
      known = λ just there. absurd (unknown.none just there);
      plain = λ answer plain. absurd (not_plain o.u o.v answer unknown.differ unknown.first unknown.second plain);
    }

    module _ (one : TableState S) (cache_one : ImplyCache) (high : Justification)
        (by_high : Implies old before o.u_high o.v_high one cache_one (Ok (Some high))) where
      -- the step from both sides, of which the low one may not hold
      last : (two : TableState S) (cache_two : ImplyCache) (low : Option Justification)
          → Implies one cache_one o.u_low o.v_low two cache_two (Ok low)
          → (three : TableState S) (cache_three : ImplyCache) (result : Answer)
          → Closes two cache_two o low three cache_three result
          → Answers old before o.u o.v three cache_three result
      last two cache_two None by_low three cache_three result closing =
          subst (λ (r : Answer). Answers old before o.u o.v three cache_three r) (sym closing.0)
          (subst (λ (t : TableState S). Answers old before o.u o.v t cache_three (Ok None)) (sym closing.1)
          (subst (λ (c : ImplyCache). Answers old before o.u o.v two c (Ok None)) (sym closing.2)
          (ended two cache_two (Ok None)
          (low_last law splits cofactors fitting accounts caches pricing budget old before sound o split unknown one cache_one high
          by_high two cache_two (Ok None) by_low none_no_answer))))
      last two cache_two (Some low) by_low three cache_three result closing =
          ended three cache_three result
          (closed law splits cofactors fitting accounts caches pricing budget old before sound o split unknown one cache_one high
          by_high two cache_two (Some low) by_low three cache_three result closing)

      low_came : (two : TableState S) (cache_two : ImplyCache) (result : Answer)
          → Implies one cache_one o.u_low o.v_low two cache_two result
          → LowCame (implications) (Answers old before o.u o.v) o (Some high) two cache_two result
      low_came two cache_two (Err came) by_low =
          ended two cache_two (Err came)
          (low_last law splits cofactors fitting accounts caches pricing budget old before sound o split unknown one cache_one high by_high
          two cache_two (Err came) by_low (λ just. failed_no_answer came (Some just)))
      low_came two cache_two (Ok low) by_low = record {
        ready = record {
          sound = by_low.steps.leaves.sound;
          fits = by_low.accounts.fits none_whole;
          split = split_low law splits cofactors fitting accounts caches pricing budget old before sound o split unknown one cache_one high
              by_high two cache_two low by_low;
          just = high;
          given = refl;
          on_high = high_still law splits cofactors fitting accounts caches pricing budget old before sound o split unknown one cache_one
              high by_high two cache_two low by_low;
          on_low = by_low.decided;
        };
        closes = last two cache_two low by_low;
      }

      awaits_low : AwaitsLow (implications) (Answers old before o.u o.v) one cache_one o (Some high)
          (o.u_low, o.v_low)
      awaits_low =
          let sound_one = by_high.steps.leaves.sound in
          let split_one = split_high law splits cofactors fitting accounts caches pricing budget old before sound o split unknown one
          cache_one high by_high in
          let first = splits.u_low one.graph sound_one.tied.reduced o split_one in
          let second = splits.v_low one.graph sound_one.tied.reduced o split_one in record {
            refused = low_came one cache_one (Err OutOfMemory) (refused law accounts pricing one cache_one sound_one
                (by_high.accounts.fits none_whole) o.u_low o.v_low);
            ready = record { sound = sound_one; first = first.stands; second = second.stands; fits = by_high.accounts.fits none_whole };
            later = both_later o.level (level_of one.graph o.u_low) (level_of one.graph o.v_low) first.below second.below;
            low = λ two cache_two result ends. low_came two cache_two result ends.call;
          }

    high_came : (one : TableState S) (cache_one : ImplyCache) (result : Answer)
        → Implies old before o.u_high o.v_high one cache_one result
        → HighCame (implications) (Answers old before o.u o.v) o one cache_one result
    high_came one cache_one (Err came) by_high =
        ended one cache_one (Err came)
        (high_only law splits cofactors fitting accounts caches pricing budget old before sound o split unknown one cache_one
        (Err came) by_high (λ just. failed_no_answer came (Some just)))
    high_came one cache_one (Ok None) by_high =
        ended one cache_one (Ok None)
        (high_only law splits cofactors fitting accounts caches pricing budget old before sound o split unknown one cache_one
        (Ok None) by_high none_no_answer)
    high_came one cache_one (Ok (Some high)) by_high = awaits_low one cache_one high by_high

    opened : IsOpened (implications) (Answers old before o.u o.v) old before o
    opened =
        let first = splits.u_high old.graph sound.tied.reduced o split in
        let second = splits.v_high old.graph sound.tied.reduced o split in record {
          refused = ended old before (Err OutOfMemory) (refused law accounts pricing old before sound fits o.u o.v);
          level = splits.level old.graph sound.tied.reduced o split;
          ready = record { sound = sound; first = first.stands; second = second.stands; fits = fits };
          later = both_later o.level (level_of old.graph o.u_high) (level_of old.graph o.v_high) first.below second.below;
          high = λ one cache_one result ends. high_came one cache_one result ends.call;
        }

  -- what a call is answered that was split
  pub split_answered : StepByStep S → Splitting → Cofactors → Fitting S → Accounting S → Keeping Pair Justification same_pair → Pricing S Justification
      → Budget S → (old : TableState S) (before after : ImplyCache) (u v : Node)
      → CanImply old before u v → (o : Operands) → AreSplit old.graph o → (o.u ≡ u) × (o.v ≡ v) → (after ≡ before) × IsUnknown before u v
      → IsAnswer (implications) old before (u, v) old after (Ok (Open o))
  split_answered law splits cofactors fitting accounts caches pricing budget old before after u v can o split same missed =
      let unknown : IsUnknown before o.u o.v = subst (λ (x : Node). IsUnknown before x o.v) (sym same.0)
      (subst (λ (y : Node). IsUnknown before u y) (sym same.1) missed.1) in
      let own : IsAnswer (implications) old before (o.u, o.v) old before (Ok (Open o)) = (
        no_later old.graph o split,
        opened law splits cofactors fitting accounts caches pricing budget old before can.sound can.fits o split
            unknown,
      ) in
      subst (λ (c : ImplyCache). IsAnswer (implications) old before (u, v) old c (Ok (Open o))) (sym missed.0)
      (subst (λ (y : Node). IsAnswer (implications) old before (u, y) old before (Ok (Open o))) same.1
      (subst (λ (x : Node). IsAnswer (implications) old before (x, o.v) old before (Ok (Open o))) same.0 own))
