-- A call of an implication from its parts: it is refused, it ends as one of its sides does, or it is closed from both.
use Rattle.std.proofs.Common.{◌≡◌, ◌∙◌, arith, refl, ap, Option, Result, Ok, Err, None, Some, inl}
use Rattle.std.specs.Prelude.{IfOk}
use Rattle.node_table.specs.declared.error.TableError.{TableError}
use Rattle.node_table.specs.declared.error.TableError.TheVariants.{NodeLimit, IdLimit, OutOfMemory}
use Rattle.node_table.specs.declared.node.Node.{Node}
use Rattle.node_table.specs.declared.node.Justification.{Justification}
use Rattle.node_table.specs.declared.node.Justification.TheVariants.{Clause}
use Rattle.node_table.specs.Laws.{Cofactors, StepByStep}
use Rattle.node_table.specs.Progress.{error_of}
use Rattle.node_table.specs.Table.{TableState, IsSound}
use Rattle.operations.specs.declared.operands.Operands.{Operands}
use Rattle.operations.specs.Operands.{AreSplit, Splitting}
use Rattle.operations.specs.Accounts.{Accounting, AccountsFor}
use Rattle.operations.specs.Budget.{Budget}
use Rattle.operations.specs.Caches.{Keeping, Remembers}
use Rattle.operations.specs.Entries.{Fits, Fitting, Implication}
use Rattle.operations.specs.Pairs.{Pair, same_pair}
use Rattle.operations.specs.Price.{Pricing}
use Rattle.operations.specs.Results.{Implied}
use Rattle.imply.specs.Cache.{ImplyCache, entries, entry_of}
use Rattle.imply.specs.Calls.{Implies, IsClosed, IsUnknown}
use Rattle.imply.specs.Implication.{IsDecided}
use Rattle.imply.proofs.Refuted.{refuted_high, refuted_low}

abbrev pub Answer : Type 0
Answer = Result (Option Justification) TableError

pub memory_no_limit : ◌≡◌ {A = Answer} (Err OutOfMemory) (Err NodeLimit) → ⊥
memory_no_limit is = cc

pub memory_no_numbers : ◌≡◌ {A = Answer} (Err OutOfMemory) (Err IdLimit) → ⊥
memory_no_numbers is = cc

pub failed_no_answer : (error : TableError) (answer : Option Justification) → ◌≡◌ {A = Answer} (Err error) (Ok answer) → ⊥
failed_no_answer error answer is = cc

pub none_no_answer : (just : Justification) → ◌≡◌ {A = Answer} (Ok None) (Ok (Some just)) → ⊥
none_no_answer just is = cc

-- an error of the step is that of the call
pub limit_came : (error limit : TableError) → ◌≡◌ {A = Answer} (Err error) (Err limit)
    → ◌≡◌ {A = Result Justification TableError} (Err error) (Err limit)
limit_came error limit is = let same : error ≡ limit = cc in ap Err same

pub none_failed : (error : TableError) → Some error ≡ None → ⊥
none_failed error is = cc

pub no_limit : (answer : Option Justification) → ◌≡◌ {A = Answer} (Ok answer) (Err NodeLimit) → ⊥
no_limit answer is = cc

pub given_same : (one other : Option Justification) → ◌≡◌ {A = Answer} (Ok one) (Ok other) → one ≡ other
given_same one other is = cc

pub some_same : {X : Type 0} (one other : X) → Some one ≡ Some other → one ≡ other
some_same one other is = cc

-- the call doesn't say that it holds
abbrev pub IsNoYes : Answer → Type 0
IsNoYes result = (just : Justification) → result ≡ Ok (Some just) → ⊥

module _ {S : Type 0} where
  -- a call that is refused for want of memory before anything changed
  pub refused : StepByStep S → Accounting S → Pricing S Justification → (table : TableState S) (cache : ImplyCache) → IsSound table
      → Fits table (entries cache) → (u v : Node)
      → Implies table cache u v table cache (Err OutOfMemory)
  refused law accounts pricing table cache sound fits u v = record {
    decided = tt;
    steps = law.at_most _ _ _ _ _ (omega arith) (law.no_memory table sound);
    nodes = refl;
    no_node_limit = memory_no_limit;
    id_limit = λ is. absurd (memory_no_numbers is);
    accounts = accounts.none table (entries cache) (Some OutOfMemory) sound fits;
    unretired = λ id is. absurd (failed_no_answer OutOfMemory (Some (Clause id)) is);
    kept = λ differ first second just is. absurd (failed_no_answer OutOfMemory (Some just) is);
    remembers = record { entries = λ entry there. inl there; no_fewer = omega arith; capacity = refl };
    price = pricing.none table cache.results u v (Some OutOfMemory);
  }

  -- a call that is split
  module _ (law : StepByStep S) (splits : Splitting) (cofactors : Cofactors) (fitting : Fitting S) (accounts : Accounting S)
      (caches : Keeping Pair Justification same_pair) (pricing : Pricing S Justification) (budget : Budget S)
      (old : TableState S) (before : ImplyCache) (sound : IsSound old) (o : Operands) (split : AreSplit old.graph o)
      (unknown : IsUnknown before o.u o.v) where
    decided_high : (one : TableState S) (cache_one : ImplyCache) (result : Answer)
        → Implies old before o.u_high o.v_high one cache_one result → IsNoYes result
        → IfOk result (λ answer. IsDecided one.graph one.book.state.live o.u o.v answer)
    decided_high one cache_one (Err came) by_high never = tt
    decided_high one cache_one (Ok None) by_high never =
        refuted_high cofactors one.graph by_high.steps.leaves.sound.tied.reduced splits o
        (splits.kept old.graph one.graph by_high.steps.extends.nodes o split) by_high.decided
    decided_high one cache_one (Ok (Some just)) by_high never = absurd (never just refl)

    pub high_only : (one : TableState S) (cache_one : ImplyCache) (result : Answer)
        → Implies old before o.u_high o.v_high one cache_one result → IsNoYes result
        → Implies old before o.u o.v one cache_one result
    high_only one cache_one result by_high never = record {
      decided = decided_high one cache_one result by_high never;
      steps = budget.high old one o (error_of result) sound split by_high.steps;
      nodes = by_high.nodes;
      no_node_limit = by_high.no_node_limit;
      id_limit = by_high.id_limit;
      accounts = by_high.accounts;
      unretired = λ id is. absurd (never (Clause id) is);
      kept = λ differ first second just is. absurd (never just is);
      remembers = by_high.remembers;
      price = pricing.high_only old one before.results cache_one.results o (error_of result) sound.tied.reduced split by_high.price;
    }

    module _ (one : TableState S) (cache_one : ImplyCache) (high : Justification)
        (by_high : Implies old before o.u_high o.v_high one cache_one (Ok (Some high))) where
      sound_one : IsSound one
      sound_one = by_high.steps.leaves.sound

      pub split_high : AreSplit one.graph o
      split_high = splits.kept old.graph one.graph by_high.steps.extends.nodes o split

      -- what the low side adds to the high one, however it ends
      module _ (two : TableState S) (cache_two : ImplyCache) (by : Answer)
          (by_low : Implies one cache_one o.u_low o.v_low two cache_two by) where
        accounts_both : AccountsFor old two (entries before) (entries cache_two) (error_of by)
        accounts_both = accounts.further old one two (entries before) (entries cache_one) (entries cache_two)
            (error_of by) by_high.steps.extends by_low.steps.extends by_high.accounts by_low.accounts

        remembers_both : Remembers entry_of before.results cache_two.results
        remembers_both = caches.further entry_of before.results cache_one.results cache_two.results by_high.remembers by_low.remembers

      decided_low : (two : TableState S) (cache_two : ImplyCache) (result : Answer)
          → Implies one cache_one o.u_low o.v_low two cache_two result → IsNoYes result
          → IfOk result (λ answer. IsDecided two.graph two.book.state.live o.u o.v answer)
      decided_low two cache_two (Err came) by_low never = tt
      decided_low two cache_two (Ok None) by_low never =
          refuted_low cofactors two.graph by_low.steps.leaves.sound.tied.reduced splits o
          (splits.kept one.graph two.graph by_low.steps.extends.nodes o split_high) by_low.decided
      decided_low two cache_two (Ok (Some just)) by_low never = absurd (never just refl)

      pub low_last : (two : TableState S) (cache_two : ImplyCache) (result : Answer)
          → Implies one cache_one o.u_low o.v_low two cache_two result → IsNoYes result
          → Implies old before o.u o.v two cache_two result
      low_last two cache_two result by_low never = record {
        decided = decided_low two cache_two result by_low never;
        steps = budget.low old one two o (error_of result) sound split by_high.steps by_low.steps;
        nodes = by_low.nodes ∙ by_high.nodes;
        no_node_limit = by_low.no_node_limit;
        id_limit = by_low.id_limit;
        accounts = accounts_both two cache_two result by_low;
        unretired = λ id is. absurd (never (Clause id) is);
        kept = λ differ first second just is. absurd (never just is);
        remembers = remembers_both two cache_two result by_low;
        price = pricing.low_last old one two before.results cache_one.results cache_two.results o
            (error_of result) sound.tied.reduced sound_one.tied.reduced by_high.steps.extends.nodes split
            by_high.remembers.capacity by_high.price by_low.price;
      }

      module _ (two : TableState S) (cache_two : ImplyCache) (low : Option Justification)
          (by_low : Implies one cache_one o.u_low o.v_low two cache_two (Ok low)) where
        pub split_low : AreSplit two.graph o
        split_low = splits.kept one.graph two.graph by_low.steps.extends.nodes o split_high

        -- the high side still holds
        pub high_still : Implied two.graph two.book.state.live o.u_high o.v_high high
        high_still =
            let first = splits.u_high one.graph sound_one.tied.reduced o split_high in
            let second = splits.v_high one.graph sound_one.tied.reduced o split_high in
            (fitting.one one two (Implication o.u_high o.v_high high) sound_one by_low.steps.extends
            (record { first = first.stands; second = second.stands }, by_high.decided)).1

        pub closed : (three : TableState S) (cache_three : ImplyCache) (result : Answer)
            → IsClosed two cache_two o three cache_three result
            → Implies old before o.u o.v three cache_three result
        closed three cache_three result closes = record {
          decided = closes.decided;
          steps = budget.both old one two three o (error_of result) sound split by_high.steps by_low.steps closes.steps;
          nodes = closes.nodes ∙ (by_low.nodes ∙ by_high.nodes);
          no_node_limit = closes.no_node_limit;
          id_limit = closes.id_limit;
          accounts = accounts.further old two three (entries before) (entries cache_two) (entries cache_three) (error_of result)
              (law.extend old one two by_high.steps.extends by_low.steps.extends) closes.steps.extends
              (accounts_both two cache_two (Ok low) by_low) closes.accounts;
          unretired = closes.unretired;
          kept = λ differ first second. closes.kept;
          remembers = caches.makes_room entry_of before.results cache_two.results cache_three.results (o.u, o.v)
              unknown.none
              (remembers_both two cache_two (Ok low) by_low) closes.room;
          price = pricing.closed old one two three before.results cache_one.results cache_two.results cache_three.results o
              (error_of result) sound.tied.reduced sound_one.tied.reduced by_high.steps.extends.nodes split
              unknown.first unknown.second unknown.unused by_high.remembers.capacity by_low.remembers.capacity by_high.price by_low.price
              closes.steps.adds closes.used;
        }
