-- A call of a conjunction from its parts: it is refused, its sides fail, or it is closed from the results of both.
use Rattle.std.proofs.Common.{◌≡◌, arith, refl, Result, Ok, Err, None, Some, IfOk, inl}
use Rattle.node_table.specs.declared.error.TableError.{TableError}
use Rattle.node_table.specs.declared.error.TableError.TheVariants.{NodeLimit, OutOfMemory}
use Rattle.node_table.specs.declared.node.Node.{Node}
use Rattle.node_table.specs.declared.node.Justification.{Justification}
use Rattle.node_table.specs.Laws.{Growth, Reachability, StepByStep, Subfunctions}
use Rattle.node_table.specs.Table.{TableState, IsSound}
use Rattle.node_table.specs.Made.{ReachesNew}
use Rattle.operations.specs.declared.operands.Operands.{Operands}
use Rattle.operations.specs.Operands.{AreSplit, Splitting}
use Rattle.operations.specs.Accounts.{Accounting, AccountsFor}
use Rattle.operations.specs.Budget.{Budget}
use Rattle.operations.specs.Caches.{Keeping, Remembers}
use Rattle.operations.specs.Ended.{reached_all}
use Rattle.operations.specs.Entries.{Fits, Fitting}
use Rattle.operations.specs.Price.{Prices, Pricing}
use Rattle.apply_and.specs.Cache.{AndCache, Found, Pair, entries, entry_of, same_pair}
use Rattle.node_table.specs.Progress.{error_of}
use Rattle.apply_and.specs.Calls.{Closes, Conjoins, IsUnknown}
use Rattle.apply_and.specs.Conjunction.{conjunction_of}
use Rattle.apply_and.proofs.Conjunctions.{IsReady, high_kept}
use Rattle.apply_and.proofs.Made.{made_high, made_low, made_all, lacks_high, lacks_low, lacks_both}

abbrev pub Answer : Type 0
Answer = Result (Node × Justification) TableError

when_ok : {P : Type 0} (result : Answer) → IfOk result (λ found. P) → error_of result ≡ None → P
when_ok (Ok found) holds none = holds
when_ok (Err came) holds none = absurd (some_error none)
  where
    some_error : Some came ≡ None → ⊥
    some_error is = cc

pub memory_no_limit : ◌≡◌ {A = Answer} (Err OutOfMemory) (Err NodeLimit) → ⊥
memory_no_limit is = cc

module _ {S : Type 0} where
  -- a call that is refused for want of memory before anything changed
  pub refused : StepByStep S → Accounting S → Pricing S Found → Subfunctions → (table : TableState S) (cache : AndCache)
      → IsSound table → Fits table (entries cache) → (u v : Node)
      → Conjoins table cache u v table cache (Err OutOfMemory)
  refused law accounts pricing parts table cache sound fits u v = record {
    conjoined = tt;
    steps = law.at_most _ _ _ _ _ (omega arith) (law.no_memory table sound);
    accounts = accounts.none table (entries cache) (Some OutOfMemory) sound fits;
    unretired = tt;
    kept = λ differ first second. tt;
    remembers = record { entries = λ entry there. inl there; no_fewer = omega arith; capacity = refl };
    price = pricing.none table cache.results u v (Some OutOfMemory);
    made = parts.none_made table.graph (conjunction_of table.graph u v);
    reachable = tt;
    lacks = λ is. absurd (memory_no_limit is);
  }

  -- a call that is split: its high side, its low one, and the node of their results
  module _ (law : StepByStep S) (budget : Budget S) (splits : Splitting) (growth : Growth) (fitting : Fitting S)
      (accounts : Accounting S) (caches : Keeping Pair Found same_pair) (pricing : Pricing S Found) (parts : Subfunctions)
      (paths : Reachability)
      (old : TableState S) (before : AndCache) (sound : IsSound old) (o : Operands) (split : AreSplit old.graph o)
      (unknown : IsUnknown before o.u o.v) where
    pub high_failed : (one : TableState S) (cache_one : AndCache) (came : TableError)
        → Conjoins old before o.u_high o.v_high one cache_one (Err came)
        → Conjoins old before o.u o.v one cache_one (Err came)
    high_failed one cache_one came by_high = record {
      conjoined = tt;
      steps = budget.high old one o (Some came) sound split by_high.steps;
      accounts = by_high.accounts;
      unretired = tt;
      kept = λ differ first second. tt;
      remembers = by_high.remembers;
      price = pricing.high_only old one before.results cache_one.results o (Some came) sound.tied.reduced split by_high.price;
      made = made_high parts growth splits old.graph sound.tied.reduced o split o.u o.v (refl, refl) one.graph by_high.made;
      reachable = tt;
      lacks = λ is. lacks_high parts growth splits old.graph sound.tied.reduced o split o.u o.v (refl, refl) one.graph (by_high.lacks is);
    }

    module _ (one : TableState S) (cache_one : AndCache) (high : Node
        × Justification) (by_high : Conjoins old before o.u_high o.v_high one cache_one (Ok high)) where
      sound_one : IsSound one
      sound_one = by_high.steps.leaves.sound

      pub split_high : AreSplit one.graph o
      split_high = splits.kept old.graph one.graph by_high.steps.extends.nodes o split

      -- what the low side adds to the high one, however it ends
      module _ (two : TableState S) (cache_two : AndCache) (by : Answer)
          (by_low : Conjoins one cache_one o.u_low o.v_low two cache_two by) where
        accounts_both : AccountsFor old two (entries before) (entries cache_two) (error_of by)
        accounts_both = accounts.further old one two (entries before) (entries cache_one) (entries cache_two)
            (error_of by) by_high.steps.extends by_low.steps.extends by_high.accounts by_low.accounts

        remembers_both : Remembers entry_of before.results cache_two.results
        remembers_both = caches.further entry_of before.results cache_one.results cache_two.results by_high.remembers by_low.remembers

      pub low_failed : (two : TableState S) (cache_two : AndCache) (came : TableError)
          → Conjoins one cache_one o.u_low o.v_low two cache_two (Err came)
          → Conjoins old before o.u o.v two cache_two (Err came)
      low_failed two cache_two came by_low = record {
        conjoined = tt;
        steps = budget.low old one two o (Some came) sound split by_high.steps by_low.steps;
        accounts = accounts_both two cache_two (Err came) by_low;
        unretired = tt;
        kept = λ differ first second. tt;
        remembers = remembers_both two cache_two (Err came) by_low;
        price = pricing.low_last old one two before.results cache_one.results cache_two.results o
            (Some came) sound.tied.reduced sound_one.tied.reduced by_high.steps.extends.nodes split by_high.remembers.capacity
            by_high.price by_low.price;
        made = made_low parts growth splits old.graph sound.tied.reduced o split o.u o.v
            (refl, refl) one.graph sound_one.tied.reduced by_high.steps.extends.nodes by_high.made
            two.graph by_low.steps.extends.nodes by_low.made;
        reachable = tt;
        lacks = λ is. lacks_low parts growth splits old.graph sound.tied.reduced o split o.u o.v
            (refl, refl) one.graph sound_one.tied.reduced by_high.steps.extends.nodes two.graph (by_low.lacks is);
      }

      module _ (two : TableState S) (cache_two : AndCache) (low : Node
          × Justification) (by_low : Conjoins one cache_one o.u_low o.v_low two cache_two (Ok low)) where
        pub ready : IsReady two.graph two.book.state.live o high low
        ready = record {
          split = splits.kept one.graph two.graph by_low.steps.extends.nodes o split_high;
          on_high = high_kept splits fitting one two sound_one by_low.steps.extends o split_high high.0 high.1 by_high.conjoined;
          on_low = by_low.conjoined;
        }

        price_all : (three : TableState S) (cache_three : AndCache) (result : Answer)
            → Closes two cache_two o high low three cache_three result
            → Prices old before.results o.u o.v three cache_three.results (error_of result)
        price_all three cache_three result closes =
            pricing.closed old one two three before.results cache_one.results cache_two.results cache_three.results o
            (error_of result) sound.tied.reduced sound_one.tied.reduced by_high.steps.extends.nodes split
            unknown.first unknown.second unknown.unused by_high.remembers.capacity by_low.remembers.capacity by_high.price by_low.price
            closes.steps.adds
            (λ used front unused few. when_ok result (closes.used used front unused few))

        reached : (three : TableState S) (cache_three : AndCache) (result : Answer)
            → Closes two cache_two o high low three cache_three result
            → IfOk result (λ found. ReachesNew old.graph three.graph found.0)
        reached three cache_three (Err came) closes = tt
        reached three cache_three (Ok found) closes =
            reached_all paths old.graph one.graph two.graph three.graph sound_one.tied.reduced by_low.steps.leaves.sound.tied.reduced
            by_low.steps.extends.nodes closes.steps.extends.nodes
            o.level high.0 low.0 found.0 by_high.conjoined.stands by_low.conjoined.stands by_high.reachable by_low.reachable
            closes.reachable closes.children

        pub closed : (three : TableState S) (cache_three : AndCache) (result : Answer)
            → Closes two cache_two o high low three cache_three result
            → Conjoins old before o.u o.v three cache_three result
        closed three cache_three result closes = record {
          conjoined = closes.conjoined;
          steps = budget.both old one two three o (error_of result) sound split by_high.steps by_low.steps closes.steps;
          accounts = accounts.further old two three (entries before) (entries cache_two) (entries cache_three) (error_of result)
              (law.extend old one two by_high.steps.extends by_low.steps.extends) closes.steps.extends
              (accounts_both two cache_two (Ok low) by_low) closes.accounts;
          unretired = closes.unretired;
          kept = λ differ first second. closes.kept;
          remembers = caches.makes_room entry_of before.results cache_two.results cache_three.results (o.u, o.v)
              (λ found. unknown.none found.0 found.1)
              (remembers_both two cache_two (Ok low) by_low) closes.room;
          price = price_all three cache_three result closes;
          made = made_all parts growth splits old.graph sound.tied.reduced o split o.u o.v
              (refl, refl) one.graph sound_one.tied.reduced by_high.steps.extends.nodes by_high.made
              two.graph three.graph by_low.steps.leaves.sound.tied.reduced by_low.steps.extends.nodes closes.steps.extends.nodes by_low.made
              closes.made;
          reachable = reached three cache_three result closes;
          lacks = λ is. lacks_both parts growth splits old.graph sound.tied.reduced o split o.u o.v
              (refl, refl) one.graph sound_one.tied.reduced by_high.steps.extends.nodes
              two.graph three.graph by_low.steps.extends.nodes (closes.lacks is);
        }
