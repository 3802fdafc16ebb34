-- Calls that add no clause, one after another, and for a part of a function.
use Rattle.std.proofs.Common.{◌≡◌, ◌≢◌, ◌∙◌, Bool, List, Result, Ok, Err, refl}
use Rattle.node_table.specs.declared.error.TableError.{TableError}
use Rattle.node_table.specs.declared.error.TableError.TheVariants.{NodeLimit, OutOfMemory, WriteFault}
use Rattle.node_table.specs.declared.node.Node.{Node}
use Rattle.node_table.specs.HandedOn.{no_error}
use Rattle.node_table.specs.Laws.{StepByStep, Subfunctions}
use Rattle.node_table.specs.Progress.{Leaves, error_of}
use Rattle.node_table.specs.Table.{TableState, IsSound}
use Rattle.node_table.specs.Value.{Levels, IsSubfunction}
use Rattle.operations.specs.Accounts.{whole_result}
use Rattle.operations.specs.Ended.{lacks_for, sound_left}
use Rattle.operations.specs.Entries.{Entry, Fits}
use Rattle.quantify.specs.Runs.{Runs}

abbrev pub Answer : Type 0
Answer = Result Node TableError

-- a table is sound, unless a write failed
pub sound_after : {S : Type 0} (old new : TableState S) (result : Answer)
    → Leaves old new (error_of result) → (result ≢ Err WriteFault) → IsSound new
sound_after old new result leaves whole = sound_left old new (error_of result) leaves
    (whole_result result whole)

pub memory_no_limit : ◌≡◌ {A = Answer} (Err OutOfMemory) (Err NodeLimit) → ⊥
memory_no_limit is = cc

module _ {S : Type 0} (law : StepByStep S) (parts : Subfunctions) (old : TableState S) (before : List Entry) (function : Levels
    → Bool) where
  -- nothing changes in the table
  pub runs_none : IsSound old → (after : List Entry) → Fits old after → (w : Node)
      → Runs old before function old after (Ok w)
  runs_none sound after fits w = record {
    steps = law.none old sound;
    retired = refl;
    none_added = λ whole id own. own;
    fits = λ whole. fits;
    made = parts.none_made old.graph function;
    lacks = λ is. absurd (no_error is);
  }

  pub runs_refused : IsSound old → (after : List Entry) → Fits old after
      → Runs old before function old after (Err OutOfMemory)
  runs_refused sound after fits = record {
    steps = law.no_memory old sound;
    retired = refl;
    none_added = λ whole id own. own;
    fits = λ whole. fits;
    made = parts.none_made old.graph function;
    lacks = λ is. absurd (memory_no_limit is);
  }

  module _ (new : TableState S) (after : List Entry) (result : Answer) where
    pub runs_part : (part : Levels → Bool) → IsSubfunction function part → Runs old before part new after result
        → Runs old before function new after result
    runs_part part is runs = record {
      steps = runs.steps;
      retired = runs.retired;
      none_added = runs.none_added;
      fits = runs.fits;
      made = parts.made_for_part old.graph new.graph function part is runs.made;
      lacks = λ limit. lacks_for parts new.graph function part is (runs.lacks limit);
    }

    pub runs_further : (mid : TableState S) (between : List Entry) (w : Node)
        → Runs old before function mid between (Ok w) → Runs mid between function new after result
        → Runs old before function new after result
    runs_further mid between w first second = record {
      steps = law.further _ _ _ _ _ _ first.steps second.steps;
      retired = second.retired ∙ first.retired;
      none_added = λ whole id own. first.none_added no_error id (second.none_added whole id own);
      fits = second.fits;
      made = parts.made_further old.graph mid.graph new.graph first.steps.leaves.sound.tied.reduced second.steps.extends.nodes function
          first.made second.made;
      lacks = second.lacks;
    }
