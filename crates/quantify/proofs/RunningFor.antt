-- Calls for functions of a kind that add no clause: one after another, and for some functions of a kind.
use Rattle.std.proofs.Common.{◌≡◌, ◌∙◌, Bool, true, List, Ok, Err, ap, is_some, refl, sym, subst, inl, inr}
use Rattle.node_table.specs.declared.error.TableError.TheVariants.{OutOfMemory}
use Rattle.node_table.specs.declared.node.Node.{Node}
use Rattle.node_table.specs.Diagram.{Graph, IsReduced, KeepsNodes, is_node}
use Rattle.node_table.specs.HandedOn.{no_error}
use Rattle.node_table.specs.Laws.{Growth, StepByStep}
use Rattle.node_table.specs.Made.{inner}
use Rattle.node_table.specs.Table.{TableState, IsSound}
use Rattle.node_table.specs.Value.{Levels, IsSubfunction}
use Rattle.operations.specs.Entries.{Entry, Fits}
use Rattle.quantify.specs.Runs.{Runs}
use Rattle.quantify.specs.RunsFor.{Kind, MakesOnlyOf, RunsFor}
use Rattle.quantify.specs.SomeValues.{function_of}
use Rattle.quantify.proofs.Running.{Answer, memory_no_limit}

-- the function of a node stays as the graph grows
pub function_kept : Growth → (old new : Graph) → IsReduced old → KeepsNodes old new → (u : Node) → is_node old u ≡ true
    → function_of new u ≡ function_of old u
function_kept growth old new reduced keeps u stands = λ i a. growth.value old new reduced keeps a u stands i

-- nodes of one call and then of another one
made_further : Growth → (old mid new : Graph) → IsReduced mid → KeepsNodes mid new → (kind : Kind) → MakesOnlyOf old mid kind
    → MakesOnlyOf mid new kind → MakesOnlyOf old new kind
made_further growth old mid new reduced keeps kind first second = record {
  each = λ key branch is. elim (second.each key branch is) [
    | inl was ↦ elim (first.each key branch was) [
      | inl before ↦ inl before
      | inr one ↦ inr (subst kind (sym (function_kept growth mid new reduced keeps (inner key) (ap is_some was))) one)
    ]
    | inr other ↦ inr other
  ];
}

module _ {S : Type 0} (law : StepByStep S) (old : TableState S) (before : List Entry) (kind : Kind) where
  -- nothing changes in the table
  pub for_none : IsSound old → (after : List Entry) → Fits old after → (w : Node) → RunsFor old before kind old after (Ok w)
  for_none sound after fits w = record {
    steps = law.none old sound;
    retired = refl;
    none_added = λ whole id own. own;
    fits = λ whole. fits;
    made = record { each = λ key branch is. inl is };
    lacks = λ is. absurd (no_error is);
  }

  pub for_refused : IsSound old → (after : List Entry) → Fits old after → RunsFor old before kind old after (Err OutOfMemory)
  for_refused sound after fits = record {
    steps = law.no_memory old sound;
    retired = refl;
    none_added = λ whole id own. own;
    fits = λ whole. fits;
    made = record { each = λ key branch is. inl is };
    lacks = λ is. absurd (memory_no_limit is);
  }

  -- a call and then another one
  pub for_further : (new : TableState S) (after : List Entry) (result : Answer) → Growth → (mid : TableState S) (between : List Entry)
      (w : Node) → RunsFor old before kind mid between (Ok w)
      → RunsFor mid between kind new after result → RunsFor old before kind new after result
  for_further new after result growth mid between w first second = record {
    steps = law.further _ _ _ _ _ _ first.steps second.steps;
    retired = second.retired ∙ first.retired;
    none_added = λ whole id own. first.none_added no_error id (second.none_added whole id own);
    fits = second.fits;
    made = made_further growth old.graph mid.graph new.graph first.steps.leaves.sound.tied.reduced second.steps.extends.nodes kind
        first.made second.made;
    lacks = second.lacks;
  }

module _ {S : Type 0} (old : TableState S) (before : List Entry) (kind : Kind) (new : TableState S) (after : List Entry)
    (result : Answer) where
  -- all functions of another kind are of this one
  pub for_kind : (few : Kind) → ((part : Levels → Bool) → few part → kind part) → RunsFor old before few new after result
      → RunsFor old before kind new after result
  for_kind few wider runs = record {
    steps = runs.steps;
    retired = runs.retired;
    none_added = runs.none_added;
    fits = runs.fits;
    made = record {
      each = λ key branch is. elim (runs.made.each key branch is) [
        | inl was ↦ inl was
        | inr one ↦ inr (wider (function_of new.graph (inner key)) one)
      ];
    };
    lacks = λ limit. let lacks = runs.lacks limit in record {
      part = lacks.part;
      is_one = wider lacks.part lacks.is_one;
      nowhere = lacks.nowhere;
    };
  }

  -- and so are all parts of one function
  pub for_function : (function : Levels → Bool) → ((part : Levels → Bool) → IsSubfunction function part → kind part)
      → Runs old before function new after result → RunsFor old before kind new after result
  for_function function wider runs = record {
    steps = runs.steps;
    retired = runs.retired;
    none_added = runs.none_added;
    fits = runs.fits;
    made = record {
      each = λ key branch is. elim (runs.made.each key branch is) [
        | inl was ↦ inl was
        | inr one ↦ inr (wider (function_of new.graph (inner key)) one)
      ];
    };
    lacks = λ limit. let lacks = runs.lacks limit in record {
      part = lacks.part;
      is_one = wider lacks.part lacks.is_part;
      nowhere = lacks.nowhere;
    };
  }
