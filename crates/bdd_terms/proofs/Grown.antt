-- A runner whose table grew by nodes alone: all of its terms stay, as behind a call that gives True.
use Rattle.std.proofs.Common.{◌≡◌, ◌+◌, ℕ, Bool, true, List, [], length, Contains, Some, None, Result, Ok, Err, refl, ap, sym, ◌∙◌, subst}
use Rattle.std.proofs.Common.{arith, inl}
use Rattle.std.specs.Prelude.{◌≢◌}
use Rattle.node_table.specs.declared.error.TableError.{TableError}
use Rattle.node_table.specs.declared.error.TableError.TheVariants.{NodeLimit, WriteFault}
use Rattle.node_table.specs.declared.node.Node.{Node}
use Rattle.node_table.specs.declared.node.Justification.TheVariants.{Trivial}
use Rattle.node_table.specs.HandedOn.{no_error, same_error}
use Rattle.node_table.specs.Laws.{Growth, StepByStep}
use Rattle.node_table.specs.Made.{LacksPart, MakesOnly}
use Rattle.node_table.specs.Progress.{Steps, error_of}
use Rattle.node_table.specs.Refused.{no_nodes_left}
use Rattle.node_table.specs.Table.{TableState, AddsNone, Extends, IsSound}
use Rattle.node_table.specs.Value.{IsSubfunction, Levels}
use Rattle.operations.specs.Budget.{most_additions}
use Rattle.operations.specs.Entries.{Entry, Fits, Fitting}
use Rattle.bdd_terms.specs.declared.held.HeldTerm.{HeldTerm}
use Rattle.bdd_terms.specs.declared.runner.Runner.{Runner}
use Rattle.bdd_terms.specs.Caches.{all_entries}
use Rattle.bdd_terms.specs.Finds.{Finds}
use Rattle.bdd_terms.specs.Units.{GivesUnit, HasUnits}
use Rattle.bdd_terms.specs.Parity.{GivesNone, always}
use Rattle.bdd_terms.specs.Runner.{IsRunner, true_term}
use Rattle.bdd_terms.proofs.Given.{gives_none, gives_one}
use Rattle.bdd_terms.proofs.Giving.{new_gives, none_added, units_behind}
use Rattle.bdd_terms.proofs.Leaving.{went_on}
use Rattle.bdd_terms.proofs.MadeParts.{lacks_one, only_of}
use Rattle.bdd_terms.proofs.OwnUnits.{no_clause}

module _ {S : Type 0} (growth : Growth) (steps : StepByStep S) (fitting : Fitting S) (function : Levels → Bool) (old : Runner S)
    (runner : IsRunner old) (mid : TableState S) (same : mid.retired ≡ old.terms.table.retired)
    (made : MakesOnly old.terms.table.graph mid.graph function) where
  abbrev kept : List Entry
  kept = all_entries old.terms.caches

  fits_still : IsSound mid → Extends old.terms.table mid → Fits mid kept
  fits_still sound extends = fitting.kept old.terms.table mid kept runner.over.sound sound extends runner.over.fits
      (λ id named gone. runner.over.fits.unretired id named (subst (λ (l : List ℕ). Contains l id) same gone))

  units_still : IsSound mid → Extends old.terms.table mid → AddsNone old.terms.table mid → (terms : List HeldTerm)
      → HasUnits old.terms.table kept terms → HasUnits mid kept terms
  units_still sound extends none terms has = units_behind steps old.terms.table mid kept kept terms runner.over.sound sound extends has
      (record { each = λ id gone. inl (subst (λ (l : List ℕ). Contains l id) same gone) })
      (record { each = λ entry there. inl there }) (none_added old.terms.table mid kept runner.over.sound same none)

  no_unit_given : Steps old.terms.table mid 0 None → AddsNone old.terms.table mid → GivesUnit old.terms.table mid kept kept [] Trivial
  no_unit_given own none = new_gives old.terms.table mid kept Trivial runner.over.sound runner.over.fits own.leaves.no_less same
      (λ id added. inl (none id added)) (λ id is. absurd (no_clause id is)) (λ id is. absurd (no_clause id is))

  found_true : Steps old.terms.table mid 0 None → AddsNone old.terms.table mid
      → Finds (IsSubfunction function) function (λ a. true) [] old.terms.table mid old.terms.caches old.terms.caches (Ok true_term)
  found_true own none = record {
    term = record { stands = refl; value = λ a. refl; proved = refl };
    gives = no_unit_given own none;
    steps = steps.anyhow _ _ (most_additions (length old.terms.table.graph.order) + 1) None
        (steps.at_most _ _ 0 (most_additions (length old.terms.table.graph.order) + 1) None (omega arith) own);
    no_empty = λ whole some. own.no_empty;
    fits = λ whole. fits_still own.leaves.sound own.extends;
    again = λ limit. absurd (no_error limit);
    made = only_of _ _ _ made;
    lacks = λ limit. absurd (no_error limit);
    pairs = λ width room few all. let adds = own.adds in omega (arith, adds);
    sizes = refl;
  }

  module _ (came : TableError) (own : Steps old.terms.table mid 0 (Some came)) (none : came ≢ WriteFault → AddsNone old.terms.table mid)
      (lacks : came ≡ NodeLimit → LacksPart mid.graph function) where
    sound_yet : came ≢ WriteFault → IsSound mid
    sound_yet whole = (went_on {T = HeldTerm} old.terms.table mid (Err came) own.leaves (λ torn. whole (same_error torn))).sound

    no_limit : came ≡ NodeLimit → came ≢ WriteFault
    no_limit is torn = no_nodes_left (sym is ∙ torn)

    units_kept : came ≢ WriteFault → (terms : List HeldTerm) → HasUnits old.terms.table kept terms → HasUnits mid kept terms
    units_kept whole terms has = units_still (sound_yet whole) own.extends (none whole) terms has

    found_none : Finds (IsSubfunction function) function (λ a. true) [] old.terms.table mid old.terms.caches old.terms.caches (Err came)
    found_none = record {
      term = tt;
      gives = tt;
      steps = steps.anyhow _ _ (most_additions (length old.terms.table.graph.order) + 1) (Some came)
          (steps.at_most _ _ 0 (most_additions (length old.terms.table.graph.order) + 1) (Some came) (omega arith) own);
      no_empty = λ whole some. own.no_empty;
      fits = λ whole. fits_still (sound_yet (λ torn. whole (ap Err torn))) own.extends;
      again = λ limit terms has. units_kept (no_limit (same_error limit)) terms has;
      made = only_of _ _ _ made;
      lacks = λ limit. lacks_one _ _ (lacks (same_error limit));
      pairs = λ width room few all. let adds = own.adds in omega (arith, adds);
      sizes = refl;
    }

  pub grown : (r : Result Node TableError) → Steps old.terms.table mid 0 (error_of r) → (r ≢ Err WriteFault → AddsNone old.terms.table mid)
      → (r ≡ Err NodeLimit → LacksPart mid.graph function)
      → GivesNone function [] old (record old { terms = record old.terms { table = mid } }) r
  grown (Ok node) own none lacks = record {
    gives = gives_one growth steps function (λ a. true) [] old runner mid old.terms.caches always (found_true own (none no_error))
        (no_unit_given own (none no_error)) (record old { terms = record old.terms { table = mid } }) refl (inl (refl, refl)) (λ is. cc)
        (λ some. refl);
    out = λ whole. refl;
  }
  grown (Err came) own none lacks = record {
    gives = gives_none growth steps function (λ a. true) [] old runner mid old.terms.caches came
        (found_none came own (λ whole. none (λ torn. whole (same_error torn))) (λ limit. lacks (ap Err limit)))
        (units_kept came own (λ whole. none (λ torn. whole (same_error torn))) (λ limit. lacks (ap Err limit)))
        (record old { terms = record old.terms { table = mid } }) refl refl (Err came) refl;
    out = λ whole. refl;
  }
