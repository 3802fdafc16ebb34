-- The entries of both caches as one list: they name no clause, and a disjunction changes one part of it.
use Rattle.std.proofs.Common.{◌≡◌, ℕ, Bool, List, Option, refl, subst, sym}
use Rattle.std.proofs.lemmas.List.Elements.{Contains-append_left, Contains-append_right}
use Rattle.node_table.specs.Table.{TableState, IsSound}
use Rattle.node_table.specs.Value.{Levels}
use Rattle.operations.specs.Caches.{IsOneKept}
use Rattle.operations.specs.Entries.{Entry, Fits, FitsEntry, Fitting, HaveSame, Quantification}
use Rattle.node_table.specs.declared.node.Node.{Node}
use Rattle.quantify.specs.ExistsCache.{ExistsCache, both_caches, quantification, quantifications}
use Rattle.quantify.specs.OrCache.{OrCache, disjunction, disjunctions}
use Rattle.quantify.specs.Runs.{Runs}
use Rattle.quantify.proofs.Lists.{AreUnnamed, both_unnamed, fits_beside, fits_more, fits_still, unnamed}
use Rattle.quantify.proofs.Running.{Answer, sound_after}

pub quantifications_unnamed : (cache : ExistsCache) → AreUnnamed (quantifications cache)
quantifications_unnamed cache = unnamed quantification (λ x. refl) cache.results.entries

pub disjunctions_unnamed : (ors : OrCache) → AreUnnamed (disjunctions ors)
disjunctions_unnamed ors = unnamed disjunction (λ x. refl) ors.results.entries

pub caches_unnamed : (cache : ExistsCache) (ors : OrCache) → AreUnnamed (both_caches cache ors)
caches_unnamed cache ors = both_unnamed (quantifications cache) (disjunctions ors) (quantifications_unnamed cache)
    (disjunctions_unnamed ors)

module _ {S : Type 0} (fitting : Fitting S) (table : TableState S) (cache : ExistsCache) (ors : OrCache)
    (fits : Fits table (both_caches cache ors)) where
  pub exists_part : Fits table (quantifications cache)
  exists_part = fitting.fewer table (quantifications cache) (both_caches cache ors)
      (λ entry there. Contains-append_left (quantifications cache) (disjunctions ors) entry there) fits

  pub ors_part : Fits table (disjunctions ors)
  ors_part = fitting.fewer table (disjunctions ors) (both_caches cache ors)
      (λ entry there. Contains-append_right (quantifications cache) (disjunctions ors) entry there) fits

  -- one quantification more
  pub kept_part : (after : ExistsCache) (u w : Node) (level : ℕ) → FitsEntry table.graph table.book.state.live (Quantification u level w)
      → (given : Option ℕ) → IsOneKept (quantifications cache) (quantifications after) (Quantification u level w) given
      → Fits table (both_caches after ors)
  kept_part after u w level right given kept =
      fits_beside table (quantifications after) (disjunctions ors) (quantifications_unnamed after)
      (fits_more table (quantifications cache) (quantifications after) (Quantification u level w)
      (quantifications_unnamed after) exists_part right kept.only) ors_part

  -- a look-up for a quantification
  pub looked_part : (after : ExistsCache) → HaveSame (quantifications cache) (quantifications after) → Fits table (both_caches after ors)
  looked_part after same =
      fits_beside table (quantifications after) (disjunctions ors) (quantifications_unnamed after)
      (fitting.fewer table (quantifications after) (quantifications cache) same.back exists_part) ors_part

-- a call of a disjunction, with the entries of quantifications beside those of its own
pub runs_beside : {S : Type 0} → Fitting S → (old : TableState S) → IsSound old
    → (cache : ExistsCache) (ors : OrCache) → Fits old (both_caches cache ors)
    → (function : Levels → Bool) (new : TableState S) (ors_after : OrCache) (result : Answer)
    → Runs old (disjunctions ors) function new (disjunctions ors_after) result
    → Runs old (both_caches cache ors) function new (both_caches cache ors_after) result
runs_beside fitting old sound cache ors fits function new ors_after result runs = record {
  steps = runs.steps;
  retired = runs.retired;
  none_added = runs.none_added;
  fits = λ whole.
      fits_beside new (quantifications cache) (disjunctions ors_after) (quantifications_unnamed cache)
      (fits_still fitting old new sound (sound_after old new result runs.steps.leaves whole) runs.steps.extends runs.retired
      (quantifications cache) (exists_part fitting old cache ors fits)) (runs.fits whole);
  made = runs.made;
  lacks = runs.lacks;
}

-- what holds of entries holds of those that a cache came back with
pub carried : (P : List Entry → Type 0) (listed after : List Entry) → after ≡ listed → P listed → P after
carried P listed after same holds = subst P (sym same) holds
