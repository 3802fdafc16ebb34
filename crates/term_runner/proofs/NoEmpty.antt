-- Calls that add no empty clause, one after another, and those that give no number.
use Rattle.std.proofs.Common.{◌≡◌, ◌≢◌, Bool, true, false, [], Result, Ok, Err, arith, inl, inr}
use Rattle.node_table.specs.declared.error.TableError.{TableError}
use Rattle.node_table.specs.declared.error.TableError.TheVariants.{WriteFault}
use Rattle.node_table.specs.Progress.{Continues, Leaves, error_of}
use Rattle.node_table.specs.Table.{TableState, AddsNoEmpty}
use Rattle.bdd_terms.proofs.Leaving.{went_on}

module _ {S : Type 0} where
  -- where no number is given none came
  pub fewer_empty : (old new : TableState S) → Continues old new
      → new.book.state.top ≡ old.book.state.top → AddsNoEmpty old new
  fewer_empty old new continues top = record {
    each = λ id is. elim (continues.since id [] is) [
      | inl was ↦ was
      | inr came ↦ absurd (omega (arith, came.0, came.1, top))
    ];
  }

  pub fewer_left : {T : Type 0} (old new : TableState S) (r : Result T TableError)
      → Leaves old new (error_of r) → r ≢ Err WriteFault → new.book.state.top ≡ old.book.state.top → AddsNoEmpty old new
  fewer_left old new r leaves whole top =
      fewer_empty old new (went_on old new r leaves whole) top

pub no_true : (refuted : Bool) → refuted ≡ false → ◌≡◌ {A = Result Bool TableError} (Ok refuted) (Ok true) → ⊥
no_true refuted open_yet is = cc
