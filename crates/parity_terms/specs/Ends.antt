-- The end of an elimination.
use Rattle.std.specs.Prelude.{◌≡◌, ◌≢◌, ◌⊎◌, ℕ, Bool, false, List, [], Result, Ok, Err, IfOk, length}
use Rattle.node_table.specs.declared.error.TableError.{TableError}
use Rattle.node_table.specs.declared.error.TableError.TheVariants.{NodeLimit}
use Rattle.node_table.specs.Progress.{Continues, Leaves, error_of}
use Rattle.node_table.specs.Table.{UnlessTorn}
use Rattle.bdd_terms.specs.declared.runner.Runner.{Runner}
use Rattle.bdd_terms.specs.Runner.{IsRunner}
use Rattle.parity_equations.specs.Conflict.{AreInConflict}
use Rattle.bdd_terms.specs.Full.{IsFull}
use Rattle.parity_terms.specs.Steps.{Keeps}

-- all terms that were out are released, and the nodes stay
pub record ReleasesAll {S : Type 0} (old new : Runner S) : Type 0 where
  pub runner : IsRunner new
  pub none_out : length new.terms.out.items ≡ 0
  pub refuted : new.refuted ≡ old.refuted
  pub keeps : Keeps [] old new
  pub graph : new.terms.table.graph ≡ old.terms.table.graph
  pub continues : Continues old.terms.table new.terms.table

-- No term is out, unless a write failed; the answer says whether the empty clause came. Where it didn't, these equations aren't in
-- conflict, or the limit of nodes was met behind a reclamation.
pub record Ends {S : Type 0} (equations : List (List ℕ × Bool)) (old new : Runner S) (result : Result Bool TableError) : Type 0 where
  pub goes_on : UnlessTorn result (IsRunner new)
  pub none_out : UnlessTorn result (length new.terms.out.items ≡ 0)
  pub refuted : IfOk result (λ refuted. new.refuted ≡ refuted)
  pub decided : result ≡ Ok false → (AreInConflict equations → ⊥) ⊎ IsFull new
  pub keeps : UnlessTorn result (Keeps [] old new)
  pub no_node_limit : result ≢ Err NodeLimit
  pub leaves : Leaves old.terms.table new.terms.table (error_of result)
