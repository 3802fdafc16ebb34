-- What calls leave that may end with an error, one after another.
use Rattle.std.proofs.Common.{◌≡◌, Option, None, Some, Result, sym, subst}
use Rattle.std.specs.Prelude.{IsErrAnd}
use Rattle.clause_ledger.specs.Told.{told_formula}
use Rattle.node_table.specs.declared.error.TableError.{TableError}
use Rattle.node_table.specs.declared.error.TableError.TheVariants.{NodeLimit, IdLimit, OutOfMemory, WriteFault}
use Rattle.node_table.specs.Table.{TableState}
use Rattle.node_table.specs.Progress.{Continues, Leaves, error_of}
use Rattle.bdd_terms.proofs.Leaving.{error_handed}

-- want of memory leaves all in step
pub memory_left : {S T : Type 0} (old new : TableState S) (r : Result T TableError)
    → IsErrAnd r (λ e. e ≡ OutOfMemory) → Continues old new
    → Leaves old new (error_of r)
memory_left old new r is continues = subst (λ (error : Option TableError). Leaves old new error)
    (sym (error_handed r OutOfMemory is)) continues

-- however a call ends, as many nodes are allowed
pub most_left : {S : Type 0} (old new : TableState S) (error : Option TableError) → Leaves old new error
    → new.max_nodes ≡ old.max_nodes
most_left old new None leaves = leaves.max_nodes
most_left old new (Some NodeLimit) leaves = leaves.0.max_nodes
most_left old new (Some IdLimit) leaves = leaves.0.max_nodes
most_left old new (Some OutOfMemory) leaves = leaves.max_nodes
most_left old new (Some WriteFault) leaves = leaves.max_nodes

pub formula_left : {S : Type 0} (old new : TableState S) (error : Option TableError) → Leaves old new error
    → new.book.formula ≡ old.book.formula
formula_left old new None leaves = told_formula leaves.told
formula_left old new (Some NodeLimit) leaves = told_formula leaves.0.told
formula_left old new (Some IdLimit) leaves = told_formula leaves.0.told
formula_left old new (Some OutOfMemory) leaves = told_formula leaves.told
formula_left old new (Some WriteFault) leaves = told_formula leaves.told
