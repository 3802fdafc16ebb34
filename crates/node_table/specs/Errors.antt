-- A ledger's failure as one of a table.
use Rattle.clause_ledger.specs.declared.error.LedgerError.{LedgerError}
use Rattle.clause_ledger.specs.declared.error.LedgerError.TheVariants.{IdLimit as LedgerIdLimit, OutOfMemory as LedgerOutOfMemory}
use Rattle.clause_ledger.specs.declared.error.LedgerError.TheVariants.{WriteFault as LedgerWriteFault}
use Rattle.node_table.specs.declared.error.TableError.{TableError}
use Rattle.node_table.specs.declared.error.TableError.TheVariants.{IdLimit, OutOfMemory, WriteFault}

abbrev pub table_error : LedgerError → TableError
table_error LedgerIdLimit = IdLimit
table_error LedgerOutOfMemory = OutOfMemory
table_error LedgerWriteFault = WriteFault
