-- The computed cache of implications, as a list of entries.
use Rattle.std.specs.Prelude.{List}
use Rattle.node_table.specs.declared.node.Justification.{Justification}
use Rattle.operations.specs.declared.computed.Results.{Results}
use Rattle.operations.specs.Computed.{entries_by}
pub use Rattle.operations.specs.Computed.{StandInFront, most_entries}
use Rattle.operations.specs.Entries.{Entry, Implication}
use Rattle.operations.specs.Pairs.{Pair}
use Rattle.imply.specs.declared.cache.ImplyEntries.{ImplyEntries}

abbrev pub ImplyCache : Type 0
ImplyCache = Results ImplyEntries Pair Justification

-- the entry of these operands, and why the first implies the second
abbrev pub entry_of : Pair × Justification → Entry
entry_of e = Implication e.0.0 e.0.1 e.1

abbrev pub entries : ImplyCache → List Entry
entries cache = entries_by entry_of cache
