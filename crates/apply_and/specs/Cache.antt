-- The computed cache of conjunctions, as a list of entries.
use Rattle.std.specs.Prelude.{List}
use Rattle.node_table.specs.declared.node.Node.{Node}
use Rattle.node_table.specs.declared.node.Justification.{Justification}
use Rattle.operations.specs.declared.computed.Results.{Results}
use Rattle.operations.specs.Computed.{entries_by}
pub use Rattle.operations.specs.Computed.{StandInFront, most_entries}
use Rattle.operations.specs.Entries.{Entry, Conjunction}
pub use Rattle.operations.specs.Pairs.{Pair, is_one, same_pair}
use Rattle.apply_and.specs.declared.cache.AndEntries.{AndEntries}

-- a conjunction, and why its clause holds
abbrev pub Found : Type 0
Found = Node × Justification

abbrev pub AndCache : Type 0
AndCache = Results AndEntries Pair Found

-- the entry of these operands, their conjunction and its justification
abbrev pub entry_of : Pair × Found → Entry
entry_of e = Conjunction e.0.0 e.0.1 e.1.0 e.1.1

abbrev pub entries : AndCache → List Entry
entries cache = entries_by entry_of cache
