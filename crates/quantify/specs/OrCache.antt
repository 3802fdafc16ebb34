-- The computed cache of disjunctions, as a list of entries.
use Rattle.std.specs.Prelude.{List}
use Rattle.node_table.specs.declared.node.Node.{Node}
use Rattle.operations.specs.declared.computed.Results.{Results}
use Rattle.operations.specs.Caches.{MakesRoom, Remembers}
use Rattle.operations.specs.Computed.{entries_by}
use Rattle.operations.specs.Entries.{Entry, Disjunction}
use Rattle.operations.specs.Pairs.{Pair}
use Rattle.quantify.specs.declared.or_cache.OrEntries.{OrEntries}

abbrev pub OrCache : Type 0
OrCache = Results OrEntries Pair Node

-- the entry of these operands and their disjunction
abbrev pub disjunction : Pair × Node → Entry
disjunction e = Disjunction e.0.0 e.0.1 e.1

abbrev pub disjunctions : OrCache → List Entry
disjunctions cache = entries_by disjunction cache

-- entries are forgotten only where the cache is full
abbrev pub RemembersDisjunctions : OrCache → OrCache → Type 0
RemembersDisjunctions before after = Remembers disjunction before.results after.results

-- or where one of these operands is kept
abbrev pub MakesRoomFor : OrCache → OrCache → Node → Node → Type 0
MakesRoomFor before after u v = MakesRoom disjunction before.results after.results (u, v)
