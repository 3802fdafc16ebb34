-- The computed cache of quantifications, as a list of entries.
use Rattle.std.specs.Prelude.{◌&&◌, ◌==◌, ◌++◌, ℕ, Bool, List}
use Rattle.node_table.specs.declared.node.Node.{Node}
use Rattle.node_table.specs.contracts.node.NodePartialEq.TheImpl as node_equality
use Rattle.operations.specs.declared.computed.Results.{Results}
use Rattle.operations.specs.Caches.{MakesRoom, Remembers}
use Rattle.operations.specs.Computed.{entries_by}
use Rattle.operations.specs.Entries.{Entry, Quantification}
use Rattle.quantify.specs.declared.exists_cache.ExistsEntries.{ExistsEntries}
use Rattle.quantify.specs.OrCache.{OrCache, disjunctions}

-- a node, and the level that is quantified
abbrev pub Question : Type 0
Question = Node × ℕ

abbrev pub ExistsCache : Type 0
ExistsCache = Results ExistsEntries Question Node

-- the entry of a question and its answer
abbrev pub quantification : Question × Node → Entry
quantification e = Quantification e.0.0 e.0.1 e.1

abbrev pub quantifications : ExistsCache → List Entry
quantifications cache = entries_by quantification cache

-- both caches as one list
abbrev pub both_caches : ExistsCache → OrCache → List Entry
both_caches cache ors = quantifications cache ++ disjunctions ors

-- Whether two questions are the same.
abbrev pub same_question : Question → Question → Bool
same_question one other = node_equality.ghosts.eq one.0 other.0 && (one.1 == other.1)

-- entries are forgotten only where the cache is full
abbrev pub RemembersQuantifications : ExistsCache → ExistsCache → Type 0
RemembersQuantifications before after = Remembers quantification before.results after.results

-- or where one of this question is kept
abbrev pub MakesRoomFor : ExistsCache → ExistsCache → Node → ℕ → Type 0
MakesRoomFor before after u level = MakesRoom quantification before.results after.results (u, level)
