-- The loop of `asks_to_explain`: the words that are left ask for an explanation if all do.
use Rattle.std.proofs.Common.{◌≡◌, drop, map, string_bytes}
use Rattle.command_line.specs.Explain.{explanation_asked}
use Rattle.command_line.proofs.explain.asks_to_explain.Given as goal

abbrev pub invariant-words : goal.invariant-words
invariant-words l =
    explanation_asked (map string_bytes (drop l.word-index l.words)) ≡ explanation_asked (map string_bytes l.words)
