-- Entries of the computed cache: what they tell.
use Rattle.std.proofs.Common.{◌≡◌, None, Some}
use Rattle.node_table.specs.declared.node.Justification.{Justification}
use Rattle.operations.specs.Caches.{TellsKeys}
use Rattle.operations.specs.Pairs.{Pair, equal_pairs, same_pair}
use Rattle.imply.specs.Cache.{entry_of}

-- an entry tells its operands, and why the first implies the second
tells : (one other : Pair × Justification) → entry_of one ≡ entry_of other → one ≡ other
tells one other is =
    let first : one.0.0 ≡ other.0.0 = cc in
    let second : one.0.1 ≡ other.0.1 = cc in
    let just : one.1 ≡ other.1 = cc in
    λ i. ((first i, second i), just i)

pub tells_pairs : TellsKeys same_pair entry_of
tells_pairs = record { same = equal_pairs; own = tells }

pub none_found : (just : Justification) → None ≡ Some just → ⊥
none_found just is = cc
