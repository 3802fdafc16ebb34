-- Entries of the computed cache: what they tell.
use Rattle.std.proofs.Common.{◌≡◌}
use Rattle.operations.specs.Caches.{TellsKeys}
use Rattle.operations.specs.Pairs.{Pair, equal_pairs, same_pair}
use Rattle.apply_and.specs.Cache.{Found, entry_of}

-- an entry tells its operands, and what was found
tells : (one other : Pair × Found) → entry_of one ≡ entry_of other → one ≡ other
tells one other is =
    let first : one.0.0 ≡ other.0.0 = cc in
    let second : one.0.1 ≡ other.0.1 = cc in
    let node : one.1.0 ≡ other.1.0 = cc in
    let just : one.1.1 ≡ other.1.1 = cc in
    λ i. ((first i, second i), (node i, just i))

pub tells_pairs : TellsKeys same_pair entry_of
tells_pairs = record { same = equal_pairs; own = tells }
