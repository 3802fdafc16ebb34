-- What a call costs in numbers of clauses, by the parts of the functions in hand. A try makes a node for each part of its result at most, of
-- four clauses each, two more clauses for each pair of nodes that come together, and a unit; a call is tried twice at most. Where the caches
-- have room for all pairs of nodes, none comes together twice; else it may at each level. (Bryant, Heule: Generating Extended Resolution
-- Proofs with a BDD-Based SAT Solver, 2021, section 4.)
use Rattle.std.specs.Prelude.{◌≡◌, ◌⊎◌, ◌≤◌, ◌+◌, ◌*◌, ◌^◌, ℕ}

-- The price of a call, or of a plan's move, over so many variables and with caches of so many entries: whatever these hold, or
-- where they have room for all pairs of parts.
abbrev pub IsMovePrice : ℕ → ℕ → ℕ → ℕ → Type 0
IsMovePrice vars size width price = (price ≡ 8 * (width + 2 ^ vars)) ⊎ ((width * width ≤ size) × (price ≡ 8 * ((width + 1) * (width + 1))))
