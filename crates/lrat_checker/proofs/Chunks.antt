-- No clause stands beyond the chunks.
use Rattle.std.proofs.Common.{◌≡◌, ℕ, ◌*◌, ◌/◌, ◌%◌, ◌≤◌, List, [], length, get_or, None, ◌∙◌, ap, arith}
use Rattle.std.proofs.lemmas.List.{get_or_past}
use Rattle.lrat_checker.specs.Clauses.{Places, near_at}

pub near_beyond : (chunks : List Places) (number : ℕ) → 128 * length chunks ≤ number → near_at chunks number ≡ None
near_beyond chunks number le = ap (λ (places : Places). get_or places (number % 128) None)
    (get_or_past chunks (number / 128) [] (omega arith)) ∙ get_or_past [] (number % 128) None (omega arith)
