-- Justifications by the numbers of their clauses, as caches keep them.
use Rattle.std.specs.Prelude.{◌≡◌, ℕ, zero, suc, refl}
use Rattle.std.specs.Coded.{Coded, code_by, coded_ℕ}
use Rattle.node_table.specs.declared.node.Justification.{Justification}
use Rattle.node_table.specs.declared.node.Justification.TheVariants.{Trivial, Clause}

-- why a clause holds, by its number; 0 stands for none
abbrev pub just_numbered : ℕ → Justification
just_numbered zero = Trivial
just_numbered (suc before) = Clause (suc before)

abbrev pub number_in : Justification → ℕ
number_in Trivial = zero
number_in (Clause id) = id

pub number_back : (number : ℕ) → number_in (just_numbered number) ≡ number
number_back zero = refl
number_back (suc before) = refl

abbrev pub place_of : Justification → ℕ
place_of Trivial = zero
place_of (Clause id) = suc id

abbrev pub just_at : ℕ → Justification
just_at zero = Trivial
just_at (suc id) = Clause id

pub just_back : (just : Justification) → just_at (place_of just) ≡ just
just_back Trivial = refl
just_back (Clause id) = refl

abbrev pub just_code : Coded Justification
just_code = code_by ℕ coded_ℕ place_of just_at just_back
