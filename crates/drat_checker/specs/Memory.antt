-- Which steps of a DRAT proof may want memory, and what is still to be read.
use Rattle.std.specs.Prelude.{ℕ, Bool, true, false, ℤ, List}
use Rattle.cnf_base.specs.Limits.{max_bytes}
use Rattle.lrat_text.specs.LineWants.{WantsOf, wants_of}
use Rattle.proof_judging.specs.Verdict.{wanted_by}
use Rattle.drat_text.specs.declared.step.DratStep.{DratStep}
use Rattle.drat_text.specs.declared.step.DratStep.TheVariants.{Add as adds, Delete as deletes}
use Rattle.drat_text.specs.Draft.{drat_form}
use Rattle.drat_rules.specs.Clauses.{Equality, same_list}
use Rattle.drat_checker.specs.DratVerdict.{drat_format}

-- an addition: for the literals that are kept while it is judged, and for its clause where it is good
abbrev pub is_addition : DratStep → Bool
is_addition (adds clause) = true
is_addition (deletes clause) = false

-- memory may be wanted for what is still ahead of a reader, where so many bytes follow those taken
abbrev pub drat_reading_may_want_memory : Equality → ℕ → List (List ℤ) → WantsOf DratStep → Bool
drat_reading_may_want_memory same more clauses wants = wanted_by drat_format more (same, clauses) wants

-- for a whole text
abbrev pub drat_check_may_want_memory_by : Equality → List (List ℤ) → ℕ → List ℕ → Bool
drat_check_may_want_memory_by same clauses more bytes =
    drat_reading_may_want_memory same more clauses (wants_of drat_form max_bytes bytes)

abbrev pub drat_check_may_want_memory : List (List ℤ) → ℕ → List ℕ → Bool
drat_check_may_want_memory clauses more bytes = drat_check_may_want_memory_by same_list clauses more bytes
