-- Which steps may want memory: for the literals that a chain of hints keeps, and for a clause that becomes live.
use Rattle.std.specs.Prelude.{ℕ, Bool, false, not, ◌||◌, ◌&&◌, ℤ, List, [], ◌∷◌, is_none, nat_lt}
use Rattle.cnf_base.specs.declared.step.Step.{Step}
use Rattle.cnf_base.specs.declared.step.Step.TheVariants.{Add, Delete}
use Rattle.cnf_base.specs.ProofText.{is_empty}
use Rattle.lrat_text.specs.Wants.{Wants, wants_of}
use Rattle.lrat_rules.specs.State.{State, Live, clause_at, start}
use Rattle.lrat_rules.specs.Chain.{FalseSet, literals_of, effect, is_unit}
use Rattle.proof_judging.specs.Verdict.{wanted_by}
use Rattle.lrat_checker.specs.TextVerdict.{lrat_format, max_bytes}
use Rattle.lrat_rules.specs.Addition.{if_live, fault}

-- The first of these hints forces a literal, which is kept. Where it forces none, no later hint is taken.
abbrev pub forces_literal : Live → FalseSet → List ℕ → Bool
forces_literal live n [] = false
forces_literal live n (hint ∷ hints) = if_live (λ clause. is_unit (effect n clause)) (clause_at live hint)

-- while an addition is judged: its clause's literals are kept, or one that its hints force
abbrev pub judging_keeps : Live → List ℤ → List ℕ → Bool
judging_keeps live clause hints = not (is_empty clause) || forces_literal live (literals_of clause) hints

-- an addition whose number is greater than all before: while it is judged, or where it is good and becomes live
abbrev pub may_want_memory : State → Step → Bool
may_want_memory state (Add id clause hints groups) =
    nat_lt state.top id && (judging_keeps state.live clause hints || is_none (fault state id clause hints groups))
may_want_memory state (Delete id ids) = false

-- Memory may be wanted for what is still ahead of a reader, where so many bytes follow those taken.
abbrev pub reading_may_want_memory : ℕ → State → Wants → Bool
reading_may_want_memory more state wants = wanted_by lrat_format more state wants

-- for a whole text
abbrev pub check_may_want_memory : List (List ℤ) → ℕ → List ℕ → Bool
check_may_want_memory clauses more bytes = reading_may_want_memory more (start clauses) (wants_of max_bytes bytes)
