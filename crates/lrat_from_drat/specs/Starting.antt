-- How the LRAT proof begins: the formula's tautologies are deleted, and no others.
use Rattle.std.specs.Prelude.{◌≡◌, ℕ, ◌+◌, Bool, true, false, ℤ, List, map, Some, Result, Ok, Err}
use Rattle.std.specs.List.{list_all}
use Rattle.cnf_base.specs.declared.step.Step.{Step}
use Rattle.cnf_base.specs.ProofText.{is_id}
use Rattle.host_io.specs.declared.source.Failed.{Failed}
use Rattle.host_io.specs.Channel.{Channel, WritesAll}
use Rattle.lrat_rules.specs.State.{State, start}
use Rattle.lrat_rules.specs.Derivation.{text_of}
use Rattle.drat_proof.specs.declared.error.ConvertError.{ConvertError}
use Rattle.drat_proof.specs.declared.error.ConvertError.TheVariants.{ReadFault, TooLong, OutOfMemory, WriteFault}
use Rattle.drat_checker.specs.Places.{Places, place_at}
use Rattle.drat_checker.specs.Numbers.{has_number}
use Rattle.lrat_from_drat.specs.Following.{Follows, Leads}
use Rattle.lrat_from_drat.specs.Lrat.{beginning, is_dropped, outline}

-- the numbers are those of the tautologies
pub record AreDropped (places : Places) (ids : List ℕ) : Type 0 where
  pub range : list_all is_id ids ≡ true
  pub own : (number : ℕ) → has_number (number + 1) ids ≡ is_dropped (place_at places number)
  pub zero : has_number 0 ids ≡ false

-- The lines lead from the formula's clauses to a state that follows them, and were written so.
pub record Begun (tells : Bool) (old new : Channel) (clauses : List (List ℤ)) (written : Result (Unit {0}) Failed) : Type 0 where
  pub then : State
  pub steps : List Step
  pub leads : Leads (start clauses) then steps
  pub follows : Follows then (map Some clauses)
  pub alike : map outline steps ≡ beginning clauses
  pub lines : WritesAll tells old new (text_of steps) written

abbrev pub Begins : Bool → Channel → Channel → List (List ℤ) → Result (Unit {0}) ConvertError → Type 0
Begins tells old new clauses (Ok u) = Begun tells old new clauses (Ok tt)
Begins tells old new clauses (Err OutOfMemory) = new ≡ old
Begins tells old new clauses (Err WriteFault) = (failed : Failed) × Begun tells old new clauses (Err failed)
Begins tells old new clauses (Err ReadFault) = ⊥
Begins tells old new clauses (Err TooLong) = ⊥
