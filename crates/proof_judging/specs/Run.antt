-- A run over the steps of a proof: those that were taken in turn, what was done with them, and how it ended.
use Rattle.std.specs.Prelude.{◌≡◌, ℕ, Bool, false, ◌||◌, List, [], ◌∷◌, Option, None, Some, Result, Ok, Err, IsTrue, ⊤}
use Rattle.host_io.specs.Channel.{Channel}
use Rattle.text_scan.specs.Decides.{Decides}
use Rattle.lrat_text.specs.Form.{Form}
use Rattle.lrat_text.specs.LineReader.{ReaderOf, steps_ahead}
use Rattle.lrat_text.specs.LineSteps.{StepsOf, no_more, overlong, no_step, next_step}
use Rattle.lrat_rules.specs.declared.outcome.Reason.{Reason}
use Rattle.lrat_rules.specs.declared.outcome.Reason.TheVariants.{Syntax}
use Rattle.proof_judging.specs.declared.verdict.Verdict.{Verdict}
use Rattle.proof_judging.specs.declared.verdict.Verdict.TheVariants.{Refused}
use Rattle.proof_judging.specs.declared.verdict.CheckError.{CheckError}
use Rattle.proof_judging.specs.declared.verdict.CheckError.TheVariants.{ReadFault, TooLong, OutOfMemory}
use Rattle.proof_judging.specs.Verdict.{end_verdict}
use Rattle.proof_judging.specs.Rules.{Judges, Rules}

-- Good steps, each with its line, were read and taken in turn from one place and one work to another; at the end some step added the empty
-- clause or none.
abbrev pub Leads : {Judge World Step Error : Type 0} → (rules : Rules Judge World Step Error) → rules.Place → rules.Work → Bool
    → List (Step × ℕ) → rules.Place → rules.Work → Bool → Type 0
Leads rules place work had [] last now has = (place ≡ last) × (work ≡ now) × (had ≡ has)
Leads rules place work had ((step, line) ∷ steps) last now has = (read : rules.Work) × (done : rules.Work) × rules.reads work read
    × rules.does place read done had step (Ok None) × (rules.format.fault place step ≡ None)
    × Leads rules (rules.format.after place step) done (had || rules.format.adds_empty step) steps last now has

-- these steps, and what is behind them
abbrev pub before_all : {Step : Type 0} → List (Step × ℕ) → StepsOf Step → StepsOf Step
before_all [] rest = rest
before_all ((step, line) ∷ steps) rest = next_step step line (before_all steps rest)

-- How a run ends behind the steps that it took: at the end of the text, a line that spells no step, the limit, a failed read, want of
-- memory for a step that isn't read whole, or at a step that is bad or comes to no answer.
pub data Exit (Step Error : Type 0) : Type 0 where
  at_end : ℕ → Exit Step Error
  at_bad_line : ℕ → Exit Step Error
  at_limit : Exit Step Error
  at_fault : Exit Step Error
  at_memory : Exit Step Error
  at_step : Step → ℕ → Result Reason Error → Exit Step Error

-- what is next in the text
abbrev pub IsNext : {Step Error : Type 0} → Exit Step Error → StepsOf Step → Type 0
IsNext (at_end line) steps = steps ≡ no_more line
IsNext (at_bad_line line) steps = steps ≡ no_step line
IsNext at_limit steps = steps ≡ overlong
IsNext at_fault steps = ⊤
IsNext at_memory steps = ⊤
IsNext {Step} (at_step step line answer) steps = (behind : StepsOf Step) × (steps ≡ next_step step line behind)

-- the steps ahead are those that were taken, and what is next
pub record IsAhead {Step Error : Type 0} (taken : List (Step × ℕ)) (exit : Exit Step Error) (steps : StepsOf Step) : Type 0 where
  pub rest : StepsOf Step
  pub parts : steps ≡ before_all taken rest
  pub next : IsNext exit rest

-- what is answered
abbrev pub answer_at : {Step Error : Type 0} → (CheckError → Error) → Bool → Exit Step Error → Result Verdict Error
answer_at told has (at_end line) = Ok (end_verdict has line)
answer_at told has (at_bad_line line) = Ok (Refused line Syntax)
answer_at told has at_limit = Err (told TooLong)
answer_at told has at_fault = Err (told ReadFault)
answer_at told has at_memory = Err (told OutOfMemory)
answer_at told has (at_step step line (Ok reason)) = Ok (Refused line reason)
answer_at told has (at_step step line (Err error)) = Err error

abbrev pub refusing : {Error : Type 0} → Result Reason Error → Result (Option Reason) Error
refusing (Ok reason) = Ok (Some reason)
refusing (Err error) = Err error

-- a step that wasn't taken was judged by the rules
abbrev pub IsRefused : {Judge World Step Error : Type 0} → (rules : Rules Judge World Step Error) → rules.Place → Exit Step Error → Type 0
IsRefused rules last (at_end line) = ⊤
IsRefused rules last (at_bad_line line) = ⊤
IsRefused rules last at_limit = ⊤
IsRefused rules last at_fault = ⊤
IsRefused rules last at_memory = ⊤
IsRefused rules last (at_step step line answer) = Judges rules last last step (refusing answer)

-- what was done at the end, behind the last call of the reader
abbrev pub Leaves : {Judge World Step Error : Type 0} → (rules : Rules Judge World Step Error) → rules.Place → rules.Work → rules.Work
    → Bool → Exit Step Error → Type 0
Leaves rules last read new has (at_end line) = read ≡ new
Leaves rules last read new has (at_bad_line line) = read ≡ new
Leaves rules last read new has at_limit = read ≡ new
Leaves rules last read new has at_fault = read ≡ new
Leaves rules last read new has at_memory = read ≡ new
Leaves rules last read new has (at_step step line answer) = rules.does last read new has step (refusing answer)

-- The steps ahead of a reader were taken in turn, each where it is good, up to where the run ended.
pub record Runs {Draft Judge World Step Error : Type 0} (form : Form Draft Step) (tells : Bool) (rules : Rules Judge World Step Error)
    (in_old in_new : Channel) (place : rules.Place) (old new : rules.Work) (reader : ReaderOf Draft)
    (result : Result Verdict Error) : Type 0 where
  pub taken : List (Step × ℕ)
  pub last : rules.Place
  pub done : rules.Work
  pub has_empty : Bool
  pub exit : Exit Step Error
  pub leads : Leads rules place old false taken last done has_empty
  pub read : rules.Work
  pub reads : rules.reads done read
  pub leaves : Leaves rules last read new has_empty exit
  pub refused : IsRefused rules last exit
  pub answer : result ≡ answer_at rules.told has_empty exit
  pub ahead : IsTrue tells → Decides in_old in_new (λ bytes more. IsAhead taken exit (steps_ahead form reader bytes))
