-- A relation of works that holds of each and itself, of what is behind another, and of all that one call does, holds of a whole run.
use Rattle.std.proofs.Common.{ℕ, Bool, false, List, [], ◌∷◌, ◌||◌, Ok, subst}
use Rattle.std.specs.Prelude.{Result, Option, None}
use Rattle.host_io.specs.Channel.{Channel}
use Rattle.lrat_text.specs.Form.{Form}
use Rattle.lrat_text.specs.LineReader.{ReaderOf}
use Rattle.lrat_rules.specs.declared.outcome.Reason.{Reason}
use Rattle.proof_judging.specs.declared.verdict.Verdict.{Verdict}
use Rattle.proof_judging.specs.Rules.{Rules}
use Rattle.proof_judging.specs.Run.{Exit, Leads, Leaves, Runs, refusing, at_end, at_bad_line, at_limit, at_fault, at_memory, at_step}

module _ {Judge World Step Error : Type 0} (rules : Rules Judge World Step Error) (covers : rules.Work → rules.Work → Type 0)
    (same : (work : rules.Work) → covers work work)
    (joined : (old now new : rules.Work) → covers old now → covers now new → covers old new)
    (reading : (old new : rules.Work) → rules.reads old new → covers old new)
    (taking : (place : rules.Place) (old new : rules.Work) (has : Bool) (step : Step) (result : Result (Option Reason) Error)
    → rules.does place old new has step result → covers old new) where
  leads_covered : (taken : List (Step × ℕ)) (place last : rules.Place) (work now : rules.Work) (had has : Bool)
      → Leads rules place work had taken last now has → covers work now
  leads_covered [] place last work now had has leads = subst (λ w. covers work w) leads.1 (same work)
  leads_covered ((step, line) ∷ taken) place last work now had has leads =
      joined work leads.0 now (reading work leads.0 leads.2)
      (joined leads.0 leads.1 now (taking place leads.0 leads.1 had step (Ok None) leads.3)
      (leads_covered taken (rules.format.after place step) last leads.1 now (had || rules.format.adds_empty step) has leads.5))

  leaves_covered : (last : rules.Place) (read new : rules.Work) (has : Bool) (exit : Exit Step Error) → Leaves rules last read new has exit
      → covers read new
  leaves_covered last read new has (at_end line) leaves = subst (λ w. covers read w) leaves (same read)
  leaves_covered last read new has (at_bad_line line) leaves = subst (λ w. covers read w) leaves (same read)
  leaves_covered last read new has at_limit leaves = subst (λ w. covers read w) leaves (same read)
  leaves_covered last read new has at_fault leaves = subst (λ w. covers read w) leaves (same read)
  leaves_covered last read new has at_memory leaves = subst (λ w. covers read w) leaves (same read)
  leaves_covered last read new has (at_step step line answer) leaves = taking last read new has step (refusing answer) leaves

  pub runs_covered : {Draft : Type 0} (form : Form Draft Step) (tells : Bool) (in_old in_new : Channel) (place : rules.Place)
      (old new : rules.Work) (reader : ReaderOf Draft) (result : Result Verdict Error)
      → Runs form tells rules in_old in_new place old new reader result → covers old new
  runs_covered form tells in_old in_new place old new reader result runs =
      joined old runs.done new (leads_covered runs.taken place runs.last old runs.done false runs.has_empty runs.leads)
      (joined runs.done runs.read new (reading runs.done runs.read runs.reads)
      (leaves_covered runs.last runs.read new runs.has_empty runs.exit runs.leaves))
