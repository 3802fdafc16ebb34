-- What the stages of a run say of its streams, for the promises.
use Rattle.std.proofs.Common.{◌≡◌, ℕ, IsTrue, true, false, List, [], ◌∷◌, ◌++◌, length, append-nil, refl, sym, ap, ◌∙◌, Some, None, Err}
use Rattle.std.proofs.Common.{inl, inr, true≢false, subst, Ok, IfOk}
use Rattle.std.specs.Prelude.{Option, Result, drop, ◌⊎◌}
use Rattle.std.proofs.Math.Seq.{drop-append_seam}
use Rattle.cnf_base.specs.Formula.{Formula}
use Rattle.host_io.specs.Channel.{Channel}
use Rattle.term_runner.specs.declared.outcome.Run.{Run as Ending}
use Rattle.bdd_terms.specs.declared.error.RunError.{RunError}
use Rattle.bdd_terms.specs.declared.error.RunError.TheVariants as run_error
use Rattle.dimacs_reader.specs.Cnf.{CnfText, formula}
use Rattle.solver_cli.specs.declared.status.Status.{Status}
use Rattle.solver_cli.specs.declared.status.Status.TheVariants.{WriteFault, OutOfMemory}
use Rattle.solver_cli.specs.ErrorText.{is_answer}
use Rattle.command_line.specs.Command.{Command, ToSolve, ToCheck, ToMake, ToOrder, Solve, Check, Bench, Make, Arrange, Ask, Convert, Trim}
use Rattle.command_line.specs.Command.{formula_file}
use Rattle.command_line.specs.Command.{Meaning, Asks}
use Rattle.command_line.specs.Command.{AsksHelp, Misuse, IsOneOf, MayMean, CanOnlyMean, meanings, only_command, command}
use Rattle.solver_cli.specs.ExitCode.{status_of_run}
use Rattle.host_io.specs.declared.role.Role.{Role}
use Rattle.host_io.specs.declared.role.Role.TheVariants.{ProofIn}
use Rattle.solver_cli.specs.Run.{decides, name_given}

-- what was written behind what stood there
pub behind : (old new : Channel) (part : List ℕ) → new.written ≡ old.written ++ part → drop (length old.written) new.written ≡ part
behind old new part grown = ap (drop (length old.written)) grown ∙ drop-append_seam old.written part

pub grown_by : (old new : Channel) (part : List ℕ) → new.written ≡ old.written ++ part → new.written ≡ old.written
    ++ drop (length old.written) new.written
grown_by old new part grown = grown ∙ ap (λ (l : List ℕ). old.written ++ l) (sym (behind old new part grown))

pub nothing_more : (old new : Channel) → new.written ≡ old.written → new.written ≡ old.written ++ []
nothing_more old new same = same ∙ sym (append-nil old.written)

-- a stream that was idle before
pub whole_of : (old new : Channel) → old.written ≡ [] → drop (length old.written) new.written ≡ new.written
whole_of old new idle = ap (λ (l : List ℕ). drop (length l) new.written) idle

-- two statuses, one of which is an answer
pub no_answer : {status other : Status} → is_answer status ≡ false → is_answer other ≡ true → status ≡ other → ⊥
no_answer unanswered answers same = true≢false (sym answers ∙ ap is_answer (sym same) ∙ unanswered)

-- how deciding a formula and writing its proof ends a run
pub write_ends : (status : Status) (error : RunError) → status ≡ status_of_run error
    → ((status ≡ WriteFault) × ◌≡◌ {A = Result Ending RunError} (Err error) (Err run_error.WriteFault)) ⊎ (status ≡ OutOfMemory)
write_ends status run_error.WriteFault is = inl (is, refl)
write_ends status run_error.OutOfMemory is = inr is

-- the words give one command, and a file has one text
same_some : {a b : List ℕ} → ◌≡◌ {A = Option (List ℕ)} (Some a) (Some b) → a ≡ b
same_some e = cc

pub same_command : {words : Option Command} {asked other : Command} → words ≡ Some asked → words ≡ Some other → asked ≡ other
same_command here there = inner (sym here ∙ there) where
  inner : {a b : Command} → ◌≡◌ {A = Option Command} (Some a) (Some b) → a ≡ b
  inner e = cc

pub one_text : (files : List ℕ → Option (List ℕ)) {words : Option Command} {asked other : Command} {file name bytes text : List ℕ}
    → words ≡ Some asked → words ≡ Some other → formula_file asked ≡ Some file → formula_file other ≡ Some name → files file ≡ Some bytes
    → files name ≡ Some text → bytes ≡ text
one_text files here there named named_there stands stands_there =
    same_some (sym stands ∙ ap files (same_some (sym named ∙ ap formula_file (same_command here there) ∙ named_there)) ∙ stands_there)

pub one_proof : (files : List ℕ → Option (List ℕ)) {words : Option Command} {asked other : Command} {file name bytes text : List ℕ}
    → words ≡ Some asked → words ≡ Some other → name_given ProofIn asked ≡ Some file → name_given ProofIn other ≡ Some name
    → files file ≡ Some bytes → files name ≡ Some text → bytes ≡ text
one_proof files here there named named_there stands stands_there =
    same_some (sym stands ∙ ap files (same_some (sym named ∙ ap (name_given ProofIn) (same_command here there) ∙ named_there))
    ∙ stands_there)

pub two_commands : {words : Option Command} {task : ToSolve} {other : ToCheck} → words ≡ Some (Solve task) → words ≡ Some (Check other) → ⊥
two_commands {task = task} {other = other} here there = apart (sym here ∙ there) where
  apart : ◌≡◌ {A = Option Command} (Some (Solve task)) (Some (Check other)) → ⊥
  apart e = cc

-- a command that decides a formula, and one that doesn't
pub decided_apart : {words : Option Command} {asked other : Command} → words ≡ Some asked → IsTrue (decides asked) → words ≡ Some other
    → decides other ≡ false → ⊥
decided_apart here is there never = true≢false (sym is ∙ ap decides (same_command here there) ∙ never)

-- a command that names a file in a role, and one that doesn't
pub named_apart : (role : Role) {words : Option Command} {asked other : Command} {file : List ℕ} → words ≡ Some asked
    → name_given role asked ≡ Some file → words ≡ Some other → name_given role other ≡ None → ⊥
named_apart role {file = file} here named there none =
    apart (sym named ∙ ap (name_given role) (same_command here there) ∙ none) where
      apart : ◌≡◌ {A = Option (List ℕ)} (Some file) None → ⊥
      apart e = cc

-- a command that judges a proof, and one that doesn't
pub judged_apart : {words : Option Command} {asked other : Command} {file : List ℕ} → words ≡ Some asked → name_given ProofIn asked
    ≡ Some file → words ≡ Some other → name_given ProofIn other ≡ None → ⊥
judged_apart = named_apart ProofIn

pub decided_unjudged : (asked : Command) → IsTrue (decides asked) → name_given ProofIn asked ≡ None
decided_unjudged (Solve task) is = refl
decided_unjudged (Check task) is = cc
decided_unjudged (Bench task) is = refl
decided_unjudged (Make task) is = refl
decided_unjudged (Arrange task) is = refl
decided_unjudged (Ask task) is = refl
decided_unjudged (Convert task) is = cc
decided_unjudged (Trim task) is = cc

pub makes_no_order : {words : Option Command} {task : ToMake} {other : ToOrder} → words ≡ Some (Make task) → words ≡ Some (Arrange other) → ⊥
makes_no_order {task = task} {other = other} here there = apart (sym here ∙ there) where
  apart : ◌≡◌ {A = Option Command} (Some (Make task)) (Some (Arrange other)) → ⊥
  apart e = cc

-- words that give a command are not words that give none
pub not_unasked : {words : Option Command} {asked : Command} → words ≡ Some asked → words ≡ None → ⊥
not_unasked {asked = asked} here none = apart (sym here ∙ none) where
  apart : ◌≡◌ {A = Option Command} (Some asked) None → ⊥
  apart e = cc

-- words that give a command can mean nothing else
only_this : (meanings : List Meaning) (asked : Command) (meaning : Meaning) → only_command meanings ≡ Some asked → IsOneOf meaning meanings
    → meaning ≡ Asks asked
only_this [] asked meaning e is = absurd is
only_this (Asks one ∷ []) asked meaning e (inl same) = same ∙ inner e where
  inner : {a b : Command} → ◌≡◌ {A = Option Command} (Some a) (Some b) → Asks a ≡ Asks b
  inner e = cc
only_this (Asks one ∷ []) asked meaning e (inr none) = absurd none
only_this (Asks one ∷ more ∷ others) asked meaning e is = cc
only_this (AsksHelp ∷ more) asked meaning e is = cc
only_this (Misuse ∷ more) asked meaning e is = cc

this_one : (meanings : List Meaning) (asked : Command) → only_command meanings ≡ Some asked → IsOneOf (Asks asked) meanings
this_one [] asked e = cc
this_one (Asks one ∷ []) asked e = inl (inner e) where
  inner : {a b : Command} → ◌≡◌ {A = Option Command} (Some a) (Some b) → Asks b ≡ Asks a
  inner e = cc
this_one (Asks one ∷ more ∷ others) asked e = cc
this_one (AsksHelp ∷ more) asked e = cc
this_one (Misuse ∷ more) asked e = cc

misuse_apart : {asked : Command} → Misuse ≡ Asks asked → ⊥
misuse_apart e = cc

help_apart : {asked : Command} → AsksHelp ≡ Asks asked → ⊥
help_apart e = cc

pub no_misuse : (words : List (List ℕ)) {asked : Command} → command words ≡ Some asked → MayMean words Misuse → ⊥
no_misuse words {asked = asked} e is = misuse_apart (only_this (meanings words) asked Misuse e is)

pub no_help : (words : List (List ℕ)) {asked : Command} → command words ≡ Some asked → MayMean words AsksHelp → ⊥
no_help words {asked = asked} e is = help_apart (only_this (meanings words) asked AsksHelp e is)

pub only_misuse : (words : List (List ℕ)) {asked : Command} → command words ≡ Some asked → CanOnlyMean words Misuse → ⊥
only_misuse words {asked = asked} e only = misuse_apart (sym (only (Asks asked) (this_one (meanings words) asked e)))

pub only_help : (words : List (List ℕ)) {asked : Command} → command words ≡ Some asked → CanOnlyMean words AsksHelp → ⊥
only_help words {asked = asked} e only = help_apart (sym (only (Asks asked) (this_one (meanings words) asked e)))

pub same_formula : {text : CnfText} {problem other : Formula} → text ≡ formula problem → text ≡ formula other → problem ≡ other
same_formula e d = inner _ _ (sym e ∙ d) where
  inner : (problem other : Formula) → formula problem ≡ formula other → problem ≡ other
  inner problem other e = cc

-- what is said of an `Ok`, of a result that is one
pub at_ok : {T E : Type 0} (P : T → Type 0) {result : Result T E} {value : T} → result ≡ Ok value → P value → IfOk result P
at_ok {T = T} {E = E} P {result = result} is holds = subst (λ (r : Result T E). IfOk r P) (sym is) holds
