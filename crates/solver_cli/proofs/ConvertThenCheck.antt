-- The proof that `drat` left is verified by `check --format drat`, and that of `lrat` by `check`.
use Rattle.std.proofs.Common.{◌≡◌, ◌<◌, ◌≤◌, ℕ, ℤ, List, length, refl, sym, ap, ◌∙◌, subst, Some, None}
use Rattle.std.specs.Prelude.{Bool, true, false, Option, if◌then◌else◌}
use Rattle.cnf_base.specs.Formula.{Formula}
use Rattle.cnf_base.specs.Limits.{max_vars}
use Rattle.cnf_base.specs.Truth.{AreClausesOf}
use Rattle.dimacs_reader.specs.Cnf.{cnf, formula}
use Rattle.dimacs_reader.specs.declared.mode.Mode.{Mode}
use Rattle.host_io.specs.declared.role.Role.TheVariants.{ProofOut}
use Rattle.lrat_rules.specs.declared.outcome.Reason.{Reason}
use Rattle.lrat_rules.specs.Run.{Refutes}
use Rattle.proof_judging.specs.declared.verdict.Verdict.{Verdict}
use Rattle.proof_judging.specs.declared.verdict.Verdict.TheVariants as judgement
use Rattle.lrat_checker.specs.TextVerdict.{max_bytes, text_verdict}
use Rattle.drat_proof.specs.Drat.{named_drat}
use Rattle.command_line.specs.declared.format.ProofFormat.{ProofFormat}
use Rattle.command_line.specs.declared.format.ProofFormat.TheVariants.{Drat, DratBySet}
use Rattle.command_line.specs.declared.conversion.Conversion.{Conversion}
use Rattle.command_line.specs.declared.conversion.Conversion.TheVariants.{IntoDrat, IntoLrat}
use Rattle.command_line.specs.Command.{Command, Check, Convert, format_before, format_of}
use Rattle.solver_cli.specs.ConvertedProof.{IsConversion}
use Rattle.solver_cli.specs.Answer.{IsRead}
use Rattle.solver_cli.specs.Format.{verdict_in, IsRefusedIn}
use Rattle.solver_cli.specs.Headline.{IsVerified, Promises}
use Rattle.solver_cli.specs.Run.{Run, written_in, AsksOver, AsksToJudge}
use Rattle.solver_cli.specs.SolveThenCheck.{MayEnd}
use Rattle.solver_cli.specs.ConvertThenCheck.{ChecksConverted, ChecksDrat, ChecksLrat}
use Rattle.solver_cli.proofs.Facts.{same_command}
use Rattle.solver_cli.proofs.CheckEnds.{ends as check_ends}

-- what is used of `cnf_law`, `drat_law` and `fresh_drat_law`
pub record Laws : Type 0 where
  pub few : (mode : Mode) (bytes : List ℕ) (problem : Formula) → cnf mode bytes ≡ formula problem → problem.vars ≤ max_vars
  pub literals : (mode : Mode) (bytes : List ℕ) (problem : Formula) → cnf mode bytes ≡ formula problem
      → AreClausesOf problem.vars problem.clauses
  pub written : (new_names any_order : Bool) (problem : Formula) (bytes : List ℕ) → problem.vars ≤ max_vars
      → AreClausesOf problem.vars problem.clauses → text_verdict problem.clauses bytes ≡ Some judgement.Verified
      → length (named_drat new_names problem bytes) ≤ max_bytes
      → verdict_in (if any_order then DratBySet else Drat) problem.clauses (named_drat new_names problem bytes) ≡ Some judgement.Verified

-- what both runs say of the proof that the first one left
record Again (converted run : Run) (into : Conversion) : Type 0 where
  pub problem : Formula
  pub mode : Mode
  pub text : List ℕ
  pub formula_is : cnf mode text ≡ formula problem
  pub bytes : List ℕ
  pub judged : verdict_in (format_before into) problem.clauses bytes ≡ Some judgement.Verified
  pub whole : IsConversion into problem bytes judgement.Verified (written_in converted ProofOut)
  pub to_judge : AsksToJudge run problem (written_in converted ProofOut)

again : {into : Conversion} {format : ProofFormat} (converted run : Run) → Promises converted
    → (asks : ChecksConverted converted run into format) → Again converted run into
again converted run first asks = record {
  problem = problem;
  mode = asks.conversion.mode;
  text = of_file.bytes;
  formula_is = of_file.says;
  bytes = verified.bytes;
  judged = subst (λ (f : ProofFormat). verdict_in f problem.clauses verified.bytes ≡ Some judgement.Verified)
      (ap format_of same_words ∙ ap format_before asks.converts) verified.has.judged;
  whole = subst (λ (i : Conversion). IsConversion i problem verified.bytes judgement.Verified (written_in converted ProofOut)) asks.converts
      (verified.converted (asks.conversion, asks.conversion_asked)).written;
  to_judge = record {
    asked = Check asks.task;
    asks = record {
      command = asks.check_asked;
      file = asks.task.file;
      named = refl;
      read = record {
        bytes = of_file.bytes;
        stands = asks.same_formula ∙ of_file.stands;
        says = ap (λ (mode : Mode). cnf mode of_file.bytes) asks.same_mode ∙ of_file.says;
      };
    };
    file = asks.task.proof;
    named = refl;
    stands = asks.same_proof;
  };
} where
  verified : IsVerified converted
  verified = (first.verdict.verified asks.verified).1 asks.converted_tells

  problem : Formula
  problem = verified.problem

  same_words : verified.has.asked.asked ≡ Convert asks.conversion
  same_words = same_command verified.has.asked.asks.command asks.conversion_asked

  over : AsksOver converted (Convert asks.conversion) (formula problem)
  over = subst (λ (c : Command). AsksOver converted c (formula problem)) same_words verified.has.asked.asks

  -- the formula stands in the file that the words name
  of_file : IsRead converted.texts asks.conversion.file (cnf asks.conversion.mode) (formula problem)
  of_file = subst (λ (f : List ℕ). IsRead converted.texts f (cnf asks.conversion.mode) (formula problem)) (sym (one_file over.named))
      over.read where
        one_file : {here there : List ℕ} → ◌≡◌ {A = Option (List ℕ)} (Some here) (Some there) → here ≡ there
        one_file e = cc

pub drat_ends : Laws → (converted run : Run) → Promises converted → Promises run → ChecksDrat converted run
    → MayEnd run (written_in converted ProofOut) run.status
unfolding again
drat_ends laws converted run first second asks =
    check_ends run asks.checks.task second asks.checks.checked_tells asks.checks.check_asked found.to_judge unrefused long where
      found : Again converted run (IntoDrat asks.fresh)
      found = again converted run first asks.checks

      bytes : List ℕ
      bytes = written_in converted ProofOut

      by_drat : verdict_in (if asks.any_order then DratBySet else Drat) found.problem.clauses bytes ≡ Some judgement.Verified
      by_drat = subst (λ (b : List ℕ). verdict_in (if asks.any_order then DratBySet else Drat) found.problem.clauses b
          ≡ Some judgement.Verified) (sym found.whole)
          (laws.written asks.fresh asks.any_order found.problem found.bytes
          (laws.few found.mode found.text found.problem found.formula_is)
          (laws.literals found.mode found.text found.problem found.formula_is) found.judged
          (subst (λ (b : List ℕ). length b ≤ max_bytes) found.whole asks.fits))

      apart : {line : ℕ} {reason : Reason} {given : Option Verdict} → given ≡ Some judgement.Verified
          → given ≡ Some (judgement.Refused line reason) → ⊥
      apart e d = cc

      not_refused : (any_order : Bool) (line : ℕ) (reason : Reason)
          → verdict_in (if any_order then DratBySet else Drat) found.problem.clauses bytes ≡ Some judgement.Verified
          → IsRefusedIn (if any_order then DratBySet else Drat) found.problem.clauses bytes line reason → ⊥
      not_refused true line reason is refused = apart is refused
      not_refused false line reason is refused = apart is refused

      none_some : {given : Option Verdict} → given ≡ Some judgement.Verified → given ≡ None → ⊥
      none_some e d = cc

      unrefused : (line : ℕ) (reason : Reason) → IsRefusedIn asks.checks.task.format found.problem.clauses bytes line reason → ⊥
      unrefused line reason refused = not_refused asks.any_order line reason by_drat
          (subst (λ (f : ProofFormat). IsRefusedIn f found.problem.clauses bytes line reason) asks.checks.judges refused)

      long : verdict_in asks.checks.task.format found.problem.clauses bytes ≡ None → max_bytes < length bytes
      long none = absurd (none_some by_drat
          (subst (λ (f : ProofFormat). verdict_in f found.problem.clauses bytes ≡ None) asks.checks.judges none))

pub lrat_ends : ((clauses : List (List ℤ)) (bytes : List ℕ) → text_verdict clauses bytes ≡ None → max_bytes < length bytes)
    → (converted run : Run) → Promises converted → Promises run → ChecksLrat converted run
    → MayEnd run (written_in converted ProofOut) run.status
unfolding again
lrat_ends long_text converted run first second asks =
    check_ends run asks.checks.task second asks.checks.checked_tells asks.checks.check_asked found.to_judge unrefused long where
      found : Again converted run (IntoLrat asks.any_order)
      found = again converted run first asks.checks

      bytes : List ℕ
      bytes = written_in converted ProofOut

      refutes : Refutes found.problem.clauses bytes
      refutes = found.whole.2 refl

      none_some : {line : ℕ} {reason : Reason} {given : Option (ℕ × Reason)} → given ≡ None → given ≡ Some (line, reason) → ⊥
      none_some e d = cc

      unrefused : (line : ℕ) (reason : Reason) → IsRefusedIn asks.checks.task.format found.problem.clauses bytes line reason → ⊥
      unrefused line reason refused = none_some refutes.verified
          (subst (λ (f : ProofFormat). IsRefusedIn f found.problem.clauses bytes line reason) asks.checks.judges refused)

      long : verdict_in asks.checks.task.format found.problem.clauses bytes ≡ None → max_bytes < length bytes
      long none = long_text found.problem.clauses bytes
          (subst (λ (f : ProofFormat). verdict_in f found.problem.clauses bytes ≡ None) asks.checks.judges none)
