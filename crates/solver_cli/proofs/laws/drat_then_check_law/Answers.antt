-- What is left to show of `drat_then_check_law`.
use Rattle.std.proofs.Common.{◌≡◌, ◌≤◌, length, Some, true, false, arith, if◌then◌else◌}
use Rattle.proof_judging.specs.declared.verdict.Verdict.TheVariants.{Verified}
use Rattle.lrat_checker.specs.TextVerdict.{max_bytes}
use Rattle.drat_proof.specs.Drat.{named_drat}
use Rattle.drat_rules.specs.declared.deletions.Deletions.TheVariants.{ByList, BySet}
use Rattle.command_line.specs.declared.format.ProofFormat.TheVariants.{Drat, DratBySet}
use Rattle.solver_cli.specs.Format.{verdict_in}
use Rattle.solver_cli.proofs.ConvertThenCheck.{drat_ends}
use Rattle.solver_cli.proofs.laws.drat_then_check_law.Goals as goal

pub returns : goal.returns
returns c = drat_ends (record {
  few = c.cnf_law.ensures.vars;
  literals = c.cnf_law.ensures.literals;
  written = λ new_names any_order problem bytes few literals verified.
      elim new_names as (λ k. length (named_drat k problem bytes) ≤ max_bytes
      → verdict_in (if any_order then DratBySet else Drat) problem.clauses (named_drat k problem bytes) ≡ Some Verified) [
        | false ↦ λ short. elim any_order
            as (λ o. verdict_in (if o then DratBySet else Drat) problem.clauses (named_drat false problem bytes) ≡ Some Verified) [
              | false ↦ c.drat_law.ensures.written ByList problem.vars problem.clauses bytes (omega (arith, few)) literals verified short
              | true ↦ c.drat_law.ensures.written BySet problem.vars problem.clauses bytes (omega (arith, few)) literals verified short
            ]
        | true ↦ λ short. elim any_order
            as (λ o. verdict_in (if o then DratBySet else Drat) problem.clauses (named_drat true problem bytes) ≡ Some Verified) [
              | false ↦ c.fresh_drat_law.ensures.written ByList problem.vars problem.clauses bytes few literals verified short
              | true ↦ c.fresh_drat_law.ensures.written BySet problem.vars problem.clauses bytes few literals verified short
            ]
      ];
})
