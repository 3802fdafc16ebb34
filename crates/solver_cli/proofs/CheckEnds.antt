-- How `check` ends where the words name a proof that isn't refused.
use Rattle.std.proofs.Common.{◌≡◌, ◌<◌, ℕ, List, length, refl, ◌∙◌, subst, None, Some, inl, inr}
use Rattle.std.specs.Prelude.{IsTrue}
use Rattle.cnf_base.specs.Formula.{Formula}
use Rattle.dimacs_reader.specs.Cnf.{formula, refusal, overlong}
use Rattle.dimacs_reader.specs.declared.error.CnfKind.{CnfKind}
use Rattle.host_io.specs.declared.role.Role.TheVariants.{Cnf, Order, Buckets, Schedule, ProofIn, Cubes, ProofOut, Made, Out, Err as ErrRole}
use Rattle.lrat_rules.specs.declared.outcome.Reason.{Reason}
use Rattle.lrat_checker.specs.TextVerdict.{max_bytes}
use Rattle.solver_cli.specs.declared.status.Status.{Status}
use Rattle.solver_cli.specs.declared.status.Status.TheVariants.{Sat, Unsat, Unknown, Answered, Verified, NotVerified, Done, Help, Usage}
use Rattle.solver_cli.specs.declared.status.Status.TheVariants.{CnfRefused}
use Rattle.solver_cli.specs.declared.status.Status.TheVariants.{OrderRefused, BucketsRefused, PlanRefused, CubeRefused, TooLong}
use Rattle.solver_cli.specs.declared.status.Status.TheVariants.{ReadFault, WriteFault}
use Rattle.solver_cli.specs.declared.status.Status.TheVariants.{OutOfMemory}
use Rattle.command_line.specs.declared.format.ProofFormat.{ProofFormat}
use Rattle.command_line.specs.Command.{Command, ToSolve, ToCheck, Solve, Check, command, format_of}
use Rattle.solver_cli.specs.Format.{verdict_in, IsRefusedIn}
use Rattle.solver_cli.specs.Headline.{IsDue, Promises}
use Rattle.solver_cli.specs.Run.{Run, GivesDecision, AsksOver, AsksToJudge}
use Rattle.solver_cli.specs.SolveThenCheck.{MayEnd}
use Rattle.solver_cli.proofs.Facts.{one_proof, same_command, two_commands, decided_apart, judged_apart, named_apart, no_misuse}
use Rattle.solver_cli.proofs.Facts.{no_help, same_formula}
use Rattle.solver_cli.proofs.CallsFor.{same_text}
use Rattle.solver_cli.proofs.Unjudged.{one_verdict}

pub ends : (run : Run) (task : ToCheck) {problem : Formula} {bytes : List ℕ} → Promises run → IsTrue run.tells
    → command run.words ≡ Some (Check task) → (to_judge : AsksToJudge run problem bytes)
    → ((line : ℕ) (reason : Reason) → IsRefusedIn (format_of to_judge.asked) problem.clauses bytes line reason → ⊥)
    → (verdict_in (format_of to_judge.asked) problem.clauses bytes ≡ None → max_bytes < length bytes)
    → MayEnd run bytes run.status
ends run task {problem = problem} {bytes = bytes} promises tells asked to_judge unrefused long_text = by run.status refl where
  unsolved : {other : ToSolve} → command run.words ≡ Some (Solve other) → ⊥
  unsolved given = two_commands given asked

  undecided : GivesDecision run → ⊥
  undecided given = decided_apart given.1 given.2 asked refl

  due : {status : Status} → run.status ≡ status → IsDue run status
  due e = subst (λ (s : Status). IsDue run s) e promises.refusals

  -- the formula was accepted, so its text isn't refused
  accepted : (kind : CnfKind) (line : ℕ) {other : Command} → AsksOver run other (refusal kind line) → ⊥
  accepted kind line there = apart (same_text run to_judge.asks there) where
    apart : formula problem ≡ refusal kind line → ⊥
    apart e = cc

  not_long : {other : Command} → AsksOver run other overlong → ⊥
  not_long there = apart (same_text run to_judge.asks there) where
    apart : formula problem ≡ overlong → ⊥
    apart e = cc

  -- the words name one formula and one proof of one format
  same_refusal : {other : Formula} {text : List ℕ} (line : ℕ) (reason : Reason) (there : AsksToJudge run other text)
      → IsRefusedIn (format_of there.asked) other.clauses text line reason
      → IsRefusedIn (format_of to_judge.asked) problem.clauses bytes line reason
  same_refusal {other = other} line reason there refused =
      let same_problem = same_formula refl (same_text run there.asks to_judge.asks) in
      let same_bytes =
      one_proof run.texts there.asks.command to_judge.asks.command there.named to_judge.named there.stands to_judge.stands in
      subst (λ (f : ProofFormat). IsRefusedIn f problem.clauses bytes line reason)
      (λ i. format_of (same_command there.asks.command to_judge.asks.command i))
      (subst (λ (p : Formula). IsRefusedIn (format_of there.asked) p.clauses bytes line reason) same_problem
      (subst (λ (b : List ℕ). IsRefusedIn (format_of there.asked) other.clauses b line reason) same_bytes refused))

  by : (status : Status) → run.status ≡ status → MayEnd run bytes status
  by Sat e = undecided (promises.satisfiable e).given
  by Unsat e = undecided (promises.unsatisfiable e).given
  by (Unknown why) e = elim (promises.undecided why e) [
    | inl found ↦ undecided found.given
    | inr found ↦ named_apart Cubes found.given.1 refl asked refl
  ]
  by Answered e = named_apart Cubes (promises.answered e).given.1 refl asked refl
  by Verified e = tt
  by (NotVerified line reason) e = let refused = (promises.verdict.not_verified line reason e).1 tells in
      unrefused line reason (same_refusal line reason refused.has.asked refused.refused)
  by Done e = elim (promises.made e) [
    | inl made ↦ judged_apart asked refl made.1.given refl
    | inr arranged ↦ judged_apart asked refl arranged.1.given refl
  ]
  by Help e = no_help run.words asked (due e)
  by Usage e = no_misuse run.words asked (due e)
  by (CnfRefused kind line) e = let refused = (due e).1 tells in accepted kind line refused.asks
  by (OrderRefused kind line) e = let given = (due e).0 in named_apart Order given.1 given.3 asked refl
  by (BucketsRefused kind line) e = unsolved (due e).0.1
  by (PlanRefused kind line) e = unsolved (due e).0.1
  by (CubeRefused kind line) e = named_apart Cubes (due e).0.1 refl asked refl
  by (TooLong Cnf) e = let refused = (due e).1 tells in absurd (not_long refused.asks)
  by (TooLong Order) e = let given = (due e).0 in absurd (named_apart Order given.1 given.3 asked refl)
  by (TooLong Buckets) e = absurd (unsolved (due e).0.1)
  by (TooLong Schedule) e = absurd (unsolved (due e).0.1)
  by (TooLong ProofIn) e = let long = (due e).1 tells in (refl, long_text (one_verdict run to_judge long.asked ∙ long.judged))
  by (TooLong Cubes) e = absurd (named_apart Cubes (due e).0.1 refl asked refl)
  by (TooLong ProofOut) e = absurd (due e)
  by (TooLong Made) e = absurd (due e)
  by (TooLong Out) e = absurd (due e)
  by (TooLong ErrRole) e = absurd (due e)
  by ReadFault e = (promises.faults.read e).1
  by WriteFault e = promises.faults.write e
  by OutOfMemory e = tt
