-- The proof that `solve` left is verified by `check`.
use Rattle.std.proofs.Common.{◌≡◌, ◌<◌, ℕ, ℤ, List, length, refl, ap, ◌∙◌, subst, Some, None}
use Rattle.std.specs.Prelude.{Option}
use Rattle.cnf_base.specs.Formula.{Formula}
use Rattle.dimacs_reader.specs.Cnf.{cnf}
use Rattle.dimacs_reader.specs.declared.mode.Mode.{Mode}
use Rattle.host_io.specs.declared.role.Role.TheVariants.{ProofOut}
use Rattle.lrat_rules.specs.declared.outcome.Reason.{Reason}
use Rattle.lrat_checker.specs.TextVerdict.{max_bytes, text_verdict}
use Rattle.command_line.specs.declared.format.ProofFormat.{ProofFormat}
use Rattle.command_line.specs.Command.{Command, Check}
use Rattle.solver_cli.specs.Answer.{AreGiven, AreOfFiles}
use Rattle.solver_cli.specs.Format.{verdict_in, IsRefusedIn}
use Rattle.solver_cli.specs.Headline.{IsShownRefuted, IsRefuted, Promises}
use Rattle.solver_cli.specs.Run.{Run, written_in, AsksToJudge}
use Rattle.solver_cli.specs.SolveThenCheck.{ChecksSolved, MayEnd}
use Rattle.solver_cli.proofs.Facts.{same_command}
use Rattle.solver_cli.proofs.CheckEnds.{ends as check_ends}

pub ends : ((clauses : List (List ℤ)) (bytes : List ℕ) → text_verdict clauses bytes ≡ None → max_bytes < length bytes)
    → (solved run : Run) → Promises solved → Promises run → ChecksSolved solved run → MayEnd run (written_in solved ProofOut) run.status
ends long_text solved run first second asks =
    check_ends run asks.task second asks.checked_tells asks.check_asked to_judge unrefused long where
      bytes : List ℕ
      bytes = written_in solved ProofOut

      refuted : IsRefuted solved
      refuted = first.unsatisfiable asks.unsatisfiable

      shown : IsShownRefuted solved refuted.problem
      shown = refuted.shown asks.solved_tells

      problem : Formula
      problem = refuted.problem

      -- the first run decided the formula of its named file
      of_files : AreOfFiles solved.texts asks.solve problem shown.asked.order shown.asked.moves
      of_files = subst (λ (c : Command). AreGiven solved.texts c problem shown.asked.order shown.asked.moves)
          (same_command shown.asked.by.command asks.solve_asked) shown.asked.by.given

      to_judge : AsksToJudge run problem bytes
      to_judge = record {
        asked = Check asks.task;
        asks = record {
          command = asks.check_asked;
          file = asks.task.file;
          named = refl;
          read = record {
            bytes = of_files.read.bytes;
            stands = asks.same_formula ∙ of_files.read.stands;
            says = ap (λ (mode : Mode). cnf mode of_files.read.bytes) asks.same_mode ∙ of_files.read.says;
          };
        };
        file = asks.task.proof;
        named = refl;
        stands = asks.same_proof;
      }

      none_some : {line : ℕ} {reason : Reason} {given : Option (ℕ × Reason)} → given ≡ None → given ≡ Some (line, reason) → ⊥
      none_some e d = cc

      unrefused : (line : ℕ) (reason : Reason) → IsRefusedIn asks.task.format problem.clauses bytes line reason → ⊥
      unrefused line reason refused = none_some shown.refuted.verified
          (subst (λ (f : ProofFormat). IsRefusedIn f problem.clauses bytes line reason) asks.format refused)

      long : verdict_in asks.task.format problem.clauses bytes ≡ None → max_bytes < length bytes
      long none = long_text problem.clauses bytes
          (subst (λ (f : ProofFormat). verdict_in f problem.clauses bytes ≡ None) asks.format none)
