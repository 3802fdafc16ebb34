-- What a conversion leaves of the proof that it reads, and of the one that it writes.
use Rattle.std.specs.Prelude.{◌≡◌, ◌≢◌, ◌⊎◌, ◌≤◌, ◌++◌, ℕ, Bool, List, [], None, Some, Result, Ok, Err, length, IsTrue, IsOk, IsErr}
use Rattle.std.specs.Prelude.{if◌then◌else◌}
use Rattle.cnf_base.specs.Formula.{Formula}
use Rattle.host_io.specs.Channel.{Channel, Leaves, MayFollow, Rose}
use Rattle.host_io.specs.Files.{Files, Texts}
use Rattle.lrat_rules.specs.Run.{Refutes}
use Rattle.lrat_rules.specs.State.{start}
use Rattle.proof_judging.specs.declared.verdict.Verdict.{Verdict}
use Rattle.proof_judging.specs.declared.verdict.Verdict.TheVariants.{Verified}
use Rattle.proof_judging.specs.declared.verdict.CheckError.{CheckError}
use Rattle.text_scan.specs.Decides.{gained, Decides, Fits, OnlyReads}
use Rattle.drat_rules.specs.Clauses.{Equality, same_list, same_set}
use Rattle.drat_proof.specs.Drat.{named_drat, named_drat_steps}
use Rattle.drat_proof.specs.Conversion.{AreFirstLines, HasVerdict as IsAnswered, HasWritten, converted}
use Rattle.drat_proof.specs.TwoRoles.{OnlyWrites, added}
use Rattle.drat_proof.specs.declared.error.ConvertError.{ConvertError}
use Rattle.drat_proof.specs.declared.error.ConvertError.TheVariants.{ReadFault, OutOfMemory, WriteFault}
use Rattle.lrat_from_drat.specs.Lrat.{lrat_steps}
use Rattle.lrat_from_drat.specs.Conversion.{AreFirstLinesOf, AreLinesOf, AreSteps, HasLines, HasSteps}
use Rattle.command_line.specs.Command.{format_before}
use Rattle.command_line.specs.declared.conversion.Conversion.{Conversion}
use Rattle.command_line.specs.declared.conversion.Conversion.TheVariants.{IntoDrat, IntoLrat}
use Rattle.solver_cli.specs.Format.{may_want_memory_in, so_far_in, verdict_in}
use Rattle.solver_cli.specs.Phases.{JudgesProof, WantsProof}

-- when a clause is told to be the one that a deletion names
abbrev pub same_by : Bool → Equality
same_by any_order = if any_order then same_set else same_list

-- What a conversion of a proof over a formula writes, with this verdict on it: exactly what the proof becomes, in LRAT with hints by which
-- its steps are good from the formula's clauses on, and refute these where the proof is verified.
abbrev pub IsConversion : Conversion → Formula → List ℕ → Verdict → List ℕ → Type 0
IsConversion (IntoDrat fresh) problem bytes judged written = written ≡ named_drat fresh problem bytes
IsConversion (IntoLrat any_order) problem bytes judged written = AreSteps (start problem.clauses) written
    × AreLinesOf (lrat_steps (same_by any_order) problem.clauses bytes) written
    × (judged ≡ Verified → Refutes problem.clauses written)

-- whole lines of it, in turn; and a front of it
abbrev pub AreLinesOfConversion : Conversion → Formula → List ℕ → List ℕ → Type 0
AreLinesOfConversion (IntoDrat fresh) problem bytes written = AreFirstLines written (named_drat_steps fresh problem bytes)
AreLinesOfConversion (IntoLrat any_order) problem bytes written = AreSteps (start problem.clauses) written
    × AreFirstLinesOf (lrat_steps (same_by any_order) problem.clauses bytes) written

abbrev pub IsFrontOfConversion : Conversion → Formula → List ℕ → List ℕ → Type 0
IsFrontOfConversion (IntoDrat fresh) problem bytes written = (rest : List ℕ) × (named_drat fresh problem bytes ≡ written ++ rest)
IsFrontOfConversion (IntoLrat any_order) problem bytes written = ((rest : List ℕ) × AreSteps (start problem.clauses) (written ++ rest))
    × ((rest : List ℕ) × AreFirstLinesOf (lrat_steps (same_by any_order) problem.clauses bytes) (written ++ rest))

-- what was written, by the answer of the call that converts
abbrev pub HasConverted : Conversion → Formula → Result Verdict ConvertError → List ℕ → List ℕ → Type 0
HasConverted (IntoDrat fresh) problem result bytes written = HasWritten result written (named_drat_steps fresh problem bytes)
HasConverted (IntoLrat any_order) problem result bytes written = HasSteps result (start problem.clauses) written
    × HasLines result (lrat_steps (same_by any_order) problem.clauses bytes) written
    × (result ≡ Ok Verified → Refutes problem.clauses written)

-- An opened proof was judged over this formula, and converted to a created file. Nothing is flushed yet.
pub record Converts (tells : Bool) (in_old in_new out_old out_new : Channel) (into : Conversion) (problem : Formula)
    (result : Result Verdict ConvertError) : Type 0 where
  pub decides : IsTrue tells → Decides in_old in_new
      (λ bytes more. IsAnswered result (verdict_in (format_before into) problem.clauses bytes))
  pub written : IsTrue tells → Decides in_old in_new (λ bytes more. HasConverted into problem result bytes (added out_old out_new))
  pub undecided : IsTrue tells → result ≡ Err ReadFault → so_far_in (format_before into) problem.clauses (gained in_old in_new) ≡ None
  pub memory : IsTrue tells → result ≡ Err OutOfMemory → (in_new ≡ in_old)
      ⊎ Decides in_old in_new (λ bytes more. IsTrue (may_want_memory_in (format_before into) problem.clauses (length more) bytes))
  pub read_fault : result ≡ Err ReadFault → Rose in_old.faults in_new.faults
  pub write_fault : result ≡ Err WriteFault → Rose out_old.faults out_new.faults
  pub unfailed_reads : result ≢ Err ReadFault → in_new.faults ≡ in_old.faults
  pub unfailed_writes : result ≢ Err WriteFault → out_new.faults ≡ out_old.faults
  pub reads : OnlyReads in_old in_new
  pub writes : OnlyWrites out_old out_new

-- An opened proof was judged over this formula, and converted to a created file, which was flushed.
pub record ConvertsProof (tells : Bool) (in_old in_new out_old out_new : Channel) (into : Conversion) (problem : Formula)
    (result : Result Verdict ConvertError) : Type 0 where
  pub left : IsTrue tells → Leaves in_old.left (gained in_old in_new) in_new.left
  pub judged : IsTrue tells → (more : List ℕ) → MayFollow in_new more
      → IsAnswered result (verdict_in (format_before into) problem.clauses (gained in_old in_new ++ more))
  pub undecided : IsTrue tells → result ≡ Err ReadFault → so_far_in (format_before into) problem.clauses (gained in_old in_new) ≡ None
  pub memory : IsTrue tells → result ≡ Err OutOfMemory → (more : List ℕ) → MayFollow in_new more
      → WantsProof (format_before into) problem.clauses (gained in_old in_new ++ more) (gained in_old in_new)
  pub read_fault : result ≡ Err ReadFault → Rose in_old.faults in_new.faults
  pub unfailed_reads : result ≢ Err ReadFault → in_new.faults ≡ in_old.faults
  pub read_written : in_new.written ≡ in_old.written
  pub read_name : in_new.name ≡ in_old.name
  pub read_faults : in_old.faults ≤ in_new.faults
  pub written : IsTrue tells → (more : List ℕ) → MayFollow in_new more
      → HasConverted into problem result (gained in_old in_new ++ more) (added out_old out_new)
  pub flushed : IsTrue tells → IsOk result → out_new.flushed ≡ length out_new.written
  pub write_fault : result ≡ Err WriteFault → Rose out_old.faults out_new.faults
  pub unfailed_writes : result ≢ Err WriteFault → out_new.faults ≡ out_old.faults
  pub name : out_new.name ≡ out_old.name

-- what the file of this name holds was converted
pub record ConvertsText (into : Conversion) (problem : Formula) (texts : Texts) (file : List ℕ) (written : List ℕ)
    (result : Result Verdict ConvertError) : Type 0 where
  pub bytes : List ℕ
  pub stands : texts file ≡ Some bytes
  pub holds : HasConverted into problem result bytes written

-- The proof's file was opened and the other one created, and the proof was converted; or nothing was written.
pub record RewritesProof (tells : Bool) (in_old in_new out_old out_new : Channel) (files : Files) (file out : List ℕ)
    (into : Conversion) (problem : Formula) (result : Result Verdict ConvertError) : Type 0 where
  pub judges : (answer : Result Verdict CheckError) → result ≡ converted answer
      → JudgesProof (format_before into) tells in_old in_new files file problem.clauses answer
  pub unfailed_reads : result ≢ Err ReadFault → in_new.faults ≡ in_old.faults
  pub read_written : in_new.written ≡ in_old.written
  pub read_name : (in_new.name ≡ Some file) ⊎ (in_new.name ≡ None)
  pub written : IsTrue tells → (IsErr result × (added out_old out_new ≡ []))
      ⊎ ((texts : Texts) → Fits files in_old in_new file texts → ConvertsText into problem texts file (added out_old out_new) result)
  pub flushed : IsTrue tells → IsOk result → out_new.flushed ≡ length out_new.written
  pub write_fault : result ≡ Err WriteFault → Rose out_old.faults out_new.faults
  pub unfailed_writes : result ≢ Err WriteFault → out_new.faults ≡ out_old.faults
  pub name : (out_new.name ≡ Some out) ⊎ (out_new.name ≡ None)
  pub opened : out_new.name ≢ None → in_new.name ≢ None
