-- What `trim` leaves of the proof that it reads, and of the one that it writes.
use Rattle.std.specs.Prelude.{◌≡◌, ◌≢◌, ◌⊎◌, ◌≤◌, ◌++◌, ℕ, ℤ, Bool, List, Option, None, Some, Result, Err, length, IsTrue, IsOk, IsErr, ⊤}
use Rattle.host_io.specs.declared.source.Failed.{Failed}
use Rattle.host_io.specs.Channel.{Channel, Leaves, MayFollow, Rose}
use Rattle.host_io.specs.Files.{Files, Texts}
use Rattle.text_scan.specs.Decides.{gained, Fits}
use Rattle.lrat_checker.specs.TextVerdict.{text_verdict, verdict_so_far}
use Rattle.proof_judging.specs.declared.verdict.Verdict.TheVariants.{Verified}
use Rattle.proof_judging.specs.declared.verdict.CheckError.{CheckError}
use Rattle.proof_judging.specs.declared.verdict.CheckError.TheVariants.{ReadFault, OutOfMemory}
use Rattle.drat_proof.specs.TwoRoles.{added}
use Rattle.proof_trim.specs.Answer.{Trims}
use Rattle.proof_trim.specs.Core.{core}
use Rattle.proof_trim.specs.Trimmed.{additions_of_text, trimmed}
use Rattle.proof_trim.specs.declared.text.Trimmed.{Trimmed}
use Rattle.command_line.specs.declared.format.ProofFormat.TheVariants.{Lrat}
use Rattle.solver_cli.specs.Phases.{WantsProof}

-- the answer is what trimming this text gives
abbrev pub TrimsBytes : Result Trimmed CheckError → List (List ℤ) → List ℕ → Type 0
TrimsBytes result clauses bytes = Trims result (text_verdict clauses bytes) (trimmed clauses bytes) (core clauses bytes) (additions_of_text bytes)

-- Memory was wanted for trimming a proof: to judge its text, or behind the verdict on it, where it is verified.
abbrev pub WantsTrimming : List (List ℤ) → List ℕ → List ℕ → Type 0
WantsTrimming clauses bytes taken = WantsProof Lrat clauses bytes taken ⊎ (text_verdict clauses bytes ≡ Some Verified)

-- The answer is that of the bytes taken of an opened proof's file, with whatever may follow them; where a call on it failed, these decide
-- nothing yet.
pub record TrimsOpened (tells : Bool) (old new : Channel) (clauses : List (List ℤ)) (result : Result Trimmed CheckError) : Type 0 where
  pub left : IsTrue tells → Leaves old.left (gained old new) new.left
  pub told : IsTrue tells → (more : List ℕ) → MayFollow new more → TrimsBytes result clauses (gained old new ++ more)
  pub fault : result ≡ Err ReadFault → Rose old.faults new.faults
  pub unfailed : result ≢ Err ReadFault → new.faults ≡ old.faults
  pub undecided : IsTrue tells → result ≡ Err ReadFault → verdict_so_far clauses (gained old new) ≡ None
  pub memory : IsTrue tells → result ≡ Err OutOfMemory → (more : List ℕ) → MayFollow new more
      → WantsTrimming clauses (gained old new ++ more) (gained old new)
  pub written : new.written ≡ old.written
  pub name : new.name ≡ old.name
  pub faults : old.faults ≤ new.faults

-- what the file of this name holds was trimmed
pub record TrimsText (texts : Texts) (file : List ℕ) (clauses : List (List ℤ)) (taken : List ℕ) (result : Result Trimmed CheckError)
    : Type 0 where
  pub bytes : List ℕ
  pub stands : texts file ≡ Some bytes
  pub told : TrimsBytes result clauses bytes
  pub decided : TrimsBytes result clauses taken
  pub memory : result ≡ Err OutOfMemory → WantsTrimming clauses bytes taken

-- the proof's file was opened, and its text trimmed
pub record TrimsProof (tells : Bool) (old new : Channel) (files : Files) (file : List ℕ) (clauses : List (List ℤ))
    (result : Result Trimmed CheckError) : Type 0 where
  pub read : IsTrue tells → (result ≡ Err ReadFault)
      ⊎ ((texts : Texts) → Fits files old new file texts → TrimsText texts file clauses (gained old new) result)
  pub fault : result ≡ Err ReadFault → Rose old.faults new.faults
  pub unfailed : result ≢ Err ReadFault → new.faults ≡ old.faults
  pub undecided : IsTrue tells → result ≡ Err ReadFault → verdict_so_far clauses (gained old new) ≡ None
  pub written : new.written ≡ old.written
  pub name : (new.name ≡ Some file) ⊎ (new.name ≡ None)
  pub faults : old.faults ≤ new.faults

-- The file of this name was created, and the text written to it and flushed, or a front of it where a call failed.
pub record PutsFile (tells : Bool) (old new : Channel) (file text : List ℕ) (result : Result ⊤ Failed) : Type 0 where
  pub done : IsTrue tells → IsOk result → added old new ≡ text
  pub flushed : IsTrue tells → IsOk result → new.flushed ≡ length new.written
  pub front : IsTrue tells → (rest : List ℕ) × (text ≡ added old new ++ rest)
  pub fault : IsErr result → Rose old.faults new.faults
  pub unfailed : IsOk result → new.faults ≡ old.faults
  pub name : (new.name ≡ Some file) ⊎ (new.name ≡ None)

-- so for a further file, if one is named; nothing is done without a name
pub record PutsNamed (tells : Bool) (old new : Channel) (named : Option (List ℕ)) (text : List ℕ) (result : Result ⊤ Failed) : Type 0 where
  pub unasked : named ≡ None → (new ≡ old) × IsOk result
  pub asked : (file : List ℕ) → named ≡ Some file → PutsFile tells old new file text result
