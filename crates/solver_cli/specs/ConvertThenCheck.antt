-- What `check` answers to the proof that `drat` or `lrat` left.
use Rattle.std.specs.Prelude.{◌≡◌, ◌≤◌, Bool, Some, length, IsTrue, if◌then◌else◌}
use Rattle.host_io.specs.declared.role.Role.TheVariants.{ProofOut}
use Rattle.lrat_checker.specs.TextVerdict.{max_bytes}
use Rattle.solver_cli.specs.declared.status.Status.TheVariants.{Verified}
use Rattle.command_line.specs.declared.conversion.Conversion.{Conversion}
use Rattle.command_line.specs.declared.conversion.Conversion.TheVariants.{IntoDrat, IntoLrat}
use Rattle.command_line.specs.declared.format.ProofFormat.{ProofFormat}
use Rattle.command_line.specs.declared.format.ProofFormat.TheVariants.{Drat, DratBySet, Lrat}
use Rattle.command_line.specs.Command.{ToCheck, ToConvert, Check, Convert, command}
use Rattle.solver_cli.specs.Run.{Run, written_in}

-- One run verified a proof over a formula, and converted it so. Another judges a proof of this format over the same text of a formula, read
-- in the same mode, and the proof's file holds the bytes that the first run wrote.
pub record ChecksConverted (converted checked : Run) (into : Conversion) (format : ProofFormat) : Type 0 where
  pub converted_tells : IsTrue converted.tells
  pub checked_tells : IsTrue checked.tells
  pub verified : converted.status ≡ Verified
  pub conversion : ToConvert
  pub conversion_asked : command converted.words ≡ Some (Convert conversion)
  pub converts : conversion.into ≡ into
  pub task : ToCheck
  pub check_asked : command checked.words ≡ Some (Check task)
  pub judges : task.format ≡ format
  pub same_mode : task.mode ≡ conversion.mode
  pub same_formula : checked.texts task.file ≡ converted.texts conversion.file
  pub same_proof : checked.texts task.proof ≡ Some (written_in converted ProofOut)

-- an LRAT proof became a DRAT proof that is no longer than is looked at, and this is judged, by lists or by sets of literals; a DRAT proof
-- became an LRAT proof, which is judged
pub record ChecksDrat (converted checked : Run) : Type 0 where
  pub fresh : Bool
  pub any_order : Bool
  pub checks : ChecksConverted converted checked (IntoDrat fresh) (if any_order then DratBySet else Drat)
  pub fits : length (written_in converted ProofOut) ≤ max_bytes

pub record ChecksLrat (converted checked : Run) : Type 0 where
  pub any_order : Bool
  pub checks : ChecksConverted converted checked (IntoLrat any_order) Lrat
