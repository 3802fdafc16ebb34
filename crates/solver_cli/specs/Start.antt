-- How the program starts: over the words that came, or without any.
use Rattle.std.specs.Prelude.{◌≡◌, Bool, None, All}
use Rattle.std.specs.declared.io.ErrorKind.{ErrorKind}
use Rattle.std.specs.declared.io.ErrorKind.TheVariants.{OutOfMemory as NoMemory}
use Rattle.host_io.specs.declared.role.Role.{Role}
use Rattle.host_io.specs.declared.role.Role.TheVariants.{Err}
use Rattle.host_io.specs.Channel.{Channel}
use Rattle.host_io.specs.Files.{Files, Kept}
use Rattle.host_io.specs.Real.{Hosted, IsHeld, counted_of, unmet as no_role}
use Rattle.solver_cli.specs.Phases.{Complains}
use Rattle.solver_cli.specs.declared.status.Status.{Status}
use Rattle.solver_cli.specs.declared.status.Status.TheVariants.{Usage, OutOfMemory}

-- the status where the words can't be had: memory ran out, or a word is no UTF-8
abbrev pub status_of_kind : ErrorKind → Status
status_of_kind NoMemory = OutOfMemory
status_of_kind kind = Usage

-- The status was told on standard error, and nothing else was done.
pub record OnlyTold (tells : Bool) (before after : Role → Channel) (files files_after : Files) (status : Status) : Type 0 where
  pub complains : Complains tells (before Err) (after Err) status
  pub kept : Kept Err None before after files files_after

-- A host over the real system as it begins: no role was met, and the system was asked only for what the program holds.
pub record IsNew (host : Hosted) : Type 0 where
  pub unmet : (role : Role) → counted_of host role ≡ no_role
  pub held : All IsHeld host.made
