-- What a command sees of a host while its run is watched.
use Rattle.std.specs.Prelude.{◌≡◌, ℕ, Bool, List, ◌∷◌, IsFalse, if◌then◌else◌}
use Rattle.host_io.specs.declared.role.Role.{Role}
use Rattle.host_io.specs.declared.role.Role.TheVariants.{Err}
use Rattle.host_io.specs.Channel.{Channel}
use Rattle.host_io.specs.Files.{Files, same_role}
use Rattle.solver_cli.specs.Progress.{with_error}

-- What it sees of standard error, where each of its calls is refused: no bytes, but a mark of what was lent, by which reference, whether
-- progress is told, and what standard error was then.
abbrev pub mark : ℕ → Bool → ℕ → Channel → Channel
mark lender asked refused start = record {
  name = start.name;
  faults = refused;
  taken = lender ∷ (if asked then 1 else 0) ∷ start.faults ∷ start.taken;
  left = start.left;
  written = start.written;
  flushed = start.flushed;
}

-- the channels that it sees
abbrev pub watched : ℕ → Bool → ℕ → Channel → (Role → Channel) → Role → Channel
watched lender asked refused start channels = with_error (mark lender asked refused start) channels

-- It sees no change, by the marks and the host's own channels and files.
pub record Stays (old_mark new_mark : Channel) (old new : Role → Channel) (old_files new_files : Files) : Type 0 where
  pub mark : new_mark ≡ old_mark
  pub others : (other : Role) → IsFalse (same_role other Err) → new other ≡ old other
  pub files : (file : List ℕ) → new_files file ≡ old_files file
