-- What a host in memory holds: the files that were added, the newest first, and a channel for each role.
use Rattle.std.specs.Prelude.{◌≡◌, ◌≢◌, ℕ, ◌+◌, ◌-◌, ◌^◌, min, List, [], ◌∷◌, Option, None, Some, length, slice_index_or, if◌then◌else◌}
use Rattle.std.specs.Str.{bytes_eq}
use Rattle.host_io.specs.declared.role.Role.{Role}
use Rattle.host_io.specs.declared.role.Role.TheVariants.{ProofOut, Made}
use Rattle.host_io.specs.Channel.{Channel, Held}
use Rattle.host_io.specs.Files.{Files, Texts, stored_as, code_of, IsNamedFirst, IsIdle}
use Rattle.host_io.specs.Beside.{is_named}

pub record Memory : Type 0 where
  pub streams : List Channel
  pub files : List (List ℕ × List ℕ)

-- a role that was not met yet
abbrev pub fresh : Channel
fresh = record { name = None; faults = 0; taken = []; left = Held []; written = []; flushed = 0 }

-- a fault more in this role
abbrev pub faulted : Channel → Channel
faulted channel = record channel { faults = min (channel.faults + 1) (2 ^ 64 - 1) }

abbrev pub channel_of : Memory → Role → Channel
channel_of memory role = slice_index_or memory.streams (code_of role) fresh

-- There is a channel for each role, and one that wants a name and has none has not been used.
pub record IsSettled (streams : List Channel) : Type 0 where
  pub all : length streams ≡ 10
  pub idle : (role : Role) → IsNamedFirst role → (slice_index_or streams (code_of role) fresh).name ≡ None
      → IsIdle (slice_index_or streams (code_of role) fresh)

-- the newest of the files that has this name
abbrev pub stored : List (List ℕ × List ℕ) → List ℕ → Option (List ℕ)
stored [] name = None
stored (file ∷ files) name = (if bytes_eq file.0 name then Some file.1 else stored files name)

-- what a role wrote, where it created the file of this name, and else what is there without it
abbrev pub created : Channel → List ℕ → Option (List ℕ) → Option (List ℕ)
created channel name rest = (if is_named channel.name name then Some channel.written else rest)

-- A created file is what was written. (Where both roles have one name, it is Made's.)
abbrev pub files_of : Memory → Texts
files_of memory name = created (channel_of memory Made) name (created (channel_of memory ProofOut) name (stored memory.files name))

-- what the host tells of them: all
abbrev pub told_files : Memory → Files
told_files memory name = stored_as (files_of memory name)

-- no role has a name
abbrev pub IsUnnamed : Memory → Type 0
IsUnnamed memory = (role : Role) → (channel_of memory role).name ≡ None

-- the host has this file more, or in the place of an old one, and is else the same
pub record AddsFile (old new : Memory) (name bytes : List ℕ) : Type 0 where
  pub added : files_of new name ≡ Some bytes
  pub others : (file : List ℕ) → name ≢ file → files_of new file ≡ files_of old file
  pub channels : (role : Role) → channel_of new role ≡ channel_of old role
