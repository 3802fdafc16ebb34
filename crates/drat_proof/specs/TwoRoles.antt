-- What a call leaves alone that reads one role of a host and writes another.
use Rattle.std.specs.Prelude.{◌≡◌, ℕ, ◌≤◌, List, Option, IsFalse, length, drop}
use Rattle.host_io.specs.declared.role.Role.{Role}
use Rattle.host_io.specs.Channel.{Channel}
use Rattle.host_io.specs.Files.{Files, FilesBut, same_role}

-- The other roles stay, and the files but the one of this name.
pub record KeptButTwo (first second : Role) (own : Option (List ℕ)) (old new : Role → Channel) (old_files new_files : Files) : Type 0 where
  pub others : (other : Role) → IsFalse (same_role other first) → IsFalse (same_role other second) → new other ≡ old other
  pub files : FilesBut own old_files new_files

-- nothing but bytes, and maybe faults, went to a sink
pub record OnlyWrites (old new : Channel) : Type 0 where
  pub taken : new.taken ≡ old.taken
  pub left : new.left ≡ old.left
  pub flushed : new.flushed ≡ old.flushed
  pub name : new.name ≡ old.name
  pub faults : old.faults ≤ new.faults

-- the bytes written from one moment to another
abbrev pub added : Channel → Channel → List ℕ
added old new = drop (length old.written) new.written
