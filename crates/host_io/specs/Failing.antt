-- A host in memory whose calls fail as planned: the calls of each role so far, and which of them fail.
use Rattle.std.specs.Prelude.{◌≡◌, ℕ, ◌+◌, ◌-◌, ◌^◌, ◌==◌, ◌&&◌, min, Bool, List, Result, IsTrue, IsFalse, IsErr, slice_index_or}
use Rattle.std.specs.List.{list_any}
use Rattle.host_io.specs.declared.source.Failed.{Failed}
use Rattle.host_io.specs.declared.role.Role.{Role}
use Rattle.host_io.specs.Channel.{Channel}
use Rattle.host_io.specs.Files.{Files, Texts, code_of, same_role}
use Rattle.host_io.specs.Memory as memory

pub record Failing : Type 0 where
  pub base : memory.Memory
  pub fails : List (Role × ℕ)
  pub piece : ℕ
  pub calls : List ℕ

abbrev pub channel_of : Failing → Role → Channel
channel_of host = memory.channel_of host.base

abbrev pub files_of : Failing → Texts
files_of host = memory.files_of host.base

abbrev pub told_files : Failing → Files
told_files host = memory.told_files host.base

-- how many calls of this role there were
abbrev pub calls_of : Failing → Role → ℕ
calls_of host role = slice_index_or host.calls (code_of role) 0

-- the call of this role and number is listed
abbrev pub is_listed : Role → ℕ → List (Role × ℕ) → Bool
is_listed role number fails = list_any (λ call. same_role call.0 role && (call.1 == number)) fails

-- the number of the next call of this role, from 1 on
abbrev pub next_call : Failing → Role → ℕ
next_call host role = min (calls_of host role + 1) (2 ^ 64 - 1)

-- A call of this role was counted. Where it is listed it failed, with a fault counted and nothing else changed.
pub record GoesByPlan {T : Type 0} (old new : Failing) (role : Role) (result : Result T Failed) : Type 0 where
  pub counted : calls_of new role ≡ next_call old role
  pub others : (other : Role) → IsFalse (same_role other role) → calls_of new other ≡ calls_of old other
  pub plan : new.fails ≡ old.fails
  pub piece : new.piece ≡ old.piece
  pub failed : IsTrue (is_listed role (next_call old role) old.fails) → IsErr result
      × (channel_of new role ≡ memory.faulted (channel_of old role)) × ((name : List ℕ) → files_of new name ≡ files_of old name)
