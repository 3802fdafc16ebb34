-- What a lent source or sink leaves alone: the object that it lends, and the rest of that object.
use Rattle.std.specs.Prelude.{◌≡◌, ℕ, List, [], ◌∷◌, Bool, false, Option, None, Some, if◌then◌else◌}
use Rattle.std.specs.Str.{bytes_eq}
use Rattle.host_io.specs.declared.role.Role.{Role}
use Rattle.host_io.specs.Channel.{Channel}
use Rattle.host_io.specs.Files.{Files, Stored, Kept, same_role}

-- The role of a host that is lent, the name that it has, and the rest of the host: the channels of the other
-- roles, and the files but its own one, where it created one.
pub record Rest : Type 0 where
  pub role : Role
  pub name : Option (List ℕ)
  pub others : Role → Option Channel
  pub files : List ℕ → Option Stored

-- The names of the references through which the object is lent, from the outermost on, and the rest of it: none
-- where the object is no host.
pub record Beside : Type 0 where
  pub lenders : List ℕ
  pub rest : Option Rest

-- this is the name of the file
abbrev pub is_named : Option (List ℕ) → List ℕ → Bool
is_named None file = false
is_named (Some name) file = bytes_eq name file

-- the channels of all roles but one
abbrev pub others_of : Role → (Role → Channel) → Role → Option Channel
others_of role channels other = (if same_role other role then None else Some (channels other))

-- the files but the one of this name
abbrev pub files_but : Option (List ℕ) → Files → List ℕ → Option Stored
files_but own files file = (if is_named own file then None else Some (files file))

-- what is beside one role of a host whose own file has the name `own`
abbrev pub rest_of : Role → Option (List ℕ) → (Role → Channel) → Files → Rest
rest_of role own channels files = record {
  role = role;
  name = (channels role).name;
  others = others_of role channels;
  files = files_but own files;
}

-- beside one role of a host that is lent by one reference
abbrev pub beside_role : ℕ → Role → Option (List ℕ) → (Role → Channel) → Files → Beside
beside_role lender role own channels files = record { lenders = lender ∷ []; rest = Some (rest_of role own channels files) }

-- beside what is lent by one reference more
abbrev pub beside_lent : ℕ → Beside → Beside
beside_lent lender inner = record { lenders = lender ∷ inner.lenders; rest = inner.rest }

-- A host is back from a view of one role: this role is as the view saw it last, and the host kept the rest.
pub record IsBack {H : Type 0} (channel : H → Role → Channel) (files : H
    → Files) (role : Role) (own : Option (List ℕ)) (old new : H) (seen : Channel) : Type 0 where
  pub same : channel new role ≡ seen
  pub kept : Kept role own (channel old) (channel new) (files old) (files new)

-- Where a host `old` was lent for a role by the reference `lender`, the view began with the reference `lent`, the
-- host `start` and `start_role`, ended with `last`, `end` and `end_role`, and has the same beside, it is back.
pub record KeepsBeside {H : Type 0} (channel : H → Role → Channel) (files : H → Files) : Type 0 where
  pub source : {old new start end : H} {role start_role end_role : Role} {lender lent last : ℕ} → lent ≡ lender → start ≡ old → start_role
      ≡ role → beside_role last end_role None (channel end) (files end) ≡ beside_role lent start_role None (channel start) (files start)
      → (lender ≡ last → new ≡ end) → IsBack channel files role None old new (channel end end_role)
  pub sink : {old new start end : H} {role start_role end_role : Role} {lender lent last : ℕ} → lent ≡ lender → start ≡ old → start_role
      ≡ role → beside_role last end_role (channel end end_role).name (channel end) (files end)
      ≡ beside_role lent start_role (channel start start_role).name (channel start) (files start) → (lender ≡ last → new ≡ end)
      → IsBack channel files role (channel old role).name old new (channel end end_role)
