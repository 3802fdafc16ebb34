-- What a host keeps of its other roles and of its files in a call of one role, and what opening and creating do.
use Rattle.std.specs.Prelude.{◌≡◌, ◌≢◌, ◌⊎◌, ℕ, Bool, List, [], Option, None, Some, Result, IsFalse, IsOk, IsErr, ◌==◌, ◌++◌, ⊤}
use Rattle.std.specs.Coded.{Unit-prop}
use Rattle.host_io.specs.declared.source.Failed.{Failed}
use Rattle.host_io.specs.declared.role.Role.{Role}
use Rattle.host_io.specs.declared.role.Role.TheVariants.{Cnf, Order, Buckets, Schedule, ProofIn, Cubes, ProofOut, Made, Out, Err}
use Rattle.host_io.specs.Channel.{Channel, Counts, Left, Held, Unmet, MayFollow}

-- the number of a role, by which two roles are told apart
abbrev pub code_of : Role → ℕ
code_of Cnf = 0
code_of Order = 1
code_of Buckets = 2
code_of Schedule = 3
code_of ProofIn = 4
code_of Cubes = 5
code_of ProofOut = 6
code_of Made = 7
code_of Out = 8
code_of Err = 9

abbrev pub same_role : Role → Role → Bool
same_role a b = code_of a == code_of b

-- Cnf, Order, Buckets, Schedule, ProofIn and Cubes are opened and read.
abbrev pub IsInput : Role → Type 0
IsInput Cnf = ⊤
IsInput Order = ⊤
IsInput Buckets = ⊤
IsInput Schedule = ⊤
IsInput ProofIn = ⊤
IsInput Cubes = ⊤
IsInput ProofOut = ⊥
IsInput Made = ⊥
IsInput Out = ⊥
IsInput Err = ⊥

-- ProofOut and Made are created.
abbrev pub IsCreated : Role → Type 0
IsCreated Cnf = ⊥
IsCreated Order = ⊥
IsCreated Buckets = ⊥
IsCreated Schedule = ⊥
IsCreated ProofIn = ⊥
IsCreated Cubes = ⊥
IsCreated ProofOut = ⊤
IsCreated Made = ⊤
IsCreated Out = ⊥
IsCreated Err = ⊥

-- all roles but standard output and standard error are used under a name only
abbrev pub IsNamedFirst : Role → Type 0
IsNamedFirst role = IsInput role ⊎ IsCreated role

-- A role of this name may be written and flushed: standard output and standard error always, a created one once it has its name.
abbrev pub IsWritable : Role → Option (List ℕ) → Type 0
IsWritable Cnf name = ⊥
IsWritable Order name = ⊥
IsWritable Buckets name = ⊥
IsWritable Schedule name = ⊥
IsWritable ProofIn name = ⊥
IsWritable Cubes name = ⊥
IsWritable ProofOut name = name ≢ None
IsWritable Made name = name ≢ None
IsWritable Out name = ⊤
IsWritable Err name = ⊤

⊥-prop : IsProp ⊥
⊥-prop a b = absurd a

¬-prop : {A : Type 0} → IsProp (A → ⊥)
¬-prop f g = λ i x. ⊥-prop (f x) (g x) i

-- being an input has one proof at most, so that a view may keep it
pub IsInput-prop : (role : Role) → IsProp (IsInput role)
IsInput-prop Cnf = Unit-prop
IsInput-prop Order = Unit-prop
IsInput-prop Buckets = Unit-prop
IsInput-prop Schedule = Unit-prop
IsInput-prop ProofIn = Unit-prop
IsInput-prop Cubes = Unit-prop
IsInput-prop ProofOut = ⊥-prop
IsInput-prop Made = ⊥-prop
IsInput-prop Out = ⊥-prop
IsInput-prop Err = ⊥-prop

-- and so has being writable
pub IsWritable-prop : (role : Role) (name : Option (List ℕ)) → IsProp (IsWritable role name)
IsWritable-prop Cnf name = ⊥-prop
IsWritable-prop Order name = ⊥-prop
IsWritable-prop Buckets name = ⊥-prop
IsWritable-prop Schedule name = ⊥-prop
IsWritable-prop ProofIn name = ⊥-prop
IsWritable-prop Cubes name = ⊥-prop
IsWritable-prop ProofOut name = ¬-prop
IsWritable-prop Made name = ¬-prop
IsWritable-prop Out name = Unit-prop
IsWritable-prop Err name = Unit-prop

-- What a host tells of a file: nothing, that there is none of this name, or its bytes.
pub data Stored : Type 0 where
  Untold : Stored
  Missing : Stored
  Holding : List ℕ → Stored

-- what a host tells of the files by their names
abbrev pub Files : Type 0
Files = List ℕ → Stored

-- what the files hold, by their names
abbrev pub Texts : Type 0
Texts = List ℕ → Option (List ℕ)

-- a host that tells all of a file that is there or isn't
abbrev pub stored_as : Option (List ℕ) → Stored
stored_as None = Missing
stored_as (Some bytes) = Holding bytes

-- A file of which this is told was opened, and this is left of it.
abbrev pub Offers : Stored → Left → Type 0
Offers Untold left = left ≡ Unmet
Offers Missing left = ⊥
Offers (Holding bytes) left = left ≡ Held bytes

-- What a file holds agrees with what a host tells of it, and with the bytes that were taken from it in this channel: those stand
-- at its front, and where nothing is left they are all.
abbrev pub Agrees : Stored → Channel → List ℕ → Option (List ℕ) → Type 0
Agrees Untold channel taken text = (more : List ℕ) × MayFollow channel more × (text ≡ Some (taken ++ more))
Agrees Missing channel taken text = text ≡ None
Agrees (Holding bytes) channel taken text = text ≡ Some bytes

-- A call of one role changes nothing of another's.
abbrev pub Others : Role → (Role → Channel) → (Role → Channel) → Type 0
Others role old new = (other : Role) → IsFalse (same_role other role) → new other ≡ old other

-- No file but the one of this name changed; without a name, none did.
abbrev pub FilesBut : Option (List ℕ) → Files → Files → Type 0
FilesBut own old new = (file : List ℕ) → own ≢ Some file → new file ≡ old file

-- A call of one role that may change the file of one name: the other roles and the other files stay.
pub record Kept (role : Role) (own : Option (List ℕ)) (old new : Role → Channel) (old_files new_files : Files) : Type 0 where
  pub others : Others role old new
  pub files : FilesBut own old_files new_files

-- nothing was taken, written or flushed yet
pub record IsIdle (channel : Channel) : Type 0 where
  pub taken : channel.taken ≡ []
  pub written : channel.written ≡ []
  pub flushed : channel.flushed ≡ 0

-- Opening or creating under a name: afterwards the role has that name, or, where the call failed, maybe still
-- none. It takes and writes nothing, and a role without a name has not done so before.
pub record Opens {T : Type 0} (old new : Channel) (name : List ℕ) (result : Result T Failed) : Type 0 where
  pub named : IsOk result → new.name ≡ Some name
  pub failed : IsErr result → (new.name ≡ Some name) ⊎ (new.name ≡ None)
  pub was_idle : IsIdle old
  pub idle : IsIdle new
  pub faults : Counts old new result
