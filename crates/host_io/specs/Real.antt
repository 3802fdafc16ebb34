-- What a host over the real system tells: what the device of each role reaches, which bytes passed there, whether its end was
-- met, counts of faults, and all that the system was asked for. What a file holds it can't tell.
use Rattle.std.specs.Prelude.{◌≡◌, ◌⊎◌, ℕ, ◌+◌, ◌-◌, ◌^◌, ◌<◌, ◌==◌, ◌&&◌, ◌||◌, min, Bool, false, not, if◌then◌else◌, ⊤}
use Rattle.std.specs.Prelude.{List, [], ◌++◌, length, take, slice_index_or, All, codes}
use Rattle.std.specs.Prelude.{Option, None, Some, option_to_list, Result, IsFalse, IsOk, IsErr, IfSome, MatchResult}
use Rattle.host_io.specs.declared.source.Failed.{Failed}
use Rattle.host_io.specs.declared.role.Role.{Role}
use Rattle.host_io.specs.declared.role.Role.TheVariants.{Cnf, Order, Buckets, Schedule, ProofIn, Cubes, ProofOut, Made, Out, Err}
use Rattle.host_io.specs.Channel.{Channel, Met, Unmet}
use Rattle.host_io.specs.Files.{Files, Untold, code_of, same_role, IsInput, IsCreated}

-- What a device reaches: the file of this name, opened to be read or created to be written, or a standard stream.
pub data Target : Type 0 where
  Opened : List ℕ → Target
  Created : List ℕ → Target
  StandardOutput : Target
  StandardError : Target

-- the name of the file that is reached
abbrev pub name_of : Option Target → Option (List ℕ)
name_of None = None
name_of (Some (Opened name)) = Some name
name_of (Some (Created name)) = Some name
name_of (Some StandardOutput) = None
name_of (Some StandardError) = None

-- The bytes that were taken from a device, whether a read met its end, the bytes that were written to it, and those
-- of them that the last flush covered. (Calls that failed are left out.)
pub record Traffic : Type 0 where
  pub taken : List ℕ
  pub ended : Bool
  pub written : List ℕ
  pub flushed : List ℕ

-- a device: what it reaches, nothing while it is closed, and what passed there
pub record Connected : Type 0 where
  pub target : Option Target
  pub traffic : Traffic

-- a role's device and its count of faults
pub record Counted : Type 0 where
  pub device : Connected
  pub faults : ℕ

-- a host over the real system: its roles, and what it asked the system for, in order
pub record Hosted : Type 0 where
  pub roles : List Counted
  pub made : List Target

-- no byte passed yet
abbrev pub no_traffic : Traffic
no_traffic = record { taken = []; ended = false; written = []; flushed = [] }

-- a device that was not opened
abbrev pub closed : Connected
closed = record { target = None; traffic = no_traffic }

-- a role that was not met yet
abbrev pub unmet : Counted
unmet = record { device = closed; faults = 0 }

-- so many more, up to the end of the type
abbrev pub more : ℕ → ℕ → ℕ
more count n = min (count + n) (2 ^ 64 - 1)

-- a fault more in this role
abbrev pub missed : Counted → Counted
missed role = record role { faults = more role.faults 1 }

-- So many bytes at the front of the buffer were taken. It is the end where there are none, though there was room, and stays so.
abbrev pub took : List ℕ → ℕ → Traffic → Traffic
took buffer n traffic = record traffic {
  taken = traffic.taken ++ take n buffer;
  ended = traffic.ended || (n == 0) && not (length buffer == 0);
}

-- so many bytes at the front of the piece were written
abbrev pub wrote : List ℕ → ℕ → Traffic → Traffic
wrote piece n traffic = record traffic { written = traffic.written ++ take n piece }

-- all that was written was flushed
abbrev pub all_flushed : Traffic → Traffic
all_flushed traffic = record traffic { flushed = traffic.written }

-- A call that succeeds does this to the traffic, and one that fails nothing.
abbrev pub Passes : {T : Type 0} → (T → Traffic → Traffic) → Traffic → Traffic → Result T Failed → Type 0
Passes change old new result = MatchResult result (λ value. new ≡ change value old) (λ _. new ≡ old)

-- What a role tells of its device. Its name is that of the file that the device reaches.
abbrev pub told : Counted → Channel
told role = record {
  name = name_of role.device.target;
  faults = role.faults;
  taken = role.device.traffic.taken;
  left = (if role.device.traffic.ended then Met else Unmet);
  written = role.device.traffic.written;
  flushed = length role.device.traffic.flushed;
}

abbrev pub counted_of : Hosted → Role → Counted
counted_of host role = slice_index_or host.roles (code_of role) unmet

abbrev pub device_of : Hosted → Role → Connected
device_of host role = (counted_of host role).device

abbrev pub traffic_of : Hosted → Role → Traffic
traffic_of host role = (device_of host role).traffic

abbrev pub channel_of : Hosted → Role → Channel
channel_of host role = told (counted_of host role)

abbrev pub untold_files : Hosted → Files
untold_files host name = Untold

-- What a role may reach: an input a file that was opened, a created role one that was created, and standard output
-- and standard error the stream of their name.
abbrev pub MayReach : Role → Target → Type 0
MayReach role (Opened name) = IsInput role
MayReach role (Created name) = IsCreated role
MayReach role StandardOutput = role ≡ Out
MayReach role StandardError = role ≡ Err

-- a device reaches something, and what its role may reach
abbrev pub Reaches : Role → Option Target → Type 0
Reaches role None = ⊥
Reaches role (Some target) = MayReach role target

-- A role may reach this target, and reaches it, or else it has counted a fault.
pub record Wants (role : Role) (counted : Counted) (target : Target) : Type 0 where
  pub may : MayReach role target
  pub reached : (counted.device.target ≡ Some target) ⊎ (0 < counted.faults)

-- what a host holds from its start on: a file that is opened to be read, so that it refuses each write
abbrev pub IsHeld : Target → Type 0
IsHeld target = target ≡ Opened (codes "/dev/null")

-- The system was asked for this to hold it, or for a role.
abbrev pub IsWanted : Hosted → Target → Type 0
IsWanted host target = IsHeld target ⊎ ((role : Role) × Wants role (counted_of host role) target)

-- There is a device for each role. It reaches nothing that the role may not, and no byte passed before it reached something.
-- The system was asked for nothing else.
pub record IsConnected (host : Hosted) : Type 0 where
  pub all : length host.roles ≡ 10
  pub fits : (role : Role) → IfSome (device_of host role).target (MayReach role)
  pub idle : (role : Role) → (device_of host role).target ≡ None → traffic_of host role ≡ no_traffic
  pub wanted : All (IsWanted host) host.made

-- a file that was opened is reached, so that it can be read
abbrev pub IsSource : Option Target → Type 0
IsSource None = ⊥
IsSource (Some (Opened name)) = ⊤
IsSource (Some (Created name)) = ⊥
IsSource (Some StandardOutput) = ⊥
IsSource (Some StandardError) = ⊥

-- a file that was created or a standard stream is reached, so that it can be written
abbrev pub IsSink : Option Target → Type 0
IsSink None = ⊥
IsSink (Some (Opened name)) = ⊥
IsSink (Some (Created name)) = ⊤
IsSink (Some StandardOutput) = ⊤
IsSink (Some StandardError) = ⊤

-- the standard stream of a role
abbrev pub standard : Role → Option Target
standard Cnf = None
standard Order = None
standard Buckets = None
standard Schedule = None
standard ProofIn = None
standard Cubes = None
standard ProofOut = None
standard Made = None
standard Out = Some StandardOutput
standard Err = Some StandardError

-- what is reached, and else the role's standard stream
abbrev pub or_standard : Role → Option Target → Option Target
or_standard role None = standard role
or_standard role (Some target) = Some target

-- What the system is asked for where a role of this target is to be written: its standard stream, where it has one and has not
-- taken it yet.
unfoldable pub begun : Role → Option Target → List Target
begun role None = option_to_list (standard role)
begun role (Some target) = []

-- A role opens or creates its file, at which nothing passed yet. Where that fails it counts a fault.
abbrev pub Joins : {T : Type 0} → Target → Counted → Counted → Result T Failed → Type 0
Joins target old new result =
    MatchResult result (λ _. new ≡ record old { device = record { target = Some target; traffic = no_traffic } }) (λ _. new ≡ missed old)

-- A role that reaches nothing takes its standard stream. Where that fails it counts a fault.
abbrev pub Begins : {T : Type 0} → Role → Counted → Counted → Result T Failed → Type 0
Begins role old new result =
    MatchResult result (λ _. new ≡ record old { device = record old.device { target = or_standard role old.device.target } })
    (λ _. new ≡ missed old)

-- A call of one role changes no other's device, name or count.
abbrev pub OthersCounted : Role → Hosted → Hosted → Type 0
OthersCounted role old new = (other : Role) → IsFalse (same_role other role) → counted_of new other ≡ counted_of old other

-- Opening or creating in a role: where it succeeds, its device reaches this file. No byte passes anywhere.
pub record Connects {T : Type 0} (role : Role) (target : Target) (old new : Hosted) (result : Result T Failed) : Type 0 where
  pub reached : IsOk result → (device_of new role).target ≡ Some target
  pub failed : IsErr result → (device_of new role).target ≡ (device_of old role).target
  pub traffic : traffic_of new role ≡ traffic_of old role
  pub others : OthersCounted role old new

-- A read or a write of one role: the bytes that it answers pass at the role's device, which reaches what the role may
-- reach, and none pass at another's.
pub record Moves (role : Role) (change : ℕ → Traffic → Traffic) (old new : Hosted) (result : Result ℕ Failed) : Type 0 where
  pub reached : IsOk result → Reaches role (device_of new role).target
  pub passed : Passes change (traffic_of old role) (traffic_of new role) result
  pub others : OthersCounted role old new

-- A flush of one role: where it succeeds, all that was written to its device is flushed. No byte passes anywhere.
pub record FlushesDevice {T : Type 0} (role : Role) (old new : Hosted) (result : Result T Failed) : Type 0 where
  pub target : (device_of new role).target ≡ (device_of old role).target
  pub passed : Passes (λ _. all_flushed) (traffic_of old role) (traffic_of new role) result
  pub others : OthersCounted role old new
