-- What passed at a stream of the system, and how its calls are counted.
use Rattle.std.specs.Prelude.{◌≡◌, ◌≤◌, ℕ, List, [], false, Option, None, Some, Result, Ok, Err}
use Rattle.host_io.specs.declared.source.Failed.{Failed}
use Rattle.host_io.specs.declared.port.flow.Input.{Input}
use Rattle.host_io.specs.declared.port.flow.Output.{Output}
use Rattle.host_io.specs.declared.port.tally.Tally.{Tally}
use Rattle.host_io.specs.Real.{Traffic, more}

-- what was taken from a stream that is read
abbrev pub traffic_in : {R : Type 0} → Input R → Traffic
traffic_in input = record { taken = input.taken.bytes; ended = input.ended; written = []; flushed = [] }

-- what was written to a stream, and what of it was flushed
abbrev pub traffic_out : {W : Type 0} → Output W → Traffic
traffic_out output = record { taken = []; ended = false; written = output.written.bytes; flushed = output.flushed.bytes }

-- the name of the file that is read
abbrev pub name_in : {R : Type 0} → Input R → List ℕ
name_in input = input.name.bytes

-- the name of the file that is written
abbrev pub name_out : {W : Type 0} → Output W → List ℕ
name_out output = output.name.bytes

-- how many calls failed
abbrev pub faults_of : Tally → ℕ
faults_of tally = tally.faults

-- how many calls a signal broke off
abbrev pub breaks_of : Tally → ℕ
breaks_of tally = tally.broken_off

-- One call more was broken off.
pub record IsBrokenOff (old new : Tally) : Type 0 where
  pub breaks : breaks_of new ≡ more (breaks_of old) 1
  pub faults : faults_of new ≡ faults_of old

-- There is a fault more.
pub record Rises (old new : Tally) : Type 0 where
  pub faults : faults_of new ≡ more (faults_of old) 1
  pub no_less : faults_of old ≤ faults_of new

-- A call that fails is a fault more, and one that succeeds none.
abbrev pub Settles : {T : Type 0} → Tally → Tally → Result T Failed → Type 0
Settles old new (Ok value) = faults_of new ≡ faults_of old
Settles old new (Err e) = Rises old new

-- The same of a call that may have been broken off: then it answers nothing, and is counted as such.
abbrev pub Answers : {T : Type 0} → Tally → Tally → Option (Result T Failed) → Type 0
Answers old new None = IsBrokenOff old new
Answers old new (Some answer) = Settles old new answer
