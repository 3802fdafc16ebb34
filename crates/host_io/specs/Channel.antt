-- What the outside tells of one role: a stream that is read, or one that is written.
-- `read`, `write` and `flush` are described here once, for a source, a sink and a role of a host alike. (They are those
-- of Rust's `std::io::Read` and `Write`.)
use Rattle.std.specs.Prelude.{◌≡◌, ℕ, ◌+◌, ◌-◌, ◌^◌, ◌<◌, ◌≤◌, min, Bool, List, [], ◌++◌, length, take, Option, Result, Ok, Err}
use Rattle.std.specs.Prelude.{IsTrue, IsOk, IsErr, IfOk, ⊤}
use Rattle.host_io.specs.declared.source.Failed.{Failed}

-- What is left of a stream: these bytes, or, where that can't be told, something that the end was not met behind yet, or
-- nothing, since the end was met.
pub data Left : Type 0 where
  Held : List ℕ → Left
  Unmet : Left
  Met : Left

-- nothing is left
abbrev pub IsOver : Left → Type 0
IsOver (Held bytes) = bytes ≡ []
IsOver Unmet = ⊥
IsOver Met = ⊤

-- From what was left these bytes were taken, and this is left. (Bytes are taken before the end alone, and what was held is known.)
abbrev pub Leaves : Left → List ℕ → Left → Type 0
Leaves (Held bytes) gained (Held rest) = bytes ≡ gained ++ rest
Leaves (Held bytes) gained Unmet = ⊥
Leaves (Held bytes) gained Met = ⊥
Leaves Unmet gained (Held rest) = ⊥
Leaves Unmet gained Unmet = ⊤
Leaves Unmet gained Met = ⊤
Leaves Met gained (Held rest) = ⊥
Leaves Met gained Unmet = ⊥
Leaves Met gained Met = gained ≡ []

-- The meanings of a role. The name is that of the file that it was opened or created under, none at first.
-- Bytes are listed from the first on; `flushed` counts those of `written` that the last flush that succeeded covered.
pub record Channel : Type 0 where
  pub name : Option (List ℕ)
  pub faults : ℕ
  pub taken : List ℕ
  pub left : Left
  pub written : List ℕ
  pub flushed : ℕ

-- What more of the stream there may be behind what was taken: nothing where nothing is left.
abbrev pub MayFollow : Channel → List ℕ → Type 0
MayFollow channel more = IsOver channel.left → more ≡ []

-- A count of faults rose: it is greater now, or stands at the end of its type. Later rises keep this true.
abbrev pub Rose : ℕ → ℕ → Type 0
Rose old new = min (old + 1) (2 ^ 64 - 1) ≤ new

-- the bytes that a call moved: as many as it answers, and none where it failed
abbrev pub moved : Result ℕ Failed → ℕ
moved (Ok n) = n
moved (Err e) = 0

-- A count never falls. A call that fails raises it, and one that succeeds leaves it as it is.
pub record Counts {T : Type 0} (old new : Channel) (result : Result T Failed) : Type 0 where
  pub no_less : old.faults ≤ new.faults
  pub cause : IsErr result → Rose old.faults new.faults
  pub unfailed : IsOk result → new.faults ≡ old.faults

-- A read into a buffer of this capacity, which holds `buffer` afterwards. The bytes answered come from the
-- front of what was left; none for a buffer that isn't empty is the end. A failed read takes nothing.
pub record Reads (tells : Bool) (old new : Channel) (capacity : ℕ) (buffer : List ℕ) (result : Result ℕ Failed) : Type 0 where
  pub count : IfOk result (λ n. n ≤ capacity)
  pub taken : IsTrue tells → new.taken ≡ old.taken ++ take (moved result) buffer
  pub left : IsTrue tells → Leaves old.left (take (moved result) buffer) new.left
  pub ended : IsTrue tells → result ≡ Ok 0 → 0 < capacity → IsOver new.left
  pub written : new.written ≡ old.written
  pub flushed : new.flushed ≡ old.flushed
  pub name : new.name ≡ old.name
  pub faults : Counts old new result

-- A write of a piece: its first bytes, as many as are answered, at least one of a piece that isn't empty. A
-- failed write writes nothing.
pub record Writes (tells : Bool) (old new : Channel) (piece : List ℕ) (result : Result ℕ Failed) : Type 0 where
  pub count : IfOk result (λ n. n ≤ length piece)
  pub progress : IfOk result (λ n. 0 < length piece → 0 < n)
  pub written : IsTrue tells → new.written ≡ old.written ++ take (moved result) piece
  pub flushed : new.flushed ≡ old.flushed
  pub taken : new.taken ≡ old.taken
  pub left : new.left ≡ old.left
  pub name : new.name ≡ old.name
  pub faults : Counts old new result

-- A flush changes no byte. Where it succeeds, all that was written is flushed.
pub record Flushes {T : Type 0} (tells : Bool) (old new : Channel) (result : Result T Failed) : Type 0 where
  pub done : IsTrue tells → IsOk result → new.flushed ≡ length new.written
  pub failed : IsErr result → new.flushed ≡ old.flushed
  pub written : new.written ≡ old.written
  pub taken : new.taken ≡ old.taken
  pub left : new.left ≡ old.left
  pub name : new.name ≡ old.name
  pub faults : Counts old new result

-- Writing a whole piece: all of its bytes, or, where a write failed, a front of them.
pub record WritesAll {T : Type 0} (tells : Bool) (old new : Channel) (piece : List ℕ) (result : Result T Failed) : Type 0 where
  pub done : IsTrue tells → IsOk result → new.written ≡ old.written ++ piece
  pub failed : IsTrue tells → IsErr result → (n : ℕ) × (new.written ≡ old.written ++ take n piece)
  pub flushed : new.flushed ≡ old.flushed
  pub taken : new.taken ≡ old.taken
  pub left : new.left ≡ old.left
  pub name : new.name ≡ old.name
  pub faults : Counts old new result

-- Putting a whole piece: writing all of it and flushing it.
pub record Puts {T : Type 0} (tells : Bool) (old new : Channel) (piece : List ℕ) (result : Result T Failed) : Type 0 where
  pub done : IsTrue tells → IsOk result → new.written ≡ old.written ++ piece
  pub flushed : IsTrue tells → IsOk result → new.flushed ≡ length new.written
  pub failed : IsTrue tells → IsErr result → (n : ℕ) × (new.written ≡ old.written ++ take n piece)
  pub unflushed : IsErr result → new.flushed ≡ old.flushed
  pub taken : new.taken ≡ old.taken
  pub left : new.left ≡ old.left
  pub name : new.name ≡ old.name
  pub faults : Counts old new result

-- Reading until the buffer is full or the input ends. Where a read failed, a front of what was left was taken.
pub record Fills (tells : Bool) (old new : Channel) (capacity : ℕ) (buffer : List ℕ) (result : Result ℕ Failed) : Type 0 where
  pub count : IfOk result (λ n. n ≤ capacity)
  pub taken : IsTrue tells → IsOk result → new.taken ≡ old.taken ++ take (moved result) buffer
  pub left : IsTrue tells → IsOk result → Leaves old.left (take (moved result) buffer) new.left
  pub ended : IsTrue tells → IfOk result (λ n. n < capacity → IsOver new.left)
  pub failed : IsTrue tells → IsErr result → (gained : List ℕ) × (new.taken ≡ old.taken ++ gained) × Leaves old.left gained new.left
  pub written : new.written ≡ old.written
  pub flushed : new.flushed ≡ old.flushed
  pub name : new.name ≡ old.name
  pub faults : Counts old new result
