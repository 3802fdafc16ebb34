-- An operation on diagrams by recursion over the levels, however it is worked off. A call is answered at once, or it is
-- split into a call for the high side and one for the low side, from whose answers it is closed. (Bryant: Graph-Based
-- Algorithms for Boolean Function Manipulation, 1986, section 4.3: apply.)
use Rattle.std.specs.Prelude.{◌≤◌, ◌<◌, ℕ, Option, None, Some, Result, Ok, Err}
use Rattle.node_table.specs.declared.error.TableError.{TableError}
use Rattle.node_table.specs.declared.error.TableError.TheVariants.{OutOfMemory}
use Rattle.node_table.specs.Diagram.{levels}
use Rattle.node_table.specs.Table.{TableState}
use Rattle.operations.specs.declared.frames.Reply.{Reply}
use Rattle.operations.specs.declared.frames.Reply.TheVariants.{Open, Give}

-- what holds once a call has ended with this table, this cache and this result
abbrev pub Outcome : Type 0 → Type 0 → Type 0 → Type 1
Outcome S Cache Answer = TableState S → Cache → Result Answer TableError → Type 0

-- What an operation says of its calls: what a call and the step that closes it require, and how they may end; the calls of
-- the two sides, of which there is no low one where the answer of the high side is that of the whole; and the levels, which
-- rise from a call to those of its sides.
pub record Calls (S Cache Question Parts Answer : Type 0) : Type 1 where
  pub can : TableState S → Cache → Question → Type 0
  pub ends : TableState S → Cache → Question → Outcome S Cache Answer
  pub can_close : TableState S → Cache → Parts → Answer → Answer → Type 0
  pub closes : TableState S → Cache → Parts → Answer → Answer → Outcome S Cache Answer
  pub high : Parts → Question
  pub low : Parts → Answer → Option Question
  -- the level at which a call was split, and the first one at which a call may be
  pub level : Parts → ℕ
  pub floor : TableState S → Question → ℕ

-- Both sides are there: however the call is closed, the rest follows.
pub record AwaitsClose {S Cache Question Parts Answer : Type 0} (calls : Calls S Cache Question Parts Answer)
    (rest : Outcome S Cache Answer) (now : TableState S) (cache : Cache)
    (parts : Parts) (high low : Answer) : Type 0 where
  pub ready : calls.can_close now cache parts high low
  pub closes : (new : TableState S) (after : Cache) (result : Result Answer TableError)
      → calls.closes now cache parts high low new after result → rest new after result

-- the low side has ended; its error is that of the call
abbrev pub LowCame : {S Cache Question Parts Answer : Type 0} → Calls S Cache Question Parts Answer → Outcome S Cache Answer → Parts
    → Answer → Outcome S Cache Answer
LowCame calls rest parts high now cache (Err error) = rest now cache (Err error)
LowCame calls rest parts high now cache (Ok low) = AwaitsClose calls rest now cache parts high low

-- The high side is there: the low one may be called, and however it ends, the rest follows.
pub record AwaitsLow {S Cache Question Parts Answer : Type 0} (calls : Calls S Cache Question Parts Answer) (rest : Outcome S Cache Answer)
    (now : TableState S) (cache : Cache)
    (parts : Parts) (high : Answer) (question : Question) : Type 0 where
  pub refused : rest now cache (Err OutOfMemory)
  pub ready : calls.can now cache question
  pub later : calls.level parts < calls.floor now question
  pub low : (new : TableState S) (after : Cache) (result : Result Answer TableError) → calls.ends now cache question new after result
      → LowCame calls rest parts high new after result

-- the low side is next, if it is called
abbrev pub ThenLow : {S Cache Question Parts Answer : Type 0} → Calls S Cache Question Parts Answer → Outcome S Cache Answer → TableState S
    → Cache → Parts → Answer → Option Question → Type 0
ThenLow calls rest now cache parts high None = rest now cache (Ok high)
ThenLow calls rest now cache parts high (Some question) = AwaitsLow calls rest now cache parts high question

-- the high side has ended
abbrev pub HighCame : {S Cache Question Parts Answer : Type 0} → Calls S Cache Question Parts Answer → Outcome S Cache Answer → Parts
    → Outcome S Cache Answer
HighCame calls rest parts now cache (Err error) = rest now cache (Err error)
HighCame calls rest parts now cache (Ok high) = ThenLow calls rest now cache parts high (calls.low parts high)

-- A call was split: its high side may be called, and however that ends, the rest follows.
pub record IsOpened {S Cache Question Parts Answer : Type 0} (calls : Calls S Cache Question Parts Answer) (rest : Outcome S Cache Answer)
    (now : TableState S) (cache : Cache) (parts : Parts) : Type 0 where
  pub refused : rest now cache (Err OutOfMemory)
  pub level : calls.level parts < levels now.graph
  pub ready : calls.can now cache (calls.high parts)
  pub later : calls.level parts < calls.floor now (calls.high parts)
  pub high : (new : TableState S) (after : Cache) (result : Result Answer TableError)
      → calls.ends now cache (calls.high parts) new after result → HighCame calls rest parts new after result

-- What is next for a call from this level on: it has failed or is answered, and so has ended, or it was split.
abbrev pub IsNext : {S Cache Question Parts Answer : Type 0} → Calls S Cache Question Parts Answer → Outcome S Cache Answer → ℕ
    → TableState S → Cache → Result (Reply Parts Answer) TableError → Type 0
IsNext calls rest floor now cache (Err error) = rest now cache (Err error)
IsNext calls rest floor now cache (Ok (Give answer)) = rest now cache (Ok answer)
IsNext calls rest floor now cache (Ok (Open parts)) = (floor ≤ calls.level parts) × IsOpened calls rest now cache parts

-- What a call answers: the rest follows from its end.
abbrev pub IsAnswer : {S Cache Question Parts Answer : Type 0} → Calls S Cache Question Parts Answer → TableState S → Cache → Question
    → TableState S → Cache → Result (Reply Parts Answer) TableError → Type 0
IsAnswer calls old before question new after result = IsNext calls (calls.ends old before question)
    (calls.floor old question) new after result
