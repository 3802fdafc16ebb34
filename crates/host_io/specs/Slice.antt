-- Bytes in memory as a source: how far they were taken, how many a read takes at most, and where reads fail.
use Rattle.std.specs.Prelude.{ℕ, List, [], Option, None, take, drop}
use Rattle.host_io.specs.Channel.{Channel, Held}

-- The bytes, how many were taken, the most that a read takes, with how many left each read fails, the faults, and the
-- reads so far.
pub record Slice : Type 0 where
  pub bytes : List ℕ
  pub position : ℕ
  pub piece : ℕ
  pub fails_at : Option ℕ
  pub faults : ℕ
  pub reads : ℕ

-- what was not taken yet
abbrev pub left_of : Slice → List ℕ
left_of slice = drop slice.position slice.bytes

abbrev pub channel_of : Slice → Channel
channel_of slice = record {
  name = None;
  faults = slice.faults;
  taken = take slice.position slice.bytes;
  left = Held (left_of slice);
  written = [];
  flushed = 0;
}
