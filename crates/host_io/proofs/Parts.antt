-- A read into the front of a buffer is a read into the buffer, and a write of a front of a piece is one of the piece.
use Rattle.std.proofs.Common.{◌≡◌, ℕ, ◌<◌, ◌≤◌, Bool, List, ◌++◌, length, take, Result, Ok, Err, arith, refl, ◌∙◌}
use Rattle.std.proofs.lemmas.List.{take-append-le, length-take-le, take-take}
use Rattle.host_io.specs.declared.source.Failed.{Failed}
use Rattle.host_io.specs.Channel.{Channel, Reads, Writes}

pub reads_front_part : (tells : Bool) (old new : Channel) (count capacity : ℕ) (front rest : List ℕ) (result : Result ℕ Failed)
    → length front ≡ count → count ≤ capacity → (0 < capacity → 0 < count) → Reads tells old new count front result
    → Reads tells old new capacity (front ++ rest) result
reads_front_part tells old new count capacity front rest (Ok n) long fits some reads =
    let within : n ≤ length front = omega (arith, reads.count) in
    let same : take n (front ++ rest) ≡ take n front = take-append-le n front rest within in
    record {
      count = omega (arith, reads.count);
      taken = λ t. rw same (reads.taken t);
      left = λ t. rw same (reads.left t);
      ended = λ t e more. reads.ended t e (some more);
      written = reads.written;
      flushed = reads.flushed;
      name = reads.name;
      faults = reads.faults;
    }
reads_front_part tells old new count capacity front rest (Err e) long fits some reads = record {
  count = reads.count;
  taken = reads.taken;
  left = reads.left;
  ended = λ t e more. reads.ended t e (some more);
  written = reads.written;
  flushed = reads.flushed;
  name = reads.name;
  faults = reads.faults;
}

pub writes_front_part : (tells : Bool) (old new : Channel) (count : ℕ) (piece : List ℕ) (result : Result ℕ Failed) → count ≤ length piece
    → (0 < length piece → 0 < count) → Writes tells old new (take count piece) result → Writes tells old new piece result
writes_front_part tells old new count piece (Ok n) fits some writes =
    let long : length (take count piece) ≡ count = length-take-le count piece fits in
    let within : n ≤ count = omega (arith, writes.count) in
    let same : take n (take count piece) ≡ take n piece = take-take n count piece within in
    record {
      count = omega arith;
      progress = λ more. writes.progress (omega (arith, some more));
      written = λ t. writes.written t ∙ rw same refl;
      flushed = writes.flushed;
      taken = writes.taken;
      left = writes.left;
      name = writes.name;
      faults = writes.faults;
    }
writes_front_part tells old new count piece (Err e) fits some writes = record {
  count = writes.count;
  progress = writes.progress;
  written = writes.written;
  flushed = writes.flushed;
  taken = writes.taken;
  left = writes.left;
  name = writes.name;
  faults = writes.faults;
}
