-- How far the reading into a buffer has come.
use Rattle.std.proofs.Common.{◌≡◌, ℕ, ◌+◌, ◌-◌, ◌≤◌, Bool, List, [], ◌++◌, length, take, drop, IsTrue, Ok, arith, append_assoc, refl, sym}
use Rattle.std.proofs.Common.{◌∙◌, ap, length-append, length-drop}
use Rattle.std.proofs.Math.Seq.{take-append-add}
use Rattle.std.proofs.lemmas.List.{length-take-le, drop_all, append-nil}
use borrow.Rule.Slice.PartMut.{put_mid}
use Rattle.host_io.specs.Channel.{Channel, Leaves, Reads}
use Rattle.host_io.specs.Taking.{leaves_then}

-- the first bytes of the buffer, this many, were read
pub record HasRead (tells : Bool) (old new : Channel) (buffer : List ℕ) (done : ℕ) : Type 0 where
  pub within : done ≤ length buffer
  pub taken : IsTrue tells → new.taken ≡ old.taken ++ take done buffer
  pub left : IsTrue tells → Leaves old.left (take done buffer) new.left
  pub written : new.written ≡ old.written
  pub flushed : new.flushed ≡ old.flushed
  pub name : new.name ≡ old.name
  pub faults : new.faults ≡ old.faults

-- one read more, into the rest of the buffer
pub more_read : (tells : Bool) (old mid new : Channel) (buffer rest : List ℕ) (done capacity n : ℕ) → HasRead tells old mid buffer done
    → capacity ≡ length rest → Reads tells mid new capacity rest (Ok n) → HasRead tells old new (take done buffer ++ rest) (done + n)
more_read tells old mid new buffer rest done capacity n so_far long step =
    let front_long : length (take done buffer) ≡ done = length-take-le done buffer so_far.within in
    let parts : take (done + n) (take done buffer ++ rest) ≡ take done buffer ++ take n rest =
    ap (λ k. take (k + n) (take done buffer ++ rest)) (sym front_long) ∙ take-append-add (take done buffer) rest n in
    let whole : length (take done buffer ++ rest) ≡ length (take done buffer) + length rest = length-append (take done buffer) rest in
    record {
      within = omega (arith, step.count, so_far.within);
      taken = λ t. step.taken t ∙ rw (so_far.taken t, parts) (append_assoc old.taken (take done buffer) (take n rest));
      left = λ t. rw parts (leaves_then old.left mid.left new.left (take done buffer) (take n rest) (so_far.left t) (step.left t));
      written = step.written ∙ so_far.written;
      flushed = step.flushed ∙ so_far.flushed;
      name = step.name ∙ so_far.name;
      faults = step.faults.unfailed refl ∙ so_far.faults;
    }

-- after a write to the rest of a list, whose length it keeps
pub put_rest : (done : ℕ) (xs ys : List ℕ) → done ≤ length xs → put_mid done (length xs - done) xs ys ≡ take done xs ++ ys
put_rest done xs ys within =
    let short : length (drop done xs) ≤ length xs - done = omega (arith, length-drop done xs) in
    let none : drop (length xs - done) (drop done xs) ≡ [] = drop_all (length xs - done) (drop done xs) short in
    rw (none, append-nil ys) refl
