-- How far the writing of a piece has come.
use Rattle.std.proofs.Common.{◌≡◌, ℕ, ◌+◌, ◌-◌, ◌≤◌, Bool, List, ◌++◌, length, take, drop, IsTrue, Result, Ok, arith, append_assoc, refl}
use Rattle.std.proofs.Common.{sym, ◌∙◌, ap, subst, length-drop}
use Rattle.std.proofs.Math.Seq.{take-add, take-length}
use Rattle.host_io.specs.declared.source.Failed.{Failed}
use Rattle.host_io.specs.Channel.{Channel, Writes, WritesAll, Flushes, Puts}

-- the first bytes of the piece, this many, were written
pub record HasWritten (tells : Bool) (old new : Channel) (piece : List ℕ) (done : ℕ) : Type 0 where
  pub within : done ≤ length piece
  pub written : IsTrue tells → new.written ≡ old.written ++ take done piece
  pub flushed : new.flushed ≡ old.flushed
  pub taken : new.taken ≡ old.taken
  pub left : new.left ≡ old.left
  pub name : new.name ≡ old.name
  pub faults : new.faults ≡ old.faults

-- one write more
pub more_written : (tells : Bool) (old mid new : Channel) (piece rest : List ℕ) (done n : ℕ) → rest ≡ drop done piece
    → HasWritten tells old mid piece done → Writes tells mid new rest (Ok n) → HasWritten tells old new piece (done + n)
more_written tells old mid new piece rest done n e so_far step =
    let short : length rest ≡ length piece - done = ap length e ∙ length-drop done piece in
    let parts : take (done + n) piece ≡ take done piece ++ take n (drop done piece) = take-add done n piece in
    let within : done ≤ length piece = so_far.within in
    let count : n ≤ length rest = step.count in
    record {
      within = omega arith;
      written = λ t. step.written t ∙ rw (so_far.written t, e, parts)
          (append_assoc old.written (take done piece) (take n (drop done piece)));
      flushed = step.flushed ∙ so_far.flushed;
      taken = step.taken ∙ so_far.taken;
      left = step.left ∙ so_far.left;
      name = step.name ∙ so_far.name;
      faults = step.faults.unfailed refl ∙ so_far.faults;
    }

-- a whole piece, and then a flush
pub puts_whole : {T U : Type 0} (tells : Bool) (old mid new : Channel) (piece : List ℕ) (u : T) (result : Result U Failed)
    → WritesAll tells old mid piece (Ok u) → Flushes tells mid new result → Puts tells old new piece result
puts_whole tells old mid new piece u result writes flushes = record {
  done = λ t _. flushes.written ∙ writes.done t refl;
  flushed = λ t ok. flushes.done t ok;
  failed = λ t _. (length piece, flushes.written ∙ rw take-length (writes.done t refl));
  unflushed = λ err. flushes.failed err ∙ writes.flushed;
  taken = flushes.taken ∙ writes.taken;
  left = flushes.left ∙ writes.left;
  name = flushes.name ∙ writes.name;
  faults = record {
    no_less = omega (arith, flushes.faults.no_less, writes.faults.no_less);
    cause = λ err. omega (arith, flushes.faults.cause err, writes.faults.no_less);
    unfailed = λ ok. flushes.faults.unfailed ok ∙ writes.faults.unfailed refl;
  };
}

-- what holds of two channels holds of those that they are
pub carried : (P : Channel → Channel → Type 0) (old start new end : Channel) → P start end → start ≡ old → new ≡ end → P old new
carried P old start new end p start_is new_is = subst (λ x. P old x) (sym new_is) (subst (λ x. P x end) start_is p)
