-- Opening or creating that fails for want of a file or of memory counts a fault in its role, and does no more.
use Rattle.std.proofs.Common.{◌≡◌, ℕ, ◌≤◌, List, None, Err, arith, subst, sym, inr}
use Rattle.host_io.specs.declared.source.Failed.{Failed}
use Rattle.host_io.specs.Channel.{Channel}
use Rattle.host_io.specs.Files.{IsIdle, Opens}
use Rattle.host_io.specs.Memory.{faulted}

at_fault : {T : Type 0} (old : Channel) (name : List ℕ) (e : Failed) → IsIdle old → old.name ≡ None → old.faults ≤ (faulted old).faults
    → Opens {T = T} old (faulted old) name (Err e)
at_fault old name e idle none no_less = record {
  named = λ ok. cc;
  failed = λ _. inr none;
  was_idle = idle;
  idle = record { taken = idle.taken; written = idle.written; flushed = idle.flushed };
  faults = record { no_less = no_less; cause = λ _. omega arith; unfailed = λ ok. cc };
}

pub opens_not : {T : Type 0} (old new : Channel) (name : List ℕ) (e : Failed) → IsIdle old → old.name ≡ None → new ≡ faulted old
    → old.faults ≤ new.faults → Opens {T = T} old new name (Err e)
opens_not {T} old new name e idle none new_is no_less =
    subst (λ c. old.faults ≤ c.faults → Opens {T = T} old c name (Err e)) (sym new_is) (at_fault old name e idle none) no_less
