-- A text on its way: what is held back of it until it is long enough for a write, and what the sink has of it.
use Rattle.std.specs.Prelude.{◌≡◌, ℕ, Bool, List, ◌++◌, Result, IsTrue, IsOk}
use Rattle.host_io.specs.Channel.{Channel, Counts}
use Rattle.host_io.specs.declared.source.Failed.{Failed}

-- Some bytes more of a text: the sink gained a front of what was held back and of them; where the call succeeds,
-- the rest is held back now.
pub record Emits (tells : Bool) (old new : Channel) (held after bytes : List ℕ) (result : Result (Unit {0}) Failed) : Type 0 where
  pub gained : List ℕ
  pub rest : List ℕ
  pub balance : held ++ bytes ≡ gained ++ rest
  pub done : IsOk result → after ≡ rest
  pub written : IsTrue tells → new.written ≡ old.written ++ gained
  pub flushed : new.flushed ≡ old.flushed
  pub taken : new.taken ≡ old.taken
  pub left : new.left ≡ old.left
  pub name : new.name ≡ old.name
  pub faults : Counts old new result
