-- A text of which only a front was written.
use Rattle.std.proofs.Common.{ℕ, Bool, List, take, drop, refl, sym, Ok, Err}
use Rattle.std.specs.Prelude.{Result, ⊤, IsErr}
use Rattle.std.proofs.lemmas.List.{take-append-drop}
use Rattle.host_io.specs.declared.source.Failed.{Failed}
use Rattle.host_io.specs.Channel.{Channel, WritesAll}
use Rattle.solver_cli.specs.Phases.{PutsText}

pub cut_short : {tells : Bool} {old new : Channel} {text : List ℕ} {e : Failed} (answer : Result ⊤ Failed)
    → WritesAll {T = ⊤} tells old new text (Err e) → IsErr answer → PutsText tells old new text answer
cut_short (Ok x) writes failed = cc
cut_short {text = text} (Err f) writes failed = record {
  done = λ t ok. cc;
  flushed = λ t ok. cc;
  front = λ t. let cut = writes.failed t refl in (take cut.0 text, drop cut.0 text, cut.1, sym (take-append-drop cut.0 text));
  fault = λ is. writes.faults.cause refl;
  unfailed = λ ok. cc;
  only = record { name = writes.name; faults = writes.faults.no_less };
}
