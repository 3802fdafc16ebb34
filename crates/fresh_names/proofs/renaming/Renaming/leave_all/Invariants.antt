-- The names behind the rest of the literals are those behind all of them.
use Rattle.std.proofs.Common.{◌≡◌, drop}
use Rattle.fresh_names.specs.Fresh.{all_left}
use Rattle.fresh_names.specs.Renaming.{names_of}
use Rattle.fresh_names.proofs.renaming.Renaming.leave_all.Given as goal

abbrev pub invariant-loop-literal : goal.invariant-loop-literal
invariant-loop-literal l = record {
  vars : l.self.vars ≡ l.fn.self.vars;
  names : all_left (names_of l.self) (drop l.literal-index l.clause) ≡ all_left (names_of l.fn.self) l.clause;
}
