-- The names behind the rest of the literals are those behind all of them.
use Rattle.std.proofs.Common.{◌≡◌, drop}
use Rattle.fresh_names.specs.Fresh.{all_entered}
use Rattle.fresh_names.specs.Renaming.{names_of}
use Rattle.fresh_names.proofs.renaming.Renaming.enter_all.Given as goal

abbrev pub invariant-loop-literal : goal.invariant-loop-literal
invariant-loop-literal l = record {
  vars : l.self.vars ≡ l.fn.self.vars;
  names : all_entered l.fn.self.vars (names_of l.self) (drop l.literal-index l.clause)
      ≡ all_entered l.fn.self.vars (names_of l.fn.self) l.clause;
}
