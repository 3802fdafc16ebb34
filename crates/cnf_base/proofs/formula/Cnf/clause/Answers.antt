-- What is left to show of `Cnf::clause`.
use Rattle.std.proofs.Common.{◌-◌, ◌<◌, ℤ, List, length, get_or, sym, ◌∙◌, ap, arith}
use Rattle.std.specs.Prelude.{slice_range}
use Rattle.cnf_base.specs.Formula.{start_at}
use Rattle.cnf_base.proofs.FlatFormula.{Stores, length-stored, clause-stored, are_ends-get}
use Rattle.cnf_base.proofs.formula.Cnf.clause.Goals as goal

pub start_of-start-requires : goal.start_of-start-requires
start_of-start-requires c =
    let s : Stores c.self.inside.vars c.self.inside.literals.items c.self.inside.ends.items c.args.self.now =
    record { stored = c.self.invariant; value = c.self.view_is } in
    omega (arith, length-stored s, ap length c.as_slice-ends.ensures.value, c.requires.to_len, c.requires.from_one)

pub offset_bounds-ends-i : goal.offset_bounds-ends-i
offset_bounds-ends-i c =
    let s : Stores c.self.inside.vars c.self.inside.literals.items c.self.inside.ends.items c.args.self.now =
    record { stored = c.self.invariant; value = c.self.view_is } in
    omega (arith, length-stored s, c.requires.to_len, c.requires.from_one, c.self.invariant.few_ends)

pub bounds-ends-i : goal.bounds-ends-i
bounds-ends-i c =
    let s : Stores c.self.inside.vars c.self.inside.literals.items c.self.inside.ends.items c.args.self.now =
    record { stored = c.self.invariant; value = c.self.view_is } in
    omega (arith, length-stored s, ap length c.as_slice-ends.ensures.value, c.requires.to_len, c.requires.from_one)

pub part-requires-clause-order : goal.part-requires-clause-order
part-requires-clause-order c =
    let s : Stores c.self.inside.vars c.self.inside.literals.items c.self.inside.ends.items c.args.self.now =
    record { stored = c.self.invariant; value = c.self.view_is } in
    let place : c.args.i - 1 < length c.self.inside.ends.items = omega (arith, length-stored s, c.requires.to_len, c.requires.from_one) in
    let bounds = are_ends-get 0 (length c.self.inside.literals.items) c.self.inside.ends.items
    (c.args.i - 1) place c.self.invariant.in_order in
    rw (c.start_of-start.ensures, c.as_slice-ends.ensures.value) bounds.0

pub part-requires-clause-room : goal.part-requires-clause-room
part-requires-clause-room c =
    let s : Stores c.self.inside.vars c.self.inside.literals.items c.self.inside.ends.items c.args.self.now =
    record { stored = c.self.invariant; value = c.self.view_is } in
    let place : c.args.i - 1 < length c.self.inside.ends.items = omega (arith, length-stored s, c.requires.to_len, c.requires.from_one) in
    let bounds = are_ends-get 0 (length c.self.inside.literals.items) c.self.inside.ends.items
    (c.args.i - 1) place c.self.invariant.in_order in
    rw (c.as_slice-ends.ensures.value, c.as_slice.ensures.value) bounds.1

pub returns : goal.returns
returns c =
    let s : Stores c.self.inside.vars c.self.inside.literals.items c.self.inside.ends.items c.args.self.now =
    record { stored = c.self.invariant; value = c.self.view_is } in
    let place : c.args.i - 1 < length c.self.inside.ends.items = omega (arith, length-stored s, c.requires.to_len, c.requires.from_one) in
    c.part.ensures
    ∙ ap (λ (xs : List ℤ). slice_range xs c.start_of-start.result
    (get_or c.as_slice-ends.result.now (c.args.i - 1) 0)) c.as_slice.ensures.value
    ∙ ap (λ n. slice_range c.self.inside.literals.items n (get_or c.as_slice-ends.result.now (c.args.i - 1) 0)) c.start_of-start.ensures
    ∙ ap (λ ends. slice_range c.self.inside.literals.items (start_at 0 ends (c.args.i - 1))
    (get_or ends (c.args.i - 1) 0)) c.as_slice-ends.ensures.value
    ∙ sym (clause-stored s (c.args.i - 1) place)
