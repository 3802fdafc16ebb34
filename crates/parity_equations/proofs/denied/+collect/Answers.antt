-- What is left to show of `collect`.
use Rattle.std.proofs.Common.{◌≡◌, ◌∙◌, ◌≤◌, ℕ, pos, neg_ℤ, List, [], drop, take, set, ap, refl, subst, arith}
use Rattle.std.proofs.Common.{w32}
use Rattle.std.specs.Prelude.{slice_index_or}
use Rattle.std.proofs.lemmas.Int.{to_z-of_z}
use Rattle.std.proofs.lemmas.List.{drop_all}
use Rattle.parity_equations.specs.Denied.{CollectsAll, numbers_under}
use Rattle.parity_equations.specs.Equations.{denied}
use Rattle.parity_equations.proofs.Collected.{collects_both_ok, collects_none, collects_same, end_numbers, next_begun_by, small_variable, split_numbers}
use Rattle.parity_equations.proofs.denied.+collect.Goals as goal

pub returns-then-place-variables : goal.returns-then-place-variables
returns-then-place-variables t c =
    let variables = c.args.variables.now in
    let place = c.args.place in
    let end : drop place variables ≡ [] = drop_all place variables (omega (arith, c.if-place-variables.true)) in
    let small : place ≤ 8 = (let few = c.requires.few in let within = c.requires.place in omega (arith, few, within)) in
    collects_same c.push_number.result _ _ c.args.numbers.now.items c.push_number.new.numbers.items
    (ap (λ (l : List ℕ). numbers_under c.args.index.now (take place c.args.key) (denied c.args.bit l)) end
    ∙ end_numbers c.args.index.now place c.args.key c.args.bit small c.requires.begun) c.push_number.ensures

pub positive-requires : goal.positive-requires
positive-requires t c =
    small_variable c.args.variables.now c.args.place 0 c.requires.variables (omega (arith, c.requires.place, c.if-place-variables.false))

pub negative-requires : goal.negative-requires
negative-requires t c =
    small_variable c.args.variables.now c.args.place 0 c.requires.variables (omega (arith, c.requires.place, c.if-place-variables.false))

pub with_next-first-requires : goal.with_next-first-requires
with_next-first-requires t c = omega (arith, c.requires.few, c.requires.place, c.if-place-variables.false)

pub with_next-second-requires : goal.with_next-second-requires
with_next-second-requires t c = omega (arith, c.requires.few, c.requires.place, c.if-place-variables.false)

pub collect-requires : goal.collect-requires
collect-requires t c = (
  omega (arith, c.decreases, c.requires.place, c.if-place-variables.false),
  (
    c.requires.few,
    (
      c.requires.variables,
      (
        omega (arith, c.requires.place, c.if-place-variables.false),
        next_begun_by c.args.place c.args.key (pos (slice_index_or c.args.variables.now c.args.place 0)) c.with_next-first.result
            (omega (arith, c.requires.few, c.requires.place, c.if-place-variables.false)) c.requires.begun
            (c.with_next-first.ensures ∙ ap (set c.args.key c.args.place) (to_z-of_z w32 c.positive.result
            (record { sfits = c.positive.type_inv })
            ∙ c.positive.ensures)),
      ),
    ),
  ),
)

pub collect-requires-2 : goal.collect-requires-2
collect-requires-2 t c = (
  omega (arith, c.decreases, c.requires.place, c.if-place-variables.false),
  (
    c.requires.few,
    (
      c.requires.variables,
      (
        omega (arith, c.requires.place, c.if-place-variables.false),
        next_begun_by c.args.place c.args.key (neg_ℤ (pos (slice_index_or c.args.variables.now c.args.place 0))) c.with_next-second.result
            (omega (arith, c.requires.few, c.requires.place, c.if-place-variables.false)) c.requires.begun
            (c.with_next-second.ensures ∙ ap (set c.args.key c.args.place) (to_z-of_z w32 c.negative.result
            (record { sfits = c.negative.type_inv })
            ∙ c.negative.ensures)),
      ),
    ),
  ),
)

pub returns-then-not-is_complete : goal.returns-then-not-is_complete
returns-then-not-is_complete t c =
    let variable = slice_index_or c.args.variables.now c.args.place 0 in
    split_numbers c.args.index.now c.args.variables.now c.args.place c.args.key c.with_next-first.result
    (set c.args.key c.args.place (neg_ℤ (pos variable))) variable c.args.bit
    (omega (arith, c.requires.place, c.if-place-variables.false))
    (omega (arith, c.requires.few, c.requires.place, c.if-place-variables.false)) c.requires.begun refl
    (c.with_next-first.ensures ∙ ap (set c.args.key c.args.place) (to_z-of_z w32 c.positive.result (record { sfits = c.positive.type_inv })
    ∙ c.positive.ensures)) refl
    ∙ collects_none _ _ c.args.numbers.now.items c.collect.new.numbers.items c.collect.new.numbers.items
    (subst (CollectsAll _ c.args.numbers.now.items c.collect.new.numbers.items) c.if-not-is_complete.true c.in_ok-is_complete.ensures)

pub returns : goal.returns
returns t c =
    let variable = slice_index_or c.args.variables.now c.args.place 0 in
    collects_same c.collect-2.result _ _ c.args.numbers.now.items c.collect-2.new.numbers.items
    (split_numbers c.args.index.now c.args.variables.now c.args.place c.args.key c.with_next-first.result c.with_next-second.result variable
    c.args.bit (omega (arith, c.requires.place, c.if-place-variables.false))
    (omega (arith, c.requires.few, c.requires.place, c.if-place-variables.false)) c.requires.begun refl
    (c.with_next-first.ensures ∙ ap (set c.args.key c.args.place) (to_z-of_z w32 c.positive.result (record { sfits = c.positive.type_inv })
    ∙ c.positive.ensures))
    (c.with_next-second.ensures ∙ ap (set c.args.key c.args.place) (to_z-of_z w32 c.negative.result (record { sfits = c.negative.type_inv })
    ∙ c.negative.ensures)))
    (collects_both_ok c.collect-2.result _ _ c.args.numbers.now.items c.collect.new.numbers.items c.collect-2.new.numbers.items
    (subst (CollectsAll _ c.args.numbers.now.items c.collect.new.numbers.items) c.if-not-is_complete.false c.in_ok-is_complete.ensures)
    c.collect-2.ensures)
