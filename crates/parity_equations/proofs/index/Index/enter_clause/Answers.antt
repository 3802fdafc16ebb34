-- What is left to show of `enter_clause`.
use Rattle.std.proofs.Common.{◌≡◌, ◌∙◌, ℤ, List, length, ap, sym, arith}
use Rattle.std.specs.Bool.{then_some}
use Rattle.std.specs.Cmp.Lexicographic.{pointwise}
use Rattle.std.specs.Option.{option_or}
use Rattle.std.specs.Ordering.{int_eq}
use Rattle.std.proofs.lemmas.Result.{on_ok_weaker}
use Rattle.parity_equations.specs.Index.{number_of, padded}
use Rattle.parity_equations.specs.LiteralSet.{literal_set}
use Rattle.parity_equations.proofs.Keys.{alone, alone_refused, none_or}
use Rattle.parity_equations.proofs.Walked.{few_variables}
use Rattle.parity_equations.proofs.index.Index.enter_clause.Goals as goal

pub returns-in-None : goal.returns-in-None
returns-in-None c key =
    sym (ap (option_or (number_of c.args.self.now key)) (alone_refused c.args.number c.args.clause.now key c.in-None.ensures)
    ∙ none_or (number_of c.args.self.now key))

pub key_of-requires : goal.key_of-requires
key_of-requires c =
    omega (arith, ap length c.in-Some.ensures.1, few_variables c.args.clause.now c.in-Some.ensures.0, ap length c.as_slice.ensures.value)

pub returns-in-Some : goal.returns-in-Some
returns-in-Some c =
    let own : c.key_of.result ≡ padded (literal_set c.args.clause.now) =
    c.key_of.ensures ∙ ap padded (c.as_slice.ensures.value ∙ c.in-Some.ensures.1) in
    on_ok_weaker c.enter.result (λ entered key. entered key
    ∙ ap (option_or (number_of c.args.self.now key)) (ap (λ (l : List ℤ). then_some (pointwise int_eq l key) c.args.number) own
    ∙ sym (alone c.args.number c.args.clause.now key c.in-Some.ensures.0))) c.enter.ensures
