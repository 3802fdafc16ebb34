-- What is left to show of `number`.
use Rattle.std.proofs.Common.{◌≡◌, ℕ, ◌+◌, true, ap, ◌∙◌, sym, subst}
use Rattle.std.proofs.lemmas.Bool.{and_parts}
use Rattle.workload.specs.declared.square.Square.{Square}
use Rattle.workload.specs.declared.square.Domino.TheVariants.{Across}
use Rattle.workload.specs.Board.{square, stays, is_domino, number}
use Rattle.workload.proofs.Numbers.{number_across}
use Rattle.workload.proofs.square.number.Goals as goal

pub returns-in-Across-clause-value : goal.returns-in-Across-clause-value
returns-in-Across-clause-value c =
    let s : Square = c.in-Across.square in
    let is : is_domino c.args.n (Across s) ≡ true = subst (λ d. is_domino c.args.n d ≡ true) c.in-Across.is c.requires.there in
    let there = and_parts (stays c.args.n s) (stays c.args.n (square s.row (s.column + 1))) is in
    ap (λ (k : ℕ). k + 1) c.dominoes_before.ensures.value ∙ sym (number_across c.args.n s.row s.column there.0 is)
    ∙ ap (number c.args.n) (sym c.in-Across.is)
