-- Two dominoes of the same number are the same.
use Rattle.std.proofs.Common.{◌≡◌, ℕ, true, get_or, sym, ◌∙◌, ap, arith}
use Rattle.std.specs.Prelude.{◌==◌}
use Rattle.std.specs.List.{position_or_len}
use Rattle.std.proofs.lemmas.Bool.{and_parts, eqb-true}
use Rattle.std.proofs.lemmas.List.Sums.{passes_at_first}
use Rattle.workload.specs.declared.square.Square.{Square}
use Rattle.workload.specs.declared.square.Domino.{Domino}
use Rattle.workload.specs.declared.square.Domino.TheVariants.{Across, Down}
use Rattle.workload.specs.Board.{square, is_domino, dominoes, is_same_square, is_same, number}
use Rattle.workload.proofs.Numbers.{number_within}

equal_squares : (s t : Square) → is_same_square s t ≡ true → s ≡ t
equal_squares s t same =
    let both = and_parts (s.row == t.row) (s.column == t.column) same in
    let rows : s.row ≡ t.row = eqb-true s.row t.row both.0 in
    let columns : s.column ≡ t.column = eqb-true s.column t.column both.1 in
    (λ i. square (rows i) (columns i))

equal_dominoes : (d e : Domino) → is_same d e ≡ true → d ≡ e
equal_dominoes (Across s) (Across t) same = ap (λ x. Across x) (equal_squares s t same)
equal_dominoes (Across s) (Down t) same = absurd cc
equal_dominoes (Down s) (Across t) same = absurd cc
equal_dominoes (Down s) (Down t) same = ap (λ x. Down x) (equal_squares s t same)

-- a domino stands at its number
stands_there : (n : ℕ) (d default : Domino) → is_domino n d ≡ true → d
    ≡ get_or (dominoes n) (position_or_len (is_same d) (dominoes n)) default
unfolding number
stands_there n d default is =
    let within = number_within n d is in
    equal_dominoes d (get_or (dominoes n) (position_or_len (is_same d) (dominoes n)) default)
    (passes_at_first (is_same d) (dominoes n) default (omega (arith, within.1)))

pub number_injective : (n : ℕ) (d e : Domino) → is_domino n d ≡ true → is_domino n e ≡ true → number n d ≡ number n e → d ≡ e
unfolding number
number_injective n d e is other same =
    let places : position_or_len (is_same d) (dominoes n) ≡ position_or_len (is_same e) (dominoes n) = omega (arith, same) in
    stands_there n d d is ∙ ap (λ (k : ℕ). get_or (dominoes n) k d) places ∙ sym (stands_there n e d other)
