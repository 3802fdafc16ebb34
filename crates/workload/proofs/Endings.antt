-- The dominoes that end in a column.
use Rattle.std.proofs.Common.{◌≡◌, ℕ, zero, suc, ◌+◌, ◌-◌, ◌<◌, ◌≤◌, true, List, [], ◌∷◌, ◌++◌, length, refl, sym, ◌∙◌, ap, append_assoc}
use Rattle.std.proofs.Common.{arith, inl, inr, length-append}
use Rattle.std.specs.Prelude.{map, codes}
use Rattle.std.specs.List.{flat_map}
use Rattle.std.proofs.lemmas.Bool.{and_from, cases_lt}
use Rattle.std.proofs.lemmas.List.{map-append, append-nil, length-map}
use Rattle.std.proofs.lemmas.Grind.{flat_map-append}
use Rattle.cnf_base.specs.Order.{natural}
use Rattle.workload.specs.declared.square.Domino.{Domino}
use Rattle.workload.specs.declared.square.Domino.TheVariants.{Across, Down}
use Rattle.workload.specs.Board.{square, stays, is_domino, dominoes_of, number}
use Rattle.workload.specs.Schedule.{ending, quantifying}
use Rattle.workload.specs.declared.schedule.Way.{Way}
use Rattle.workload.specs.Texts.{spaced, command_line, letter_of}
use Rattle.workload.proofs.Steps.{filter_append, passing_next}
use Rattle.workload.proofs.Squares.{is_there}
use Rattle.workload.proofs.Numbers.{cut, cut_passing}

-- the numbers of some dominoes, as they are written
abbrev pub written : ℕ → List Domino → List ℕ
written n some = flat_map spaced (map (number n) (dominoes_of n some))

pub written_append : (n : ℕ) (some more : List Domino) → written n (some ++ more) ≡ written n some ++ written n more
written_append n some more =
    ap (λ l. flat_map spaced (map (number n) l)) (filter_append (is_domino n) some more)
    ∙ ap (flat_map spaced) (map-append (number n) (dominoes_of n some) (dominoes_of n more))
    ∙ flat_map-append spaced (map (number n) (dominoes_of n some)) (map (number n) (dominoes_of n more))

pub written_next : (n row : ℕ) (at : ℕ → Domino) → 0 < row → written n (map at (natural (row - 1))) ++ written n (at row ∷ [])
    ≡ written n (map at (natural (row + 1 - 1)))
written_next n row at positive =
    sym (ap (λ l. flat_map spaced (map (number n) l)) (passing_next (is_domino n) at row positive)
    ∙ ap (flat_map spaced) (map-append (number n) (dominoes_of n (map at (natural (row - 1)))) (dominoes_of n (at row ∷ [])))
    ∙ flat_map-append spaced (map (number n) (dominoes_of n (map at (natural (row - 1))))) (map (number n) (dominoes_of n (at row ∷ []))))

pub written_cut : (n row : ℕ) (at : ℕ → Domino) → 1 ≤ row → row ≤ n → (more : List ℕ)
    × (written n (map at (natural n)) ≡ (written n (map at (natural (row - 1))) ++ written n (at row ∷ [])) ++ more)
written_cut n row at a b =
    let piece = cut n row a b in (
      written n (map at piece.more),
      ap (λ l. written n (map at l)) piece.parts ∙ ap (written n) (map-append at (natural (row - 1)) (row ∷ piece.more))
          ∙ written_append n (map at (natural (row - 1))) (at row ∷ map at piece.more)
          ∙ ap (λ (l : List ℕ). written n (map at (natural (row - 1))) ++ l) (written_append n (at row ∷ []) (map at piece.more))
          ∙ sym (append_assoc (written n (map at (natural (row - 1)))) (written n (at row ∷ [])) (written n (map at piece.more))),
    )

pub ending_written : (n column : ℕ) → flat_map spaced (ending n column)
    ≡ written n (map (λ row. Across (square row (column - 1))) (natural n)) ++ written n (map (λ row. Down (square row column)) (natural n))
ending_written n column =
    let lefts : List Domino = dominoes_of n (map (λ row. Across (square row (column - 1))) (natural n)) in
    let downs : List Domino = dominoes_of n (map (λ row. Down (square row column)) (natural n)) in
    ap (flat_map spaced) (map-append (number n) lefts downs) ∙ flat_map-append spaced (map (number n) lefts) (map (number n) downs)

-- from 3 rows on each column has one
there_is : (n k : ℕ) (at : ℕ → Domino) → 1 ≤ k → k ≤ n → is_domino n (at k) ≡ true → 0 < length (dominoes_of n (map at (natural n)))
there_is n k at a b is =
    let piece = cut_passing (is_domino n) at n k a b is in
    let front : List Domino = dominoes_of n (map at (natural (k - 1))) in
    omega (arith, ap length piece.1, length-append front (at k ∷ piece.0))

some_down : (n column : ℕ) → 3 ≤ n → 1 ≤ column → column ≤ n → 0
    < length (dominoes_of n (map (λ row. Down (square row column)) (natural n)))
some_down n column a b c =
    elim (cases_lt column n) [
      | inl inner ↦ there_is n 2 (λ row. Down (square row column)) (omega arith) (omega (arith, a))
          (and_from (stays n (square 2 column)) (stays n (square 3 column))
          (is_there n 2 column (omega arith) (omega (arith, a)) b c (omega (arith, b)) (omega (arith, a, inner)))
          (is_there n 3 column (omega arith) a b c (omega (arith, b)) (omega (arith, a, inner))))
      | inr last ↦ there_is n 1 (λ row. Down (square row column)) (omega arith) (omega (arith, a))
          (and_from (stays n (square 1 column)) (stays n (square 2 column))
          (is_there n 1 column (omega arith) (omega (arith, a)) b c (omega (arith, a, last)) (omega (arith, a, c)))
          (is_there n 2 column (omega arith) (omega (arith, a)) b c (omega (arith, b)) (omega (arith, a, c))))
    ]

pub some_end : (n column : ℕ) → 3 ≤ n → 1 ≤ column → column ≤ n → 0 < length (ending n column)
some_end n column a b c =
    let lefts : List Domino = dominoes_of n (map (λ row. Across (square row (column - 1))) (natural n)) in
    let downs : List Domino = dominoes_of n (map (λ row. Down (square row column)) (natural n)) in
    omega (arith, length-map (lefts ++ downs) (number n), length-append lefts downs, some_down n column a b c)

pub quantify_line : (way : Way) (xs : List ℕ) → 0 < length xs
    → flat_map (command_line way) (quantifying xs) ≡ (letter_of way ++ flat_map spaced xs) ++ codes "\n"
quantify_line way [] a = absurd (omega (arith, a))
quantify_line way (x ∷ xs) a = append-nil ((letter_of way ++ flat_map spaced (x ∷ xs)) ++ codes "\n")

none_of_two : (column : ℕ) → 1 ≤ column → column ≤ 2 → ending 2 column ≡ []
unfolding stays
none_of_two zero a b = absurd (omega (arith, a))
none_of_two (suc zero) a b = refl
none_of_two (suc (suc zero)) a b = refl
none_of_two (suc (suc (suc k))) a b = absurd (omega (arith, b))

pub no_end : (way : Way) (n column : ℕ) → 2 ≤ n → n < 3 → 1 ≤ column → column ≤ n
    → flat_map (command_line way) (quantifying (ending n column)) ≡ []
no_end way n column a b c d =
    let two : n ≡ 2 = omega (arith, a, b) in
    ap (λ (m : ℕ). flat_map (command_line way) (quantifying (ending m column))) two
    ∙ ap (λ l. flat_map (command_line way) (quantifying l)) (none_of_two column c (omega (arith, d, two)))
