-- A clause that holds a domino that ends in a column stands in that column or in one before it.
use Rattle.std.proofs.Common.{◌≡◌, ℕ, ◌+◌, ◌-◌, ◌<◌, ◌≤◌, true, false, ◌⊎◌, cond, List, [], ◌∷◌, ◌++◌, length, refl, sym, ◌∙◌, ap, subst}
use Rattle.std.proofs.Common.{arith, inl, inr, ne_eqb, All, length-append}
use Rattle.std.specs.Prelude.{map}
use Rattle.std.specs.List.{filter, flat_map}
use Rattle.std.proofs.lemmas.Bool.{cases_eq, cases_lt}
use Rattle.std.proofs.lemmas.List.Elements.{All-head, All-tail, All-nil, All-cons, All-append}
use Rattle.std.proofs.lemmas.Grind.{flat_map-append}
use Rattle.cnf_base.specs.Order.{natural}
use Rattle.schedule_plan.specs.Plan.{clause_has, clause_of_number}
use Rattle.workload.specs.declared.square.Square.{Square}
use Rattle.workload.specs.declared.square.Domino.{Domino}
use Rattle.workload.specs.declared.square.Domino.TheVariants.{Across, Down}
use Rattle.workload.specs.Board.{square, stays, first_square, second_square, is_domino, dominoes, dominoes_of, number, column_squares}
use Rattle.workload.specs.Board.{square_clauses, board_clauses, board_formula}
use Rattle.workload.specs.Schedule.{clause_numbers, column_clauses, ending}
use Rattle.workload.proofs.Standing.{standing, standing_append}
use Rattle.workload.proofs.Steps.{filter_append}
use Rattle.workload.proofs.Squares.{it_stays, is_there}
use Rattle.workload.proofs.Numbers.{cut, cut_passing}
use Rattle.workload.proofs.Clauses.{numbers_within, length_clause_numbers}
use Rattle.workload.proofs.Injective.{number_injective}
use Rattle.workload.proofs.Places.{clause_stands}

-- a number that stands among those of some dominoes is that of one of them
record Numbered (n x : ℕ) (P : Domino → Type 0) : Type 0 where
  pub domino : Domino
  pub is : is_domino n domino ≡ true
  pub its : number n domino ≡ x
  pub holds : P domino

numbered : (n x : ℕ) (P : Domino → Type 0) (some : List Domino) → All P some → 0 < standing x (map (number n) (dominoes_of n some))
    → Numbered n x P
numbered n x P [] all there = absurd (omega (arith, there))
numbered n x P (d ∷ more) all there =
    elim (is_domino n d) as (λ b. is_domino n d ≡ b → 0 < standing x (map (number n) (cond b (d ∷ dominoes_of n more) (dominoes_of n more)))
    → Numbered n x P) [
      | true ↦ λ is own. elim (cases_eq (number n d) x) [
        | inl same ↦ record { domino = d; is = is; its = same; holds = All-head P d more all }
        | inr differ ↦ numbered n x P more (All-tail P d more all)
            (omega (arith, own, ap {B = ℕ} (λ b. cond b 1 0) (ne_eqb (number n d) x differ)))
      ]
      | false ↦ λ is later. numbered n x P more (All-tail P d more all) later
    ] refl there

-- a domino that covers a square
abbrev Covers : Square → Domino → Type 0
Covers s d = (first_square d ≡ s) ⊎ (second_square d ≡ s)

covering_cover : (s : Square) → 1 ≤ s.row → 1 ≤ s.column → All (Covers s) (Down (square (s.row - 1) s.column)
    ∷ Across (square s.row (s.column - 1)) ∷ Across s ∷ Down s ∷ [])
covering_cover s a b =
    let down : s.row - 1 + 1 ≡ s.row = omega (arith, a) in
    let right : s.column - 1 + 1 ≡ s.column = omega (arith, b) in
    All-cons (Covers s) (Down (square (s.row - 1) s.column)) (Across (square s.row (s.column - 1)) ∷ Across s ∷ Down s
    ∷ []) (inr (λ i. square (down i) s.column))
    (All-cons (Covers s) (Across (square s.row (s.column - 1))) (Across s ∷ Down s ∷ []) (inr (λ i. square s.row (right i)))
    (All-cons (Covers s) (Across s) (Down s ∷ []) (inl refl) (All-cons (Covers s) (Down s) [] (inl refl) (All-nil (Covers s)))))

-- a domino none of whose squares lies behind a column
record Ends (column : ℕ) (d : Domino) : Type 0 where
  pub first : (first_square d).column ≤ column
  pub second : (second_square d).column ≤ column

all_end : (column : ℕ) (at : ℕ → Domino) (rows : List ℕ) → ((row : ℕ) → Ends column (at row)) → All (Ends column) (map at rows)
all_end column at [] ends = All-nil (Ends column)
all_end column at (row ∷ rows) ends = All-cons (Ends column) (at row) (map at rows) (ends row) (all_end column at rows ends)

-- the candidates of a column
abbrev lefts : ℕ → ℕ → List Domino
lefts n column = map (λ row. Across (square row (column - 1))) (natural n)

abbrev downs : ℕ → ℕ → List Domino
downs n column = map (λ row. Down (square row column)) (natural n)

ending_is : (n column : ℕ) → ending n column ≡ map (number n) (dominoes_of n (lefts n column ++ downs n column))
ending_is n column = ap (map (number n)) (sym (filter_append (is_domino n) (lefts n column) (downs n column)))

ended : (n column x : ℕ) → 1 ≤ column → 0 < standing x (ending n column) → Numbered n x (Ends column)
ended n column x from there =
    numbered n x (Ends column) (lefts n column ++ downs n column)
    (All-append (Ends column) (lefts n column) (downs n column)
    (all_end column (λ row. Across (square row (column - 1))) (natural n)
    (λ row. record { first = omega arith; second = omega (arith, from) }))
    (all_end column (λ row. Down (square row column)) (natural n) (λ row. record { first = omega arith; second = omega arith })))
    (subst (λ l. 0 < standing x l) (ending_is n column) there)

one_of_all : (P : ℕ → Type 0) (x : ℕ) (xs : List ℕ) → All P xs → 0 < standing x xs → P x
one_of_all P x [] all there = absurd (omega (arith, there))
one_of_all P x (y ∷ ys) all there =
    elim (cases_eq y x) [
      | inl same ↦ subst P same (All-head P y ys all)
      | inr differ ↦ one_of_all P x ys (All-tail P y ys all) (omega (arith, there, ap {B = ℕ} (λ b. cond b 1 0) (ne_eqb y x differ)))
    ]

pub ending_within : (n column x : ℕ) → 0 < standing x (ending n column) → (0 < x) × (x ≤ length (dominoes n))
ending_within n column x there =
    one_of_all (λ y. (0 < y) × (y ≤ length (dominoes n))) x (map (number n) (dominoes_of n (lefts n column ++ downs n column)))
    (numbers_within n (lefts n column ++ downs n column)) (subst (λ l. 0 < standing x l) (ending_is n column) there)

-- a square that stays is one of its column's
abbrev front_of_column : ℕ → ℕ → ℕ → List Square
front_of_column n column rows = filter (stays n) (map (λ row. square row column) (natural rows))

in_column : (n row column : ℕ) → stays n (square row column) ≡ true
    → (rest : List Square) × (column_squares n column ≡ front_of_column n column (row - 1) ++ square row column ∷ rest)
in_column n row column there =
    let s = it_stays n row column there in
    cut_passing (stays n) (λ r. square r column) n row s.row_from s.row_to there

-- what stands in one part stands in the whole
in_flat : {X : Type 0} (f : X → List ℕ) (i : ℕ) (front rest : List X) (x : X) → 0 < standing i (f x) → 0
    < standing i (flat_map f (front ++ x ∷ rest))
in_flat f i front rest x there =
    omega (
      arith,
      ap (standing i) (flat_map-append f front (x ∷ rest)),
      standing_append i (flat_map f front) (f x ++ flat_map f rest),
      standing_append i (f x) (flat_map f rest),
      there,
    )

in_columns : (n i row column last : ℕ) → stays n (square row column) ≡ true → column ≤ last → 0
    < standing i (clause_numbers n (square row column))
    → 0 < standing i (flat_map (column_clauses n) (natural last))
in_columns n i row column last there small counted =
    let own = in_column n row column there in
    let piece = cut last column (it_stays n row column there).column_from small in
    let within : 0 < standing i (column_clauses n column) =
    subst (λ l. 0 < standing i (flat_map (clause_numbers n) l)) (sym own.1)
    (in_flat (clause_numbers n) i (front_of_column n column (row - 1)) own.0 (square row column) counted) in
    subst (λ l. 0 < standing i (flat_map (column_clauses n) l)) (sym piece.parts)
    (in_flat (column_clauses n) i (natural (column - 1)) piece.more column within)

-- a square that a domino covers lies no further on than the domino
no_further : (s : Square) (d e : Domino) (column : ℕ) → Covers s d → d ≡ e → Ends column e → s.column ≤ column
no_further s d e column covers same ends =
    elim covers [
      | inl first ↦ omega (arith, ap (λ (t : Square). t.column) first, ap (λ (t : Domino). (first_square t).column) same, ends.first)
      | inr second ↦ omega (arith, ap (λ (t : Square). t.column) second, ap (λ (t : Domino). (second_square t).column) same, ends.second)
    ]

pub ended_are_pushed : (n column x i : ℕ) → 1 ≤ column → column ≤ n → 0 < standing x (ending n column) → 0 < i → i
    ≤ length (board_clauses n)
    → clause_has x (clause_of_number (board_formula n) i) ≡ true → 0 < standing i (flat_map (column_clauses n) (natural column))
ended_are_pushed n column x i from to there positive small has =
    let place = clause_stands n i positive small in
    let s : Square = square place.row place.column in
    let stays = it_stays n place.row place.column place.stays in
    let d = numbered n x (Covers s) (Down (square (s.row - 1) s.column) ∷ Across (square s.row (s.column - 1)) ∷ Across s ∷ Down s ∷ [])
    (covering_cover s stays.row_from stays.column_from) (place.one_of_its x has) in
    let e = ended n column x from there in
    let same : d.domino ≡ e.domino = number_injective n d.domino e.domino d.is e.is (d.its ∙ sym e.its) in
    in_columns n i place.row place.column column place.stays (no_further s d.domino e.domino column d.holds same e.holds) place.counted

-- each column has a square that stays
has_clauses : (n row column : ℕ) → stays n (square row column) ≡ true → 0 < length (column_clauses n column)
unfolding square_clauses
has_clauses n row column there =
    let s : Square = square row column in
    let own = in_column n row column there in
    let front : List Square = front_of_column n column (row - 1) in
    let rest : List ℕ = flat_map (clause_numbers n) own.0 in
    let some : 0 < length (square_clauses n s) = omega arith in
    omega (
      arith,
      ap (λ l. length (flat_map (clause_numbers n) l)) own.1,
      ap length (flat_map-append (clause_numbers n) front (s ∷ own.0)),
      length-append (flat_map (clause_numbers n) front) (clause_numbers n s ++ rest),
      length-append (clause_numbers n s) rest,
      length_clause_numbers n s,
      some,
    )

pub some_clauses : (n column : ℕ) → 2 ≤ n → 1 ≤ column → column ≤ n → 0 < length (column_clauses n column)
some_clauses n column a b c =
    elim (cases_lt column n) [
      | inl inner ↦ has_clauses n 2 column (is_there n 2 column (omega arith) a b c (omega (arith, b)) (omega (arith, inner)))
      | inr last ↦ has_clauses n 1 column (is_there n 1 column (omega arith) (omega (arith, a)) b c (omega (arith, a, last))
          (omega (arith, a, c)))
    ]
