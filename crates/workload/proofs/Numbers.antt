-- The number of a domino: how many come before it.
use Rattle.std.proofs.Common.{◌≡◌, ℕ, zero, suc, ◌+◌, ◌-◌, ◌<◌, ◌≤◌, Bool, true, false, ◌&&◌, ◌||◌, cond, List, [], ◌∷◌, ◌++◌, length, refl}
use Rattle.std.proofs.Common.{sym, ◌∙◌, ap, append_assoc, arith, inl, inr, eq-eqb, ne_eqb, length-append}
use Rattle.std.specs.Prelude.{map, ◌==◌, not}
use Rattle.std.specs.List.{filter, flat_map, list_any, position_or_len}
use Rattle.std.proofs.lemmas.Bool.{cases_eq, or_from, and_from, and_parts}
use Rattle.std.proofs.lemmas.List.{map-append, append-nil}
use Rattle.std.proofs.lemmas.Grind.{flat_map-append}
use Rattle.cnf_base.specs.Order.{natural}
use Rattle.workload.specs.declared.square.Square.{Square}
use Rattle.workload.specs.declared.square.Domino.{Domino}
use Rattle.workload.specs.declared.square.Domino.TheVariants.{Across, Down}
use Rattle.workload.specs.Board.{square, stays, front_of_row, row_squares, squares, is_domino, dominoes_at, dominoes, is_same_square}
use Rattle.workload.specs.Board.{is_same, number}
use Rattle.workload.specs.Schedule.{squares_before}
use Rattle.workload.proofs.Steps.{filter_append}
use Rattle.workload.proofs.Squares.{Stays, it_stays, is_there, past_right}
use Rattle.workload.proofs.Counts.{before}

-- the numbers up to one, cut at one of them
pub record Cut (n k : ℕ) : Type 0 where
  pub more : List ℕ
  pub parts : natural n ≡ natural (k - 1) ++ k ∷ more

pub cut : (n k : ℕ) → 1 ≤ k → k ≤ n → Cut n k
cut zero k a b = absurd (omega (arith, a, b))
cut (suc n) k a b =
    elim (cases_eq k (suc n)) [
      | inl same ↦
          let less : k - 1 ≡ n = omega (arith, same) in
          record { more = []; parts = (λ i. natural (sym less i) ++ sym same i ∷ []) }
      | inr differ ↦
          let rest = cut n k a (omega (arith, b, differ)) in
          record {
            more = rest.more ++ suc n ∷ [];
            parts = ap (λ l. l ++ suc n ∷ []) rest.parts
                ∙ append_assoc (natural (k - 1)) (k ∷ rest.more) (suc n ∷ []);
          }
    ]

-- those that pass, cut at one of them
pub cut_passing : {X : Type 0} (p : X → Bool) (at : ℕ → X) (n k : ℕ) → 1 ≤ k → k ≤ n → p (at k) ≡ true
    → (more : List X) × (filter p (map at (natural n)) ≡ filter p (map at (natural (k - 1))) ++ at k ∷ more)
cut_passing p at n k a b passes =
    let piece = cut n k a b in
    let more = filter p (map at piece.more) in (
      more,
      ap (λ l. filter p (map at l)) piece.parts ∙ ap (filter p) (map-append at (natural (k - 1)) (k ∷ piece.more))
          ∙ filter_append p (map at (natural (k - 1))) (at k ∷ map at piece.more)
          ∙ ap (λ b. filter p (map at (natural (k - 1))) ++ cond b (at k ∷ more) more) passes,
    )

-- the squares that stay, cut at one of them
pub record CutSquares (n row column : ℕ) : Type 0 where
  pub more : List Square
  pub parts : squares n ≡ squares_before n (square row column) ++ square row column ∷ more

cut_row : (n row column : ℕ) → Stays n row column → stays n (square row column) ≡ true
    → (more : List Square) × (row_squares n row ≡ front_of_row n row (column - 1) ++ square row column ∷ more)
cut_row n row column s there = cut_passing (stays n) (λ c. square row c) n column s.column_from s.column_to there

pub cut_squares : (n row column : ℕ) → stays n (square row column) ≡ true → CutSquares n row column
cut_squares n row column there =
    let s = it_stays n row column there in
    let piece = cut n row s.row_from s.row_to in
    let own = cut_row n row column s there in
    let later : List Square = flat_map (row_squares n) piece.more in
    let above : List Square = flat_map (row_squares n) (natural (row - 1)) in
    let front : List Square = front_of_row n row (column - 1) in
    record {
      more = own.0 ++ later;
      parts = ap (flat_map (row_squares n)) piece.parts ∙ flat_map-append (row_squares n) (natural (row - 1)) (row ∷ piece.more)
          ∙ ap (λ (l : List Square). above ++ (l ++ later)) own.1
          ∙ ap (λ (l : List Square). above ++ l) (append_assoc front (square row column ∷ own.0) later)
          ∙ sym (append_assoc above front (square row column ∷ (own.0 ++ later)));
    }

-- a place behind those that don't pass
pub position_skip : {X : Type 0} (p : X → Bool) (xs ys : List X) → list_any p xs ≡ false → position_or_len p (xs ++ ys) ≡ length xs
    + position_or_len p ys
position_skip p [] ys none = omega arith
position_skip p (x ∷ xs) ys none =
    elim (p x) as (λ b. (b || list_any p xs) ≡ false → cond (not b) (1 + position_or_len p (xs ++ ys)) 0 ≡ length (x ∷ xs)
    + position_or_len p ys) [
      | true ↦ λ no. cc
      | false ↦ λ no. omega (arith, position_skip p xs ys no)
    ] none

list_any_append : {X : Type 0} (p : X → Bool) (xs ys : List X) → list_any p xs ≡ false → list_any p ys ≡ false → list_any p (xs ++ ys)
    ≡ false
list_any_append p [] ys a b = b
list_any_append p (x ∷ xs) ys a b =
    elim (p x) as (λ v. (v || list_any p xs) ≡ false → (v || list_any p (xs ++ ys)) ≡ false) [
      | true ↦ λ no. no
      | false ↦ λ no. list_any_append p xs ys no b
    ] a

-- dominoes at another square are others
and_false : (b : Bool) → (b && false) ≡ false
and_false true = refl
and_false false = refl

other_square : (s t : Square) → (s.row ≡ t.row → s.column ≡ t.column → ⊥) → is_same_square s t ≡ false
other_square s t differ =
    elim (cases_eq s.row t.row) [
      | inl row ↦ ap (λ b. (s.row == t.row) && b) (ne_eqb s.column t.column (differ row)) ∙ and_false (s.row == t.row)
      | inr row ↦ ap (λ b. b && (s.column == t.column)) (ne_eqb s.row t.row row)
    ]

-- the dominoes at some squares, tested
abbrev tested : ℕ → (Domino → Bool) → List Square → Bool
tested n p some = list_any p (flat_map (dominoes_at n) some)

tested_down : (n : ℕ) (p : Domino → Bool) (t : Square) → p (Down t) ≡ false → list_any p (filter (is_domino n) (Down t ∷ [])) ≡ false
tested_down n p t d =
    elim (is_domino n (Down t)) as (λ x. list_any p (cond x (Down t ∷ []) []) ≡ false) [
      | true ↦ or_from (p (Down t)) false d refl
      | false ↦ refl
    ]

tested_one : (n : ℕ) (p : Domino → Bool) (t : Square) → p (Across t) ≡ false → p (Down t) ≡ false → list_any p (dominoes_at n t) ≡ false
tested_one n p t a d =
    elim (is_domino n (Across t)) as (λ x. list_any p (cond x (Across t
    ∷ filter (is_domino n) (Down t ∷ [])) (filter (is_domino n) (Down t ∷ []))) ≡ false) [
      | true ↦ or_from (p (Across t)) (list_any p (filter (is_domino n) (Down t ∷ []))) a (tested_down n p t d)
      | false ↦ tested_down n p t d
    ]

-- the test of being a domino at a square fails at another
pub record AtSquare (p : Domino → Bool) (s : Square) : Type 0 where
  pub across : (t : Square) → is_same_square s t ≡ false → p (Across t) ≡ false
  pub down : (t : Square) → is_same_square s t ≡ false → p (Down t) ≡ false

none_in_row : (n row k : ℕ) (p : Domino → Bool) (s : Square) → AtSquare p s
    → ((column : ℕ) → column ≤ k → s.row ≡ row → s.column ≡ column → ⊥) → tested n p (front_of_row n row k) ≡ false
none_in_row n row zero p s at apart = refl
none_in_row n row (suc k) p s at apart =
    let t : Square = square row (suc k) in
    let split : front_of_row n row (suc k) ≡ front_of_row n row k ++ filter (stays n) (t ∷ []) =
    ap (filter (stays n)) (map-append (λ column. square row column) (natural k) (suc k ∷ []))
    ∙ filter_append (stays n) (map (λ column. square row column) (natural k)) (t ∷ []) in
    let differs : is_same_square s t ≡ false = other_square s t (apart (suc k) (omega arith)) in
    let own : list_any p (dominoes_at n t) ≡ false = tested_one n p t (at.across t differs) (at.down t differs) in
    let last : tested n p (filter (stays n) (t ∷ [])) ≡ false =
    elim (stays n t) as (λ b. list_any p (flat_map (dominoes_at n) (cond b (t ∷ []) [])) ≡ false) [
      | true ↦ ap (list_any p) (append-nil (dominoes_at n t)) ∙ own
      | false ↦ refl
    ] in
    ap (tested n p) split ∙ ap (list_any p) (flat_map-append (dominoes_at n) (front_of_row n row k) (filter (stays n) (t ∷ [])))
    ∙ list_any_append p (flat_map (dominoes_at n) (front_of_row n row k)) (flat_map (dominoes_at n) (filter (stays n) (t ∷ [])))
    (none_in_row n row k p s at (λ column small. apart column (omega (arith, small)))) last

none_in_rows : (n k : ℕ) (p : Domino → Bool) (s : Square) → AtSquare p s → k < s.row → tested n p (flat_map (row_squares n) (natural k))
    ≡ false
none_in_rows n zero p s at above = refl
none_in_rows n (suc k) p s at above =
    let split : flat_map (row_squares n) (natural (suc k)) ≡ flat_map (row_squares n) (natural k) ++ row_squares n (suc k) =
    flat_map-append (row_squares n) (natural k) (suc k ∷ []) ∙ ap (λ l. flat_map (row_squares n) (natural k)
    ++ l) (append-nil (row_squares n (suc k))) in
    ap (tested n p) split ∙ ap (list_any p) (flat_map-append (dominoes_at n) (flat_map (row_squares n) (natural k)) (row_squares n (suc k)))
    ∙ list_any_append p (flat_map (dominoes_at n) (flat_map (row_squares n) (natural k))) (flat_map (dominoes_at n) (row_squares n (suc k)))
    (none_in_rows n k p s at (omega (arith, above))) (none_in_row n (suc k) n p s at (λ column small row c. omega (arith, row, above)))

none_before : (n row column : ℕ) (p : Domino → Bool) → 1 ≤ row → 1 ≤ column → AtSquare p (square row column)
    → tested n p (squares_before n (square row column)) ≡ false
none_before n row column p a b at =
    ap (list_any p) (flat_map-append (dominoes_at n) (flat_map (row_squares n) (natural (row - 1))) (front_of_row n row (column - 1)))
    ∙ list_any_append p (flat_map (dominoes_at n) (flat_map (row_squares n) (natural (row - 1))))
    (flat_map (dominoes_at n) (front_of_row n row (column - 1)))
    (none_in_rows n (row - 1) p (square row column) at (omega (arith, a)))
    (none_in_row n row (column - 1) p (square row column) at (λ c small r same. omega (arith, small, same, b)))

-- a domino's place is that behind the dominoes before its square
place : (n row column : ℕ) (p : Domino → Bool) → stays n (square row column) ≡ true → AtSquare p (square row column)
    → (more : List Domino) × (position_or_len p (dominoes n) ≡ before n row column
    + position_or_len p (dominoes_at n (square row column) ++ more))
place n row column p there at =
    let s = it_stays n row column there in
    let piece = cut_squares n row column there in
    let earlier : List Domino = flat_map (dominoes_at n) (squares_before n (square row column)) in
    let more : List Domino = flat_map (dominoes_at n) piece.more in (
      more,
      ap (λ l. position_or_len p (flat_map (dominoes_at n) l)) piece.parts
          ∙ ap (position_or_len p) (flat_map-append (dominoes_at n) (squares_before n (square row column)) (square row column ∷ piece.more))
          ∙ position_skip p earlier (dominoes_at n (square row column) ++ more) (none_before n row column p s.row_from s.column_from at),
    )

at_across : (s : Square) → AtSquare (is_same (Across s)) s
at_across s = record { across = λ t differ. differ; down = λ t differ. refl }

at_down : (s : Square) → AtSquare (is_same (Down s)) s
at_down s = record { across = λ t differ. refl; down = λ t differ. differ }

same_square : (s : Square) → is_same_square s s ≡ true
same_square s = ap (λ b. b && (s.column == s.column)) (eq-eqb s.row s.row refl) ∙ eq-eqb s.column s.column refl

pub number_across : (n row column : ℕ) → stays n (square row column) ≡ true → is_domino n (Across (square row column)) ≡ true
    → number n (Across (square row column)) ≡ before n row column + 1
unfolding number
number_across n row column there is =
    let s : Square = square row column in
    let at = place n row column (is_same (Across s)) there (at_across s) in
    let first : position_or_len (is_same (Across s)) (dominoes_at n s ++ at.0) ≡ 0 =
    ap (λ b. position_or_len (is_same (Across s)) (cond b (Across s
    ∷ filter (is_domino n) (Down s ∷ [])) (filter (is_domino n) (Down s ∷ [])) ++ at.0)) is
    ∙ ap (λ b. cond (not b) (1 + position_or_len (is_same (Across s)) (filter (is_domino n) (Down s ∷ []) ++ at.0)) 0) (same_square s) in
    omega (arith, at.1, first)

down_at : (s : Square) (more : List Domino) → position_or_len (is_same (Down s)) (Down s ∷ more) ≡ 0
down_at s more = ap (λ b. cond (not b) (1 + position_or_len (is_same (Down s)) more) 0) (same_square s)

pub number_down : (n row column : ℕ) → stays n (square row column) ≡ true → is_domino n (Down (square row column)) ≡ true
    → number n (Down (square row column)) ≡ before n row column + cond (is_domino n (Across (square row column))) 2 1
unfolding number
number_down n row column there is =
    let s : Square = square row column in
    let at = place n row column (is_same (Down s)) there (at_down s) in
    let p : Domino → Bool = is_same (Down s) in
    let own : filter (is_domino n) (Down s ∷ []) ≡ Down s ∷ [] = ap (λ b. cond b (Down s ∷ []) []) is in
    let first : position_or_len p (dominoes_at n s ++ at.0) + 1 ≡ cond (is_domino n (Across s)) 2 1 =
    elim (is_domino n (Across s)) as (λ b. position_or_len p (cond b (Across s
    ∷ filter (is_domino n) (Down s ∷ [])) (filter (is_domino n) (Down s ∷ [])) ++ at.0) + 1 ≡ cond b 2 1) [
      | true ↦ ap (λ l. 1 + position_or_len p (l ++ at.0) + 1) own ∙ ap (λ (k : ℕ). 1 + k + 1) (down_at s at.0)
      | false ↦ ap (λ l. position_or_len p (l ++ at.0) + 1) own ∙ ap (λ (k : ℕ). k + 1) (down_at s at.0)
    ] in
    omega (arith, at.1, first)

-- a square with a domino down has one across, but in the last column
pub across_too : (n row column : ℕ) → is_domino n (Down (square row column)) ≡ true → column < n → is_domino n (Across (square row column))
    ≡ true
across_too n row column is small =
    let both = and_parts (stays n (square row column)) (stays n (square (row + 1) column)) is in
    let s = it_stays n row column both.0 in
    let t = it_stays n (row + 1) column both.1 in
    and_from (stays n (square row column)) (stays n (square row (column + 1))) both.0
    (is_there n row (column + 1) s.row_from s.row_to (omega arith) (omega (arith, small)) (omega (arith, s.row_from, s.column_from))
    (omega (arith, t.row_to, small)))

pub across_not : (n row column : ℕ) → n ≤ column → is_domino n (Across (square row column)) ≡ false
across_not n row column past =
    ap (λ b. stays n (square row column) && b) (past_right n row (column + 1) (omega (arith, past)))
    ∙ and_false (stays n (square row column))

-- a domino's number is one of the variables
length_cut : (n row column : ℕ) → stays n (square row column) ≡ true → (rest : ℕ)
    × (length (dominoes n) ≡ before n row column + (length (dominoes_at n (square row column)) + rest))
length_cut n row column there =
    let piece = cut_squares n row column there in
    let earlier : List Domino = flat_map (dominoes_at n) (squares_before n (square row column)) in
    let own : List Domino = dominoes_at n (square row column) in
    let more : List Domino = flat_map (dominoes_at n) piece.more in (
      length more,
      ap (λ l. length (flat_map (dominoes_at n) l)) piece.parts
          ∙ ap length (flat_map-append (dominoes_at n) (squares_before n (square row column)) (square row column ∷ piece.more))
          ∙ length-append earlier (own ++ more) ∙ ap (λ (k : ℕ). before n row column + k) (length-append own more),
    )

own_count : (n : ℕ) (s : Square) → length (dominoes_at n s) ≡ cond (is_domino n (Across s)) 1 0 + cond (is_domino n (Down s)) 1 0
own_count n s =
    elim (is_domino n (Across s)) as (λ a. length (cond a (Across s
    ∷ filter (is_domino n) (Down s ∷ [])) (filter (is_domino n) (Down s ∷ []))) ≡ cond a 1 0 + cond (is_domino n (Down s)) 1 0) [
      | true ↦ elim (is_domino n (Down s)) as (λ d. length (Across s ∷ cond d (Down s ∷ []) []) ≡ 1
          + cond d 1 0) [ true ↦ refl | false ↦ refl ]
      | false ↦ elim (is_domino n (Down s)) as (λ d. length (cond d (Down s ∷ []) []) ≡ 0 + cond d 1 0) [ true ↦ refl | false ↦ refl ]
    ]

pub number_within : (n : ℕ) (d : Domino) → is_domino n d ≡ true → (0 < number n d) × (number n d ≤ length (dominoes n))
number_within n (Across s) is =
    let there = (and_parts (stays n s) (stays n (square s.row (s.column + 1))) is).0 in
    let size = length_cut n s.row s.column there in
    let own : length (dominoes_at n s) ≡ 1 + cond (is_domino n (Down s)) 1 0 = own_count n s
    ∙ ap (λ b. cond b 1 0 + cond (is_domino n (Down s)) 1 0) is in
    let value = number_across n s.row s.column there is in
    (omega (arith, value), omega (arith, value, size.1, own))
number_within n (Down s) is =
    let there = (and_parts (stays n s) (stays n (square (s.row + 1) s.column)) is).0 in
    let size = length_cut n s.row s.column there in
    let own : length (dominoes_at n s) ≡ cond (is_domino n (Across s)) 1 0 + 1 = own_count n s
    ∙ ap (λ b. cond (is_domino n (Across s)) 1 0 + cond b 1 0) is in
    let value = number_down n s.row s.column there is in
    let more : cond (is_domino n (Across s)) 2 1 ≡ cond (is_domino n (Across s)) 1 0 + 1 =
    elim (is_domino n (Across s)) as (λ b. cond b 2 1 ≡ cond b 1 0 + 1) [ true ↦ refl | false ↦ refl ] in (
      elim (is_domino n (Across s)) as (λ b. number n (Down s) ≡ before n s.row s.column + cond b 2 1 → 0
          < number n (Down s)) [ true ↦ λ v. omega (arith, v) | false ↦ λ v. omega (arith, v) ] value,
      omega (arith, value, size.1, own, more),
    )

-- a column, cut at a square that stays
pub cut_column : (n row column : ℕ) → stays n (square row column) ≡ true
    → (more : List Square) × (filter (stays n) (map (λ r. square r column) (natural n))
    ≡ filter (stays n) (map (λ r. square r column) (natural (row - 1))) ++ square row column ∷ more)
cut_column n row column there =
    let s = it_stays n row column there in
    let at : ℕ → Square = λ r. square r column in
    let piece = cut n row s.row_from s.row_to in (
      filter (stays n) (map at piece.more),
      ap (λ l. filter (stays n) (map at l)) piece.parts ∙ ap (filter (stays n)) (map-append at (natural (row - 1)) (row ∷ piece.more))
          ∙ filter_append (stays n) (map at (natural (row - 1))) (square row column ∷ map at piece.more)
          ∙ ap (λ b. filter (stays n) (map at (natural (row - 1)))
          ++ cond b (square row column ∷ filter (stays n) (map at piece.more)) (filter (stays n) (map at piece.more))) there,
    )
