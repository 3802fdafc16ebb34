-- How many dominoes some squares have.
use Rattle.std.proofs.Common.{◌≡◌, ℕ, zero, suc, ◌+◌, ◌-◌, ◌*◌, ◌<◌, ◌≤◌, true, false, [], ◌∷◌, ◌++◌, length, refl, sym, ◌∙◌, ap, arith}
use Rattle.std.proofs.Common.{inl, inr, length-append}
use Rattle.std.specs.Prelude.{map}
use Rattle.std.proofs.Math.Nat.{suc-mul, mul-suc, mul_comm}
use Rattle.std.specs.List.{filter, flat_map}
use Rattle.std.proofs.lemmas.Bool.{cases_lt}
use Rattle.std.proofs.lemmas.List.{map-append, append-nil}
use Rattle.std.proofs.lemmas.Grind.{flat_map-append}
use Rattle.cnf_base.specs.Order.{natural}
use Rattle.workload.specs.Board.{square, stays, front_of_row, row_squares, dominoes_at, dominoes}
use Rattle.workload.specs.Schedule.{squares_before}
use Rattle.workload.proofs.Steps.{filter_append}
use Rattle.workload.proofs.Squares.{Stays, alone, length_alone, is_there, past_right, past_last, first_out, last_out}

abbrev pub front : ℕ → ℕ → ℕ → ℕ
front n row columns = length (flat_map (dominoes_at n) (front_of_row n row columns))

front_next : (n row k : ℕ) → front n row (suc k) ≡ front n row k + length (alone n row (suc k))
front_next n row k =
    let split : front_of_row n row (suc k) ≡ front_of_row n row k ++ filter (stays n) (square row (suc k) ∷ []) =
    ap (filter (stays n)) (map-append (λ column. square row column) (natural k) (suc k ∷ []))
    ∙ filter_append (stays n) (map (λ column. square row column) (natural k)) (square row (suc k) ∷ []) in
    ap (λ l. length (flat_map (dominoes_at n) l)) split ∙ ap length
    (flat_map-append (dominoes_at n) (front_of_row n row k) (filter (stays n) (square row (suc k) ∷ [])))
    ∙ length-append (flat_map (dominoes_at n) (front_of_row n row k)) (alone n row (suc k))

-- a square with both dominoes
both : (n row column : ℕ) → 1 ≤ row → row < n → 1 ≤ column → column < n → 2 < row + column → row + column + 1 < n + n
    → length (alone n row column) ≡ 2
both n row column a b c d e f =
    length_alone n row column true true true (is_there n row column a (omega (arith, b)) c (omega (arith, d)) e (omega (arith, b, d)))
    (is_there n row (column + 1) a (omega (arith, b)) (omega arith) (omega (arith, d)) (omega (arith, e)) (omega (arith, f)))
    (is_there n (row + 1) column (omega arith) (omega (arith, b)) c (omega (arith, d)) (omega (arith, e)) (omega (arith, f)))

-- rows but the first and the last
pub front_inner : (n row k : ℕ) → 1 < row → row < n → k < n → front n row k ≡ 2 * k
front_inner n row zero a b c = refl
front_inner n row (suc k) a b c =
    omega (
      arith,
      front_next n row k,
      front_inner n row k a b (omega (arith, c)),
      both n row (suc k) (omega (arith, a)) b (omega arith) c (omega (arith, a)) (omega (arith, b, c)),
    )

-- the first row
pub front_first : (n k : ℕ) → k < n → 1 ≤ k → front n 1 k + 2 ≡ 2 * k
front_first n zero a b = absurd (omega (arith, b))
front_first n (suc zero) a b = omega (
  arith,
  front_next n 1 0,
  length_alone n 1 1 false (stays n (square 1 2)) (stays n (square 2 1))
      (first_out n) refl refl,
)
front_first n (suc (suc k)) a b =
    omega (
      arith,
      front_next n 1 (suc k),
      front_first n (suc k) (omega (arith, a)) (omega arith),
      both n 1 (suc (suc k)) (omega arith) (omega (arith, a)) (omega arith) a (omega arith) (omega (arith, a)),
    )

-- the last row
pub front_last : (n k : ℕ) → 2 ≤ n → k + 1 < n → front n n k ≡ k
front_last n zero a b = refl
front_last n (suc k) a b =
    let one : length (alone n n (suc k)) ≡ 1 =
    length_alone n n (suc k) true true false (is_there n n (suc k) (omega (arith, a)) (omega arith) (omega arith) (omega (arith, b))
    (omega (arith, a)) (omega (arith, b)))
    (is_there n n (suc k + 1) (omega (arith, a)) (omega arith) (omega arith) (omega (arith, b)) (omega (arith, a)) (omega (arith, b)))
    (past_last n (n + 1) (suc k) (omega arith)) in
    omega (arith, front_next n n k, front_last n k a (omega (arith, b)), one)

-- the last square of a row but the last one has a domino down alone, that above the last square none
corner : (n row : ℕ) → 1 ≤ row → row + 1 < n → length (alone n row n) ≡ 1
corner n row a b =
    length_alone n row n true false true (is_there n row n a (omega (arith, b)) (omega (arith, b)) (omega arith) (omega (arith, a, b))
    (omega (arith, b)))
    (past_right n row (n + 1) (omega arith))
    (is_there n (row + 1) n (omega arith) (omega (arith, b)) (omega (arith, b)) (omega arith) (omega (arith, a, b)) (omega (arith, b)))

no_corner : (n row : ℕ) → 1 ≤ row → row + 1 ≡ n → length (alone n row n) ≡ 0
no_corner n row a b =
    length_alone n row n true false false (is_there n row n a (omega (arith, b)) (omega (arith, b)) (omega arith) (omega (arith, a, b))
    (omega (arith, b)))
    (past_right n row (n + 1) (omega arith)) (ap (λ (r : ℕ). stays n (square r n)) b ∙ last_out n)

-- the rows above
abbrev pub rows : ℕ → ℕ → ℕ
rows n k = length (flat_map (dominoes_at n) (flat_map (row_squares n) (natural k)))

rows_next : (n k : ℕ) → rows n (suc k) ≡ rows n k + front n (suc k) n
rows_next n k =
    let split : flat_map (row_squares n) (natural (suc k)) ≡ flat_map (row_squares n) (natural k) ++ row_squares n (suc k) =
    flat_map-append (row_squares n) (natural k) (suc k ∷ []) ∙ ap (λ l. flat_map (row_squares n) (natural k)
    ++ l) (append-nil (row_squares n (suc k))) in
    ap (λ l. length (flat_map (dominoes_at n) l)) split ∙ ap length
    (flat_map-append (dominoes_at n) (flat_map (row_squares n) (natural k)) (row_squares n (suc k)))
    ∙ length-append (flat_map (dominoes_at n) (flat_map (row_squares n) (natural k))) (flat_map (dominoes_at n) (row_squares n (suc k)))

-- whole rows: the first one, one within, and the one above the last
whole : (n row : ℕ) → 1 ≤ n → front n row n ≡ front n row (n - 1) + length (alone n row n)
whole n row a =
    let one_more : n ≡ suc (n - 1) = omega arith in
    ap (front n row) one_more ∙ front_next n row (n - 1) ∙ ap (λ (k : ℕ). front n row (n - 1) + length (alone n row k)) (sym one_more)

inner_row : (n row : ℕ) → 1 < row → row + 1 < n → front n row n ≡ 2 * n - 1
inner_row n row a b = omega (
  arith,
  whole n row (omega (arith, b)),
  front_inner n row (n - 1) a (omega (arith, b)) (omega (arith, b)),
  corner n row (omega (arith, a)) b,
)

lower_row : (n row : ℕ) → 1 < row → row + 1 ≡ n → front n row n ≡ 2 * n - 2
lower_row n row a b = omega (
  arith,
  whole n row (omega (arith, b)),
  front_inner n row (n - 1) a (omega (arith, b)) (omega (arith, b)),
  no_corner n row (omega (arith, a)) b,
)

first_row : (n : ℕ) → 2 < n → front n 1 n + 2 ≡ 2 * n - 1
first_row n b = omega (
  arith,
  whole n 1 (omega (arith, b)),
  front_first n (n - 1) (omega (arith, b)) (omega (arith, b)),
  corner n 1 (omega arith) (omega (arith, b)),
)

first_of_two : front 2 1 2 ≡ 0
first_of_two = omega (
  arith,
  whole 2 1 (omega arith),
  front_first 2 1 (omega arith) (omega arith),
  no_corner 2 1 (omega arith) (omega arith),
)

upper_rows : (n k : ℕ) → suc k + 1 < n → rows n (suc k) + 2 ≡ suc k * (2 * n - 1)
upper_rows n zero b = omega (arith, rows_next n 0, first_row n (omega (arith, b)), suc-mul 0 (2 * n - 1))
upper_rows n (suc k) b =
    omega (
      arith,
      rows_next n (suc k),
      upper_rows n k (omega (arith, b)),
      inner_row n (suc (suc k)) (omega arith) (omega (arith, b)),
      suc-mul (suc k) (2 * n - 1),
    )

all_but_last : (n k : ℕ) → suc k + 1 ≡ n → rows n (suc k) + 3 ≡ suc k * (2 * n - 1)
all_but_last n zero b =
    let two : n ≡ 2 = omega (arith, b) in
    let none : front n 1 n ≡ 0 = ap (λ (m : ℕ). front m 1 m) two ∙ first_of_two in
    omega (arith, rows_next n 0, none, two, suc-mul 0 (2 * n - 1))
all_but_last n (suc k) b =
    omega (
      arith,
      rows_next n (suc k),
      upper_rows n k (omega (arith, b)),
      lower_row n (suc (suc k)) (omega arith) (omega (arith, b)),
      suc-mul (suc k) (2 * n - 1),
    )

-- the dominoes at the squares before a square
abbrev pub before : ℕ → ℕ → ℕ → ℕ
before n row column = length (flat_map (dominoes_at n) (squares_before n (square row column)))

before_is : (n row column : ℕ) → before n row column ≡ rows n (row - 1) + front n row (column - 1)
before_is n row column =
    ap length (flat_map-append (dominoes_at n) (flat_map (row_squares n) (natural (row - 1))) (front_of_row n row (column - 1)))
    ∙ length-append (flat_map (dominoes_at n) (flat_map (row_squares n) (natural (row - 1))))
    (flat_map (dominoes_at n) (front_of_row n row (column - 1)))

before_at : (n k column : ℕ) → before n (suc k) column ≡ rows n k + front n (suc k) (column - 1)
before_at n k column =
    let less : suc k - 1 ≡ k = omega arith in
    before_is n (suc k) column ∙ ap (λ (j : ℕ). rows n j + front n (suc k) (column - 1)) less

product : (k x : ℕ) → (suc k - 1) * x ≡ k * x
product k x =
    let less : suc k - 1 ≡ k = omega arith in
    ap (λ (j : ℕ). j * x) less

pub before_upper : (n row column : ℕ) → Stays n row column → row < n → before n row column + 2 ≡ (row - 1) * (2 * n - 1) + 2 * (column - 1)
before_upper n zero column there b = absurd (omega (arith, there.row_from))
before_upper n (suc zero) column there b =
    let second : 2 ≤ column = elim (cases_lt 1 column) [
      | inl far ↦ far
      | inr near ↦ absurd
          (there.not_first refl (omega (arith, near, there.column_from)))
    ] in
    omega (arith, before_is n 1 column, front_first n (column - 1) (omega (arith, there.column_to, second)) (omega (arith, second)))
before_upper n (suc (suc k)) column there b =
    omega (
      arith,
      product (suc k) (2 * n - 1),
      before_at n (suc k) column,
      upper_rows n k (omega (arith, b)),
      front_inner n (suc (suc k)) (column - 1) (omega arith) b (omega (arith, there.column_to, there.column_from)),
    )

pub before_last : (n column : ℕ) → Stays n n column → before n n column + 3 ≡ (n - 1) * (2 * n - 1) + (column - 1)
before_last zero column there = absurd (omega (arith, there.row_from))
before_last (suc zero) column there = absurd (there.not_first refl (omega (arith, there.column_from, there.column_to)))
before_last (suc (suc k)) column there =
    let n : ℕ = suc (suc k) in
    let short : column < n = elim (cases_lt column n) [
      | inl near ↦ near
      | inr far ↦ absurd
          (there.not_last refl (omega (arith, far, there.column_to)))
    ] in
    omega (
      arith,
      product (suc k) (2 * n - 1),
      before_at n (suc k) column,
      all_but_last n k (omega arith),
      front_last n (column - 1) (omega arith) (omega (arith, short, there.column_from)),
    )

-- all dominoes
pub all_dominoes : (n : ℕ) → 2 ≤ n → length (dominoes n) ≡ 2 * n * (n - 1) - 4
all_dominoes zero a = absurd (omega (arith, a))
all_dominoes (suc zero) a = absurd (omega (arith, a))
all_dominoes (suc (suc k)) a =
    let n : ℕ = suc (suc k) in
    let side : length (alone n n (suc k)) ≡ 0 =
    length_alone n n (suc k) true false false (is_there n n (suc k) (omega arith) (omega arith) (omega arith) (omega arith) (omega arith)
    (omega arith))
    (ap (λ (c : ℕ). stays n (square n c)) (let e : suc k + 1 ≡ n = omega arith in e)
    ∙ last_out n) (past_last n (n + 1) (suc k) (omega arith)) in
    let end : length (alone n n n) ≡ 0 = length_alone n n n false (stays n (square n (n + 1))) (stays n (square (n + 1) n))
    (last_out n) refl refl in
    let product : 2 * n * (n - 1) ≡ suc k * (2 * n - 1) + suc k =
    ap (λ (j : ℕ). 2 * n * j) (let e : n - 1 ≡ suc k = omega arith in e) ∙ mul_comm (2 * n) (suc k)
    ∙ ap (λ (j : ℕ). suc k * j) (let e : 2 * n ≡ suc (2 * n - 1) = omega arith in e) ∙ mul-suc (suc k) (2 * n - 1) in
    omega (
      arith,
      rows_next n (suc k),
      all_but_last n k (omega arith),
      front_next n n (suc k),
      front_next n n k,
      front_last n k (omega arith) (omega arith),
      side,
      end,
      product,
    )
