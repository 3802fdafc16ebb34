-- Which squares stay, in numbers.
use Rattle.std.proofs.Common.{◌≡◌, ℕ, ◌+◌, ◌<◌, ◌≤◌, Bool, true, false, cond, List, [], ◌∷◌, length, arith}
use Rattle.std.proofs.lemmas.Bool.Decides.{nat_tests}
use Rattle.std.specs.List.{filter, flat_map}
use Rattle.workload.specs.declared.square.Domino.{Domino}
use Rattle.workload.specs.Board.{square, stays, dominoes_at}

pub record Stays (n row column : ℕ) : Type 0 where
  pub row_from : 1 ≤ row
  pub row_to : row ≤ n
  pub column_from : 1 ≤ column
  pub column_to : column ≤ n
  pub not_first : row ≡ 1 → column ≡ 1 → ⊥
  pub not_last : row ≡ n → column ≡ n → ⊥

row_from : (n row column : ℕ) → stays n (square row column) ≡ true → 1 ≤ row
unfolding stays
row_from n row column h = grind (arith, nat_tests)

row_to : (n row column : ℕ) → stays n (square row column) ≡ true → row ≤ n
unfolding stays
row_to n row column h = grind (arith, nat_tests)

column_from : (n row column : ℕ) → stays n (square row column) ≡ true → 1 ≤ column
unfolding stays
column_from n row column h = grind (arith, nat_tests)

column_to : (n row column : ℕ) → stays n (square row column) ≡ true → column ≤ n
unfolding stays
column_to n row column h = grind (arith, nat_tests)

not_first : (n row column : ℕ) → stays n (square row column) ≡ true → row ≡ 1 → column ≡ 1 → ⊥
unfolding stays
not_first n row column h r c = grind (arith, nat_tests)

not_last : (n row column : ℕ) → stays n (square row column) ≡ true → row ≡ n → column ≡ n → ⊥
unfolding stays
not_last n row column h r c = grind (arith, nat_tests)

pub it_stays : (n row column : ℕ) → stays n (square row column) ≡ true → Stays n row column
it_stays n row column h = record {
  row_from = row_from n row column h;
  row_to = row_to n row column h;
  column_from = column_from n row column h;
  column_to = column_to n row column h;
  not_first = not_first n row column h;
  not_last = not_last n row column h;
}

pub is_there : (n row column : ℕ) → 1 ≤ row → row ≤ n → 1 ≤ column → column ≤ n → 2 < row + column → row + column < n + n
    → stays n (square row column) ≡ true
unfolding stays
is_there n row column a b c d e f = grind (arith, nat_tests)

pub past_right : (n row column : ℕ) → n < column → stays n (square row column) ≡ false
unfolding stays
past_right n row column a = grind (arith, nat_tests)

pub past_last : (n row column : ℕ) → n < row → stays n (square row column) ≡ false
unfolding stays
past_last n row column a = grind (arith, nat_tests)

pub first_out : (n : ℕ) → stays n (square 1 1) ≡ false
unfolding stays
first_out n = grind (arith, nat_tests)

pub last_out : (n : ℕ) → stays n (square n n) ≡ false
unfolding stays
last_out n = grind (arith, nat_tests)

-- the dominoes that a square adds, by which squares stay: itself, the one on its right and the one below
abbrev pub added : (a b d : Bool) → ℕ
added true b d = cond b 1 0 + cond d 1 0
added false b d = 0

-- a square alone
abbrev pub alone : ℕ → ℕ → ℕ → List Domino
alone n row column = flat_map (dominoes_at n) (filter (stays n) (square row column ∷ []))

pub length_alone : (n row column : ℕ) (a b d : Bool) → stays n (square row column) ≡ a → stays n (square row (column + 1)) ≡ b
    → stays n (square (row + 1) column) ≡ d
    → length (alone n row column) ≡ added a b d
length_alone n row column true true true p q r = simp (p, q, r)
length_alone n row column true true false p q r = simp (p, q, r)
length_alone n row column true false true p q r = simp (p, q, r)
length_alone n row column true false false p q r = simp (p, q, r)
length_alone n row column false b d p q r = simp p
