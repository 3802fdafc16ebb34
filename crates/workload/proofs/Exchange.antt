-- What some squares weigh by rows they weigh by columns: a sum of sums may be taken in either order. So each number stands by
-- columns as often as by rows.
use Rattle.std.proofs.Common.{◌≡◌, ℕ, zero, suc, ◌+◌, Bool, true, false, cond, List, [], ◌∷◌, ◌++◌, length, refl, sym, ◌∙◌, ap, arith}
use Rattle.std.proofs.Common.{length-append}
use Rattle.std.specs.Prelude.{map}
use Rattle.std.specs.List.{filter, flat_map}
use Rattle.std.proofs.lemmas.List.{map-append, append-nil}
use Rattle.std.proofs.lemmas.Grind.{flat_map-append}
use Rattle.cnf_base.specs.Order.{natural}
use Rattle.workload.specs.declared.square.Square.{Square}
use Rattle.workload.specs.declared.square.Domino.TheVariants.{Across, Down}
use Rattle.workload.specs.Board.{square, stays, row_squares, squares, column_squares, is_domino, dominoes_at, dominoes, number}
use Rattle.workload.specs.Board.{board_clauses, down_first, column_order}
use Rattle.workload.specs.Schedule.{clause_numbers, column_clauses}
use Rattle.workload.proofs.Steps.{filter_append}
use Rattle.workload.proofs.Standing.{standing, standing_append}
use Rattle.workload.proofs.Rows.{map_flat, clauses_in_rows, dominoes_in_rows}

-- sums from 1 up to a number
abbrev total : (ℕ → ℕ) → ℕ → ℕ
total f zero = 0
total f (suc k) = total f k + f (suc k)

total_none : (k : ℕ) → total (λ j. 0) k ≡ 0
total_none zero = refl
total_none (suc k) = omega (arith, total_none k)

total_sum : (f g : ℕ → ℕ) (k : ℕ) → total (λ j. f j + g j) k ≡ total f k + total g k
total_sum f g zero = refl
total_sum f g (suc k) = omega (arith, total_sum f g k)

total_same : (f g : ℕ → ℕ) (k : ℕ) → ((j : ℕ) → f j ≡ g j) → total f k ≡ total g k
total_same f g k same = (λ i. total (λ j. same j i) k)

exchange : (h : ℕ → ℕ → ℕ) (k m : ℕ) → total (λ r. total (λ c. h r c) m) k ≡ total (λ c. total (λ r. h r c) k) m
exchange h zero m = sym (total_none m)
exchange h (suc k) m =
    ap (λ (j : ℕ). j + total (λ c. h (suc k) c) m) (exchange h k m) ∙ sym (total_sum (λ c. total (λ r. h r c) k) (λ c. h (suc k) c) m)

-- a weight of lists of numbers that adds
record Adds (weight : List ℕ → ℕ) : Type 0 where
  nothing : weight [] ≡ 0
  both : (xs ys : List ℕ) → weight (xs ++ ys) ≡ weight xs + weight ys

standing_adds : (i : ℕ) → Adds (standing i)
standing_adds i = record { nothing = refl; both = λ xs ys. standing_append i xs ys }

length_adds : Adds (λ xs. length xs)
length_adds = record { nothing = refl; both = λ xs ys. length-append xs ys }

-- what a square weighs, one that passes
abbrev worth : (List ℕ → ℕ) → (Square → Bool) → (Square → List ℕ) → Square → ℕ
worth w p at s = cond (p s) (w (at s)) 0

alone_weighs : (w : List ℕ → ℕ) → Adds w → (p : Square → Bool) (at : Square → List ℕ) (s : Square) → w (flat_map at (filter p (s ∷ [])))
    ≡ worth w p at s
alone_weighs w adds p at s =
    elim (p s) as (λ b. w (flat_map at (cond b (s ∷ []) [])) ≡ cond b (w (at s)) 0) [
      | true ↦ ap w (append-nil (at s))
      | false ↦ adds.nothing
    ]

joined_weigh : (w : List ℕ → ℕ) → Adds w → (at : Square → List ℕ) (some more : List Square)
    → w (flat_map at (some ++ more)) ≡ w (flat_map at some) + w (flat_map at more)
joined_weigh w adds at some more = ap w (flat_map-append at some more) ∙ adds.both (flat_map at some) (flat_map at more)

-- a line of squares, and lines of them
line_weighs : (w : List ℕ → ℕ) → Adds w → (p : Square → Bool) (at : Square → List ℕ) (g : ℕ → Square) (k : ℕ)
    → w (flat_map at (filter p (map g (natural k)))) ≡ total (λ j. worth w p at (g j)) k
line_weighs w adds p at g zero = adds.nothing
line_weighs w adds p at g (suc k) =
    let split : filter p (map g (natural (suc k))) ≡ filter p (map g (natural k)) ++ filter p (g (suc k) ∷ []) =
    ap (filter p) (map-append g (natural k) (suc k ∷ [])) ∙ filter_append p (map g (natural k)) (g (suc k) ∷ []) in
    ap (λ l. w (flat_map at l)) split ∙ joined_weigh w adds at (filter p (map g (natural k))) (filter p (g (suc k) ∷ []))
    ∙ (λ i. line_weighs w adds p at g k i + alone_weighs w adds p at (g (suc k)) i)

lines_weigh : (w : List ℕ → ℕ) → Adds w → (at : Square → List ℕ) (line : ℕ → List Square) (k : ℕ)
    → w (flat_map at (flat_map line (natural k))) ≡ total (λ j. w (flat_map at (line j))) k
lines_weigh w adds at line zero = adds.nothing
lines_weigh w adds at line (suc k) =
    let split : flat_map line (natural (suc k)) ≡ flat_map line (natural k) ++ line (suc k) =
    flat_map-append line (natural k) (suc k ∷ []) ∙ ap (λ l. flat_map line (natural k) ++ l) (append-nil (line (suc k))) in
    ap (λ l. w (flat_map at l)) split ∙ joined_weigh w adds at (flat_map line (natural k)) (line (suc k))
    ∙ ap (λ (j : ℕ). j + w (flat_map at (line (suc k)))) (lines_weigh w adds at line k)

by_columns : (w : List ℕ → ℕ) → Adds w → (n : ℕ) (at : Square → List ℕ) → w (flat_map at (flat_map (column_squares n) (natural n)))
    ≡ w (flat_map at (squares n))
by_columns w adds n at =
    let value : ℕ → ℕ → ℕ = λ row column. worth w (stays n) at (square row column) in
    let columns : w (flat_map at (flat_map (column_squares n) (natural n))) ≡ total (λ column. total (λ row. value row column) n) n =
    lines_weigh w adds at (column_squares n) n
    ∙ total_same (λ column. w (flat_map at (column_squares n column))) (λ column. total (λ row. value row column) n) n
    (λ column. line_weighs w adds (stays n) at (λ row. square row column) n) in
    let rows : w (flat_map at (squares n)) ≡ total (λ row. total (λ column. value row column) n) n =
    lines_weigh w adds at (row_squares n) n
    ∙ total_same (λ row. w (flat_map at (row_squares n row))) (λ row. total (λ column. value row column) n) n
    (λ row. line_weighs w adds (stays n) at (λ column. square row column) n) in
    columns ∙ sym (rows ∙ exchange value n n)

-- a square's two dominoes in either order
two_swapped : (w : List ℕ → ℕ) → Adds w → (x y : ℕ) → w (x ∷ y ∷ []) ≡ w (y ∷ x ∷ [])
two_swapped w adds x y = omega (arith, adds.both (x ∷ []) (y ∷ []), adds.both (y ∷ []) (x ∷ []))

either_order : {X : Type 0} (w : List ℕ → ℕ) → Adds w → (f : X → ℕ) (x y : X) (a b : Bool)
    → w (map f (cond a (x ∷ cond b (y ∷ []) []) (cond b (y ∷ []) []))) ≡ w (map f (cond b (y ∷ cond a (x ∷ []) []) (cond a (x ∷ []) [])))
either_order w adds f x y true true = two_swapped w adds (f x) (f y)
either_order w adds f x y true false = refl
either_order w adds f x y false true = refl
either_order w adds f x y false false = refl

same_weight : (w : List ℕ → ℕ) → Adds w → (f g : Square → List ℕ) (some : List Square) → ((s : Square) → w (f s) ≡ w (g s))
    → w (flat_map f some) ≡ w (flat_map g some)
same_weight w adds f g [] same = refl
same_weight w adds f g (s ∷ more) same =
    adds.both (f s) (flat_map f more) ∙ (λ i. same s i + same_weight w adds f g more same i) ∙ sym (adds.both (g s) (flat_map g more))

flat_flat : {A : Type 0} (f : Square → List A) (line : ℕ → List Square) (some : List ℕ) → flat_map (λ j. flat_map f (line j)) some
    ≡ flat_map f (flat_map line some)
flat_flat f line [] = refl
flat_flat f line (j ∷ more) = ap (λ l. flat_map f (line j) ++ l) (flat_flat f line more)
    ∙ sym (flat_map-append f (line j) (flat_map line more))

order_weighs : (w : List ℕ → ℕ) → Adds w → (n : ℕ) → w (column_order n) ≡ w (natural (length (dominoes n)))
order_weighs w adds n =
    let columns = flat_map (column_squares n) (natural n) in
    let by_row : Square → List ℕ = λ s. map (number n) (dominoes_at n s) in
    let by_column : Square → List ℕ = λ s. map (number n) (down_first n s) in
    ap (λ l. w (map (number n) l)) (flat_flat (down_first n) (column_squares n) (natural n))
    ∙ ap w (map_flat (number n) (down_first n) columns)
    ∙ same_weight w adds by_column by_row columns (λ s. either_order w adds (number n) (Down s) (Across s) (is_domino n (Down s))
    (is_domino n (Across s)))
    ∙ by_columns w adds n by_row ∙ ap w (sym (map_flat (number n) (dominoes_at n) (squares n)) ∙ dominoes_in_rows n)

length_natural : (k : ℕ) → length (natural k) ≡ k
length_natural zero = refl
length_natural (suc k) = omega (arith, length-append (natural k) (suc k ∷ []), length_natural k)

pub standing_in_columns : (n i : ℕ) → standing i (column_order n) ≡ standing i (natural (length (dominoes n)))
standing_in_columns n i = order_weighs (standing i) (standing_adds i) n

pub length_of_columns : (n : ℕ) → length (column_order n) ≡ length (dominoes n)
length_of_columns n = order_weighs (λ xs. length xs) length_adds n ∙ length_natural (length (dominoes n))

pub clauses_in_columns : (n i : ℕ) → standing i (flat_map (column_clauses n) (natural n)) ≡ standing i (natural (length (board_clauses n)))
clauses_in_columns n i =
    ap (standing i) (flat_flat (clause_numbers n) (column_squares n) (natural n))
    ∙ by_columns (standing i) (standing_adds i) n (clause_numbers n)
    ∙ ap (standing i) (clauses_in_rows n)
