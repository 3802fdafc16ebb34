-- Row by row the numbers of the dominoes, and of the clauses, rise from 1.
use Rattle.std.proofs.Common.{◌≡◌, ℕ, zero, suc, ◌+◌, ◌-◌, Bool, true, false, cond, List, [], ◌∷◌, ◌++◌, length, refl, sym, ◌∙◌, ap, arith}
use Rattle.std.proofs.Common.{length-append}
use Rattle.std.specs.Prelude.{map}
use Rattle.std.specs.List.{filter, flat_map}
use Rattle.std.proofs.lemmas.List.{map-append, append-nil}
use Rattle.std.proofs.lemmas.Grind.{flat_map-append}
use Rattle.cnf_base.specs.Order.{natural}
use Rattle.workload.specs.declared.square.Square.{Square}
use Rattle.workload.specs.declared.square.Domino.{Domino}
use Rattle.workload.specs.declared.square.Domino.TheVariants.{Across, Down}
use Rattle.workload.specs.Board.{square, stays, front_of_row, row_squares, squares, is_domino, dominoes_at, dominoes, number}
use Rattle.workload.specs.Board.{square_clauses, board_clauses}
use Rattle.workload.specs.Schedule.{squares_before, following, clause_numbers}
use Rattle.workload.proofs.Steps.{filter_append, following_next, following_split}
use Rattle.workload.proofs.Counts.{before}
use Rattle.workload.proofs.Numbers.{number_across, number_down}

pub following_natural : (k : ℕ) → following 0 k ≡ natural k
following_natural zero = refl
following_natural (suc k) =
    let last : suc (0 + k) ≡ suc k = omega arith in
    following_next 0 k ∙ (λ i. following_natural k i ++ last i ∷ [])

-- the numbers of what some squares have follow a number
abbrev Numbered : {X : Type 0} (f : Square → List X) (g : Square → List ℕ) (start : ℕ) (some : List Square) → Type 0
Numbered f g start some = flat_map g some ≡ following start (length (flat_map f some))

joined : {X : Type 0} (f : Square → List X) (g : Square → List ℕ) (start : ℕ) (some more : List Square)
    → Numbered f g start some → Numbered f g (start + length (flat_map f some)) more → Numbered f g start (some ++ more)
joined f g start some more one other =
    let size : length (flat_map f some) + length (flat_map f more) ≡ length (flat_map f (some ++ more)) =
    sym (ap length (flat_map-append f some more) ∙ length-append (flat_map f some) (flat_map f more)) in
    flat_map-append g some more ∙ (λ i. one i ++ other i)
    ∙ sym (following_split start (length (flat_map f some)) (length (flat_map f more))) ∙ ap (following start) size

-- at each square they follow those of the squares before it
abbrev NumberedAt : {X : Type 0} (n : ℕ) (f : Square → List X) (g : Square → List ℕ) → Type 0
NumberedAt n f g = (row column : ℕ) → stays n (square row column) ≡ true
    → g (square row column) ≡ following (length (flat_map f (squares_before n (square row column)))) (length (f (square row column)))

front_more : (n row k : ℕ) → front_of_row n row (suc k) ≡ front_of_row n row k ++ filter (stays n) (square row (suc k) ∷ [])
front_more n row k =
    ap (filter (stays n)) (map-append (λ column. square row column) (natural k) (suc k ∷ []))
    ∙ filter_append (stays n) (map (λ column. square row column) (natural k)) (square row (suc k) ∷ [])

one_square : {X : Type 0} (n row k start : ℕ) (f : Square → List X) (g : Square → List ℕ) → NumberedAt n f g
    → start ≡ length (flat_map f (flat_map (row_squares n) (natural (row - 1))))
    → Numbered f g (start + length (flat_map f (front_of_row n row k))) (filter (stays n) (square row (suc k) ∷ []))
one_square n row k start f g at from =
    let s : Square = square row (suc k) in
    let above : List Square = flat_map (row_squares n) (natural (row - 1)) in
    let here : ℕ = start + length (flat_map f (front_of_row n row k)) in
    let less : suc k - 1 ≡ k = omega arith in
    let size : length (flat_map f (squares_before n s)) ≡ here =
    ap (λ (c : ℕ). length (flat_map f (above ++ front_of_row n row c))) less ∙ ap length (flat_map-append f above (front_of_row n row k))
    ∙ length-append (flat_map f above) (flat_map f (front_of_row n row k))
    ∙ ap (λ (c : ℕ). c + length (flat_map f (front_of_row n row k))) (sym from) in
    elim (stays n s) as (λ b. stays n s ≡ b → flat_map g (cond b (s ∷ []) []) ≡ following here (length (flat_map f (cond b (s ∷ []) [])))) [
      | true ↦ λ there. append-nil (g s) ∙ at row (suc k) there ∙ (λ i. following (size i) (length (sym (append-nil (f s)) i)))
      | false ↦ λ out. refl
    ] refl

in_row : {X : Type 0} (n row k start : ℕ) (f : Square → List X) (g : Square → List ℕ) → NumberedAt n f g
    → start ≡ length (flat_map f (flat_map (row_squares n) (natural (row - 1)))) → Numbered f g start (front_of_row n row k)
in_row n row zero start f g at from = refl
in_row n row (suc k) start f g at from =
    let more : List Square = filter (stays n) (square row (suc k) ∷ []) in
    let whole : Numbered f g start (front_of_row n row k ++ more) =
    joined f g start (front_of_row n row k) more (in_row n row k start f g at from) (one_square n row k start f g at from) in
    ap (flat_map g) (front_more n row k) ∙ whole ∙ ap (λ l. following start (length (flat_map f l))) (sym (front_more n row k))

rows_more : (n k : ℕ) → flat_map (row_squares n) (natural (suc k)) ≡ flat_map (row_squares n) (natural k) ++ row_squares n (suc k)
rows_more n k =
    flat_map-append (row_squares n) (natural k) (suc k ∷ []) ∙ ap (λ l. flat_map (row_squares n) (natural k)
    ++ l) (append-nil (row_squares n (suc k)))

in_rows : {X : Type 0} (n k : ℕ) (f : Square → List X) (g : Square → List ℕ) → NumberedAt n f g
    → Numbered f g 0 (flat_map (row_squares n) (natural k))
in_rows n zero f g at = refl
in_rows n (suc k) f g at =
    let rows : List Square = flat_map (row_squares n) (natural k) in
    let less : k ≡ suc k - 1 = omega arith in
    let sum : 0 + length (flat_map f rows) ≡ length (flat_map f rows) = omega arith in
    let whole : Numbered f g 0 (rows ++ row_squares n (suc k)) =
    joined f g 0 rows (row_squares n (suc k)) (in_rows n k f g at) (in_row n (suc k) n (0 + length (flat_map f rows)) f g at
    (sum ∙ ap (λ (j : ℕ). length (flat_map f (flat_map (row_squares n) (natural j)))) less)) in
    ap (flat_map g) (rows_more n k) ∙ whole ∙ ap (λ l. following 0 (length (flat_map f l))) (sym (rows_more n k))

pub clauses_in_rows : (n : ℕ) → flat_map (clause_numbers n) (squares n) ≡ natural (length (board_clauses n))
unfolding clause_numbers
clauses_in_rows n = in_rows n n (square_clauses n) (clause_numbers n) (λ row column there. refl)
    ∙ following_natural (length (board_clauses n))

-- the dominoes of a square
down_follows : (n start : ℕ) (s : Square) → (is_domino n (Down s) ≡ true → number n (Down s) ≡ suc start)
    → map (number n) (filter (is_domino n) (Down s ∷ [])) ≡ following start (length (filter (is_domino n) (Down s ∷ [])))
down_follows n start s value =
    elim (is_domino n (Down s)) as (λ d. (d ≡ true → number n (Down s) ≡ suc start) → map (number n) (cond d (Down s ∷ []) [])
    ≡ following start (length (cond d (Down s ∷ []) []))) [
      | true ↦ λ is. ap (λ (k : ℕ). k ∷ []) (is refl)
      | false ↦ λ is. refl
    ] value

own_follow : (n : ℕ) → NumberedAt n (dominoes_at n) (λ s. map (number n) (dominoes_at n s))
own_follow n row column there =
    let s : Square = square row column in
    let start : ℕ = before n row column in
    let down : List Domino = filter (is_domino n) (Down s ∷ []) in
    let places : Bool → ℕ = λ b. start + cond b 2 1 in
    elim (is_domino n (Across s)) as (λ a. is_domino n (Across s) ≡ a → map (number n) (cond a (Across s ∷ down) down)
    ≡ following start (length (cond a (Across s ∷ down) down))) [
      | true ↦ λ is.
          let first : number n (Across s) ≡ suc start = omega (arith, number_across n row column there is) in
          let rest = down_follows n (suc start) s (λ d. omega (arith, number_down n row column there d ∙ ap places is)) in
          (λ i. first i ∷ rest i)
      | false ↦ λ is. down_follows n start s (λ d. omega (arith, number_down n row column there d ∙ ap places is))
    ] refl

pub map_flat : (f : Domino → ℕ) (g : Square → List Domino) (some : List Square) → map f (flat_map g some) ≡ flat_map (λ s. map f (g s)) some
map_flat f g [] = refl
map_flat f g (s ∷ more) = map-append f (g s) (flat_map g more) ∙ ap (λ l. map f (g s) ++ l) (map_flat f g more)

pub dominoes_in_rows : (n : ℕ) → map (number n) (dominoes n) ≡ natural (length (dominoes n))
dominoes_in_rows n =
    map_flat (number n) (dominoes_at n) (squares n) ∙ in_rows n n (dominoes_at n) (λ s. map (number n) (dominoes_at n s)) (own_follow n)
    ∙ following_natural (length (dominoes n))
