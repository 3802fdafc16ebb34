-- The nodes and the numbers of all steps together.
use Rattle.std.proofs.Common.{◌≡◌, ◌∙◌, ◌<◌, ◌≤◌, ◌+◌, ◌*◌, ℕ, zero, suc, Bool, List, [], ◌∷◌, length, take, sym, ap, arith}
use Rattle.std.proofs.Common.{get_or, length-append}
use Rattle.std.specs.List.{flat_map}
use Rattle.std.proofs.Math.Nat.{add-mul, mul_assoc, mul_comm, mul-le-mul_right, one-mul}
use Rattle.parity_terms.specs.Limit.{all_variables, nodes_needed}

-- moves behind others
pub moves_more : (start mid last moves more price : ℕ) → mid ≤ start + moves * price → last ≤ mid + more * price
    → last ≤ start + (moves + more) * price
moves_more start mid last moves more price first second = omega (arith, first, second, add-mul moves more price)

pub moves_fewer : (start last few many price : ℕ) → few ≤ many → last ≤ start + few * price → last ≤ start + many * price
moves_fewer start last few many price less first =
    let whole : few * price ≤ many * price = mul-le-mul_right price less in omega (arith, first, whole)

pub one_move : (start last price : ℕ) → last ≤ start + price → last ≤ start + 1 * price
one_move start last price first = omega (arith, first, one-mul price)

-- the parts of one equation more
module _ {X : Type 0} (own : X → List ℕ) where
  pub joined_more : (list : List X) (i : ℕ) (d : X) → i < length list
      → length (flat_map own (take (i + 1) list)) ≡ length (flat_map own (take i list)) + length (own (get_or list i d))
  joined_more [] i d small = absurd (omega (arith, small))
  joined_more (x ∷ list) zero d small =
      let one = length-append (own x) [] in omega (arith, one)
  joined_more (x ∷ list) (suc i) d small =
      let rest = joined_more list i d (omega (arith, small)) in
      let one = length-append (own x) (flat_map own (take (i + 1) list)) in
      let other = length-append (own x) (flat_map own (take i list)) in
      let shape : suc i + 1 ≡ suc (i + 1) = omega arith in
      let same = ap (λ j. length (flat_map own (take j (x ∷ list)))) shape in
      omega (arith, rest, one, other, same)

  pub joined_all : (list : List X) (i : ℕ) → length (flat_map own (take i list)) ≤ length (flat_map own list)
  joined_all [] zero = omega arith
  joined_all [] (suc i) = omega arith
  joined_all (x ∷ list) zero = omega arith
  joined_all (x ∷ list) (suc i) =
      let rest = joined_all list i in
      let one = length-append (own x) (flat_map own (take i list)) in
      let other = length-append (own x) (flat_map own list) in
      omega (arith, rest, one, other)

-- as many nodes are enough, with fewer rows than equations
pub enough_nodes : (equations : List (List ℕ × Bool)) (rows number : ℕ) → rows < length equations
    → number < rows * (2 * length (all_variables equations)) + (6 * length (all_variables equations) + 518) → number < nodes_needed
    equations
enough_nodes equations rows number few need =
    let e = length equations in
    let n = length (all_variables equations) in
    let fewer : rows * (2 * n) ≤ e * (2 * n) = mul-le-mul_right (2 * n) (omega (arith, few)) in
    let doubled : e * (2 * n) ≡ 2 * (e * n) = sym (mul_assoc e 2 n) ∙ ap (λ k. k * n) (mul_comm e 2) ∙ mul_assoc 2 e n in
    omega (arith, need, fewer, doubled)

-- the moves of one equation more
pub moves_with : (clauses own equations variables : ℕ)
    → 2 * clauses + 2 * (equations * variables) + (2 * own + 2 * variables) ≡ 2 * (clauses + own) + 2 * ((equations + 1) * variables)
moves_with clauses own equations variables = omega (arith, add-mul equations 1 variables, one-mul variables)

pub moves_most : (few many equations more variables : ℕ) → few ≤ many → equations ≤ more
    → 2 * few + 2 * (equations * variables) ≤ 2 * many + 2 * (more * variables)
moves_most few many equations more variables less fewer =
    let whole : equations * variables ≤ more * variables = mul-le-mul_right variables fewer in omega (arith, less, whole)
