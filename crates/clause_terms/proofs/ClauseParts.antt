-- The later literals of a clause are a part of its function: that with the levels of the earlier ones fixed so that they
-- are false.
use Rattle.std.proofs.Common.{◌≡◌, ℕ, zero, suc, ◌<◌, ◌≤◌, ◌+◌, Bool, false, not, ◌||◌, List, [], ◌∷◌, length, drop, sym, ap, ◌∙◌, subst}
use Rattle.std.proofs.Common.{arith, inl, inr}
use Rattle.std.specs.Prelude.{nat_lt, if◌then◌else◌}
use Rattle.std.specs.List.{list_any}
use Rattle.std.specs.List.Sorted.{IsNonDecreasingBy}
use Rattle.std.proofs.lemmas.Bool.{cases_lt, lt-ltb, le-ltb, cond-true, cond-false}
use Rattle.node_table.specs.Laws.{Subfunctions}
use Rattle.node_table.specs.Value.{Levels, fixed_to, IsSubfunction}
use Rattle.clause_terms.specs.declared.placed.Placed.{Placed}
use Rattle.clause_terms.specs.Placed.{placed_holds, placed_function, HasNoOpposites}
use Rattle.clause_terms.proofs.Ordered.{not_held, later_signs}
use Rattle.clause_terms.proofs.Taken.{or_again}

abbrev Sorted : List Placed → Type 0
Sorted placed = IsNonDecreasingBy (λ (p : Placed). p.level) placed

abbrev later_sorted : (p : Placed) (rest : List Placed) → Sorted (p ∷ rest) → Sorted rest
later_sorted p rest sorted i j d le small = sorted (suc i) (suc j) d (omega (arith, le)) (omega (arith, small))

-- only the levels of the literals count
agree_from : (a b : Levels) (level : ℕ) → ((l : ℕ) → level ≤ l → a l ≡ b l) → (q : Placed) (rest : List Placed) → Sorted (q ∷ rest) → level
    ≤ q.level
    → list_any (placed_holds a) (q ∷ rest) ≡ list_any (placed_holds b) (q ∷ rest)
agree_from a b level agree q [] sorted above = ap (λ t. (if q.negative then not t else t) || false) (agree q.level above)
agree_from a b level agree q (r ∷ rest) sorted above =
    let up : q.level ≤ r.level = sorted 0 1 q (omega arith) (omega arith) in
    let more = agree_from a b level agree r rest (later_sorted q (r ∷ rest) sorted) (omega (arith, above, up)) in
    let first : placed_holds a q ≡ placed_holds b q = ap (λ t. if q.negative then not t else t) (agree q.level above) in
    (λ i. first i || more i)

-- the rest, with the first literal's level fixed so that it is false
rest_part : Subfunctions → (p q : Placed) (rest : List Placed) → Sorted (p ∷ q ∷ rest) → HasNoOpposites (p ∷ q ∷ rest)
    → IsSubfunction (placed_function (p ∷ q ∷ rest)) (placed_function (q ∷ rest))
rest_part parts p q rest sorted none =
    let up : p.level ≤ q.level = sorted 0 1 p (omega arith) (omega arith) in
    elim (cases_lt p.level q.level) [
      | inl less ↦ record {
        level = p.level + 1;
        fixed = λ l. p.negative;
        same = λ a.
            let b : Levels = fixed_to (p.level + 1) (λ l. p.negative) a in
            let here : b p.level ≡ p.negative = cond-true (nat_lt p.level (p.level + 1)) p.negative (a p.level)
            (lt-ltb p.level (p.level + 1) (omega arith)) in
            let rest_same = agree_from a b (p.level + 1)
            (λ l above. sym (cond-false (nat_lt l (p.level + 1)) p.negative (a l) (le-ltb l (p.level + 1) (omega (arith, above)))))
            q rest (later_sorted p (q ∷ rest) sorted) (omega (arith, less)) in
            rest_same ∙ ap (λ t. t || list_any (placed_holds b) (q ∷ rest)) (sym (not_held b p here));
      }
      | inr no_less ↦
          let level : p.level ≡ q.level = omega (arith, up, no_less) in
          let negative : p.negative ≡ q.negative = none 0 p (omega arith) level in
          let alike : (a : Levels) → placed_holds a p ≡ placed_holds a q = λ a i. if negative i then not (a (level i)) else a (level i) in
          subst (λ (g : Levels → Bool). IsSubfunction (placed_function (p ∷ q ∷ rest)) g)
          (λ i a. (ap (λ t. t || list_any (placed_holds a) (q ∷ rest)) (alike a)
          ∙ sym (or_again (placed_holds a q) (list_any (placed_holds a) rest))) i)
          (parts.same (placed_function (p ∷ q ∷ rest)))
    ]

pub later_part : Subfunctions → (i : ℕ) (placed : List Placed) → i < length placed → Sorted placed → HasNoOpposites placed
    → IsSubfunction (placed_function placed) (placed_function (drop i placed))
later_part parts i [] small sorted none = absurd (omega (arith, small))
later_part parts zero (p ∷ rest) small sorted none = parts.same (placed_function (p ∷ rest))
later_part parts (suc i) (p ∷ []) small sorted none = absurd (omega (arith, small))
later_part parts (suc i) (p ∷ q ∷ rest) small sorted none =
    parts.further (placed_function (p ∷ q ∷ rest)) (placed_function (q ∷ rest)) (placed_function (drop i (q ∷ rest)))
    (rest_part parts p q rest sorted none)
    (later_part parts i (q ∷ rest) (omega (arith, small)) (later_sorted p (q ∷ rest) sorted) (later_signs p (q ∷ rest) none))
