-- A clause's literals in the order of the variables: they hold where the clause does, and without opposites they can all
-- be false.
use Rattle.std.proofs.Common.{◌≡◌, ℕ, zero, suc, ◌<◌, ◌≤◌, ◌+◌, ◌-◌, Bool, true, false, not, ◌&&◌, ◌||◌, ℤ, pos, neg_ℤ, List, [], ◌∷◌}
use Rattle.std.proofs.Common.{length, map, int_eq, refl, sym, ap, ◌∙◌, arith, inl, inr}
use Rattle.std.specs.Prelude.{IsPermutation, ◌==◌, nat_lt, slice_index_or, if◌then◌else◌}
use Rattle.std.specs.Bool.{beq}
use Rattle.std.specs.List.{list_any}
use Rattle.std.specs.List.Sorted.{IsNonDecreasingBy}
use Rattle.std.proofs.lemmas.Bool.{and_parts, cases_Bool, cases_lt, or_from, or_parts, ltb-true, eq-eqb, ne_eqb, eqb-true, cond-true}
use Rattle.std.proofs.lemmas.Bool.{cond-false}
use Rattle.std.proofs.lemmas.List.{get_or_default}
use Rattle.std.proofs.lemmas.List.Folds.{list_any_at}
use Rattle.std.proofs.lemmas.List.Sums.{position_or_len_is, AllPass-from_list_all, list_all-from_AllPass}
use Rattle.std.proofs.lemmas.List.Sorted.{list_any-IsPermutation, All-permutation}
use Rattle.cnf_base.specs.Truth.{Assignment, literal_holds, clause_holds}
use Rattle.lrat_rules.specs.Chain.{literals_of}
use Rattle.node_table.specs.Diagram.{Graph, IsOrder, levels, variable_at}
use Rattle.node_table.specs.Value.{Levels}
use Rattle.clause_terms.specs.declared.placed.Placed.{Placed}
use Rattle.clause_terms.specs.Placed.{literal_at, placed_holds, are_of_levels, are_opposites, HasNoOpposites, AreInOrder}
use Rattle.clause_terms.specs.Term.{by_variable, clause_function, IsTautology}

-- both signs of a variable: one of them holds
one_holds : (one other : Placed) → are_opposites one other ≡ true → (a : Levels) → (placed_holds a one || placed_holds a other) ≡ true
one_holds one other opposites a =
    let parts = and_parts (one.level == other.level) _ opposites in
    by_sign one.negative other.negative (a one.level) (a other.level) (ap a (eqb-true one.level other.level parts.0)) parts.1 where
      by_sign : (m n s t : Bool) → s ≡ t → not (beq m n) ≡ true → ((if m then not s else s) || (if n then not t else t)) ≡ true
      by_sign true true s t same differ = cc
      by_sign false false s t same differ = cc
      by_sign true false true true same differ = refl
      by_sign true false true false same differ = cc
      by_sign true false false t same differ = refl
      by_sign false true true t same differ = refl
      by_sign false true false false same differ = refl
      by_sign false true false true same differ = cc

pub opposites_hold : (placed : List Placed) (i : ℕ) (d : Placed) → 0 < i → i < length placed
    → are_opposites (slice_index_or placed (i - 1) d) (slice_index_or placed i d) ≡ true
    → (a : Levels) → list_any (placed_holds a) placed ≡ true
opposites_hold placed i d some small opposites a = elim (cases_Bool (placed_holds a (slice_index_or placed (i - 1) d))) [
  | inl first ↦ list_any_at (placed_holds a) placed (i - 1) d (omega (arith, some, small)) first
  | inr none ↦ list_any_at (placed_holds a) placed i d small
      (ap (λ b. b || placed_holds a (slice_index_or placed i d)) (sym none)
      ∙ one_holds (slice_index_or placed (i - 1) d) (slice_index_or placed i d) opposites a)
]

same_sign : (one other : Placed) → are_opposites one other ≡ false → one.level ≡ other.level → one.negative ≡ other.negative
same_sign one other none level =
    by_sign one.negative other.negative (ap (λ b. b && not (beq one.negative other.negative)) (sym (eq-eqb one.level other.level level))
    ∙ none) where
      by_sign : (m n : Bool) → not (beq m n) ≡ false → m ≡ n
      by_sign true true e = refl
      by_sign false false e = refl
      by_sign true false e = cc
      by_sign false true e = cc

-- no opposites among the neighbours of the first literals
abbrev pub NoneAmong : List Placed → ℕ → Type 0
NoneAmong placed n = (k : ℕ) (d : Placed) → k + 1 < n → (slice_index_or placed k d).level ≡ (slice_index_or placed (k + 1) d).level
    → (slice_index_or placed k d).negative ≡ (slice_index_or placed (k + 1) d).negative

pub one_more : (placed : List Placed) (i : ℕ) (e : Placed) → 0 < i → i < length placed
    → are_opposites (slice_index_or placed (i - 1) e) (slice_index_or placed i e) ≡ false
    → NoneAmong placed i → NoneAmong placed (i + 1)
one_more placed i e some small none before k d among level = elim (cases_lt (k + 1) i) [
  | inl less ↦ before k d less level
  | inr last ↦
      let here : k ≡ i - 1 = omega (arith, last, among) in
      let next : k + 1 ≡ i = omega (arith, last, among) in
      let first : slice_index_or placed k d ≡ slice_index_or placed (i - 1) e = ap (λ n. slice_index_or placed n d) here
      ∙ get_or_default placed (i - 1) d e (omega (arith, small)) in
      let second : slice_index_or placed (k + 1) d ≡ slice_index_or placed i e = ap (λ n. slice_index_or placed n d) next
      ∙ get_or_default placed i d e small in
      ap (λ (p : Placed). p.negative) first
      ∙ same_sign (slice_index_or placed (i - 1) e) (slice_index_or placed i e) none (ap (λ (p : Placed). p.level) (sym first) ∙ level
      ∙ ap (λ (p : Placed). p.level) second)
      ∙ ap (λ (p : Placed). p.negative) (sym second)
]

-- a literal holds where the variable of its level has the value
pub literal_value : (v : Assignment) (negative : Bool) (x : ℕ) (t : Bool) → 0 < x → v x ≡ t
    → literal_holds v (if negative then neg_ℤ (pos x) else pos x) ≡ (if negative then not t else t)
literal_value v true zero t positive is = absurd (omega (arith, positive))
literal_value v true (suc n) t positive is = ap not is
literal_value v false x t positive is = is

module _ (graph : Graph) (ordered : IsOrder graph.order) (v : Assignment) (a : Levels)
    (agree : (level : ℕ) → level < levels graph → v (variable_at graph level) ≡ a level) where
  values : (placed : List Placed) → are_of_levels graph placed ≡ true → list_any (literal_holds v) (map (literal_at graph) placed)
      ≡ list_any (placed_holds a) placed
  values [] of_levels = refl
  values (p ∷ placed) of_levels =
      let parts = and_parts (nat_lt p.level (levels graph)) _ of_levels in
      let small : p.level < levels graph = ltb-true p.level (levels graph) parts.0 in
      let first : literal_holds v (literal_at graph p) ≡ placed_holds a p =
      literal_value v p.negative (variable_at graph p.level) (a p.level) (ordered.within p.level small).0 (agree p.level small) in
      let more = values placed parts.1 in
      (λ i. first i || more i)

  pub same_values : (clause : List ℤ) (placed : List Placed) → AreInOrder graph clause placed → clause_holds v clause
      ≡ list_any (placed_holds a) placed
  same_values clause placed in_order =
      list_any-IsPermutation (literal_holds v) clause (map (literal_at graph) placed) in_order.same ∙ values placed in_order.levels

pub same_literals : (graph : Graph) (clause : List ℤ) (placed : List Placed) → AreInOrder graph clause placed
    → (x : ℤ) → literals_of clause x ≡ literals_of (map (literal_at graph) placed) x
same_literals graph clause placed in_order x = list_any-IsPermutation (int_eq x) clause (map (literal_at graph) placed) in_order.same

-- the value of a level's variable is that of the level
pub value_there : (graph : Graph) → IsOrder graph.order → (a : Levels) (level : ℕ) → level < levels graph
    → by_variable graph.order a (variable_at graph level) ≡ a level
value_there graph ordered a level small =
    ap a (position_or_len_is (λ x. x == variable_at graph level) graph.order level 0 (omega (arith, small))
    (λ k before. ne_eqb (variable_at graph k) (variable_at graph level)
    (λ same. omega (arith, before, ordered.apart k level (omega (arith, before, small)) small same)))
    (λ _. eq-eqb (variable_at graph level) (variable_at graph level) refl))

pub same_function : (graph : Graph) → IsOrder graph.order → (clause : List ℤ) (placed : List Placed) → AreInOrder graph clause placed
    → (a : Levels) → clause_function graph.order clause a ≡ list_any (placed_holds a) placed
same_function graph ordered clause placed in_order a = same_values graph ordered (by_variable graph.order a) a
    (value_there graph ordered a) clause placed in_order

-- without opposites all literals are false where each level has the sign of its literals
pub not_held : (a : Levels) (p : Placed) → a p.level ≡ p.negative → placed_holds a p ≡ false
not_held a p is = ap (λ t. if p.negative then not t else t) is ∙ by_sign p.negative where
  by_sign : (m : Bool) → (if m then not m else m) ≡ false
  by_sign true = refl
  by_sign false = refl

-- whatever the levels above the first literal's are
abbrev Falsifies : ℕ → List Placed → Levels → Type 0
Falsifies level placed a = (other : Levels) → ((l : ℕ) → level ≤ l → other l ≡ a l) → list_any (placed_holds other) placed ≡ false

pub later_signs : (p : Placed) (rest : List Placed) → HasNoOpposites (p ∷ rest) → HasNoOpposites rest
later_signs p rest none i d small level =
    let shift : suc i + 1 ≡ suc (i + 1) = omega arith in
    none (suc i) d (omega (arith, small)) (level ∙ ap (λ k. (slice_index_or (p ∷ rest) k d).level) (sym shift))
    ∙ ap (λ k. (slice_index_or (p ∷ rest) k d).negative) shift

falsified : (p : Placed) (rest : List Placed) → IsNonDecreasingBy (λ (q : Placed). q.level) (p ∷ rest) → HasNoOpposites (p ∷ rest)
    → (a : Levels) × Falsifies p.level (p ∷ rest) a
falsified p [] sorted none = (
  (λ l. p.negative),
  λ other same. or_from (placed_holds other p) false
      (not_held other p (same p.level (omega arith))) refl,
)
falsified p (q ∷ rest) sorted none =
    let more = falsified q rest (λ i j d le small. sorted (suc i) (suc j) d (omega (arith, le)) (omega (arith, small)))
    (later_signs p (q ∷ rest) none) in
    let up : p.level ≤ q.level = sorted 0 1 p (omega arith) (omega arith) in
    elim (cases_lt p.level q.level) [
      | inl less ↦ (
        (λ l. if l == p.level then p.negative else more.0 l),
        λ other same. or_from (placed_holds other p) _
            (not_held other p (same p.level (omega arith) ∙ cond-true _ _ _ (eq-eqb p.level p.level refl)))
            (more.1 other (λ l above. same l (omega (arith, above, less))
            ∙ cond-false _ _ _ (ne_eqb l p.level (λ e. omega (arith, e, above, less))))),
      )
      | inr no_less ↦ (
        more.0,
        λ other same.
            let rest_false = more.1 other (λ l above. same l (omega (arith, above, up))) in
            let level : p.level ≡ q.level = omega (arith, up, no_less) in
            let negative : p.negative ≡ q.negative = none 0 p (omega arith) level in
            let alike : placed_holds other p ≡ placed_holds other q =
            (λ i. if negative i then not (other (level i)) else other (level i)) in
            or_from (placed_holds other p) _ (alike ∙ (or_parts (placed_holds other q) _ rest_false).0) rest_false,
      )
    ]

all_false : (placed : List Placed) → IsNonDecreasingBy (λ (q : Placed). q.level) placed → HasNoOpposites placed → (a : Levels)
    × (list_any (placed_holds a) placed ≡ false)
all_false [] sorted none = ((λ l. false), refl)
all_false (p ∷ rest) sorted none = let found = falsified p rest sorted none in (found.0, found.1 found.0 (λ l above. refl))

pub no_tautology : (graph : Graph) → IsOrder graph.order → (clause : List ℤ) (placed : List Placed) → AreInOrder graph clause placed
    → HasNoOpposites placed → IsTautology clause → ⊥
no_tautology graph ordered clause placed in_order none tautology =
    let found = all_false placed in_order.sorted none in
    let wrong : true ≡ false = sym (tautology (by_variable graph.order found.0))
    ∙ same_function graph ordered clause placed in_order found.0 ∙ found.1 in
    cc

pub of_levels_still : (graph : Graph) (xs ys : List Placed) → IsPermutation xs ys → are_of_levels graph xs ≡ true → are_of_levels graph ys
    ≡ true
of_levels_still graph xs ys moved of_levels =
    list_all-from_AllPass (λ (p : Placed). nat_lt p.level (levels graph)) ys
    (All-permutation (λ (p : Placed). nat_lt p.level (levels graph)
    ≡ true) xs ys moved (AllPass-from_list_all (λ (p : Placed). nat_lt p.level (levels graph)) xs of_levels))
