-- Variables that are kept, each once: one more keeps them so, and where each stands they are an order.
use Rattle.std.proofs.Common.{◌≡◌, ℕ, suc, ◌+◌, ◌-◌, ◌<◌, Bool, true, false, List, [], ◌∷◌, ◌++◌, length, map, take, get_or, refl}
use Rattle.std.proofs.Common.{sym, ap, ◌∙◌, arith, inl, inr}
use Rattle.std.proofs.Math.ListN.{set}
use Rattle.std.specs.List.{sum_by}
use Rattle.std.proofs.lemmas.List.{get_or-set_same, get_or-set_other, get_or_append_left, get_or-map, get_or-take, get_or_past}
use Rattle.std.proofs.lemmas.List.{length-append, length-take-le, take_more, map-append, length-set, length-map}
use Rattle.std.proofs.Math.Seq.{get_or-append_seam}
use Rattle.std.proofs.lemmas.List.Sums.{sum_by-cons, sum_by-set}
use Rattle.std.proofs.lemmas.Bool.{cases_lt, cases_eq}
use Rattle.cnf_base.specs.Order.{IsOrder}
use Rattle.variable_order.specs.Completion.{Stands, to_come, AreKept}

-- a flag that is set is one of them
inside_of_true : (flags : List Bool) (k : ℕ) → get_or flags k false ≡ true → k < length flags
inside_of_true flags k h = elim (cases_lt k (length flags)) [
  | inl inside ↦ inside
  | inr past ↦ absurd (let e = get_or_past flags k false past in let no : false ≡ true = sym e ∙ h in cc)
]

none_to_come : (flags : List Bool) → ((k : ℕ) → k < length flags → get_or flags k false ≡ true) → sum_by to_come flags ≡ 0
none_to_come [] all = refl
none_to_come (flag ∷ flags) all =
    let first : flag ≡ true = all 0 (omega arith) in
    let others = none_to_come flags (λ k h. all (suc k) (omega arith)) in
    sum_by-cons to_come flag flags ∙ ap (λ b. to_come b + sum_by to_come flags) first ∙ omega (arith, others)

-- setting a flag takes one from those to come
one_less : (flags : List Bool) (k : ℕ) → k < length flags → get_or flags k false ≡ false
    → sum_by to_come (set flags k true) + 1 ≡ sum_by to_come flags
one_less flags k inside unset =
    let e = sum_by-set to_come flags k true false inside in
    let one : to_come (get_or flags k false) ≡ 1 = ap to_come unset in
    omega (arith, e, one)

-- a variable that stands there has its flag set
flag_of : {vars : ℕ} {variables : List ℕ} {flags : List Bool} → AreKept vars variables flags → (vertex : ℕ)
    → Stands (suc vertex) variables → get_or flags vertex false ≡ true
flag_of {vars} {variables} {flags} kept vertex stands =
    let e : get_or variables stands.0 0 - 1 ≡ vertex = omega (arith, stands.2) in
    sym (ap (λ k. get_or flags k false) e) ∙ (kept.within stands.0 stands.1).1

pub stands_before : (variables : List ℕ) (other variable : ℕ) → Stands variable variables → Stands variable (variables ++ other ∷ [])
stands_before variables other variable stands = (
  stands.0,
  omega (arith, stands.1, length-append variables (other ∷ [])),
  get_or_append_left variables (other ∷ []) 0 stands.0 stands.1 ∙ stands.2,
)

-- the flag of another vertex stays
kept_flag : (flags : List Bool) (vertex k : ℕ) → vertex < length flags → get_or flags k false ≡ true
    → get_or (set flags vertex true) k false ≡ true
kept_flag flags vertex k inside h = elim (cases_eq k vertex) [
  | inl same ↦ ap (λ j. get_or (set flags vertex true) j false) same ∙ get_or-set_same flags vertex true false inside
  | inr other ↦ get_or-set_other flags vertex k true false other ∙ h
]

-- one more variable, whose flag isn't set
pub kept_more : (vars vertex : ℕ) (variables : List ℕ) (flags : List Bool) → AreKept vars variables flags → vertex < vars
    → get_or flags vertex false ≡ false → AreKept vars (variables ++ suc vertex ∷ []) (set flags vertex true)
kept_more vars vertex variables flags kept below unset =
    let longer : length (variables ++ suc vertex ∷ []) ≡ length variables + 1 = length-append variables (suc vertex ∷ []) in
    let inside : vertex < length flags = omega (arith, kept.each) in
    let last : get_or (variables ++ suc vertex ∷ []) (length variables) 0 ≡ suc vertex = get_or-append_seam variables (suc vertex) [] 0 in
    let old : (place : ℕ) → place < length variables → get_or (variables ++ suc vertex ∷ []) place 0 ≡ get_or variables place 0 =
    λ place h. get_or_append_left variables (suc vertex ∷ []) 0 place h in
    let differs : (place : ℕ) → place < length variables → get_or variables place 0 ≡ suc vertex → ⊥ = λ place h same.
    let set_there = flag_of kept vertex (place, h, same) in let no : true ≡ false = sym set_there ∙ unset in cc in
    record {
      each = length-set flags vertex true ∙ kept.each;
      within = λ place h. elim (cases_lt place (length variables)) [
        | inl before ↦
            let was = kept.within place before in
            let same = old place before in (
              omega (arith, was.0, same),
              ap (λ n. get_or (set flags vertex true) (n - 1) false) same
                  ∙ kept_flag flags vertex (get_or variables place 0 - 1) inside was.1,
            )
        | inr behind ↦
            let at : place ≡ length variables = omega (arith, longer) in
            let is = ap (λ k. get_or (variables ++ suc vertex ∷ []) k 0) at ∙ last in
            let less : get_or (variables ++ suc vertex ∷ []) place 0 - 1 ≡ vertex = omega (arith, is) in (
              omega (arith, is),
              ap (λ n. get_or (set flags vertex true) n false) less ∙ get_or-set_same flags vertex true false inside,
            )
      ];
      apart = λ place other h late same. elim (cases_lt place (length variables)) [
        | inl before ↦ elim (cases_lt other (length variables)) [
          | inl earlier ↦ kept.apart place other before earlier (sym (old place before) ∙ same ∙ old other earlier)
          | inr behind ↦
              let at : other ≡ length variables = omega (arith, longer) in
              let is = ap (λ k. get_or (variables ++ suc vertex ∷ []) k 0) at ∙ last in
              absurd (differs place before (sym (old place before) ∙ same ∙ is))
        ]
        | inr behind ↦
            let at : place ≡ length variables = omega (arith, longer) in
            let is = ap (λ k. get_or (variables ++ suc vertex ∷ []) k 0) at ∙ last in elim (cases_lt other (length variables)) [
              | inl earlier ↦ absurd (differs other earlier (sym (old other earlier) ∙ sym same ∙ is))
              | inr both ↦ omega (arith, longer)
            ]
      ];
      stand = λ k h. elim (cases_eq k vertex) [
        | inl same ↦ let e : suc vertex ≡ suc k = ap suc (sym same) in (
          length variables,
          omega (arith, longer),
          last ∙ e,
        )
        | inr other ↦
            stands_before variables (suc vertex) (suc k) (kept.stand k (sym (get_or-set_other flags vertex k true false other) ∙ h))
      ];
      count = let less = one_less flags vertex inside unset in omega (arith, longer, less, kept.count);
    }

-- where all variables were kept they are an order
pub all_kept : (vars : ℕ) (variables : List ℕ) (flags : List Bool) → AreKept vars variables flags
    → ((vertex : ℕ) → vertex < vars → Stands (suc vertex) variables) → IsOrder variables × (length variables ≡ vars)
all_kept vars variables flags kept all =
    let none = none_to_come flags (λ k h. flag_of kept k (all k (omega (arith, kept.each)))) in
    let count : length variables ≡ vars = omega (arith, none, kept.count) in (
      record {
        within = λ place h.
            let is = kept.within place h in
            let below = inside_of_true flags (get_or variables place 0 - 1) is.1 in
            (is.0, omega (arith, is.0, below, count, kept.each));
        apart = kept.apart;
        each = λ variable positive small.
            let stands = all (variable - 1) (omega (arith, count)) in
            (stands.0, stands.1, omega (arith, stands.2));
      },
      count,
    )

-- a sequence that is an order, of which so many vertices were kept: the next one is a vertex, and it wasn't kept before
pub next_of : (vars i : ℕ) (sequence variables : List ℕ) → IsOrder (map suc sequence) → length sequence ≡ vars → i < length sequence
    → variables ≡ map suc (take i sequence) → (get_or sequence i 0 < vars) × (Stands (suc (get_or sequence i 0)) variables → ⊥)
next_of vars i sequence variables order long inside kept =
    let same_length : length (map suc sequence) ≡ length sequence = length-map sequence suc in
    let mapped : (k : ℕ) → k < length sequence → get_or (map suc sequence) k 0 ≡ suc (get_or sequence k 0) = λ k h.
    get_or-map suc sequence k 0 0 h in
    let bound = order.within i (omega (arith, same_length)) in
    let is = mapped i inside in (
      omega (arith, bound.1, is, same_length),
      λ stands.
          let count : length variables ≡ i = ap length kept ∙ length-map (take i sequence) suc ∙ length-take-le i sequence (omega arith) in
          let early : stands.0 < i = omega (arith, stands.1, count) in
          let there : get_or variables stands.0 0 ≡ suc (get_or sequence stands.0 0) =
          ap (λ xs. get_or xs stands.0 0) kept
          ∙ get_or-map suc (take i sequence) stands.0 0 0 (omega (arith, length-take-le i sequence (omega arith), early))
          ∙ ap suc (get_or-take i sequence stands.0 0 early) in
          let before = mapped stands.0 (omega (arith, early)) in
          let together : get_or (map suc sequence) stands.0 0 ≡ get_or (map suc sequence) i 0 = before ∙ sym there ∙ stands.2 ∙ sym is in
          let place = order.apart stands.0 i (omega (arith, early, same_length)) (omega (arith, same_length)) together in
          omega (arith, place, early),
    )

pub more_of : (i : ℕ) (sequence variables : List ℕ) → i < length sequence → variables ≡ map suc (take i sequence)
    → variables ++ suc (get_or sequence i 0) ∷ [] ≡ map suc (take (i + 1) sequence)
more_of i sequence variables inside kept =
    ap (λ xs. xs ++ suc (get_or sequence i 0) ∷ []) kept ∙ sym (map-append suc (take i sequence) (get_or sequence i 0 ∷ []))
    ∙ sym (ap (map suc) (take_more sequence i 0 inside))
