-- What steps cost, one behind another, by the functions that they have in hand.
use Rattle.std.proofs.Common.{◌≡◌, ◌⊎◌, ◌∙◌, ◌≤◌, ◌+◌, ◌*◌, ◌&&◌, ℕ, Bool, true, false, ℤ, List, [], ◌∷◌, length}
use Rattle.std.proofs.Common.{Contains, Option, None, Some, Ok, Err, Result, refl, sym, ap, subst, arith, inl, inr}
use Rattle.std.specs.Prelude.{IsErrAnd, IsTrue}
use Rattle.std.proofs.Math.Nat.{add-mul, mul-le-mul_right}
use Rattle.std.proofs.lemmas.List.Elements.{Contains-append_cases}
use Rattle.cnf_base.specs.Truth.{Assignment}
use Rattle.node_table.specs.declared.error.TableError.{TableError}
use Rattle.node_table.specs.Diagram.{levels}
use Rattle.node_table.specs.Progress.{error_of}
use Rattle.node_table.specs.Table.{TableState}
use Rattle.node_table.specs.Value.{Levels}
use Rattle.clause_terms.specs.Term.{by_variable}
use Rattle.schedule_plan.specs.declared.limits.Limits.{Limits}
use Rattle.schedule_plan.specs.Plan.{input as input_term, term_holds}
use Rattle.bdd_terms.specs.declared.held.HeldTerm.{HeldTerm}
use Rattle.bdd_terms.specs.declared.runner.Runner.{Runner}
use Rattle.bdd_terms.specs.Counting.{Counting}
use Rattle.bdd_terms.specs.Price.{IsMovePrice}
use Rattle.bdd_terms.specs.Runner.{IsGood, IsListed, IsRunner, Releases, holds_in}
use Rattle.cube_queries.specs.Steps.{Costs, KeepsTerms, clause_in, formula_holds, function_in, functions_out, functions_with}
use Rattle.cube_queries.specs.Width.{HaveMore}
use Rattle.cube_queries.proofs.Moves.{formula_function}
use Rattle.cube_queries.proofs.Parts.{among_cases, among_map, first_among, later_among, more_within, of_map}
use Rattle.cube_queries.proofs.Stays.{good_stands}

module _ {S : Type 0} (old new : Runner S) where
  -- with more functions in hand, and more moves
  pub costs_within : (few many : ℕ) → few ≤ many → (some all : List (Levels → Bool))
      → ((f : Levels → Bool) → Contains some f → Contains all f)
      → (error : Option TableError) → Costs few some old new error → Costs many all old new error
  costs_within few many less some all within error costs = record {
    short = λ is. more_within some all within old.limits.max_nodes (costs.short is);
    paid = λ width price most is.
        let one = costs.paid width price (λ more. most (more_within some all within width more)) is in
        let dear : few * price ≤ many * price = mul-le-mul_right price less in
        omega (arith, one, dear);
  }

  -- an error that is handed on
  pub costs_handed : {T : Type 0} (moves : ℕ) (functions : List (Levels → Bool)) (error : TableError) (r : Result T TableError)
      → IsErrAnd r (λ e. e ≡ error) → Costs moves functions old new (Some error) → Costs moves functions old new (error_of r)
  costs_handed moves functions error (Ok x) is costs = absurd is
  costs_handed moves functions error (Err e) is costs =
      subst (λ (e : TableError). Costs moves functions old new (Some e)) (sym is) costs

-- the numbers stay as a term is released
module _ {S : Type 0} (mid new : Runner S) (held : HeldTerm) (released : IsTrue mid.terms.table.book.in_step → Releases held mid new)
    (torn : mid.terms.table.book.in_step ≡ false → new ≡ mid) where
  pub top_released : new.terms.table.book.state.top ≡ mid.terms.table.book.state.top
  top_released = by_step mid.terms.table.book.in_step refl where
    by_step : (b : Bool) → mid.terms.table.book.in_step ≡ b → new.terms.table.book.state.top ≡ mid.terms.table.book.state.top
    by_step true on = ap (λ (t : TableState S). t.book.state.top) (released on).table
    by_step false off = ap (λ (r : Runner S). r.terms.table.book.state.top) (torn off)

  pub costs_released : (old : Runner S) (moves : ℕ) (functions : List (Levels → Bool)) (error : Option TableError)
      → Costs moves functions old mid error → Costs moves functions old new error
  costs_released old moves functions error costs = record {
    short = costs.short;
    paid = λ width price most is. let one = costs.paid width price most is in omega (arith, one, top_released);
  }

-- moves behind others
pub costs_then : {S : Type 0} (old mid new : Runner S) (few more : ℕ) (functions : List (Levels → Bool)) (error : Option TableError)
    → Costs few functions old mid None → Costs more functions mid new error → mid.limits ≡ old.limits
    → mid.terms.table.graph.order ≡ old.terms.table.graph.order → Costs (few + more) functions old new error
costs_then old mid new few more functions error first second same_limits same_order = record {
  short = λ is. subst (λ (l : Limits). HaveMore functions l.max_nodes) same_limits (second.short is);
  paid = λ width price most is.
      let one = first.paid width price most is in
      let other = second.paid width price most (subst (λ (n : ℕ). IsMovePrice n mid.limits.cache width price) (sym (ap length same_order))
      (subst (λ (l : Limits). IsMovePrice (levels old.terms.table.graph) l.cache width price) (sym same_limits) is)) in
      omega (arith, one, other, add-mul few more price);
}

module _ {S : Type 0} (counting : Counting S) where
  -- a term's function by levels
  pub function_is : (runner : Runner S) → IsRunner runner → (held : HeldTerm) → IsGood runner held → (holds : Assignment → Bool)
      → ((a : Assignment) → holds_in runner held a ≡ holds a)
      → function_in runner held ≡ (λ a. holds (by_variable runner.terms.table.graph.order a))
  function_is runner is held good holds value = λ i a.
      counting.by_levels runner.terms.table.graph is.over.sound.tied.reduced is.over.sound.tied.ordered held.node
      (good_stands runner is held good) holds value a i

  -- and that of one that stays
  pub function_kept : (old new : Runner S) → IsRunner old → IsRunner new → new.terms.table.graph.order ≡ old.terms.table.graph.order
      → KeepsTerms old new → (held : HeldTerm) → IsGood old held → function_in new held ≡ function_in old held
  function_kept old new is_old is_new order keeps held good =
      function_is new is_new held (keeps.good held good) (holds_in old held) (keeps.values held good)
      ∙ (λ i a. holds_in old held (by_variable (order i) a))
      ∙ sym (function_is old is_old held good (holds_in old held) (λ a. refl))

-- what is in hand with a term that is out alone
out_alone : {S : Type 0} (runner : Runner S) (held : HeldTerm) → IsListed [] runner.terms.out.items held → (f : Levels → Bool)
    → Contains (functions_out runner) f → f ≡ function_in runner held
out_alone runner held alone f there = by_list alone (of_map (function_in runner) runner.terms.out.items f there) where
  by_list : IsListed [] runner.terms.out.items held
      → (other : HeldTerm) × Contains runner.terms.out.items other × (function_in runner other ≡ f) → f ≡ function_in runner held
  by_list (inl none) found =
      let in_none = subst (λ (l : List HeldTerm). Contains l found.0) none.1 found.1 in absurd (omega (arith, in_none.1))
  by_list (inr one) found =
      elim (among_cases held found.0 [] (subst (λ (l : List HeldTerm). Contains l found.0) one.1 found.1)) [
        | inl same ↦ sym found.2 ∙ ap (function_in runner) (sym same)
        | inr more ↦ absurd (omega (arith, more.1))
      ]

-- a term that was listed, or was there
listed_cases : (before after : List HeldTerm) (held other : HeldTerm) → IsListed before after held → Contains after other
    → Contains before other ⊎ (held ≡ other)
listed_cases before after held other (inl none) there = inl (subst (λ (l : List HeldTerm). Contains l other) none.1 there)
listed_cases before after held other (inr one) there =
    elim (Contains-append_cases before (held ∷ []) other (subst (λ (l : List HeldTerm). Contains l other) one.1 there)) [
      | inl was ↦ inl was
      | inr last ↦ elim (among_cases held other [] last) [ inl same ↦ inr same | inr more ↦ absurd (omega (arith, more.1)) ]
    ]

-- functions among others, up to their values
among_as : (all : List (Levels → Bool)) (f g : Levels → Bool) → f ≡ g → Contains all g → Contains all f
among_as all f g same there = subst (Contains all) (sym same) there

-- The clause's term, and then the conjunction with a term that is out alone.
module _ {S : Type 0} (counting : Counting S) (old mid new : Runner S) (held clause : HeldTerm) (number : ℕ) (is_old : IsRunner old)
    (is_mid : IsRunner mid) (alone : IsListed [] old.terms.out.items held) (good : IsGood old held) (given : IsGood mid clause)
    (listed : IsListed old.terms.out.items mid.terms.out.items clause) (keeps : KeepsTerms old mid)
    (same_order : mid.terms.table.graph.order ≡ old.terms.table.graph.order) (same_limits : mid.limits ≡ old.limits)
    (value : (a : Assignment) → holds_in mid clause a ≡ term_holds old.formula.now a (input_term number)) where
  abbrev all : List (Levels → Bool)
  all = functions_with old held number

  abbrev both : Levels → Bool
  both a = function_in old held a && clause_in old number a

  whole_in : Contains all (function_in old held)
  whole_in = later_among both (function_in old held) (clause_in old number ∷ function_in old held ∷ [])
      (later_among (clause_in old number) (function_in old held) (function_in old held ∷ []) (first_among (function_in old held) []))

  clause_among : Contains all (clause_in old number)
  clause_among = later_among both (clause_in old number) (clause_in old number ∷ function_in old held ∷ [])
      (first_among (clause_in old number) (function_in old held ∷ []))

  first_in : (f : Levels → Bool) → Contains (clause_in old number ∷ functions_out old) f → Contains all f
  first_in f there = elim (among_cases (clause_in old number) f (functions_out old) there) [
    | inl same ↦ among_as all f (clause_in old number) (sym same) clause_among
    | inr out ↦ among_as all f (function_in old held) (out_alone old held alone f out) whole_in
  ]

  held_still : function_in mid held ≡ function_in old held
  held_still = function_kept counting old mid is_old is_mid same_order keeps held good

  clause_still : function_in mid clause ≡ clause_in old number
  clause_still =
      function_is counting mid is_mid clause given (λ a. term_holds old.formula.now a (input_term number)) value
      ∙ (λ i a. term_holds old.formula.now (by_variable (same_order i) a) (input_term number))

  second_in : (f : Levels → Bool) → Contains ((λ a. function_in mid held a && function_in mid clause a) ∷ functions_out mid) f → Contains all f
  second_in f there = elim (among_cases (λ a. function_in mid held a && function_in mid clause a) f (functions_out mid) there) [
    | inl same ↦ among_as all f both (sym same ∙ (λ i a. held_still i a && clause_still i a)) (first_among both (clause_in old number ∷ function_in old held ∷ []))
    | inr out ↦
        let found = of_map (function_in mid) mid.terms.out.items f out in
        elim (listed_cases old.terms.out.items mid.terms.out.items clause found.0 listed found.1) [
          | inl was ↦
              among_as all f (function_in old held) (sym found.2
              ∙ function_kept counting old mid is_old is_mid same_order keeps found.0 (inr was)
              ∙ out_alone old held alone (function_in old found.0) (among_map (function_in old) old.terms.out.items found.0 was)) whole_in
          | inr same ↦
              among_as all f (clause_in old number) (sym found.2 ∙ ap (function_in mid) (sym same) ∙ clause_still) clause_among
        ]
  ]

  pub costs_with : (error : Option TableError) → Costs 1 (clause_in old number ∷ functions_out old) old mid None
      → Costs 1 ((λ a. function_in mid held a && function_in mid clause a) ∷ functions_out mid) mid new error
      → Costs 2 all old new error
  costs_with error first second =
      costs_then old mid new 1 1 all error
      (costs_within old mid 1 1 (omega arith) (clause_in old number ∷ functions_out old) all first_in None first)
      (costs_within mid new 1 1 (omega arith) ((λ a. function_in mid held a && function_in mid clause a) ∷ functions_out mid) all second_in
      error second) same_limits same_order

-- where there is no clause's term
pub costs_without : {S : Type 0} (old new : Runner S) (held : HeldTerm) (number : ℕ) → IsListed [] old.terms.out.items held
    → (error : Option TableError) → Costs 1 (clause_in old number ∷ functions_out old) old new error
    → Costs 2 (functions_with old held number) old new error
costs_without old new held number alone error first =
    costs_within old new 1 2 (omega arith) (clause_in old number ∷ functions_out old) (functions_with old held number)
    (λ f there. elim (among_cases (clause_in old number) f (functions_out old) there) [
      | inl same ↦ (1, omega arith, same)
      | inr out ↦ (2, omega arith, sym (out_alone old held alone f out))
    ]) error first

-- the function of the formula's term, which alone is out
module _ {S : Type 0} (counting : Counting S) (runner : Runner S) (held : HeldTerm) (is : IsRunner runner)
    (alone : IsListed [] runner.terms.out.items held) (good : IsGood runner held)
    (value : (a : Assignment) → holds_in runner held a ≡ formula_holds runner.formula.now a) where
  whole_is : function_in runner held ≡ formula_function runner.formula.now runner.terms.table.graph.order
  whole_is = function_is counting runner is held good (formula_holds runner.formula.now) value

  pub more_of_whole : (number : ℕ) → HaveMore (functions_out runner) number
      → HaveMore (formula_function runner.formula.now runner.terms.table.graph.order ∷ []) number
  more_of_whole number have =
      more_within (functions_out runner) (formula_function runner.formula.now runner.terms.table.graph.order ∷ [])
      (λ f there. (0, omega arith, sym (out_alone runner held alone f there ∙ whole_is))) number have
