-- An equation as it is taken: what is left of it while it is replaced by its sums with rows, and how that ends.
use Rattle.std.proofs.Common.{◌≡◌, ◌≢◌, ◌∙◌, ◌<◌, ◌+◌, ◌-◌, ◌++◌, ◌||◌, ℕ, zero, suc, Bool, true, false, List, [], ◌∷◌, All}
use Rattle.std.proofs.Common.{None, Some, Ok, Err, Result}
use Rattle.std.proofs.Common.{length, map, refl, sym, ap, subst, arith, inl, inr}
use Rattle.std.specs.Prelude.{◌==◌, IsErrAnd, IsTrue, slice_index_or}
use Rattle.std.specs.Bool.{beq}
use Rattle.std.specs.List.{list_any}
use Rattle.std.specs.Option.{option_to_list}
use Rattle.std.proofs.lemmas.Bool.{cases_Bool, or_from}
use Rattle.std.proofs.lemmas.Bool.Decides.{Decides-eqb}
use Rattle.std.proofs.lemmas.List.{get_or_default, length-map}
use Rattle.std.proofs.lemmas.List.Elements.{Contains-append_left}
use Rattle.cnf_base.specs.Order.{IsOrder}
use Rattle.node_table.specs.declared.error.TableError.{TableError}
use Rattle.node_table.specs.declared.error.TableError.TheVariants.{OutOfMemory, WriteFault}
use Rattle.node_table.specs.Diagram.{is_node}
use Rattle.node_table.specs.HandedOn.{no_error, same_error}
use Rattle.node_table.specs.Laws.{Canonical, Cofactors, StepByStep}
use Rattle.node_table.specs.Progress.{Continues, Leaves}
use Rattle.parity_equations.specs.declared.equations.Equation.{Equation}
use Rattle.parity_equations.specs.Conflict.{vector}
use Rattle.parity_equations.specs.Laws.{ClausesSay}
use Rattle.parity_equations.specs.Walk.{AreRisingUpTo, IsEquationOf, listed}
use Rattle.parity_nodes.specs.Sums.{exclusive_or, odd_over}
use Rattle.bdd_terms.specs.declared.held.HeldTerm.{HeldTerm}
use Rattle.bdd_terms.specs.declared.runner.Runner.{Runner}
use Rattle.bdd_terms.specs.declared.term.Term.{Term}
use Rattle.bdd_terms.specs.Runner.{IsRunner, Releases, holds_in}
use Rattle.parity_terms.specs.declared.row.Row.{Row}
use Rattle.parity_terms.specs.Clauses.{TakesClauses}
use Rattle.parity_terms.specs.Order.{AreInOrder, AreOrdered, ArePlaces, HaveSameFirst, place_of}
use Rattle.parity_terms.specs.Owned.{Owns}
use Rattle.parity_terms.specs.Rows.{AreReduced, IsRow, NoneHasFirst, Sums, TakesEquation, held_of, vector_of}
use Rattle.parity_terms.specs.Steps.{Goes, Keeps}
use Rattle.parity_terms.proofs.EquationClauses.{equation_value}
use Rattle.parity_terms.proofs.Owned.{owned_good, owns_with}
use Rattle.parity_terms.proofs.Placing.{there}
use Rattle.parity_terms.proofs.Reduced.{map_with, nothing_left, reduced_kept, reduced_nothing, reduced_row, rows_kept}
use Rattle.parity_terms.proofs.Spanned.{LeavesOf, leaves_further, spanned_none, sum_itself}
use Rattle.parity_terms.proofs.SumValues.{among_odd}
use Rattle.parity_terms.proofs.Taken.{among_more, goes_released, keeps_further, none_reclaimed}

-- rising variables: whether one is among them is the sum of a test
none_before : (last first : ℕ) (variables : List ℕ) (n : ℕ) → AreRisingUpTo last first variables → n < first
    → list_any (λ v. v == n) variables ≡ false
none_before last first [] n are less = refl
none_before last first (variable ∷ more) n are less =
    or_from (variable == n) _ (elim (cases_Bool (variable == n)) [
      | inl same ↦ absurd (let is = (Decides-eqb variable n).0 same in let above = are.0 in omega (arith, is, above, less))
      | inr differ ↦ differ
    ])
    (none_before last (variable + 1) more n are.1.1 (let above = are.0 in omega (arith, above, less)))

rising_odd : (last first : ℕ) (variables : List ℕ) (n : ℕ) → AreRisingUpTo last first variables
    → list_any (λ v. v == n) variables ≡ odd_over variables (λ v. v == n)
rising_odd last first [] n are = refl
rising_odd last first (variable ∷ more) n are = go (rising_odd last (variable + 1) more n are.1.1) (variable == n) refl
  where
    from_none : (b : Bool) → b ≡ exclusive_or false b
    from_none true = refl
    from_none false = refl

    go : list_any (λ v. v == n) more ≡ odd_over more (λ v. v == n) → (b : Bool) → (variable == n) ≡ b
        → (b || list_any (λ v. v == n) more) ≡ exclusive_or b (odd_over more (λ v. v == n))
    go rest true same =
        let none = none_before last (variable + 1) more n are.1.1
        (let is = (Decides-eqb variable n).0 same in omega (arith, is)) in
        sym (ap (exclusive_or true) (sym rest ∙ none))
    go rest false differ = rest ∙ from_none (odd_over more (λ v. v == n))

-- where the first variable stands in the order; behind all where there is none
abbrev pub first_place : List ℕ → List ℕ → ℕ
first_place places [] = length places
first_place places (variable ∷ more) = place_of places variable

-- the next one's is behind the current one's
pub later_falls : (order places : List ℕ) → IsOrder order → ArePlaces order places → (row current next : List ℕ) → AreInOrder places 0 row
    → AreInOrder places 0 current → HaveSameFirst row current
    → ((first : ℕ) → AreInOrder places first row → AreInOrder places first current → AreInOrder places (first + 1) next)
    → length places - first_place places next < length places - first_place places current
later_falls order places ordered inverse [] current next are are_current same later = absurd same
later_falls order places ordered inverse (u ∷ us) [] next are are_current same later = absurd same
later_falls order places ordered inverse (u ∷ us) (v ∷ vs) next are are_current same later =
    let own = place_of places v in
    let at : place_of places u ≡ own = ap (place_of places) same in
    let small = there order places ordered inverse v are_current.0 are_current.1.0 in
    let inside : own < length places = omega (arith, small.0, inverse.one_each) in
    go inside (later own (are.0, (are.1.0, (omega (arith, at), are.1.1.1)))
    (are_current.0, (are_current.1.0, (omega arith, are_current.1.1.1)))) next refl
  where
    go : place_of places v < length places → AreInOrder places (place_of places v + 1) next → (list : List ℕ) → next ≡ list
        → length places - first_place places list < length places - place_of places v
    go inside behind [] is = omega (arith, inside)
    go inside behind (w ∷ ws) is =
        let from : AreInOrder places (place_of places v + 1) (w ∷ ws) = subst (AreInOrder places (place_of places v + 1)) is behind in
        let above = from.1.1.0 in
        omega (arith, inside, above)

-- This is left of an equation, in a runner whose terms are this one's and those of the rows.
pub record IsCurrent {S : Type 0} (places : List ℕ) (rows : List Row) (equation : List ℕ × Bool) (old now : Runner S) (current : Row)
    : Type 0 where
  pub runner : IsRunner now
  pub each : All (IsRow now places) rows
  pub row : IsRow now places current
  pub owns : Owns (held_of current ∷ map held_of rows) now.terms.out.items
  pub keeps : Keeps (map held_of rows) old now
  pub unrefuted : now.refuted ≡ false
  pub left : LeavesOf (map vector_of rows) (vector equation) (vector_of current)
  pub continues : Continues old.terms.table now.terms.table

vector_at : (rows : List Row) (k : ℕ) (d : Row) → slice_index_or (map vector_of rows) k (vector_of d) ≡ vector_of (slice_index_or rows k d)
vector_at [] k d = refl
vector_at (row ∷ rows) zero d = refl
vector_at (row ∷ rows) (suc k) d = vector_at rows k d

-- the row that was found begins with the equation's first variable
pub found_first : (rows slice : List Row) (k : ℕ) (row current : Row) → slice ≡ rows → k < length slice
    → HaveSameFirst (slice_index_or slice k current).variables.items current.variables.items → row ≡ slice_index_or rows k row
    → HaveSameFirst row.variables.items current.variables.items
found_first rows slice k row current is small same at =
    subst (λ (r : Row). HaveSameFirst r.variables.items current.variables.items)
    (ap (λ (l : List Row). slice_index_or l k current) is
    ∙ get_or_default rows k current row (subst (λ (l : List Row). k < length l) is small) ∙ sym at) same

-- the rows before are the same ones
pub as_before : {S : Type 0} (places : List ℕ) (equation : List ℕ × Bool) (rows same after : List Row) (old new : Runner S)
    (result : Result Bool TableError) → same ≡ rows → TakesEquation places equation same after old new result
    → TakesEquation places equation rows after old new result
as_before places equation rows same after old new result is takes =
    subst (λ (before : List Row). TakesEquation places equation before after old new result) is takes

-- no failed write, by other answers' types
pub other_whole : {T U : Type 0} (came error : TableError) → error ≡ came → ◌≢◌ {A = Result T TableError} (Err error) (Err WriteFault)
    → ◌≢◌ {A = Result U TableError} (Err came) (Err WriteFault)
other_whole came error is whole same = whole (ap Err (is ∙ same_error same))

module _ {S : Type 0} (steps : StepByStep S) (places : List ℕ) (rows : List Row) (old : Runner S) where
  -- the equation itself, by its clauses' term
  pub current_first : ClausesSay → (source : Equation) → IsEquationOf old.formula.now.vars old.formula.now.clauses source
      → (new : Runner S) (term : Term) (current : Row) → All (IsRow old places) rows
      → TakesClauses (map held_of rows) source.clauses.items old new (Ok (Some term))
      → AreOrdered places source.variables.items current.variables.items → current.term ≡ term → current.bit ≡ source.bit
      → IsCurrent places rows (listed source) old new current
  current_first say source is new term current each takes ordered is_term is_bit =
      let owns : Owns (held_of current ∷ map held_of rows) new.terms.out.items =
      subst (λ (t : Term). Owns (t.held ∷ map held_of rows) new.terms.out.items) (sym is_term) (takes.owns no_error) in
      record {
        runner = takes.goes_on no_error;
        each = rows_kept old new places rows each (takes.keeps no_error) (held_of current ∷ map held_of rows) owns
            (λ held among. among_more held (held_of current) (map held_of rows) among);
        row = record {
          in_order = ordered.in_order;
          good = owned_good (held_of current) (held_of current ∷ map held_of rows) new.terms.out.items owns (0, omega arith, refl);
          not_false = λ none. takes.refuted.1 (ap (λ (t : Term). t.held.node) (sym is_term) ∙ none);
          value = λ a.
              ap (λ (t : Term). holds_in new t.held a) is_term ∙ takes.value a
              ∙ equation_value old.formula.now.vars old.formula.now.clauses source is say a
              ∙ sym (λ i. beq (ordered.odd a i) (is_bit i));
        };
        owns = owns;
        keeps = takes.keeps no_error;
        unrefuted = takes.refuted.0;
        left = record { rest = spanned_none (map vector_of rows) _ nothing };
        continues = takes.leaves;
      }
    where
      same : (place : ℕ) → vector (listed source) place ≡ vector_of current place
      same zero = sym is_bit
      same (suc n) =
          rising_odd old.formula.now.vars 1 source.variables.items (suc n) is.rising
          ∙ sym (ordered.odd (λ v. v == suc n))
          ∙ sym (among_odd places 0 current.variables.items (suc n) ordered.in_order)

      nothing : (place : ℕ) → exclusive_or (vector (listed source) place) (vector_of current place) ≡ false
      nothing place =
          ap (exclusive_or (vector (listed source) place)) (sym (same place)) ∙ sum_itself (vector (listed source) place)

  -- its clauses' term wasn't found
  pub first_error : (numbers : List ℕ) (equation : List ℕ × Bool) (new : Runner S) (came : TableError) (result : Result Bool TableError)
      → IsErrAnd result (λ e. e ≡ came) → TakesClauses (map held_of rows) numbers old new (Err came)
      → TakesEquation places equation rows rows old new result
  first_error numbers equation new came (Ok refuted) is takes = absurd is
  first_error numbers equation new came (Err error) is takes = record {
    goes_on = λ whole. takes.goes_on (other_whole came error is whole);
    owns = λ whole. takes.owns (other_whole came error is whole);
    keeps = λ whole. takes.keeps (other_whole came error is whole);
    refuted = tt;
    reduced = λ equations reduced. tt;
    leaves = subst (λ (e : TableError). Leaves old.terms.table new.terms.table (Some e)) (sym is) takes.leaves;
  }

  -- the empty clause came
  pub first_none : (numbers : List ℕ) (equation : List ℕ × Bool) (new : Runner S)
      → TakesClauses (map held_of rows) numbers old new (Ok None) → TakesEquation places equation rows rows old new (Ok true)
  first_none numbers equation new takes = record {
    goes_on = λ whole. takes.goes_on no_error;
    owns = λ whole. takes.owns no_error;
    keeps = λ whole. takes.keeps no_error;
    refuted = takes.refuted;
    reduced = λ equations reduced none. absurd (let e : true ≡ false = none in cc);
    leaves = takes.leaves;
  }

  -- nothing was done for want of memory
  pub taken_memory : (equation : List ℕ × Bool) → IsRunner old → Owns (map held_of rows) old.terms.out.items
      → (result : Result Bool TableError) → result ≡ Err OutOfMemory → TakesEquation places equation rows rows old old result
  taken_memory equation runner owns (Ok refuted) is = absurd (no_error is)
  taken_memory equation runner owns (Err error) is = record {
    goes_on = λ whole. runner;
    owns = λ whole. owns;
    keeps = λ whole.
        (none_reclaimed old old runner (map held_of rows) owns refl runner refl refl refl refl refl
        (steps.none old.terms.table runner.over.sound).leaves).keeps;
    refuted = tt;
    reduced = λ equations reduced. tt;
    leaves = subst (λ (e : TableError). Leaves old.terms.table old.terms.table (Some e)) (sym (same_error is))
        (steps.none old.terms.table runner.over.sound).leaves;
  }

  module _ (equation : List ℕ × Bool) (mid : Runner S) (current : Row) (is : IsCurrent places rows equation old mid current) where
    stands : IsTrue (is_node mid.terms.table.graph current.term.held.node)
    stands = elim is.row.good [
      | inl true_one ↦ subst (λ (h : HeldTerm). IsTrue (is_node mid.terms.table.graph h.node)) (sym true_one) refl
      | inr among ↦
          (is.runner.proved (held_of current)
          (Contains-append_left mid.terms.out.items (option_to_list mid.kept) (held_of current) among)).stands
    ]

    -- replaced by a sum
    module _ (new : Runner S) (k : ℕ) (d : Row) (small : k < length rows) where
      abbrev row_is : Row
      row_is = slice_index_or rows k d

      pub current_next : (next : Row) → Sums (map held_of rows) places row_is current mid new (Ok (Some next))
          → IsCurrent places rows equation old new next
      current_next next sums = record {
        runner = sums.goes_on no_error;
        each = rows_kept mid new places rows is.each (sums.keeps no_error) (held_of next ∷ map held_of rows) (sums.owns no_error)
            (λ held among. among_more held (held_of next) (map held_of rows) among);
        row = sums.found.0;
        owns = sums.owns no_error;
        keeps = keeps_further steps (map held_of rows) old mid new is.keeps (sums.keeps no_error);
        unrefuted = sums.found.1;
        left = leaves_further (map vector_of rows) (vector equation) (vector_of current) (vector_of next) k (vector_of d)
            (omega (arith, small, length-map rows vector_of)) is.left
            (λ place. sums.sum place
            ∙ ap (λ v. exclusive_or (v place) (vector_of current place)) (sym (vector_at rows k d)));
        continues = steps.go_on old.terms.table mid.terms.table new.terms.table is.continues sums.leaves;
      }

      -- the sum wasn't found
      pub sum_error : (came : TableError) (result : Result Bool TableError) → IsErrAnd result (λ e. e ≡ came)
          → Sums (map held_of rows) places row_is current mid new (Err came) → TakesEquation places equation rows rows old new result
      sum_error came (Ok refuted) error sums = absurd error
      sum_error came (Err error) same sums = record {
        goes_on = λ whole. sums.goes_on (other_whole came error same whole);
        owns = λ whole. sums.owns (other_whole came error same whole);
        keeps = λ whole. keeps_further steps (map held_of rows) old mid new is.keeps (sums.keeps (other_whole came error same whole));
        refuted = tt;
        reduced = λ equations reduced. tt;
        leaves = subst (λ (e : TableError). Leaves old.terms.table new.terms.table (Some e)) (sym same)
            (steps.leave old.terms.table mid.terms.table new.terms.table (Some came) is.continues sums.leaves);
      }

      -- the empty clause came
      pub sum_none : Sums (map held_of rows) places row_is current mid new (Ok None)
          → TakesEquation places equation rows rows old new (Ok true)
      sum_none sums = record {
        goes_on = λ whole. sums.goes_on no_error;
        owns = λ whole. sums.owns no_error;
        keeps = λ whole. keeps_further steps (map held_of rows) old mid new is.keeps (sums.keeps no_error);
        refuted = sums.found;
        reduced = λ equations reduced none. absurd (let e : true ≡ false = none in cc);
        leaves = steps.go_on old.terms.table mid.terms.table new.terms.table is.continues sums.leaves;
      }

    -- nothing is left: 0 = 0
    pub taken_nothing : Canonical → Cofactors → (new : Runner S) → current.variables.items ≡ [] → Releases (held_of current) mid new
        → TakesEquation places equation rows rows old new (Ok false)
    taken_nothing canonical cofactors new none releases =
        let goes : Goes (map held_of rows) mid new =
        goes_released mid new is.runner (held_of current) (map held_of rows) is.owns releases in
        let each = rows_kept mid new places rows is.each goes.keeps (map held_of rows) goes.owns (λ held among. among) in
        record {
          goes_on = λ whole. goes.runner;
          owns = λ whole. goes.owns;
          keeps = λ whole. keeps_further steps (map held_of rows) old mid new is.keeps goes.keeps;
          refuted = goes.refuted ∙ is.unrefuted;
          reduced = λ equations reduced unrefuted.
              reduced_kept mid new places rows (equations ++ equation ∷ [])
              (reduced_nothing mid places rows equations (reduced_kept old mid places rows equations reduced is.each is.keeps.order)
              equation current is.left
              (nothing_left canonical cofactors mid is.runner places current is.row none stands))
              each goes.keeps.order;
          leaves = steps.go_on old.terms.table mid.terms.table new.terms.table is.continues goes.continues;
        }

    -- what is left is a row
    pub taken_row : ArePlaces old.terms.table.graph.order places → NoneHasFirst rows current → 0 < length current.variables.items
        → TakesEquation places equation rows (rows ++ current ∷ []) old mid (Ok false)
    taken_row inverse none some = record {
      goes_on = λ whole. is.runner;
      owns = λ whole. subst (λ (terms : List HeldTerm). Owns terms mid.terms.out.items) (sym (map_with held_of rows current))
          (owns_with (held_of current) (map held_of rows) mid.terms.out.items is.owns);
      keeps = λ whole. is.keeps;
      refuted = is.unrefuted;
      reduced = λ equations reduced unrefuted. by_shape equations reduced current.variables.items refl some;
      leaves = is.continues;
    }
      where
        by_shape : (equations : List (List ℕ × Bool)) → AreReduced old places rows equations → (variables : List ℕ)
            → current.variables.items ≡ variables → 0 < length variables
            → AreReduced mid places (rows ++ current ∷ []) (equations ++ equation ∷ [])
        by_shape equations reduced [] shape some = absurd (omega (arith, some))
        by_shape equations reduced (variable ∷ more) shape some =
            reduced_row mid places rows equations (reduced_kept old mid places rows equations reduced is.each is.keeps.order)
            equation current is.left is.runner.over.sound.tied.ordered
            (subst (λ (order : List ℕ). ArePlaces order places) (sym is.keeps.order) inverse) is.row none variable more shape
