-- The bounds of a step, from what the runner's call costs.
use Rattle.std.proofs.Common.{◌≡◌, ◌∙◌, ◌≤◌, ◌+◌, ℕ, zero, suc, Bool, true, false, List, [], ◌∷◌, Contains, Option, Some}
use Rattle.std.proofs.Common.{Ok, Err, Result, length, map, refl, sym, ap, subst, arith}
use Rattle.std.specs.Prelude.{IsErrAnd, IsTrue}
use Rattle.cnf_base.specs.Truth.{Assignment}
use Rattle.node_table.specs.declared.error.TableError.{TableError}
use Rattle.node_table.specs.declared.error.TableError.TheVariants.{NodeLimit}
use Rattle.node_table.specs.declared.node.Node.{Node}
use Rattle.node_table.specs.Diagram.{Graph, levels}
use Rattle.node_table.specs.Laws.{Growth}
use Rattle.node_table.specs.Progress.{error_of}
use Rattle.node_table.specs.Value.{Levels}
use Rattle.clause_terms.specs.Term.{by_variable}
use Rattle.quantify.specs.SomeValues.{function_of}
use Rattle.bdd_terms.specs.declared.held.HeldTerm.{HeldTerm}
use Rattle.bdd_terms.specs.declared.runner.Runner.{Runner}
use Rattle.bdd_terms.specs.declared.term.Term.{Term}
use Rattle.bdd_terms.specs.Caches.{HaveSize}
use Rattle.bdd_terms.specs.Counting.{Counting, IsPartOfOne}
use Rattle.bdd_terms.specs.Parity.{TakesNode, TakesWeaker, node_holds}
use Rattle.bdd_terms.specs.Price.{IsMovePrice}
use Rattle.bdd_terms.specs.Runner.{IsRunner, Releases}
use Rattle.bdd_terms.specs.Takes.{Costs, asked_in, function_in, functions_out}
use Rattle.bdd_terms.specs.Parts.{AreMore, HasAtMost}
use Rattle.parity_terms.specs.Limit.{IsBounded, by_levels, functions_of, in_hand}
use Rattle.parity_terms.specs.Owned.{Owns}
use Rattle.parity_terms.specs.Steps.{Goes}
use Rattle.parity_terms.proofs.InHand.{functions_keep}
use Rattle.parity_terms.proofs.Owned.{owned_there}

-- a list's functions are those of its terms
later : {X : Type 0} (x y : X) (xs : List X) → Contains xs y → Contains (x ∷ xs) y
later x y xs there = (suc there.0, let small = there.1 in omega (arith, small), there.2)

among_functions : (graph : Graph) (list : List HeldTerm) (held : HeldTerm) → Contains list held
    → Contains (functions_of graph list) (function_of graph held.node)
among_functions graph [] held there = absurd (let small = there.1 in omega (arith, small))
among_functions graph (first ∷ list) held (zero, small, at) = (zero, omega arith, ap (λ (h : HeldTerm). function_of graph h.node) at)
among_functions graph (first ∷ list) held (suc k, small, at) =
    later (function_of graph first.node) (function_of graph held.node) (functions_of graph list)
    (among_functions graph list held (k, omega (arith, small), at))

of_out : {S : Type 0} (runner : Runner S) (list : List HeldTerm) (f : Levels → Bool) → Contains (map (function_in runner) list) f
    → (held : HeldTerm) × Contains list held × (function_in runner held ≡ f)
of_out runner [] f there = absurd (let small = there.1 in omega (arith, small))
of_out runner (held ∷ list) f (zero, small, at) = (held, (zero, omega arith, refl), at)
of_out runner (held ∷ list) f (suc k, small, at) =
    let was = of_out runner list f (k, omega (arith, small), at) in (was.0, later held was.0 list was.1, was.2)

-- what is out is in hand, where it is owned
module _ {S : Type 0} (runner : Runner S) (terms : List HeldTerm) (owns : Owns terms runner.terms.out.items) where
  out_among : (f : Levels → Bool) → Contains (functions_out runner) f → Contains (functions_of runner.terms.table.graph terms) f
  out_among f there =
      let found = of_out runner runner.terms.out.items f there in
      subst (λ (g : Levels → Bool). Contains (functions_of runner.terms.table.graph terms) g) found.2
      (among_functions runner.terms.table.graph terms found.0 (owned_there found.0 terms runner.terms.out.items owns found.1))

-- the same size, by the limits
same_size : {S : Type 0} (runner : Runner S) → IsRunner runner → (size : ℕ) → HaveSize runner.terms.caches size
    → runner.limits.cache ≡ size
same_size runner is size have = first (sym is.within.size ∙ have)
  where
    first : ◌≡◌ {A = List ℕ} (runner.limits.cache ∷ runner.limits.cache ∷ runner.limits.cache ∷ runner.limits.cache ∷ runner.limits.cache
        ∷ []) (size ∷ size ∷ size ∷ size ∷ size ∷ []) → runner.limits.cache ≡ size
    first same = cc

-- more parts, of more functions
more_parts : (some all : List (Levels → Bool)) → ((f : Levels → Bool) → Contains some f → Contains all f) → (number : ℕ)
    → AreMore (IsPartOfOne some) number → AreMore (IsPartOfOne all) number
more_parts some all within number more = record {
  parts = more.parts;
  more = more.more;
  are = λ place small.
      let is = more.are place small in
      record { function = is.function; among = within is.function is.among; is_part = is.is_part };
  essential = more.essential;
  differ = more.differ;
}

error_of_limit : (result : Result Term TableError) → result ≡ Err NodeLimit → error_of result ≡ Some NodeLimit
error_of_limit result is = ap error_of is

-- A call of the runner.
module _ {S : Type 0} (terms : List HeldTerm) (holds : Assignment → Bool) (old : Runner S) (runner : IsRunner old)
    (owns : Owns terms old.terms.out.items) where
  in_hand_among : (f : Levels → Bool) → Contains (asked_in old holds ∷ functions_out old) f → Contains (in_hand old holds terms) f
  in_hand_among f (zero, small, at) = (zero, omega arith, at)
  in_hand_among f (suc k, small, at) =
      later (by_levels old.terms.table.graph holds) f (functions_of old.terms.table.graph terms)
      (out_among old terms owns f (k, omega (arith, small), at))

  short_of : (new : Runner S) (error : Option TableError) → Costs (asked_in old holds ∷ functions_out old) old new error
      → error ≡ Some NodeLimit → AreMore (IsPartOfOne (in_hand old holds terms)) old.limits.max_nodes
  short_of new error costs is = more_parts (asked_in old holds ∷ functions_out old) (in_hand old holds terms) in_hand_among old.limits.max_nodes
      (costs.short is)

  paid_of : (new : Runner S) (error : Option TableError) → Costs (asked_in old holds ∷ functions_out old) old new error
      → (size width price : ℕ) → HaveSize old.terms.caches size → IsMovePrice (levels old.terms.table.graph) size width price
      → ((f : Levels → Bool) → Contains (in_hand old holds terms) f → HasAtMost f width)
      → new.terms.table.book.state.top ≤ old.terms.table.book.state.top + price
  paid_of new error costs size width price have is few =
      costs.paid width price (λ f there. few f (in_hand_among f there))
      (subst (λ (n : ℕ). IsMovePrice (levels old.terms.table.graph) n width price) (sym (same_size old runner size have)) is)

  pub bounded_of : (new : Runner S) (result : Result Term TableError)
      → Costs (asked_in old holds ∷ functions_out old) old new (error_of result) → IsBounded terms holds old new result
  bounded_of new result costs = record {
    short = λ is. short_of new (error_of result) costs (error_of_limit result is);
    costs = paid_of new (error_of result) costs;
  }

-- A sum's node wasn't made,
pub bounded_torn_node : {S : Type 0} (terms : List HeldTerm) (holds : Assignment → Bool) (old new : Runner S) → IsRunner old
    → Owns terms old.terms.out.items → (came : TableError) → TakesNode holds old new (Err came) → (result : Result Term TableError)
    → IsErrAnd result (λ e. e ≡ came) → IsBounded terms holds old new result
bounded_torn_node terms holds old new runner owns came takes (Ok term) handed = absurd handed
bounded_torn_node terms holds old new runner owns came takes (Err e) handed =
    subst (λ (e : TableError). IsBounded terms holds old new (Err e)) (sym handed)
    (bounded_of terms holds old runner owns new (Err came) takes.costs)

-- or it was: then the term takes what is left of a move's price.
module _ {S : Type 0} (counting : Counting S) (growth : Growth) (terms : List HeldTerm) (holds : Assignment → Bool) (old mid : Runner S)
    (runner : IsRunner old) (owns : Owns terms old.terms.out.items) (node : Node) (found : TakesNode holds old mid (Ok node))
    (goes : Goes terms old mid) (u : HeldTerm) where
  asked_same : asked_in mid (node_holds mid.terms.table.graph node) ≡ asked_in old holds
  asked_same = λ i a.
      (found.node.value (by_variable mid.terms.table.graph.order a) ∙ (λ j. holds (by_variable (goes.keeps.order j) a))) i

  mid_among : (f : Levels → Bool) → Contains (asked_in mid (node_holds mid.terms.table.graph node) ∷ functions_out mid) f
      → Contains (in_hand old holds terms) f
  mid_among f (zero, small, at) = (zero, omega arith, sym asked_same ∙ at)
  mid_among f (suc k, small, at) =
      let there = out_among mid terms goes.owns f (k, omega (arith, small), at) in
      later (by_levels old.terms.table.graph holds) f (functions_of old.terms.table.graph terms)
      (subst (λ (l : List (Levels → Bool)). Contains l f) (functions_keep counting growth terms old mid runner owns goes.runner goes.keeps)
      there)

  pub bounded_by_node : (new : Runner S) (weaker : Result (Option Term) TableError) → TakesWeaker u node mid new weaker
      → (result : Result Term TableError) → (result ≡ Err NodeLimit → ⊥) → IsBounded terms holds old new result
  bounded_by_node new weaker takes result none = record {
    short = λ is. absurd (none is);
    costs = λ size width price have is few.
        let first = found.few width (few (by_levels old.terms.table.graph holds) (zero, omega arith, refl)) in
        let same_limits = ap (λ l. l.cache) goes.keeps.limits in
        let here = subst (λ (n : ℕ). IsMovePrice (levels old.terms.table.graph) n width price)
        (sym (same_limits ∙ same_size old runner size have)) is in
        let second = takes.spare width price (λ f there. few f (mid_among f there))
        (subst (λ (n : ℕ). IsMovePrice n mid.limits.cache width price) (sym (ap length goes.keeps.order)) here) in
        omega (arith, first, second);
  }

-- a release gives no number
pub released_top : {S : Type 0} (held : HeldTerm) (mid new : Runner S)
    → (IsTrue mid.terms.table.book.in_step → Releases held mid new) → (mid.terms.table.book.in_step ≡ false → new ≡ mid)
    → new.terms.table.book.state.top ≡ mid.terms.table.book.state.top
released_top held mid new released torn = by_step mid.terms.table.book.in_step refl
  where
    by_step : (b : Bool) → mid.terms.table.book.in_step ≡ b → new.terms.table.book.state.top ≡ mid.terms.table.book.state.top
    by_step true is = ap (λ t. t.book.state.top) (released is).table
    by_step false is = ap (λ r. r.terms.table.book.state.top) (torn is)

-- so a step's bounds are those of the step and the release
pub bounded_released : {S : Type 0} (terms : List HeldTerm) (holds : Assignment → Bool) (old mid new : Runner S)
    (result : Result Term TableError) → new.terms.table.book.state.top ≡ mid.terms.table.book.state.top
    → IsBounded terms holds old mid result → IsBounded terms holds old new result
bounded_released terms holds old mid new result same bounded = record {
  short = bounded.short;
  costs = λ size width price have is few. let own = bounded.costs size width price have is few in omega (arith, own, same);
}
