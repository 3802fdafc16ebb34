-- The terms between those of a set of variables that is quantified at once, and their functions by levels.
use Rattle.std.proofs.Common.{◌≡◌, ◌∙◌, ◌++◌, ◌+◌, ◌<◌, ◌||◌, ℕ, zero, suc, Bool, true, false, List, [], ◌∷◌, Contains, drop, length, map}
use Rattle.std.proofs.Common.{reverse, take, refl, sym, ap, arith, inl, inr}
use Rattle.std.specs.Prelude.{◌==◌, if◌then◌else◌, slice_index_or}
use Rattle.std.specs.List.{position_or_len}
use Rattle.std.proofs.lemmas.List.{length-map, reverse-append}
use Rattle.cnf_base.specs.Truth.{Assignment, with_value}
use Rattle.cnf_base.specs.Formula.{Formula}
use Rattle.clause_terms.specs.Term.{by_variable}
use Rattle.node_table.specs.declared.node.Node.{Node}
use Rattle.node_table.specs.Diagram.{Graph, IsOrder, IsReduced, is_node, levels, variable_at}
use Rattle.node_table.specs.Value.{IsSubfunction, Levels, by_level, fixed_to, value_of}
use Rattle.operations.specs.Results.{with_level}
use Rattle.quantify.specs.SomeValues.{AreRising, IsFromPlace, function_of, some_values}
use Rattle.reconstruction.specs.SetsBack.{holds_by}
use Rattle.schedule_plan.specs.Plan.{Stage, Term, some_value, term_holds}
use Rattle.schedule_plan.specs.SetMove.{quantified_by, trail_by}
use Rattle.term_runner.specs.Nodes.{IsGivenPart}
use Rattle.bdd_terms.specs.Parts.{term_function}
use Rattle.term_runner.proofs.FewLeft.{fresh_given, result_given}
use Rattle.bdd_terms.proofs.Places.{agree_within, place_of_variable, value_there}
use Rattle.bdd_terms.proofs.Quantified.{set_there}

-- the term that the last of these variables was quantified from first, and the first one last
abbrev pub without : List ℕ → Term → Term
without [] top = top
without (x ∷ xs) top = some_value x (without xs top)

-- those terms, with their variables
abbrev pub between : List ℕ → Term → List (ℕ × Term)
between [] top = []
between (x ∷ xs) top = (x, without xs top) ∷ between xs top

one_more : (ys : List ℕ) (x : ℕ) (top : Term) → quantified_by (ys ++ x ∷ []) top ≡ some_value x (quantified_by ys top)
one_more [] x top = refl
one_more (y ∷ ys) x top = one_more ys x (some_value y top)

pub without_is : (xs : List ℕ) (top : Term) → quantified_by (reverse xs) top ≡ without xs top
without_is [] top = refl
without_is (x ∷ xs) top = ap (λ (l : List ℕ). quantified_by l top) (reverse-append (x ∷ []) xs) ∙ one_more (reverse xs) x top ∙ ap (some_value x) (without_is xs top)

trail_more : (ys : List ℕ) (x : ℕ) (top : Term) (trail : List (ℕ × Term)) → trail_by (ys ++ x ∷ []) top trail
    ≡ (x, quantified_by ys top) ∷ trail_by ys top trail
trail_more [] x top trail = refl
trail_more (y ∷ ys) x top trail = trail_more ys x (some_value y top) ((y, top) ∷ trail)

pub between_is : (xs : List ℕ) (top : Term) → trail_by (reverse xs) top [] ≡ between xs top
between_is [] top = refl
between_is (x ∷ xs) top = ap (λ (l : List ℕ). trail_by l top []) (reverse-append (x ∷ []) xs) ∙ trail_more (reverse xs) x top [] ∙ (λ k. (x, without_is xs top k) ∷ between_is xs top k)

-- some values of the variables make the term true
pub holds_without : (formula : Formula) (xs : List ℕ) (top : Term) (a : Assignment) → holds_by (λ b. term_holds formula b top) xs a
    ≡ term_holds formula a (without xs top)
holds_without formula [] top a = refl
holds_without formula (x ∷ xs) top a = λ k. holds_without formula xs top (with_value a x true) k
    || holds_without formula xs top (with_value a x false) k

-- each term from the second on stands between, with the variable that is quantified from it
pub there_between : (xs : List ℕ) (top : Term) (place : ℕ) → place < length xs
    → Contains (between xs top) (slice_index_or xs place 0, without (drop (suc place) xs) top)
there_between [] top place small = absurd (omega (arith, small))
there_between (x ∷ xs) top zero small = (zero, omega arith, refl)
there_between (x ∷ xs) top (suc place) small =
    let further = there_between xs top place (omega (arith, small)) in
    (suc further.0, omega (arith, further.1), further.2)

-- a level of the set that stands before a place
before_place : (set : List ℕ) (place : ℕ) → place < length set → Contains (take (suc place) set) (slice_index_or set place 0)
before_place [] place small = absurd (omega (arith, small))
before_place (level ∷ more) zero small = (zero, omega arith, refl)
before_place (level ∷ more) (suc place) small =
    let further = before_place more place (omega (arith, small)) in
    (suc further.0, omega (arith, further.1), further.2)

variable_is : (f : ℕ → ℕ) (set : List ℕ) (place : ℕ) → place < length set → slice_index_or (map f set) place 0 ≡ f (slice_index_or set place 0)
variable_is f [] place small = absurd (omega (arith, small))
variable_is f (level ∷ more) zero small = refl
variable_is f (level ∷ more) (suc place) small = variable_is f more place (omega (arith, small))

below_levels : (first bound : ℕ) (set : List ℕ) → AreRising first bound set → (place : ℕ) → place < length set
    → slice_index_or set place 0 < bound
below_levels first bound [] rising place small = absurd (omega (arith, small))
below_levels first bound (level ∷ more) rising zero small = rising.1.0
below_levels first bound (level ∷ more) rising (suc place) small =
    below_levels (level + 1) bound more rising.1.1 place (omega (arith, small))

pub below_bound : (first bound : ℕ) (set : List ℕ) → AreRising first bound set → (place : ℕ) → AreRising 0 bound (drop place set)
below_bound first bound [] rising zero = tt
below_bound first bound [] rising (suc place) = tt
below_bound first bound (level ∷ more) rising zero = (omega arith, rising.1)
below_bound first bound (level ∷ more) rising (suc place) = below_bound (level + 1) bound more rising.1.1 place

drop_map : (f : ℕ → ℕ) (place : ℕ) (xs : List ℕ) → map f (drop place xs) ≡ drop place (map f xs)
drop_map f zero xs = refl
drop_map f (suc place) [] = refl
drop_map f (suc place) (x ∷ xs) = drop_map f place xs

-- a node's function without the variables of these levels
module _ (graph : Graph) (reduced : IsReduced graph) (ordered : IsOrder graph.order) (formula : Formula) (top : Term) (u : Node)
    (stands : is_node graph u ≡ true)
    (same : (a : Assignment) → value_of graph (by_level graph.order a) u ≡ term_holds formula a top) where
  pub value_without : (set : List ℕ) (first : ℕ) → AreRising first (levels graph) set → (a : Assignment) (b : Levels)
      → ((i : ℕ) → i < levels graph → b i ≡ by_level graph.order a i)
      → some_values set (function_of graph u) b ≡ term_holds formula a (without (map (variable_at graph) set) top)
  value_without [] first rising a b agree =
      agree_within graph reduced ordered (levels graph) b (by_level graph.order a) u stands agree ∙ same a
  value_without (level ∷ more) first rising a b agree =
      λ k. value_without more (level + 1) rising.1.1 (with_value a (variable_at graph level) true) (with_level b level true) (set_in true) k
      || value_without more (level + 1) rising.1.1 (with_value a (variable_at graph level) false) (with_level b level false) (set_in false) k
    where
      set_in : (value : Bool) (i : ℕ) → i < levels graph
          → with_level b level value i ≡ by_level graph.order (with_value a (variable_at graph level) value) i
      set_in value i small =
          (λ k. if i == level then value else agree i small k)
          ∙ set_there graph reduced ordered level (variable_at graph level) rising.1.0 refl a value i small

  pub function_without : (set : List ℕ) (first : ℕ) → AreRising first (levels graph) set
      → some_values set (function_of graph u) ≡ term_function formula graph.order (without (map (variable_at graph) set) top)
  function_without set first rising = λ k a. value_without set first rising (by_variable graph.order a) a
      (λ i small. sym (value_there graph reduced ordered a i small)) k

  -- a part of it without those from some place on, with those before fixed, is one that the move makes
  pub part_given : (set : List ℕ) → AreRising 0 (levels graph) set → (before after : Stage) (rest : List Term)
      → after.stack ≡ without (map (variable_at graph) set) top ∷ rest
      → after.trail ≡ between (map (variable_at graph) set) top ++ before.trail
      → (part : Levels → Bool) → IsFromPlace (function_of graph u) set part → IsGivenPart formula graph.order before after part
  part_given set rising before after rest stack trail part from = by_place from.place from.within from.is_part from.behind
    where
      is_part_of : (place : ℕ) (is_part : IsSubfunction (some_values (drop place set) (function_of graph u)) part)
          → (a : Levels) → part a ≡ term_function formula graph.order (without (map (variable_at graph) (drop place set)) top)
          (fixed_to is_part.level is_part.fixed a)
      is_part_of place is_part a =
          is_part.same a ∙ (λ k. function_without (drop place set) 0 (below_bound 0 (levels graph) set rising place) k
          (fixed_to is_part.level is_part.fixed a))

      by_place : (place : ℕ) → place < length set → (is_part : IsSubfunction (some_values (drop place set) (function_of graph u)) part)
          → ((level : ℕ) → Contains (take place set) level → level < is_part.level) → IsGivenPart formula graph.order before after part
      by_place zero small is_part behind = inl (record {
        term = without (map (variable_at graph) set) top;
        is_result = result_given after _ rest stack;
        is_part = record { level = is_part.level; fixed = is_part.fixed; same = is_part_of zero is_part };
      })
      by_place (suc place) small is_part behind =
          let few : place < length set = omega (arith, small) in
          let level = slice_index_or set place 0 in
          inr (record {
            kept = (slice_index_or (map (variable_at graph) set) place 0, without (drop (suc place) (map (variable_at graph) set)) top);
            fresh = fresh_given before after (between (map (variable_at graph) set) top) _ trail
                (there_between (map (variable_at graph) set) top place (omega (arith, few, length-map set (variable_at graph))));
            is_part = record {
              level = is_part.level;
              fixed = is_part.fixed;
              same = λ a. is_part_of (suc place) is_part a
                  ∙ (λ k. term_function formula graph.order (without (drop_map (variable_at graph) (suc place) set k) top)
                  (fixed_to is_part.level is_part.fixed a));
            };
            behind =
                let own = behind level (before_place set place few) in
                let there = (λ k. position_or_len (λ (x : ℕ). x == variable_is (variable_at graph) set place few k) graph.order)
                ∙ place_of_variable graph reduced ordered level (below_levels 0 (levels graph) set rising place few) in
                omega (arith, own, there);
          })
