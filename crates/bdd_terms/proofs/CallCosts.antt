-- What a call costs: one try half of a move's price, and at the limit of nodes behind a reclamation more parts are wanted than nodes are
-- allowed. What a reclamation leaves are no more nodes than parts of the terms.
use Rattle.std.proofs.Common.{◌≡◌, ◌∙◌, ◌≤◌, ◌+◌, ◌*◌, ℕ, Bool, true, List, [], ◌∷◌, length, map, Contains, Option, None, Some, Ok, Err}
use Rattle.std.proofs.Common.{Result, nat_cmp, refl, sym, ap, subst, arith, inl, inr}
use Rattle.std.specs.Prelude.{IsErrAnd, is_some}
use Rattle.cnf_base.specs.Truth.{Assignment}
use Rattle.node_table.specs.declared.error.TableError.{TableError}
use Rattle.node_table.specs.declared.error.TableError.TheVariants.{NodeLimit}
use Rattle.node_table.specs.declared.node.Branch.{Branch}
use Rattle.node_table.specs.Diagram.{Graph, branch_at, is_node, levels}
use Rattle.node_table.specs.Laws.{Canonical, Growth}
use Rattle.node_table.specs.Made.{inner}
use Rattle.node_table.specs.Progress.{Leaves, error_of}
use Rattle.node_table.specs.Table.{live_nodes}
use Rattle.node_table.specs.Value.{IsSubfunction, Levels, value_of}
use Rattle.quantify.specs.SomeValues.{function_of}
use Rattle.clause_terms.specs.Term.{by_variable}
use Rattle.schedule_plan.specs.declared.limits.Limits.{Limits}
use Rattle.bdd_terms.specs.declared.held.HeldTerm.{HeldTerm}
use Rattle.bdd_terms.specs.declared.runner.Runner.{Runner}
use Rattle.bdd_terms.specs.declared.term.Term.{Term}
use Rattle.bdd_terms.specs.Counting.{Counting, IsPartOfOne}
use Rattle.bdd_terms.specs.Finds.{AreFew}
use Rattle.bdd_terms.specs.Full.{IsFull}
use Rattle.bdd_terms.specs.Price.{IsMovePrice}
use Rattle.bdd_terms.specs.Runner.{Gives, IsGood, IsRunner, holds_in, nodes_of}
use Rattle.bdd_terms.specs.Takes.{Costs, GivesBack, KeepsTerms, asked_in, function_in, functions_out}
use Rattle.bdd_terms.specs.Tidy.{LeavesReached}
use Rattle.bdd_terms.specs.Parts.{AreMore, HasAtMost}
use Rattle.bdd_terms.proofs.FunctionParts.{constant_few, few_of_one, first_among, later_among, made_one, map_same, more_of, one_part}
use Rattle.bdd_terms.proofs.FunctionParts.{part_within}
use Rattle.bdd_terms.proofs.Kept.{good_proved}
use Rattle.bdd_terms.proofs.NewNodes.{few_made}
use Rattle.bdd_terms.proofs.Reclaimed.{in_map, of_map}
use Rattle.bdd_terms.proofs.Rests.{Rests, none_at_limit}
use Rattle.std.specs.FinMap as finmap

-- a call that ended with this error
pub error_is : {T : Type 0} (result : Result T TableError) (e : TableError) → error_of result ≡ Some e → result ≡ Err e
error_is (Ok x) e is = absurd (let no : ◌≡◌ {A = Option TableError} None (Some e) = is in cc)
error_is (Err error) e is =
    let same : error ≡ e = (let whole : ◌≡◌ {A = Option TableError} (Some error) (Some e) = is in cc) in ap Err same

-- terms that a call may take
abbrev pub AreGood : {S : Type 0} → Runner S → List HeldTerm → Type 0
AreGood runner operands = (held : HeldTerm) → Contains operands held → IsGood runner held

-- each of these functions has few parts
abbrev pub EachFew : List (Levels → Bool) → ℕ → Type 0
EachFew functions width = (function : Levels → Bool) → Contains functions function → HasAtMost function width

pub each_fewer : (some all : List (Levels → Bool)) → ((f : Levels → Bool) → Contains some f → Contains all f) → (width : ℕ)
    → EachFew all width → EachFew some width
each_fewer some all within width few f there = few f (within f there)

module _ {S : Type 0} (counting : Counting S) where
  -- a term's function by levels
  pub function_is : (runner : Runner S) → IsRunner runner → (held : HeldTerm) → IsGood runner held → (holds : Assignment → Bool)
      → ((a : Assignment) → holds_in runner held a ≡ holds a) → function_in runner held ≡ asked_in runner holds
  function_is runner is held good holds value = λ i a.
      counting.by_levels runner.terms.table.graph is.over.sound.tied.reduced is.over.sound.tied.ordered held.node
      (good_proved runner is held good).stands holds value a i

  -- and that of one that stays
  pub function_kept : (old new : Runner S) → IsRunner old → IsRunner new → new.terms.table.graph.order ≡ old.terms.table.graph.order
      → KeepsTerms old new → (held : HeldTerm) → IsGood old held → function_in new held ≡ function_in old held
  function_kept old new is_old is_new order keeps held good =
      function_is new is_new held (keeps.good held good) (holds_in old held) (keeps.values held good)
      ∙ (λ i a. holds_in old held (by_variable (order i) a))
      ∙ sym (function_is old is_old held good (holds_in old held) (λ a. refl))

  -- so those of all that are out
  pub functions_rest : (old new : Runner S) → IsRunner old → Rests old new → functions_out new ≡ functions_out old
  functions_rest old new is rests =
      ap (map (function_in new)) rests.out
      ∙ map_same (function_in new) (function_in old) old.terms.out.items
      (λ held there. function_kept old new is rests.runner rests.order rests.keeps held (inr there))

-- a term that may be taken is constant, or in hand
pub good_few : {S : Type 0} (runner : Runner S) (width : ℕ) → EachFew (functions_out runner) width → (held : HeldTerm) → IsGood runner held
    → HasAtMost (function_in runner held) width
good_few runner width few held (inl is) =
    constant_few (function_in runner held) true (λ a i. value_of runner.terms.table.graph a (is i).node) width
good_few runner width few held (inr among) = few (function_in runner held) (in_map (function_in runner) runner.terms.out.items held among)

pub operands_few : {S : Type 0} (runner : Runner S) (width : ℕ) → EachFew (functions_out runner) width → (operands : List HeldTerm)
    → AreGood runner operands → AreFew runner.terms.table.graph operands width
operands_few runner width few [] good = tt
operands_few runner width few (held ∷ operands) good = (
  good_few runner width few held (good held (first_among held operands)),
  operands_few runner width few operands (λ other there. good other (later_among held other operands there)),
)

-- One try of a call.
module _ {S : Type 0} (counting : Counting S) (old new : Runner S) (runner : IsRunner old) (function : Levels → Bool)
    (holds : Assignment → Bool) (operands : List HeldTerm) (good : AreGood old operands) (found : Result Term TableError)
    (gives : Gives function holds operands old new found) where
  -- half of a move's price
  pub half : (width price : ℕ) → EachFew (function ∷ functions_out old) width
      → IsMovePrice (levels old.terms.table.graph) old.limits.cache width price
      → 2 * new.terms.table.book.state.top ≤ 2 * old.terms.table.book.state.top + price
  half width price few is =
      let own = few function (first_among function (functions_out old)) in
      counting.price (function ∷ []) width old.limits.cache price old.terms.table new.terms.table (error_of found) (record {
        leaves = gives.leaves;
        nodes = gives.nodes;
        made = made_one old.terms.table.graph new.terms.table.graph function gives.made;
        most = few_of_one function width own;
        adds = gives.adds;
        pairs = λ room. gives.pairs width (record { size = old.limits.cache; have = runner.within.size; room = room })
            (operands_few old width (λ f there. few f (later_among function f (functions_out old) there)) operands good) own;
      }) is

  -- all that it costs, where it didn't meet the limit of nodes
  pub costs_found : (found ≡ Err NodeLimit → ⊥) → Costs (function ∷ functions_out old) old new (error_of found)
  costs_found within = record {
    short = λ is. absurd (within (error_is found NodeLimit is));
    paid = λ width price few is. let one = half width price few is in omega (arith, one);
    left = λ width most. inl gives.left;
  }

-- the functions are some of others
pub costs_within : {S : Type 0} (old new : Runner S) (some all : List (Levels → Bool))
    → ((f : Levels → Bool) → Contains some f → Contains all f) → (error : Option TableError) → Costs some old new error
    → Costs all old new error
costs_within old new some all within error costs = record {
  short = λ is. more_of (IsPartOfOne some) (IsPartOfOne all) (part_within some all within) old.limits.max_nodes old.limits.max_nodes
      (omega arith) (costs.short is);
  paid = λ width price few is. costs.paid width price (each_fewer some all within width few) is;
  left = λ width most. costs.left width (λ more. most (more_of (IsPartOfOne some) (IsPartOfOne all) (part_within some all within) width width
      (omega arith) more));
}

-- an error that is handed on
pub costs_handed : {S T : Type 0} (functions : List (Levels → Bool)) (old new : Runner S) (came : TableError) (r : Result T TableError)
    → IsErrAnd r (λ e. e ≡ came) → Costs functions old new (Some came) → Costs functions old new (error_of r)
costs_handed functions old new came (Ok x) is costs = absurd is
costs_handed functions old new came (Err e) is costs = subst (λ (e : TableError). Costs functions old new (Some e)) (sym is) costs

-- Nodes that the terms of a runner reach.
module _ {S : Type 0} (counting : Counting S) (one mid : Runner S)
    (reached : LeavesReached one.terms.table.graph mid.terms.table.graph (nodes_of one.terms.out.items)) where
  -- each is of a part of one of these
  pub reached_part : (key : ℕ) (branch : Branch) → branch_at mid.terms.table.graph key ≡ Some branch
      → IsPartOfOne (functions_out one) (function_of mid.terms.table.graph (inner key))
  reached_part key branch at =
      let by = reached.reached key branch at in
      let stands = reached.stand by.root by.is_root in
      let sub = counting.reached mid.terms.table.graph reached.reduced by.root (inner key) stands by.reaches in
      let held = of_map (λ (h : HeldTerm). h.node) one.terms.out.items by.root by.is_root in
      record {
        function = function_in one held.0;
        among = in_map (function_in one) one.terms.out.items held.0 held.1;
        is_part = record {
          level = sub.level;
          fixed = sub.fixed;
          same = λ a. sub.same a ∙ reached.value _ by.root stands ∙ ap (value_of one.terms.table.graph _) (sym held.2);
        };
      }

  -- so there are no more of them than parts
  pub few_reached : Canonical → (width : ℕ) → (AreMore (IsPartOfOne (functions_out one)) width → ⊥)
      → live_nodes mid.terms.table.graph ≤ width
  few_reached canonical width most =
      let graph = mid.terms.table.graph in
      let none : Graph = record { order = graph.order; nodes = finmap.empty } in
      let nothing : (key : ℕ) (branch : Branch) → branch_at none key ≡ Some branch → ⊥ = λ key branch at. (
      let gone : branch_at none key ≡ None = finmap.get-empty nat_cmp key in
      let no : ◌≡◌ {A = Option Branch} None (Some branch) = sym gone ∙ at in cc
      ) in
      let few = few_made none graph (record { order = refl; nodes = λ key branch at. absurd (nothing key branch at) }) canonical
      reached.reduced (IsPartOfOne (functions_out one)) (λ key branch at new. reached_part key branch at) width most in
      omega (arith, few, finmap.len-empty nat_cmp Branch)

-- The first try met the limit of nodes, and a reclamation followed.
module _ {S : Type 0} (counting : Counting S) (old one mid : Runner S) (runner : IsRunner old) (function : Levels → Bool)
    (holds : Assignment → Bool) (operands : List HeldTerm) (good : AreGood old operands) (found : Result Term TableError)
    (gives : Gives function holds operands old one found) where
  -- it failed
  pub costs_unreclaimed : (came : TableError) → GivesBack one mid (Err came) → Costs (function ∷ functions_out old) old mid (Some came)
  costs_unreclaimed came back = record {
    short = λ is. absurd (none_at_limit {T = Term} one mid came back (ap Err (inside is)));
    paid = λ width price few is.
        let first = half counting old one runner function holds operands good found gives width price few is in
        let same = back.top in omega (arith, first, same);
    left = λ width most. inl (back.kept.1 ∙ gives.left);
  }
    where
      inside : ◌≡◌ {A = Option TableError} (Some came) (Some NodeLimit) → came ≡ NodeLimit
      inside is = cc

  -- the second try, for the same function
  module _ (count : ℕ) (back : GivesBack one mid (Ok count)) (to_one : Rests old one) (to_mid : Rests one mid) (again : Levels → Bool)
      (same : again ≡ function) (after : Assignment → Bool) (others : List HeldTerm) (good_others : AreGood mid others) (new : Runner S)
      (result : Result Term TableError) (more : Gives again after others mid new result) where
    abbrev all : List (Levels → Bool)
    all = function ∷ functions_out old

    out_one : functions_out one ≡ functions_out old
    out_one = functions_rest counting old one runner to_one

    all_mid : again ∷ functions_out mid ≡ all
    all_mid =
        let out_mid = functions_rest counting one mid to_one.runner to_mid ∙ out_one in
        λ i. same i ∷ out_mid i

    out_within : (f : Levels → Bool) → Contains (functions_out one) f → Contains all f
    out_within f there = later_among function f (functions_out old) (subst (λ (l : List (Levels → Bool)). Contains l f) out_one there)

    -- each node is of a part of what is in hand
    part_of : Growth → (key : ℕ) (branch : Branch) → branch_at new.terms.table.graph key ≡ Some branch
        → IsPartOfOne all (function_of new.terms.table.graph (inner key))
    part_of growth key branch at = elim (more.made.each key branch at) [
      | inr part ↦ one_part function all (first_among function (functions_out old)) (function_of new.terms.table.graph (inner key))
          (subst (λ (f : Levels → Bool). IsSubfunction f (function_of new.terms.table.graph (inner key))) same part)
      | inl there ↦
          let own = reached_part counting one mid back.reached key branch there in
          let here : is_node mid.terms.table.graph (inner key) ≡ true = (λ i. is_some (there i)) in
          record {
            function = own.function;
            among = out_within own.function own.among;
            is_part = record {
              level = own.is_part.level;
              fixed = own.is_part.fixed;
              same = λ a.
                  growth.value mid.terms.table.graph new.terms.table.graph back.reached.reduced more.nodes a (inner key) here
                  ∙ own.is_part.same a;
            };
          }
    ]

    short_again : Growth → result ≡ Err NodeLimit → AreMore (IsPartOfOne all) old.limits.max_nodes
    short_again growth is =
        let leaves = subst (λ (r : Result Term TableError). Leaves mid.terms.table new.terms.table (error_of r)) is more.leaves in
        let lacks = more.lacks is in
        let many = counting.more new.terms.table.graph leaves.0.sound.tied.reduced all (part_of growth) (record {
          part = lacks.part;
          is_one = one_part function all (first_among function (functions_out old)) lacks.part
              (subst (λ (f : Levels → Bool). IsSubfunction f lacks.part) same lacks.is_part);
          nowhere = lacks.nowhere;
        }) in
        let limit : mid.terms.table.max_nodes ≡ old.limits.max_nodes =
        to_mid.runner.within.max_nodes ∙ ap (λ l. l.max_nodes) (to_mid.same.limits ∙ to_one.same.limits) in
        let most = leaves.1 in
        let now = leaves.0.max_nodes in
        more_of (IsPartOfOne all) (IsPartOfOne all) (λ part is. is) old.limits.max_nodes (live_nodes new.terms.table.graph)
        (omega (arith, most, now, limit)) many

    pub full_again : result ≡ Err NodeLimit → IsFull new
    full_again is =
        let leaves = subst (λ (r : Result Term TableError). Leaves mid.terms.table new.terms.table (error_of r)) is more.leaves in
        record {
          full = leaves.1;
          wanted = record {
            out = one.terms.out.items;
            before = mid.terms.table.graph;
            reached = back.reached.reached;
            lacking = record { function = again; made = more.made; lacks = more.lacks is };
          };
        }

    pub left_again : Canonical → (width : ℕ) → (AreMore (IsPartOfOne all) width → ⊥) → new.terms.left ≤ width
    left_again canonical width most =
        let few = few_reached counting one mid back.reached canonical width (λ many. most (more_of (IsPartOfOne (functions_out one))
        (IsPartOfOne all) (part_within (functions_out one) all out_within) width width (omega arith) many)) in
        let same_left = more.left ∙ back.left in
        omega (arith, few, same_left)

    pub costs_again : Growth → Canonical → Costs all old new (error_of result)
    costs_again growth canonical = record {
      short = λ is. short_again growth (error_is result NodeLimit is);
      paid = λ width price few is.
          let first = half counting old one runner function holds operands good found gives width price few is in
          let limits = to_mid.same.limits ∙ to_one.same.limits in
          let order = ap length (to_mid.order ∙ to_one.order) in
          let second = half counting mid new to_mid.runner again after others good_others result more width price
          (subst (λ (l : List (Levels → Bool)). EachFew l width) (sym all_mid) few)
          (subst (λ (n : ℕ). IsMovePrice n mid.limits.cache width price) (sym order)
          (subst (λ (l : Limits). IsMovePrice (levels old.terms.table.graph) l.cache width price) (sym limits) is)) in
          let between = back.top in
          omega (arith, first, second, between);
      left = λ width most. inr (left_again canonical width most);
    }
