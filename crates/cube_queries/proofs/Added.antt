-- Steps that add clauses alone: one behind the other, what they answer, and what they cost.
use Rattle.std.proofs.Common.{◌≡◌, ◌∙◌, ◌+◌, ◌*◌, ◌^◌, ◌<◌, ◌≤◌, ℕ, zero, suc, Bool, true, false, ℤ, List, [], ◌∷◌, ◌++◌, length}
use Rattle.std.proofs.Common.{Option, None, Some, Ok, Err, Result, is_some, refl, sym, ap, subst, arith, inl, inr, cond, ne_eqb}
use Rattle.std.specs.Cmp.{unsigned_tied}
use Rattle.std.specs.FinMap as map
use Rattle.std.specs.Ordering.{nat_cmp}
use Rattle.std.specs.Prelude.{◌-◌, IfOk, IsOk, IsErrAnd, if◌then◌else◌, slice_index_or}
use Rattle.std.proofs.Math.Nat.{mul-le-mul_right, two-pow-succ}
use Rattle.std.proofs.lemmas.Bool.{cases_lt}
use Rattle.std.proofs.lemmas.Cmp.{nat_cmp_total}
use Rattle.std.proofs.lemmas.List.{get_or_append_left, get_or_push}
use Rattle.cnf_base.specs.Truth.{Assignment}
use Rattle.lrat_rules.specs.State.{Live}
use Rattle.node_table.specs.declared.error.TableError.{TableError}
use Rattle.node_table.specs.declared.error.TableError.TheVariants.{IdLimit, NodeLimit, OutOfMemory}
use Rattle.node_table.specs.declared.node.Branch.{Branch}
use Rattle.node_table.specs.declared.node.Node.{Node}
use Rattle.node_table.specs.Diagram.{Graph, branch_at, is_node, levels}
use Rattle.node_table.specs.HandedOn.{no_error, same_error}
use Rattle.node_table.specs.Laws.{StepByStep}
use Rattle.node_table.specs.Made.{inner}
use Rattle.node_table.specs.Marks.{IsReached}
use Rattle.node_table.specs.Progress.{Continues, error_of}
use Rattle.node_table.specs.Table.{TableState, clauses_among, live_nodes}
use Rattle.node_table.specs.Tied.{KeepsClauses}
use Rattle.node_table.specs.Value.{value_of}
use Rattle.bdd_terms.specs.declared.held.HeldTerm.{HeldTerm}
use Rattle.bdd_terms.specs.declared.runner.Runner.{Runner}
use Rattle.bdd_terms.specs.Counting.{Counting, IsPartOfOne}
use Rattle.bdd_terms.specs.Derived.{Refuses}
use Rattle.bdd_terms.specs.Runner.{IsListed, IsRunner, holds_in, nodes_of}
use Rattle.cube_queries.specs.declared.answer.Answer.{Answer}
use Rattle.cube_queries.specs.Answers.{IsAnswer}
use Rattle.cube_queries.specs.Steps.{Costs, Replies, formula_holds, function_in, functions_out}
use Rattle.cube_models.specs.Denied.{AreSums}
use Rattle.cube_queries.specs.Sums.{Adds, AddsOnce, AreAllReached, IsSumAt, one_at}
use Rattle.cube_queries.specs.Width.{HaveMore}
use Rattle.cube_queries.proofs.Alone.{alone_good}
use Rattle.cube_queries.proofs.Parts.{among_map, of_map}
use Rattle.cube_queries.proofs.Stays.{Stays, goes_further, good_same, good_stands, keeps_same}
use Rattle.cube_queries.proofs.Taken.{error_is}
use Rattle.cube_queries.proofs.Whole.{goes_none}

pub adds_none : {S T : Type 0} → StepByStep S → (runner : Runner S) → IsRunner runner → (x : T) (most : ℕ) → Adds most runner runner (Ok x)
adds_none steps runner is x most = record {
  goes_on = λ whole. is;
  out = refl;
  nodes = refl;
  clauses = λ id clause at. at;
  top = omega arith;
  goes = goes_none steps runner is;
  no_limit = no_error;
  spent = λ same. absurd (no_error same);
}

module _ {S : Type 0} (old new : Runner S) where
  pub stays_added : {T : Type 0} (most : ℕ) (x : T) → Adds most old new (Ok x) → Stays old new
  stays_added most x adds = record {
    runner = adds.goes_on no_error;
    out = adds.out;
    keeps = keeps_same old new adds.nodes (good_same old new adds.out);
    goes = adds.goes;
  }

  -- another answer
  pub adds_as : {T U : Type 0} (few most : ℕ) → few ≤ most → (x : T) (y : U) → Adds few old new (Ok x) → Adds most old new (Ok y)
  adds_as few most less x y adds = record {
    goes_on = λ whole. adds.goes_on no_error;
    out = adds.out;
    nodes = adds.nodes;
    clauses = adds.clauses;
    top = let own = adds.top in omega (arith, own, less);
    goes = adds.goes;
    no_limit = no_error;
    spent = λ same. absurd (no_error same);
  }

  -- an error that is handed on
  pub adds_handed : {T U : Type 0} (few most : ℕ) → few ≤ most → (error : TableError) → Adds {S = S} {T = T} few old new (Err error)
      → (r : Result U TableError) → IsErrAnd r (λ e. e ≡ error) → Adds most old new r
  adds_handed few most less error adds (Ok y) is = absurd is
  adds_handed {T} {U} few most less error adds (Err other) is = subst (λ (e : TableError). Adds {S = S} {T = U} most old new (Err e)) (sym is) (record {
    goes_on = λ whole. adds.goes_on (λ same. whole (ap Err (same_error same)));
    out = adds.out;
    nodes = adds.nodes;
    clauses = adds.clauses;
    top = let own = adds.top in omega (arith, own, less);
    goes = adds.goes;
    no_limit = λ same. adds.no_limit (ap Err (same_error same));
    spent = λ same. adds.spent (ap Err (same_error same));
  })

  -- memory ran out behind it
  pub adds_failed : {T U : Type 0} (few most : ℕ) → few ≤ most → (x : T) → Adds few old new (Ok x) → (r : Result U TableError)
      → IsErrAnd r (λ e. e ≡ OutOfMemory) → Adds most old new r
  adds_failed few most less x adds (Ok y) is = absurd is
  adds_failed {T} {U} few most less x adds (Err other) is = subst (λ (e : TableError). Adds {S = S} {T = U} most old new (Err e)) (sym is) (record {
    goes_on = λ whole. adds.goes_on no_error;
    out = adds.out;
    nodes = adds.nodes;
    clauses = adds.clauses;
    top = let own = adds.top in omega (arith, own, less);
    goes = record {
      formula = adds.goes.formula;
      limits = adds.goes.limits;
      order = adds.goes.order;
      origin = adds.goes.origin;
      leaves = adds.goes.leaves;
    };
    no_limit = λ same. let e : OutOfMemory ≡ NodeLimit = same_error same in cc;
    spent = λ same. absurd (let e : OutOfMemory ≡ IdLimit = same_error same in cc);
  })

  -- a cube is refused
  pub adds_refused : {T : Type 0} (held : HeldTerm) (cube : List ℤ) (r : Result T TableError) → Refuses held cube old new r
      → Adds 1 old new r
  adds_refused held cube r is = record {
    goes_on = is.runner;
    out = ap (λ (x : Runner S). x.terms.out.items) is.same;
    nodes = is.goes_on.nodes;
    clauses = is.goes_on.keeps;
    top = is.goes_on.top;
    goes = record {
      formula = ap (λ (x : Runner S). x.formula) is.same;
      limits = ap (λ (x : Runner S). x.limits) is.same;
      order = ap (λ (graph : Graph). graph.order) is.goes_on.nodes;
      origin = is.origin;
      leaves = is.leaves;
    };
    no_limit = is.goes_on.no_limit;
    spent = is.goes_on.spent;
  }

  -- a cube is answered
  pub replies_added : (most : ℕ) (cube : List ℤ) (r : Result Answer TableError) → Adds most old new r
      → IfOk r (IsAnswer new.formula.now new.terms.table.graph.order new.terms.table.book.steps new.terms.table.book.state.live cube)
      → Replies cube old new r
  replies_added most cube r adds answer = record {
    goes_on = adds.goes_on;
    out = adds.out;
    keeps = λ whole. keeps_same old new adds.nodes (good_same old new adds.out);
    clauses = adds.clauses;
    no_limit = adds.no_limit;
    spent = adds.spent;
    answer = answer;
    goes = adds.goes;
  }

module _ {S : Type 0} (steps : StepByStep S) (old mid new : Runner S) where
  pub adds_further : {T U : Type 0} (few more most : ℕ) → few + more ≤ most → (x : T) → Adds few old mid (Ok x) → (r : Result U TableError)
      → Adds more mid new r → Adds most old new r
  adds_further few more most less x first r second = record {
    goes_on = second.goes_on;
    out = second.out ∙ first.out;
    nodes = second.nodes ∙ first.nodes;
    clauses = λ id clause at. second.clauses id clause (first.clauses id clause at);
    top = let one = first.top in let other = second.top in omega (arith, one, other, less);
    goes = goes_further steps old mid new (error_of r) first.goes second.goes;
    no_limit = second.no_limit;
    spent = second.spent;
  }

-- How many of the first keys nodes have: no more than there are nodes.
abbrev pub standing : map.FinMap nat_cmp Branch → ℕ → ℕ
standing nodes zero = 0
standing nodes (suc key) = standing nodes key + one_at nodes key

pub standing_next : (nodes : map.FinMap nat_cmp Branch) (key : ℕ) → standing nodes (key + 1) ≡ standing nodes key + one_at nodes key
standing_next nodes key = let next : key + 1 ≡ suc key = omega arith in ap (standing nodes) next

get_other : (nodes : map.FinMap nat_cmp Branch) (key other : ℕ) → (other ≡ key → ⊥)
    → map.get (map.remove nodes key) other ≡ map.get nodes other
get_other nodes key other differ = map.get-remove nat_cmp_total nodes key other
    ∙ ap (λ b. cond b None (map.get nodes other)) (unsigned_tied other key ∙ ne_eqb other key differ)

standing_without : (nodes : map.FinMap nat_cmp Branch) (key few : ℕ) → few ≤ key → standing (map.remove nodes key) few ≡ standing nodes few
standing_without nodes key zero less = refl
standing_without nodes key (suc few) less =
    let rest = standing_without nodes key few (omega (arith, less)) in
    let own : one_at (map.remove nodes key) few ≡ one_at nodes few =
    ap (λ (o : Option Branch). if is_some o then 1 else 0) (get_other nodes key few (λ is. omega (arith, is, less))) in
    λ i. rest i + own i

some_entry : (nodes : map.FinMap nat_cmp Branch) (key : ℕ) → is_some (map.get nodes key) ≡ true → 1 ≤ map.len nodes
some_entry nodes key there = by (map.len nodes) refl where
  by : (n : ℕ) → map.len nodes ≡ n → 1 ≤ map.len nodes
  by zero none =
      let empty : nodes ≡ map.empty = map.empty_of_len nodes none in
      let no : is_some (map.get nodes key) ≡ false = ap (λ (m : map.FinMap nat_cmp Branch). is_some (map.get m key)) empty
      ∙ ap is_some (map.get-empty nat_cmp key) in
      absurd (let e : true ≡ false = sym there ∙ no in cc)
  by (suc n) is = omega (arith, is)

one_more_key : (key : ℕ) (nodes : map.FinMap nat_cmp Branch) → standing nodes key ≤ map.len nodes
    → standing (map.remove nodes key) key ≤ map.len (map.remove nodes key) → standing nodes (suc key) ≤ map.len nodes
one_more_key key nodes all rest = by (is_some (map.get nodes key)) refl where
  by : (b : Bool) → is_some (map.get nodes key) ≡ b → standing nodes (suc key) ≤ map.len nodes
  by false none =
      let own : one_at nodes key ≡ 0 = ap (λ t. if t then 1 else 0) none in
      omega (arith, all, own)
  by true there =
      let same = standing_without nodes key key (omega arith) in
      let fewer : map.len (map.remove nodes key) ≡ map.len nodes - 1 = map.len-remove nat_cmp_total nodes key
      ∙ ap (λ t. cond t (map.len nodes - 1) (map.len nodes)) there in
      let own : one_at nodes key ≡ 1 = ap (λ t. if t then 1 else 0) there in
      let some = some_entry nodes key there in
      omega (arith, rest, same, fewer, own, some)

pub standing_few : (key : ℕ) (nodes : map.FinMap nat_cmp Branch) → standing nodes key ≤ map.len nodes
standing_few zero nodes = omega arith
standing_few (suc key) nodes = one_more_key key nodes (standing_few key nodes) (standing_few key (map.remove nodes key))

none_among : (entries : List (ℕ × Branch)) → length entries ≡ 0 → clauses_among entries ≡ 0
none_among [] none = refl
none_among (entry ∷ entries) none = absurd (omega (arith, none))

module _ {S : Type 0} (steps : StepByStep S) (counting : Counting S) (runner : Runner S) (is : IsRunner runner)
    (reached : AreAllReached runner) where
  abbrev graph : Graph
  graph = runner.terms.table.graph

  -- each node is of a part of a term that is out
  part_of : (key : ℕ) (branch : Branch) → branch_at graph key ≡ Some branch
      → IsPartOfOne (functions_out runner) (λ a. value_of graph a (inner key))
  part_of key branch at =
      let by = reached key branch at in
      let held = of_map (λ (h : HeldTerm). h.node) runner.terms.out.items by.root by.is_root in
      let stands : is_node graph by.root ≡ true = subst (λ (n : Node). is_node graph n ≡ true) held.2
      (good_stands runner is held.0 (inr held.1)) in
      let sub = counting.reached graph is.over.sound.tied.reduced by.root (inner key) stands by.reaches in
      record {
        function = function_in runner held.0;
        among = among_map (function_in runner) runner.terms.out.items held.0 held.1;
        is_part = record {
          level = sub.level;
          fixed = sub.fixed;
          same = λ a. sub.same a ∙ ap (value_of graph _) (sym held.2);
        };
      }

  -- the same table before it had nodes
  abbrev bare : TableState S
  bare = record runner.terms.table { graph = record { order = graph.order; nodes = map.empty } }

  none_at : (key : ℕ) (branch : Branch) → branch_at bare.graph key ≡ Some branch → ⊥
  none_at key branch at = let e : None ≡ Some branch = sym (map.get-empty nat_cmp key) ∙ at in cc

  none_defined : clauses_among (map.entries bare.graph.nodes) ≡ 0
  none_defined = none_among (map.entries bare.graph.nodes)
      (sym (map.len-entries bare.graph.nodes) ∙ map.len-empty nat_cmp Branch)

  -- there are no more nodes than parts
  pub few_nodes : (width : ℕ) → (HaveMore (functions_out runner) width → ⊥) → live_nodes graph ≤ width
  few_nodes width most =
      let on : Continues runner.terms.table runner.terms.table = (steps.none runner.terms.table is.over.sound).leaves in
      let few = counting.few (functions_out runner) width 0 bare runner.terms.table None (record {
        leaves = record {
          sound = on.sound;
          order = refl;
          inputs = on.inputs;
          max_nodes = on.max_nodes;
          limit = on.limit;
          more = on.more;
          told = on.told;
          variables = on.variables;
          conserves = on.conserves;
          no_less = on.no_less;
          numbers = on.numbers;
          since = on.since;
        };
        nodes = record { order = refl; nodes = λ key branch at. absurd (none_at key branch at) };
        made = record { each = λ key branch at. inr (part_of key branch at) };
        most = most;
        adds = omega (arith, none_defined);
        pairs = λ room. omega (arith, none_defined);
      }) in
      omega (arith, few, map.len-empty nat_cmp Branch)

-- all nodes are reached yet
pub all_reached : {S : Type 0} (old new : Runner S) → new.terms.table.graph ≡ old.terms.table.graph
    → new.terms.out.items ≡ old.terms.out.items → AreAllReached old → AreAllReached new
all_reached old new nodes out reached =
    subst (λ (g : Graph). (key : ℕ) (branch : Branch) → branch_at g key ≡ Some branch
    → IsReached g (nodes_of new.terms.out.items) (inner key))
    (sym nodes)
    (subst (λ (l : List HeldTerm). (key : ℕ) (branch : Branch) → branch_at old.terms.table.graph key ≡ Some branch
    → IsReached old.terms.table.graph (nodes_of l) (inner key)) (sym out) reached)

-- sums stay as clauses are added
pub sum_kept : {S : Type 0} (old new : Runner S) → new.terms.table.graph ≡ old.terms.table.graph
    → KeepsClauses old.terms.table.book.state.live new.terms.table.book.state.live → (key id : ℕ)
    → IsSumAt old.terms.table.graph old.terms.table.book.state.live key id
    → IsSumAt new.terms.table.graph new.terms.table.book.state.live key id
sum_kept old new nodes clauses key id is = subst (λ (g : Graph). IsSumAt g new.terms.table.book.state.live key id) (sym nodes)
    (λ branch clause at own. clauses id clause (is branch clause at own))

pub sums_kept : {S : Type 0} (old new : Runner S) → new.terms.table.graph ≡ old.terms.table.graph
    → KeepsClauses old.terms.table.book.state.live new.terms.table.book.state.live → (sums : List ℕ)
    → AreSums old.terms.table.graph old.terms.table.book.state.live sums
    → AreSums new.terms.table.graph new.terms.table.book.state.live sums
sums_kept old new nodes clauses sums are = subst (λ (g : Graph). AreSums g new.terms.table.book.state.live sums) (sym nodes)
    (λ key branch clause at own. clauses (slice_index_or sums key 0) clause (are key branch clause at own))

-- one more at the end
pub sums_more : (graph : Graph) (live : Live) (sums more : List ℕ) (id : ℕ) → more ≡ sums ++ id ∷ []
    → ((key : ℕ) → key < length sums → IsSumAt graph live key (slice_index_or sums key 0)) → IsSumAt graph live (length sums) id
    → (key : ℕ) → key < length sums + 1 → IsSumAt graph live key (slice_index_or more key 0)
sums_more graph live sums more id is were last key small = elim (cases_lt key (length sums)) [
  | inl early ↦ subst (IsSumAt graph live key)
      (sym (get_or_append_left sums (id ∷ []) 0 key early) ∙ ap (λ (l : List ℕ). slice_index_or l key 0) (sym is)) (were key early)
  | inr late ↦
      let at_end : key ≡ length sums = omega (arith, small, late) in
      subst (λ (k : ℕ). IsSumAt graph live k (slice_index_or more k 0)) (sym at_end)
      (subst (IsSumAt graph live (length sums))
      (sym (get_or_push sums id 0 (length sums) refl) ∙ ap (λ (l : List ℕ). slice_index_or l (length sums) 0) (sym is)) last)
]

-- Cubes one behind the other take a number each, and those of the sums once: while there are none yet, these weren't added.
pub record AreFewYet {S : Type 0} (place : ℕ) (sums : List ℕ) (old new : Runner S) : Type 0 where
  pub begun : place ≡ 0 → new.terms.table.book.state.top ≤ old.terms.table.book.state.top
  pub most : new.terms.table.book.state.top ≤ old.terms.table.book.state.top + (live_nodes new.terms.table.graph + place)
  pub none : sums ≡ [] → new.terms.table.book.state.top ≤ old.terms.table.book.state.top + place

module _ {S T : Type 0} (place : ℕ) (old mid new : Runner S) (nodes : new.terms.table.graph ≡ mid.terms.table.graph)
    (r : Result T TableError) where
  pub few_most : (before after : List ℕ) → AreFewYet place before old mid → AddsOnce before after mid new r
      → new.terms.table.book.state.top ≤ old.terms.table.book.state.top + (live_nodes new.terms.table.graph + (place + 1))
  few_most [] after yet adds = omega (arith, yet.none refl, adds.most, ap live_nodes nodes)
  few_most (id ∷ before) after yet adds =
      let more = adds.there (λ is. let e : id ∷ before ≡ [] = is in cc) in omega (arith, yet.most, more, ap live_nodes nodes)

  few_none : (before after : List ℕ) → IsOk r → AreFewYet place before old mid → AddsOnce before after mid new r → after ≡ []
      → new.terms.table.book.state.top ≤ old.terms.table.book.state.top + (place + 1)
  few_none [] after ok yet adds is = omega (arith, yet.none refl, adds.none ok is)
  few_none (id ∷ before) after ok yet adds is = absurd (adds.stay (λ same. let e : id ∷ before ≡ [] = same in cc) is)

  pub few_more : (before after : List ℕ) → IsOk r → AreFewYet place before old mid → AddsOnce before after mid new r
      → AreFewYet (place + 1) after old new
  few_more before after ok yet adds = record {
    begun = λ is. absurd (omega (arith, is));
    most = few_most before after yet adds;
    none = few_none before after ok yet adds;
  }

-- a refusal behind the sums
module _ {S T : Type 0} (before after : List ℕ) (old mid new : Runner S)
    (few : mid.terms.table.book.state.top ≤ old.terms.table.book.state.top + live_nodes old.terms.table.graph)
    (there : (before ≡ [] → ⊥) → (mid ≡ old) × (after ≡ before))
    (more : new.terms.table.book.state.top ≤ mid.terms.table.book.state.top + 1) (r : Result T TableError) where
  once_there : (before ≡ [] → ⊥) → new.terms.table.book.state.top ≤ old.terms.table.book.state.top + 1
  once_there some =
      let same = ap (λ (x : Runner S). x.terms.table.book.state.top) (there some).0 in
      omega (arith, more, same)

  pub once_behind : (after ≡ [] → mid.terms.table.book.state.top ≤ old.terms.table.book.state.top) → AddsOnce before after old new r
  once_behind none = record {
    most = omega (arith, few, more);
    there = once_there;
    stay = λ some is. some (sym (there some).1 ∙ is);
    none = λ ok is. let own = none is in omega (arith, own, more);
  }

  pub once_failed : (error : TableError) → IsErrAnd r (λ e. e ≡ error) → AddsOnce before after old new r
  once_failed error failed = record {
    most = omega (arith, few, more);
    there = once_there;
    stay = λ some is. some (sym (there some).1 ∙ is);
    none = λ ok. absurd (no_success r failed ok);
  }
    where
      no_success : (x : Result T TableError) → IsErrAnd x (λ e. e ≡ error) → IsOk x → ⊥
      no_success (Ok y) is ok = is
      no_success (Err e) is ok = let no : false ≡ true = ok in cc
