-- One step down, and the end of the way.
use Rattle.std.proofs.Common.{◌≡◌, ℕ, zero, suc, ◌-◌, ◌<◌, ◌≤◌, Bool, true, false, ℤ, List, [], ◌∷◌, Option, None, Some, length, map}
use Rattle.std.proofs.Common.{refl, sym, ap, ◌∙◌, subst, arith, inl, inr, not}
use Rattle.std.specs.Prelude.{nat_abs, nat_le, nat_lt, slice_index_or, slice_set, IsTrue}
use Rattle.std.specs.Int.{is_negative}
use Rattle.std.specs.List.{list_all}
use Rattle.std.proofs.lemmas.Bool.{and_parts, cases_eq, cases_lt, leb-true, ltb-true}
use Rattle.std.proofs.lemmas.List.{get_or-set_same, get_or-set_other}
use Rattle.cnf_base.specs.Cube.{cube_holds}
use Rattle.cnf_base.specs.Order.{IsOrder}
use Rattle.cnf_base.specs.Truth.{Assignment, assignment_of, is_literal_of, literal_holds}
use Rattle.node_table.specs.declared.node.Node.{Node}
use Rattle.node_table.specs.declared.node.Node.TheVariants.{False, True, Inner}
use Rattle.node_table.specs.declared.node.Branch.{Branch}
use Rattle.node_table.specs.Diagram.{Graph, IsReduced, branch_at, is_node, levels, level_of, level_in, variable_at}
use Rattle.node_table.specs.Laws.{Cofactors}
use Rattle.node_table.specs.Made.{inner}
use Rattle.node_table.specs.Value.{Levels, by_level, value_of}
use Rattle.cube_models.specs.Least.{IsLeastModel}
use Rattle.cube_models.specs.Way.{Agrees, AreMarks, Assumes, IsDead, IsDown, IsStep, Leads, allows, is_marked, is_on, is_open, levels_of}
use Rattle.cube_models.specs.Way.{next_in}
use Rattle.cube_models.specs.Way.{sign_at, sign_of}
use Rattle.cube_models.proofs.Said.{all_at, allowed_same, from_each, value_said}
use Rattle.cube_models.proofs.Ways.{HasBranch, chosen, chosen_high, chosen_low, closed_marked, has_branch, open_allows}

off_allowed : (o : Option Bool) → allows o false ≡ true → is_on o ≡ false
off_allowed None is = refl
off_allowed (Some t) is = allowed_same t false is

on_allowed : (o : Option Bool) (t : Bool) → is_on o ≡ true → allows o t ≡ true → t ≡ true
on_allowed None t on is = absurd (let no : false ≡ true = on in cc)
on_allowed (Some s) t on is = sym (allowed_same s t is) ∙ on

self_allowed : (o : Option Bool) → allows o (is_on o) ≡ true
self_allowed None = refl
self_allowed (Some true) = refl
self_allowed (Some false) = refl

level_within : (graph : Graph) → IsReduced graph → (node : Node) → level_of graph node ≤ levels graph
level_within graph reduced False = omega arith
level_within graph reduced True = omega arith
level_within graph reduced (Inner key) = elim (branch_at graph key.index) as (λ o. branch_at graph key.index ≡ o
    → level_in (levels graph) o ≤ levels graph) [
      | None ↦ λ _. omega arith
      | Some b ↦ λ at. let small : b.level < levels graph = reduced.level key.index b at in omega (arith, small)
    ] refl

-- at first all values are as assumed
pub start_down : (graph : Graph) → IsReduced graph → (signs : List (Option Bool)) (a : Levels) (first : Node) → is_node graph first ≡ true
    → ((i : ℕ) → i < levels graph → a i ≡ is_on (sign_at graph signs i)) → IsDown graph signs a first first
start_down graph reduced signs a first stands assumed = record {
  stands = stands;
  agrees = λ level small. ap (allows (sign_at graph signs level)) (assumed level small) ∙ self_allowed (sign_at graph signs level);
  leads = λ b agree. refl;
  least = λ other agrees holds level early agree on.
      let inside : level < levels graph = omega (arith, early, level_within graph reduced first) in
      on_allowed (sign_at graph signs level) (other level) (sym (assumed level inside) ∙ on) (agrees level inside);
  rest = λ i late small. assumed i small;
}

-- the low child is open
pub low_down : (graph : Graph) → IsReduced graph → (signs : List (Option Bool)) (a : Levels) (first : Node) (key : ℕ) (b : Branch)
    → HasBranch graph (inner key) b → IsDown graph signs a first (inner key) → allows (sign_at graph signs b.level) false ≡ true
    → IsDown graph signs a first b.low
low_down graph reduced signs a first key b has down allowed =
    let here : level_of graph (inner key) ≡ b.level = has.here in
    let below : b.level < level_of graph b.low = has.low.below in
    let off : a b.level ≡ false = down.rest b.level (omega (arith, here)) has.small ∙ off_allowed (sign_at graph signs b.level) allowed in
    record {
      stands = has.low.stands;
      agrees = down.agrees;
      leads = λ c agree.
          down.leads c (λ i early. agree i (omega (arith, early, here, below)))
          ∙ has.value c ∙ chosen_low (c b.level) (value_of graph c b.high) (value_of graph c b.low) (agree b.level below ∙ off);
      least = λ other agrees holds level early agree on. elim (cases_lt level b.level) [
        | inl above ↦ down.least other agrees holds level (omega (arith, above, here)) agree on
        | inr late ↦
            let inside : level < levels graph = omega (arith, early, level_within graph reduced b.low) in
            on_allowed (sign_at graph signs level) (other level) (sym (down.rest level (omega (arith, late, here)) inside) ∙ on)
            (agrees level inside)
      ];
      rest = λ i late small. down.rest i (omega (arith, late, below, here)) small;
    }

-- The low child is dead or against the cube, and the high one is open: the variable is set, as each assignment must have it.
pub high_down : (graph : Graph) → IsReduced graph → (signs : List (Option Bool)) (a later : Levels) (first : Node) (key : ℕ) (b : Branch)
    → HasBranch graph (inner key) b → IsDown graph signs a first (inner key)
    → (allows (sign_at graph signs b.level) false ≡ true → IsDead graph signs b.low) → allows (sign_at graph signs b.level) true ≡ true
    → later b.level ≡ true → ((i : ℕ) → i < levels graph → (i ≡ b.level → ⊥) → later i ≡ a i) → IsDown graph signs later first b.high
high_down graph reduced signs a later first key b has down dead allowed on same =
    let here : level_of graph (inner key) ≡ b.level = has.here in
    let small : b.level < levels graph = has.small in
    let below : b.level < level_of graph b.high = has.high.below in
    let above_same : (i : ℕ) → i < b.level
    → later i ≡ a i = λ i early. same i (omega (arith, early, small)) (λ e. omega (arith, e, early)) in
    let never : (c : Levels) → Agrees graph signs c → c b.level ≡ false → value_of graph c (inner key) ≡ false = λ c agrees off.
    has.value c ∙ chosen_low (c b.level) (value_of graph c b.high) (value_of graph c b.low) off
    ∙ dead (ap (allows (sign_at graph signs b.level)) (sym off) ∙ agrees b.level small) c agrees in
    record {
      stands = has.high.stands;
      agrees = λ level inside. elim (cases_eq level b.level) [
        | inl at ↦
            ap (λ (n : ℕ). allows (sign_at graph signs n) (later n)) at ∙ ap (allows (sign_at graph signs b.level)) on ∙ allowed
        | inr differ ↦ ap (allows (sign_at graph signs level)) (same level inside differ) ∙ down.agrees level inside
      ];
      leads = λ c agree.
          down.leads c (λ i early. agree i (omega (arith, early, here, below)) ∙ above_same i (omega (arith, early, here)))
          ∙ has.value c ∙ chosen_high (c b.level) (value_of graph c b.high) (value_of graph c b.low) (agree b.level below ∙ on);
      least = λ other agrees holds level early agree is_on. elim (cases_lt level b.level) [
        | inl above ↦ down.least other agrees holds level (omega (arith, above, here)) (λ i under. agree i under
            ∙ above_same i (omega (arith, under, above))) (sym (above_same level above) ∙ is_on)
        | inr late ↦ elim (cases_eq level b.level) [
          | inl at ↦
              let leads : value_of graph other first ≡ value_of graph other (inner key) = down.leads other
              (λ i early. agree i (omega (arith, early, here, at)) ∙ above_same i (omega (arith, early, here))) in
              elim (other level) as (λ t. other level ≡ t → t ≡ true) [
                | true ↦ λ _. refl
                | false ↦ λ off. (let no : value_of graph other (inner key) ≡ false = never other agrees (ap other (sym at) ∙ off) in
                    let is : value_of graph other (inner key) ≡ true = sym leads ∙ holds in cc)
              ] refl
          | inr differ ↦
              let inside : level < levels graph = omega (arith, early, level_within graph reduced b.high) in
              on_allowed (sign_at graph signs level) (other level)
              (sym (down.rest level (omega (arith, late, here)) inside) ∙ sym (same level inside differ) ∙ is_on) (agrees level inside)
        ]
      ];
      rest = λ i late inside. same i inside (λ e. omega (arith, e, late, below)) ∙ down.rest i (omega (arith, late, below, here)) inside;
    }

-- the values by levels once the variable of a level was set
set_on : (graph : Graph) → IsOrder graph.order → (values : List Bool) → length values ≡ levels graph → (level : ℕ) → level < levels graph
    → levels_of graph (slice_set values (variable_at graph level - 1) true) level ≡ true
set_on graph ordered values one_each level small =
    let range = ordered.within level small in
    get_or-set_same values (variable_at graph level - 1) true false (omega (arith, range.0, range.1, one_each))

set_others : (graph : Graph) → IsOrder graph.order → (values : List Bool) → (level : ℕ) → level < levels graph
    → (i : ℕ) → i < levels graph → (i ≡ level → ⊥) → levels_of graph (slice_set values (variable_at graph level - 1) true) i
    ≡ levels_of graph values i
set_others graph ordered values level small i inside differ =
    let here = ordered.within level small in
    let there = ordered.within i inside in
    get_or-set_other values (variable_at graph level - 1) (variable_at graph i - 1) true false
    (λ same. differ (ordered.apart i level inside small (omega (arith, here.0, there.0, same))))

-- The step of a way, by the values that are set: none at an open low child, else that of its level.
abbrev pub IsOn : Graph → List (Option Bool) → Node → List Bool → Node → Type 0
IsOn graph signs first values node = IsDown graph signs (levels_of graph values) first node

pub stays_low : Cofactors → (graph : Graph) → IsReduced graph
    → (signs : List (Option Bool)) (round : ℕ) (marks : List ℕ) (values : List Bool)
    (first node : Node) (key : ℕ) (child : Node) (b : Branch) → branch_at graph key ≡ Some b → IsOn graph signs first values node
    → IsStep graph (next_in graph signs marks round) node key child
    → is_open (is_marked marks round) (sign_at graph signs b.level) false b.low ≡ true → IsOn graph signs first values child
stays_low cofactors graph reduced signs round marks values first node key child b at down step opened =
    let own : b ≡ step.branch = some_branch b step.branch (sym at ∙ step.stands) in
    let has = has_branch cofactors graph reduced key b at in
    let goes : next_in graph signs marks round b ≡ Some child = ap (next_in graph signs marks round) own ∙ step.goes in
    let from = subst (IsOn graph signs first values) step.named down in
    elim (chosen (is_marked marks round) (sign_at graph signs) b child goes) [
      | inl low ↦ subst (IsOn graph signs first values) low.is (low_down graph reduced signs (levels_of graph values) first key b has from
          (open_allows (allows (sign_at graph signs b.level) false) (is_marked marks round b.low) opened))
      | inr high ↦ absurd (let no : is_open (is_marked marks round) (sign_at graph signs b.level) false b.low ≡ false = high.closed in cc)
    ]
  where
    some_branch : (x y : Branch) → Some x ≡ Some y → x ≡ y
    some_branch x y same = cc

pub goes_high : Cofactors → (graph : Graph) → IsReduced graph → IsOrder graph.order
    → (signs : List (Option Bool)) (round : ℕ) (marks : List ℕ)
    (values : List Bool) (first node : Node) (key : ℕ) (child : Node) (b : Branch) → AreMarks graph signs round marks
    → length values ≡ levels graph → branch_at graph key ≡ Some b → IsOn graph signs first values node
    → IsStep graph (next_in graph signs marks round) node key child
    → is_open (is_marked marks round) (sign_at graph signs b.level) false b.low ≡ false
    → IsOn graph signs first (slice_set values (variable_at graph b.level - 1) true) child
goes_high cofactors graph reduced ordered signs round marks values first node key child b known one_each at down step closed =
    let own : b ≡ step.branch = some_branch b step.branch (sym at ∙ step.stands) in
    let has = has_branch cofactors graph reduced key b at in
    let goes : next_in graph signs marks round b ≡ Some child = ap (next_in graph signs marks round) own ∙ step.goes in
    let from = subst (IsOn graph signs first values) step.named down in
    let later = slice_set values (variable_at graph b.level - 1) true in
    elim (chosen (is_marked marks round) (sign_at graph signs) b child goes) [
      | inl low ↦ absurd (let no : is_open (is_marked marks round) (sign_at graph signs b.level) false b.low ≡ true = low.allowed in cc)
      | inr high ↦ subst (IsOn graph signs first later) high.is (high_down graph reduced signs (levels_of graph values)
          (levels_of graph later)
          first key b has from
          (λ allowed. known.dead b.low has.low.stands
          (closed_marked (allows (sign_at graph signs b.level) false) (is_marked marks round b.low) closed allowed))
          (open_allows (allows (sign_at graph signs b.level) true) (is_marked marks round b.high) high.allowed)
          (set_on graph ordered values one_each b.level has.small) (set_others graph ordered values b.level has.small))
    ]
  where
    some_branch : (x y : Branch) → Some x ≡ Some y → x ≡ y
    some_branch x y same = cc

-- the values as assumed, by places
pub on_map : (signs : List (Option Bool)) (i : ℕ) → slice_index_or (map is_on signs) i false ≡ is_on (slice_index_or signs i None)
on_map [] i = refl
on_map (s ∷ signs) zero = refl
on_map (s ∷ signs) (suc i) = on_map signs i

-- a literal of the variables is that of a level
level_for : (graph : Graph) → IsOrder graph.order → (literal : ℤ) → is_literal_of (levels graph) literal ≡ true
    → (level : ℕ) × ((level < levels graph) × (variable_at graph level ≡ nat_abs literal))
level_for graph ordered literal range =
    let parts = and_parts (nat_lt 0 (nat_abs literal)) (nat_le (nat_abs literal) (levels graph)) range in
    let found = ordered.each (nat_abs literal) (ltb-true 0 (nat_abs literal) parts.0) (leb-true (nat_abs literal) (levels graph) parts.1) in
    (found.0, (found.1, found.2))

cube_agrees : (graph : Graph) → IsOrder graph.order → (cube : List ℤ) (signs : List (Option Bool))
    → Assumes (levels graph) cube (length cube) signs
    → IsTrue (list_all (is_literal_of (levels graph)) cube) → (a : Assignment) → Agrees graph signs (by_level graph.order a)
    → cube_holds a cube ≡ true
cube_agrees graph ordered cube signs assumes within a agrees = from_each (literal_holds a) cube (λ i d small.
    let literal = slice_index_or cube i d in
    let found = level_for graph ordered literal (all_at (is_literal_of (levels graph)) cube i d within small) in
    let sign : sign_at graph signs found.0 ≡ Some (not (is_negative literal)) = ap (sign_of signs) found.1.1 ∙ assumes.said i d small in
    let allowed : allows (Some (not (is_negative literal))) (a (variable_at graph found.0)) ≡ true =
    ap (λ (o : Option Bool). allows o (a (variable_at graph found.0))) (sym sign) ∙ agrees found.0 found.1.0 in
    value_said a literal (allowed_same (not (is_negative literal)) (a (variable_at graph found.0)) allowed ∙ ap a found.1.1))

agrees_cube : (graph : Graph) → IsOrder graph.order → (cube : List ℤ) (signs : List (Option Bool))
    → Assumes (levels graph) cube (length cube) signs
    → (a : Assignment) → cube_holds a cube ≡ true → Agrees graph signs (by_level graph.order a)
agrees_cube graph ordered cube signs assumes a holds level small =
    assumes.given a holds (variable_at graph level) (ordered.within level small).0

-- at the end of the way
pub least_model : (graph : Graph) → IsOrder graph.order → (cube : List ℤ) (signs : List (Option Bool))
    → Assumes (levels graph) cube (length cube) signs
    → IsTrue (list_all (is_literal_of (levels graph)) cube) → (node : Node) (values : List Bool) → length values ≡ levels graph
    → IsOn graph signs node values True → IsLeastModel graph node cube values
least_model graph ordered cube signs assumes within node values one_each down = record {
  one_each = one_each;
  holds = record {
    node_holds = down.leads (levels_of graph values) (λ i early. refl);
    cube_holds = cube_agrees graph ordered cube signs assumes within (assignment_of values) down.agrees;
  };
  least = λ other holds place small agree on. down.least (by_level graph.order other) (agrees_cube graph ordered cube signs assumes other
      holds.cube_holds) holds.node_holds place small agree on;
}

-- The same, each list as a call has it.
pub found_model : (graph : Graph) → IsOrder graph.order
    → (cube : List ℤ) (signs one two : List (Option Bool)) (marks also path as_path : List ℕ)
    (round : ℕ) (node : Node) (values : List Bool) → one ≡ signs → two ≡ signs → also ≡ marks → as_path ≡ path
    → Assumes (levels graph) cube (length cube) signs → IsTrue (list_all (is_literal_of (levels graph)) cube)
    → length values ≡ levels graph → Leads graph (next_in graph one marks round) node path True
    → (Leads graph (next_in graph two also round) node as_path True → IsDown graph two (levels_of graph values) node True)
    → IsLeastModel graph node cube values
found_model graph ordered cube signs one two marks also path as_path round node values one_is two_is also_is path_is assumes within one_each
    found down =
    let way : Leads graph (next_in graph two also round) node as_path True =
    subst (λ (p : List ℕ). Leads graph (next_in graph two also round) node p True) (sym path_is)
    (subst (λ (m : List ℕ). Leads graph (next_in graph two m round) node path True) (sym also_is)
    (subst (λ (s : List (Option Bool)). Leads graph (next_in graph s marks round) node path True) (one_is ∙ sym two_is) found)) in
    least_model graph ordered cube signs assumes within node values one_each
    (subst (λ (s : List (Option Bool)). IsDown graph s (levels_of graph values) node True) two_is (down way))
