-- One step down, and the end of the way.
use Rattle.std.proofs.Common.{◌≡◌, ◌≢◌, ℕ, ◌<◌, ◌≤◌, Bool, true, false, None, Some, is_some, refl, sym, ap, ◌∙◌, arith, inl, inr, eq-eqb}
use Rattle.std.specs.Prelude.{if◌then◌else◌, ◌==◌}
use Rattle.std.proofs.lemmas.Bool.{cases_eq, cases_lt}
use Rattle.node_table.specs.declared.node.Node.{Node}
use Rattle.node_table.specs.declared.node.Node.TheVariants.{False, True, Inner}
use Rattle.node_table.specs.declared.node.Branch.{Branch}
use Rattle.node_table.specs.Diagram.{Graph, IsReduced, IsBelow, branch_at, branch_of, is_node, levels, level_of, level_in, high_at, low_at}
use Rattle.node_table.specs.Diagram.{child_in}
use Rattle.node_table.specs.Laws.{Cofactors}
use Rattle.node_table.specs.Value.{Levels, value_of}
use Rattle.clause_terms.specs.Walk.{IsDown}

-- a node that has a branch: its level, its children, and its value by them
pub record HasBranch (graph : Graph) (node : Node) (b : Branch) : Type 0 where
  pub here : level_of graph node ≡ b.level
  pub small : b.level < levels graph
  pub high : IsBelow graph b.level b.high
  pub low : IsBelow graph b.level b.low
  pub differ : b.high ≢ b.low
  pub value : (a : Levels) → value_of graph a node ≡ (if a b.level then value_of graph a b.high else value_of graph a b.low)

at_own : (level : ℕ) (x y : Node) → (if level == level then x else y) ≡ x
at_own level x y = ap (λ t. if t then x else y) (eq-eqb level level refl)

pub has_branch : Cofactors → (graph : Graph) → IsReduced graph → (node : Node) → is_node graph node ≡ true → (b : Branch)
    → branch_of graph node ≡ Some b → HasBranch graph node b
has_branch cofactors graph reduced False stands b at = absurd (let e : None ≡ Some b = at in cc)
has_branch cofactors graph reduced True stands b at = absurd (let e : None ≡ Some b = at in cc)
has_branch cofactors graph reduced (Inner key) stands b at = record {
  here = ap (level_in (levels graph)) at;
  small = reduced.level key.index b at;
  high = reduced.high key.index b at;
  low = reduced.low key.index b at;
  differ = reduced.differ key.index b at;
  value = λ a.
      let high : high_at graph b.level (Inner key) ≡ b.high = ap (child_in (λ x. x.high) b.level (Inner key)) at
      ∙ at_own b.level b.high (Inner key) in
      let low : low_at graph b.level (Inner key) ≡ b.low = ap (child_in (λ x. x.low) b.level (Inner key)) at
      ∙ at_own b.level b.low (Inner key) in
      cofactors.value graph reduced a b.level (Inner key) stands
      ∙ (λ i. if a b.level then value_of graph a (high i) else value_of graph a (low i));
}

chosen_high : (t x y : Bool) → t ≡ true → (if t then x else y) ≡ x
chosen_high t x y is = ap (λ s. if s then x else y) is

chosen_low : (t x y : Bool) → t ≡ false → (if t then x else y) ≡ y
chosen_low t x y is = ap (λ s. if s then x else y) is

-- a node stands at a level, or at the bottom
pub node_level : (graph : Graph) → IsReduced graph → (node : Node) → is_node graph node ≡ true → level_of graph node ≤ levels graph
node_level graph reduced False is = omega arith
node_level graph reduced True is = omega arith
node_level graph reduced (Inner key) is =
    elim (branch_at graph key.index) as (λ o. branch_at graph key.index ≡ o → is_some o ≡ true → level_in (levels graph) o ≤ levels graph) [
      | None ↦ λ _ some. absurd (let e : false ≡ true = some in cc)
      | Some b ↦ λ at _. (let small = reduced.level key.index b at in omega (arith, small))
    ] refl is

-- low isn't False: the variable stays false
pub low_step : (graph : Graph) → IsReduced graph → (a : Levels) (first node : Node) (b : Branch) → HasBranch graph node b
    → IsDown graph a first node → b.low ≢ False → IsDown graph a first b.low
low_step graph reduced a first node b has down some =
    let here = has.here in
    let below = has.low.below in
    let off : a b.level ≡ false = down.rest b.level (omega (arith, here)) has.small in
    record {
      stands = has.low.stands;
      some = some;
      leads = λ c agree.
          down.leads c (λ i early. agree i (omega (arith, early, here, below)))
          ∙ has.value c ∙ chosen_low (c b.level) (value_of graph c b.high) (value_of graph c b.low) (agree b.level below ∙ off);
      least = λ other holds level early agree on. elim (cases_lt level b.level) [
        | inl above ↦ down.least other holds level (omega (arith, above, here)) agree on
        | inr late ↦ absurd (let no : a level ≡ false = down.rest level (omega (arith, late, here))
            (omega (arith, early, node_level graph reduced b.low has.low.stands)) in cc)
      ];
      rest = λ i late small. down.rest i (omega (arith, late, below, here)) small;
    }

-- low is False: the variable is set, as each assignment that makes the node true must have it
pub high_step : (graph : Graph) → IsReduced graph → (a later : Levels) (first node : Node) (b : Branch) → HasBranch graph node b
    → IsDown graph a first node → b.low ≡ False
    → later b.level ≡ true → ((i : ℕ) → i < levels graph → (i ≡ b.level → ⊥) → later i ≡ a i) → IsDown graph later first b.high
high_step graph reduced a later first node b has down no_low on same =
    let here = has.here in
    let below = has.high.below in
    let above_same : (i : ℕ) → i < b.level → later i ≡ a i = λ i early. same i (omega (arith, early, has.small))
    (λ e. omega (arith, e, early)) in
    let never : (c : Levels) → c b.level ≡ false → value_of graph c node ≡ false = λ c off.
    has.value c ∙ chosen_low (c b.level) (value_of graph c b.high) (value_of graph c b.low) off ∙ ap (value_of graph c) no_low in
    record {
      stands = has.high.stands;
      some = λ is. has.differ (is ∙ sym no_low);
      leads = λ c agree.
          down.leads c (λ i early. agree i (omega (arith, early, here, below)) ∙ above_same i (omega (arith, early, here)))
          ∙ has.value c ∙ chosen_high (c b.level) (value_of graph c b.high) (value_of graph c b.low) (agree b.level below ∙ on);
      least = λ other holds level early agree is_on. elim (cases_lt level b.level) [
        | inl above ↦ down.least other holds level (omega (arith, above, here)) (λ i under. agree i under
            ∙ above_same i (omega (arith, under, above))) (sym (above_same level above) ∙ is_on)
        | inr late ↦ elim (cases_eq level b.level) [
          | inl at ↦
              let leads : value_of graph other first ≡ value_of graph other node = down.leads other
              (λ i early. agree i (omega (arith, early, here, at)) ∙ above_same i (omega (arith, early, here))) in
              elim (other level) as (λ t. other level ≡ t → t ≡ true) [
                | true ↦ λ _. refl
                | false ↦ λ off. (let no : value_of graph other node ≡ false = never other (ap other (sym at) ∙ off) in
                    let is : value_of graph other node ≡ true = sym leads ∙ holds in cc)
              ] refl
          | inr differ ↦
              let inside : level < levels graph = omega (arith, early, node_level graph reduced b.high has.high.stands) in
              absurd (let no : a level ≡ false = down.rest level (omega (arith, late, here)) inside in let is : a level
              ≡ true = sym (same level inside differ) ∙ is_on in cc)
        ]
      ];
      rest = λ i late small. same i small (λ e. omega (arith, e, late, below)) ∙ down.rest i (omega (arith, late, below, here)) small;
    }
