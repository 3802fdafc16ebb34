-- Quantification by levels and by variables.
use Rattle.std.proofs.Common.{◌≡◌, ℕ, ◌<◌, Bool, true, false, ◌||◌, refl, sym, ap, ◌∙◌, inl, inr, eq-eqb, ne_eqb, List}
use Rattle.std.specs.Prelude.{◌==◌, if◌then◌else◌}
use Rattle.std.proofs.lemmas.Bool.{cases_eq}
use Rattle.cnf_base.specs.Truth.{Assignment, with_value}
use Rattle.node_table.specs.declared.node.Node.{Node}
use Rattle.node_table.specs.Diagram.{Graph, IsOrder, IsReduced, is_node, levels, variable_at}
use Rattle.node_table.specs.Value.{Levels, by_level, value_of}
use Rattle.operations.specs.Results.{with_level}
use Rattle.quantify.specs.Quantification.{quantification_of}
use Rattle.bdd_terms.proofs.Places.{agree_within}
use Rattle.quantify.specs.SomeValues.{SetMeaning, some_values}

-- one variable set, by its number and by its level
module _ (graph : Graph) (reduced : IsReduced graph) (ordered : IsOrder graph.order) (level x : ℕ) (within : level
    < levels graph) (at : variable_at graph level ≡ x) where
  pub set_there : (a : Assignment) (value : Bool) (i : ℕ) → i < levels graph → with_level (by_level graph.order a) level value i
      ≡ by_level graph.order (with_value a x value) i
  set_there a value i small = elim (cases_eq i level) [
    | inl same ↦
        (λ k. if eq-eqb i level same k then value else a (variable_at graph i))
        ∙ sym (λ k. if eq-eqb (variable_at graph i) x (ap (variable_at graph) same ∙ at) k then value else a (variable_at graph i))
    | inr differ ↦
        (λ k. if ne_eqb i level differ k then value else a (variable_at graph i))
        ∙ sym (λ k. if ne_eqb (variable_at graph i) x (λ is. differ (ordered.apart i level small within (is ∙ sym at))) k then value else a
        (variable_at graph i))
  ]

  -- a node with one variable set
  pub set_value : (holds : Assignment → Bool) (u : Node) → is_node graph u ≡ true
      → ((a : Assignment) → value_of graph (by_level graph.order a) u ≡ holds a)
      → (a : Assignment) (b : Levels) → ((i : ℕ) → i < levels graph → b i ≡ by_level graph.order a i) → (value : Bool)
      → value_of graph (with_level b level value) u ≡ holds (with_value a x value)
  set_value holds u stands same a b agree value =
      agree_within graph reduced ordered (levels graph) (with_level b level value) (by_level graph.order (with_value a x value)) u stands
      (λ i small. (λ k. if i == level then value else agree i small k) ∙ set_there a value i small)
      ∙ same (with_value a x value)

  -- the quantified node, by assignments and by levels
  pub quantified_value : (holds : Assignment → Bool) (u : Node) → is_node graph u ≡ true
      → ((a : Assignment) → value_of graph (by_level graph.order a) u ≡ holds a) → (a : Assignment)
      → quantification_of graph u level (by_level graph.order a) ≡ (holds (with_value a x true) || holds (with_value a x false))
  quantified_value holds u stands same a =
      λ k. set_value holds u stands same a (by_level graph.order a) (λ i small. refl) true k
      || set_value holds u stands same a (by_level graph.order a) (λ i small. refl) false k

-- where a node holds, so does its quantification
own_level : (a : Levels) (level : ℕ) (value : Bool) → a level ≡ value → (i : ℕ) → with_level a level value i ≡ a i
own_level a level value own i = elim (cases_eq i level) [
  | inl same ↦ (λ k. if eq-eqb i level same k then value else a i) ∙ sym (ap a same ∙ own)
  | inr differ ↦ (λ k. if ne_eqb i level differ k then value else a i)
]

pub implies_some : (graph : Graph) (u : Node) (level : ℕ) (a : Levels) → value_of graph a u ≡ true → quantification_of graph u level a
    ≡ true
implies_some graph u level a holds = go (a level) refl
  where
    same : (value : Bool) → a level ≡ value → value_of graph (with_level a level value) u ≡ true
    same value own = (λ k. value_of graph (λ i. own_level a level value own i k) u) ∙ holds

    or_true : (b : Bool) → (b || true) ≡ true
    or_true true = refl
    or_true false = refl

    go : (value : Bool) → a level ≡ value → quantification_of graph u level a ≡ true
    go true own = (λ k. same true own k || value_of graph (with_level a level false) u)
    go false own = (λ k. value_of graph (with_level a level true) u || same false own k)
        ∙ or_true (value_of graph (with_level a level true) u)

-- where a function holds it does for some values of any variables
pub implies_by : SetMeaning → (set : List ℕ) (f : Levels → Bool) (a : Levels) → f a ≡ true → some_values set f a ≡ true
implies_by law set f a holds = law.by set f a (record { values = a; beside = λ i other. refl; holds = holds })
