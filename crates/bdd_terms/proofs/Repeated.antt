-- A unit of its own: the clause of a node alone follows from itself, where it is live, and what is new of it.
use Rattle.std.proofs.Common.{◌≡◌, ◌∙◌, ◌&&◌, ℕ, Bool, true, false, not, cond, ℤ, pos, List, [], ◌∷◌, None, Some, refl, sym, ap, subst}
use Rattle.std.specs.Prelude.{◌≢◌}
use Rattle.std.specs.Ordering.{int_eq}
use Rattle.std.proofs.lemmas.Bool.{or_left}
use Rattle.std.proofs.lemmas.Bool.Decides.{Decides-int_eq}
use Rattle.lrat_rules.specs.State.{Live, clause_at}
use Rattle.lrat_rules.specs.Chain.{effect_of_outside, literals_of}
use Rattle.lrat_rules.specs.Strict.{RefutesStrictly, is_strict, is_strict_effect, is_strict_hint}
use Rattle.hint_chain.specs.declared.atom.Atom.{Atom}
use Rattle.hint_chain.specs.declared.atom.Atom.TheVariants.{Always, Never, Of}
use Rattle.hint_chain.specs.Atoms.{clause_from_atoms, is_trivial}
use Rattle.node_table.specs.declared.node.Node.{Node}
use Rattle.node_table.specs.declared.node.Node.TheVariants.{False, True, Inner}
use Rattle.node_table.specs.declared.node.Justification.{Justification}
use Rattle.node_table.specs.declared.node.Justification.TheVariants.{Trivial, Clause}
use Rattle.node_table.specs.Defined.{atom_of}
use Rattle.node_table.specs.Diagram.{Graph, IsReduced, is_node}
use Rattle.node_table.specs.Justification.{IsJustified}
use Rattle.node_table.specs.Laws.{Canonical}
use Rattle.node_table.specs.Value.{value_of}
use Rattle.operations.specs.Results.{Conjoined}
use Rattle.bdd_terms.proofs.Units.{inner_of, unit_given}

-- the unit of a node that isn't True is a clause
pub has_clause : (graph : Graph) (live : Live) (w : Node) → is_node graph w ≡ true → w ≢ True → (unit : Justification)
    → IsJustified live (atom_of graph w ∷ []) unit → unit ≢ Trivial
has_clause graph live False stands some Trivial is same = let e : false ≡ true = is in cc
has_clause graph live False stands some (Clause id) is same = cc
has_clause graph live True stands some unit is same = some refl
has_clause graph live (Inner key) stands some unit is same =
    let inner = inner_of graph (Inner key) stands (λ e. cc) (λ e. cc) in
    unit_given live (pos inner.branch.variable) unit (subst (λ (x : Atom). IsJustified live (x ∷ []) unit) inner.atom is) same

-- that of True is none
pub none_of_true : (graph : Graph) (live : Live) (w : Node) → w ≡ True → IsJustified live (atom_of graph w ∷ []) Trivial
none_of_true graph live w is = ap (λ (node : Node). is_trivial (atom_of graph node ∷ [])) is

-- a clause of one literal, or without one, is a conflict with its own negation
pub follows_itself : (live : Live) (atom : Atom) (id : ℕ) (clause : List ℤ) → clause_at live id ≡ clause_from_atoms (atom ∷ [])
    → clause_from_atoms (atom ∷ []) ≡ Some clause → RefutesStrictly live clause (id ∷ [])
follows_itself live Always id clause at is = absurd (let e : None ≡ Some clause = is in cc)
follows_itself live Never id clause at is =
    let none : [] ≡ clause = (let e : Some [] ≡ Some clause = is in cc) in
    subst (λ (c : List ℤ). RefutesStrictly live c (id ∷ [])) none (record {
      strict = ap (is_strict_hint (literals_of []) true (λ n. is_strict live n [])) at;
    })
follows_itself live (Of x) id clause at is =
    let one : x ∷ [] ≡ clause = (let e : Some (x ∷ []) ≡ Some clause = is in cc) in
    let own : literals_of (x ∷ []) x ≡ true = or_left (int_eq x x) false ((Decides-int_eq x x).1 refl) in
    subst (λ (c : List ℤ). RefutesStrictly live c (id ∷ [])) one (record {
      strict = ap (is_strict_hint (literals_of (x ∷ [])) true (λ n. is_strict live n [])) at
          ∙ ap (λ (b : Bool). is_strict_effect (literals_of (x ∷ [])) true (λ n. is_strict live n [])
          (effect_of_outside (cond (not b) (x ∷ []) []))) own;
    })

and_false : (b : Bool) → (b && false) ≡ false
and_false true = refl
and_false false = refl

-- a conjunction that is neither operand has none that is False
module _ (canonical : Canonical) (graph : Graph) (reduced : IsReduced graph) (live : Live) (u v w : Node) (just : Justification)
    (is_u : is_node graph u ≡ true) (is_v : is_node graph v ≡ true) (conjoined : Conjoined graph live u v w just) where
  pub first_open : w ≢ u → u ≢ False
  first_open differ is = differ (canonical graph reduced w u conjoined.stands is_u (λ a. conjoined.value a
      ∙ ap (λ (node : Node). value_of graph a node && value_of graph a v) is ∙ sym (ap (value_of graph a) is)))

  pub second_open : w ≢ v → v ≢ False
  second_open differ is = differ (canonical graph reduced w v conjoined.stands is_v (λ a. conjoined.value a
      ∙ ap (λ (node : Node). value_of graph a u && value_of graph a node) is ∙ and_false (value_of graph a u)
      ∙ sym (ap (value_of graph a) is)))
