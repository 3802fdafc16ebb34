-- At the limit of nodes each node has the function of a part that is in hand at one move: those that the terms before it reach,
-- and those of its own.
use Rattle.std.proofs.Common.{◌≡◌, ℕ, Bool, true, false, List, [], map, reverse, Some, Contains, refl, sym, subst, arith, inl, inr}
use Rattle.std.proofs.lemmas.List.{map-append}
use Rattle.std.proofs.lemmas.Bool.{cases_Bool}
use Rattle.std.proofs.lemmas.List.Elements.{Contains-append_cases, Contains-append_left, Contains-append_right}
use Rattle.cnf_base.specs.Formula.{Formula}
use Rattle.node_table.specs.declared.node.Node.{Node}
use Rattle.node_table.specs.declared.node.Branch.{Branch}
use Rattle.node_table.specs.Diagram.{Graph, IsOrder, branch_at, is_node}
use Rattle.node_table.specs.Laws.{Subfunctions}
use Rattle.node_table.specs.Made.{inner}
use Rattle.quantify.specs.RunsFor.{LacksOneOf}
use Rattle.node_table.specs.Value.{Levels, value_of}
use Rattle.schedule_plan.specs.declared.plan.Move.{Move}
use Rattle.schedule_plan.specs.Plan.{Stage, Term}
use Rattle.schedule_plan.specs.SetMove.{in_order}
use Rattle.reconstruction.specs.declared.entries.Kept.{Kept}
use Rattle.bdd_terms.specs.declared.held.HeldTerm.{HeldTerm}
use Rattle.term_runner.specs.Tidy.{WereLeft, held_nodes}
use Rattle.term_runner.specs.Width.{IsInHand, IsMove, IsPartInHand, IsPartOfTerm, roots}
use Rattle.bdd_terms.specs.Parts.{term_function}
use Rattle.term_runner.specs.Nodes.{IsGivenPart, KeepsOrMakes, RunsShort}
use Rattle.term_runner.proofs.Planned.{node_function}
use Rattle.term_runner.proofs.Reclaimed.{held_term, kept_term}
use Rattle.bdd_terms.proofs.Reclaimed.{of_map}
use Rattle.term_runner.proofs.Trails.{in_reverse}
use Rattle.bdd_terms.proofs.ReachedParts.{part_of_same, reached_part}

-- a stacked term is one that a reclamation keeps
pub stacked_root : (trail : Bool) (stage : Stage) (term : Term) → Contains stage.stack term → Contains (roots trail stage) term
stacked_root false stage term there = there
stacked_root true stage term there =
    Contains-append_left stage.stack (map (λ (kept : ℕ × Term). kept.1) stage.trail) term there

-- and so is one of the trail, where its terms may stand among the nodes
trail_root : (trail : Bool) (stage : Stage) (term : Term) → trail ≡ true → Contains (map (λ (kept : ℕ × Term). kept.1) stage.trail) term
    → Contains (roots trail stage) term
trail_root false stage term keeps there = absurd (let e : false ≡ true = keeps in cc)
trail_root true stage term keeps there =
    Contains-append_right stage.stack (map (λ (kept : ℕ × Term). kept.1) stage.trail) term there

-- a root's term, and that its function is the root's
record IsRootOf (keeps : Bool) (formula : Formula) (order : List ℕ) (graph : Graph) (before : Stage) (root : Node) : Type 0 where
  term : Term
  there : Contains (roots keeps before) term
  stands : is_node graph root ≡ true
  same : (a : Levels) → value_of graph a root ≡ term_function formula order term a

module _ (keeps : Bool) (formula : Formula) (order : List ℕ) (ordered : IsOrder order) (before : Stage) (left : ℕ)
    (were : WereLeft keeps formula order before left) where
  own_order : IsOrder were.graph.order
  own_order = subst IsOrder (sym were.order_is) ordered

  over_order : (term : Term) (node : Node) → ((a : Levels) → value_of were.graph a node ≡ term_function formula were.graph.order term a)
      → (a : Levels) → value_of were.graph a node ≡ term_function formula order term a
  over_order term node same = subst (λ (o : List ℕ). (a : Levels) → value_of were.graph a node
      ≡ term_function formula o term a) were.order_is same

  -- a node of the trail is there only where its terms may be
  may_keep : {root : Node} → Contains (map (λ (k : Kept). k.node) were.trail.recent) root → keeps ≡ true
  may_keep {root} there = elim (cases_Bool keeps) [
    | inl is ↦ is
    | inr not ↦
        let none : Contains [] root = subst (λ (recent : List Kept). Contains (map (λ (k : Kept). k.node) recent) root) (were.gone not) there in
        absurd (omega (arith, none.1))
  ]

  root_of : (root : Node) → Contains (held_nodes were.stack were.trail.recent) root → IsRootOf keeps formula order were.graph before root
  root_of root there = elim (Contains-append_cases (map (λ (h : HeldTerm). h.node) were.stack)
      (map (λ (k : Kept). k.node) were.trail.recent) root there) [
        | inl of_stack ↦
            let was = of_map (λ (h : HeldTerm). h.node) were.stack root of_stack in
            let found = held_term formula were.graph were.live (reverse were.stack) before.stack were.at.held was.0
            (in_reverse were.stack was.0 was.1) in
            subst (IsRootOf keeps formula order were.graph before) was.2 (record {
              term = found.0;
              there = stacked_root keeps before found.0 found.1;
              stands = found.2.is.stands;
              same = over_order found.0 was.0.node
                  (node_function were.graph were.reduced own_order formula was.0.node found.0 found.2.is.stands found.2.is.value);
            })
        | inr of_trail ↦
            let was = of_map (λ (k : Kept). k.node) were.trail.recent root of_trail in
            let found = kept_term formula were.graph were.live (reverse were.trail.recent) were.at.kept.recent were.at.kept.kept was.0
            (in_reverse were.trail.recent was.0 was.1) in
            subst (IsRootOf keeps formula order were.graph before) was.2 (record {
              term = found.whole;
              there = trail_root keeps before found.whole (may_keep of_trail)
                  (subst (λ (t : List (ℕ × Term)). Contains (map (λ (k : ℕ × Term). k.1) t) found.whole) (sym were.at.kept.all)
                  (subst (λ (l : List Term). Contains l found.whole) (sym (map-append (λ (k : ℕ × Term). k.1) were.at.kept.recent
                  were.at.kept.stored)) (Contains-append_left (map (λ (k : ℕ × Term). k.1) were.at.kept.recent)
                  (map (λ (k : ℕ × Term). k.1) were.at.kept.stored) found.whole found.there)));
              stands = found.stands;
              same = over_order found.whole was.0.node
                  (node_function were.graph were.reduced own_order formula was.0.node found.whole found.stands found.value);
            })
      ]

  -- a node that was left is of a part of a term that the reclamation kept
  pub left_part : (law : Subfunctions) (trail : Bool) (first last : Stage)
      → ((term : Term) → Contains (roots keeps before) term → IsInHand trail first last term)
      → (key : ℕ) (branch : Branch) → branch_at were.graph key ≡ Some branch
      → IsPartOfTerm trail formula order first last (λ a. value_of were.graph a (inner key))
  left_part law trail first last in_hand key branch at =
      let by = were.reached key branch at in
      let root = root_of by.root by.is_root in
      record {
        term = root.term;
        in_hand = in_hand root.term root.there;
        is_part = part_of_same (λ a. value_of were.graph a by.root) (term_function formula order root.term)
            (λ a. value_of were.graph a (inner key)) (λ a. value_of were.graph a (inner key))
            root.same (λ a. refl) (reached_part law were.graph were.reduced by.root (inner key) root.stands by.reaches);
      }

-- a part that a move makes is in hand
pub given_part : (trail : Bool) (formula : Formula) (order : List ℕ) (before after : Stage) (part : Levels → Bool)
    → IsGivenPart formula order before after part → IsPartInHand trail formula order before after part
given_part trail formula order before after part is = elim is [
  | inl result ↦ inl (record { term = result.term; in_hand = inr result.is_result; is_part = result.is_part })
  | inr behind ↦ inr behind
]

-- At the limit of nodes.
pub short_at_limit : Subfunctions → (keeps : Bool) (formula : Formula) (order : List ℕ) → IsOrder order
    → (moves : List Move) (count : ℕ) (before after : Stage) → (move : IsMove formula (in_order order moves) count before after) (left : ℕ)
    (were : WereLeft keeps formula order before left) (graph : Graph) → KeepsOrMakes were.graph graph (IsGivenPart formula order before after)
    → LacksOneOf graph (IsGivenPart formula order before after)
    → RunsShort keeps formula order moves graph
short_at_limit law keeps formula order ordered moves count before after move left were graph made lacks = record {
  count = count;
  before = before;
  after = after;
  move = move;
  in_hand = λ key branch at. elim (made.each key branch at) [
    | inl there ↦
        let part = left_part keeps formula order ordered before left were law keeps before after (λ term root. inl root) key branch there.0 in
        inl (record {
          term = part.term;
          in_hand = part.in_hand;
          is_part = part_of_same (term_function formula order part.term) (term_function formula order part.term)
              (λ a. value_of were.graph a (inner key)) (λ a. value_of graph a (inner key)) (λ a. refl) there.1 part.is_part;
        })
    | inr part ↦ given_part keeps formula order before after (λ a. value_of graph a (inner key)) part
  ];
  further = lacks.part;
  is_part = given_part keeps formula order before after lacks.part lacks.is_one;
  nowhere = lacks.nowhere;
}
