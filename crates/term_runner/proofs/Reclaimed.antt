-- A reclamation between moves: the nodes of the stacked terms and of the trail, which are its roots, stay with their
-- functions, and so do the terms' units.
use Rattle.std.proofs.Common.{◌≡◌, ◌∙◌, ℕ, zero, suc, true, List, [], ◌∷◌, map, reverse, Contains, refl, sym, subst, arith, inl, inr}
use Rattle.std.proofs.lemmas.List.{append-nil, reverse-reverse}
use Rattle.std.proofs.lemmas.List.Elements.{Contains-append_cases, Contains-append_left, Contains-append_right}
use Rattle.cnf_base.specs.Truth.{Assignment}
use Rattle.cnf_base.specs.Formula.{Formula}
use Rattle.lrat_rules.specs.State.{Live, clause_at}
use Rattle.node_table.specs.declared.node.Node.{Node}
use Rattle.node_table.specs.declared.node.Justification.TheVariants.{Clause}
use Rattle.node_table.specs.Diagram.{Graph, IsReduced, KeepsNodes, is_node}
use Rattle.node_table.specs.Laws.{Growth}
use Rattle.node_table.specs.Table.{TableState, IsSound}
use Rattle.node_table.specs.Value.{by_level, value_of}
use Rattle.operations.specs.Entries.{Entry}
use Rattle.reclaim.specs.Reclaimed.{MayReclaim, Reclaims}
use Rattle.reconstruction.specs.Copies.{AreCopies}
use Rattle.reconstruction.specs.Stack.{Stack}
use Rattle.schedule_plan.specs.Plan.{term_holds, Stage, Term}
use Rattle.bdd_terms.specs.declared.held.HeldTerm.{HeldTerm}
use Rattle.term_runner.specs.Held.{AreHeld, IsAt, IsHeld}
use Rattle.bdd_terms.specs.Units.{HasUnits}
use Rattle.reconstruction.specs.declared.entries.Kept.{Kept}
use Rattle.term_runner.specs.Trail.{AreKept, IsTrail}
use Rattle.term_runner.specs.Tidy.{held_nodes}
use Rattle.bdd_terms.proofs.OwnUnits.{later}
use Rattle.term_runner.proofs.Trails.{in_reverse}
use Rattle.bdd_terms.proofs.Reclaimed.{in_map, of_map, were, root_stands, unit_stays, may_reclaim_owned}

from_reverse : {X : Type 0} (xs : List X) (x : X) → Contains (reverse xs) x → Contains xs x
from_reverse {X} xs x there = subst (λ (list : List X). Contains list x) (reverse-reverse xs) (in_reverse (reverse xs) x there)

-- the roots are the nodes of the stacked terms and of the trail
module _ (stack : List HeldTerm) (trail : List Kept) where
  held_root : (held : HeldTerm) → Contains (reverse stack) held → Contains (held_nodes stack trail) held.node
  held_root held there =
      Contains-append_left (map (λ (h : HeldTerm). h.node) stack) (map (λ (k : Kept). k.node) trail) held.node
      (in_map (λ (h : HeldTerm). h.node) stack held (from_reverse stack held there))

  kept_root : (kept : Kept) → Contains (reverse trail) kept → Contains (held_nodes stack trail) kept.node
  kept_root kept there =
      Contains-append_right (map (λ (h : HeldTerm). h.node) stack) (map (λ (k : Kept). k.node) trail) kept.node
      (in_map (λ (k : Kept). k.node) trail kept (from_reverse trail kept there))

module _ (formula : Formula) (graph : Graph) (live : Live) where
  pub held_term : (stack : List HeldTerm) (terms : List Term) → AreHeld formula graph live stack terms → (held : HeldTerm)
      → Contains stack held
      → (term : Term) × Contains terms term × IsHeld formula graph live held term
  held_term [] terms are held there = absurd (omega (arith, there.1))
  held_term (first ∷ stack) [] are held there = absurd are
  held_term (first ∷ stack) (term ∷ terms) are held (zero, small, at) = (
    term,
    (zero, omega arith, refl),
    subst (λ (h : HeldTerm). IsHeld formula graph live h term) at are.0,
  )
  held_term (first ∷ stack) (term ∷ terms) are held (suc k, small, at) =
      let found = held_term stack terms are.1 held (k, omega (arith, small), at) in (found.0, later term terms found.0 found.1, found.2)

  -- a term on the trail that a kept node is of
  pub record IsKeptOf (node : Node) (trail : List (ℕ × Term)) : Type 0 where
    pub whole : Term
    pub there : Contains (map (λ (q : ℕ × Term). q.1) trail) whole
    pub stands : is_node graph node ≡ true
    pub value : (a : Assignment) → value_of graph (by_level graph.order a) node ≡ term_holds formula a whole

  pub kept_term : (nodes : List Kept) (trail : List (ℕ × Term)) → AreKept formula graph nodes trail → (kept : Kept)
      → Contains nodes kept → IsKeptOf kept.node trail
  kept_term [] trail are kept there = absurd (omega (arith, there.1))
  kept_term (first ∷ nodes) [] are kept there = absurd are
  kept_term (first ∷ nodes) (quantified ∷ trail) are kept (zero, small, at) =
      subst (λ (k : Kept). IsKeptOf k.node (quantified ∷ trail)) at
      (record { whole = are.0.whole; there = are.0.there; stands = are.0.stands; value = are.0.value })
  kept_term (first ∷ nodes) (quantified ∷ trail) are kept (suc k, small, at) =
      let found = kept_term nodes trail are.1 kept (k, omega (arith, small), at) in
      record {
        whole = found.whole;
        there = later quantified.1 (map (λ (q : ℕ × Term). q.1) trail) found.whole found.there;
        stands = found.stands;
        value = found.value;
      }

  pub roots_stand : (stack : List HeldTerm) (trail : Stack) (stage : Stage) → IsAt formula graph live stack trail stage
      → (root : Node) → Contains (held_nodes stack trail.recent) root → is_node graph root ≡ true
  roots_stand stack trail stage at root there = elim (Contains-append_cases (map (λ (h : HeldTerm). h.node) stack)
      (map (λ (k : Kept). k.node) trail.recent) root there) [
        | inl of_stack ↦
            let was = of_map (λ (h : HeldTerm). h.node) stack root of_stack in
            subst (λ (node : Node). is_node graph node ≡ true) was.2
            (held_term (reverse stack) stage.stack at.held was.0 (in_reverse stack was.0 was.1)).2.is.stands
        | inr of_trail ↦
            let was = of_map (λ (k : Kept). k.node) trail.recent root of_trail in
            subst (λ (node : Node). is_node graph node ≡ true) was.2
            (kept_term (reverse trail.recent) at.kept.recent at.kept.kept was.0 (in_reverse trail.recent was.0 was.1)).stands
      ]

-- of what the roots reach
module _ {S : Type 0} (growth : Growth) (old new : TableState S) (roots : List Node) (before after : List Entry) (sound : IsSound new)
    (reclaims : Reclaims old new roots before after) where
  node_value : (node : Node) → is_node new.graph node ≡ true → (a : Assignment) → value_of new.graph (by_level new.graph.order a) node
      ≡ value_of old.graph (by_level old.graph.order a) node
  node_value node is a = (λ k. value_of new.graph (by_level (reclaims.order k) a) node)
      ∙ sym (growth.value new.graph old.graph sound.tied.reduced (were growth old new roots before after sound reclaims) (by_level old.graph.order a) node is)

module _ {S : Type 0} (growth : Growth) (formula : Formula) (old new : TableState S) (stack : List HeldTerm) (trail : Stack)
    (before after : List Entry) (sound : IsSound new)
    (reclaims : Reclaims old new (held_nodes stack trail.recent) before after) where
  abbrev roots : List Node
  roots = held_nodes stack trail.recent

  all_stay : (held : List HeldTerm) (terms : List Term) → ((one : HeldTerm) → Contains held one → Contains roots one.node)
      → ((one : HeldTerm) → Contains held one → (id : ℕ) → one.unit ≡ Clause id → clause_at new.book.state.live id
      ≡ clause_at old.book.state.live id)
      → AreHeld formula old.graph old.book.state.live held terms → AreHeld formula new.graph new.book.state.live held terms
  all_stay [] [] there stay are = tt
  all_stay [] (term ∷ terms) there stay are = absurd are
  all_stay (one ∷ held) [] there stay are = absurd are
  all_stay (one ∷ held) (term ∷ terms) there stay are =
      let first : Contains (one ∷ held) one = (zero, omega arith, refl) in
      let stands = root_stands growth old new roots before after sound reclaims one.node (there one first) are.0.is.stands in (
        record {
          is = record {
            stands = stands;
            value = λ a. node_value growth old new roots before after sound reclaims one.node stands a ∙ are.0.is.value a;
            proved = unit_stays growth old new roots before after sound reclaims one.node stands one.unit (stay one first) are.0.is.proved;
          };
          not_false = are.0.not_false;
        },
        all_stay held terms (λ other among. there other (later one held other among))
            (λ other among. stay other (later one held other among)) are.1,
      )

  trail_stays : (nodes : List Kept) (quantified : List (ℕ × Term))
      → ((kept : Kept) → Contains nodes kept → Contains roots kept.node)
      → AreKept formula old.graph nodes quantified → AreKept formula new.graph nodes quantified
  trail_stays [] [] there are = tt
  trail_stays [] (variable ∷ quantified) there are = absurd are
  trail_stays (kept ∷ nodes) [] there are = absurd are
  trail_stays (kept ∷ nodes) (variable ∷ quantified) there are =
      let stands = root_stands growth old new roots before after sound reclaims kept.node (there kept (zero, omega arith, refl))
      are.0.stands in (
        record {
          variable = are.0.variable;
          within = are.0.within;
          stands = stands;
          whole = are.0.whole;
          there = are.0.there;
          value = λ a. node_value growth old new roots before after sound reclaims kept.node stands a ∙ are.0.value a;
          by = are.0.by;
        },
        trail_stays nodes quantified (λ other among. there other (later kept nodes other among)) are.1,
      )

  -- the nodes that are left were there
  pub were_there : KeepsNodes new.graph old.graph
  were_there = were growth old new roots before after sound reclaims

  -- of the trail only the copies changed
  pub trail_reclaimed : (left : Stack) → left ≡ record trail { copies = left.copies } → AreCopies new.graph left.cells left.copies
      → (quantified : List (ℕ × Term)) → IsTrail formula old.graph trail quantified → IsTrail formula new.graph left quantified
  trail_reclaimed left same copies quantified is = subst (λ (t : Stack). IsTrail formula new.graph t quantified) (sym same) (record {
    recent = is.recent;
    stored = is.stored;
    all = is.all;
    kept = trail_stays (reverse trail.recent) is.recent (kept_root stack trail.recent) is.kept;
    copied = is.copied;
    copies = subst (λ (t : Stack). AreCopies new.graph t.cells left.copies) same copies;
  })

  pub at_reclaimed : HasUnits old before (reverse stack) → (left : Stack) → left ≡ record trail { copies = left.copies }
      → AreCopies new.graph left.cells left.copies → (stage : Stage) → IsAt formula old.graph old.book.state.live stack trail stage
      → IsAt formula new.graph new.book.state.live stack left stage
  at_reclaimed has left same copies stage at = record {
    held = all_stay (reverse stack) stage.stack (held_root stack trail.recent)
        (λ held there id is. reclaims.kept id (has.added id (record { held = held; stacked = there; unit = is }))
        (has.own held there id is)) at.held;
    kept = trail_reclaimed left same copies stage.trail at.kept;
  }

-- so it is of stacked terms
pub may_reclaim : {S : Type 0} (formula : Formula) (table : TableState S) (kept : List Entry) (stack : List HeldTerm)
    (trail : Stack) (stage : Stage) → IsReduced table.graph → HasUnits table kept (reverse stack)
    → IsAt formula table.graph table.book.state.live stack trail stage → MayReclaim table kept (held_nodes stack trail.recent)
may_reclaim formula table kept stack trail stage reduced has at =
    may_reclaim_owned table kept (reverse stack) [] (held_nodes stack trail.recent) reduced
    (subst (HasUnits table kept) (sym (append-nil (reverse stack))) has) (λ id there. absurd (omega (arith, there.1)))
    (λ held among. let term = held_term formula table.graph table.book.state.live (reverse stack) stage.stack at.held held among in
    record { stands = term.2.is.stands; unit = term.2.is.proved })
    (λ held among. inr (held_root stack trail.recent held among))
