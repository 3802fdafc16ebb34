-- A literal's node over the diagram of the later literals is the diagram of all of them.
use Rattle.std.proofs.Common.{◌≡◌, ◌≢◌, ℕ, zero, suc, ◌<◌, Bool, true, false, pos, neg_ℤ, List, [], ◌∷◌, ◌++◌, reverse, length, map, Some}
use Rattle.std.proofs.Common.{nat_abs, refl, sym, ap, ◌∙◌, subst}
use Rattle.std.specs.Prelude.{IsTrue, if◌then◌else◌}
use Rattle.std.proofs.lemmas.List.{reverse-append}
use Rattle.lrat_rules.specs.State.{Live}
use Rattle.hint_chain.specs.declared.unit.UnitPart.{UnitPart}
use Rattle.node_table.specs.declared.node.Node.{Node}
use Rattle.node_table.specs.declared.node.Node.TheVariants.{True, Inner}
use Rattle.node_table.specs.declared.node.Branch.{Branch}
use Rattle.node_table.specs.Diagram.{Graph, IsOrder, IsReduced, KeepsNodes, branch_at, branch_of, is_node, levels, variable_at}
use Rattle.node_table.specs.Defined.{IsDefined}
use Rattle.node_table.specs.Laws.{Cofactors, Growth}
use Rattle.node_table.specs.Tied.{KeepsClauses}
use Rattle.node_table.specs.Table.{HasChildren}
use Rattle.clause_terms.specs.declared.placed.Placed.{Placed}
use Rattle.clause_terms.specs.Placed.{literal_at}
use Rattle.clause_terms.specs.ClauseDiagram.{IsBefore, IsTopNode, IsDiagramOf, high_of, low_of, part_of}
use Rattle.clause_terms.proofs.Inner.{inner_of}
use Rattle.clause_terms.proofs.Links.{positive_literal, positive_next, positive_last, negative_literal, negative_next, negative_last}
use Rattle.clause_terms.proofs.TopStep.{LastLaw, OnTopLaw, KeptLaw, IsPartOf, top_step}
use Rattle.clause_terms.proofs.StepValue.{value_step}

children_differ : (negative : Bool) (below : Node) → below ≢ True → (if negative then below else True) ≢ (if negative then True else below)
children_differ true below not_true = not_true
children_differ false below not_true = λ same. not_true (sym same)

pub size_of_negation : (x : ℕ) → nat_abs (neg_ℤ (pos x)) ≡ x
size_of_negation zero = refl
size_of_negation (suc x) = refl

-- a part with the literal of a level, either sign
abbrev part_at : Graph → Bool → ℕ → Branch → UnitPart
part_at graph negative level b = part_of graph (record { level = level; negative = negative }) (Some b)

part_is : (new : Graph) (more : Live) (b : Branch) → IsDefined more new b → 0 < variable_at new b.level → (below : Node) (negative : Bool)
    → b.high ≡ (if negative then below else True) → b.low ≡ (if negative then True else below)
    → IsPartOf new more (literal_at new (record { level = b.level; negative = negative })) b.level below b (part_at new negative b.level b)
part_is new more b defined positive below false is_high is_low = record {
  own = refl;
  size = refl;
  falsifies = positive_literal more new b defined is_high;
  last = λ e. positive_last more new b defined (is_low ∙ e);
  next = λ key branch e at. positive_next more new b defined key branch (is_low ∙ e) at;
}
part_is new more b defined positive below true is_high is_low = record {
  own = refl;
  size = size_of_negation (variable_at new b.level);
  falsifies = negative_literal more new b defined positive is_low;
  last = λ e. negative_last more new b defined positive (is_high ∙ e);
  next = λ key branch e at. negative_next more new b defined positive key branch (is_high ∙ e) at;
}

pub added : LastLaw → OnTopLaw → KeptLaw → Cofactors → Growth → (old new : Graph) (live more : Live) → IsReduced old → IsReduced new
    → IsOrder new.order
    → KeepsNodes old new → KeepsClauses live more → ((key : ℕ) (branch : Branch) → branch_at new key ≡ Some branch
    → IsDefined more new branch)
    → (p : Placed) (placed : List Placed) → IsBefore p.level placed → (below node : Node) (path : List UnitPart) → p.level < levels old
    → IsTrue (is_node old below) → below ≢ True → IsDiagramOf old live placed below path
    → HasChildren new p.level (high_of p below) (low_of p below) node
    → IsDiagramOf new more (p ∷ placed) node (part_of new p (branch_of new node) ∷ path)
added last on_top kept cofactors growth old new live more old_reduced reduced ordered keeps clauses defined p placed before below node path
    level below_stands not_true diagram has =
    let inner = inner_of new p.level (high_of p below) (low_of p below) node (children_differ p.negative below not_true) has in
    let b = inner.branch in
    let small : p.level < levels new = subst (λ (order : List ℕ). p.level < length order) (sym keeps.order) level in
    let positive : 0 < variable_at new b.level = (ordered.within b.level (subst (λ l. l < levels new) (sym inner.of_level) small)).0 in
    let is_part : IsPartOf new more (literal_at new p) p.level below b (part_of new p (Some b)) =
    subst (λ l. IsPartOf new more (literal_at new (record { level = l; negative = p.negative })) l below b
    (part_at new p.negative l b)) inner.of_level
    (part_is new more b (defined inner.key.index b inner.stands) positive below p.negative inner.is_high inner.is_low) in
    let top : IsTopNode new more p.level (map (literal_at new) (p ∷ placed)) (Inner inner.key) (part_of new p (Some b) ∷ path) =
    top_step last on_top kept old new live more reduced ordered keeps clauses p small below inner.key b
    (part_of new p (Some b)) inner.stands inner.of_level is_part
    placed path before diagram.top in
    let found : branch_of new node ≡ Some b = ap (branch_of new) inner.named ∙ inner.stands in
    record {
      value = value_step cofactors growth old new old_reduced reduced keeps p placed below node below_stands diagram.value has;
      top = subst (λ n. IsTopNode new more p.level (map (literal_at new) (p ∷ placed)) n (part_of new p (branch_of new node) ∷ path))
          (sym inner.named)
          (subst (λ o. IsTopNode new more p.level (map (literal_at new) (p ∷ placed)) (Inner inner.key) (part_of new p o ∷ path))
          (sym found) top);
    }

pub reverse_more : {X : Type 0} (old new : List X) (x y : X) → new ≡ old ++ x ∷ [] → x ≡ y → reverse new ≡ y ∷ reverse old
reverse_more old new x y more same = ap reverse more ∙ reverse-append old (x ∷ []) ∙ ap (λ first. first ∷ reverse old) same
