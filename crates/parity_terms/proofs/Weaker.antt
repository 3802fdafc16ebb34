-- A term weakened to the sum of some variables, which it implies: first the sum's node, then its term.
use Rattle.std.proofs.Common.{◌≡◌, ◌∙◌, ℕ, Bool, true, false, List, Some, Ok, Err, Result, refl, sym}
use Rattle.std.proofs.Common.{subst, inl, inr}
use Rattle.std.specs.Prelude.{IsErrAnd, IsTrue}
use Rattle.std.specs.Option.{option_to_list}
use Rattle.std.proofs.lemmas.List.Elements.{Contains-append_left}
use Rattle.cnf_base.specs.Truth.{Assignment}
use Rattle.node_table.specs.declared.error.TableError.{TableError}
use Rattle.node_table.specs.declared.node.Node.{Node}
use Rattle.node_table.specs.declared.node.Node.TheVariants.{False, True}
use Rattle.node_table.specs.Diagram.{is_node}
use Rattle.node_table.specs.HandedOn.{no_error}
use Rattle.node_table.specs.Laws.{Cofactors, StepByStep}
use Rattle.parity_nodes.specs.Sums.{sum_is}
use Rattle.clause_terms.specs.Term.{by_variable}
use Rattle.imply.specs.Implication.{IsRefuted}
use Rattle.bdd_terms.specs.declared.held.HeldTerm.{HeldTerm}
use Rattle.bdd_terms.specs.declared.runner.Runner.{Runner}
use Rattle.bdd_terms.specs.declared.term.Term.{Term}
use Rattle.bdd_terms.specs.Parity.{TakesNode, TakesWeaker, always, node_holds}
use Rattle.bdd_terms.specs.Runner.{IsGood, IsListed, holds_in, true_term}
use Rattle.parity_terms.specs.Owned.{Owns}
use Rattle.parity_terms.specs.Steps.{Goes, Takes}
use Rattle.parity_terms.proofs.ByAssignment.{by_assignment}
use Rattle.parity_terms.proofs.Taken.{takes_further, takes_of}

-- the same function by other words
pub takes_same : {S : Type 0} (terms : List HeldTerm) (other holds : Assignment → Bool) (old new : Runner S)
    (result : Result Term TableError)
    → ((a : Assignment) → other a ≡ holds a) → Takes terms other old new result → Takes terms holds old new result
takes_same terms other holds old new (Ok term) same takes = record {
  goes_on = takes.goes_on;
  stands = takes.stands;
  value = λ a. takes.value a ∙ same a;
  owns = takes.owns;
  refutes = takes.refutes;
  unrefuted = takes.unrefuted;
  keeps = takes.keeps;
  leaves = takes.leaves;
}
takes_same terms other holds old new (Err error) same takes = record {
  goes_on = takes.goes_on;
  stands = tt;
  value = tt;
  owns = takes.owns;
  refutes = tt;
  unrefuted = takes.unrefuted;
  keeps = takes.keeps;
  leaves = takes.leaves;
}

-- an error that is handed on
pub takes_handed : {S : Type 0} (terms : List HeldTerm) (holds : Assignment → Bool) (old new : Runner S) (came : TableError)
    (result : Result Term TableError) → IsErrAnd result (λ e. e ≡ came) → Takes terms holds old new (Err came)
    → Takes terms holds old new result
takes_handed terms holds old new came (Ok term) is takes = absurd is
takes_handed terms holds old new came (Err e) is takes =
    subst (λ (error : TableError). Takes terms holds old new (Err error)) (sym is) takes

-- an error says nothing of the function
takes_refused : {S : Type 0} (terms : List HeldTerm) (other holds : Assignment → Bool) (old new : Runner S) (error : TableError)
    → Takes terms other old new (Err error) → Takes terms holds old new (Err error)
takes_refused terms other holds old new error takes = record {
  goes_on = takes.goes_on;
  stands = tt;
  value = tt;
  owns = takes.owns;
  refutes = tt;
  unrefuted = takes.unrefuted;
  keeps = takes.keeps;
  leaves = takes.leaves;
}

-- True is not listed
same_list : (before after : List HeldTerm) → IsListed before after true_term → after ≡ before
same_list before after (inl same) = same.1
same_list before after (inr one) = absurd (one.0 refl)

module _ {S : Type 0} (cofactors : Cofactors) (steps : StepByStep S) (old mid : Runner S) (terms : List HeldTerm)
    (owns : Owns terms old.terms.out.items) (variables : List ℕ) (bit : Bool) where
  -- the sum's node wasn't found
  pub torn_node : (error : TableError) → TakesNode (sum_is bit variables) old mid (Err error)
      → Takes terms (sum_is bit variables) old mid (Err error)
  torn_node error none =
      takes_refused terms (λ a. true) (sum_is bit variables) old mid error
      (takes_of old mid terms owns (λ a. true) (Err error) none.takes)

  module _ (node : Node) (found : TakesNode (sum_is bit variables) old mid (Ok node)) (u : HeldTerm) (good : IsGood old u) where
    same_out : mid.terms.out.items ≡ old.terms.out.items
    same_out = same_list old.terms.out.items mid.terms.out.items found.takes.listed

    first : Takes terms (λ a. true) old mid (Ok always)
    first = takes_of old mid terms owns (λ a. true) (Ok always) found.takes

    pub goes : Goes terms old mid
    goes = record {
      runner = first.goes_on no_error;
      owns = subst (Owns terms) (sym same_out) owns;
      refuted = first.unrefuted no_error (λ false_one. let e : True ≡ False = false_one in cc);
      keeps = first.keeps no_error;
      continues = first.leaves;
    }

    pub good_mid : IsGood mid u
    good_mid = (found.takes.keeps no_error).good u good

    module _ (new : Runner S) where
      -- the term wasn't found
      pub torn_weaker : (error : TableError) → TakesWeaker u node mid new (Err error) → Takes terms (sum_is bit variables) old new (Err error)
      torn_weaker error weakens =
          takes_refused terms (node_holds mid.terms.table.graph node) (sum_is bit variables) old new error
          (takes_further steps terms old mid new (node_holds mid.terms.table.graph node) (Err error) goes
          (takes_of mid new terms goes.owns (node_holds mid.terms.table.graph node) (Err error) weakens.takes))

      -- it was
      pub takes_weaker : (term : Term) → TakesWeaker u node mid new (Ok (Some term)) → Takes terms (sum_is bit variables) old new (Ok term)
      takes_weaker term weakens =
          takes_same terms (node_holds mid.terms.table.graph node) (sum_is bit variables) old new (Ok term) found.node.value
          (takes_further steps terms old mid new (node_holds mid.terms.table.graph node) (Ok term) goes
          (takes_of mid new terms goes.owns (node_holds mid.terms.table.graph node) (Ok term) weakens.takes))

    -- what the term implies isn't refuted
    pub not_refuted : ((a : Assignment) → holds_in old u a ≡ true → sum_is bit variables a ≡ true)
        → IsRefuted mid.terms.table.graph u.node node → ⊥
    not_refuted implies refuted =
        let graph = mid.terms.table.graph in
        let a = by_variable graph.order refuted.values in
        let reduced = goes.runner.over.sound.tied.reduced in
        let ordered = goes.runner.over.sound.tied.ordered in
        let holds : holds_in mid u a ≡ true =
        by_assignment cofactors graph reduced ordered refuted.values u.node stands ∙ refuted.holds in
        let fails : sum_is bit variables a ≡ false =
        sym (found.node.value a) ∙ by_assignment cofactors graph reduced ordered refuted.values node found.node.stands ∙ refuted.fails in
        let e : true ≡ false = sym (implies a (sym ((found.takes.keeps no_error).values u good a) ∙ holds)) ∙ fails in
        cc
      where
        stands : IsTrue (is_node mid.terms.table.graph u.node)
        stands = elim good_mid [
          | inl true_one ↦ subst (λ (h : HeldTerm). IsTrue (is_node mid.terms.table.graph h.node)) (sym true_one) refl
          | inr among ↦ (goes.runner.proved u (Contains-append_left mid.terms.out.items (option_to_list mid.kept) u among)).stands
        ]
