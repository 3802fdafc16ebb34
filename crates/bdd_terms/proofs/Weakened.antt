-- How a call that weakens a term ends: with an error, with a term, or with none; and the deletion of retired clauses behind it.
use Rattle.std.proofs.Common.{◌≡◌, ◌⊎◌, ◌∙◌, Bool, true, List, [], ◌∷◌, None, Some, Option, Ok, Err, Result, refl, sym, ap, subst, inl, inr}
use Rattle.std.specs.Prelude.{◌≢◌}
use Rattle.cnf_base.specs.Truth.{Assignment}
use Rattle.node_table.specs.declared.error.TableError.{TableError}
use Rattle.node_table.specs.declared.error.TableError.TheVariants.{NodeLimit, WriteFault}
use Rattle.node_table.specs.declared.node.Node.{Node}
use Rattle.node_table.specs.HandedOn.{no_error, same_answer, same_error}
use Rattle.node_table.specs.Refused.{no_nodes_left}
use Rattle.node_table.specs.Value.{Levels, value_of}
use Rattle.imply.specs.Implication.{IsRefuted}
use Rattle.bdd_terms.specs.declared.held.HeldTerm.{HeldTerm}
use Rattle.bdd_terms.specs.declared.runner.Runner.{Runner}
use Rattle.bdd_terms.specs.declared.term.Term.{Term}
use Rattle.bdd_terms.specs.Parity.{Implies, Weakens, always, node_holds, some_or}
use Rattle.bdd_terms.specs.Runner.{Gives}

module _ {S : Type 0} (operand : HeldTerm) (node : Node) (old new : Runner S) (nodes : new.terms.table.graph ≡ old.terms.table.graph) where
  abbrev function : Levels → Bool
  function a = value_of old.terms.table.graph a node

  pub weakened_error : (came : TableError) → came ≢ NodeLimit
      → Gives function (node_holds old.terms.table.graph node) (operand ∷ []) old new (Err came)
      → (r : Result (Option Term) TableError) → r ≡ Err came → Weakens operand node old new r
  weakened_error came no_limit gives r is = subst (λ (r : Result (Option Term) TableError). Weakens operand node old new r) (sym is) (record {
    gives = gives;
    node_is = tt;
    implied = tt;
    none = λ same. absurd (no_error (sym same));
    nodes = nodes;
    no_node_limit = λ limit. no_limit (same_error limit);
  })

  pub weakened_some : (term : Term) → term.held.node ≡ node → Implies old.terms.table.graph operand.node node
      → Gives function (node_holds old.terms.table.graph node) (operand ∷ []) old new (Ok term) → Weakens operand node old new (Ok (Some term))
  weakened_some term at implied gives = record {
    gives = gives;
    node_is = at;
    implied = implied;
    none = λ same. absurd (let e : Some term ≡ None = same_answer same in cc);
    nodes = nodes;
    no_node_limit = λ limit. no_error limit;
  }

  pub weakened_none : IsRefuted old.terms.table.graph operand.node node → new.terms.out.items ≡ old.terms.out.items
      → Gives function (λ a. true) (operand ∷ []) old new (Ok always) → Weakens operand node old new (Ok None)
  weakened_none refuted out gives = record {
    gives = gives;
    node_is = tt;
    implied = tt;
    none = λ same. (refuted, out);
    nodes = nodes;
    no_node_limit = λ limit. no_error limit;
  }

-- an error says nothing of what would hold
pub any_holds : {S : Type 0} (function : Levels → Bool) (one other : Assignment → Bool) (operands : List HeldTerm) (old new : Runner S)
    (came : TableError) → Gives function one operands old new (Err came) → Gives function other operands old new (Err came)
any_holds function one other operands old new came gives = record {
  goes_on = gives.goes_on;
  term = tt;
  listed = tt;
  refused = gives.refused;
  refutes = tt;
  unrefuted = gives.unrefuted;
  same = gives.same;
  left = gives.left;
  leaves = gives.leaves;
  nodes = gives.nodes;
  adds = gives.adds;
  pairs = gives.pairs;
  made = gives.made;
  lacks = gives.lacks;
}

-- the retired clauses are deleted behind it
module _ {S : Type 0} (operand : HeldTerm) (node : Node) (old mid new : Runner S) (found r : Result Term TableError)
    (settles : (function : Levels → Bool) (holds : Assignment → Bool) (operands : List HeldTerm) (was : Runner S)
    → Gives function holds operands was mid found → Gives function holds operands was new r)
    (given : (r ≡ found) ⊎ (r ≡ Err WriteFault)) (graph : new.terms.table.graph ≡ mid.terms.table.graph)
    (out : new.terms.out ≡ mid.terms.out) where
  no_limit_came : (came : TableError) (term : Term) → found ≡ Ok term → r ≡ Err came → came ≢ NodeLimit
  no_limit_came came term was is limit = elim given [
    | inl same ↦ no_error (sym was ∙ sym same ∙ is)
    | inr torn ↦ no_nodes_left (sym limit ∙ same_error (sym is ∙ torn))
  ]

  -- behind none
  pub settled_none : Weakens operand node old mid (Ok None) → found ≡ Ok always → (term : Term) → r ≡ Ok term
      → Weakens operand node old new (Ok None)
  settled_none own was term is =
      let function : Levels → Bool = λ a. value_of old.terms.table.graph a node in
      let gives = settles function (λ a. true) (operand ∷ []) old
      (subst (λ (f : Result Term TableError). Gives function (λ a. true) (operand ∷ []) old mid f) (sym was) own.gives) in
      let at : r ≡ Ok always = elim given [ inl same ↦ same ∙ was | inr torn ↦ absurd (no_error (sym is ∙ torn)) ] in
      let none = own.none refl in
      weakened_none operand node old new (graph ∙ own.nodes) none.0 (ap (λ o. o.items) out ∙ none.1)
      (subst (λ (f : Result Term TableError). Gives function (λ a. true) (operand ∷ []) old new f) at gives)

  pub torn_none : Weakens operand node old mid (Ok None) → found ≡ Ok always → (came : TableError) → r ≡ Err came
      → (end : Result (Option Term) TableError) → end ≡ Err came → Weakens operand node old new end
  torn_none own was came is end at =
      let function : Levels → Bool = λ a. value_of old.terms.table.graph a node in
      let gives = settles function (λ a. true) (operand ∷ []) old
      (subst (λ (f : Result Term TableError). Gives function (λ a. true) (operand ∷ []) old mid f) (sym was) own.gives) in
      weakened_error operand node old new (graph ∙ own.nodes) came (no_limit_came came always was is)
      (any_holds function (λ a. true) (node_holds old.terms.table.graph node) (operand ∷ []) old new came
      (subst (λ (f : Result Term TableError). Gives function (λ a. true) (operand ∷ []) old new f) is gives)) end at

  -- behind a term
  module _ (term : Term) (own : Weakens operand node old mid (Ok (Some term))) (was : found ≡ Ok term) where
    given_on : Gives (λ a. value_of old.terms.table.graph a node) (node_holds old.terms.table.graph node) (operand ∷ []) old new r
    given_on = settles (λ a. value_of old.terms.table.graph a node) (node_holds old.terms.table.graph node) (operand ∷ []) old
        (subst (λ (f : Result Term TableError). Gives (λ a. value_of old.terms.table.graph a node) (node_holds old.terms.table.graph node)
        (operand ∷ []) old mid f) (sym was) own.gives)

    pub settled_some : (last : Term) → r ≡ Ok last → Weakens operand node old new (Ok (Some last))
    settled_some last is =
        let same : last ≡ term = elim given [
          | inl on ↦ same_answer (sym is ∙ on ∙ was)
          | inr torn ↦ absurd (no_error (sym is ∙ torn))
        ] in
        weakened_some operand node old new (graph ∙ own.nodes) last (ap (λ (t : Term). t.held.node) same ∙ own.node_is)
        own.implied
        (subst (λ (f : Result Term TableError). Gives (λ a. value_of old.terms.table.graph a node) (node_holds old.terms.table.graph node)
        (operand ∷ []) old new f) is given_on)

    pub torn_some : (came : TableError) → r ≡ Err came → (end : Result (Option Term) TableError) → end ≡ Err came
        → Weakens operand node old new end
    torn_some came is end at = weakened_error operand node old new (graph ∙ own.nodes) came (no_limit_came came term was is)
        (subst (λ (f : Result Term TableError). Gives (λ a. value_of old.terms.table.graph a node) (node_holds old.terms.table.graph node)
        (operand ∷ []) old new f) is given_on) end at

-- what was found is no failed write
pub whole_found : (found : Option Term) → ◌≡◌ {A = Result Term TableError} (some_or always (Ok found)) (Err WriteFault) → ⊥
whole_found None is = no_error is
whole_found (Some term) is = no_error is
