-- A front of a node's definitions: what stands of it, and that the others may still come.
use Rattle.std.proofs.Common.{◌≡◌, ◌∙◌, ◌+◌, ◌≤◌, ◌++◌, ◌∷◌, ℕ, ℤ, pos, List, [], Option, Some, refl, ap, sym, subst, arith}
use Rattle.std.proofs.lemmas.List.{append_assoc, append-nil}
use Rattle.cnf_base.specs.declared.step.Step.{Step}
use Rattle.lrat_rules.specs.State.{State, clause_at}
use Rattle.clause_ledger.specs.Book.{after_steps, definition}
use Rattle.hint_chain.specs.declared.atom.Atom.{Atom}
use Rattle.node_table.specs.Diagram.{Graph, variable_at}
use Rattle.node_table.specs.declared.node.Node.{Node}
use Rattle.node_table.specs.Defined.{Definition, IsDefinedInPart, atom_of, definition_steps, definitions, step_of_some, with_some, with_definitions}
use Rattle.node_table.specs.Tied.{KeepsClauses}
use Rattle.node_table.specs.Table.{node_definitions}
use Rattle.node_table.specs.Progress.{ComesSince}
use Rattle.node_table.proofs.DefineSteps.{steps-append, steps_lead, with_definitions-append}
use Rattle.node_table.proofs.NoEmpty.{AreSome, AreSome-front, none_empty}
use Rattle.node_table.proofs.Since.{ComesSince-fewer, ComesSince-grown}
use Rattle.node_table.proofs.Stands.{AreNumbers, Grows, Grows-none, Grows-some, Grows-then, Grows-reached}

-- the last of these steps adds a clause, where what stands before comes from the old state, or came since
pub record IsCutBefore (old after : State) (steps : List Step) : Type 0 where
  pub earlier : List Step
  pub last : Step
  pub parts : steps ≡ earlier ++ last ∷ []
  pub before : State
  pub leads : after_steps old earlier ≡ before
  pub keeps : KeepsClauses before.live after.live
  pub no_less : before.top ≤ after.top
  pub from : old.top ≤ before.top
  pub since : ComesSince old before

-- one clause more
pub cut_at_once : (old after : State) (step : Step) → Grows old after → IsCutBefore old after (step ∷ [])
cut_at_once old after step grows = record {
  earlier = [];
  last = step;
  parts = refl;
  before = old;
  leads = refl;
  keeps = grows.clauses;
  no_less = grows.gives.no_less;
  from = omega arith;
  since = ComesSince-fewer old old (λ id clause is. is);
}

pub Grows-definitions : (state : State) (all : List Definition) → AreNumbers state → Grows state (with_definitions state all)
Grows-definitions state [] numbers = Grows-none state numbers
Grows-definitions state (definition ∷ all) numbers =
    let next = with_some state definition.clause in
    let one : Grows state next = Grows-some state definition.clause numbers in
    Grows-then state next (with_definitions next all) one (Grows-definitions next all one.numbers)

module _ (old after : State) (all : List Definition) (steps : List Step) where
  pub part_grows : AreNumbers old → IsDefinedInPart old after all steps → Grows old after
  part_grows numbers part = subst (Grows old) (sym part.reached) (Grows-definitions old (part.earlier ++ part.last ∷ []) numbers)

  pub part_rest : AreNumbers old → IsDefinedInPart old after all steps → Grows after (with_definitions old all)
  part_rest numbers part =
      let whole : with_definitions after part.rest ≡ with_definitions old all =
      ap (λ (s : State). with_definitions s part.rest) part.reached
      ∙ sym (with_definitions-append old (part.earlier ++ part.last ∷ []) part.rest)
      ∙ ap (with_definitions old) (append_assoc part.earlier (part.last ∷ []) part.rest ∙ sym part.parts) in
      subst (Grows after) whole (Grows-definitions after part.rest (part_grows numbers part).numbers)

  pub part_none_empty : AreSome all → IsDefinedInPart old after all steps → (id : ℕ) → clause_at after.live id ≡ Some []
      → clause_at old.live id ≡ Some []
  part_none_empty some part id empty = none_empty old (part.earlier ++ part.last ∷ [])
      (AreSome-front (part.earlier ++ part.last ∷ []) part.rest (subst AreSome (part.parts
      ∙ sym (append_assoc part.earlier (part.last ∷ []) part.rest)) some)) id
      (sym (ap (λ (s : State). clause_at s.live id) part.reached) ∙ empty)

  pub part_cut : AreNumbers old → IsDefinedInPart old after all steps → IsCutBefore old after steps
  part_cut numbers part =
      let before = with_definitions old part.earlier in
      let so_far : Grows old before = Grows-definitions old part.earlier numbers in
      let reached : after ≡ with_some before part.last.clause = part.reached ∙ with_definitions-append old part.earlier (part.last ∷ []) in
      let grows : Grows before after = Grows-reached before before after part.last.clause (Grows-none before so_far.numbers) reached in
      record {
        earlier = definition_steps old part.earlier;
        last = definition before part.clause part.last.candidates;
        parts = part.written ∙ steps-append old part.earlier (part.last ∷ [])
            ∙ ap (λ (last : List Step). definition_steps old part.earlier ++ last)
            (append-nil (step_of_some before part.last.clause part.last.candidates)
            ∙ ap (λ (o : Option (List ℤ)). step_of_some before o part.last.candidates) part.is);
        before = before;
        leads = steps_lead old part.earlier;
        keeps = grows.clauses;
        no_less = grows.gives.no_less;
        from = so_far.gives.no_less;
        since = ComesSince-grown old before so_far;
      }

-- what a call is handed for a node
pub record IsHanded (graph : Graph) (state now : State) (level : ℕ) (high low : Node) (variable : ℕ) (u x : ℤ)
    (high_atom low_atom : Atom) : Type 0 where
  pub still : now ≡ state
  pub own : u ≡ pos variable
  pub input : x ≡ pos (variable_at graph level)
  pub high_is : high_atom ≡ atom_of graph high
  pub low_is : low_atom ≡ atom_of graph low

pub definitions_handed : {graph : Graph} {state now : State} {level : ℕ} {high low : Node} {variable : ℕ} {u x : ℤ}
    {high_atom low_atom : Atom}
    → IsHanded graph state now level high low variable u x high_atom low_atom
    → definitions u x high_atom low_atom (now.top + 1) ≡ node_definitions graph state level high low variable
definitions_handed handed i = definitions (handed.own i) (handed.input i) (handed.high_is i) (handed.low_is i) ((handed.still i).top + 1)
