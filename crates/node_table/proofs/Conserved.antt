-- What a table tells is conservative: clauses that follow by their hints, definitions of new variables, and deletions.
use Rattle.std.proofs.Common.{◌≡◌, ◌<◌, ◌+◌, ℕ, zero, suc, Bool, true, ℤ, pos, neg_ℤ, List, [], ◌∷◌, Option, None, Some, refl}
use Rattle.std.proofs.Common.{ap, ◌∙◌, subst}
use Rattle.std.specs.Prelude.{nat_abs, nat_lt}
use Rattle.std.specs.List.{list_all}
use Rattle.std.specs.Option.{option_map}
use Rattle.std.proofs.lemmas.Bool.{and_from, and_parts, lt-ltb, or_right}
use Rattle.std.proofs.lemmas.List.Folds.{list_all-append}
use Rattle.cnf_base.specs.declared.step.Step.{Step}
use Rattle.cnf_base.specs.declared.step.Step.TheVariants.{Add, Delete}
use Rattle.lrat_rules.specs.State.{State}
use Rattle.lrat_rules.specs.Chain.{chain, literals_of}
use Rattle.lrat_rules.specs.Conservative.{are_conservative, begins_above, is_closed, is_conservative}
use Rattle.lrat_rules.specs.Run.{after_step}
use Rattle.clause_ledger.specs.Book.{deletion}
use Rattle.hint_chain.specs.declared.atom.Atom.{Atom}
use Rattle.hint_chain.specs.declared.atom.Atom.TheVariants.{Of}
use Rattle.hint_chain.specs.Atoms.{clause_from_atoms, neg_atom}
use Rattle.node_table.specs.declared.node.Node.{Node}
use Rattle.node_table.specs.Diagram.{Graph, levels}
use Rattle.node_table.specs.Defined.{Definition, definitions, definition_steps, step_of_some, with_some}
use Rattle.node_table.specs.Deleted.{deletion_steps}
use Rattle.node_table.specs.Table.{node_definitions}

-- a step that is conservative wherever it stands
abbrev begins_new : ℕ → Step → Bool
begins_new vars (Add id clause hints groups) = begins_above vars clause
begins_new vars (Delete id ids) = true

one_new : (vars : ℕ) (state : State) (step : Step) → begins_new vars step ≡ true → is_conservative vars state step ≡ true
one_new vars state (Add id clause hints groups) new = or_right (is_closed (chain state.live (literals_of clause) hints)) _ new
one_new vars state (Delete id ids) new = refl

all_new : (vars : ℕ) (state : State) (steps : List Step) → list_all (begins_new vars) steps ≡ true → are_conservative vars state steps ≡
    true
all_new vars state [] new = refl
all_new vars state (step ∷ steps) new =
    let parts = and_parts (begins_new vars step) (list_all (begins_new vars) steps) new in
    and_from (is_conservative vars state step) (are_conservative vars (after_step state step) steps) (one_new vars state step parts.0)
    (all_new vars (after_step state step) steps parts.1)

-- deletions
deletion_new : (vars : ℕ) (state : State) (ids : List ℕ) → list_all (begins_new vars) (deletion state ids) ≡ true
deletion_new vars state [] = refl
deletion_new vars state (id ∷ ids) = refl

deletions_new : (vars : ℕ) (state : State) (lines : List (List ℕ)) → list_all (begins_new vars) (deletion_steps state lines) ≡ true
deletions_new vars state [] = refl
deletions_new vars state (ids ∷ lines) =
    list_all-append (begins_new vars) (deletion state ids) (deletion_steps state lines)
    ∙ and_from (list_all (begins_new vars) (deletion state ids)) (list_all (begins_new vars) (deletion_steps state lines))
    (deletion_new vars state ids) (deletions_new vars state lines)

pub deletion_conserves : (vars : ℕ) (state : State) (ids : List ℕ) → are_conservative vars state (deletion state ids) ≡ true
deletion_conserves vars state ids = all_new vars state (deletion state ids) (deletion_new vars state ids)

pub deletions_conserve : (vars : ℕ) (state : State) (lines : List (List ℕ)) → are_conservative vars state (deletion_steps state lines) ≡
    true
deletions_conserve vars state lines = all_new vars state (deletion_steps state lines) (deletions_new vars state lines)

-- the definitions of a new variable
abbrev AreNew : ℕ → List Definition → Type 0
AreNew vars [] = Unit {0}
AreNew vars (d ∷ all) = ((clause : List ℤ) → d.clause ≡ Some clause → begins_above vars clause ≡ true) × AreNew vars all

step_new : (vars : ℕ) (state : State) (o : Option (List ℤ)) (candidates : List ℕ)
    → ((clause : List ℤ) → o ≡ Some clause → begins_above vars clause ≡ true)
    → list_all (begins_new vars) (step_of_some state o candidates) ≡ true
step_new vars state None candidates above = refl
step_new vars state (Some clause) candidates above = and_from (begins_above vars clause) true (above clause refl) refl

definitions_new : (vars : ℕ) (state : State) (all : List Definition) → AreNew vars all
    → list_all (begins_new vars) (definition_steps state all) ≡ true
definitions_new vars state [] new = refl
definitions_new vars state (d ∷ all) new =
    list_all-append (begins_new vars) (step_of_some state d.clause d.candidates) (definition_steps (with_some state d.clause) all)
    ∙ and_from (list_all (begins_new vars) (step_of_some state d.clause d.candidates))
    (list_all (begins_new vars) (definition_steps (with_some state d.clause) all))
    (step_new vars state d.clause d.candidates new.0) (definitions_new vars (with_some state d.clause) all new.1)

-- a clause with a literal in front
begins_first : (vars : ℕ) (literal : ℤ) (rest : Option (List ℤ)) (clause : List ℤ) → nat_lt vars (nat_abs literal) ≡ true
    → option_map (λ literals. literal ∷ literals) rest ≡ Some clause → begins_above vars clause ≡ true
begins_first vars literal None clause above is = cc
begins_first vars literal (Some literals) clause above is =
    let same : literal ∷ literals ≡ clause = cc in
    subst (λ (c : List ℤ). begins_above vars c ≡ true) same above

abs_neg : (n : ℕ) → nat_abs (neg_ℤ (pos n)) ≡ n
abs_neg zero = refl
abs_neg (suc n) = refl

node_new : (vars variable : ℕ) (x : ℤ) (high low : Atom) (first : ℕ) → nat_lt vars variable ≡ true
    → AreNew vars (definitions (pos variable) x high low first)
node_new vars variable x high low first above =
    let down : nat_lt vars (nat_abs (neg_ℤ (pos variable))) ≡ true = ap (nat_lt vars) (abs_neg variable) ∙ above in (
      λ clause is. begins_first vars (pos variable) (clause_from_atoms (Of (neg_ℤ x) ∷ neg_atom high ∷ [])) clause above is,
      (
        λ clause is. begins_first vars (pos variable) (clause_from_atoms (Of x ∷ neg_atom low ∷ [])) clause above is,
        (
          λ clause is. begins_first vars (neg_ℤ (pos variable)) (clause_from_atoms (Of (neg_ℤ x) ∷ high ∷ [])) clause down is,
          (λ clause is. begins_first vars (neg_ℤ (pos variable)) (clause_from_atoms (Of x ∷ low ∷ [])) clause down is, tt),
        ),
      ),
    )

pub node_conserves : (graph : Graph) (state : State) (level : ℕ) (high low : Node) (variable : ℕ) → levels graph < variable
    → are_conservative (levels graph) state (definition_steps state (node_definitions graph state level high low variable)) ≡ true
node_conserves graph state level high low variable above =
    all_new (levels graph) state (definition_steps state (node_definitions graph state level high low variable))
    (definitions_new (levels graph) state (node_definitions graph state level high low variable)
    (node_new (levels graph) variable _ _ _ (state.top + 1) (lt-ltb (levels graph) variable above)))
