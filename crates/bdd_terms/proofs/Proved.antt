-- The unit of a node that a call answers: none, one that was there before, or a clause that is added.
use Rattle.std.proofs.Common.{◌≡◌, ◌≢◌, ◌⊎◌, ◌∙◌, ◌<◌, ◌+◌, ℕ, ℤ, true, false, pos, nat_abs, List, [], ◌∷◌, Option, None, Some, Ok, Err}
use Rattle.std.proofs.Common.{Result, is_some, int_eq, cond, eq-eqb, ne_eqb, refl, sym, ap, subst, arith, inl, inr}
use Rattle.std.specs.Cmp.{unsigned_tied}
use Rattle.std.specs.Option.{option_map, option_to_list}
use Rattle.std.specs.Prelude.{IfOk}
use Rattle.std.proofs.lemmas.Bool.{cases_eq, or_cases}
use Rattle.std.proofs.lemmas.Bool.Decides.{Decides-int_eq}
use Rattle.std.proofs.lemmas.Cmp.{nat_cmp_total}
use Rattle.clause_ledger.specs.Book.{with_next}
use Rattle.clause_terms.specs.ToldUnit.{empty_clause, unit_clause}
use Rattle.hint_chain.specs.Atoms.{clause_from_atoms, is_trivial}
use Rattle.lrat_rules.specs.State.{State, clause_at}
use Rattle.node_table.specs.declared.error.TableError.{TableError}
use Rattle.node_table.specs.declared.error.TableError.TheVariants.{NodeLimit, WriteFault}
use Rattle.node_table.specs.declared.node.Branch.{Branch}
use Rattle.node_table.specs.declared.node.Justification.{Justification}
use Rattle.node_table.specs.declared.node.Justification.TheVariants.{Clause, Trivial}
use Rattle.node_table.specs.declared.node.Node.{Node}
use Rattle.node_table.specs.declared.node.Node.TheVariants.{False, True, Inner}
use Rattle.node_table.specs.Defined.{atom_in, atom_of, literal_of_branch}
use Rattle.node_table.specs.Diagram.{Graph, branch_at, branch_of, is_node}
use Rattle.node_table.specs.HandedOn.{no_error, same_error}
use Rattle.node_table.specs.Justification.{IsJustified}
use Rattle.node_table.specs.Laws.{StepByStep}
use Rattle.node_table.specs.Progress.{Steps, StepsOrRefutes}
use Rattle.node_table.specs.Table.{AddsNone, IsAddedTo, IsSame, IsSound, TableState}
use Rattle.node_table.specs.Tied.{IsOverNodes, IsOwned}
use Rattle.operations.specs.Entries.{IsNewJustification}
use Rattle.bdd_terms.specs.Proves.{Proves, ProvesAnew}
use Rattle.bdd_terms.proofs.NoEmpty.{has_literal, same_empty}
use Rattle.bdd_terms.proofs.OwnUnits.{new_unit, no_clause, same_clause}
use Rattle.bdd_terms.proofs.Repeated.{none_of_true}
use Rattle.bdd_terms.proofs.StayingTerms.{if_ok}
use Rattle.std.specs.FinMap as finmap

-- no other clause was added
at_other : (state : State) (clause : List ℤ) (id : ℕ) → (id ≡ state.top + 1 → ⊥)
    → clause_at (with_next state clause).live id ≡ clause_at state.live id
at_other state clause id differ = finmap.get-insert nat_cmp_total state.live (state.top + 1) clause id
    ∙ ap (λ b. cond b (Some clause) (clause_at state.live id)) (unsigned_tied id (state.top + 1) ∙ ne_eqb id (state.top + 1) differ)

pub added_alone : {S : Type 0} (old new : TableState S) (clause : List ℤ) → new.graph ≡ old.graph → new.inputs ≡ old.inputs
    → new.book.state ≡ with_next old.book.state clause → (id : ℕ) → id ≡ old.book.state.top + 1 → (other : ℕ) → IsAddedTo new other
    → IsAddedTo old other ⊎ (Clause id ≡ Clause other)
added_alone old new clause nodes inputs next id is other added = elim (cases_eq other (old.book.state.top + 1)) [
  | inl same ↦ inr (ap Clause (is ∙ sym same))
  | inr differ ↦ inl (record {
    stands = ap is_some (sym (ap (λ (s : State). clause_at s.live other) next ∙ at_other old.book.state clause other differ)) ∙ added.stands;
    above = let above = added.above in omega (arith, above, inputs);
    defines_none = λ key branch at.
        added.defines_none key branch (subst (λ (graph : Graph). branch_at graph key ≡ Some branch) (sym nodes) at);
  })
]

-- it is live under the next number
pub added_stands : (old new : State) (clause : List ℤ) (id : ℕ) → id ≡ old.top + 1 → new ≡ with_next old clause
    → clause_at new.live id ≡ Some clause
added_stands old new clause id is next = ap (λ (s : State). clause_at s.live id) next
    ∙ finmap.get-insert nat_cmp_total old.live (old.top + 1) clause id
    ∙ ap (λ b. cond b (Some clause) (clause_at old.live id)) (unsigned_tied id (old.top + 1) ∙ eq-eqb id (old.top + 1) is)

-- the literal of a node
abbrev pub literal_of : Graph → Node → Option ℤ
literal_of graph w = option_map literal_of_branch (branch_of graph w)

pub clause_is : (graph : Graph) (w : Node) → is_node graph w ≡ true → w ≢ True → (literal : Option ℤ) → literal_of graph w ≡ literal
    → clause_from_atoms (atom_of graph w ∷ []) ≡ Some (option_to_list literal)
clause_is graph w stands not_true None is = empty_clause graph w stands not_true is
clause_is graph w stands not_true (Some unit) is = unit_clause graph w unit is

pub has_one : (graph : Graph) (w : Node) → is_node graph w ≡ true → w ≢ True → (literal : Option ℤ) → literal_of graph w ≡ literal
    → w ≢ False → option_to_list literal ≢ []
has_one graph w stands not_true None is open_w empty = has_literal graph w stands not_true open_w is
has_one graph w stands not_true (Some unit) is open_w empty = let e : unit ∷ [] ≡ [] = empty in cc

owned_in : (graph : Graph) (key : ℕ) (found : Option Branch) → branch_at graph key ≡ found → (unit : ℤ)
    → option_map literal_of_branch found ≡ Some unit → IsOwned graph (nat_abs unit)
owned_in graph key None at unit is = cc
owned_in graph key (Some branch) at unit is = record {
  key = key;
  branch = branch;
  stands = at;
  own = let e : pos branch.variable ≡ unit = some_is (pos branch.variable) unit is in ap nat_abs e;
}
  where
    some_is : (x y : ℤ) → ◌≡◌ {A = Option ℤ} (Some x) (Some y) → x ≡ y
    some_is x y e = cc

owned_by : (graph : Graph) (w : Node) (unit : ℤ) → literal_of graph w ≡ Some unit → IsOwned graph (nat_abs unit)
owned_by graph False unit is = cc
owned_by graph True unit is = cc
owned_by graph (Inner key) unit is = owned_in graph key.index (branch_at graph key.index) refl unit is

-- it is over the graph's nodes
pub over_its_node : (graph : Graph) (w : Node) (literal : Option ℤ) → literal_of graph w ≡ literal
    → IsOverNodes graph (option_to_list literal)
over_its_node graph w None is x among above = absurd (let e : false ≡ true = among in cc)
over_its_node graph w (Some unit) is x among above = elim (or_cases (int_eq x unit) false among) [
  | inl same ↦ subst (λ (y : ℤ). IsOwned graph (nat_abs y)) (sym ((Decides-int_eq x unit).0 same)) (owned_by graph w unit is)
  | inr none ↦ absurd (let e : false ≡ true = none in cc)
]

untrivial_in : (found : Option Branch) → is_trivial (atom_in found ∷ []) ≡ false
untrivial_in None = refl
untrivial_in (Some branch) = refl

untrivial : (graph : Graph) (w : Node) → w ≢ True → is_trivial (atom_of graph w ∷ []) ≡ false
untrivial graph False not_true = refl
untrivial graph True not_true = absurd (not_true refl)
untrivial graph (Inner key) not_true = untrivial_in (branch_at graph key.index)

module _ {S : Type 0} (laws : StepByStep S) (table : TableState S) (sound : IsSound table) (w : Node) where
  pub none_more : Steps table table 1 None
  none_more = laws.at_most table table 0 1 None (omega arith) (laws.none table sound)

  -- by a unit that is there
  pub proves_same : (unit : Justification) → IsJustified table.book.state.live (atom_of table.graph w ∷ []) unit
      → Proves table table w (Ok unit)
  proves_same unit justified = record {
    unit = justified;
    alone = λ id added. inl added;
    none_added = tt;
    steps = laws.anyhow table table 1 None none_more;
    some = λ open_w. none_more;
    refused = tt;
    nodes = refl;
    retired = refl;
    no_node_limit = no_error;
  }

  -- True has none
  pub proves_true : w ≡ True → ProvesAnew table table w (Ok Trivial)
  proves_true is = record {
    proves = proves_same Trivial (none_of_true table.graph table.book.state.live w is);
    last = λ id named. absurd (no_clause id named);
    added = λ id named. absurd (no_clause id named);
  }

-- the clause of a node alone is to be added
module _ {S : Type 0} (old new : TableState S) (w : Node) (clause : List ℤ)
    (is : clause_from_atoms (atom_of old.graph w ∷ []) ≡ Some clause) (opened : w ≢ False → clause ≢ []) (nodes : new.graph ≡ old.graph)
    (retired : new.retired ≡ old.retired) where
  pub anew_refused : (came : TableError) → StepsOrRefutes old new 1 (Some came) → (clause ≢ [] → Steps old new 1 (Some came))
      → (came ≢ WriteFault → IsSame old new) → came ≢ NodeLimit → (r : Result Justification TableError) → r ≡ Err came
      → ProvesAnew old new w r
  anew_refused came steps some same unmet r handed = subst (λ (r : Result Justification TableError). ProvesAnew old new w r) (sym handed)
      (record {
        proves = record {
          unit = tt;
          alone = tt;
          none_added = λ whole. subst (λ (t : TableState S). AddsNone old t) (sym (same whole)) (λ id own. own);
          steps = steps;
          some = λ open_w. some (opened open_w);
          refused = λ whole. same_empty old new (same whole);
          nodes = nodes;
          retired = retired;
          no_node_limit = λ limit. unmet (same_error limit);
        };
        last = tt;
        added = tt;
      })

  pub anew_added : w ≢ True → (id : ℕ) → StepsOrRefutes old new 1 None → (clause ≢ [] → Steps old new 1 None)
      → (id ≡ old.book.state.top + 1) × (new.book.state ≡ with_next old.book.state clause) → IsAddedTo new id
      → ProvesAnew old new w (Ok (Clause id))
  anew_added not_true id steps some added own =
      let top = ap (λ (s : State). s.top) added.1 in
      record {
        proves = record {
          unit = (
            untrivial old.graph w not_true,
            added_stands old.book.state new.book.state clause id added.0 added.1 ∙ sym is,
          );
          alone = added_alone old new clause nodes steps.extends.inputs added.1 id added.0;
          none_added = tt;
          steps = steps;
          some = λ open_w. some (opened open_w);
          refused = tt;
          nodes = nodes;
          retired = retired;
          no_node_limit = no_error;
        };
        last = λ other named. subst (λ (n : ℕ). (n ≡ new.book.state.top) × (old.book.state.top < n)) (same_clause id other named) (
          omega (arith, added.0, top),
          omega (arith, added.0),
        );
        added = λ other named. subst (λ (n : ℕ). IsAddedTo new n) (same_clause id other named) own;
      }

-- what is new of it
pub anew_is_new : {S : Type 0} (old new : TableState S) (w : Node) (r : Result Justification TableError) → ProvesAnew old new w r
    → IfOk r (λ unit. IsNewJustification old.book.state new.book.state unit)
anew_is_new old new w r anew = if_ok r _ _ (λ unit last id named. new_unit old new id (last id named)) anew.last
