-- What is known of the one term that is out as a cube is refused beside it.
use Rattle.std.proofs.Common.{◌≡◌, ◌≢◌, ◌∙◌, ℕ, true, false, ℤ, List, [], ◌∷◌, Option, None}
use Rattle.std.proofs.Common.{Some, refl, sym, ap, subst, inl, inr}
use Rattle.std.specs.Option.{option_to_list}
use Rattle.std.proofs.lemmas.Bool.{cases_Bool}
use Rattle.std.proofs.lemmas.List.Elements.{Contains-append_left}
use Rattle.cnf_base.specs.Cube.{cube_holds}
use Rattle.cnf_base.specs.Truth.{Assignment}
use Rattle.lrat_rules.specs.State.{Live, clause_at}
use Rattle.hint_chain.specs.Atoms.{clause_from_atoms, is_trivial}
use Rattle.node_table.specs.declared.node.Branch.{Branch}
use Rattle.node_table.specs.declared.node.Justification.{Justification}
use Rattle.node_table.specs.declared.node.Justification.TheVariants.{Clause, Trivial}
use Rattle.node_table.specs.declared.node.Node.{Node}
use Rattle.node_table.specs.declared.node.Node.TheVariants.{False, True, Inner}
use Rattle.node_table.specs.Defined.{atom_in, atom_of}
use Rattle.node_table.specs.Diagram.{Graph, branch_at}
use Rattle.node_table.specs.Justification.{IsJustified}
use Rattle.node_table.specs.Laws.{Canonical}
use Rattle.node_table.specs.Value.{Levels, value_of}
use Rattle.clause_terms.specs.Term.{by_variable}
use Rattle.cube_models.specs.Denied.{IsShutBy}
use Rattle.bdd_terms.specs.declared.held.HeldTerm.{HeldTerm}
use Rattle.bdd_terms.specs.declared.runner.Runner.{Runner}
use Rattle.bdd_terms.specs.Counting.{Counting}
use Rattle.bdd_terms.specs.Finds.{IsProved}
use Rattle.bdd_terms.specs.Runner.{IsGood, IsRunner, holds_in}

-- no node but True needs no unit
inner_unit : (o : Option Branch) → is_trivial (atom_in o ∷ []) ≡ true → ⊥
inner_unit None is = let e : false ≡ true = is in cc
inner_unit (Some branch) is = let e : false ≡ true = is in cc

shut_unit : (graph : Graph) (node : Node) (keys : List ℕ) → IsShutBy keys node → is_trivial (atom_of graph node ∷ []) ≡ true → ⊥
shut_unit graph False keys shut is = let e : false ≡ true = is in cc
shut_unit graph True keys shut is = shut
shut_unit graph (Inner key) keys shut is = inner_unit (branch_at graph key.index) is

module _ {S : Type 0} (runner : Runner S) (is : IsRunner runner) (held : HeldTerm) (good : IsGood runner held) where
  abbrev graph : Graph
  graph = runner.terms.table.graph

  abbrev live : Live
  live = runner.terms.table.book.state.live

  pub proved_good : IsProved graph live held
  proved_good = elim good [
    | inl none ↦ subst (IsProved graph live) (sym none) (record { stands = refl; unit = refl })
    | inr out ↦ is.proved held (Contains-append_left runner.terms.out.items (option_to_list runner.kept) held out)
  ]

  pub unit_there : (keys : List ℕ) → IsShutBy keys held.node → held.unit ≡ Trivial → ⊥
  unit_there keys shut none = shut_unit graph held.node keys shut
      (subst (λ (j : Justification). IsJustified live (atom_of graph held.node ∷ []) j) none proved_good.unit)

  pub unit_at : (id : ℕ) → held.unit ≡ Clause id → clause_at live id ≡ clause_from_atoms (atom_of graph held.node ∷ [])
  unit_at id named = (subst (λ (j : Justification). IsJustified live (atom_of graph held.node ∷ []) j) named proved_good.unit).1

  -- with no literal at all there is no assignment, only where the node is False
  pub some_literal : Canonical → Counting S → (cube : List ℤ)
      → ((a : Assignment) → holds_in runner held a ≡ true → cube_holds a cube ≡ true → ⊥) → held.node ≢ False → cube ≢ []
  some_literal canonical counting cube none some empty =
      some (canonical graph is.over.sound.tied.reduced held.node False proved_good.stands refl nowhere)
    where
      nowhere : (a : Levels) → value_of graph a held.node ≡ false
      nowhere a = elim (cases_Bool (value_of graph a held.node)) [
        | inl there ↦
            let by = counting.by_levels graph is.over.sound.tied.reduced is.over.sound.tied.ordered held.node proved_good.stands
            (holds_in runner held) (λ b. refl) a in
            absurd (none (by_variable graph.order a) (sym by ∙ there) (ap (cube_holds (by_variable graph.order a)) empty))
        | inr not_there ↦ not_there
      ]
