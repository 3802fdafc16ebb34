-- A runner of which no term is out: the empty clause was added, or it owns no clause.
use Rattle.std.proofs.Common.{◌≡◌, ◌++◌, true, false, List, [], ◌∷◌, length, map, Contains, Option, None, Some, refl, sym, subst}
use Rattle.std.proofs.Common.{arith}
use Rattle.std.specs.Option.{option_to_list}
use Rattle.std.specs.Prelude.{IsTrue}
use Rattle.std.proofs.lemmas.List.Elements.{Contains-append_left}
use Rattle.node_table.specs.declared.node.Node.{Node}
use Rattle.node_table.specs.declared.node.Node.TheVariants.{False}
use Rattle.node_table.specs.declared.node.Justification.{Justification}
use Rattle.node_table.specs.declared.node.Justification.TheVariants.{Clause, Trivial}
use Rattle.node_table.specs.Defined.{atom_of}
use Rattle.node_table.specs.Justification.{IsJustified}
use Rattle.bdd_terms.specs.declared.held.HeldTerm.{HeldTerm}
use Rattle.bdd_terms.specs.declared.runner.Runner.{Runner}
use Rattle.bdd_terms.specs.Caches.{all_entries}
use Rattle.bdd_terms.specs.Units.{HasUnits}
use Rattle.bdd_terms.specs.OverFormula.{HasEmpty}
use Rattle.bdd_terms.specs.Runner.{IsRunner, OwnsTerms, owners, refusal_of, refusals_of}
use Rattle.bdd_terms.proofs.Owners.{among_here}

pub nothing : {X : Type 0} (list : List X) → length list ≡ 0 → list ≡ []
nothing [] none = refl
nothing (x ∷ list) none = absurd (let e : length (x ∷ list) ≡ 0 = none in omega (arith, e))

module _ {S : Type 0} (runner : Runner S) where
  -- the unit of a term that is False is an empty clause
  pub empty_of : (terms : List HeldTerm) → OwnsTerms runner terms → (held : HeldTerm) → (among : Contains terms held) → held.node ≡ False
      → HasEmpty runner.terms.table
  empty_of terms owns held among is =
      by_unit held.unit refl (subst (λ (node : Node). IsJustified runner.terms.table.book.state.live (atom_of runner.terms.table.graph node ∷ []) held.unit) is
      (owns.proved held among).unit)
    where
      by_unit : (unit : Justification) → held.unit ≡ unit → IsJustified runner.terms.table.book.state.live
          (atom_of runner.terms.table.graph False ∷ []) unit → HasEmpty runner.terms.table
      by_unit Trivial named proved = absurd (let e : false ≡ true = proved in cc)
      by_unit (Clause id) named proved = record {
        id = id;
        above = (owns.units.added id (record {
          held = held;
          stacked = Contains-append_left terms (refusals_of runner) held among;
          unit = named;
        })).above;
        empty = proved.1;
      }

  pub empty_added : IsRunner runner → IsTrue runner.refuted → HasEmpty runner.terms.table
  empty_added is refuted = let has = is.refuted refuted in empty_of (owners runner) is has.held has.among has.is_false

  -- where it wasn't, no term is kept
  none_kept : IsRunner runner → runner.refuted ≡ false → (kept : Option HeldTerm) → runner.kept ≡ kept → kept ≡ None
  none_kept is clean None same = refl
  none_kept is clean (Some held) same =
      let here : Contains (owners runner) held = subst (λ (o : Option HeldTerm). Contains (runner.terms.out.items ++ option_to_list o) held)
      (sym same) (among_here runner.terms.out.items [] held) in
      let empty = empty_of (owners runner) is held here (is.kept held same) in
      absurd (is.unrefuted clean empty.id empty.above empty.empty)

  pub owns_nothing : IsRunner runner → length runner.terms.out.items ≡ 0 → runner.refusals.items ≡ [] → runner.refuted ≡ false
      → HasUnits runner.terms.table (all_entries runner.terms.caches) []
  owns_nothing is none given_up clean =
      subst (λ (list : List HeldTerm). HasUnits runner.terms.table (all_entries runner.terms.caches) list)
      (λ k. (empty k ++ option_to_list (none_kept is clean runner.kept refl k)) ++ map refusal_of (given_up k)) is.units
    where
      empty : runner.terms.out.items ≡ []
      empty = nothing runner.terms.out.items none
