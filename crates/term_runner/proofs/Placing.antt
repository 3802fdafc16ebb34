-- One more unit is retired, of the operands in whose place a term stands.
use Rattle.std.proofs.Common.{◌∙◌, ◌++◌, List, [], ◌∷◌, ap, inl, inr}
use Rattle.node_table.specs.declared.node.Justification.{Justification}
use Rattle.node_table.specs.Table.{TableState}
use Rattle.bdd_terms.specs.declared.held.HeldTerm.{HeldTerm}
use Rattle.bdd_terms.specs.Units.{RetiresBut, RetiresUnits}
use Rattle.bdd_terms.proofs.Replaced.{either_unit, first_unit, no_unit, unit_left, unit_right, which_unit}

module _ {S : Type 0} where
  -- one operand more
  pub one_more_retired : (old mid new : TableState S) (operands : List HeldTerm) (held : HeldTerm) (kept : Justification)
      → RetiresUnits old mid operands kept → RetiresBut mid new held.unit kept
      → RetiresUnits old new (operands ++ held ∷ []) kept
  one_more_retired old mid new operands held kept before more = record {
    same = more.same ∙ ap (λ (t : TableState S). record t { retired = new.retired }) before.same;
    still = λ id there. more.still id (before.still id there);
    only = λ id there. elim (more.only id there) [
      | inl was ↦ elim (before.only id was) [
        | inl at_first ↦ inl at_first
        | inr one ↦ inr (unit_left operands (held ∷ []) id one.0, one.1)
      ]
      | inr this ↦ inr (unit_right operands (held ∷ []) id (first_unit held [] id this.0), this.1)
    ];
    gone = λ id is. elim (either_unit operands (held ∷ []) id is) [
      | inl earlier ↦ elim (before.gone id earlier) [
        | inl there ↦ inl (more.still id there)
        | inr own ↦ inr own
      ]
      | inr last ↦ elim (which_unit held [] id last) [
        | inl this ↦ more.gone id this
        | inr none ↦ absurd (no_unit id none)
      ]
    ];
  }
