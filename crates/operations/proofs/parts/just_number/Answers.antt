-- The clause of open atoms is given, and so it is the one that is named.
use Rattle.std.proofs.Common.{◌≡◌, ◌∙◌, ℤ, true, List, Option, None, Some, is_some, refl, subst}
use Rattle.hint_chain.specs.Atoms.{clause_from_atoms}
use Rattle.node_table.specs.declared.node.Justification.{Justification}
use Rattle.node_table.specs.declared.node.Justification.TheVariants.{Trivial, Clause}
use Rattle.node_table.specs.Justification.{IsJustified}
use Rattle.operations.proofs.parts.just_number.Goals as goal

some_clause : (o : Option (List ℤ)) → is_some o ≡ true → (clause : List ℤ) × (o ≡ Some clause)
some_clause None is = cc
some_clause (Some clause) is = (clause, refl)

pub returns-in-Trivial : goal.returns-in-Trivial
returns-in-Trivial c live atoms just =
    let trivial : IsJustified live atoms Trivial = subst (λ (own : Justification). IsJustified live atoms own) c.in-Trivial.is just in record {
      part = None;
      justifies = record { justified = trivial };
      stands = tt;
      numbered = tt;
    }

pub returns-in-Clause : goal.returns-in-Clause
returns-in-Clause c live atoms just =
    let id = c.in-Clause.id in
    let named : IsJustified live atoms (Clause id) = subst (λ (own : Justification). IsJustified live atoms own) c.in-Clause.is just in
    let clause = some_clause (clause_from_atoms atoms) (c.clause_law.ensures.given atoms named.0) in record {
      part = Some (record { id = id; clause = clause.0 });
      justifies = record { justified = c.clause_law.ensures.among atoms clause.0 clause.1 };
      stands = named.1 ∙ clause.1;
      numbered = refl;
    }
