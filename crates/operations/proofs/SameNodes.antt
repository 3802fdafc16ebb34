-- An entry is right in another graph where the nodes that it names are the same, and for other live clauses where the one
-- that it names is justified still.
use Rattle.std.proofs.Common.{◌≡◌, ◌≤◌, ◌&&◌, ◌||◌, ℕ, true, false, List, refl, sym, ◌∙◌, subst, arith}
use Rattle.std.specs.Prelude.{IsTrue}
use Rattle.lrat_rules.specs.State.{Live, clause_at}
use Rattle.hint_chain.specs.declared.atom.Atom.{Atom}
use Rattle.hint_chain.specs.Additions.{conjunction, implication}
use Rattle.node_table.specs.declared.node.Node.{Node}
use Rattle.node_table.specs.declared.node.Justification.{Justification}
use Rattle.node_table.specs.declared.node.Justification.TheVariants.{Trivial, Clause}
use Rattle.node_table.specs.Diagram.{Graph, is_node, level_of}
use Rattle.node_table.specs.Value.{Levels, value_of}
use Rattle.node_table.specs.Defined.{atom_of}
use Rattle.node_table.specs.Justification.{IsJustified}
use Rattle.operations.specs.Results.{Conjoined, Implied, Disjoined, Quantified, conjunction_atoms, implication_atoms, with_level}
use Rattle.operations.specs.Entries.{Entry, Conjunction, Implication, Disjunction, Quantification, FitsEntry, Names, just_of}

-- The node stands in the other graph, at the same level, with the same function and what it puts into a clause.
pub record IsSameNode (old new : Graph) (node : Node) : Type 0 where
  pub stands : IsTrue (is_node new node)
  pub level : level_of new node ≡ level_of old node
  pub value : (a : Levels) → value_of new a node ≡ value_of old a node
  pub atom : atom_of new node ≡ atom_of old node

-- so do all that an entry names
abbrev pub AreSameNodes : Graph → Graph → Entry → Type 0
AreSameNodes old new (Conjunction u v w just) = IsSameNode old new u × IsSameNode old new v × IsSameNode old new w
AreSameNodes old new (Implication u v just) = IsSameNode old new u × IsSameNode old new v
AreSameNodes old new (Disjunction u v w) = IsSameNode old new u × IsSameNode old new v × IsSameNode old new w
AreSameNodes old new (Quantification u level w) = IsSameNode old new u × IsSameNode old new w

module _ (old new : Graph) where
  not_above_both : (u v w : Node) → IsSameNode old new u → IsSameNode old new v → IsSameNode old new w
      → ((level : ℕ) → level ≤ level_of old u → level ≤ level_of old v → level ≤ level_of old w)
      → (level : ℕ) → level ≤ level_of new u → level ≤ level_of new v → level ≤ level_of new w
  not_above_both u v w same_u same_v same_w below level below_u below_v =
      omega (arith, same_w.level, below level (omega (arith, same_u.level, below_u)) (omega (arith, same_v.level, below_v)))

  conjoined_same : (live : Live) (u v w : Node) (just : Justification) → IsSameNode old new u → IsSameNode old new v → IsSameNode old new w
      → Conjoined old live u v w just → Conjoined new live u v w just
  conjoined_same live u v w just same_u same_v same_w found = record {
    stands = same_w.stands;
    not_above = not_above_both u v w same_u same_v same_w found.not_above;
    value = λ a. same_w.value a ∙ found.value a ∙ (λ i. sym (same_u.value a) i && sym (same_v.value a) i);
    justified = subst (λ (atoms : List Atom). IsJustified live atoms just)
        (λ i. conjunction (sym same_u.atom i) (sym same_v.atom i) (sym same_w.atom i)) found.justified;
  }

  implied_same : (live : Live) (u v : Node) (just : Justification) → IsSameNode old new u → IsSameNode old new v → Implied old live u v just
      → Implied new live u v just
  implied_same live u v just same_u same_v found = record {
    value = λ a holds. same_v.value a ∙ found.value a (sym (same_u.value a) ∙ holds);
    justified = subst (λ (atoms : List Atom). IsJustified live atoms just)
        (λ i. implication (sym same_u.atom i) (sym same_v.atom i)) found.justified;
  }

  disjoined_same : (u v w : Node) → IsSameNode old new u → IsSameNode old new v → IsSameNode old new w → Disjoined old u v w
      → Disjoined new u v w
  disjoined_same u v w same_u same_v same_w found = record {
    stands = same_w.stands;
    not_above = not_above_both u v w same_u same_v same_w found.not_above;
    value = λ a. same_w.value a ∙ found.value a ∙ (λ i. sym (same_u.value a) i || sym (same_v.value a) i);
  }

  quantified_same : (u : Node) (level : ℕ) (w : Node) → IsSameNode old new u → IsSameNode old new w → Quantified old u level w
      → Quantified new u level w
  quantified_same u level w same_u same_w found = record {
    stands = same_w.stands;
    not_above = omega (arith, same_u.level, same_w.level, found.not_above);
    value = λ a. same_w.value a ∙ found.value a ∙ (λ i. sym (same_u.value (with_level a level true)) i
        || sym (same_u.value (with_level a level false)) i);
  }

  pub entry_same : (live : Live) (entry : Entry) → AreSameNodes old new entry → FitsEntry old live entry → FitsEntry new live entry
  entry_same live (Conjunction u v w just) same fits =
      (record { first = same.0.stands; second = same.1.stands }, conjoined_same live u v w just same.0 same.1 same.2 fits.1)
  entry_same live (Implication u v just) same fits = (
    record { first = same.0.stands; second = same.1.stands },
    implied_same live u v just same.0 same.1 fits.1,
  )
  entry_same live (Disjunction u v w) same fits = (
    record { first = same.0.stands; second = same.1.stands },
    disjoined_same u v w same.0 same.1 same.2 fits.1,
  )
  entry_same live (Quantification u level w) same fits = (same.0.stands, quantified_same u level w same.0 same.1 fits.1)

-- The clause that an entry names is justified by other live clauses too.
module _ (graph : Graph) (before after : Live) where
  pub entry_justified : (entry : Entry) → ((atoms : List Atom) → IsJustified before atoms (just_of entry)
      → IsJustified after atoms (just_of entry)) → FitsEntry graph before entry
      → FitsEntry graph after entry
  entry_justified (Conjunction u v w just) along fits = (
    fits.0,
    record {
      stands = fits.1.stands;
      not_above = fits.1.not_above;
      value = fits.1.value;
      justified = along (conjunction_atoms graph u v w) fits.1.justified;
    },
  )
  entry_justified (Implication u v just) along fits = (
    fits.0,
    record {
      value = fits.1.value;
      justified = along (implication_atoms graph u v) fits.1.justified;
    },
  )
  entry_justified (Disjunction u v w) along fits = fits
  entry_justified (Quantification u level w) along fits = fits

  justified_settled : (atoms : List Atom) (just : Justification) → ((id : ℕ) → just ≡ Clause id → clause_at after id ≡ clause_at before id)
      → IsJustified before atoms just → IsJustified after atoms just
  justified_settled atoms Trivial same holds = holds
  justified_settled atoms (Clause id) same holds = (holds.0, same id refl ∙ holds.1)

  -- it is live still
  pub entry_settled : (entry : Entry) → ((id : ℕ) → Names entry id → clause_at after id ≡ clause_at before id)
      → FitsEntry graph before entry → FitsEntry graph after entry
  entry_settled entry same = entry_justified entry (λ atoms. justified_settled atoms (just_of entry) same)
