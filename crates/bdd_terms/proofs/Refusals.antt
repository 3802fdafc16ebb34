-- The clauses of refused cubes, as nodes and clauses come and go.
use Rattle.std.proofs.Common.{◌≡◌, ◌∙◌, ◌++◌, ℕ, zero, suc, List, [], ◌∷◌, map, length, Contains, refl, sym, ap, subst, arith}
use Rattle.std.proofs.lemmas.List.{append_assoc}
use Rattle.lrat_rules.specs.State.{Live, clause_at}
use Rattle.node_table.specs.Diagram.{Graph}
use Rattle.node_table.specs.Table.{TableState}
use Rattle.node_table.specs.Tied.{IsUpTo, KeepsClauses}
use Rattle.operations.specs.Entries.{Entry}
use Rattle.bdd_terms.specs.declared.held.HeldTerm.{HeldTerm}
use Rattle.bdd_terms.specs.Units.{HasUnits}
use Rattle.bdd_terms.specs.Runner.{IsRefusal, refusal_of}
use Rattle.bdd_terms.proofs.OwnUnits.{later}
use Rattle.bdd_terms.proofs.Owners.{units_back, units_front}

-- over the same order, where its clause stays
pub refusal_stays : (old new : Graph) (live more : Live) → new.order ≡ old.order → (id : ℕ)
    → clause_at more id ≡ clause_at live id → IsRefusal old live id → IsRefusal new more id
refusal_stays old new live more order id same is = record {
  clause = is.clause;
  stands = same ∙ is.stands;
  over = λ literal any. subst (λ (o : List ℕ). IsUpTo (length o) is.clause) (sym order) is.over literal any;
}

-- and where clauses only come
pub refusal_kept : (old new : Graph) (live more : Live) → new.order ≡ old.order → KeepsClauses live more → (id : ℕ) → IsRefusal old live id
    → IsRefusal new more id
refusal_kept old new live more order keeps id is = record {
  clause = is.clause;
  stands = keeps id is.clause is.stands;
  over = λ literal any. subst (λ (o : List ℕ). IsUpTo (length o) is.clause) (sym order) is.over literal any;
}

-- what owns it is among those that do
pub owner_of : (ids : List ℕ) (id : ℕ) → Contains ids id → Contains (map refusal_of ids) (refusal_of id)
owner_of [] id there = absurd (omega (arith, there.1))
owner_of (first ∷ ids) id (zero, small, at) = (zero, omega arith, ap refusal_of at)
owner_of (first ∷ ids) id (suc k, small, at) =
    later (refusal_of first) (map refusal_of ids) (refusal_of id) (owner_of ids id (k, omega (arith, small), at))

pub which_refusal : (ids : List ℕ) (held : HeldTerm) → Contains (map refusal_of ids) held → (id : ℕ) × Contains ids id × (held ≡ refusal_of
    id)
which_refusal [] held there = absurd (omega (arith, there.1))
which_refusal (first ∷ ids) held (zero, small, at) = (first, (zero, omega arith, refl), sym at)
which_refusal (first ∷ ids) held (suc k, small, at) =
    let more = which_refusal ids held (k, omega (arith, small), at) in
    (more.0, later first ids more.0 more.1, more.2)

-- a term comes or goes before them
module _ {S : Type 0} (table : TableState S) (kept : List Entry) (front behind last : List HeldTerm) (held : HeldTerm) where
  pub front_of : HasUnits table kept ((front ++ held ∷ behind) ++ last) → HasUnits table kept (held ∷ ((front ++ behind) ++ last))
  front_of has =
      subst (λ (list : List HeldTerm). HasUnits table kept (held ∷ list)) (sym (append_assoc front behind last))
      (units_front table kept front (behind ++ last) held
      (subst (HasUnits table kept) (append_assoc front (held ∷ behind) last) has))

  pub back_of : HasUnits table kept (held ∷ ((front ++ behind) ++ last)) → HasUnits table kept ((front ++ held ∷ behind) ++ last)
  back_of has =
      subst (HasUnits table kept) (sym (append_assoc front (held ∷ behind) last))
      (units_back table kept front (behind ++ last) held
      (subst (λ (list : List HeldTerm). HasUnits table kept (held ∷ list)) (append_assoc front behind last) has))
