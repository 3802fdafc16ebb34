-- What operations found stays right as nodes and clauses are added, and so do the entries of their caches.
use Rattle.std.proofs.Common.{◌≡◌, ◌<◌, ◌++◌, ◌⊎◌, ℕ, true, List, [], Option, Some, Contains, None, ℤ, is_some, sym, ap, ◌∙◌, subst}
use Rattle.std.proofs.Common.{arith, inl, inr, refl}
use Rattle.std.specs.Prelude.{IsTrue, IsFalse}
use Rattle.std.proofs.lemmas.List.Elements.{Contains-append_right, Contains-append_cases}
use Rattle.lrat_rules.specs.State.{Live, clause_at}
use Rattle.hint_chain.specs.declared.atom.Atom.{Atom}
use Rattle.hint_chain.specs.Atoms.{clause_from_atoms, is_trivial}
use Rattle.node_table.specs.declared.node.Node.{Node}
use Rattle.node_table.specs.declared.node.Justification.{Justification}
use Rattle.node_table.specs.declared.node.Justification.TheVariants.{Trivial, Clause}
use Rattle.node_table.specs.Diagram.{Graph, IsReduced, KeepsNodes, branch_at, is_node}
use Rattle.node_table.specs.Tied.{KeepsClauses}
use Rattle.node_table.specs.Justification.{IsJustified}
use Rattle.node_table.specs.Table.{TableState, IsSound, Extends}
use Rattle.node_table.specs.Laws.{Growth, StepByStep}
use Rattle.operations.specs.Results.{conjunction_atoms, implication_atoms}
use Rattle.operations.specs.Entries.{Entry, Conjunction, Implication, Disjunction, Quantification, FitsEntry, Fits, Fitting, AreApart}
use Rattle.operations.specs.Entries.{IsOneMore, IsNamed, Names, NamesOnly, RetiresOwn, just_of}
use Rattle.operations.proofs.SameNodes.{IsSameNode, AreSameNodes, entry_same, entry_justified, entry_settled}

module _ (laws : Growth) (old new : Graph) (keeps : KeepsNodes old new) (reduced : IsReduced old) where
  node_kept : (node : Node) → IsTrue (is_node old node) → IsSameNode old new node
  node_kept node stands = record {
    stands = laws.stands old new keeps node stands;
    level = laws.level old new keeps node stands;
    value = λ a. laws.value old new reduced keeps a node stands;
    atom = laws.atom old new keeps node stands;
  }

  nodes_kept : (live : Live) (entry : Entry) → FitsEntry old live entry → AreSameNodes old new entry
  nodes_kept live (Conjunction u v w just) fits = (node_kept u fits.0.first, node_kept v fits.0.second, node_kept w fits.1.stands)
  nodes_kept live (Implication u v just) fits = (node_kept u fits.0.first, node_kept v fits.0.second)
  nodes_kept live (Disjunction u v w) fits = (node_kept u fits.0.first, node_kept v fits.0.second, node_kept w fits.1.stands)
  nodes_kept live (Quantification u level w) fits = (node_kept u fits.0, node_kept w fits.1.stands)

  entry_kept : (before after : Live) → KeepsClauses before after → (entry : Entry) → FitsEntry old before entry → FitsEntry new after entry
  entry_kept before after keeps_clauses entry fits =
      entry_same old new after entry (nodes_kept before entry fits)
      (entry_justified old before after entry (λ atoms. laws.justified before after keeps_clauses atoms (just_of entry)) fits)

-- a clause that is named is live
some_along : {X : Type 0} (one other : Option X) → one ≡ other → is_some other ≡ true → is_some one ≡ true
some_along one other same is = ap is_some same ∙ is

not_named : (id : ℕ) → Trivial ≡ Clause id → ⊥
not_named id is = cc

module _ (given : (atoms : List Atom) → IsFalse (is_trivial atoms) → IsTrue (is_some (clause_from_atoms atoms))) where
  justified_live : (live : Live) (atoms : List Atom) (just : Justification) (id : ℕ) → IsJustified live atoms just → just ≡ Clause id
      → is_some (clause_at live id) ≡ true
  justified_live live atoms just id holds is =
      let own : IsJustified live atoms (Clause id) = subst (λ (j : Justification). IsJustified live atoms j) is holds in
      some_along (clause_at live id) (clause_from_atoms atoms) own.1 (given atoms own.0)

  named_live : (graph : Graph) (live : Live) (entry : Entry) → FitsEntry graph live entry → (id : ℕ) → Names entry id
      → is_some (clause_at live id) ≡ true
  named_live graph live (Conjunction u v w just) fits id is = justified_live live
      (conjunction_atoms graph u v w) just id fits.1.justified is
  named_live graph live (Implication u v just) fits id is = justified_live live (implication_atoms graph u v) just id fits.1.justified is
  named_live graph live (Disjunction u v w) fits id is = absurd (not_named id is)
  named_live graph live (Quantification u level w) fits id is = absurd (not_named id is)

  -- no clause that was live before is a later one
  not_live : {S : Type 0} (old : TableState S) → IsSound old → (id : ℕ) → old.book.state.top < id
      → is_some (clause_at old.book.state.live id) ≡ true → ⊥
  not_live old sound id above live =
      let clause = some_clause (clause_at old.book.state.live id) live in
      absurd (omega (arith, (sound.tied.numbers id clause.0 clause.1).1, above))
    where
      some_clause : (o : Option (List ℤ)) → is_some o ≡ true → (clause : List ℤ) × (o ≡ Some clause)
      some_clause None is = cc
      some_clause (Some clause) is = (clause, refl)

  named_before : {S : Type 0} (old : TableState S) (list : List Entry) → Fits old list → (entry : Entry) → Contains list entry → (id : ℕ)
      → Names entry id → is_some (clause_at old.book.state.live id) ≡ true
  named_before old list fits entry there id names = named_live old.graph old.book.state.live entry (fits.each entry there) id names

  -- The entries of a table that grew.
  module _ {S : Type 0} (law : StepByStep S) (laws : Growth) (old new : TableState S)
      (sound : IsSound old) (still : IsSound new) (extends : Extends old new) where
    one_kept : (entry : Entry) → FitsEntry old.graph old.book.state.live entry → FitsEntry new.graph new.book.state.live entry
    one_kept = entry_kept laws old.graph new.graph extends.nodes sound.tied.reduced old.book.state.live new.book.state.live extends.clauses

    fits_kept : (entries : List Entry) → Fits old entries → ((id : ℕ) → IsNamed entries id → Contains new.retired id → ⊥) → Fits new entries
    fits_kept entries fits unretired = record {
      each = λ entry there. one_kept entry (fits.each entry there);
      own = λ id named. law.added old new sound still extends id (fits.own id named);
      unretired = unretired;
      apart = fits.apart;
    }

    -- one entry more
    module _ (before after : List Entry) (found : Entry) (fits : Fits old before) (more : IsOneMore new before found)
        (only : (entry : Entry) → Contains after entry → (entry ≡ found) ⊎ Contains before entry)
        (unretired : (id : ℕ) → IsNamed after id → Contains new.retired id → ⊥) where
      names_along : (entry : Entry) (id : ℕ) → entry ≡ found → Names entry id → Names found id
      names_along entry id is names = subst (λ (e : Entry). Names e id) is names

      not_before : (entry : Entry) (id : ℕ) → Contains before entry → Names entry id → Names found id → ⊥
      not_before entry id there names mine = more.unnamed id mine (entry, there, names)

      fits_more : Fits new after
      fits_more = record {
        each = λ entry there. elim (only entry there) [
          | inl is ↦ subst (FitsEntry new.graph new.book.state.live) (sym is) more.right
          | inr was ↦ one_kept entry (fits.each entry was)
        ];
        own = λ id named. elim (only named.0 named.1) [
          | inl is ↦ more.own id (names_along named.0 id is named.2)
          | inr was ↦ law.added old new sound still extends id (fits.own id (named.0, was, named.2))
        ];
        unretired = unretired;
        apart = λ one other id first second names also. elim (only one first) [
          | inl is ↦ elim (only other second) [
            | inl too ↦ is ∙ sym too
            | inr was ↦ absurd (not_before other id was also (names_along one id is names))
          ]
          | inr had ↦ elim (only other second) [
            | inl too ↦ absurd (not_before one id had names (names_along other id too also))
            | inr was ↦ fits.apart one other id had was names also
          ]
        ];
      }

    -- the entries of other caches, beside those of one whose clauses were retired
    module _ (before after others : List Entry) (retires : RetiresOwn old new before)
        (named : NamesOnly before after old.book.state new.book.state) (fits : Fits old (before ++ others)) (apart : AreApart before others)
        (own : Fits new after) where
      other_there : (entry : Entry) → Contains others entry → Contains (before ++ others) entry
      other_there entry there = Contains-append_right before others entry there

      other_live : (id : ℕ) → IsNamed others id → old.book.state.top < id → ⊥
      other_live id by above = not_live old sound id above (named_before old (before ++ others) fits by.0 (other_there by.0 by.1) id by.2)

      apart_after : AreApart after others
      apart_after id mine theirs = elim (named.each mine.0 mine.1) [
        | inl was ↦ apart id (mine.0, was, mine.2) theirs
        | inr came ↦ other_live id theirs (came id mine.2).0
      ]

      other_unretired : (id : ℕ) → IsNamed others id → Contains new.retired id → ⊥
      other_unretired id by gone = elim (retires.each id gone) [
        | inl was ↦ fits.unretired id (by.0, other_there by.0 by.1, by.2) was
        | inr since ↦ elim since [
          | inl above ↦ other_live id by above
          | inr mine ↦ apart id mine by
        ]
      ]

      fits_both : Fits new (after ++ others)
      fits_both = record {
        each = λ entry there. elim (Contains-append_cases after others entry there) [
          | inl mine ↦ own.each entry mine
          | inr other ↦ one_kept entry (fits.each entry (other_there entry other))
        ];
        own = λ id by. elim (Contains-append_cases after others by.0 by.1) [
          | inl mine ↦ own.own id (by.0, mine, by.2)
          | inr other ↦ law.added old new sound still extends id (fits.own id (by.0, other_there by.0 other, by.2))
        ];
        unretired = λ id by gone. elim (Contains-append_cases after others by.0 by.1) [
          | inl mine ↦ own.unretired id (by.0, mine, by.2) gone
          | inr other ↦ other_unretired id (by.0, other, by.2) gone
        ];
        apart = λ one other id first second names also. elim (Contains-append_cases after others one first) [
          | inl mine ↦ elim (Contains-append_cases after others other second) [
            | inl too ↦ own.apart one other id mine too names also
            | inr theirs ↦ absurd (apart_after id (one, mine, names) (other, theirs, also))
          ]
          | inr theirs ↦ elim (Contains-append_cases after others other second) [
            | inl mine ↦ absurd (apart_after id (other, mine, also) (one, theirs, names))
            | inr too ↦ fits.apart one other id (other_there one theirs) (other_there other too) names also
          ]
        ];
      }

  fits_none : {S : Type 0} (table : TableState S) → Fits table []
  fits_none table = record {
    each = λ entry there. absurd (in_none entry there);
    own = λ id by. absurd (in_none by.0 by.1);
    unretired = λ id by gone. in_none by.0 by.1;
    apart = λ one other id first second names also. absurd (in_none one first);
  }
    where
      in_none : (entry : Entry) → Contains [] entry → ⊥
      in_none entry there = absurd (omega (arith, there.1))

  fits_fewer : {S : Type 0} (table : TableState S) (few more : List Entry) → ((entry : Entry) → Contains few entry → Contains more entry)
      → Fits table more → Fits table few
  fits_fewer table few more within fits = record {
    each = λ entry there. fits.each entry (within entry there);
    own = λ id by. fits.own id (by.0, within by.0 by.1, by.2);
    unretired = λ id by. fits.unretired id (by.0, within by.0 by.1, by.2);
    apart = λ one other id first second. fits.apart one other id (within one first) (within other second);
  }

-- Clauses were deleted, but for those that entries name.
fits_settled : {S : Type 0} (old new : TableState S) (entries : List Entry) → new.graph ≡ old.graph → new.inputs ≡ old.inputs → new.retired
    ≡ []
    → ((id : ℕ) → (Contains old.retired id → ⊥) → clause_at new.book.state.live id ≡ clause_at old.book.state.live id) → Fits old entries
    → Fits new entries
fits_settled old new entries nodes inputs none stay fits = record {
  each = λ entry there.
      subst (λ (g : Graph). FitsEntry g new.book.state.live entry) (sym nodes)
      (entry_settled old.graph old.book.state.live new.book.state.live entry (λ id names. stay id (fits.unretired id (entry, there, names)))
      (fits.each entry there));
  own = λ id by.
      let was = fits.own id by in
      record {
        stands = ap is_some (stay id (fits.unretired id by)) ∙ was.stands;
        above = omega (arith, inputs, was.above);
        defines_none = λ key branch at. was.defines_none key branch (subst (λ (g : Graph). branch_at g key ≡ Some branch) nodes at);
      };
  unretired = λ id by gone. in_none id (subst (λ (list : List ℕ). Contains list id) none gone);
  apart = fits.apart;
}
  where
    in_none : (id : ℕ) → Contains [] id → ⊥
    in_none id there = absurd (omega (arith, there.1))

pub fitting : {S : Type 0} → StepByStep S → Growth
    → ((atoms : List Atom) → IsFalse (is_trivial atoms) → IsTrue (is_some (clause_from_atoms atoms))) → Fitting S
fitting law laws given = record {
  none = λ table. fits_none given table;
  kept = λ old new entries sound still extends fits unretired. fits_kept given law laws old new sound still extends entries fits unretired;
  fewer = λ table. fits_fewer given table;
  one = λ old new entry sound extends. entry_kept laws old.graph new.graph extends.nodes sound.tied.reduced old.book.state.live
      new.book.state.live extends.clauses entry;
  more = λ old new before after found sound still extends fits one only unretired.
      fits_more given law laws old new sound still extends before after found fits one only unretired;
  beside = λ old new before after others sound still extends retires named fits apart own. (
    fits_both given law laws old new sound still extends before after others retires named fits apart own,
    apart_after given law laws old new sound still extends before after others retires named fits apart own,
  );
  settled = fits_settled;
}
