-- What an implication finds: nothing, or a unit behind it, or no term where it doesn't hold. No node is made.
use Rattle.std.proofs.Common.{◌≡◌, ◌≢◌, ◌⊎◌, ◌∙◌, ◌+◌, ◌*◌, ◌<◌, ℕ, Bool, true, List, [], ◌∷◌, Contains, None, Some, Ok, Err, ap, refl, sym}
use Rattle.std.proofs.Common.{subst, inl, inr, arith}
use Rattle.cnf_base.specs.Truth.{Assignment}
use Rattle.operations.specs.Accounts.{none_whole, whole_result}
use Rattle.operations.specs.Budget.{most_additions}
use Rattle.operations.specs.Entries.{Accounts, Fitting}
use Rattle.node_table.specs.declared.error.TableError.{TableError}
use Rattle.node_table.specs.declared.error.TableError.TheVariants.{NodeLimit, WriteFault}
use Rattle.node_table.specs.declared.node.Node.{Node}
use Rattle.node_table.specs.declared.node.Node.TheVariants.{False}
use Rattle.node_table.specs.declared.node.Justification.{Justification}
use Rattle.node_table.specs.declared.node.Justification.TheVariants.{Clause, Trivial}
use Rattle.node_table.specs.Defined.{atom_of}
use Rattle.node_table.specs.Diagram.{Graph, is_node, levels}
use Rattle.node_table.specs.HandedOn.{no_error, same_error}
use Rattle.node_table.specs.Justification.{IsJustified}
use Rattle.node_table.specs.Laws.{StepByStep, Subfunctions}
use Rattle.node_table.specs.Made.{MakesOnly}
use Rattle.node_table.specs.Progress.{Steps, StepsOrRefutes}
use Rattle.node_table.specs.Table.{TableState, AddsAtMost, AddsNoEmpty, AddsNone, IsAddedTo, IsSound}
use Rattle.node_table.specs.Value.{IsSubfunction, Levels, value_of}
use Rattle.clause_terms.specs.Term.{IsTerm}
use Rattle.bdd_terms.specs.declared.caches.Caches.{Caches}
use Rattle.bdd_terms.specs.declared.held.HeldTerm.{HeldTerm}
use Rattle.bdd_terms.specs.Caches.{HaveRoom, KeepsEntries, all_entries, sizes}
use Rattle.bdd_terms.specs.Finds.{AreFew, Finds}
use Rattle.bdd_terms.specs.Units.{GivesUnit, HasUnits}
use Rattle.bdd_terms.specs.Parity.{node_holds}
use Rattle.bdd_terms.specs.Runner.{true_term}
use Rattle.bdd_terms.specs.Parts.{HasAtMost}
use Rattle.bdd_terms.proofs.Giving.{given_behind, none_added, units_behind}
use Rattle.bdd_terms.proofs.Leaving.{went_on}
use Rattle.bdd_terms.proofs.MadeParts.{only_of}
use Rattle.bdd_terms.proofs.NoEmpty.{further_empty}
use Rattle.bdd_terms.proofs.OwnUnits.{new_unit, no_clause, unit_own}

module _ {S : Type 0} (steps : StepByStep S) (fitting : Fitting S) (parts : Subfunctions) (old mid : TableState S) (before after : Caches)
    (sound : IsSound old) (u : HeldTerm) (w : Node) (nodes : mid.graph ≡ old.graph) (same_sizes : sizes after ≡ sizes before)
    (few_pairs : (width : ℕ) → HaveRoom before width → AreFew old.graph (u ∷ []) width
    → HasAtMost (λ a. value_of old.graph a w) width → AddsAtMost (2 * (width * width)) old mid) where
  abbrev function : Levels → Bool
  function a = value_of old.graph a w

  made_none : (new : TableState S) → new.graph ≡ old.graph → MakesOnly old.graph new.graph function
  made_none new same = subst (λ (graph : Graph). MakesOnly old.graph graph function) (sym same) (parts.none_made old.graph function)

  module _ (came : TableError) (no_limit : came ≢ NodeLimit) (found : Steps old mid (most_additions (levels old.graph)) (Some came))
      (keeps : KeepsEntries old mid (all_entries before) (all_entries after) (Some came))
      (accounts : came ≢ WriteFault → Accounts old mid (all_entries before) (all_entries after)) where
    -- none was found
    pub refused_finds : (holds : Assignment → Bool) → Finds (IsSubfunction function) function holds (u ∷ []) old mid before after (Err came)
    refused_finds holds = record {
      term = tt;
      gives = tt;
      steps = steps.anyhow old mid (most_additions (levels old.graph) + 1) (Some came)
          (steps.at_most old mid (most_additions (levels old.graph)) (most_additions (levels old.graph) + 1) (Some came) (omega arith) found);
      no_empty = λ untorn some. found.no_empty;
      fits = λ untorn. keeps.fits (whole_result {T = HeldTerm} (Err came) untorn);
      again = λ limit. absurd (no_limit (same_error limit));
      made = only_of _ _ _ (made_none mid nodes);
      lacks = λ limit. absurd (no_limit (same_error limit));
      pairs = λ width room few all. let own = few_pairs width room few all in omega (arith, own);
      sizes = same_sizes;
    }

    pub refused_units : came ≢ WriteFault → (terms : List HeldTerm) → HasUnits old (all_entries before) terms
        → HasUnits mid (all_entries after) terms
    refused_units whole terms has =
        let untorn = whole_result {T = HeldTerm} (Err came) (λ torn. whole (same_error torn)) in
        units_behind steps old mid (all_entries before) (all_entries after) terms sound
        (went_on {T = HeldTerm} old mid (Err came) found.leaves (λ torn. whole (same_error torn))).sound found.extends has keeps.retires
        (keeps.named untorn) (accounts whole)

  module _ (found : Steps old mid (most_additions (levels old.graph)) None)
      (keeps : KeepsEntries old mid (all_entries before) (all_entries after) None)
      (accounts : Accounts old mid (all_entries before) (all_entries after)) where
    -- it doesn't hold
    pub none_gives : GivesUnit old mid (all_entries before) (all_entries after) [] Trivial
    none_gives = given_behind old mid mid (all_entries before) (all_entries after) [] Trivial accounts keeps.retires (keeps.named none_whole)
        found.leaves.no_less (omega arith) refl (λ id added. inl added) (λ id is. absurd (no_clause id is)) (λ id is. absurd (no_clause id is))

    pub none_finds : Finds (IsSubfunction function) function (λ a. true) (u ∷ []) old mid before after (Ok true_term)
    none_finds = record {
      term = record { stands = refl; value = λ a. refl; proved = refl };
      gives = given_behind old mid mid (all_entries before) (all_entries after) (u ∷ []) Trivial accounts keeps.retires
          (keeps.named none_whole) found.leaves.no_less (omega arith) refl (λ id added. inl added) (λ id is. absurd (no_clause id is))
          (λ id is. absurd (no_clause id is));
      steps = steps.anyhow old mid (most_additions (levels old.graph) + 1) None
          (steps.at_most old mid (most_additions (levels old.graph)) (most_additions (levels old.graph) + 1) None (omega arith) found);
      no_empty = λ untorn some. found.no_empty;
      fits = λ untorn. keeps.fits none_whole;
      again = λ limit. absurd (no_error limit);
      made = only_of _ _ _ (made_none mid nodes);
      lacks = λ limit. absurd (no_error limit);
      pairs = λ width room few all. let own = few_pairs width room few all in omega (arith, own);
      sizes = same_sizes;
    }

    module _ (new : TableState S) (retired : new.retired ≡ mid.retired) (same : new.graph ≡ mid.graph) where
      -- the unit behind it is refused
      module _ (came : TableError) (no_limit : came ≢ NodeLimit) (unit : StepsOrRefutes mid new 1 (Some came))
          (no_empty : came ≢ WriteFault → AddsNoEmpty mid new) (none : came ≢ WriteFault → AddsNone mid new) where
        whole_sound : came ≢ WriteFault → IsSound new
        whole_sound whole = (went_on {T = Justification} mid new (Err came) unit.leaves (λ torn. whole (same_error torn))).sound

        pub unit_refused : (holds : Assignment → Bool)
            → Finds (IsSubfunction function) function holds (u ∷ []) old new before after (Err came)
        unit_refused holds = record {
          term = tt;
          gives = tt;
          steps = steps.refute old mid new (most_additions (levels old.graph)) 1 (Some came) found unit;
          no_empty = λ untorn some. further_empty old mid new found.no_empty (no_empty (λ torn. untorn (ap Err torn)));
          fits = λ untorn. fitting.kept mid new (all_entries after) found.leaves.sound (whole_sound (λ torn. untorn (ap Err torn)))
              unit.extends (keeps.fits none_whole) (λ id named gone. (keeps.fits none_whole).unretired id named
              (subst (λ (list : List ℕ). Contains list id) retired gone));
          again = λ limit. absurd (no_limit (same_error limit));
          made = only_of _ _ _ (made_none new (same ∙ nodes));
          lacks = λ limit. absurd (no_limit (same_error limit));
          pairs = λ width room few all. let own = few_pairs width room few all in omega (arith, own, unit.adds);
          sizes = same_sizes;
        }

        pub unit_refused_units : came ≢ WriteFault → (terms : List HeldTerm) → HasUnits old (all_entries before) terms
            → HasUnits new (all_entries after) terms
        unit_refused_units whole terms has =
            let first = units_behind steps old mid (all_entries before) (all_entries after) terms sound found.leaves.sound found.extends has
            keeps.retires (keeps.named none_whole) accounts in
            units_behind steps mid new (all_entries after) (all_entries after) terms found.leaves.sound (whole_sound whole) unit.extends first
            (record { each = λ id gone. inl (subst (λ (ids : List ℕ). Contains ids id) retired gone) })
            (record { each = λ entry there. inl there }) (none_added mid new (all_entries after) found.leaves.sound retired (none whole))

      -- it is added
      module _ (just : Justification) (unit : StepsOrRefutes mid new 1 None) (some : w ≢ False → Steps mid new 1 None)
          (stands : is_node old.graph w ≡ true) (proved : IsJustified new.book.state.live (atom_of mid.graph w ∷ []) just)
          (last : (id : ℕ) → just ≡ Clause id → (id ≡ new.book.state.top) × (mid.book.state.top < id))
          (added : (id : ℕ) → just ≡ Clause id → IsAddedTo new id)
          (alone : (id : ℕ) → IsAddedTo new id → IsAddedTo mid id ⊎ (just ≡ Clause id)) where
        own_unit_gives : (operands : List HeldTerm) → GivesUnit old new (all_entries before) (all_entries after) operands just
        own_unit_gives operands = given_behind old mid new (all_entries before) (all_entries after) operands just accounts keeps.retires
            (keeps.named none_whole) found.leaves.no_less unit.leaves.no_less retired alone (λ id is. inr ((last id is).1, added id is))
            (unit_own mid new (all_entries after) Trivial Trivial just found.leaves.sound (keeps.fits none_whole) retired
            (λ id is. absurd (no_clause id is)) (λ id is. absurd (no_clause id is))
            (inr (inr (λ id is. new_unit mid new id (last id is)))))

        pub weaker_gives : GivesUnit old new (all_entries before) (all_entries after) [] just
        weaker_gives = own_unit_gives []

        pub weaker_finds : Finds (IsSubfunction function) function (node_holds old.graph w) (u ∷ []) old new before after
            (Ok (record { node = w; unit = just }))
        weaker_finds = record {
          term = subst (λ (graph : Graph). IsTerm graph new.book.state.live (node_holds old.graph w) w just) (sym (same ∙ nodes)) (record {
            stands = stands;
            value = λ a. refl;
            proved = subst (λ (graph : Graph). IsJustified new.book.state.live (atom_of graph w ∷ []) just) nodes proved;
          });
          gives = own_unit_gives (u ∷ []);
          steps = steps.refute old mid new (most_additions (levels old.graph)) 1 None found unit;
          no_empty = λ untorn some_w. further_empty old mid new found.no_empty (some some_w).no_empty;
          fits = λ untorn. fitting.kept mid new (all_entries after) found.leaves.sound unit.leaves.sound unit.extends (keeps.fits none_whole)
              (λ id named gone. (keeps.fits none_whole).unretired id named (subst (λ (list : List ℕ). Contains list id) retired gone));
          again = λ limit. absurd (no_error limit);
          made = only_of _ _ _ (made_none new (same ∙ nodes));
          lacks = λ limit. absurd (no_error limit);
          pairs = λ width room few all. let own = few_pairs width room few all in omega (arith, own, unit.adds);
          sizes = same_sizes;
        }
