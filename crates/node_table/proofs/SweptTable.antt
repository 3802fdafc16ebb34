-- What a table is once the nodes that aren't marked went with the clauses that define them: those that stay are tied to the
-- live clauses that are left.
use Rattle.std.proofs.Common.{◌≡◌, ◌<◌, ◌≤◌, ◌+◌, ◌∙◌, ℕ, Bool, true, false, ℤ, pos, List, length, Option, None, Some, is_some, refl, sym, ap}
use Rattle.std.proofs.Common.{subst, arith, inl, inr}
use Rattle.std.specs.Prelude.{nat_abs, slice_index_or}
use Rattle.std.specs.List.{list_any}
use Rattle.std.specs.Ordering.{int_eq}
use Rattle.std.proofs.lemmas.Bool.{cases_lt, false_from_ne_true}
use Rattle.lrat_rules.specs.State.{State, clause_at}
use Rattle.clause_ledger.specs.Book.{Book}
use Rattle.clause_ledger.specs.Told.{told_in_step, told_limit}
use Rattle.hint_chain.specs.Atoms.{clause_from_atoms, high_up, low_up, high_down, low_down}
use Rattle.node_table.specs.declared.node.Branch.{Branch}
use Rattle.node_table.specs.Diagram.{Graph, branch_at, levels, variable_at, IsOrder}
use Rattle.node_table.specs.Defined.{IsDefined, atom_of, defs_of, is_defined_by}
use Rattle.node_table.specs.Deleted.{AreClear, Defines, DefinesUnmarked, Deletes, DeletesTorn, deletion_steps}
use Rattle.node_table.specs.Made.{inner}
use Rattle.node_table.specs.Marks.{AreMarks, is_marked}
use Rattle.node_table.specs.Places.{AreNumberedAbove, HavePlaces}
use Rattle.node_table.specs.Progress.{Continues, BreaksOff}
use Rattle.node_table.specs.Swept.{IsSwept}
use Rattle.node_table.specs.Table.{IsSound, live_nodes}
use Rattle.node_table.specs.Tied.{IsTied, IsAdded, IsOwned, IsOverNodes, AreRetired, HoldFormula, KeepsClauses}
use Rattle.node_table.proofs.Conserved.{deletions_conserve}
use Rattle.node_table.proofs.CallSteps.{Aside, FewerInUse, table_of}
use Rattle.node_table.proofs.DefinedOver.{definition_over}
use Rattle.node_table.proofs.Deleting.{torn_cut}
use Rattle.node_table.proofs.Deletable.{same_owner}
use Rattle.node_table.proofs.InUseSame.{in_use_nodes}
use Rattle.node_table.proofs.Places.{HavePlaces-same}
use Rattle.node_table.proofs.Since.{ComesSince-fewer}
use Rattle.node_table.proofs.Settled.{IsDefined-stays}
use Rattle.node_table.proofs.Swept.{atom_of_swept, branch_at_marked, left_marked, reduced_swept}
use Rattle.node_table.proofs.Uptos.{up_to_deletions}

some_clause : (o : Option (List ℤ)) → is_some o ≡ true → (clause : List ℤ) × (o ≡ Some clause)
some_clause None is = absurd (let e : false ≡ true = is in cc)
some_clause (Some clause) is = (clause, refl)

-- numbers above those of a formula are above those of a smaller one
pub numbered_less : (graph : Graph) (inputs few : ℕ) → few ≤ inputs → AreNumberedAbove inputs graph → AreNumberedAbove few graph
numbered_less graph inputs few le above key b at = let less = above key b at in omega (arith, le, less)

-- the clauses that define unmarked nodes went, and the others stay
pub record AreLeft (graph : Graph) (marks : List Bool) (old new : State) : Type 0 where
  pub gone : (id : ℕ) → DefinesUnmarked graph marks id → clause_at new.live id ≡ None
  pub stay : (id : ℕ) → (DefinesUnmarked graph marks id → ⊥) → clause_at new.live id ≡ clause_at old.live id
  pub among : KeepsClauses new.live old.live
  pub top : new.top ≡ old.top

module _ (graph later : Graph) (marks : List Bool) (are : AreMarks graph marks) (swept : IsSwept graph later marks) (old new : State)
    (tied : IsTied graph old) (left : AreLeft graph marks old new) where
  -- a node that stays was there
  was_there : (key : ℕ) (b : Branch) → branch_at later key ≡ Some b → branch_at graph key ≡ Some b
  was_there key b at = (left_marked graph later marks are swept key b at).1

  -- no clause of a marked node is one of an unmarked one
  own_stays : (key : ℕ) (b : Branch) → branch_at graph key ≡ Some b → is_marked marks (inner key) ≡ true → (id : ℕ)
      → is_defined_by (defs_of b) id ≡ true → clause_at new.live id ≡ clause_at old.live id
  own_stays key b at marked id own =
      left.stay id (λ d.
      let same = same_owner graph marks old.live tied.reduced tied.defined d.key key id d.branch b d.stands at d.defines own in
      let e : true ≡ false = sym marked ∙ ap (λ k. is_marked marks (inner k)) (sym same) ∙ d.unmarked in cc)

  swept_defined : (key : ℕ) (b : Branch) → branch_at later key ≡ Some b → IsDefined new.live later b
  swept_defined key b at =
      let was = left_marked graph later marks are swept key b at in
      let d = IsDefined-stays graph old.live new.live b (own_stays key b was.1 was.0) (tied.defined key b was.1) in
      let x : variable_at graph b.level ≡ variable_at later b.level = ap (λ (order : List ℕ). slice_index_or order b.level 0)
      (sym swept.order) in
      let high : atom_of graph b.high ≡ atom_of later b.high = sym
      (atom_of_swept graph later marks are swept b.high (are.high key b was.0 was.1)) in
      let low : atom_of graph b.low
      ≡ atom_of later b.low = sym (atom_of_swept graph later marks are swept b.low (are.low key b was.0 was.1)) in
      let u = pos b.variable in
      record {
        hu = d.hu ∙ (λ i. clause_from_atoms (high_up u (pos (x i)) (high i)));
        lu = d.lu ∙ (λ i. clause_from_atoms (low_up u (pos (x i)) (low i)));
        hd = d.hd ∙ (λ i. clause_from_atoms (high_down u (pos (x i)) (high i)));
        ld = d.ld ∙ (λ i. clause_from_atoms (low_down u (pos (x i)) (low i)));
      }

  -- a live clause defines no unmarked node
  defines_none : (id : ℕ) (clause : List ℤ) → clause_at new.live id ≡ Some clause → DefinesUnmarked graph marks id → ⊥
  defines_none id clause is d = let none : None ≡ Some clause = sym (left.gone id d) ∙ is in cc

  -- a clause that defines a node which stays is over the nodes that stay
  marked_over : (id : ℕ) (clause : List ℤ) → clause_at new.live id ≡ Some clause → (key : ℕ) (b : Branch) → branch_at graph key ≡ Some b
      → is_marked marks (inner key) ≡ true
      → is_defined_by (defs_of b) id ≡ true → IsOverNodes later clause
  marked_over id clause is key b at marked own =
      let there : branch_at later key ≡ Some b = branch_at_marked graph later marks are swept key marked ∙ at in
      definition_over later new.live (subst IsOrder (sym swept.order) tied.ordered)
      (reduced_swept graph later marks are swept tied.reduced) key b there (swept_defined key b there) id clause is own

  -- a live clause that holds an unmarked node's extension variable defines no node
  defines_other : (id : ℕ) (clause : List ℤ) → clause_at new.live id ≡ Some clause → (literal : ℤ) → list_any (int_eq literal) clause ≡ true
      → levels later < nat_abs literal
      → (owned : IsOwned graph (nat_abs literal)) → is_marked marks (inner owned.key) ≡ false → Defines graph id → ⊥
  defines_other id clause is literal holds above owned unmarked d =
      elim (is_marked marks (inner d.key)) as (λ m. is_marked marks (inner d.key) ≡ m → ⊥) [
        | true ↦ λ marked.
            let other = marked_over id clause is d.key d.branch d.stands marked d.defines literal holds above in
            let there = left_marked graph later marks are swept other.key other.branch other.stands in
            let same : other.key ≡ owned.key = tied.reduced.apart other.key owned.key other.branch owned.branch there.1 owned.stands
            (other.own ∙ sym owned.own) in
            let e : true ≡ false = sym there.0 ∙ ap (λ k. is_marked marks (inner k)) same ∙ unmarked in cc
        | false ↦ λ gone. defines_none id clause is (record {
          key = d.key;
          branch = d.branch;
          stands = d.stands;
          unmarked = gone;
          defines = d.defines;
        })
      ] refl

  -- a live clause that holds an unmarked node's extension variable isn't the formula's, and defines no node
  was_other : (inputs : ℕ) → HoldFormula graph old.live inputs → (id : ℕ) (clause : List ℤ) → clause_at new.live id ≡ Some clause
      → (literal : ℤ) → list_any (int_eq literal) clause ≡ true → levels later < nat_abs literal
      → (owned : IsOwned graph (nat_abs literal)) → is_marked marks (inner owned.key) ≡ false → IsAdded graph old.live inputs id
  was_other inputs formula id clause is literal holds above owned unmarked = record {
    stands = ap is_some (left.among id clause is);
    above = elim (cases_lt inputs id) [
      | inl late ↦ late
      | inr low ↦ let small = formula id clause (left.among id clause is) low literal holds in
          absurd (omega (arith, small, above, ap length swept.order))
    ];
    defines_none = λ key b at. false_from_ne_true (is_defined_by (defs_of b) id)
        (λ defines. defines_other id clause is literal holds above owned unmarked
        (record { key = key; branch = b; stands = at; defines = defines }));
  }

  swept_over : (inputs : ℕ) → HoldFormula graph old.live inputs → AreClear graph marks old.live inputs → (id : ℕ) (clause : List ℤ)
      → clause_at new.live id ≡ Some clause → IsOverNodes later clause
  swept_over inputs formula clear id clause is literal holds above =
      let was = left.among id clause is in
      let owned = tied.over_nodes id clause was literal holds (subst (λ (order : List ℕ). length order
      < nat_abs literal) swept.order above) in
      elim (is_marked marks (inner owned.key)) as (λ b. is_marked marks (inner owned.key) ≡ b → IsOwned later (nat_abs literal)) [
        | true ↦ λ marked. record {
          key = owned.key;
          branch = owned.branch;
          stands = branch_at_marked graph later marks are swept owned.key marked ∙ owned.stands;
          own = owned.own;
        }
        | false ↦ λ unmarked. absurd
            (clear id clause was (was_other inputs formula id clause is literal holds above owned unmarked) literal holds owned.key owned.branch
            owned.stands unmarked (sym owned.own))
      ] refl

  pub swept_tied : (inputs : ℕ) → HoldFormula graph old.live inputs → AreClear graph marks old.live inputs → IsTied later new
  swept_tied inputs formula clear = record {
    reduced = reduced_swept graph later marks are swept tied.reduced;
    ordered = subst IsOrder (sym swept.order) tied.ordered;
    defined = swept_defined;
    over_nodes = swept_over inputs formula clear;
    numbers = λ id clause is. let was = tied.numbers id clause (left.among id clause is) in (was.0, omega (arith, was.1, left.top));
  }

  pub swept_retired : (inputs : ℕ) (retired : List ℕ) → AreRetired graph old.live inputs retired → AreRetired later new.live inputs retired
  swept_retired inputs retired r = record {
    each = λ id listed.
        let own = r.each id listed in
        let other : DefinesUnmarked graph marks id → ⊥ = λ d. (let e : true ≡ false = sym d.defines
        ∙ own.defines_none d.key d.branch d.stands in cc) in
        record {
          stands = ap is_some (left.stay id other) ∙ own.stands;
          above = own.above;
          defines_none = λ key b at. own.defines_none key b (was_there key b at);
        };
    once = r.once;
  }

  -- a clause that was added was so before
  pub was_added : (inputs id : ℕ) → IsAdded later new.live inputs id → IsAdded graph old.live inputs id
  was_added inputs id own =
      let found = some_clause (clause_at new.live id) own.stands in
      record {
        stands = ap is_some (left.among id found.0 found.1);
        above = own.above;
        defines_none = λ key b at. elim (is_marked marks (inner key)) as (λ m. is_marked marks (inner key) ≡ m
            → is_defined_by (defs_of b) id ≡ false) [
              | true ↦ λ marked. own.defines_none key b (branch_at_marked graph later marks are swept key marked ∙ at)
              | false ↦ λ unmarked. false_from_ne_true (is_defined_by (defs_of b) id)
                  (λ d. defines_none id found.0 found.1 (record { key = key; branch = b; stands = at; unmarked = unmarked; defines = d }))
            ] refl;
      }

  pub swept_places : (inputs places capacity : ℕ) → HavePlaces graph old.live inputs places capacity
      → HavePlaces later new.live inputs places capacity
  swept_places inputs places capacity have = HavePlaces-same graph later old.live new.live inputs places capacity (was_added inputs) have

  pub swept_numbered : (inputs : ℕ) → AreNumberedAbove inputs graph → AreNumberedAbove inputs later
  swept_numbered inputs above key b at = above key b (was_there key b at)

module _ {S : Type 0} (aside : Aside) (graph : Graph) (old new : Book S) (sound : IsSound (table_of aside graph old)) where
  -- what deletions leave beside the live clauses
  top_is : (in_step : Bool) (ids : List ℕ) → Deletes in_step old new ids → new.state.top ≡ old.state.top
  top_is in_step ids deletes = ap (λ (s : State). s.top) deletes.state

  pub sweep_on : (later : Graph) (marks : List Bool) → AreMarks graph marks → IsSwept graph later marks
      → AreClear graph marks old.state.live aside.inputs → AreLeft graph marks old.state new.state → (ids : List ℕ) → Deletes true old new ids
      → Continues (table_of aside graph old) (table_of aside later new)
  sweep_on later marks are swept clear left ids deletes =
      let top = top_is true ids deletes in
      record {
        sound = record {
          in_step = told_in_step deletes.told;
          tied = swept_tied graph later marks are swept old.state new.state sound.tied left aside.inputs sound.formula clear;
          variables = λ key b at. let small = sound.variables key b (was_there graph later marks are swept old.state new.state sound.tied left
              key b at) in
              omega (arith, small, ap length swept.order);
          inputs = omega (arith, sound.inputs, top);
          formula = λ id clause is low literal among. let small = sound.formula id clause (left.among id clause is) low literal among in
              omega (arith, small, ap length swept.order);
          retired = swept_retired graph later marks are swept old.state new.state sound.tied left aside.inputs aside.retired sound.retired;
        };
        order = swept.order;
        inputs = refl;
        max_nodes = refl;
        limit = told_limit deletes.told;
        more = deletion_steps old.state deletes.lines;
        told = deletes.told;
        variables = up_to_deletions (levels graph + aside.max_nodes) old.state deletes.lines;
        conserves = deletions_conserve (levels graph) old.state deletes.lines;
        no_less = omega (arith, top);
        numbers = omega (arith, top);
        since = ComesSince-fewer old.state new.state left.among;
      }

  pub sweep_torn : KeepsClauses new.state.live old.state.live → (ids : List ℕ) → DeletesTorn old new ids
      → FewerInUse → live_nodes graph ≤ aside.max_nodes → BreaksOff (table_of aside graph old) (table_of aside graph new)
  sweep_torn among ids torn fewer few =
      let top = top_is false ids torn.deletes in
      let used = in_use_nodes graph old.state sound.tied in
      let less = fewer (levels graph) new.state old.state among in
      let cut = torn_cut old new ids torn in
      let less_before = fewer (levels graph) cut.before old.state cut.among in
      record {
        more = deletion_steps old.state torn.deletes.lines;
        told = torn.deletes.told;
        variables = up_to_deletions (levels graph + aside.max_nodes) old.state torn.deletes.lines;
        cut = record {
          earlier = cut.earlier;
          last = cut.last;
          parts = cut.parts;
          before = cut.before;
          leads = cut.leads;
          no_less = omega (arith, cut.top, top);
          from = omega (arith, cut.top);
          since = ComesSince-fewer old.state cut.before cut.among;
          within_before = record { numbers = omega (arith, cut.top); nodes = omega (arith, less_before, used) };
          within_after = record { numbers = omega (arith, top); nodes = omega (arith, less, used) };
        };
        few = few;
        out_of_step = told_in_step torn.deletes.told;
        reduced = sound.tied.reduced;
        order = refl;
        max_nodes = refl;
        limit = told_limit torn.deletes.told;
        no_less = omega (arith, top);
        numbers = omega (arith, top);
        since = ComesSince-fewer old.state new.state among;
      }
