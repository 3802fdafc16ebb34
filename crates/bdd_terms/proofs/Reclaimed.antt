-- What a reclamation leaves of terms whose nodes are among its roots.
use Rattle.std.proofs.Common.{◌≡◌, ◌⊎◌, ◌∙◌, ◌+◌, ◌++◌, ◌||◌, ℕ, zero, suc, ℤ, pos, nat_abs, true, false, List, [], ◌∷◌, length, map}
use Rattle.std.proofs.Common.{Option, None, Some, Contains, is_some, int_eq, refl, sym, ap, subst, arith, inl, inr}
use Rattle.std.specs.List.{list_any}
use Rattle.std.proofs.lemmas.Bool.{or_cases}
use Rattle.std.proofs.lemmas.Bool.Decides.{Decides-int_eq}
use Rattle.std.proofs.lemmas.List.Elements.{Contains-append_cases}
use Rattle.cnf_base.specs.Formula.{Formula}
use Rattle.lrat_rules.specs.State.{clause_at}
use Rattle.hint_chain.specs.declared.atom.Atom.{Atom}
use Rattle.hint_chain.specs.Atoms.{clause_from_atoms}
use Rattle.node_table.specs.declared.node.Node.{Node}
use Rattle.node_table.specs.declared.node.Node.TheVariants.{False, True, Inner}
use Rattle.node_table.specs.declared.node.Branch.{Branch}
use Rattle.node_table.specs.declared.node.Justification.{Justification}
use Rattle.node_table.specs.declared.node.Justification.TheVariants.{Trivial, Clause}
use Rattle.node_table.specs.Defined.{atom_in, atom_of}
use Rattle.node_table.specs.Diagram.{Graph, IsReduced, KeepsNodes, branch_at, is_node}
use Rattle.node_table.specs.Justification.{IsJustified}
use Rattle.node_table.specs.Laws.{Growth, Reachability}
use Rattle.node_table.specs.Made.{inner}
use Rattle.node_table.specs.Table.{TableState, IsSound}
use Rattle.operations.specs.Entries.{Entry}
use Rattle.reclaim.specs.Reclaimed.{IsOverReached, MayReclaim, Reclaims}
use Rattle.bdd_terms.specs.declared.held.HeldTerm.{HeldTerm}
use Rattle.bdd_terms.specs.Finds.{IsProved}
use Rattle.bdd_terms.specs.Units.{HasUnits, IsUnitOf}
use Rattle.bdd_terms.specs.OverFormula.{IsOver}
use Rattle.bdd_terms.specs.Tidy.{LeavesReached}
use Rattle.bdd_terms.specs.Runner.{IsRefusal, refusal_of}
use Rattle.bdd_terms.proofs.OwnUnits.{later, same_clause}
use Rattle.bdd_terms.proofs.Refusals.{which_refusal}

-- what is in a list that is mapped, and in one that is reversed
module _ {A B : Type 0} (f : A → B) where
  pub in_map : (xs : List A) (x : A) → Contains xs x → Contains (map f xs) (f x)
  in_map [] x there = absurd (omega (arith, there.1))
  in_map (y ∷ xs) x (zero, small, at) = (zero, omega arith, ap f at)
  in_map (y ∷ xs) x (suc k, small, at) = later (f y) (map f xs) (f x) (in_map xs x (k, omega (arith, small), at))

  pub of_map : (xs : List A) (y : B) → Contains (map f xs) y → (x : A) × Contains xs x × (f x ≡ y)
  of_map [] y there = absurd (omega (arith, there.1))
  of_map (x ∷ xs) y (zero, small, at) = (x, (zero, omega arith, refl), at)
  of_map (x ∷ xs) y (suc k, small, at) = let was = of_map xs y (k, omega (arith, small), at) in (was.0, later x xs was.0 was.1, was.2)

-- The nodes were given back.
module _ {S : Type 0} (old new : TableState S) (roots : List Node) (before after : List Entry)
    (reclaims : Reclaims old new roots before after) where
  pub units_reclaimed : (units : List HeldTerm) → HasUnits old before units → HasUnits new after units
  units_reclaimed units has = record {
    own = λ held there id is accounted. elim accounted [
      | inl gone ↦ let in_none : Contains [] id = subst (λ (ids : List ℕ). Contains ids id) reclaims.retired gone in
          omega (arith, in_none.1)
      | inr by ↦ has.own held there id is (inr (by.0, reclaims.fewer by.0 by.1, by.2))
    ];
    apart = has.apart;
    added = λ id is.
        let own = has.added id is in
        record {
          stands = ap is_some (reclaims.kept id own (has.own is.held is.stacked id is.unit)) ∙ own.stands;
          above = omega (arith, own.above, reclaims.inputs);
          defines_none = λ key branch at. own.defines_none key branch (reclaims.only key branch at).0;
        };
    known = λ id added.
        let was = reclaims.added id added in
        elim (has.known id was.0) [ inl accounted ↦ inl (inr (was.1 accounted)) | inr is ↦ inr is ];
  }

-- of what the roots reach
module _ {S : Type 0} (growth : Growth) (old new : TableState S) (roots : List Node) (before after : List Entry) (sound : IsSound new)
    (reclaims : Reclaims old new roots before after) where
  -- what is left was there
  pub were : KeepsNodes new.graph old.graph
  were = record { order = sym reclaims.order; nodes = λ key branch at. (reclaims.only key branch at).0 }

  pub root_stands : (node : Node) → Contains roots node → is_node old.graph node ≡ true → is_node new.graph node ≡ true
  root_stands False root is = refl
  root_stands True root is = refl
  root_stands (Inner key) root is = there (branch_at old.graph key.index) refl is
    where
      there : (o : Option Branch) → branch_at old.graph key.index ≡ o → is_some o ≡ true → is_some (branch_at new.graph key.index) ≡ true
      there None at some = absurd (let e : false ≡ true = some in cc)
      there (Some branch) at some = ap is_some (reclaims.nodes key.index branch
          (record { root = Inner key; is_root = root; reaches = record { path = []; ends = refl } }) at)

  pub unit_stays : (node : Node) → is_node new.graph node ≡ true → (unit : Justification)
      → ((id : ℕ) → unit ≡ Clause id → clause_at new.book.state.live id ≡ clause_at old.book.state.live id)
      → IsJustified old.book.state.live (atom_of old.graph node ∷ []) unit
      → IsJustified new.book.state.live (atom_of new.graph node ∷ []) unit
  unit_stays node is unit stay proved =
      subst (λ (atom : Atom). IsJustified new.book.state.live (atom ∷ []) unit) (growth.atom new.graph old.graph were node is)
      (go unit stay proved)
    where
      go : (just : Justification) → ((id : ℕ) → just ≡ Clause id → clause_at new.book.state.live id ≡ clause_at old.book.state.live id)
          → IsJustified old.book.state.live (atom_of old.graph node ∷ []) just
          → IsJustified new.book.state.live (atom_of old.graph node ∷ []) just
      go Trivial same own = own
      go (Clause id) same own = (own.0, same id refl ∙ own.1)

  -- a term whose node is a root, and whose unit stays
  pub proved_stays : (held : HeldTerm) → (held.node ≡ False) ⊎ Contains roots held.node
      → ((id : ℕ) → held.unit ≡ Clause id → clause_at new.book.state.live id ≡ clause_at old.book.state.live id)
      → IsProved old.graph old.book.state.live held → IsProved new.graph new.book.state.live held
  proved_stays held root stay is =
      let stands : is_node new.graph held.node ≡ true = elim root [
        | inl none ↦ subst (λ (node : Node). is_node new.graph node ≡ true) (sym none) refl
        | inr there ↦ root_stands held.node there is.stands
      ] in
      record { stands = stands; unit = unit_stays held.node stands held.unit stay is.unit }

  pub leaves_reached : Reachability → ((root : Node) → Contains roots root → is_node old.graph root ≡ true)
      → LeavesReached old.graph new.graph roots
  leaves_reached reach stood = record {
    order = reclaims.order;
    reduced = sound.tied.reduced;
    nodes = λ key branch there. (reclaims.only key branch there).0;
    reached = λ key branch there.
        let by = (reclaims.only key branch there).1 in
        record {
          root = by.root;
          is_root = by.is_root;
          reaches = reach.kept_back new.graph old.graph sound.tied.reduced were by.root
              (inner key) (stand by.root by.is_root) by.reaches;
        };
    stand = stand;
    value = λ a node is. sym (growth.value new.graph old.graph sound.tied.reduced were a node is);
  }
    where
      stand : (root : Node) → Contains roots root → is_node new.graph root ≡ true
      stand root there = root_stands root there (stood root there)

-- the table is over the formula yet
pub over_reclaimed : {S : Type 0} (formula : Formula) (old new : TableState S) (roots : List Node) (before after : List Entry)
    → IsSound new → Reclaims old new roots before after → IsOver formula old before → IsOver formula new after
over_reclaimed formula old new roots before after sound reclaims over = record {
  sound = sound;
  fits = reclaims.fits;
  inputs = λ i small. reclaims.formula (i + 1) (omega (arith, small, over.counted)) ∙ over.inputs i small;
  counted = reclaims.inputs ∙ over.counted;
  vars = ap length reclaims.order ∙ over.vars;
}

no_literal : (clause : List ℤ) → Some [] ≡ Some clause → (literal : ℤ) → list_any (int_eq literal) clause ≡ true → ⊥
no_literal clause is literal any =
    let none : clause ≡ [] = cc in
    let e : false ≡ true = ap (list_any (int_eq literal)) (sym none) ∙ any in
    cc

-- the one literal of a node's unit is that of its extension variable
unit_variable : (graph : Graph) (node : Node) (clause : List ℤ) → clause_from_atoms (atom_of graph node ∷ []) ≡ Some clause → (literal : ℤ)
    → list_any (int_eq literal) clause ≡ true
    → (key : ℕ) × (branch : Branch) × (node ≡ inner key) × (branch_at graph key ≡ Some branch) × (nat_abs literal ≡ branch.variable)
unit_variable graph False clause is literal any = absurd (no_literal clause is literal any)
unit_variable graph True clause is literal any = absurd (let e : None ≡ Some clause = is in cc)
unit_variable graph (Inner key) clause is literal any = of_branch (branch_at graph key.index) refl is
  where
    of_branch : (o : Option Branch) → branch_at graph key.index ≡ o → clause_from_atoms (atom_in o ∷ []) ≡ Some clause
        → (own : ℕ) × (branch : Branch) × (Inner key ≡ inner own) × (branch_at graph own ≡ Some branch)
        × (nat_abs literal ≡ branch.variable)
    of_branch None at one = absurd (no_literal clause one literal any)
    of_branch (Some branch) at one =
        let e : Some (pos branch.variable ∷ []) ≡ Some clause = one in
        let alone : clause ≡ pos branch.variable ∷ [] = cc in
        let found : (int_eq literal (pos branch.variable) || false) ≡ true = ap (list_any (int_eq literal)) (sym alone) ∙ any in
        elim (or_cases (int_eq literal (pos branch.variable)) false found) [
          | inl same ↦ (key.index, branch, refl, at, ap nat_abs ((Decides-int_eq literal (pos branch.variable)).0 same))
          | inr none ↦ absurd (let f : false ≡ true = none in cc)
        ]

-- No clause stands in the way, where the nodes of those that own one are roots.
module _ {S : Type 0} (table : TableState S) (kept : List Entry) (owners : List HeldTerm) (refusals : List ℕ) (roots : List Node)
    (reduced : IsReduced table.graph) (has : HasUnits table kept (owners ++ map refusal_of refusals))
    (refused : (id : ℕ) → Contains refusals id → IsRefusal table.graph table.book.state.live id)
    (proved : (held : HeldTerm) → Contains owners held → IsProved table.graph table.book.state.live held)
    (root : (held : HeldTerm) → Contains owners held → (held.node ≡ False) ⊎ Contains roots held.node) where
  -- the unit of a term is over its node
  over_unit : (id : ℕ) (clause : List ℤ) → clause_at table.book.state.live id ≡ Some clause → IsUnitOf owners id
      → IsOverReached table.graph roots clause
  over_unit id clause is by literal any key branch stands same =
      let held = by.held in
      let own_unit : IsJustified table.book.state.live (atom_of table.graph held.node ∷ []) (Clause id) =
      subst (λ (unit : Justification). IsJustified table.book.state.live (atom_of table.graph held.node ∷ []) unit) by.unit
      (proved held by.stacked).unit in
      let own = unit_variable table.graph held.node clause (sym own_unit.1 ∙ is) literal any in
      let one : own.0 ≡ key = reduced.apart own.0 key own.1 branch own.3 stands (sym own.4 ∙ same) in
      elim (root held by.stacked) [
        | inl none ↦ absurd (let e : False ≡ inner own.0 = sym none ∙ own.2 in cc)
        | inr there ↦ record {
          root = held.node;
          is_root = there;
          reaches = record { path = []; ends = own.2 ∙ ap inner one };
        }
      ]

  -- the clause of a refused cube is over no node
  over_none : (id : ℕ) (clause : List ℤ) → clause_at table.book.state.live id ≡ Some clause → Contains refusals id
      → IsOverReached table.graph roots clause
  over_none id clause is there literal any key branch stands same =
      let refusal = refused id there in
      let here : Some refusal.clause ≡ Some clause = sym refusal.stands ∙ is in
      let clause_is : refusal.clause ≡ clause = cc in
      let small = refusal.over literal (ap (list_any (int_eq literal)) clause_is ∙ any) in
      let large = reduced.above key branch stands in
      absurd (omega (arith, small, large, same))

  pub may_reclaim_owned : MayReclaim table kept roots
  may_reclaim_owned id clause is added = elim (has.known id added) [
    | inl accounted ↦ inl accounted
    | inr by ↦ inr (elim (Contains-append_cases owners (map refusal_of refusals) by.held by.stacked) [
      | inl owner ↦ over_unit id clause is (record { held = by.held; stacked = owner; unit = by.unit })
      | inr refusal ↦
          let which = which_refusal refusals by.held refusal in
          let id_is : which.0 ≡ id = same_clause which.0 id (sym (ap (λ (h : HeldTerm). h.unit) which.2) ∙ by.unit) in
          over_none id clause is (subst (Contains refusals) id_is which.1)
    ])
  ]
