-- Room on the list of retired clauses, as clauses are added and deleted. The numbers of clauses of nodes, as nodes join.
use Rattle.std.proofs.Common.{◌≡◌, ◌<◌, ◌≤◌, ◌+◌, ◌-◌, ◌++◌, ◌||◌, ◌∙◌, ℕ, Bool, ℤ, length, List, [], ◌∷◌, Option, None, Some, Contains}
use Rattle.std.proofs.Common.{nat_cmp, is_some, true, false, refl, sym, ap, subst, arith, inl, inr, length-append, eq-eqb}
use Rattle.std.specs.Prelude.{nat_eq, not}
use Rattle.std.specs.Cmp.{nat_eq_equiv}
use Rattle.std.specs.FinMap as map
use Rattle.std.specs.List.{filter}
use Rattle.std.specs.Set.{is_member}
use Rattle.std.proofs.lemmas.Bool.{and_from, or_left, or_right}
use Rattle.std.proofs.lemmas.List.Filters.{length-filter_both}
use Rattle.std.proofs.lemmas.Map.Made.{is_member-filter, length-le_from_is_member}
use Rattle.std.proofs.lemmas.Map.Views.{Contains-from_any, exact_unsigned_eq}
use Rattle.lrat_rules.specs.State.{State, Live, clause_at}
use Rattle.clause_ledger.specs.Book.{with_next}
use Rattle.node_table.specs.declared.node.Branch.{Branch}
use Rattle.node_table.specs.Diagram.{Graph, IsNew, branch_at}
use Rattle.node_table.specs.Tied.{IsAdded, AreRetired}
use Rattle.node_table.specs.Places.{HavePlaces, AreNumberedAbove}
use Rattle.node_table.proofs.Grown.{joined_cases}
use Rattle.node_table.proofs.Retired.{AreRetired-push, not_member}
use Rattle.node_table.proofs.Stands.{next_cases}

-- where nothing was added
pub HavePlaces-none : (graph : Graph) (live : Live) (inputs capacity : ℕ) → ((id : ℕ) → IsAdded graph live inputs id → ⊥)
    → HavePlaces graph live inputs 0 capacity
HavePlaces-none graph live inputs capacity none = record {
  added = [];
  few = omega arith;
  room = omega arith;
  all = λ id own. absurd (none id own);
}

-- where nothing more was added
pub HavePlaces-same : (graph later : Graph) (old new : Live) (inputs places capacity : ℕ)
    → ((id : ℕ) → IsAdded later new inputs id → IsAdded graph old inputs id)
    → HavePlaces graph old inputs places capacity → HavePlaces later new inputs places capacity
HavePlaces-same graph later old new inputs places capacity before have = record {
  added = have.added;
  few = have.few;
  room = have.room;
  all = λ id own. have.all id (before id own);
}

member_push : (ids : List ℕ) (id other : ℕ) → is_member nat_eq ids other ≡ true → is_member nat_eq (ids ++ id ∷ []) other ≡ true
member_push [] id other is = absurd (let e : false ≡ true = is in cc)
member_push (head ∷ ids) id other is = elim (nat_eq other head) as (λ b. nat_eq other head ≡ b
    → is_member nat_eq (head ∷ ids ++ id ∷ []) other ≡ true) [
      | true ↦ λ here. or_left (nat_eq other head) (is_member nat_eq (ids ++ id ∷ []) other) here
      | false ↦ λ there. or_right (nat_eq other head) (is_member nat_eq (ids ++ id ∷ []) other)
          (member_push ids id other (sym (ap (λ b. b || is_member nat_eq ids other) there) ∙ is))
    ] refl

member_last : (ids : List ℕ) (id : ℕ) → is_member nat_eq (ids ++ id ∷ []) id ≡ true
member_last [] id = or_left (nat_eq id id) false (eq-eqb id id refl)
member_last (head ∷ ids) id = or_right (nat_eq id head) (is_member nat_eq (ids ++ id ∷ []) id) (member_last ids id)

-- one clause more
pub HavePlaces-next : (graph : Graph) (state : State) (clause : List ℤ) (inputs places capacity more : ℕ) → capacity ≤ more → places < more
    → HavePlaces graph state.live inputs places capacity
    → HavePlaces graph (with_next state clause).live inputs (places + 1) more
HavePlaces-next graph state clause inputs places capacity more no_less room have = record {
  added = have.added ++ (state.top + 1) ∷ [];
  few = omega (arith, have.few, length-append have.added ((state.top + 1) ∷ []));
  room = omega (arith, room);
  all = λ id own.
      let found = some_clause (clause_at (with_next state clause).live id) own.stands in
      elim (next_cases state clause id found.0 found.1) [
        | inl here ↦ subst (λ (n : ℕ). is_member nat_eq (have.added ++ (state.top + 1) ∷ []) n
            ≡ true) (sym here.0) (member_last have.added (state.top + 1))
        | inr there ↦ member_push have.added (state.top + 1) id (have.all id
            (record { stands = ap is_some there; above = own.above; defines_none = own.defines_none }))
      ];
}
  where
    some_clause : (o : Option (List ℤ)) → is_some o ≡ true → (clause : List ℤ) × (o ≡ Some clause)
    some_clause None is = absurd (let e : false ≡ true = is in cc)
    some_clause (Some clause) is = (clause, refl)

-- Retired clauses are no more than there are places, since they are all among the added ones.
pub retired_few : (graph : Graph) (live : Live) (inputs places capacity : ℕ) (retired : List ℕ)
    → HavePlaces graph live inputs places capacity → AreRetired graph live inputs retired → length retired ≤ places
retired_few graph live inputs places capacity retired have are =
    let few = length-le_from_is_member nat_eq_equiv retired have.added are.once
    (λ id is. have.all id (are.each id (Contains-from_any exact_unsigned_eq id retired is))) in
    omega (arith, few, have.few)

-- so there is a place for one that isn't retired
pub place_left : (graph : Graph) (live : Live) (inputs places capacity : ℕ) (retired : List ℕ) (id : ℕ)
    → HavePlaces graph live inputs places capacity → AreRetired graph live inputs retired
    → IsAdded graph live inputs id → (Contains retired id → ⊥) → length retired < capacity
place_left graph live inputs places capacity retired id have are own unretired =
    let few = retired_few graph live inputs places capacity (retired ++ id
    ∷ []) have (AreRetired-push graph live inputs retired id are own unretired) in
    omega (arith, few, have.room, length-append retired (id ∷ []))

-- Once the retired ones are deleted, their places are free again.
pub HavePlaces-settled : (graph : Graph) (old new : Live) (inputs places capacity : ℕ) (retired : List ℕ)
    → HavePlaces graph old inputs places capacity → AreRetired graph old inputs retired
    → ((id : ℕ) → Contains retired id → clause_at new id ≡ None)
    → ((id : ℕ) → (Contains retired id → ⊥) → clause_at new id ≡ clause_at old id)
    → HavePlaces graph new inputs (places - length retired) capacity
HavePlaces-settled graph old new inputs places capacity retired have are gone stay =
    let here : ℕ → Bool = λ id. is_member nat_eq retired id in
    let left = filter (λ (id : ℕ). not (here id)) have.added in
    let same : (x y : ℕ) → nat_eq x y ≡ true → here x ≡ here y = λ x y is. ap here (exact_unsigned_eq x y is) in
    let among : (id : ℕ) → is_member nat_eq retired id ≡ true → is_member nat_eq (filter here have.added) id ≡ true = λ id is.
    is_member-filter nat_eq_equiv here id (same id) have.added
    ∙ and_from (is_member nat_eq have.added id) (here id) (have.all id
    (are.each id (Contains-from_any exact_unsigned_eq id retired is))) is in
    let few = length-le_from_is_member nat_eq_equiv retired (filter here have.added) are.once among in
    let both = length-filter_both here (λ (id : ℕ). not (here id)) (λ id. refl) have.added in
    record {
      added = left;
      few = omega (arith, few, both, have.few);
      room = omega (arith, have.room);
      all = λ id own.
          let out : Contains retired id → ⊥ = λ among. (let e : true ≡ false = sym own.stands ∙ ap is_some (gone id among) in cc) in
          is_member-filter nat_eq_equiv (λ id. not (here id)) id (λ x is. ap not (same id x is)) have.added
          ∙ and_from (is_member nat_eq have.added id) (not (here id))
          (have.all id (record {
            stands = ap is_some (sym (stay id out))
                ∙ own.stands;
            above = own.above;
            defines_none = own.defines_none;
          }))
          (ap not (not_member retired id out));
    }

-- without nodes
pub AreNumberedAbove-none : (inputs : ℕ) (graph : Graph) → graph.nodes ≡ map.empty → AreNumberedAbove inputs graph
AreNumberedAbove-none inputs graph empty key branch at =
    absurd (let none : None ≡ Some branch = sym (ap (λ (m : map.FinMap nat_cmp Branch). map.get m key) empty ∙ map.get-empty nat_cmp key)
    ∙ at in cc)

-- one node more
pub AreNumberedAbove-new : (inputs : ℕ) (old new : Graph) (key : ℕ) (branch : Branch) → IsNew old new key branch → inputs < branch.first
    → AreNumberedAbove inputs old → AreNumberedAbove inputs new
AreNumberedAbove-new inputs old new key branch is above each other b at =
    elim (joined_cases old key branch other b (sym (ap (λ (graph : Graph). branch_at graph other) is.joined) ∙ at)) [
      | inl here ↦ subst (λ (c : Branch). inputs < c.first) (sym here.1) above
      | inr there ↦ each other b there
    ]
